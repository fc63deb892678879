pub mod ClaimTypes
