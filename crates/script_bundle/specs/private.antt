pub mod FilingMade
