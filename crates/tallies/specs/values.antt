pub mod TallyCases
