pub mod TextPut
pub mod TablesPut
