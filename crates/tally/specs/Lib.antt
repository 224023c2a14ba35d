pub mod Tally
pub mod Near
