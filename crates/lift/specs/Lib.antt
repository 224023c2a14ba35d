pub mod Lift
pub mod Values
pub mod Played
