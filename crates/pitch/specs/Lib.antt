pub mod Dyadic
pub mod Pitch
pub mod Claims
