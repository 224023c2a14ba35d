pub mod Keyed
pub mod Lower
pub mod Values
