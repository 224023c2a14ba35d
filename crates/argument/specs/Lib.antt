pub mod Argument
pub mod Units
