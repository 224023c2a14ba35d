pub mod Downward
pub mod Screen
