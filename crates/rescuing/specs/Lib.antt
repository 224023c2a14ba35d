pub mod Rescue
pub mod Kept
