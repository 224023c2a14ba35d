pub mod Lines
pub mod Lamps
pub mod Messages
pub mod Rescue
