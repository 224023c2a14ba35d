pub mod Word
pub mod Packet
