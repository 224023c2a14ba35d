pub mod Packet
pub mod Output
pub mod Turn
pub mod Down
