pub mod Said
pub mod Marks
pub mod ChainSlots
