pub mod Only
pub mod Picking
