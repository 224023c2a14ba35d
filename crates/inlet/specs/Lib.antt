pub mod Inlet
pub mod Taking
