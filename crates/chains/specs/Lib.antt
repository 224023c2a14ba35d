pub mod Step
pub mod Collect
pub mod Run
pub mod Turn
