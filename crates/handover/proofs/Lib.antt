pub mod HandoverLaws
pub mod Emptying
