pub mod Answers
pub mod Call
pub mod Run
pub mod Report
pub mod Claims
pub mod Cases
pub mod Calls
