pub mod Bools
pub mod Cases
pub mod Tests
pub mod ListLaws
pub mod StoreLaws
pub mod Stores
