pub mod TallyLaws
pub mod FoundLaws
pub mod BothLaws
