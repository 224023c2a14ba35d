pub mod Exact
pub mod PitchLaws
