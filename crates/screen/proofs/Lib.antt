pub mod DownLaws
pub mod ScreenLaws
