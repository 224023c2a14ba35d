pub mod LessonLaws
pub mod PlaceLaws
