pub mod LessonLaws
