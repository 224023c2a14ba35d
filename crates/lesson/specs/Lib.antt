pub mod Lesson
