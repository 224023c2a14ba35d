pub mod Table
pub mod Job
pub mod Next
pub mod Ended
