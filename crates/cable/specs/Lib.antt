pub mod State
pub mod Hearing
pub mod Receiver
pub mod Put
pub mod Form
