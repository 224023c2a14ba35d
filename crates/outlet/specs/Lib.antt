pub mod Outlet
pub mod Sending
