pub mod Store
pub mod Lists
