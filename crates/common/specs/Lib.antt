pub mod Lists
pub mod Limits
pub mod Refusals
pub mod inner
