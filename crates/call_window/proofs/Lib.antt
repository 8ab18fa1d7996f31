pub mod Made
pub mod Read
pub mod Calls
pub mod Never
