pub mod Listing
pub mod Missed
pub mod Columns
pub mod Told
