-- What the functions within the calls take and promise.
pub mod Found
pub mod Speaking
