-- What the functions within the call take and promise.
pub mod Found
