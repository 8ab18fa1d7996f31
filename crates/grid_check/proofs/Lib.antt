pub mod Reasons
pub mod CheckLoop
