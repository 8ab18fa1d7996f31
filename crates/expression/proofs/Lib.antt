pub mod Bytes
pub mod Complete
pub mod Sound
pub mod Steps
pub mod Theorems
pub mod Cases
