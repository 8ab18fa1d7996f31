pub mod Settings
pub mod Cases
