pub mod Cut
pub mod Level
pub mod Cases
pub mod inner
