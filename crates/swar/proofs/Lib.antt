pub mod Lanes
pub mod Standing
pub mod Fronts
pub mod Answers
