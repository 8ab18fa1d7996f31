-- What holds of every opened sheet, for the capacities above.
pub mod Answers
pub mod Ready
pub mod Opens
pub mod Measurable
pub mod Passing
