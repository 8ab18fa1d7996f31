-- What lies under the pointer in a row, and what is promised of the answers.
pub mod Point
pub mod Exact
pub mod Cases
pub mod inner
