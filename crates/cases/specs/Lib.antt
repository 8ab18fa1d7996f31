-- The cases that are asked to be proved, and whole sheets from bytes to places.
pub mod Cases
pub mod Sheets
