-- Two tables of one sheet side by side.
pub mod Tables
pub mod Side
pub mod Cases
pub mod inner
