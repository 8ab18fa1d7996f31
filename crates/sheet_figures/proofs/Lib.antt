-- Laws of opened sheets and of their checks, for the calls.
pub mod Openings
pub mod Tables
pub mod Early
pub mod Never
