-- The laws by which the functions meet their contracts, and the promises of specs/Exact.antt.
pub mod Calls
pub mod Exact
pub mod Never
