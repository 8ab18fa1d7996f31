pub mod Turns
pub mod Sofar
pub mod Lengths
pub mod Cases
