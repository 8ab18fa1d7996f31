-- How the code goes about it: bytes as the digits of a number, and what characters and spaces add.
pub mod Digits
pub mod Plain
