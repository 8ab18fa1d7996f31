pub mod Words
pub mod Kinds
pub mod Names
