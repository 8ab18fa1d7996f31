pub mod Cells
pub mod Listed
pub mod Facts
pub mod inner
