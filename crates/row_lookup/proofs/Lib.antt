-- The laws by which the functions meet their contracts.
pub mod RowStarts
pub mod Made
pub mod Read
pub mod Early
