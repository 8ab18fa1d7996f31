-- Laws of two grids joined, and of the code that joins their records.
pub mod Tiling
pub mod Rows
pub mod Kept
pub mod Counting
pub mod Reading
pub mod Putting
pub mod Loop
pub mod Rereading
pub mod Answer
