-- Laws of the text inside a line, and of the places where the lines of a sheet start.
pub mod Inside
pub mod Lines
pub mod Parts
