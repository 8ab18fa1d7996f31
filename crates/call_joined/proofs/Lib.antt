-- Laws of the calls that join two tables.
pub mod Opening
pub mod Gridded
pub mod LaidOut
pub mod Replies
pub mod Never
