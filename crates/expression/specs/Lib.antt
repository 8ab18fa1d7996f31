pub mod Tree
pub mod Grammar
pub mod Machine
pub mod Answers
