-- What crosses, by the answer inside.
pub mod Answers
