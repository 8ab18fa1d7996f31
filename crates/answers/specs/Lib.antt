-- The answers by their figures, and the cases of the answers in numbers.
pub mod Answers
pub mod Numbers
