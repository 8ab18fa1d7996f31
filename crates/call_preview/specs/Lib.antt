-- Pointing into the preview: what the calls refuse, what they answer, and what is promised of the answers.
pub mod Preview
pub mod Exact
pub mod Cases
pub mod inner
