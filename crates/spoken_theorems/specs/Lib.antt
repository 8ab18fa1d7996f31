-- What holds of every reply of the call `spoken`, and its cases.
pub mod Spoken
pub mod Cases
