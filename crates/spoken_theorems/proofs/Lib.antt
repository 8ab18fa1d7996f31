-- What holds of every reply of the call `spoken`: the proofs.
pub mod Inside
pub mod Rows
pub mod Spoken
