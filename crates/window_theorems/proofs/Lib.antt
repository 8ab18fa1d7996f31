-- What holds of every report of the call `window`: the proofs.
pub mod Window
