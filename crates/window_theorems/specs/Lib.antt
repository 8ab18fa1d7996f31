-- What holds of every report of the call `window`, and cases of it.
pub mod Window
pub mod Cases
