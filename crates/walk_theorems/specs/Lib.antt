-- What holds of every walk, as theorems about sheets.
pub mod Descent
