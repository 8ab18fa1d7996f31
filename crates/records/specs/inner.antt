-- What only code and proofs need.
pub mod Figures
pub mod Records
pub mod NodeRecord
