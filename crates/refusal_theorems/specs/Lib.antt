-- What holds of every refusal.
pub mod NoSeven
