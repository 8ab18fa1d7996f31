-- A table at each of a list of widths.
pub mod inner
