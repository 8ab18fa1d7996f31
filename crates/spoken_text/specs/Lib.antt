-- The text that is spoken for a line of a sheet.
pub mod Text
pub mod inner
