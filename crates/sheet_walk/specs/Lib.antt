-- A sheet opened, measured and walked.
pub mod Sheets
pub mod inner
