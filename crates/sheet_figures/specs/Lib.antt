-- The figures of a sheet's tables and lines by its bytes, and what each call refuses.
pub mod Figures
pub mod Calls
pub mod inner
