-- The laws of the count of the missing entries and of the report's lines.
pub mod Counts
pub mod Missing
pub mod Lines
pub mod Report
