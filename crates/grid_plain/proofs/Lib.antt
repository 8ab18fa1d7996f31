pub mod Plain
pub mod Resolving
pub mod RowLoop
pub mod TableLoop
