-- Which cells can go missing: the proofs.
pub mod Fits
pub mod Inner
pub mod Places
pub mod Whys
pub mod Tables
pub mod Missing
