pub mod Laying
pub mod Arranging
pub mod Cases
pub mod inner
