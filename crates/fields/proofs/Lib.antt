pub mod OnField
pub mod Digits
pub mod Written
pub mod Fronts
pub mod Signs
pub mod Words
pub mod Names
pub mod Commonest
