-- Which cells can go missing, as theorems about sheets, and the cases that a class remembers.
pub mod Missing
pub mod Cases
