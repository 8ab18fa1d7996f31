pub mod Lines
pub mod Heading
pub mod Blanks
pub mod Numbers
pub mod inner
