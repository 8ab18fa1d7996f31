-- What the arguments of a call are refused for, before its sheet is looked at.
pub mod Arguments
pub mod inner
