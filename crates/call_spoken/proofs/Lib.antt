-- Laws of the call: where the reply stands, and that 7 is not answered.
pub mod Owners
pub mod Places
pub mod Never
