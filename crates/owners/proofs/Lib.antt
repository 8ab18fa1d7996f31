-- That the entries of a grid follow from its cells and what hangs, and the loop that goes through them.
pub mod Following
pub mod Owners
pub mod Queues
pub mod Tables
pub mod OwnerLoop
