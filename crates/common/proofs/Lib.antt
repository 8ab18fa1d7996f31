-- Laws of lists that the capacities above cite: what holds of every element, elements that tile columns, sums, lists written over the front
-- of a buffer, buffers written once, two tests, and what `?` hands up.
pub mod All
pub mod Sum
pub mod Over
pub mod Write
pub mod Tiles
pub mod Tests
pub mod Handed
