-- Laws of the rows of a table by positions: facts for the capacities above (Nexts, Written, TableSlices, TableFacts, Bodies), and what
-- the loop keeps.
pub mod Nexts
pub mod Written
pub mod OverAt
pub mod RowLists
pub mod TableSlices
pub mod RowsLoop
pub mod TableFacts
pub mod Bodies
pub mod Thirds
