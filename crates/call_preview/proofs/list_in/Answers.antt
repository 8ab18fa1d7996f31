-- `call_preview::list_in` meets its contract: the row's entries are there, each has a place in the buffer, and a refusal lists none.
use Rattle.call_preview.proofs.Calls.{listed_none, listed_row}
use Rattle.call_preview.proofs.list_in.Goals as goal

pub returns-in-Err : goal.returns-in-Err
returns-in-Err c = listed_none _ _ _ c.in-Err.is

pub returns-in-Ok : goal.returns-in-Ok
returns-in-Ok c = listed_row c.in-Ok.is (c.requires.range_fits _ c.in-Ok.is) (c.requires.range_capacity _ c.in-Ok.is) c.within.ensures c.within.auto.entry
