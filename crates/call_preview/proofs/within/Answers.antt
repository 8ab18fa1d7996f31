-- `call_preview::within` meets its contract: the cells of the row that was found stand in the front of the lent buffer, which is long enough where a row is
-- found, and the rest of it is cleared.
use Rattle.row_lookup.proofs.Early.{spot_opened}
use Rattle.call_preview.proofs.Calls.{range_fits, range_capacity, listed_said}
use Rattle.call_preview.proofs.within.Goals as goal

pub list_in-n-requires : goal.list_in-n-requires
list_in-n-requires c =
    record {
      range_fits = range_fits _ (spot_opened c.of_within-asked.ensures.asks c.find-row_range.ensures);
      range_capacity = range_capacity _ (spot_opened c.of_within-asked.ensures.asks c.find-row_range.ensures) c.args.entry.now c.of_within-asked.ensures.verdict;
    }

pub returns : goal.returns
returns c = rw c.counted.ensures (listed_said _ (spot_opened c.of_within-asked.ensures.asks c.find-row_range.ensures) c.of_within-asked.ensures.verdict c.list_in-n.ensures c.list_in-n.auto.entry c.zero_rest.ensures)
