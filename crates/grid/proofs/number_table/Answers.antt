-- `number_table` meets its contract. The words hold 0 and the ends of the rows, by what `new`, `insert` and `mark_rows` ensure, and
-- have their counts, since `mark_rows` is given no edge but 0; so `number_rows` numbers by that set, and 0 is in it.
use Rattle.grid.proofs.NumberLoop.{numbered_words, marked_set}
use Rattle.grid.proofs.number_table.Goals as goal

pub returns : goal.returns
returns c =
    numbered_words
    (marked_set _ _ _ _ c.new-start.ensures c.insert.ensures c.mark_rows-numbers.ensures)
    c.number_rows.ensures
