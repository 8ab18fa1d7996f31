-- `table_layout::lay` meets its contract. The rows' boxes tile the columns, so the columns can be laid out, and in the widths that come of it every entry has
-- its place. Each fact follows from the answers before it by a law of Steps.
use Rattle.table_layout.proofs.Steps.{entered, places, laid_table}
use Rattle.table_layout.proofs.lay.Goals as goal

pub lay_columns-laid-requires : goal.lay_columns-laid-requires
lay_columns-laid-requires c =
    record {
      entered = entered c.requires;
      column_len_bound = c.requires.columns;
    }

pub place-requires : goal.place-requires
place-requires c = places c.requires c.lay_columns-laid.ensures

pub returns : goal.returns
returns c = laid_table c.requires c.lay_columns-laid.ensures c.place.ensures
