-- `placed_grid` meets its contract: the fronts of the slices are the rows and their entries, and numbering them tells the columns; that an entry ends at
-- no edge is never told.
use Rattle.std.specs.Prelude.{Option, Some, None, unwrap_or}
use mathlib.Core.Path.{◌≡◌, refl, sym}
use mathlib.Core.List.{List, map}
use Prim.Native.Nat.{ℕ}
use lib.ListN.{take}
use Rattle.std.proofs.lemmas.List.{take-map}
use Rattle.records.specs.declared.Entry.{Entry}
use Rattle.records.specs.inner.Figures.{row_end, row_ends_of, entry_cell, entry_span}
use Rattle.grid.specs.inner.Numbering.{RowsNumbered}
use Rattle.grid.specs.inner.Placing.{edge_of_rows}
use Rattle.grid.proofs.Seven.{never_missing}
use Rattle.grid.proofs.NumberLoop.{numbered_front}
use Rattle.grid.proofs.placed_grid.Goals as goal
use Rattle.grid.proofs.placed_grid.Goals.{Start}

ends-front : (c : Start) → row_ends_of (take c.args.placed.rows c.args.rows.now) ≡ take c.args.placed.rows (row_ends_of c.args.rows.now)
ends-front c = sym (take-map row_end c.args.placed.rows c.args.rows.now)

entries-front : (c : Start) (f : Entry → ℕ) → map f (take c.args.placed.entries c.args.entries.now) ≡ take c.args.placed.entries (map f c.args.entries.now)
entries-front c f = sym (take-map f c.args.placed.entries c.args.entries.now)

pub number_table-requires : goal.number_table-requires
number_table-requires c = rw (ends-front (goal.at.number_table-requires c).Start, entries-front (goal.at.number_table-requires c).Start entry_span) c.requires.fit

-- the columns are told, so no default is taken
told : {rs : List (List ℕ)} {line : List ℕ} (r : Option ℕ) {es : List Entry} → RowsNumbered (edge_of_rows rs) rs line r es
    → RowsNumbered (edge_of_rows rs) rs line (Some (unwrap_or r 0)) es
told (Some n) m = m
told None m = absurd (never_missing m refl)

pub returns : goal.returns
returns c =
    let m = rw (ends-front (goal.at.returns c).Start, entries-front (goal.at.returns c).Start entry_span, entries-front (goal.at.returns c).Start entry_cell) at c.number_table.ensures in
    rw c.unwrap_or.ensures (numbered_front (told _ m) _)
