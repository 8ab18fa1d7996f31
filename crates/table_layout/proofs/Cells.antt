-- The lines of a table's cells among the entries of its grid.
use mathlib.Core.Path.{◌≡◌, refl, sym, subst}
use mathlib.Core.Bool.{Bool, true, false, cond}
use mathlib.Core.List.{List}
use Prim.Native.Nat.{ℕ, ◌+◌, ◌≤◌, ◌<◌}
use native.Mathlib.Omega.{arith}
use lib.ListN.{length}
use Rattle.records.specs.declared.NodeRecord.{NodeRecord}
use Rattle.resolved_rows.specs.Listed.{table_rows}
use Rattle.grid.specs.Grid.{Entry, shown_line, grid_of, entries_of}
use Rattle.grid.specs.Facts.{cell_owners}
use Rattle.grid.specs.Judging.{Lined}
use Rattle.grid.proofs.CellLines.{Rises, lines_after_rise}
use Rattle.grid.proofs.GridCells.{IsCell, held_owners}

-- the line that an entry shows is one of the lines, or 0
pub shown_within : (N : ℕ) (ks : List NodeRecord) (at : ℕ) (e : Entry) → length ks ≤ N → IsCell ks at e → shown_line e ≤ N
shown_within N ks at e h c = go e.filler refl
  where
    go : (b : Bool) → e.filler ≡ b → cond b 0 e.owner ≤ N
    go true t = omega arith
    go false t = omega (arith, (c t).0, (c t).1.within)

-- the lines of the cells rise
pub cells_rise : {ks : List NodeRecord} (z : Lined ks) {at : ℕ} (h : at < length ks) → Rises (at + 1) (cell_owners (entries_of (grid_of (table_rows ks at))))
cells_rise {ks} z {at} h = subst (Rises (at + 1)) (sym (held_owners z at h)) (lines_after_rise ks at)
