-- Two tables of an accepted sheet, and the records of their grids: the records can be read, and what is found in them tells the owner.
use mathlib.Core.Path.{◌≡◌, refl, sym, ap, ◌∙◌}
use mathlib.Core.List.{List}
use Prim.Native.Nat.{ℕ, ◌≤◌}
use native.Mathlib.Omega.{arith}
use lib.ListN.{length, length-map}
use Rattle.common.specs.Limits.{max_position}
use Rattle.records.specs.declared.NodeRecord.{NodeRecord}
use Rattle.records.specs.declared.Entry as records
use Rattle.records.specs.declared.RowEnd.{RowEnd}
use Rattle.resolved_rows.specs.Listed.{table_rows}
use Rattle.grid.specs.Grid.{GridRow, grid_of, columns_of, entries_of}
use Rattle.grid.specs.Judging.{shown}
use Rattle.grid.proofs.Rebuilt.{held_few}
use Rattle.grid.proofs.GridFacts.{held_spanned, grid_tiles, grid_rows, grid_entries, grid_columns}
use Rattle.grid_build.proofs.RowRecords.{ended_length}
use Rattle.grid_join.specs.Joined.{joined}
use Rattle.grid_join.specs.inner.Reading.{grid_in}
use Rattle.grid_join.specs.inner.Parts.{Readable}
use Rattle.grid_join.specs.inner.Joins.{IsRecords, Given}
use Rattle.grid_join.proofs.Answer.{readable}
use Rattle.grid_join.proofs.Rereading.{grid_back}
use Rattle.owners.specs.Owner.{filler_owner}
use Rattle.owners.specs.inner.Finding.{FillerOwnerPre}
use Rattle.joined_owners.specs.declared.Place.{Place}
use Rattle.joined_owners.specs.inner.Places.{place, JoinedOwnerPre}
use Rattle.joined_owners.proofs.Owned.{owner_at, place_owner, place_reread}

module _ {ks : List NodeRecord} {at : ℕ} {es : List records.Entry} {rs : List RowEnd} {c : ℕ} (p : FillerOwnerPre ks at es rs c) where
  grid_records : IsRecords (grid_of (table_rows ks at)) es rs
  grid_records = record { entries_are = p.made.entries_are; rows_are = p.made.rows_are }

  pub table_columns : c ≤ max_position
  table_columns = omega (arith, p.made.columns_are, grid_columns (table_rows ks at) p.sound)

  given : Given c (grid_of (table_rows ks at)) es rs
  given =
      let T = table_rows ks at in
      record {
        records_are = grid_records;
        tiles = rw p.made.columns_are (grid_tiles T p.sound (held_spanned ks at));
        few_columns = table_columns;
        few_entries = omega (arith, ap length p.made.entries_are, length-map (entries_of (grid_of T)) shown, grid_entries T p.sound);
        few_rows = omega (arith, ap length p.made.rows_are, ended_length (grid_of T), grid_rows T p.sound, held_few ks at, p.lined.short);
      }

  pub table_readable : Readable es rs
  table_readable = readable given

module _ {ks : List NodeRecord} {l r : ℕ} {les : List records.Entry} {lrs : List RowEnd} {c : ℕ} {res : List records.Entry} {rrs : List RowEnd} {d : ℕ}
    (p : JoinedOwnerPre ks l r les lrs c res rrs d) where
  abbrev ls : List GridRow
  ls = grid_of (table_rows ks l)

  abbrev rs : List GridRow
  rs = grid_of (table_rows ks r)

  -- what is found tells the owner
  pub owner_told : (e : ℕ) {found : Place} → found ≡ place c d 0 0 (grid_in lrs les) (grid_in rrs res) e → {is : Place} → found ≡ is
      → owner_at (entries_of ls) (entries_of rs) is
      ≡ filler_owner (entries_of (joined (columns_of (table_rows ks l)) (columns_of (table_rows ks r)) ls rs)) e
  owner_told e {found} f {is} s =
      let x : is ≡ place c d 0 0 ls rs e =
      sym s ∙ f ∙ rw (grid_back ls (grid_records p.left_table), grid_back rs (grid_records p.right_table)) (place_reread c d 0 0 ls rs e) in
      rw (sym p.left_table.made.columns_are, sym p.right_table.made.columns_are)
      (ap (owner_at (entries_of ls) (entries_of rs)) x ∙ sym (place_owner c d (entries_of ls) (entries_of rs) 0 0 ls rs refl refl e))
