-- How much room the grid of a table takes.
use mathlib.Core.List.{List}
use Prim.Native.Nat.{ℕ, ◌-◌, ◌≤◌}
use native.Mathlib.Omega.{arith}
use lib.ListN.{length}
use Rattle.records.specs.declared.NodeRecord.{NodeRecord}
use Rattle.records.specs.declared.Entry.{Entry}
use Rattle.records.specs.declared.RowEnd.{RowEnd}
use Rattle.grid_bounds.specs.inner.Sheets.{Suffice}
use Rattle.grid_bounds.proofs.Sheets.{suffice_entries}
use Rattle.grid_build.specs.inner.Records.{TableReady}
use Rattle.text.specs.declared.Estimate.{Estimate}
use Rattle.table_layout.specs.Arranging.{TableMeasured, TableKnown}
use Rattle.table_layout.specs.inner.Capacity.{GridCapacity}
use Rattle.table_layout.specs.inner.Asked.{Asked, Most}

-- as many as suffice
pub suffice_most : {ks : List NodeRecord} {line e r : ℕ} → Asked ks line → Suffice e r ks → Most e r ks line
suffice_most {ks} {line} a z = record { entries_most = suffice_entries a.lined.step a.nests z (line - 1) a.within a.kind; lines_most = z.few }

pub any_most : {ks : List NodeRecord} {line : ℕ} → Asked ks line → Most 8192 4096 ks line
any_most a = record { entries_most = a.sound.few; lines_most = a.lined.short }

-- there is room for them
pub grid_capacity : {ks : List NodeRecord} {line e r : ℕ} → Most e r ks line → (entries : List Entry) (rows : List RowEnd) → e ≤ length entries → r ≤ length rows
    → GridCapacity ks (line - 1) entries rows
grid_capacity m entries rows h g = record { entry_capacity = omega (arith, m.entries_most); row_capacity = omega (arith, m.lines_most) }

-- and a grid can be made there
pub table_ready : {ks : List NodeRecord} {figures : List Estimate} {at : ℕ} {entries : List Entry} {rows : List RowEnd} → TableKnown ks figures at → GridCapacity ks at entries rows
    → TableReady ks at entries rows
table_ready k r = record {
  within = k.within;
  lined = k.lined;
  sound = k.sound;
  entry_capacity = r.entry_capacity;
  row_capacity = r.row_capacity;
}

pub asked_known : {ks : List NodeRecord} {line : ℕ} {figures : List Estimate} → Asked ks line → TableMeasured ks (line - 1) figures → TableKnown ks figures (line - 1)
asked_known a m = record { within = a.within; lined = a.lined; sound = a.sound; measured = m }

pub asked_ready : {ks : List NodeRecord} {line : ℕ} {entries : List Entry} {rows : List RowEnd} → Asked ks line → GridCapacity ks (line - 1) entries rows → TableReady ks (line - 1) entries rows
asked_ready a r = record { within = a.within; lined = a.lined; sound = a.sound; entry_capacity = r.entry_capacity; row_capacity = r.row_capacity }
