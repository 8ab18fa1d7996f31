-- What holds of the walk of every accepted sheet: how wide what stands in a line can be, and what has no width. These are statements; proofs/Descent.antt
-- has their proofs. Place k holds line k + 1.
use Rattle.std.specs.Prelude.{◌≡◌, true, List, ◌⊎◌, ℕ, ◌≤◌, ◌<◌, length, get_or, None, Some}
use Rattle.common.specs.Refusals.{passes}
use Rattle.kinds.specs.Kinds.{kind_number, cell_kind}
use Rattle.records.specs.NodeRecord.{no_node}
use Rattle.records.specs.declared.NodeRecord.{NodeRecord}
use Rattle.grid.specs.Facts.{CellOf}
use Rattle.sheet_load.specs.Opening.{nodes_of}
use Rattle.available_width.specs.Walk.{cell_width, walk}
use Rattle.sheet_walk.specs.Sheets.{walked_checks}

-- the line at place i stands in the line at place c: it comes later, and every line from there on up to it is deeper
pub record StandsIn (ks : List NodeRecord) (c i : ℕ) : Type 0 where
  pub after : c < i
  pub within : i < length ks
  pub deeper : (k : ℕ) → c < k → k ≤ i → (get_or ks c no_node).depth < (get_or ks k no_node).depth

-- the cell at place c is missing: its table has a width, and is printed without the cell at that width
pub record MissingCell (wrap raw root : ℕ) (ks : List NodeRecord) (c : ℕ) : Type 0 where
  pub is_cell : kind_number (get_or ks c no_node).kind ≡ cell_kind
  pub table : ℕ
  pub of_table : CellOf ks table c
  pub width : ℕ
  pub table_width : get_or (walk wrap raw root ks) table None ≡ Some width
  pub left_out : cell_width wrap raw ks table (Some width) c ≡ None

-- the line at place i is a missing cell, or stands in one
pub record InMissing (wrap raw root : ℕ) (ks : List NodeRecord) (i : ℕ) : Type 0 where
  pub cell : ℕ
  pub missing : MissingCell wrap raw root ks cell
  pub inside : (cell ≡ i) ⊎ StandsIn ks cell i

-- with overflow off: no line is wider than one that it stands in, a nested table no wider than its cell; and none is wider than the page
pub record Narrowing (wrap raw root : ℕ) (ks : List NodeRecord) : Type 0 where
  pub inside : (c i v w : ℕ) → StandsIn ks c i → get_or (walk wrap raw root ks) c None ≡ Some v → get_or (walk wrap raw root ks) i None ≡ Some w → w ≤ v
  pub page : (i w : ℕ) → get_or (walk wrap raw root ks) i None ≡ Some w → w ≤ root

-- a line has no width exactly if it stands in a missing cell, or is one
pub record WithoutWidth (wrap raw root : ℕ) (ks : List NodeRecord) : Type 0 where
  pub then_missing : (i : ℕ) → i < length ks → get_or (walk wrap raw root ks) i None ≡ None → InMissing wrap raw root ks i
  pub if_missing : (i : ℕ) → InMissing wrap raw root ks i → get_or (walk wrap raw root ks) i None ≡ None

-- of every sheet that is accepted
pub record Descent : Type 0 where
  pub narrowing : (s : List ℕ) (wrap raw width : ℕ) → passes (walked_checks None s wrap raw width 0) ≡ true → Narrowing wrap raw width (nodes_of s)
  pub without_width : (s : List ℕ) (wrap raw width overflow : ℕ) → passes (walked_checks None s wrap raw width overflow) ≡ true
      → WithoutWidth wrap raw width (nodes_of s)
