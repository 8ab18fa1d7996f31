-- What is spoken at a filler, whatever the call accepts: the whole text of the first text inside the filler's owner, as a part of the sheet, or the whole
-- wording; and whose cell the owner is. These are statements; proofs/Spoken has their proofs. Lines are counted from 1, line k stands at place k - 1.
use Rattle.std.specs.Prelude.{◌≡◌, true, List, [], ◌⊎◌, ℕ, suc, ◌+◌, ◌-◌, ◌≤◌, ◌<◌, length, get_or, take, drop, None, Some, Ok}
use Rattle.common.specs.Refusals.{passes}
use Rattle.kinds.specs.Kinds.{kind_number, text_kind}
use Rattle.records.specs.NodeRecord.{no_node}
use Rattle.records.specs.declared.NodeRecord.{NodeRecord}
use Rattle.answers.specs.declared.Part.{Part}
use Rattle.grid.specs.Grid.{GridRow, entries_of}
use Rattle.grid.specs.Facts.{CellOf}
use Rattle.grid.specs.Owners.{CellAbove, bodies_at}
use Rattle.sheet_load.specs.Opening.{nodes_of}
use Rattle.sheet_figures.specs.Figures.{rows_at}
use Rattle.spoken_text.specs.Text.{text_of}
use Rattle.call_spoken.specs.Spoken.{owner_at, spoken_checks, place_of, reply}

-- ---- which text is meant

-- how deep line k is
abbrev pub depth_at : List NodeRecord → ℕ → ℕ
depth_at ks k = (get_or ks (k - 1) no_node).depth

-- line k stands inside line c: it comes later, and every line from there on up to it is deeper
pub record InsideLine (ks : List NodeRecord) (c k : ℕ) : Type 0 where
  pub after : c < k
  pub within : k ≤ length ks
  pub deeper : (i : ℕ) → c < i → i ≤ k → depth_at ks c < depth_at ks i

-- it is a text
abbrev pub IsText : List NodeRecord → ℕ → Type 0
IsText ks k = kind_number (get_or ks (k - 1) no_node).kind ≡ text_kind

-- line k is the first text inside line c
pub record FirstText (ks : List NodeRecord) (c k : ℕ) : Type 0 where
  pub inside : InsideLine ks c k
  pub text : IsText ks k
  pub first : (i : ℕ) → InsideLine ks c i → IsText ks i → k ≤ i

-- ---- what is returned for an owner c

-- a part of the sheet, not empty: the whole text of the first text inside the owner
pub record OfSheet (s wording : List ℕ) (line e c : ℕ) : Type 0 where
  pub part : Part
  pub place : place_of s line e ≡ Ok (Some part)
  pub text : ℕ
  pub first : FirstText (nodes_of s) c text
  pub within : part.from + part.length ≤ length s
  pub stands : take part.length (drop part.from s) ≡ text_of s text
  pub some : 0 < part.length
  pub returned : reply s wording (place_of s line e) ≡ text_of s text

-- the whole wording: there is no text inside the owner, or the first is empty
pub record OfWording (s wording : List ℕ) (line e c : ℕ) : Type 0 where
  pub place : place_of s line e ≡ Ok None
  pub none : (k : ℕ) → FirstText (nodes_of s) c k → text_of s k ≡ []
  pub returned : reply s wording (place_of s line e) ≡ wording

-- ---- whose cell the owner is

-- entry e of a grid, counted from 0 over all rows, stands in row i
pub record StandsInRow (g : List GridRow) (i e : ℕ) : Type 0 where
  pub row : i < length g
  pub from : length (entries_of (take i g)) ≤ e
  pub to : e < length (entries_of (take (suc i) g))

-- the entry has an owner: a cell of the table, in a row above the entry's own, in the same body
pub record Owner (s : List ℕ) (line e : ℕ) : Type 0 where
  pub owner : ℕ
  pub owner_is : owner_at s line e ≡ Some owner
  pub from_one : 1 ≤ owner
  pub cell : CellOf (nodes_of s) (line - 1) (owner - 1)
  pub row : ℕ
  pub here : StandsInRow (rows_at s line) row e
  pub above : CellAbove (bodies_at (nodes_of s) (line - 1)) (rows_at s line) row owner

-- ---- of every call that is accepted

pub record Spoken : Type 0 where
  pub owned : (s : List ℕ) (line e : ℕ) → passes (spoken_checks s line e) ≡ true → Owner s line e
  pub spoken : (s wording : List ℕ) (line e c : ℕ) → passes (spoken_checks s line e) ≡ true → owner_at s line e ≡ Some c
      → OfSheet s wording line e c ⊎ OfWording s wording line e c
