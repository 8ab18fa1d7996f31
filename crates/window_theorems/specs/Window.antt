-- What holds of every report of the call `window`. These are statements; proofs/Window.antt has their proofs, each by its name in small letters.
use Rattle.std.specs.Prelude.{◌≡◌, true, List, [], ◌∷◌, ℕ, ◌+◌, ◌≤◌, ◌<◌, max, length, Ok}
use Rattle.common.specs.Lists.{sum}
use Rattle.common.specs.Limits.{max_lines, max_entries}
use Rattle.common.specs.Refusals.{passes}
use Rattle.answers.specs.Numbers.{way_number}
use Rattle.answers.specs.declared.Way.TheVariants.{Sideways}
use Rattle.answers.specs.declared.Layout.{Layout}
use Rattle.answers.specs.declared.Causes.{Causes}
use Rattle.cutting.specs.Cut.{at, gaps}
use Rattle.sheet_figures.specs.Figures.{columns_at, leasts_at, way_at}
use Rattle.call_layout.specs.Layout.{laid_out_of}
use Rattle.call_missing.specs.Missing.{explained_of}
use Rattle.call_window.specs.Window.{window_checks, ways_at, table_widths_at, missing_counts_at}

-- (a) line i of the report is what `layout` answers at width i of the list, and counts the entries that `missing` counts, with buffers that suffice
pub record LineAgrees (s : List ℕ) (line wrap raw : ℕ) (widths : List ℕ) (i : ℕ) : Type 0 where
  pub layout : Layout
  pub causes : Causes
  pub layout_is : laid_out_of s line wrap raw (at widths i) (max_lines ∷ []) (max_entries ∷ max_entries ∷ []) ≡ Ok layout
  pub causes_are : explained_of s line wrap raw (at widths i) (max_entries ∷ []) (max_lines ∷ []) ≡ Ok causes
  pub way : at (ways_at s line wrap raw widths) i ≡ way_number layout.way
  pub wide : at (table_widths_at s line wrap raw widths) i ≡ layout.width
  pub missing : at (missing_counts_at s line wrap raw widths) i ≡ causes.count

abbrev pub EachLine : Type 0
EachLine = (s : List ℕ) (line wrap raw : ℕ) (widths buffers : List ℕ) → passes (window_checks s line wrap raw widths buffers) ≡ true →
    (i : ℕ) → i < length widths → LineAgrees s line wrap raw widths i

-- (b) with raw off, a table that lies sideways at one width does so at each larger one
abbrev pub StaysSideways : Type 0
StaysSideways = (s : List ℕ) (line wrap v w : ℕ) → way_at s line wrap 0 v ≡ Sideways → v ≤ w → way_at s line wrap 0 w ≡ Sideways

-- (c) the smallest width at which it lies sideways: 1, or what its columns' leasts take with the gaps between them
abbrev pub least_sideways : List ℕ → ℕ → ℕ → ℕ
least_sideways s line wrap = max 1 (sum (leasts_at s line wrap) + gaps (columns_at s line))

pub record SmallestSideways (s : List ℕ) (line wrap : ℕ) : Type 0 where
  pub lies : way_at s line wrap 0 (least_sideways s line wrap) ≡ Sideways
  pub none_smaller : (w : ℕ) → way_at s line wrap 0 w ≡ Sideways → least_sideways s line wrap ≤ w

abbrev pub FromLeast : Type 0
FromLeast = (s : List ℕ) (line wrap : ℕ) → SmallestSideways s line wrap
