-- What is found of one table in a sheet that is walked, by its bytes.
use Rattle.answers.specs.Answers.{nested_with}
use Rattle.answers.specs.declared.Layout.{Layout}
use Rattle.answers.specs.declared.Nested.{Nested}
use Rattle.common.specs.declared.Refusal.{Refusal}
use Rattle.std.specs.Prelude.{◌≡◌, true, List, ℕ, ◌≤◌, take, Err, Ok, Option, Result, None, Some}
use Rattle.common.specs.Limits.{max_lines, max_entries}
use Rattle.common.specs.Refusals.{Check, first_answer, passes, if_passes}
use Rattle.records.specs.declared.NodeRecord.{NodeRecord}
use Rattle.text.specs.declared.Estimate.{Estimate}
use Rattle.placement.specs.Promise.{Promised}
use Rattle.sheet_figures.specs.Figures.{columns_at, boxes_at, way_at, widths_at}
use Rattle.call_layout.specs.inner.Made.{LayoutOfPost}
use Rattle.call_nested.specs.Nested.{width_to, answer_at, columns_for, xs_for, wides_for}

-- what is laid out of the table at a place, at this width
pub record NestMade (ks : List NodeRecord) (at : ℕ) (figures : List Estimate) (raw : ℕ) (w : Option ℕ) (r : Option Nested) (column x wide : List ℕ) : Type 0 where
  pub without : w ≡ None → r ≡ None
  pub layout : (v : ℕ) → w ≡ Some v → Layout
  pub answer : (v : ℕ) (e : w ≡ Some v) → r ≡ Some (nested_with v (layout v e))
  pub laid : (v : ℕ) (e : w ≡ Some v) → LayoutOfPost ks at figures raw v (layout v e) column x wide

-- how many columns and entries it has
unfoldable pub columns_in : Result (Option Nested) Refusal → ℕ
columns_in (Ok (Some t)) = t.layout.columns
columns_in (Ok None) = 0
columns_in (Err why) = 0

unfoldable pub entries_in : Result (Option Nested) Refusal → ℕ
entries_in (Ok (Some t)) = t.layout.entries
entries_in (Ok None) = 0
entries_in (Err why) = 0

-- found in the sheet, or the first refusal; the figures stand in the first places
pub record NestFound (cs : List Check) (s : List ℕ) (line wrap raw width : ℕ) (r : Result (Option Nested) Refusal) (column x wide : List ℕ) : Type 0 where
  pub answer : r ≡ first_answer Err (answer_at s line wrap raw (width_to s line wrap raw width)) cs
  pub few_columns : columns_in r ≤ max_lines
  pub few_entries : entries_in r ≤ max_entries
  pub widths : take (columns_in r) column ≡ if_passes cs (columns_for s line wrap raw (width_to s line wrap raw width))
  pub xs : take (entries_in r) x ≡ if_passes cs (xs_for s line wrap raw (width_to s line wrap raw width))
  pub wides : take (entries_in r) wide ≡ if_passes cs (wides_for s line wrap raw (width_to s line wrap raw width))
  pub promised : raw ≤ 1 → passes cs ≡ true → (v : ℕ) → width_to s line wrap raw width ≡ Some v →
      Promised (columns_at s line) (boxes_at s line wrap) raw v (way_at s line wrap raw v) (widths_at s line wrap raw v)
