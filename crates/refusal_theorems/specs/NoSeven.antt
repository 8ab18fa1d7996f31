-- No call answers 7, whatever it is given: an answer that meets a public call's contract is no refusal of that number. These are statements;
-- proofs/NoSeven has their proofs.
use Rattle.std.specs.Prelude.{◌≡◌, Bool, true, List, ℕ, Option, Result, Err}
use Rattle.common.specs.declared.Refusal.{Refusal}
use Rattle.common.specs.Refusals.{reason_number, verdict_of}
use Rattle.text.specs.declared.Estimate.{Estimate}
use Rattle.text.specs.Text.{measure_of}
use Rattle.column_edges.specs.Edges.{all_at}
use Rattle.resolved_rows.specs.Cells as cells
use Rattle.grid_positions.specs.Positions.{all_rows}
use Rattle.grid.specs.Grid.{is_column_edge, ends_of}
use Rattle.answers.specs.declared.Causes.{Causes}
use Rattle.answers.specs.declared.Grid.{Grid}
use Rattle.answers.specs.declared.Joint.{Joint}
use Rattle.answers.specs.declared.Layout.{Layout}
use Rattle.answers.specs.declared.Nested.{Nested}
use Rattle.answers.specs.declared.Under.{Under}
use Rattle.sheet_figures.specs.Calls.{check_checks}
use Rattle.call_estimates.specs.Estimates.{EstimatesAnswer}
use Rattle.call_grid.specs.Grid.{GridAnswer}
use Rattle.call_layout.specs.Layout.{LayoutAnswer}
use Rattle.call_missing.specs.Missing.{MissingAnswer}
use Rattle.call_preview.specs.Preview.{WithinAnswer, pointed_of, joined_of}
use Rattle.call_walk.specs.Walks.{WalkAnswer}
use Rattle.call_nested.specs.Nested.{NestedAnswer}
use Rattle.call_window.specs.Window.{WindowAnswer}
use Rattle.call_spoken.specs.Spoken.{SpokenAnswer}
use Rattle.call_joined.specs.Joined.{JoinedGridAnswer, JoinedLayoutAnswer, JoinedSpokenAnswer}

-- if it is a refusal, its number is not 7
abbrev pub NotSeven : {A : Type 0} → Result A Refusal → Type 0
NotSeven r = (why : Refusal) → r ≡ Err why → reason_number why.reason ≡ 7 → ⊥

-- a field for each public call. What the lent buffers hold before (their names end in ₀) and after is in the contracts, and does not matter here
pub record NoSeven : Type 0 where
  pub check : (s : List ℕ) (r : Result (Unit {0}) Refusal) → r ≡ verdict_of (check_checks s) → NotSeven r
  pub measure : (text : List ℕ) (wrap : ℕ) (img : Bool) (r : Result Estimate Refusal) → r ≡ measure_of text wrap img → NotSeven r
  pub estimates : (s : List ℕ) (wrap : ℕ) (size₀ least₀ prefix₀ : List ℕ) (r : Result ℕ Refusal) (size least prefix : List ℕ)
      → EstimatesAnswer s wrap size₀ least₀ prefix₀ r size least prefix → NotSeven r
  pub grid : (s : List ℕ) (line : ℕ) (cell₀ first₀ span₀ row₀ end₀ : List ℕ) (r : Result Grid Refusal) (cell first span row end : List ℕ)
      → GridAnswer s line cell₀ first₀ span₀ row₀ end₀ r cell first span row end → NotSeven r
  pub layout : (s : List ℕ) (line wrap raw width : ℕ) (column₀ x₀ wide₀ : List ℕ) (r : Result Layout Refusal) (column x wide : List ℕ)
      → LayoutAnswer s line wrap raw width column₀ x₀ wide₀ r column x wide → NotSeven r
  pub missing : (s : List ℕ) (line wrap raw width : ℕ) (entry₀ cause₀ : List ℕ) (r : Result Causes Refusal) (entry cause : List ℕ)
      → MissingAnswer s line wrap raw width entry₀ cause₀ r entry cause → NotSeven r
  pub at : (s : List ℕ) (line wrap raw width row x : ℕ) (r : Result (Under ℕ) Refusal) → r ≡ pointed_of s line wrap raw width row x → NotSeven r
  pub within : (s : List ℕ) (line wrap raw width row from to : ℕ) (entry₀ : List ℕ) (r : Result ℕ Refusal) (entry : List ℕ)
      → WithinAnswer s line wrap raw width row from to entry₀ r entry → NotSeven r
  pub joining : (s : List ℕ) (line wrap raw width row x : ℕ) (r : Result Joint Refusal) → r ≡ joined_of s line wrap raw width row x → NotSeven r
  pub walk : (s : List ℕ) (wrap raw width overflow : ℕ) (given₀ wide₀ : List ℕ) (r : Result ℕ Refusal) (given wide : List ℕ)
      → WalkAnswer s wrap raw width overflow given₀ wide₀ r given wide → NotSeven r
  pub nested : (s : List ℕ) (line wrap raw width overflow : ℕ) (column₀ x₀ wide₀ : List ℕ) (r : Result (Option Nested) Refusal) (column x wide : List ℕ)
      → NestedAnswer s line wrap raw width overflow column₀ x₀ wide₀ r column x wide → NotSeven r
  pub window : (s : List ℕ) (line wrap raw : ℕ) (widths way₀ wide₀ missing₀ : List ℕ) (r : Result ℕ Refusal) (way wide missing : List ℕ)
      → WindowAnswer s line wrap raw widths way₀ wide₀ missing₀ r way wide missing → NotSeven r
  pub spoken : (s : List ℕ) (line e : ℕ) (wording text : List ℕ) (r : Result (Unit {0}) Refusal) → SpokenAnswer s line e wording text r → NotSeven r
  pub joined_grid : (s : List ℕ) (left right : ℕ) (cell₀ first₀ span₀ row₀ end₀ : List ℕ) (r : Result Grid Refusal) (cell first span row end : List ℕ)
      → JoinedGridAnswer s left right cell₀ first₀ span₀ row₀ end₀ r cell first span row end → NotSeven r
  pub joined_layout : (s : List ℕ) (left right wrap raw width : ℕ) (column₀ x₀ wide₀ : List ℕ) (r : Result Layout Refusal) (column x wide : List ℕ)
      → JoinedLayoutAnswer s left right wrap raw width column₀ x₀ wide₀ r column x wide → NotSeven r
  pub joined_spoken : (s : List ℕ) (left right e : ℕ) (wording text : List ℕ) (r : Result (Unit {0}) Refusal)
      → JoinedSpokenAnswer s left right e wording text r → NotSeven r

-- and why there is none: whatever rows a table has, each of their entries ends at a column edge of these rows
abbrev pub EndsAreEdges : Type 0
EndsAreEdges = (table : List cells.Row) → all_at (is_column_edge (all_rows table)) (ends_of (all_rows table)) ≡ true
