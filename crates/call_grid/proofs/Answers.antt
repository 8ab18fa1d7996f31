-- A grid that is found is what a call answers and leaves.
use Rattle.answers.specs.Answers.{grid_with}
use Rattle.answers.specs.declared.Grid.{Grid}
use Rattle.common.specs.declared.Refusal.{Refusal}
use Rattle.std.specs.Prelude.{Err, Ok, Result}
use mathlib.Core.Path.{◌≡◌, refl, sym, ◌∙◌}
use mathlib.Core.List.{List, [], ◌∷◌, ◌++◌}
use Prim.Native.Nat.{ℕ, ◌≤◌}
use native.Mathlib.Omega.{arith}
use lib.ListN.{length, take}
use Rattle.common.specs.Lists.{padded}
use Rattle.common.specs.Limits.{max_lines, max_entries}
use Rattle.common.specs.Refusals.{Check, first_answer, verdict_of, if_passes}
use Rattle.grid.specs.Grid.{GridRow, entries_of}
use Rattle.call_grid.specs.inner.Found.{entries_in, rows_in, GridCapacity, GridOf}
use Rattle.arguments.specs.Arguments.{any_shorter, grid_arguments}
use Rattle.call_grid.specs.Grid.{for_entries, for_rows, GridLeft}
use Rattle.sheet_figures.specs.inner.Early.{early}
use Rattle.arguments.proofs.Shorter.{three_fit, two_fit}
use Rattle.sheet_figures.proofs.Early.{early_eleven, none_eleven, fits, leaving}
use Rattle.sheet.proofs.First.{neither}

-- ---- before the sheet is read

-- refused for the arguments
pub grid_early : (why : Refusal) (cs : List Check) (g : List GridRow) (columns : ℕ) (cell first' span row end : List ℕ)
    → GridOf (early (Err why) ∷ cs) g columns (Err why) cell first' span row end
unfolding first_answer early if_passes entries_in rows_in
grid_early why cs g columns cell first' span row end =
    record {
      answer = refl;
      few_entries = omega arith;
      few_rows = omega arith;
      cells = refl;
      firsts = refl;
      spans = refl;
      row_lines = refl;
      row_ends_are = refl;
    }

-- not refused for the arguments
pub grid_late : {v : Result (Unit {0}) Refusal} {cs : List Check} {g : List GridRow} {columns : ℕ} {r : Result Grid Refusal} {cell first' span row end : List ℕ} → v ≡ (Ok tt)
    → GridOf cs g columns r cell first' span row end → GridOf (early v ∷ cs) g columns r cell first' span row end
unfolding first_answer early if_passes
grid_late z f =
    rw z (record {
      answer = f.answer;
      few_entries = f.few_entries;
      few_rows = f.few_rows;
      cells = f.cells;
      firsts = f.firsts;
      spans = f.spans;
      row_lines = f.row_lines;
      row_ends_are = f.row_ends_are;
    })

-- ---- the call

-- where the arguments are not refused, each lent buffer has room for a grid
fit : (v : Result (Unit {0}) Refusal) (a b c d e : ℕ) → v ≡ verdict_of (grid_arguments (a ∷ b ∷ c ∷ []) (d ∷ e ∷ [])) → v ≡ (Ok tt)
    → ((max_entries ≤ a) × (max_entries ≤ b) × (max_entries ≤ c)) × ((max_lines ≤ d) × (max_lines ≤ e))
fit v a b c d e judged z =
    let (p, q) = neither (any_shorter max_entries (a ∷ b ∷ c ∷ [])) (any_shorter max_lines (d ∷ e ∷ [])) (none_eleven _ (sym judged ∙ z)) in
    (three_fit max_entries a b c p, two_fit max_lines d e q)

pub grid_fit : (v : Result (Unit {0}) Refusal) (cell first' span row end : List ℕ)
    → v ≡ verdict_of (grid_arguments (length cell ∷ length first' ∷ length span ∷ []) (length row ∷ length end ∷ []))
    → v ≡ (Ok tt) → GridCapacity cell first' span row end
grid_fit v cell first' span row end judged z =
    let (a, b) = fit v (length cell) (length first') (length span) (length row) (length end) judged z in
    record { cell_capacity = a.0; first_capacity = a.1; span_capacity = a.2; row_capacity = b.0; end_capacity = b.1 }

module _ {ds : List Check} {g : List GridRow} {columns : ℕ} {v : Result (Unit {0}) Refusal} {a b c d e : ℕ} {r : Result Grid Refusal} {cell first' span row end : List ℕ}
    (judged : v ≡ verdict_of (grid_arguments (a ∷ b ∷ c ∷ []) (d ∷ e ∷ [])))
    (found : GridOf (early v ∷ ds) g columns r cell first' span row end) where
  -- and so for the figures
  pub grid_rooms : ((entries_in r ≤ a) × (entries_in r ≤ b) × (entries_in r ≤ c)) × ((rows_in r ≤ d) × (rows_in r ≤ e))
  unfolding entries_in rows_in
  grid_rooms =
      let h = fit v a b c d e judged in
      let at_entries : (capacity : ℕ) → (v ≡ (Ok tt) → max_entries ≤ capacity) → entries_in r ≤ capacity =
      λ capacity. fits Err _ entries_in (λ why. refl) v ds r max_entries capacity found.answer found.few_entries in
      let at_rows : (capacity : ℕ) → (v ≡ (Ok tt) → max_lines ≤ capacity) → rows_in r ≤ capacity =
      λ capacity. fits Err _ rows_in (λ why. refl) v ds r max_lines capacity found.answer found.few_rows in
      ((at_entries a (λ z. (h z).0.0), at_entries b (λ z. (h z).0.1), at_entries c (λ z. (h z).0.2)), (at_rows d (λ z. (h z).1.0), at_rows e (λ z. (h z).1.1)))

module _ {ds : List Check} {g : List GridRow} {columns : ℕ} {v : Result (Unit {0}) Refusal} (a b c d e : ℕ) {r : Result Grid Refusal} {cell first' span row end : List ℕ}
    (judged : v ≡ verdict_of (grid_arguments (a ∷ b ∷ c ∷ []) (d ∷ e ∷ [])))
    (found : GridOf (early v ∷ ds) g columns r cell first' span row end) where
  -- what is answered
  pub grid_told : r ≡ first_answer Err (Ok (grid_with (length g) (length (entries_of g)) columns)) (grid_arguments (a ∷ b ∷ c ∷ []) (d ∷ e ∷ []) ++ ds)
  grid_told = found.answer ∙ early_eleven Err _ v ds _ judged

module _ {ds : List Check} {g : List GridRow} {columns : ℕ} {v : Result (Unit {0}) Refusal} {cell₀ first₀ span₀ row₀ end₀ : List ℕ} {r : Result Grid Refusal} {cell first' span row end : List ℕ}
    (judged : v ≡ verdict_of (grid_arguments (for_entries cell₀ first₀ span₀) (for_rows row₀ end₀)))
    (found : GridOf (early v ∷ ds) g columns r cell first' span row end) where
  -- what is left in the lent buffers
  pub grid_left : {n m : ℕ} {a b c d e : List ℕ} → n ≡ entries_in r → m ≡ rows_in r
      → length cell ≡ length cell₀ → length first' ≡ length first₀ → length span ≡ length span₀ → length row ≡ length row₀ → length end ≡ length end₀
      → a ≡ padded (length cell) (take n cell) → b ≡ padded (length first') (take n first') → c ≡ padded (length span) (take n span)
      → d ≡ padded (length row) (take m row) → e ≡ padded (length end) (take m end)
      → GridLeft (grid_arguments (for_entries cell₀ first₀ span₀) (for_rows row₀ end₀) ++ ds) g cell₀ first₀ span₀ row₀ end₀ a b c d e
  unfolding if_passes
  grid_left k l ka kb kc kd ke a b c d e =
      let f : (xs : List ℕ) → first_answer (λ why. []) xs (early v ∷ ds) ≡ first_answer (λ why. []) xs (grid_arguments (for_entries cell₀ first₀ span₀) (for_rows row₀ end₀) ++ ds) =
      λ xs. early_eleven (λ why. []) xs v ds _ judged in
      record {
        cells = leaving cell₀ cell (f _) k ka a found.cells;
        firsts = leaving first₀ first' (f _) k kb b found.firsts;
        spans = leaving span₀ span (f _) k kc c found.spans;
        row_lines = leaving row₀ row (f _) l kd d found.row_lines;
        row_ends_are = leaving end₀ end (f _) l ke e found.row_ends_are;
      }
