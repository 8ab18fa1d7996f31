-- A layout that is found is what a call answers and leaves, and of it the third demand holds.
use Rattle.answers.specs.Answers.{layout_with}
use Rattle.answers.specs.declared.Layout.{Layout}
use Rattle.common.specs.declared.Refusal.{Refusal}
use Rattle.std.specs.Prelude.{Err, Ok, Result, MatchResult}
use mathlib.Core.Path.{◌≡◌, refl, sym, ◌∙◌}
use mathlib.Core.Bool.{true, false, ◌||◌}
use mathlib.Core.List.{List, [], ◌∷◌, ◌++◌, map}
use Prim.Native.Nat.{ℕ, ◌≤◌}
use native.Mathlib.Omega.{arith}
use lib.Dec.{ltb}
use lib.ListN.{length, take}
use borrow.Author.Tests.{ltb-false}
use Rattle.common.specs.Lists.{padded}
use Rattle.common.specs.Limits.{max_lines, max_entries, max_wrap, max_width}
use Rattle.common.specs.Refusals.{Check, first_answer, verdict_of, passes, if_passes}
use Rattle.sheet.proofs.First.{neither, passes_both}
use Rattle.columns.specs.Boxes.{Box}
use Rattle.widths.specs.Widths.{table_width}
use Rattle.placement.specs.Promise.{Promised}
use Rattle.table_layout.specs.Laying.{way_in, widths_in, places_in}
use Rattle.sheet_figures.specs.Figures.{x_of, width_of}
use Rattle.sheet_figures.specs.Calls.{leaves}
use Rattle.table_layout.specs.inner.Asked.{OutCapacity}
use Rattle.call_layout.specs.inner.Found.{columns_in, entries_in, LayoutOf}
use Rattle.arguments.specs.Arguments.{settings_check, layout_arguments}
use Rattle.call_layout.specs.Layout.{for_columns, for_places}
use Rattle.sheet_figures.specs.inner.Early.{early}
use Rattle.arguments.specs.declared.Settings.{Settings}
use Rattle.arguments.specs.inner.Asked.{Asks, verdict_in}
use Rattle.arguments.proofs.Opened.{opened}
use Rattle.arguments.proofs.Shorter.{layout_fits}
use Rattle.sheet_figures.proofs.Early.{early_nines, none_nines, fits, leaving}

-- ---- before the sheet is read

-- refused for the arguments
layout_early : (why : Refusal) (cs : List Check) (entries columns : ℕ) (boxes : List (List Box)) (raw width : ℕ) (column x wide : List ℕ)
    → LayoutOf (early (Err why) ∷ cs) entries columns boxes raw width (Err why) column x wide
unfolding first_answer early passes if_passes columns_in entries_in
layout_early why cs entries columns boxes raw width column x wide =
    record {
      answer = refl;
      few_columns = omega arith;
      few_entries = omega arith;
      widths = refl;
      xs = refl;
      wides = refl;
      promised = λ low p. let z : ◌≡◌ {A = ℕ} 0 1 = cc in absurd (omega arith);
    }

-- not refused for the arguments
layout_late : {cs : List Check} {entries columns : ℕ} {boxes : List (List Box)} {raw width : ℕ} {r : Result Layout Refusal} {column x wide : List ℕ}
    → LayoutOf cs entries columns boxes raw width r column x wide → LayoutOf (early (Ok tt) ∷ cs) entries columns boxes raw width r column x wide
unfolding first_answer early passes if_passes
layout_late f =
    record {
      answer = f.answer;
      few_columns = f.few_columns;
      few_entries = f.few_entries;
      widths = f.widths;
      xs = f.xs;
      wides = f.wides;
      promised = f.promised;
    }

pub layout_opened : {asked : Result Settings Refusal} {cs : List Check} (entries columns : ℕ) (boxes : ℕ → List (List Box)) (wrap raw width : ℕ) {r : Result Layout Refusal} {column x wide : List ℕ}
    → Asks asked wrap raw width 0 → MatchResult asked (λ g. LayoutOf cs entries columns (boxes g.wrap) g.raw g.width r column x wide) (λ why. r ≡ Err why)
    → LayoutOf (early (verdict_in asked) ∷ cs) entries columns (boxes wrap) raw width r column x wide
layout_opened {asked} {cs} entries columns boxes wrap raw width {r} {column} {x} {wide} =
    opened (λ v q. LayoutOf (early v ∷ cs) entries columns (boxes wrap) raw width q column x wide) (λ p q l o. LayoutOf cs entries columns (boxes p) q l r column x wide)
    asked (λ why. layout_early why cs entries columns (boxes wrap) raw width column x wide) layout_late

-- ---- the call

-- where no check applies, raw is 0 or 1
raw_low : (wrap raw width : ℕ) (cs : List Check) → passes (settings_check wrap raw width ∷ cs) ≡ true → raw ≤ 1
raw_low wrap raw width cs e =
    let (a, b) = neither (ltb max_wrap wrap || ltb 1 raw) (ltb max_width width) (passes_both (settings_check wrap raw width) cs e).0 in
    ltb-false 1 raw (neither (ltb max_wrap wrap) (ltb 1 raw) a).1

-- one buffer has room for the columns that are counted, and two for the entries, where they have room for as many as there may be
pub counts_fit : {A : Type 0} (columns entries : Result A Refusal → ℕ) → ((why : Refusal) → columns (Err why) ≡ 0) → ((why : Refusal) → entries (Err why) ≡ 0)
    → (f : Result A Refusal) (v : Result (Unit {0}) Refusal) (ds : List Check) (r : Result A Refusal) {a b c : ℕ} → r ≡ first_answer Err f (early v ∷ ds)
    → columns r ≤ max_lines → entries r ≤ max_entries → (v ≡ (Ok tt) → (max_lines ≤ a) × (max_entries ≤ b) × (max_entries ≤ c)) → (columns r ≤ a) × (entries r ≤ b) × (entries r ≤ c)
counts_fit columns entries no_columns no_entries f v ds r {a} {b} {c} e p q capacity = (
  fits Err f columns no_columns v ds r max_lines a e p (λ z. (capacity z).0),
  fits Err f entries no_entries v ds r max_entries b e q (λ z. (capacity z).1),
  fits Err f entries no_entries v ds r max_entries c e q (λ z. (capacity z).2),
)

-- where the arguments are not refused, each lent buffer has room for a layout
pub layout_fit : (wrap raw width : ℕ) (v : Result (Unit {0}) Refusal) (column x wide : List ℕ)
    → v ≡ verdict_of (layout_arguments wrap raw width (length column ∷ []) (length x ∷ length wide ∷ [])) → v ≡ (Ok tt) → OutCapacity column x wide
layout_fit wrap raw width v column x wide judged z =
    let (a, b, c) = layout_fits (length column) (length x) (length wide) (none_nines _ _ (sym judged ∙ z)).1 in
    record { column_capacity = a; x_capacity = b; wide_capacity = c }

module _ {ds : List Check} {entries columns : ℕ} {boxes : List (List Box)} (wrap raw width : ℕ) {v : Result (Unit {0}) Refusal} {a b c : ℕ} {r : Result Layout Refusal} {column x wide : List ℕ}
    (judged : v ≡ verdict_of (layout_arguments wrap raw width (a ∷ []) (b ∷ c ∷ [])))
    (found : LayoutOf (early v ∷ ds) entries columns boxes raw width r column x wide) where
  -- and so for the figures
  pub layout_rooms : (columns_in r ≤ a) × (entries_in r ≤ b) × (entries_in r ≤ c)
  unfolding columns_in entries_in
  layout_rooms =
      counts_fit columns_in entries_in (λ why. refl) (λ why. refl) _ v ds r found.answer found.few_columns found.few_entries
      (λ z. layout_fits a b c (none_nines _ _ (sym judged ∙ z)).1)

module _ {ds : List Check} (entries columns : ℕ) (boxes : List (List Box)) (wrap raw width : ℕ) {v : Result (Unit {0}) Refusal} (a b c : ℕ) {r : Result Layout Refusal} {column x wide : List ℕ}
    (judged : v ≡ verdict_of (layout_arguments wrap raw width (a ∷ []) (b ∷ c ∷ [])))
    (found : LayoutOf (early v ∷ ds) entries columns boxes raw width r column x wide) where
  -- what is answered
  pub layout_told :
      r
      ≡ first_answer Err (Ok (layout_with (way_in columns boxes raw width) entries columns (table_width (way_in columns boxes raw width) (widths_in columns boxes raw width) width)))
      (layout_arguments wrap raw width (a ∷ []) (b ∷ c ∷ []) ++ ds)
  layout_told = found.answer ∙ early_nines Err _ v ds _ _ judged

-- what the three buffers hold afterwards
pub record LayoutLeaves (cs : List Check) (columns : ℕ) (boxes : List (List Box)) (raw width : ℕ) (column₀ x₀ wide₀ column x wide : List ℕ) : Type 0 where
  pub widths : column ≡ leaves cs column₀ (widths_in columns boxes raw width)
  pub xs : x ≡ leaves cs x₀ (map x_of (places_in columns boxes raw width))
  pub wides : wide ≡ leaves cs wide₀ (map width_of (places_in columns boxes raw width))
  pub promised : passes cs ≡ true → Promised columns boxes raw width (way_in columns boxes raw width) (widths_in columns boxes raw width)

module _ {ds : List Check} {entries columns : ℕ} {boxes : List (List Box)} (wrap raw width : ℕ) {v : Result (Unit {0}) Refusal} {column₀ x₀ wide₀ : List ℕ} {r : Result Layout Refusal}
    {column x wide : List ℕ}
    (judged : v ≡ verdict_of (layout_arguments wrap raw width (for_columns column₀) (for_places x₀ wide₀)))
    (found : LayoutOf (early v ∷ ds) entries columns boxes raw width r column x wide) where
  pub layout_left : {n m : ℕ} {a b c : List ℕ} → n ≡ columns_in r → m ≡ entries_in r
      → length column ≡ length column₀ → length x ≡ length x₀ → length wide ≡ length wide₀
      → a ≡ padded (length column) (take n column) → b ≡ padded (length x) (take m x) → c ≡ padded (length wide) (take m wide)
      → LayoutLeaves (layout_arguments wrap raw width (for_columns column₀) (for_places x₀ wide₀) ++ ds) columns boxes raw width column₀ x₀ wide₀ a b c
  unfolding passes if_passes
  layout_left k l ka kb kc a b c =
      let f : (xs : List ℕ) → first_answer (λ why. []) xs (early v ∷ ds) ≡ first_answer (λ why. []) xs (layout_arguments wrap raw width (for_columns column₀) (for_places x₀ wide₀) ++ ds) =
      λ xs. early_nines (λ why. []) xs v ds _ _ judged in
      record {
        widths = leaving column₀ column (f _) k ka a found.widths;
        xs = leaving x₀ x (f _) l kb b found.xs;
        wides = leaving wide₀ wide (f _) l kc c found.wides;
        promised = λ q. found.promised (raw_low wrap raw width _ q) (early_nines (λ why. false) true v ds _ _ judged ∙ q);
      }
