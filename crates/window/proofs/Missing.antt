-- An entry is missing exactly if it ends with the count of columns that it begins with; where no column is 0 wide none is.
use mathlib.Core.Path.{◌≡◌, refl, sym, ap, ap₂, ◌∙◌}
use mathlib.Core.Bool.{Bool, false, cond}
use mathlib.Core.List.{List, [], ◌∷◌}
use Prim.Native.Nat.{ℕ, suc, ◌+◌, ◌≤◌, ◌<◌}
use native.Mathlib.Decide.{ℕ_discrete}
use native.Mathlib.Omega.{arith}
use lib.Dec.{eqb}
use lib.ListN.{length, get_or, take, drop, length-drop}
use lib.Seq.{take-add, take_all, length-take-le}
use borrow.Author.Tests.{eq-eqb, ne_eqb}
use Rattle.std.specs.List.{count_by}
use Rattle.std.proofs.lemmas.List.{take-append-drop}
use Rattle.std.proofs.lemmas.List.Sums.{sum_by-cons}
use Rattle.records.specs.inner.NodeRecord.{no_entry}
use Rattle.records.specs.declared.Entry.{Entry}
use Rattle.columns.specs.Columns.{up_to}
use Rattle.columns.proofs.Upto.{at_up_to}
use Rattle.widths.specs.Widths.{nonzero}
use Rattle.widths.proofs.Whole.{nonzero_le, nonzero_append}
use Rattle.window.specs.inner.Counting.{nonzero_before, none_wide, none_counted, missing_count, missing_by, MissingInPre}

-- ---- counts of a list

-- two tests that agree on each element
count_same : {A : Type 0} (p q : A → Bool) (d : A) (xs : List A) → ((i : ℕ) → i < length xs → p (get_or xs i d) ≡ q (get_or xs i d)) → count_by p xs ≡ count_by q xs
count_same p q d [] h = refl
count_same p q d (x ∷ xs) h =
    sum_by-cons (λ y. cond (p y) 1 0) x xs
    ∙ ap₂ (λ (t : Bool) (n : ℕ). cond t 1 0 + n) (h 0 (omega arith)) (count_same p q d xs (λ i l. h (suc i) (omega arith)))
    ∙ sym (sum_by-cons (λ y. cond (q y) 1 0) x xs)

count_none : {A : Type 0} (xs : List A) → count_by (λ x. false) xs ≡ 0
count_none [] = refl
count_none (x ∷ xs) = omega (arith, sum_by-cons (λ y. cond false 1 0) x xs, count_none xs)

-- ---- the columns of an entry

-- those before it, its own, and the rest
part : (ws : List ℕ) (first span : ℕ) → nonzero_before ws (first + span) ≡ nonzero_before ws first + nonzero (take span (drop first ws))
part ws first span = rw (take-add first span ws) (nonzero_append (take first ws) (take span (drop first ws)))

same_test : (a m : ℕ) → eqb a (a + m) ≡ eqb m 0
same_test a m = go (ℕ_discrete m 0)
  where
    go : Dec (m ≡ 0) → eqb a (a + m) ≡ eqb m 0
    go (yes e) = eq-eqb a (a + m) (omega arith) ∙ sym (eq-eqb m 0 e)
    go (no f) = ne_eqb a (a + m) (λ e. f (omega arith)) ∙ sym (ne_eqb m 0 f)

whole : (n : ℕ) (ws : List ℕ) → nonzero ws ≡ nonzero_before ws n + nonzero (drop n ws)
whole n ws = rw (take-append-drop n ws) at (nonzero_append (take n ws) (drop n ws))

-- if none is 0 wide, those of an entry that has a column are not
full : (ws : List ℕ) (first span : ℕ) → nonzero ws ≡ length ws → 1 ≤ span → first + span ≤ length ws → 1 ≤ nonzero (take span (drop first ws))
full ws first span e s h =
    omega (
      arith,
      part ws first span,
      whole (first + span) ws,
      nonzero_le (take first ws),
      length-take-le first ws (omega arith),
      nonzero_le (drop (first + span) ws),
      length-drop (first + span) ws,
    )

-- ---- all entries

module _ {es : List Entry} {column before₀ before : List ℕ} (p : MissingInPre es column before₀) (b : before ≡ up_to (length before₀) (nonzero_before column)) where
  count_at : (k : ℕ) → k ≤ length column → get_or before k 0 ≡ nonzero_before column k
  count_at k h = rw b (at_up_to (length before₀) (nonzero_before column) k (omega (arith, p.counts.places)))

  pub missing_counted : missing_by before es ≡ missing_count column es
  missing_counted = count_same (none_counted before) (none_wide column) no_entry es each
    where
      each : (i : ℕ) → i < length es → none_counted before (get_or es i no_entry) ≡ none_wide column (get_or es i no_entry)
      each i h =
          let e = get_or es i no_entry in
          let l = p.spanned.ends i h in
          rw (count_at e.first (omega arith), count_at (e.first + e.span) l, part column e.first e.span) (same_test (nonzero_before column e.first) _)

  pub none_missing : get_or before (length column) 0 ≡ length column → 0 ≡ missing_count column es
  none_missing f = sym (count_same (none_wide column) (λ (e : Entry). false) no_entry es each ∙ count_none es)
    where
      all : nonzero column ≡ length column
      all = ap nonzero (sym (take_all (length column) column (omega arith))) ∙ sym (count_at (length column) (omega arith)) ∙ f

      each : (i : ℕ) → i < length es → none_wide column (get_or es i no_entry) ≡ false
      each i h =
          let e = get_or es i no_entry in
          let m = full column e.first e.span all (p.spanned.some i h) (p.spanned.ends i h) in
          ne_eqb (nonzero (take e.span (drop e.first column))) 0 (λ z. omega arith)
