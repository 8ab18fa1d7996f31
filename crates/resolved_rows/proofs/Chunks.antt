-- The cells of a row as a chain goes through them, three numbers at a time, and what their cols come to.
use mathlib.Core.Path.{◌≡◌, refl, sym, ap, ◌∙◌}
use mathlib.Core.List.{List, [], ◌∷◌, map}
use Prim.Native.Nat.{ℕ, zero, suc, ◌+◌, ◌*◌, ◌/◌, ◌≤◌, ◌<◌, max}
use native.Mathlib.Omega.{arith}
use lib.ListN.{length, get_or, take, drop, length-append}
use lib.Seq.{take_at, drop_at}
use Rattle.std.specs.declared.slice.ChunksExact.{ChunksExact}
use Rattle.std.specs.Iterator.{AlwaysYields}
use Rattle.std.specs.Slice.Iter.{chunks_exact_rest, chunks_exact_size, chunks_exact_steps}
use Rattle.std.specs.List.{sum_by}
use Rattle.std.proofs.lemmas.Iterator.{YieldsList}
use Rattle.std.proofs.lemmas.List.Recursion.{is_sum_by}
use Rattle.common.specs.Lists.{sum}
use Rattle.records.specs.inner.Records.{records, records_of}
use Rattle.resolved_rows.specs.Cells.{row_sum}
use Rattle.resolved_rows.specs.inner.Held.{cell_by, held_span, figures, spans_of}
use Rattle.resolved_rows.specs.inner.Spans.{bare}

-- so many whole chunks come
come : (n : ℕ) (s : ChunksExact ℕ) → chunks_exact_size s ≡ 3 → 3 * n ≤ length (chunks_exact_rest s) → length (chunks_exact_rest s) < 3 * n + 3
    → AlwaysYields chunks_exact_steps (λ x. x.now) s (records 3 n (chunks_exact_rest s))
unfolding records
come zero s e h g = λ x t p. omega (arith, e, g, p.1.1, ap length p.1.0, length-append x.now (chunks_exact_rest t))
come (suc n) s e h g = (
  λ t p. omega (arith, e, h, p.1.0),
  λ x t p.
      let k : length x.now ≡ 3 = p.1.1 ∙ e in
      let l = ap length p.1.0 ∙ length-append x.now (chunks_exact_rest t) in
      let front : take 3 (chunks_exact_rest s) ≡ x.now = ap (take 3) p.1.0 ∙ take_at x.now (chunks_exact_rest t) 3 k in
      let back : drop 3 (chunks_exact_rest s) ≡ chunks_exact_rest t = ap (drop 3) p.1.0 ∙ drop_at x.now (chunks_exact_rest t) 3 k in
      (sym front, rw back (come n t (p.0 ∙ e) (omega arith) (omega arith))),
)

pub cells_come : (xs : List ℕ) {s : ChunksExact ℕ} → chunks_exact_rest s ≡ xs → chunks_exact_size s ≡ 3
    → YieldsList chunks_exact_steps (λ x. x.now) s (records 3 (length xs / 3) xs)
cells_come xs {s} r e = rw (sym r) (record { runs = come (length (chunks_exact_rest s) / 3) s e (omega arith) (omega arith) })

-- a cell's cols, 0 as 1
abbrev pub wide_of : List ℕ → ℕ
wide_of r = max (get_or r 1 0) 1

abbrev pub wides : List ℕ → List ℕ
wides xs = map wide_of (records 3 (length xs / 3) xs)

wides_of : (rs : List (List ℕ)) → sum (map wide_of rs) ≡ row_sum (bare (map held_span (map cell_by rs)))
unfolding sum row_sum
wides_of [] = refl
wides_of (r ∷ rs) = ap (λ (k : ℕ). wide_of r + k) (wides_of rs)

pub wides_sum : (xs : List ℕ) → sum_by (λ x. x) (wides xs) ≡ row_sum (bare (spans_of xs))
unfolding sum figures records_of
wides_sum xs = sym (is_sum_by sum (λ x. x) refl (λ _ _. refl) (wides xs)) ∙ wides_of (records 3 (length xs / 3) xs)
