-- The kind at a place where a name and a space stand.
use mathlib.Core.Path.{◌≡◌, sym, ap, ◌∙◌}
use mathlib.Core.List.{List, [], ◌∷◌, ◌++◌}
use Prim.Native.Nat.{ℕ, suc, ◌+◌, ◌≤◌}
use native.Mathlib.Omega.{arith}
use lib.ListN.{length, get_or, drop}
use lib.Seq.{drop-cons}
use Rattle.std.specs.List.{slice_range}
use Rattle.std.proofs.lemmas.List.{take_rest}
use Rattle.std.proofs.lemmas.Slice.Eq.{HasBytesAt}
use Rattle.kinds.specs.declared.Kind.{Kind}
use Rattle.fields.specs.Blanks.{blank}
use Rattle.fields.specs.inner.Reading.{sound, kind_read}

-- bytes that are read from a place on stand there
front_reads : (s p : List ℕ) (i : ℕ) → i + length p ≤ length s → HasBytesAt s i p → drop i s ≡ p ++ drop (i + length p) s
front_reads s [] i n h = let e : i + 0 ≡ i = omega arith in rw e
front_reads s (c ∷ p) i n h =
    let e : suc i + length p ≡ i + suc (length p) = omega arith in
    drop-cons s i 0 (omega arith)
    ∙ ap (λ (b : ℕ). b ∷ drop (suc i) s) h.0
    ∙ ap (λ (l : List ℕ). c ∷ l) (front_reads s p (suc i) (omega arith) h.1 ∙ ap (λ (j : ℕ). p ++ drop j s) e)

module _ (name : List ℕ) (k : Kind) (named : (p : ℕ) (t : List ℕ) → kind_read p (name ++ (blank ∷ t)) ≡ sound k (p + length name + 1)) where
  pub front_named : (s : List ℕ) (at : ℕ) {r : List ℕ} {next : ℕ} → r ≡ slice_range s at (length s) → length name + 1 ≤ length r → HasBytesAt r 0 name
      → get_or r (length name) 0 ≡ blank → next ≡ at + length name + 1 → sound k next ≡ kind_read at (drop at s)
  front_named s at {r} h n b space e =
      let z : 0 + length name ≡ length name = omega arith in
      let cut : drop at s ≡ name ++ (blank ∷ drop (suc (length name)) r) =
      sym (take_rest s at) ∙ sym h ∙ front_reads r name 0 (omega arith) b
      ∙ ap (λ (j : ℕ). name ++ drop j r) z
      ∙ ap (λ (l : List ℕ). name ++ l) (drop-cons r (length name) 0 (omega arith) ∙ ap (λ (x : ℕ). x ∷ drop (suc (length name)) r) space) in
      rw (cut, e) (sym (named at _))
