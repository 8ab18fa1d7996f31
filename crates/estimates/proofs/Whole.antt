-- The walk from the first line goes over the whole sheet, so that every result is written.
use mathlib.Core.Path.{◌≡◌, sym, ap, ◌∙◌}
use mathlib.Core.List.{List, ◌++◌}
use Prim.Native.Nat.{ℕ, ◌+◌, ◌-◌, ◌<◌}
use native.Mathlib.Omega.{arith}
use native.Mathlib.Decide.{dec_lt}
use lib.ListN.{length, get_or, drop, length-map, length-append, length-drop, get_or-map, get_or-append}
use lib.Seq.{ext_get_or, get_or-append-add, get_or-drop}
use Rattle.text.specs.declared.Estimate.{Estimate}
use Rattle.records.specs.declared.NodeRecord.{NodeRecord}
use Rattle.estimates.specs.Estimates.{none, unmeasured, est_of, estimates}
use Rattle.estimates.specs.inner.Sheet.{Sheet}
use Rattle.estimates.specs.inner.Meets.{Measured}
use Rattle.estimates.specs.inner.Cycle.{NodeMeets, est_at, done_of}
use Rattle.estimates.proofs.Laws.{length_all}

module _ {wrap : ℕ} {ls : List NodeRecord} {b c : List Estimate} {r : ℕ} (w : Sheet ls) (m : NodeMeets wrap ls b c 0 r) where
  to_the_end : r ≡ length ls
  to_the_end = go (dec_lt r (length ls))
    where
      go : Dec (r < length ls) → r ≡ length ls
      go (yes h) = absurd (omega (arith, w.top, m.ends h, w.under r m.passed.after h))
      go (no h) = omega (arith, m.passed.within)

  est_in : (k : ℕ) → get_or (estimates wrap ls) k none ≡ est_at (done_of wrap ls) k
  est_in k = get_or-map est_of (done_of wrap ls) k unmeasured

  many : length (estimates wrap ls) ≡ length ls
  many = length-map (done_of wrap ls) est_of ∙ length_all wrap ls

  at_place : (k : ℕ) → Dec (k < length ls) → get_or c k none ≡ get_or (estimates wrap ls ++ drop (length ls) b) k none
  at_place k (yes h) =
      m.passed.done k (omega arith) (omega (arith, to_the_end))
      ∙ sym (get_or-append (estimates wrap ls) (drop (length ls) b) none k (omega (arith, many)) ∙ est_in k)
  at_place k (no h) =
      let e : length (estimates wrap ls) + (k - length ls) ≡ k = omega (arith, many) in
      let f : length ls + (k - length ls) ≡ k = omega arith in
      m.passed.past k (omega (arith, to_the_end))
      ∙ sym
      (ap (λ (j : ℕ). get_or (estimates wrap ls ++ drop (length ls) b) j none) (sym e)
      ∙ get_or-append-add (estimates wrap ls) (drop (length ls) b) (k - length ls) none
      ∙ get_or-drop (length ls) b (k - length ls) none
      ∙ ap (λ (j : ℕ). get_or b j none) f)

  pub measured : length c ≡ length b → Measured wrap ls b c
  measured s =
      let n = m.passed.sized in
      record {
        results =
            ext_get_or none c (estimates wrap ls ++ drop (length ls) b)
            (omega (arith, length-append (estimates wrap ls) (drop (length ls) b), length-drop (length ls) b, many))
            (λ k h. at_place k (dec_lt k (length ls)));
        sound = λ k h. rw (est_in k) (m.passed.sound k (omega arith) (omega (arith, to_the_end)));
      }
