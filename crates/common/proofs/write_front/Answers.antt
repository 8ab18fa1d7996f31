-- `common::write_front` meets its contract: a turn writes the figure of one record more.
use mathlib.Core.Path.{refl, sym, ap, ◌∙◌}
use mathlib.Core.List.{[], ◌∷◌, ◌++◌, map, map-append}
use Prim.Native.Nat.{ℕ}
use native.Mathlib.Numerals.{add-one}
use native.Mathlib.Omega.{arith}
use lib.ListN.{length, take}
use lib.Seq.{take-suc}
use Rattle.std.proofs.lemmas.Fn.{says_at}
use Rattle.std.proofs.lemmas.List.{take_more_set, drop-set-lt}
use Rattle.common.proofs.write_front.Goals as goal

pub loop-i-preserved : goal.loop-i-preserved
loop-i-preserved t c = (
  λ f h.
      let xs = c.args.records.now in
      let x = c.index-records-i.result in
      let i = c.loop-i.i in
      let v = h x c.figure.result (says_at t.F.Fn c.figure.ensures refl) in
      take_more_set c.loop-i.buffer i c.figure.result (omega (arith, c.loop-i-test.true, c.requires.capacity, c.loop-i.auto.buffer))
      ∙ (λ j. c.loop-i.invariant.0 f h j ++ (v j ∷ []))
      ∙ sym
      (ap (λ (k : ℕ). map f (take k xs)) (add-one i)
      ∙ ap (map f) (take-suc xs i x c.loop-i-test.true ∙ ap (λ y. take i xs ++ (y ∷ [])) (sym c.index-records-i.is))
      ∙ map-append f (take i xs) (x ∷ [])),
  drop-set-lt (length c.args.records.now) c.loop-i.buffer c.loop-i.i c.figure.result c.loop-i-test.true ∙ c.loop-i.invariant.1,
)
