-- What a line passes on, and whether it is too narrow, by the ways of the code.
use mathlib.Core.Path.{◌≡◌, sym, ap, ◌∙◌}
use mathlib.Core.Bool.{true, false}
use Prim.Native.Nat.{ℕ, ◌-◌, max}
use lib.Dec.{ltb}
use Rattle.std.specs.Prelude.{Option, Some, None}
use Rattle.text.specs.declared.Estimate.{Estimate}
use Rattle.available_width.specs.Walk.{takes_off, passed_on, too_narrow}
use Rattle.kinds.specs.declared.Kind.{Kind}

module _ (kind : Kind) (e : Estimate) (w : Option ℕ) where
  pub passes_none : w ≡ None → None ≡ passed_on kind e w
  unfolding passed_on
  passes_none h = sym (ap (passed_on kind e) h)

  pub narrow_none : w ≡ None → false ≡ too_narrow kind e w
  unfolding too_narrow
  narrow_none h = sym (ap (too_narrow kind e) h)

  module _ (v : ℕ) (h : w ≡ Some v) where
    pub passes_rest : takes_off kind ≡ true → (a b m : ℕ) → a ≡ v - e.prefix → b ≡ e.least - e.prefix → m ≡ max a b → Some m ≡ passed_on kind e w
    unfolding passed_on
    passes_rest t a b m p q r = ap Some (r ∙ (λ i. max (p i) (q i))) ∙ sym (ap (passed_on kind e) h ∙ rw t)

    pub passes_all : takes_off kind ≡ false → Some v ≡ passed_on kind e w
    unfolding passed_on
    passes_all t = sym (ap (passed_on kind e) h ∙ rw t)

    pub narrow_rest : takes_off kind ≡ true → (a b : ℕ) → a ≡ v - e.prefix → b ≡ e.least - e.prefix → ltb a b ≡ too_narrow kind e w
    unfolding too_narrow
    narrow_rest t a b p q = (λ i. ltb (p i) (q i)) ∙ sym (ap (too_narrow kind e) h ∙ rw t)
