-- The loop over a text's bytes: what is left of the text, read on from here, comes to what the whole text comes to.
use mathlib.Core.Bool.{Bool, true, false, cond}
use mathlib.Core.Path.{◌≡◌, refl, sym, ap, ◌∙◌}
use Rattle.std.specs.Prelude.{Option, None, Some, Err}
use mathlib.Core.List.{List, [], ◌∷◌}
use Prim.Native.Nat.{ℕ, zero, suc, ◌+◌, ◌-◌, ◌≤◌, ◌<◌}
use native.Mathlib.Numerals.{add-one}
use native.Mathlib.Omega.{arith}
use lib.Dec.{eqb, ltb}
use lib.IntN.{ℤ}
use lib.ListN.{length, drop, get_or, set, length-set, drop_of_length-le}
use lib.Seq.{drop-cons, get_or-set_same, get_or-set_other}
use borrow.Author.Tests.{eq-eqb, ne_eqb, eqb-true, eqb-false, lt-ltb, le-ltb, ltb-true, ltb-false}
use Rattle.evaluator.specs.declared.Frame.{Frame}
use Rattle.evaluator.specs.declared.Top.{Top}
use Rattle.evaluator.specs.declared.Top.TheVariants.{Want}
use Rattle.common.specs.declared.Reason.TheVariants.{NoExpression}
use Rattle.expression.specs.Machine.{Waiting, fresh, Place, wrong, want, have, State, state, total, wanted, inner, opened, closed, step, finish, run, start}
use Rattle.expression.specs.Answers.{values, answer_by, answer_of}
use Rattle.evaluator.specs.inner.Waiting.{onto_of, waiting_of, place_of, opening_at, end_at, nothing, outer_of, Small, SteppedPost}

outer_length : (n : ℕ) (l : List Frame) → length (outer_of n l) ≡ n
unfolding outer_of
outer_length zero l = refl
outer_length (suc n) l = ap suc (outer_length n l)

outer_set : (n : ℕ) (l : List Frame) (j : ℕ) (f : Frame) → n ≤ j → outer_of n (set l j f) ≡ outer_of n l
unfolding outer_of
outer_set zero l j f h = refl
outer_set (suc n) l j f h =
    let o : outer_of n (set l j f) ≡ outer_of n l = outer_set n l j f (omega arith) in
    let g : get_or (set l j f) n nothing ≡ get_or l n nothing = get_or-set_other l j n f nothing (omega arith) in
    rw (o, g)

outer_push : (n : ℕ) (l : List Frame) (f : Frame) → n < length l → outer_of (n + 1) (set l n f) ≡ waiting_of f ∷ outer_of n l
unfolding outer_of
outer_push n l f h =
    let g : get_or (set l n f) n nothing ≡ f = get_or-set_same l n f nothing h in
    rw (add-one n, outer_set n l n f (omega arith), g)

outer_pop : (n : ℕ) (l : List Frame) → (n ≡ 0 → ⊥) → outer_of n l ≡ waiting_of (get_or l (n - 1) nothing) ∷ outer_of (n - 1) l
unfolding outer_of
outer_pop zero l h = absurd (h refl)
outer_pop (suc n) l h = let e : suc n - 1 ≡ n = omega arith in rw e

same : {X : Type 0} (b : Bool) (x : X) → cond b x x ≡ x
same true x = refl
same false x = refl

-- what is wrong stays so
lost_step : (fs : List (Waiting (Option ℤ))) (c : ℕ) → step values (state wrong fs) c ≡ state wrong fs
unfolding step opened wanted closed total inner
lost_step fs c =
    ap (λ (s : State (Option ℤ)). cond (eqb c 40) (state wrong fs) s) (same (eqb c 41) (state wrong fs)) ∙ same (eqb c 40) (state wrong fs)

no_finish : (l : List (Waiting (Option ℤ))) → finish {A = Option ℤ} None l ≡ None
unfolding finish
no_finish [] = refl
no_finish (f ∷ l) = refl

lost : (fs : List (Waiting (Option ℤ))) (cs : List ℕ) → run values (state wrong fs) cs ≡ None
unfolding run total
lost fs [] = no_finish fs
lost fs (c ∷ cs) = ap (λ (s : State (Option ℤ)). run values s cs) (lost_step fs c) ∙ lost fs cs

pub record Sofar (text : List ℕ) (outer : List Frame) (depth : ℕ) (place : Top) (i : ℕ) : Type 0 where
  pub in_text : i ≤ length text
  pub deep : depth ≤ 32
  pub places : length outer ≡ 32
  pub small : Small place
  pub is : run values (state (place_of place) (outer_of depth outer)) (drop i text) ≡ run values start text

-- what each kind of byte does
on_open : (p : Place (Option ℤ)) (fs : List (Waiting (Option ℤ))) (c : ℕ) → c ≡ 40 → step values (state p fs) c ≡ opened (wanted p) fs
unfolding step
on_open p fs c e = rw (eq-eqb c 40 e)

on_close : (p : Place (Option ℤ)) (fs : List (Waiting (Option ℤ))) (c : ℕ) → c ≡ 41 → step values (state p fs) c ≡ closed (total values p) fs
unfolding step
on_close p fs c e = let n : eqb c 40 ≡ false = ne_eqb c 40 (omega arith) in rw (n, eq-eqb c 41 e)

on_other : (p : Place (Option ℤ)) (fs : List (Waiting (Option ℤ))) (c : ℕ) → (c ≡ 40 → ⊥) → (c ≡ 41 → ⊥) → step values (state p fs) c ≡ state (inner values c p) fs
unfolding step
on_other p fs c h g = rw (ne_eqb c 40 h, ne_eqb c 41 g)

deep_bracket : (x : Option (Waiting (Option ℤ))) (fs : List (Waiting (Option ℤ))) → 32 ≤ length fs → opened x fs ≡ state wrong fs
unfolding opened
deep_bracket None fs h = refl
deep_bracket (Some f) fs h = rw (le-ltb (length fs) 32 h)

next_bracket : (f : Waiting (Option ℤ)) (fs : List (Waiting (Option ℤ))) → length fs < 32 → opened (Some f) fs ≡ state (want fresh) (f ∷ fs)
unfolding opened
next_bracket f fs h = rw (lt-ltb (length fs) 32 h)

unopened : (x : Option (Option ℤ)) → closed x [] ≡ state wrong []
unfolding closed
unopened None = refl
unopened (Some x) = refl

-- a bracket opens only within fewer than 32
pub opening_told : (depth : ℕ) (p : Place (Option ℤ)) (f : Waiting (Option ℤ)) → Some f ≡ opening_at depth p → (depth < 32) × (Some f ≡ wanted p)
unfolding opening_at
opening_told depth p f e = go (ltb depth 32) refl e
  where
    go : (u : Bool) → ltb depth 32 ≡ u → Some f ≡ cond u (wanted p) None → (depth < 32) × (Some f ≡ wanted p)
    go true d w = (ltb-true depth 32 d, w)
    go false d w = let z : ◌≡◌ {A = ℕ} 0 1 = cc in absurd (omega arith)

pub begin : (text : List ℕ) (outer : List Frame) → length outer ≡ 32 → Sofar text outer 0 (Want nothing) 0
unfolding outer_of
begin text outer h = record { in_text = omega arith; deep = omega arith; places = h; small = tt; is = refl }

module _ {text : List ℕ} {outer : List Frame} {depth : ℕ} {place : Top} {i : ℕ} (s : Sofar text outer depth place i) where
  abbrev fs : List (Waiting (Option ℤ))
  fs = outer_of depth outer

  ahead : i < length text → run values (step values (state (place_of place) fs) (get_or text i 0)) (drop (i + 1) text) ≡ run values start text
  unfolding run
  ahead h =
      rw (add-one i) (ap (run values (state (place_of place) fs)) (sym (drop-cons text i 0 h)) ∙ s.is)

  goes_on : {t : State (Option ℤ)} → i < length text → step values (state (place_of place) fs) (get_or text i 0) ≡ t → run values t (drop (i + 1) text) ≡ run values start text
  goes_on h e = ap (λ (t : State (Option ℤ)). run values t (drop (i + 1) text)) (sym e) ∙ ahead h

  refused : {l : List (Waiting (Option ℤ))} → i < length text → step values (state (place_of place) fs) (get_or text i 0) ≡ state wrong l → Err NoExpression ≡ answer_of text
  unfolding answer_of answer_by
  refused {l} h e = ap answer_by (sym (lost l (drop (i + 1) text)) ∙ goes_on h e)

  no_capacity : i < length text → get_or text i 0 ≡ 40 → None ≡ wanted (place_of place) → Err NoExpression ≡ answer_of text
  unfolding opened
  no_capacity h e w =
      refused h (on_open (place_of place) fs (get_or text i 0) e ∙ ap (λ (o : Option (Waiting (Option ℤ))). opened o fs) (sym w))

  too_deep : i < length text → get_or text i 0 ≡ 40 → 32 ≤ depth → Err NoExpression ≡ answer_of text
  too_deep h e d =
      refused h
      (on_open (place_of place) fs (get_or text i 0) e ∙ deep_bracket (wanted (place_of place)) fs (omega (arith, outer_length depth outer)))

  pub no_opening : i < length text → get_or text i 0 ≡ 40 → None ≡ opening_at depth (place_of place) → Err NoExpression ≡ answer_of text
  unfolding opening_at
  no_opening h e w = go (ltb depth 32) refl w
    where
      go : (u : Bool) → ltb depth 32 ≡ u → None ≡ cond u (wanted (place_of place)) None → Err NoExpression ≡ answer_of text
      go true d w = no_capacity h e w
      go false d w = too_deep h e (ltb-false depth 32 d)

  opens_in : (f : Frame) → i < length text → get_or text i 0 ≡ 40 → Some (waiting_of f) ≡ wanted (place_of place) → depth < 32 → Sofar text (set outer depth f) (depth + 1) (Want nothing) (i + 1)
  opens_in f h e w d =
      record {
        in_text = omega arith;
        deep = omega arith;
        places = length-set outer depth f ∙ s.places;
        small = tt;
        is =
            ap (λ (l : List (Waiting (Option ℤ))). run values (state (want fresh) l) (drop (i + 1) text))
            (outer_push depth outer f (omega (arith, s.places)))
            ∙ goes_on h
            (on_open (place_of place) fs (get_or text i 0) e
            ∙ ap (λ (o : Option (Waiting (Option ℤ))). opened o fs) (sym w)
            ∙ next_bracket (waiting_of f) fs (omega (arith, outer_length depth outer)));
      }

  pub opens : (f : Frame) → i < length text → get_or text i 0 ≡ 40 → Some (waiting_of f) ≡ opening_at depth (place_of place)
      → Sofar text (set outer depth f) (depth + 1) (Want nothing) (i + 1)
  opens f h e w = let (d, v) = opening_told depth (place_of place) (waiting_of f) w in opens_in f h e v d

  pub no_end : i < length text → get_or text i 0 ≡ 41 → None ≡ total values (place_of place) → Err NoExpression ≡ answer_of text
  unfolding closed
  no_end h e w =
      refused h (on_close (place_of place) fs (get_or text i 0) e ∙ ap (λ (o : Option (Option ℤ)). closed o fs) (sym w))

  pub not_open : i < length text → get_or text i 0 ≡ 41 → depth ≡ 0 → Err NoExpression ≡ answer_of text
  unfolding outer_of
  not_open h e d =
      refused h
      (on_close (place_of place) fs (get_or text i 0) e
      ∙ ap (λ (n : ℕ). closed (total values (place_of place)) (outer_of n outer)) d
      ∙ unopened (total values (place_of place)))

  pub closes : (r : Top) (x : Option ℤ) → i < length text → get_or text i 0 ≡ 41 → Some x ≡ total values (place_of place) → (depth ≡ 0 → ⊥) → place_of r ≡ have (onto_of (get_or outer (depth - 1) nothing).sum) (onto_of (get_or outer (depth - 1) nothing).product x) → Small r → Sofar text outer (depth - 1) r (i + 1)
  unfolding closed
  closes r x h e w d q z =
      record {
        in_text = omega arith;
        deep = omega (arith, s.deep);
        places = s.places;
        small = z;
        is =
            ap (λ (p : Place (Option ℤ)). run values (state p (outer_of (depth - 1) outer)) (drop (i + 1) text)) q
            ∙ goes_on h
            (on_close (place_of place) fs (get_or text i 0) e
            ∙ ap (λ (o : Option (Option ℤ)). closed o fs) (sym w)
            ∙ ap (λ (l : List (Waiting (Option ℤ))). closed (Some x) l) (outer_pop depth outer d));
      }

  pub moves : (r : Top) → i < length text → (get_or text i 0 ≡ 40 → ⊥) → (get_or text i 0 ≡ 41 → ⊥) → SteppedPost (get_or text i 0) place r → Sofar text outer depth r (i + 1)
  moves r h a b t =
      record {
        in_text = omega arith;
        deep = s.deep;
        places = s.places;
        small = t.small;
        is =
            ap (λ (p : Place (Option ℤ)). run values (state p fs) (drop (i + 1) text)) t.is
            ∙ goes_on h (on_other (place_of place) fs (get_or text i 0) a b);
      }

  ends : length text ≤ i → finish (total values (place_of place)) fs ≡ run values start text
  unfolding run
  ends h = ap (run values (state (place_of place) fs)) (sym (drop_of_length-le text {i = i} h)) ∙ s.is

  pub ended_as : length text ≤ i → answer_by (end_at depth (place_of place)) ≡ answer_of text
  unfolding answer_of end_at finish outer_of
  ended_as h = go (eqb depth 0) refl
    where
      go : (u : Bool) → eqb depth 0 ≡ u → answer_by (cond u (total values (place_of place)) None) ≡ answer_by (run values start text)
      go true d = ap answer_by (ap (λ (n : ℕ). finish (total values (place_of place)) (outer_of n outer)) (sym (eqb-true depth 0 d)) ∙ ends h)
      go false d = ap answer_by (ap (finish (total values (place_of place))) (sym (outer_pop depth outer (eqb-false depth 0 d))) ∙ ends h)
