-- The loop that lists the missing entries: what stands in the first places, with what the rest of the entries gives, is what all give. Each entry of
-- the rest is listed or passed.
use mathlib.Core.Path.{◌≡◌, refl, sym, ap, ◌∙◌}
use mathlib.Core.Bool.{Bool, true, false, cond, not, ◌&&◌}
use lib.Dec.{eqb}
use mathlib.Core.List.{List, [], ◌∷◌, ◌++◌, append_assoc, append-nil}
use Prim.Native.Nat.{ℕ, suc, ◌+◌, ◌-◌, ◌≤◌, ◌<◌}
use native.Mathlib.Numerals.{add-one}
use native.Mathlib.Omega.{arith}
use lib.ListN.{length, get_or, take, drop, set, length-map, length-set, get_or-map, drop_of_length-le}
use lib.Seq.{drop-cons, take-suc-set, length-take-le}
use Rattle.records.specs.inner.NodeRecord.{no_entry}
use Rattle.records.specs.declared.Entry.{Entry}
use Rattle.columns.specs.Boxes.{Box}
use Rattle.placement.specs.inner.Rows.{bare_box, bare_boxes}
use Rattle.causes.specs.inner.Hidden.{none_shown, hidden, hidden_from, ListMissingPre, ListMissingPost}

-- ---- whether a cause is 0

-- the test of each, as std's `all` has it
pub none_shown_more : (c : ℕ) (cs : List ℕ) → none_shown (c ∷ cs) ≡ (not (eqb c 0) && none_shown cs)
unfolding none_shown
none_shown_more c cs = go (eqb c 0)
  where
    go : (t : Bool) → cond t false (none_shown cs) ≡ (not t && none_shown cs)
    go true = refl
    go false = refl

-- ---- the entries

pub record Sofar (es : List Entry) (cause missing₀ missing : List ℕ) (n i : ℕ) : Type 0 where
  pub at_most : i ≤ length es
  pub fewer : n ≤ i
  pub as_long : length missing ≡ length missing₀
  pub rest : take n missing ++ hidden_from i (drop i (bare_boxes es)) cause ≡ hidden_from 0 (bare_boxes es) cause

module _ {es : List Entry} {cause missing₀ : List ℕ} (p : ListMissingPre es cause missing₀) where
  abbrev bs : List Box
  bs = bare_boxes es

  module _ {missing : List ℕ} {n i : ℕ} (z : Sofar es cause missing₀ missing n i) where
    pub list_stop : length es ≤ i → ListMissingPost es cause missing n
    unfolding hidden_from
    list_stop h =
        let d : drop i bs ≡ [] = drop_of_length-le bs {i = i} (omega (arith, length-map es bare_box)) in
        record { count = sym (length-take-le n missing (omega (arith, z.at_most, z.fewer, z.as_long, p.capacity))) ∙ ap length (all d); front = all d }
      where
        all : drop i bs ≡ [] → take n missing ≡ hidden_from 0 bs cause
        all d = sym (append-nil (take n missing)) ∙ ap (λ (xs : List Box). take n missing ++ hidden_from i xs cause) (sym d) ∙ z.rest

    -- the entry at i, and whether a column of it is shown
    module _ (h : i < length es) {e : Entry} (q : e ≡ get_or es i no_entry) {from to : ℕ} (f : from ≡ e.first) (t : to ≡ e.first + e.span) {r : Bool}
        (s : r ≡ none_shown (take (to - from) (drop from cause))) where
      here : drop i bs ≡ bare_box e ∷ drop (i + 1) bs
      here =
          rw (add-one)
          (drop-cons bs i (bare_box no_entry) (omega (arith, length-map es bare_box))
          ∙ ap (λ (b : Box). b ∷ drop (suc i) bs) (get_or-map bare_box es i no_entry ∙ rw q))

      is_hidden : hidden cause (bare_box e) ≡ r
      is_hidden =
          let k : to - from ≡ e.span = omega arith in
          sym (s ∙ rw (k, f))

      pub list_take : r ≡ true → {v : ℕ} → v ≡ i → Sofar es cause missing₀ (set missing n v) (n + 1) (i + 1)
      unfolding hidden_from
      list_take y {v} w =
          record {
            at_most = omega arith;
            fewer = omega (arith, z.fewer);
            as_long = simp length-set z.as_long;
            rest = listed ∙ z.rest;
          }
        where
          capacity : n < length missing
          capacity = omega (arith, z.fewer, z.as_long, p.capacity)

          more : take (n + 1) (set missing n v) ≡ take n missing ++ (v ∷ [])
          more = rw add-one (take-suc-set missing n v capacity)

          listed : take (n + 1) (set missing n v) ++ hidden_from (i + 1) (drop (i + 1) bs) cause ≡ take n missing ++ hidden_from i (drop i bs) cause
          listed =
              ap (λ (xs : List ℕ). xs ++ hidden_from (i + 1) (drop (i + 1) bs) cause) more
              ∙ append_assoc (take n missing) (v ∷ []) (hidden_from (i + 1) (drop (i + 1) bs) cause)
              ∙ rw (here, is_hidden, y, w, add-one)

      pub list_pass : r ≡ false → Sofar es cause missing₀ missing n (i + 1)
      unfolding hidden_from
      list_pass y =
          record {
            at_most = omega arith;
            fewer = omega (arith, z.fewer);
            as_long = z.as_long;
            rest = passed ∙ z.rest;
          }
        where
          passed : take n missing ++ hidden_from (i + 1) (drop (i + 1) bs) cause ≡ take n missing ++ hidden_from i (drop i bs) cause
          passed = rw (here, is_hidden, y, add-one)
