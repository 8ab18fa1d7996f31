-- What the search for the first text inside a line finds is that text, and where it finds none there is none. By induction on the lines after it.
use mathlib.Core.Path.{◌≡◌, refl, sym, ap, subst, ◌∙◌}
use mathlib.Core.Bool.{Bool, true, false, cond, false≢true}
use mathlib.Core.List.{List, [], ◌∷◌}
use Prim.Native.Nat.{ℕ, zero, suc, ◌+◌, ◌-◌, ◌≤◌, ◌<◌}
use native.Mathlib.Decide.{ℕ_discrete, dec_lt}
use native.Mathlib.Omega.{arith}
use lib.Dec.{leb, eqb}
use lib.ListN.{length, get_or, drop, length-drop}
use borrow.Author.Tests.{eqb-true, eq-eqb, leb-true, leb-false}
use Rattle.std.specs.Prelude.{Option, Some, None}
use Rattle.std.proofs.lemmas.List.{get_or-drop}
use Rattle.kinds.specs.Kinds.{kind_number, text_kind}
use Rattle.records.specs.NodeRecord.{no_node}
use Rattle.records.specs.declared.NodeRecord.{NodeRecord}
use Rattle.spoken_text.specs.Text.{first_text, text_inside}
use Rattle.spoken_theorems.specs.Spoken.{depth_at, InsideLine, IsText, FirstText}

-- ---- in the lines from line k on, after a line of depth d

-- every line from line k up to line m is deeper
record DeeperTo (d k m : ℕ) (ls : List NodeRecord) : Type 0 where
  pub from : k ≤ m
  pub within : m < k + length ls
  pub deeper : (i : ℕ) → i + k ≤ m → d < (get_or ls i no_node).depth

abbrev TextAt : List NodeRecord → ℕ → Type 0
TextAt ls i = kind_number (get_or ls i no_node).kind ≡ text_kind

-- line m is the first text of these
record TextFound (d k m : ℕ) (ls : List NodeRecord) : Type 0 where
  pub reached : DeeperTo d k m ls
  pub text : TextAt ls (m - k)
  pub first : (i : ℕ) → i + k < m → TextAt ls i → ⊥

none_some : {A : Type 0} {n : ℕ} → ◌≡◌ {A = Option ℕ} None (Some n) → A
none_some e = let z : ◌≡◌ {A = ℕ} 0 1 = cc in absurd (omega arith)

differ : (n : ℕ) → eqb n text_kind ≡ false → n ≡ text_kind → ⊥
differ n q t = false≢true (sym q ∙ eq-eqb n text_kind t)

module _ (d k : ℕ) (l : NodeRecord) (ls : List NodeRecord) where
  found_here : d < l.depth → kind_number l.kind ≡ text_kind → TextFound d k k (l ∷ ls)
  found_here h t =
      let z : k - k ≡ 0 = omega arith in
      record {
        reached = record { from = omega arith; within = omega arith; deeper = λ i g. let n : i ≡ 0 = omega arith in rw n h };
        text = rw z t;
        first = λ i g. absurd (omega arith);
      }

  found_later : (m : ℕ) → d < l.depth → (kind_number l.kind ≡ text_kind → ⊥) → TextFound d (suc k) m ls → TextFound d k m (l ∷ ls)
  found_later m h n f =
      let z : m - k ≡ suc (m - suc k) = omega (arith, f.reached.from) in
      record {
        reached = record { from = omega (arith, f.reached.from); within = omega (arith, f.reached.within); deeper = λ i g. deeper i g };
        text = rw z f.text;
        first = λ i g t. first i g t;
      }
    where
      deeper : (i : ℕ) → i + k ≤ m → d < (get_or (l ∷ ls) i no_node).depth
      deeper zero g = h
      deeper (suc i) g = f.reached.deeper i (omega arith)

      first : (i : ℕ) → i + k < m → TextAt (l ∷ ls) i → ⊥
      first zero g t = n t
      first (suc i) g t = f.first i (omega arith) t

-- what is found
found : (d k : ℕ) (ls : List NodeRecord) (m : ℕ) → first_text d k ls ≡ Some m → TextFound d k m ls
unfolding first_text
found d k [] m e = none_some e
found d k (l ∷ ls) m e = go (leb l.depth d) refl (eqb (kind_number l.kind) text_kind) refl e (λ g. found d (suc k) ls m g)
  where
    go : (a : Bool) → leb l.depth d ≡ a → (b : Bool) → eqb (kind_number l.kind) text_kind ≡ b → cond a None (cond b (Some k) (first_text d (suc k) ls)) ≡ Some m
        → (first_text d (suc k) ls ≡ Some m → TextFound d (suc k) m ls) → TextFound d k m (l ∷ ls)
    go true p b q f ih = none_some f
    go false p true q f ih =
        let z : k ≡ m = cc in
        subst (λ (x : ℕ). TextFound d k x (l ∷ ls)) z (found_here d k l ls (leb-false l.depth d p) (eqb-true (kind_number l.kind) text_kind q))
    go false p false q f ih = found_later d k l ls m (leb-false l.depth d p) (differ (kind_number l.kind) q) (ih f)

-- where none is found, no line that is reached is a text
not_found : (d k : ℕ) (ls : List NodeRecord) → first_text d k ls ≡ None → (m : ℕ) → DeeperTo d k m ls → TextAt ls (m - k) → ⊥
unfolding first_text
not_found d k [] e m r t = absurd (omega (arith, r.from, r.within))
not_found d k (l ∷ ls) e m r t = go (leb l.depth d) refl (eqb (kind_number l.kind) text_kind) refl e (λ g. not_found d (suc k) ls g)
  where
    here : d < l.depth
    here = r.deeper 0 (omega (arith, r.from))

    rest : (m ≡ k → ⊥) → DeeperTo d (suc k) m ls
    rest n = record { from = omega (arith, r.from); within = omega (arith, r.within); deeper = λ i g. r.deeper (suc i) (omega arith) }

    by : Dec (m ≡ k) → eqb (kind_number l.kind) text_kind ≡ false → (first_text d (suc k) ls ≡ None → (m : ℕ) → DeeperTo d (suc k) m ls → TextAt ls (m - suc k) → ⊥)
        → first_text d (suc k) ls ≡ None → ⊥
    by (yes f) q ih g =
        let z : m - k ≡ 0 = omega arith in
        let a : TextAt (l ∷ ls) 0 = rw z at t in
        differ (kind_number l.kind) q a
    by (no f) q ih g =
        let z : m - k ≡ suc (m - suc k) = omega (arith, r.from) in
        ih g m (rest f) (rw z at t)

    go : (a : Bool) → leb l.depth d ≡ a → (b : Bool) → eqb (kind_number l.kind) text_kind ≡ b → cond a None (cond b (Some k) (first_text d (suc k) ls)) ≡ None
        → (first_text d (suc k) ls ≡ None → (n : ℕ) → DeeperTo d (suc k) n ls → TextAt ls (n - suc k) → ⊥) → ⊥
    go true p b q f ih = absurd (omega (arith, here, leb-true l.depth d p))
    go false p true q f ih = none_some (sym f)
    go false p false q f ih = by (ℕ_discrete m k) q ih f

-- ---- in the lines of a sheet

module _ (ks : List NodeRecord) (c : ℕ) where
  abbrev after : List NodeRecord
  after = drop c ks

  same : (i j : ℕ) → c + i ≡ j - 1 → get_or after i no_node ≡ get_or ks (j - 1) no_node
  same i j e = get_or-drop c ks i no_node ∙ ap (λ (n : ℕ). get_or ks n no_node) e

  -- a line inside line c is reached
  reached : (i : ℕ) → InsideLine ks c i → DeeperTo (depth_at ks c) (suc c) i after
  reached i w =
      record {
        from = omega (arith, w.after);
        within = omega (arith, w.after, w.within, length-drop c ks);
        deeper = λ j g. subst (λ (l : NodeRecord). depth_at ks c < l.depth) (sym (same j (suc (c + j)) (omega arith))) (w.deeper (suc (c + j)) (omega arith) (omega arith));
      }

  inside : (i : ℕ) → DeeperTo (depth_at ks c) (suc c) i after → InsideLine ks c i
  inside i r =
      record {
        after = omega (arith, r.from);
        within = omega (arith, r.from, r.within, length-drop c ks);
        deeper = λ j a b. subst (λ (l : NodeRecord). depth_at ks c < l.depth) (same (j - suc c) j (omega arith)) (r.deeper (j - suc c) (omega arith));
      }

  text_there : (i : ℕ) → c < i → IsText ks i → TextAt after (i - suc c)
  text_there i h t = ap (λ (l : NodeRecord). kind_number l.kind) (same (i - suc c) i (omega arith)) ∙ t

  pub first_found : (k : ℕ) → text_inside ks c ≡ Some k → FirstText ks c k
  first_found k e =
      let f = found (depth_at ks c) (suc c) after k e in
      record {
        inside = inside k f.reached;
        text = ap (λ (l : NodeRecord). kind_number l.kind) (sym (same (k - suc c) k (omega (arith, f.reached.from)))) ∙ f.text;
        first = λ i w t. first f i w t (dec_lt i k);
      }
    where
      first : TextFound (depth_at ks c) (suc c) k after → (i : ℕ) → InsideLine ks c i → IsText ks i → Dec (i < k) → k ≤ i
      first f i w t (yes h) = absurd (f.first (i - suc c) (omega (arith, w.after, h)) (text_there i w.after t))
      first f i w t (no h) = omega arith

  pub none_first : text_inside ks c ≡ None → (k : ℕ) → FirstText ks c k → ⊥
  none_first e k f = not_found (depth_at ks c) (suc c) after e k (reached k f.inside) (text_there k f.inside.after f.text)

  -- there is one first text
  pub one_first : (k i : ℕ) → FirstText ks c k → FirstText ks c i → k ≡ i
  one_first k i f g = omega (arith, f.first i g.inside g.text, g.first k f.inside f.text)
