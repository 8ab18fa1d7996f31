-- What hangs in a slice: the first k were put, h of them are used up, and the others hang.
use mathlib.Core.Path.{◌≡◌, refl, sym, ap, ap₂, ◌∙◌}
use mathlib.Core.Bool.{Bool, true, false, cond}
use mathlib.Core.List.{List, [], ◌∷◌, ◌++◌, map, map-append, append_assoc, append-nil}
use Prim.Native.Nat.{ℕ, zero, suc, ◌+◌, ◌-◌, ◌≤◌, ◌<◌}
use native.Mathlib.Numerals.{add-one}
use native.Mathlib.Nat.{add-zero}
use native.Mathlib.Omega.{arith}
use lib.Dec.{ltb}
use lib.ListN.{length, get_or, set, take, length-append}
use lib.Seq.{take-suc-set, length-take-le, get_or-take, get_or-append_seam}
use borrow.Author.Tests.{lt-ltb, le-ltb}
use Rattle.grid_row.specs.Row.{Item, item, rows_below, hang_of}
use Rattle.owners.specs.declared.Hanging.{Hanging}
use Rattle.owners.specs.inner.Finding.{onward, PutPost}

abbrev pub hanging : ℕ → ℕ → Hanging
hanging owner left = record { owner = owner; left = left }

-- ---- what hangs of an entry

pub onward_more : (owner left : ℕ) → 1 < left → onward owner left ≡ hanging owner (left - 1) ∷ []
unfolding onward
onward_more owner left h = rw (lt-ltb 1 left h, onward)

pub onward_none : (owner left : ℕ) → left ≤ 1 → onward owner left ≡ []
unfolding onward
onward_none owner left h = rw (le-ltb 1 left h, onward)

module _ (k owner left : ℕ) (hung : List Hanging) where
  pub put_none : left ≤ 1 → PutPost k owner left k hung hung
  put_none h =
      let e = onward_none owner left h in
      record { count = rw (e, add-zero k); front = rw e (sym (append-nil (take k hung))) }

  pub put_more : 1 < left → k < length hung → PutPost k owner left (k + 1) hung (set hung k (hanging owner (left - 1)))
  put_more h l =
      let e = onward_more owner left h in
      record { count = rw e; front = rw (e, add-one k) (take-suc-set hung k (hanging owner (left - 1)) l) }

onward_few : (owner left : ℕ) → length (onward owner left) ≤ 1
unfolding onward
onward_few owner left = go (ltb 1 left)
  where
    go : (b : Bool) → length (cond b (hanging owner (left - 1) ∷ []) []) ≤ 1
    go true = omega arith
    go false = omega arith

-- an item that hangs
abbrev pub hung_of : Item → Hanging
hung_of x = hanging x.owner x.left

pub onward_item : (x : Item) → map hung_of (hang_of x) ≡ onward x.owner x.left
unfolding onward hang_of
onward_item x = go (ltb 1 x.left)
  where
    go : (b : Bool) → map hung_of (cond b (item x.owner true (x.left - 1) x.pos x.span ∷ []) []) ≡ cond b (hanging x.owner (x.left - 1) ∷ []) []
    go true = refl
    go false = refl

-- a cell of no rows leaves as little as one of one row
pub onward_rows : (owner rows : ℕ) → onward owner (suc (rows_below rows)) ≡ onward owner rows
unfolding onward
onward_rows owner zero = refl
onward_rows owner (suc n) = ap (onward owner) (omega arith)

-- ---- the slice

-- the first k of a slice, of which h are used up and the others hang
pub record Queue (q : List Item) (hung : List Hanging) (h k : ℕ) : Type 0 where
  pub gone : List Hanging
  pub passed : length gone ≡ h
  pub front : take k hung ≡ gone ++ map hung_of q

abbrev pub no_hanging : Hanging
no_hanging = hanging 0 0

module _ {q : List Item} {hung : List Hanging} {h k : ℕ} (z : Queue q hung h k) (few : k ≤ length hung) where
  -- the first of those that hang
  module _ {x : Item} {behind : List Item} (e : q ≡ x ∷ behind) where
    here : take k hung ≡ z.gone ++ (hung_of x ∷ map hung_of behind)
    here = z.front ∙ ap (λ (l : List Item). z.gone ++ map hung_of l) e

    pub hung_there : h < k
    hung_there =
        omega (arith, z.passed, length-take-le k hung few, ap length here, length-append z.gone (hung_of x ∷ map hung_of behind))

    pub hung_first : get_or hung h no_hanging ≡ hung_of x
    hung_first =
        sym (get_or-take k hung h no_hanging hung_there)
        ∙ ap (λ (l : List Hanging). get_or l h no_hanging) here
        ∙ ap (λ (n : ℕ). get_or (z.gone ++ (hung_of x ∷ map hung_of behind)) n no_hanging) (sym z.passed)
        ∙ get_or-append_seam z.gone (hung_of x) (map hung_of behind) no_hanging

  -- what hangs of an entry is put
  module _ {r : ℕ} {after : List Hanging} (x : Item) where
    pub queue_cell : PutPost k x.owner x.left r hung after → Queue (q ++ hang_of x) after h r
    queue_cell p = record {
      gone = z.gone;
      passed = z.passed;
      front =
          p.front
          ∙ ap₂ (λ (a b : List Hanging). a ++ b) z.front (sym (onward_item x))
          ∙ append_assoc z.gone (map hung_of q) (map hung_of (hang_of x))
          ∙ ap (λ (l : List Hanging). z.gone ++ l) (sym (map-append hung_of q (hang_of x)));
    }

    pub queue_hung : {behind : List Item} → q ≡ x ∷ behind → PutPost k x.owner x.left r hung after → Queue (behind ++ hang_of x) after (h + 1) r
    queue_hung {behind} e p = record {
      gone = z.gone ++ (hung_of x ∷ []);
      passed = omega (arith, length-append z.gone (hung_of x ∷ []), z.passed);
      front =
          p.front
          ∙ ap₂ (λ (a b : List Hanging). a ++ b) (here e) (sym (onward_item x))
          ∙ append_assoc z.gone (hung_of x ∷ map hung_of behind) (map hung_of (hang_of x))
          ∙ ap (λ (l : List Hanging). z.gone ++ (hung_of x ∷ l)) (sym (map-append hung_of behind (hang_of x)))
          ∙ sym (append_assoc z.gone (hung_of x ∷ []) (map hung_of (behind ++ hang_of x)));
    }

-- what leaves as much is put in the same way
pub put_same : {k o l o' l' r : ℕ} {before after : List Hanging} → onward o l ≡ onward o' l' → PutPost k o l r before after → PutPost k o' l' r before after
put_same e p = record { count = p.count ∙ rw e; front = p.front ∙ rw e }

pub put_few : {k owner left r n : ℕ} {before after : List Hanging} → PutPost k owner left r before after → k ≤ n → r ≤ n + 1
put_few {k} {owner} {left} p h = omega (arith, p.count, onward_few owner left)
