-- Rows in columns: the set of edges replaced by one that agrees with it, what an answer says, lengths, which positions are ends, and
-- many rows in one list.
use mathlib.Core.Path.{◌≡◌, refl, sym, ap, ap₂, ◌∙◌, subst}
use mathlib.Core.Bool.{Bool, true, false, cond, ◌||◌, ◌&&◌, and_assoc, or_assoc, or_comm, or-false}
use mathlib.Core.List.{List, [], ◌∷◌, ◌++◌, append_assoc}
use Prim.Native.Nat.{ℕ, suc, ◌+◌, ◌-◌, ◌≤◌, ◌<◌}
use native.Mathlib.Omega.{arith}
use lib.Dec.{eqb}
use lib.ListN.{length, get_or, take, length-append}
use lib.Seq.{take_at, drop_at}
use borrow.Author.Tests.{eq-eqb}
use Rattle.common.proofs.Tests.{or_right}
use Rattle.common.specs.Lists.{sum, mem}
use Rattle.common.specs.Limits.{max_position}
use Rattle.std.specs.Prelude.{Some, None}
use Rattle.column_edges.specs.Edges.{count_below, ends_from, all_at}
use Rattle.column_edges.specs.inner.Edges.{part, rows_from, RowsFit, numbered_by}

-- ---- another description of the set: the words can be put aside

pub same_set : {f g : ℕ → Bool} → ((q : ℕ) → f q ≡ g q) → f ≡ g
same_set h = λ i q. h q i

-- ---- what an answer says of a row

pub numbered_done : (f : ℕ → Bool) (spans : List ℕ) (n : ℕ) → numbered_by f spans ≡ Some n → (all_at f (ends_from 0 spans) ≡ true) × (n ≡ count_below f (sum spans))
unfolding numbered_by
numbered_done f spans n e = pick (all_at f (ends_from 0 spans)) e
  where
    pick : (b : Bool) → cond b (Some (count_below f (sum spans))) None ≡ Some n → (b ≡ true) × (n ≡ count_below f (sum spans))
    pick true h = (refl, cc)
    pick false h = cc

pub numbered_missing : (f : ℕ → Bool) (spans : List ℕ) → numbered_by f spans ≡ None → all_at f (ends_from 0 spans) ≡ false
unfolding numbered_by
numbered_missing f spans e = pick (all_at f (ends_from 0 spans)) e
  where
    pick : (b : Bool) → cond b (Some (count_below f (sum spans))) None ≡ None → b ≡ false
    pick true h = cc
    pick false h = refl

-- ---- lengths

pub ends_length : (p : ℕ) (ss : List ℕ) → length (ends_from p ss) ≡ length ss
unfolding ends_from
ends_length p [] = refl
ends_length p (s ∷ ss) = ap suc (ends_length (p + s) ss)

-- ---- which positions are ends

pub mem_append : (q : ℕ) (xs ys : List ℕ) → mem q (xs ++ ys) ≡ (mem q xs || mem q ys)
unfolding mem
mem_append q [] ys = refl
mem_append q (x ∷ xs) ys = ap (λ (b : Bool). eqb q x || b) (mem_append q xs ys) ∙ sym (or_assoc (eqb q x) (mem q xs) (mem q ys))

-- a list whose members are in a set
pub all_mem : (f : ℕ → Bool) (ps : List ℕ) → ((q : ℕ) → mem q ps ≡ true → f q ≡ true) → all_at f ps ≡ true
unfolding all_at mem
all_mem f [] h = refl
all_mem f (p ∷ ps) h =
    ap₂ (λ (a b : Bool). a && b) (h p (ap (λ (b : Bool). b || mem p ps) (eq-eqb p p refl)))
    (all_mem f ps (λ q m. h q (or_right (eqb q p) (mem q ps) m)))

pub all_at_append : (f : ℕ → Bool) (ps qs : List ℕ) → all_at f (ps ++ qs) ≡ (all_at f ps && all_at f qs)
unfolding all_at
all_at_append f [] qs = refl
all_at_append f (p ∷ ps) qs = ap (λ (b : Bool). f p && b) (all_at_append f ps qs) ∙ sym (and_assoc (f p) (all_at f ps) (all_at f qs))

-- position 0 and the ends, as they are marked: `with(0)` on no edges, and then the rows
pub marked_from_zero : (q : ℕ) (ends : List ℕ) → (mem q ends || (eqb q 0 || false)) ≡ mem q (0 ∷ ends)
unfolding mem
marked_from_zero q ends = ap (λ (b : Bool). mem q ends || b) (or-false (eqb q 0)) ∙ or_comm (mem q ends) (eqb q 0)

-- ---- many rows in one list

-- rows one after another, and how many figures have passed with each, from a on
abbrev pub flat : List (List ℕ) → List ℕ
flat [] = []
flat (r ∷ rs) = r ++ flat rs

abbrev pub passed : ℕ → List (List ℕ) → List ℕ
passed a [] = []
passed a (r ∷ rs) = (a + length r) ∷ passed (a + length r) rs

-- a row that stands after xs
part_at : (xs r ys : List ℕ) → part (length xs) (length xs + length r) (xs ++ (r ++ ys)) ≡ r
part_at xs r ys =
    ap (take (length xs + length r - length xs)) (drop_at xs (r ++ ys) (length xs) refl)
    ∙ take_at r ys (length xs + length r - length xs) (omega arith)

-- the list with the next row counted to what has passed
regroup : (xs r s ys : List ℕ) → xs ++ ((r ++ s) ++ ys) ≡ (xs ++ r) ++ (s ++ ys)
regroup xs r s ys = simp append_assoc

-- such rows are found again
rows_after : (xs : List ℕ) (rs : List (List ℕ)) (ys : List ℕ) → rows_from (length xs) (passed (length xs) rs) (xs ++ (flat rs ++ ys)) ≡ rs
unfolding rows_from
rows_after xs [] ys = refl
rows_after xs (r ∷ rs) ys =
    ap₂ (λ (x : List ℕ) (y : List (List ℕ)). x ∷ y)
    (ap (λ (l : List ℕ). part (length xs) (length xs + length r) (xs ++ l)) (append_assoc r (flat rs) ys) ∙ part_at xs r (flat rs ++ ys))
    (ap₂ (λ (a : ℕ) (l : List ℕ). rows_from a (passed a rs) l) (sym (length-append xs r)) (regroup xs r (flat rs) ys) ∙ rows_after (xs ++ r) rs ys)

pub rows_flat : (rs : List (List ℕ)) (ys : List ℕ) → rows_from 0 (passed 0 rs) (flat rs ++ ys) ≡ rs
rows_flat rs ys = rows_after [] rs ys

fit_after : (xs : List ℕ) (rs : List (List ℕ)) (ys : List ℕ) → ((k : ℕ) → k < length rs → sum (get_or rs k []) ≤ max_position)
    → RowsFit (length xs) (passed (length xs) rs) (xs ++ (flat rs ++ ys))
unfolding RowsFit
fit_after xs [] ys h = omega (arith, length-append xs ys)
fit_after xs (r ∷ rs) ys h = (
  omega arith,
  omega (arith, ap length (regroup xs r (flat rs) ys), length-append (xs ++ r) (flat rs ++ ys), length-append xs r),
  subst (λ (l : List ℕ). sum l ≤ max_position)
      (sym (ap (λ (l : List ℕ). part (length xs) (length xs + length r) (xs ++ l)) (append_assoc r (flat rs) ys) ∙ part_at xs r (flat rs ++ ys))) (h 0 (omega arith)),
  rw (← length-append, regroup xs r (flat rs) ys) (fit_after (xs ++ r) rs ys (λ k l. h (suc k) (omega arith))),
)

-- and fit, where no row ends past position 4,096
pub rows_fit_flat : (rs : List (List ℕ)) (ys : List ℕ) → ((k : ℕ) → k < length rs → sum (get_or rs k []) ≤ max_position) → RowsFit 0 (passed 0 rs) (flat rs ++ ys)
rows_fit_flat rs ys h = fit_after [] rs ys h
