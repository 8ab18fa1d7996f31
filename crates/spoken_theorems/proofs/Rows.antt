-- An entry of a grid that is a filler stands in one of its rows, so what holds of the fillers of every row holds of its owner. By induction on the rows.
use mathlib.Core.Path.{◌≡◌, refl, sym, ap, subst, ◌∙◌}
use mathlib.Core.Bool.{Bool, true, false, cond}
use mathlib.Core.List.{List, [], ◌∷◌, ◌++◌}
use Prim.Native.Nat.{ℕ, zero, suc, ◌+◌, ◌-◌, ◌<◌}
use native.Mathlib.Decide.{dec_lt}
use native.Mathlib.Omega.{arith}
use lib.ListN.{length, take, length-append}
use Rattle.std.specs.Prelude.{Option, Some, None}
use Rattle.common.specs.Lists.{All}
use Rattle.grid.specs.Grid.{Entry, GridRow, entries_of}
use Rattle.grid.specs.Owners.{row_at}
use Rattle.owners.specs.Owner.{filler_owner}
use Rattle.spoken_theorems.specs.Spoken.{StandsInRow}

none_some : {A : Type 0} {n : ℕ} → ◌≡◌ {A = Option ℕ} None (Some n) → A
none_some e = let z : ◌≡◌ {A = ℕ} 0 1 = cc in absurd (omega arith)

-- what holds of each filler's owner holds of the one found
owner_has : (P : ℕ → Type 0) (xs : List Entry) (e c : ℕ) → filler_owner xs e ≡ Some c → All (λ x. x.filler ≡ true → P x.owner) xs → P c
unfolding All filler_owner
owner_has P [] e c f a = none_some f
owner_has P (x ∷ xs) zero c f a = go x.filler refl f
  where
    go : (b : Bool) → x.filler ≡ b → cond b (Some x.owner) None ≡ Some c → P c
    go true t g = let q : x.owner ≡ c = cc in subst P q (a.0 t)
    go false t g = none_some g
owner_has P (x ∷ xs) (suc e) c f a = owner_has P xs e c f a.1

-- an entry of one list before another, or of the other
owner_first : (xs ys : List Entry) (e : ℕ) → e < length xs → filler_owner (xs ++ ys) e ≡ filler_owner xs e
unfolding filler_owner
owner_first [] ys e h = absurd (omega arith)
owner_first (x ∷ xs) ys zero h = refl
owner_first (x ∷ xs) ys (suc e) h = owner_first xs ys e (omega arith)

owner_behind : (xs ys : List Entry) (e : ℕ) → filler_owner (xs ++ ys) (length xs + e) ≡ filler_owner ys e
unfolding filler_owner
owner_behind [] ys e = let z : 0 + e ≡ e = omega arith in ap (filler_owner ys) z
owner_behind (x ∷ xs) ys e = let z : suc (length xs) + e ≡ suc (length xs + e) = omega arith in ap (filler_owner (x ∷ xs ++ ys)) z ∙ owner_behind xs ys e

-- the row in which it stands, and what holds of the row's fillers
pub record InRow (Q : ℕ → ℕ → Type 0) (g : List GridRow) (e c : ℕ) : Type 0 where
  pub row : ℕ
  pub here : StandsInRow g row e
  pub has : Q row c

-- of every row
abbrev pub EachRow : (ℕ → ℕ → Type 0) → List GridRow → Type 0
EachRow Q g = (i : ℕ) → i < length g → All (λ x. x.filler ≡ true → Q i x.owner) (row_at g i).entries

pub in_row : (Q : ℕ → ℕ → Type 0) (g : List GridRow) → EachRow Q g → (e c : ℕ) → filler_owner (entries_of g) e ≡ Some c → InRow Q g e c
unfolding entries_of filler_owner
in_row Q [] a e c f = none_some f
in_row Q (r ∷ g) a e c f = go (dec_lt e (length r.entries)) (λ n. in_row (λ i o. Q (suc i) o) g (λ i h. a (suc i) (omega arith)) n c)
  where
    first : e < length r.entries → InRow Q (r ∷ g) e c
    first h =
        record {
          row = 0;
          here = record { row = omega arith; from = omega arith; to = omega (arith, h, length-append r.entries []) };
          has = owner_has (Q 0) r.entries e c (sym (owner_first r.entries (entries_of g) e h) ∙ f) (a 0 (omega arith));
        }

    later : (n : ℕ) → length r.entries + n ≡ e → InRow (λ i o. Q (suc i) o) g n c → InRow Q (r ∷ g) e c
    later n z w =
        record {
          row = suc w.row;
          here = record {
            row = omega (arith, w.here.row);
            from = omega (arith, z, w.here.from, length-append r.entries (entries_of (take w.row g)));
            to = omega (arith, z, w.here.to, length-append r.entries (entries_of (take (suc w.row) g)));
          };
          has = w.has;
        }

    go : Dec (e < length r.entries) → ((n : ℕ) → filler_owner (entries_of g) n ≡ Some c → InRow (λ i o. Q (suc i) o) g n c) → InRow Q (r ∷ g) e c
    go (yes h) ih = first h
    go (no h) ih =
        let n : ℕ = e - length r.entries in
        let z : length r.entries + n ≡ e = omega arith in
        later n z (ih n (sym (owner_behind r.entries (entries_of g) n) ∙ ap (filler_owner (r.entries ++ entries_of g)) z ∙ f))
