-- The rows of two grids joined tile the columns of both, as the rows of each tile its own. A left row ends where an empty entry begins, which ends
-- with the left columns, and there the right row begins. By induction on the entries, and on the rows.
use mathlib.Core.Path.{◌≡◌, refl, ap}
use mathlib.Core.List.{List, [], ◌∷◌, ◌++◌, map, append_assoc, append-nil}
use Prim.{tt}
use Prim.Native.Nat.{ℕ, ◌+◌, ◌-◌, ◌≤◌, ◌<◌}
use native.Mathlib.Nat.{add-zero}
use native.Mathlib.Omega.{arith}
use native.Mathlib.Decide.{dec_lt}
use borrow.Author.Tests.{lt-ltb, le-ltb}
use Rattle.common.specs.Lists.{All, Tiles}
use Rattle.grid.specs.Grid.{Entry}
use Rattle.grid.specs.Facts.{EntriesTile}
use Rattle.grid_join.specs.Joined.{empty_entries, moved, end_from, filled, joined}
use Rattle.grid_join.specs.Facts.{JoinedTiles}

-- where entries that tile end
pub end_within : (c p : ℕ) (es : List Entry) → EntriesTile c p es → (p ≤ end_from p es) × (end_from p es ≤ c)
unfolding Tiles end_from
end_within c p [] t = (omega arith, t)
end_within c p (e ∷ es) t = let (a, b) = end_within c (p + e.span) es t.2 in rw t.0 (omega (arith, a), b)

-- one after the other
pub then_tiles : (c n p : ℕ) (es ys : List Entry) → EntriesTile c p es → EntriesTile n (end_from p es) ys → EntriesTile n p (es ++ ys)
unfolding Tiles end_from
then_tiles c n p [] ys t u = u
then_tiles c n p (e ∷ es) ys t u = (t.0, t.1, then_tiles c n (p + e.span) es ys t.2 (rw t.0 at u))

-- from p on an empty entry, and from q on others
pub empty_then : (n p q : ℕ) (ys : List Entry) → p ≤ q → EntriesTile n q ys → EntriesTile n p (empty_entries p q ++ ys)
unfolding Tiles
empty_then n p q ys h t = go (dec_lt p q)
  where
    go : Dec (p < q) → EntriesTile n p (empty_entries p q ++ ys)
    go (yes l) = let e : p + (q - p) ≡ q = omega arith in rw (lt-ltb p q l) (refl, omega arith, rw e t)
    go (no l) = let e : q ≡ p = omega arith in rw (le-ltb p q (omega arith)) (rw e at t)

pub empty_tiles : (n p q : ℕ) → p ≤ q → q ≤ n → EntriesTile n p (empty_entries p q)
unfolding Tiles
empty_tiles n p q h l = rw (append-nil (empty_entries p q)) at (empty_then n p q [] h l)

pub moved_tiles : (c d p : ℕ) (es : List Entry) → EntriesTile d p es → EntriesTile (c + d) (c + p) (map (moved c) es)
unfolding Tiles
moved_tiles c d p [] t = omega arith
moved_tiles c d p (e ∷ es) t =
    let a : c + (p + e.span) ≡ c + p + e.span = omega arith in
    (ap (λ (k : ℕ). c + k) t.0, t.1, rw a at (moved_tiles c d (p + e.span) es t.2))

-- a left row filled up, and what begins after it
pub filled_then : (c n : ℕ) (es ys : List Entry) → EntriesTile c 0 es → EntriesTile n c ys → EntriesTile n 0 (filled c es ++ ys)
filled_then c n es ys t u =
    rw (append_assoc es (empty_entries (end_from 0 es) c) ys)
    (then_tiles c n 0 es (empty_entries (end_from 0 es) c ++ ys) t (empty_then n (end_from 0 es) c ys (end_within c 0 es t).1 u))

right_tiles : (c d : ℕ) (es : List Entry) → EntriesTile d 0 es → EntriesTile (c + d) c (map (moved c) es)
right_tiles c d es t = rw (add-zero c) at (moved_tiles c d 0 es t)

pub joined_tiles : JoinedTiles
unfolding All joined
joined_tiles c d [] [] a b = tt
joined_tiles c d [] (r ∷ rs) a b = (empty_then (c + d) 0 c _ (omega arith) (right_tiles c d r.entries b.0), joined_tiles c d [] rs a b.1)
joined_tiles c d (l ∷ ls) [] a b =
    (filled_then c (c + d) l.entries _ a.0 (empty_tiles (c + d) c (c + d) (omega arith) (omega arith)), joined_tiles c d ls [] a.1 b)
joined_tiles c d (l ∷ ls) (r ∷ rs) a b = (filled_then c (c + d) l.entries _ a.0 (right_tiles c d r.entries b.0), joined_tiles c d ls rs a.1 b.1)
