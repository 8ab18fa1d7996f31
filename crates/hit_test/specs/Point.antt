-- What lies at a character column of a row's placed entries, which of them lie in a stretch, and how two rows join. An entry is printed if its
-- width is above 0.
use Rattle.std.specs.Prelude.{Bool, true, false, cond, ◌&&◌, List, [], ◌∷◌, ℕ, ◌+◌, eqb, leb, ltb, get_or, drop}
use Rattle.placement.specs.Place.{Placed, at}
use Rattle.answers.specs.declared.Under.{Under}
use Rattle.answers.specs.declared.Under.TheVariants.{Cell, Gap, Nothing}
use Rattle.answers.specs.declared.Joint.{Joint}
use Rattle.answers.specs.declared.Joint.TheVariants.{Plain, Up, Down, Both}

-- the placed entries of two slices, as many as there are x
unfoldable pub placed : List ℕ → List ℕ → List Placed
placed [] wides = []
placed (x ∷ xs) wides = at x (get_or wides 0 0) ∷ placed xs (drop 1 wides)

-- the column past an entry's last one
abbrev pub past : Placed → ℕ
past p = p.x + p.width

-- the column x is one of the entry's
abbrev pub covers : Placed → ℕ → Bool
covers p x = leb p.x x && ltb x (past p)

-- the entry is printed, and x is the column past it
abbrev pub closes : Placed → ℕ → Bool
closes p x = ltb 0 p.width && eqb (past p) x

-- the entry is printed, and lies wholly in the stretch from a up to and not including b
abbrev pub inside : Placed → ℕ → ℕ → Bool
inside p a b = ltb 0 p.width && (leb a p.x && leb (past p) b)

-- one of the entries is printed
unfoldable pub some_printed : List Placed → Bool
some_printed [] = false
some_printed (p ∷ ps) = cond (ltb 0 p.width) true (some_printed ps)

-- the column past a printed cell is a gap if another is printed to its right
unfoldable pub gap_before : List Placed → Under ℕ
gap_before ps = cond (some_printed ps) Gap Nothing

-- what lies at the column x of a row whose first entry has the number k, from left to right: a cell that covers x; at a cell's end the gap, if
-- there is one; or what the entries after it have there
unfoldable pub pointed : ℕ → ℕ → List Placed → Under ℕ
pointed k x [] = Nothing
pointed k x (p ∷ ps) = cond (covers p x) (Cell k) (cond (closes p x) (gap_before ps) (pointed (k + 1) x ps))

unfoldable pub is_gap : Under ℕ → Bool
is_gap (Cell k) = false
is_gap Gap = true
is_gap Nothing = false

-- the row has a gap at x
unfoldable pub gap_at : ℕ → List Placed → Bool
gap_at x ps = is_gap (pointed 0 x ps)

-- the numbers of the printed entries that lie in the stretch from a up to b, left to right
unfoldable pub listed : ℕ → ℕ → ℕ → List Placed → List ℕ
listed k a b [] = []
listed k a b (p ∷ ps) = cond (inside p a b) (k ∷ listed (k + 1) a b ps) (listed (k + 1) a b ps)

-- the joint between a row and the next, by whether each has a gap
unfoldable pub joint_of : Bool → Bool → Joint
joint_of up down = cond up (cond down Both Up) (cond down Down Plain)

abbrev pub joined : ℕ → List Placed → List Placed → Joint
joined x above below = joint_of (gap_at x above) (gap_at x below)
