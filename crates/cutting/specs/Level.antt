-- Cutting by one level: the rule by which widths are worked out on paper. ls are the leasts, ss the shares.
use Rattle.std.specs.Prelude.{Bool, cond, not, ◌||◌, ◌&&◌, List, [], ◌∷◌, ℕ, zero, suc, ◌+◌, ◌-◌, min, ltb, leb, length, set}
use Rattle.common.specs.Lists.{sum}
use Rattle.cutting.specs.Cut.{at, excess, gaps}

-- the widths at level t: each column's excess over its least is the smaller of its share's excess and t
unfoldable pub at_level : List ℕ → List ℕ → ℕ → List ℕ
at_level [] ss t = []
at_level (l ∷ ls) [] t = []
at_level (l ∷ ls) (s ∷ ss) t = (l + min (s - l) t) ∷ at_level ls ss t

-- these widths with their gaps do not overflow
abbrev pub fits : List ℕ → ℕ → Bool
fits ws width = leb (sum ws + gaps (length ws)) width

-- the largest whole number, up to n, at which nothing overflows
unfoldable pub level_to : List ℕ → List ℕ → ℕ → ℕ → ℕ
level_to ls ss width zero = zero
level_to ls ss width (suc n) =
    let r = level_to ls ss width n in
    cond (fits (at_level ls ss (suc n)) width) (suc n) r

-- the level: no share's excess is above the sum of the shares, so from there on the widths are the shares, which overflow
unfoldable pub level_of : List ℕ → List ℕ → ℕ → ℕ
level_of ls ss width = level_to ls ss width (sum ss)

-- column i waits for one of the characters left over: its share's excess is above the level t, and it has had none of them
abbrev pub waits : List ℕ → List ℕ → ℕ → List ℕ → ℕ → Bool
waits ls ss t ws i = ltb t (excess ls ss i) && leb (excess ls ws i) t

-- column i has it rather than column b, which stands before it: the smaller least, or the same, since it is the higher column
abbrev pub receives_before : List ℕ → List ℕ → ℕ → List ℕ → ℕ → ℕ → Bool
receives_before ls ss t ws i b = waits ls ss t ws i && (not (waits ls ss t ws b) || leb (at ls i) (at ls b))

-- the column, of the first n, that has the next of them
unfoldable pub receiver : List ℕ → List ℕ → ℕ → List ℕ → ℕ → ℕ
receiver ls ss t ws zero = zero
receiver ls ss t ws (suc n) = cond (receives_before ls ss t ws n (receiver ls ss t ws n)) n (receiver ls ss t ws n)

unfoldable pub give_once : List ℕ → List ℕ → ℕ → List ℕ → List ℕ
give_once ls ss t ws = set ws (receiver ls ss t ws (length ws)) (suc (at ws (receiver ls ss t ws (length ws))))

unfoldable pub give_by : ℕ → List ℕ → List ℕ → ℕ → List ℕ → List ℕ
give_by zero ls ss t ws = ws
give_by (suc k) ls ss t ws = give_by k ls ss t (give_once ls ss t ws)

-- where the shares overflow: the widths at the level, and the characters left over one each
unfoldable pub leveled : List ℕ → List ℕ → ℕ → List ℕ
leveled ls ss width =
    let t = level_of ls ss width in
    let ws = at_level ls ss t in
    give_by (width - (sum ws + gaps (length ws))) ls ss t ws

-- the widths by the rule: the shares, if they do not overflow
unfoldable pub by_level : List ℕ → List ℕ → ℕ → List ℕ
by_level ls ss width =
    let r = leveled ls ss width in
    cond (fits ss width) ss r
