-- What hangs into a row, in three number slices, which are the thirds of one; and what hangs on, collected as records, and one figure of each.
use Rattle.std.specs.Prelude.{List, map, ℕ, ◌*◌, ◌/◌, length, get_or, take, drop}
use Rattle.grid_row.specs.declared.Overhang.{Overhang}

-- the rows that they take, their positions and their spans
abbrev pub hung_left : Overhang → ℕ
hung_left o = o.left

abbrev pub lefts_of : List Overhang → List ℕ
lefts_of os = map hung_left os

abbrev pub hung_at : Overhang → ℕ
hung_at o = o.at

abbrev pub ats_of : List Overhang → List ℕ
ats_of os = map hung_at os

abbrev pub hung_span : Overhang → ℕ
hung_span o = o.span

abbrev pub wides_of : List Overhang → List ℕ
wides_of os = map hung_span os

-- ---- into a row

-- the one at i
abbrev pub overhang_in : (left at wide : List ℕ) → ℕ → Overhang
overhang_in left at wide i = record { left = get_or left i 0; at = get_or at i 0; span = get_or wide i 0 }

-- the thirds of a slice, each with a place for each that hangs
abbrev pub third : List ℕ → ℕ
third xs = length xs / 3

abbrev pub lefts_in : List ℕ → List ℕ
lefts_in xs = take (third xs) xs

abbrev pub ats_in : List ℕ → List ℕ
ats_in xs = take (third xs) (drop (third xs) xs)

abbrev pub wides_in : List ℕ → List ℕ
wides_in xs = take (third xs) (drop (2 * third xs) xs)
