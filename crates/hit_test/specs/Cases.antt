-- Cases of pointing, computed from the definitions.
use Rattle.std.specs.Prelude.{◌≡◌, refl, List, [], ◌∷◌}
use Rattle.placement.specs.Place.{Placed, at}
use Rattle.hit_test.specs.Point.{some_printed, gap_before, pointed, is_gap, gap_at, listed, joint_of, joined}
use Rattle.answers.specs.declared.Under.TheVariants.{Cell, Gap, Nothing}
use Rattle.answers.specs.declared.Joint.TheVariants.{Plain, Up, Down, Both}

-- widths 2,0,2, as placing has them: one gap, at 2
abbrev row : List Placed
row = at 0 2 ∷ at 3 0 ∷ at 3 2 ∷ []

first_0 : pointed 0 0 row ≡ Cell 0
unfolding pointed
first_0 = refl

first_1 : pointed 0 1 row ≡ Cell 0
unfolding pointed
first_1 = refl

gap_2 : pointed 0 2 row ≡ Gap
unfolding pointed gap_before some_printed
gap_2 = refl

third_3 : pointed 0 3 row ≡ Cell 2
unfolding pointed
third_3 = refl

third_4 : pointed 0 4 row ≡ Cell 2
unfolding pointed
third_4 = refl

nothing_5 : pointed 0 5 row ≡ Nothing
unfolding pointed gap_before some_printed
nothing_5 = refl

-- a row without a printed cell has nothing, also where it was left out
missing_3 : pointed 0 3 (at 3 0 ∷ []) ≡ Nothing
unfolding pointed
missing_3 = refl

-- the whole row; one column less at either end; a stretch that ends where it starts
within_all : listed 0 0 5 row ≡ 0 ∷ 2 ∷ []
unfolding listed
within_all = refl

within_short : listed 0 0 4 row ≡ 0 ∷ []
unfolding listed
within_short = refl

within_late : listed 0 1 5 row ≡ 2 ∷ []
unfolding listed
within_late = refl

within_none : listed 0 3 3 row ≡ []
unfolding listed
within_none = refl

-- joints at 2 and at 5 with a row of one cell, with itself, and below the last row
joint_both : joined 2 row row ≡ Both
unfolding joint_of gap_at is_gap pointed gap_before some_printed
joint_both = refl

joint_up : joined 2 row (at 0 5 ∷ []) ≡ Up
unfolding joint_of gap_at is_gap pointed gap_before some_printed
joint_up = refl

joint_down : joined 2 (at 0 5 ∷ []) row ≡ Down
unfolding joint_of gap_at is_gap pointed gap_before some_printed
joint_down = refl

joint_last : joined 2 row [] ≡ Up
unfolding joint_of gap_at is_gap pointed gap_before some_printed
joint_last = refl

joint_plain : joined 5 row row ≡ Plain
unfolding joint_of gap_at is_gap pointed gap_before some_printed
joint_plain = refl
