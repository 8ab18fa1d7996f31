-- The cases of docs/CUTTING.md: the leasts and the shares of two columns, and the width, by the level.
use Rattle.std.specs.Prelude.{◌≡◌, refl, [], ◌∷◌}
use Rattle.common.specs.Lists.{sum}
use Rattle.cutting.specs.Level.{at_level, level_to, level_of, receiver, give_once, give_by, leveled, by_level}

-- (10,3),(10,3) at 20, whose shares are their sizes: the level is 6, and the character left over goes to column 1
level_at_20 : level_of (3 ∷ 3 ∷ []) (10 ∷ 10 ∷ []) 20 ≡ 6
unfolding level_of level_to at_level sum
level_at_20 = refl

left_at_20 : receiver (3 ∷ 3 ∷ []) (10 ∷ 10 ∷ []) 6 (9 ∷ 9 ∷ []) 2 ≡ 1
unfolding receiver
left_at_20 = refl

cut_to_20 : by_level (3 ∷ 3 ∷ []) (10 ∷ 10 ∷ []) 20 ≡ 9 ∷ 10 ∷ []
unfolding by_level leveled level_of level_to at_level give_by give_once receiver sum
cut_to_20 = refl

-- (10,3),(12,5) at 22: the level is 6, and the character left over goes to column 0, which has the smaller least
level_at_22 : level_of (3 ∷ 5 ∷ []) (10 ∷ 12 ∷ []) 22 ≡ 6
unfolding level_of level_to at_level sum
level_at_22 = refl

left_at_22 : receiver (3 ∷ 5 ∷ []) (10 ∷ 12 ∷ []) 6 (9 ∷ 11 ∷ []) 2 ≡ 0
unfolding receiver
left_at_22 = refl

cut_to_22 : by_level (3 ∷ 5 ∷ []) (10 ∷ 12 ∷ []) 22 ≡ 10 ∷ 11 ∷ []
unfolding by_level leveled level_of level_to at_level give_by give_once receiver sum
cut_to_22 = refl

-- (10,3),(2,2) at 9, whose shares are 7 and 2: the level is 3, and nothing is left over
level_at_9 : level_of (3 ∷ 2 ∷ []) (7 ∷ 2 ∷ []) 9 ≡ 3
unfolding level_of level_to at_level sum
level_at_9 = refl

cut_to_9 : by_level (3 ∷ 2 ∷ []) (7 ∷ 2 ∷ []) 9 ≡ 6 ∷ 2 ∷ []
unfolding by_level leveled level_of level_to at_level give_by give_once receiver sum
cut_to_9 = refl
