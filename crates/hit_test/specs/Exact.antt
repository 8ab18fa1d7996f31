-- What is promised of pointing, over the placed entries of a row and not over a search.
use Rattle.std.specs.Prelude.{Bool, true, ◌≡◌, List, ℕ, ◌+◌, ◌-◌, ◌≤◌, ◌<◌, length, get_or}
use Rattle.common.specs.Lists.{mem}
use Rattle.placement.specs.Place.{Placed, at}
use Rattle.hit_test.specs.Point.{past}
use Rattle.answers.specs.declared.Under.{Under}
use Rattle.answers.specs.declared.Under.TheVariants.{Cell, Gap, Nothing}
use Rattle.answers.specs.declared.Joint.{Joint}
use Rattle.answers.specs.declared.Joint.TheVariants.{Plain, Up, Down, Both}

-- entry j of the row
abbrev pub entry : List Placed → ℕ → Placed
entry ps j = get_or ps j (at 0 0)

-- entry j is there and printed
pub record IsPrinted (ps : List Placed) (j : ℕ) : Type 0 where
  pub there : j < length ps
  pub wide : 0 < (entry ps j).width

-- entry j is printed and covers the column x
pub record Covers (ps : List Placed) (x j : ℕ) : Type 0 where
  pub printed : IsPrinted ps j
  pub from : (entry ps j).x ≤ x
  pub upto : x < past (entry ps j)

-- x is the end of a printed entry, and another is printed to its right
pub record Between (ps : List Placed) (x : ℕ) : Type 0 where
  pub left : ℕ
  pub right : ℕ
  pub order : left < right
  pub left_printed : IsPrinted ps left
  pub right_printed : IsPrinted ps right
  pub closed : past (entry ps left) ≡ x

-- entry j is printed and lies wholly in the stretch from a up to b
pub record Inside (ps : List Placed) (a b j : ℕ) : Type 0 where
  pub printed : IsPrinted ps j
  pub from : a ≤ (entry ps j).x
  pub upto : past (entry ps j) ≤ b

-- the answer for the column x of a row whose first entry has the number k: a cell exactly if it covers x, a gap exactly if x lies between two
-- printed cells, nothing exactly if neither is there
pub record Exactly (k : ℕ) (ps : List Placed) (x : ℕ) (u : Under ℕ) : Type 0 where
  pub cell_only : (n : ℕ) → u ≡ Cell n → (k ≤ n) × Covers ps x (n - k)
  pub cell_then : (j : ℕ) → Covers ps x j → u ≡ Cell (k + j)
  pub gap_only : u ≡ Gap → Between ps x
  pub gap_then : Between ps x → u ≡ Gap
  pub nothing_only : u ≡ Nothing → ((j : ℕ) → Covers ps x j → ⊥) × (Between ps x → ⊥)
  pub nothing_then : ((j : ℕ) → Covers ps x j → ⊥) → (Between ps x → ⊥) → u ≡ Nothing
  pub one : (i j : ℕ) → Covers ps x i → Covers ps x j → i ≡ j

-- whether the row has a gap at x: exactly if x lies between two printed cells
pub record GapExactly (ps : List Placed) (x : ℕ) (gap : Bool) : Type 0 where
  pub only : gap ≡ true → Between ps x
  pub then : Between ps x → gap ≡ true

-- the joint between two rows at x: up exactly if only the upper one has a gap there, down if only the lower one, both, or plain if neither
pub record Joins (above below : List Placed) (x : ℕ) (j : Joint) : Type 0 where
  pub both_only : j ≡ Both → Between above x × Between below x
  pub up_only : j ≡ Up → Between above x × (Between below x → ⊥)
  pub down_only : j ≡ Down → (Between above x → ⊥) × Between below x
  pub plain_only : j ≡ Plain → (Between above x → ⊥) × (Between below x → ⊥)
  pub both_then : Between above x → Between below x → j ≡ Both
  pub up_then : Between above x → (Between below x → ⊥) → j ≡ Up
  pub down_then : (Between above x → ⊥) → Between below x → j ≡ Down
  pub plain_then : (Between above x → ⊥) → (Between below x → ⊥) → j ≡ Plain

-- the list has exactly the printed entries that lie in the stretch, each once and in the row's order
pub record ListsExactly (k a b : ℕ) (ps : List Placed) (ns : List ℕ) : Type 0 where
  pub only : (n : ℕ) → mem n ns ≡ true → (k ≤ n) × Inside ps a b (n - k)
  pub then : (j : ℕ) → Inside ps a b j → mem (k + j) ns ≡ true
  pub ascends : (i : ℕ) → i + 1 < length ns → get_or ns i 0 < get_or ns (i + 1) 0
