-- The letter of a way.
use Rattle.std.specs.Prelude.{ℕ}
use Rattle.answers.specs.declared.Way.{Way}
use Rattle.answers.specs.declared.Way.TheVariants.{Sideways, Down}

-- the letter of a way: h sideways, v down the page
unfoldable pub way_letter : Way → ℕ
way_letter Sideways = 104
way_letter Down = 118
