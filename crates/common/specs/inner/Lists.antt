-- A list written over the front of another.
use Rattle.std.specs.Prelude.{List, ◌++◌, ℕ, length, drop}

-- a list written over the front of a buffer, whose other places stay
unfoldable pub over : List ℕ → List ℕ → List ℕ
over xs o = xs ++ drop (length xs) o
