-- A word as the bytes of its letters.
use Rattle.std.specs.Prelude.{List, [], ◌∷◌, ◌++◌, ℕ, zero, suc}
use Prim.Native.Char.{code}
use Prim.Native.String.{String, len, char_at}

-- the codes of the first n characters of a text, and of all
abbrev pub first_codes : String → ℕ → List ℕ
first_codes s zero = []
first_codes s (suc n) = first_codes s n ++ (code (char_at s n) ∷ [])

abbrev pub word : String → List ℕ
word s = first_codes s (len s)
