-- Cutting a line at its spaces: a field is the bytes up to one.
use Rattle.std.specs.Prelude.{cond, List, [], ◌∷◌, ℕ, eqb, take, position, Option}
use Rattle.std.specs.Option.{option_map}

abbrev pub blank : ℕ
blank = 32

-- the bytes before the first space and those after it, if there is a space
pub data Field : Type 0 where
  field : List ℕ → List ℕ → Field
  endless : Field

abbrev pub longer : ℕ → Field → Field
longer b (field f r) = field (b ∷ f) r
longer b endless = endless

unfoldable pub until_blank : List ℕ → Field
until_blank [] = endless
until_blank (b ∷ bs) = cond (eqb b blank) (field [] bs) (longer b (until_blank bs))

-- the bytes before the first byte that is `stop`, if there is one
unfoldable pub front_to : ℕ → List ℕ → Option (List ℕ)
front_to stop s = option_map (λ n. take n s) (position (λ b. eqb b stop) s)
