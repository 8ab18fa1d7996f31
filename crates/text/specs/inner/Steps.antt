-- What inner functions compute, which only their contracts cite.
use Rattle.std.specs.Prelude.{◌≡◌, cond, Bool, not, ◌||◌, List, ℕ, ◌+◌, ◌-◌, ◌≤◌, eqb, leb, length, take, drop}
use Rattle.text.specs.Bytes.{is_space}
use Rattle.common.specs.Lists.{All}
use Rattle.swar.specs.inner.Plain.{IsPlain, plain_sum, plain_gap}
use Rattle.text.specs.Text.{trim_start, trim_end, total}
use Rattle.text.specs.inner.Fronts.{front_of}
use Rattle.text.specs.Decimal.{digits}
use Rattle.text.specs.declared.Run.{Run}

-- a byte that is the stop, or no space: the leading spaces end before it
abbrev pub ends : ℕ → ℕ → Bool
ends stop b = eqb b stop || not (is_space b)

-- r is where the leading spaces of the front end that starts at `from`: from there on stands the same front without them
pub record SkipSpacesPost (stop : ℕ) (text : List ℕ) (from r : ℕ) : Type 0 where
  pub later : from ≤ r
  pub inside : r ≤ length text
  pub trimmed : front_of stop (drop r text) ≡ trim_start (front_of stop (drop from text))
  pub end : r + length (front_of stop (drop r text)) ≡ from + length (front_of stop (drop from text))

-- a front of the bytes from a place on that holds characters and spaces alone, walked to its end
pub record PlainRunPost (text : List ℕ) (from : ℕ) (r : Run) : Type 0 where
  pub later : from ≤ r.end
  pub inside : r.end ≤ length text
  pub plain : All IsPlain (take (r.end - from) (drop from text))
  pub sum : r.sum ≡ plain_sum 0 (take (r.end - from) (drop from text))
  pub gap : r.gap ≡ plain_gap 0 (take (r.end - from) (drop from text))

-- nothing is walked where the stop is a character or a space
pub record RunToPost (stop : ℕ) (text : List ℕ) (from : ℕ) (r : Run) : Type 0 where
  pub run : PlainRunPost text from r
  pub kept : IsPlain stop → r.end ≡ from

-- the size of a text whose leading spaces are skipped
abbrev pub rest_size : List ℕ → ℕ
rest_size t = total (trim_end t)

-- the length of the number v - base, minus sign included
unfoldable pub writing_from : ℕ → ℕ → ℕ
writing_from base v = cond (leb base v) (digits (v - base)) (digits (base - v) + 1)
