-- Words and numbers put into a buffer.
use Rattle.std.specs.Prelude.{◌≡◌, List, [], ◌∷◌, ◌++◌, ℕ, ◌+◌, ◌≤◌, ◌<◌, length, take, drop}
use Rattle.io.specs.Digits.{last_digits as last_digits_of}
use Rattle.text.specs.Decimal.{digits}

-- a number in base ten, as bytes
unfoldable pub decimal : ℕ → List ℕ
decimal n = last_digits_of 10 (digits n) n

-- numbers with one space between, and a line feed
unfoldable pub line : List ℕ → List ℕ
line [] = []
line (n ∷ []) = decimal n ++ (10 ∷ [])
line (n ∷ m ∷ ns) = (decimal n ++ (32 ∷ [])) ++ line (m ∷ ns)

-- a buffer with a word at a place
unfoldable pub written : List ℕ → ℕ → List ℕ → List ℕ
written buffer at word = take at buffer ++ word ++ drop (at + length word) buffer

-- a word was put at a place: the buffer, and the place after the word
pub record PutPost (word : List ℕ) (at : ℕ) (before after : List ℕ) (r : ℕ) : Type 0 where
  pub place : r ≡ at + length word
  pub bytes : after ≡ written before at word

-- a word of one to `most` bytes was put at a place
pub record PutWithin (most : ℕ) (word : List ℕ) (at : ℕ) (before after : List ℕ) (r : ℕ) : Type 0 where
  pub put : PutPost word at before after r
  pub above : at < r
  pub within : r ≤ at + most
