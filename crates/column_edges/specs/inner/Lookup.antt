-- Two ways to look up the number of an edge: counting ones through all words, and by a running count beside each word that has an edge.
-- Both are proved to give what `edge_at` says.
use Rattle.std.specs.Prelude.{◌≡◌, true, cond, List, ℕ, zero, suc, ◌+◌, ◌/◌, ◌%◌, ◌^◌, ◌≤◌, ◌<◌, length, get_or, Option, Some, None}
use Rattle.std.specs.Int.Count.{ones}
use Rattle.common.specs.Limits.{max_position}
use Rattle.column_edges.specs.inner.Edges.{is_edge}

-- the ones of the first i words
unfoldable pub ones_before : List ℕ → ℕ → ℕ
ones_before ws zero = 0
ones_before ws (suc i) = ones_before ws i + ones (get_or ws i 0)

-- the ones of p's own word below p: the word is masked to its p % 64 lowest bits
abbrev pub ones_below : List ℕ → ℕ → ℕ
ones_below ws p = ones (get_or ws (p / 64) 0 % 2 ^ (p % 64))

-- the plain lookup counts through all words before p's
unfoldable pub plain_at : List ℕ → ℕ → Option ℕ
plain_at ws p = cond (is_edge ws p) (Some (ones_before ws (p / 64) + ones_below ws p)) None

-- the counted one reads the count beside p's word
unfoldable pub counted_at : List ℕ → List ℕ → ℕ → Option ℕ
counted_at ws counts p = cond (is_edge ws p) (Some (get_or counts (p / 64) 0 + ones_below ws p)) None

-- 65 words of 64 bits
pub record Words (ws : List ℕ) : Type 0 where
  pub long : length ws ≡ 65
  pub small : (i : ℕ) → i < 65 → get_or ws i 0 < 2 ^ 64

-- no position above this one is an edge
abbrev pub NoneAbove : ℕ → List ℕ → Type 0
NoneAbove top ws = (q : ℕ) → q ≤ max_position → is_edge ws q ≡ true → q ≤ top

-- such words, and beside each that has an edge the count of the ones in all earlier words; the other counts are never read
pub record Counted (ws counts : List ℕ) : Type 0 where
  pub words : Words ws
  pub long : length counts ≡ 65
  pub each : (p : ℕ) → p ≤ max_position → is_edge ws p ≡ true → get_or counts (p / 64) 0 ≡ ones_before ws (p / 64)
