-- `count_words` meets its contract. The loop's invariant (`Counting`): n is the count of the ones in the words passed, and each of these has its
-- count. Each edge's word is passed in the end, since no edge lies above `top`.
use mathlib.Core.Path.{◌≡◌, ap, ◌∙◌}
use mathlib.Core.List.{List}
use Prim.Native.Nat.{ℕ, ◌+◌, ◌/◌, ◌≤◌, ◌<◌}
use native.Mathlib.Omega.{arith}
use lib.Count.{ones}
use lib.ListN.{length, get_or, take}
use lib.Seq.{get_or-take, length-take-le}
use Rattle.common.specs.Limits.{max_position}
use Rattle.column_edges.specs.inner.Lookup.{Words}
use Rattle.column_edges.proofs.CountLoop.{start, stop, turn, turn_le}
use Rattle.column_edges.proofs.count_words.Goals as goal
use Rattle.column_edges.proofs.count_words.Goals.{After-slice_known-1, In-loop-i}

-- the words are 65, of 64 bits
all_words : (c : After-slice_known-1) → Words c.args.words.now
all_words c = record { long = c.requires.words_len; small = λ i l. omega (arith, c.shared_slice_known-1.given i) }

-- those up to the word of `top`
front : (words : List ℕ) (top : ℕ) → length words ≡ 65 → top ≤ max_position → length (take (top / 64 + 1) words) ≡ top / 64 + 1
front words top l h = length-take-le (top / 64 + 1) words (omega arith)

word_here : (c : In-loop-i) → (c.loop-i.i < 65) × (get_or (take (c.args.top / 64 + 1) c.args.words.now) c.loop-i.i 0 ≡ get_or c.args.words.now c.loop-i.i 0)
word_here c =
    let h : c.loop-i.i < c.args.top / 64 + 1 = omega (arith, front c.args.words.now c.args.top c.requires.words_len c.requires.top_le_max_position, c.loop-i-test.true) in
    (omega (arith, c.requires.top_le_max_position), get_or-take (c.args.top / 64 + 1) c.args.words.now c.loop-i.i 0 h)

pub loop-i-init : goal.loop-i-init
loop-i-init c = start _ _ c.requires.counts_len

pub overflow_add-n : goal.overflow_add-n
overflow_add-n c =
    let l = c.loop-i in
    let w = word_here (goal.at.overflow_add-n c).In-loop-i in
    omega (arith, c.ones_of-n.ensures ∙ ap ones w.1, turn_le l.invariant w.0 (all_words (goal.at.overflow_add-n c).After-slice_known-1))

pub loop-i-preserved : goal.loop-i-preserved
loop-i-preserved c =
    let l = c.loop-i in
    let w = word_here (goal.at.loop-i-preserved c).In-loop-i in
    turn l.invariant w.0 _ (c.ones_of-n.ensures ∙ ap ones w.1)

pub returns : goal.returns
returns c =
    stop c.loop-i.invariant (all_words (goal.at.returns c).After-slice_known-1) _ c.requires.none_above
    (omega (arith, front c.args.words.now c.args.top c.requires.words_len c.requires.top_le_max_position, c.loop-i-test.false))
