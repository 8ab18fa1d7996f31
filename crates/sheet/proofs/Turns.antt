-- The reader's loop: what holds before each line, at the start, after one line more, where a line is refused, and at the end.
use mathlib.Core.Path.{◌≡◌, refl, sym, ap, subst, ◌∙◌}
use mathlib.Core.Bool.{Bool, true, false, cond}
use mathlib.Core.List.{List, [], ◌∷◌, ◌++◌, map}
use Prim.Native.Nat.{ℕ, suc, ◌+◌, ◌≤◌, ◌<◌}
use native.Mathlib.Numerals.{add-one}
use native.Mathlib.Omega.{arith}
use lib.ListN.{length, get_or, take, drop, set, replicate}
use lib.Seq.{take_all}
use borrow.Author.Tests.{le-ltb}
use Rattle.records.specs.declared.NodeRecord.{NodeRecord}
use Rattle.std.specs.Prelude.{Err, Ok, Result}
use Rattle.common.specs.declared.Reason.{Reason}
use Rattle.common.specs.declared.Reason.TheVariants.{TextByte, Nesting, NoExpression, OutOfBounds}
use Rattle.common.specs.declared.Reason.TheVariants as reason
use Rattle.common.specs.declared.Refusal.{Refusal}
use Rattle.common.specs.Limits.{max_bytes, max_feeds, max_depth, depths}
use Rattle.common.specs.Refusals.{first_answer, refusal}
use Rattle.kinds.specs.declared.Kind.{Kind}
use Rattle.kinds.specs.declared.Kind.TheVariants.{Text}
use Rattle.fields.specs.Lines.{Piece, feeds, pieces, node_pieces, heading_bytes}
use Rattle.line.specs.Fields.{Line, no_line, read_line, is_unread, has_bad_byte, not_expression, out_of_bounds, or_none}
use Rattle.line.specs.inner.LineAt.{LineRead, piece_at, node_of, line_in, line_at}
use Rattle.line.proofs.Pieces.{pieces_at, pieces_end, feeds_at}
use Rattle.line.proofs.Told.{good_line}
use Rattle.line.specs.declared.Node.{Node}
use Rattle.line_fast.specs.inner.Briefs.{Brief, figures_of, BriefPost}
use Rattle.sheet.specs.Nesting.{misplaced}
use Rattle.sheet.specs.Sheet.{lines_checks, lines_of, sheet_lines, sheet_checks}
use Rattle.sheet.specs.Reading.{record_of}
use Rattle.sheet.specs.inner.Reading.{reading_of}
use Rattle.sheet.specs.inner.Steps.{breaks_nesting, nesting_checked, end_checks, line_end, bare, ReadLinesPre}
use Rattle.sheet.proofs.Heading.{heading_long, heading_feeds}
use Rattle.sheet.proofs.Earlier.{earlier, drop_here, drop_none, lines_drop, lines_length}
use Rattle.sheet.proofs.Chain.{Linked, linked_none, linked_more, linked_told}
use Rattle.sheet.proofs.Ending.{bare_end}
use Rattle.sheet.proofs.Ranges.{piece_ranged}
use Rattle.sheet.proofs.Storing.{stored_more}
use Rattle.sheet.proofs.Briefs.{depth_of, kind_of}

-- after n lines, of the sheet s, at the place where the next one starts; the slice is a before the loop, and b now
pub record ReadingLoop (s : List ℕ) (a b : List NodeRecord) (chain : List Kind) (previous at n : ℕ) : Type 0 where
  pub within : at ≤ length s
  pub place : pieces (drop at s) ≡ drop n (node_pieces s)
  pub count : n ≤ length (sheet_lines s)
  pub few : n + 1 + feeds (drop at s) ≤ feeds s
  pub linked : Linked chain n previous (earlier n (sheet_lines s))
  pub answer : reading_of s
      ≡ first_answer Err (Ok (length (sheet_lines s)))
      (lines_checks (suc n) (earlier n (sheet_lines s)) (drop n (node_pieces s)) ++ end_checks (sheet_lines s))
  pub stored : take n b ≡ map record_of (take n (sheet_lines s))
  pub same : length b ≡ length a

pub turns_start : (s : List ℕ) (a : List NodeRecord) → ReadLinesPre s → ReadingLoop s a a (replicate depths Text) 0 heading_bytes 0
unfolding earlier reading_of sheet_checks first_answer
turns_start s a g = record {
  within = heading_long s g.headed;
  place = refl;
  count = omega arith;
  few = omega (arith, heading_feeds s g.headed);
  linked = linked_none;
  answer = start;
  stored = refl;
  same = refl;
}
  where
    start : reading_of s ≡ first_answer Err (Ok (length (sheet_lines s))) (lines_checks 1 [] (node_pieces s) ++ end_checks (sheet_lines s))
    start = rw (le-ltb max_bytes (length s) g.short, le-ltb max_feeds (feeds s) g.few, g.headed)

-- what is known of a sound line before it is stored
pub record NextLine (s : List ℕ) (at n depth next : ℕ) : Type 0 where
  pub deep : depth ≤ max_depth
  pub ahead : at < next
  pub ends : next ≤ length s
  pub few : n + 2 ≤ feeds s

-- what the judgement of a line tells

-- the answer for a line, from the tests for 2, 3, 13 and 14
abbrev answered : Bool → Bool → Bool → Bool → Node → LineRead
answered u y x z w = cond u (Err reason.Fields) (cond y (Err TextByte) (cond x (Err NoExpression) (cond z (Err OutOfBounds) (Ok w))))

module _ (chain : List Kind) (n previous : ℕ) where
  told_good : (r : LineRead) (v : Node) → nesting_checked chain n previous r ≡ Ok v → (r ≡ Ok v) × (breaks_nesting chain n previous v.depth v.kind ≡ false)
  unfolding nesting_checked
  told_good (Err why) v e = let z : ◌≡◌ {A = ℕ} 0 1 = cc in absurd (omega arith)
  told_good (Ok w) v e = at (breaks_nesting chain n previous w.depth w.kind) refl e
    where
      at : (m : Bool) → breaks_nesting chain n previous w.depth w.kind ≡ m → ◌≡◌ {A = LineRead} (cond m (Err Nesting) (Ok w)) (Ok v)
          → (◌≡◌ {A = LineRead} (Ok w) (Ok v)) × (breaks_nesting chain n previous v.depth v.kind ≡ false)
      at true q e = let z : ◌≡◌ {A = ℕ} 0 1 = cc in absurd (omega arith)
      at false q e = let f : w ≡ v = cc in (ap Ok f, rw f at q)

  told_faulty : (u y x z m : Bool) (w : Node) (r : Result ℕ Refusal) (why : Reason) (line : ℕ) → breaks_nesting chain n previous w.depth w.kind ≡ m
      → nesting_checked chain n previous (answered u y x z w) ≡ Err why
      → cond u (Err (refusal reason.Fields line)) (cond y (Err (refusal TextByte line)) (cond x (Err (refusal NoExpression line))
      (cond z (Err (refusal OutOfBounds line)) (cond m (Err (refusal Nesting line)) r)))) ≡ Err (refusal why line)
  unfolding nesting_checked
  told_faulty true y x z m w r why line q e = let f : reason.Fields ≡ why = cc in rw f
  told_faulty false true x z m w r why line q e = let f : TextByte ≡ why = cc in rw f
  told_faulty false false true z m w r why line q e = let f : NoExpression ≡ why = cc in rw f
  told_faulty false false false true m w r why line q e = let f : OutOfBounds ≡ why = cc in rw f
  told_faulty false false false false true w r why line q e =
      let g : ◌≡◌ {A = LineRead} (cond (breaks_nesting chain n previous w.depth w.kind) (Err Nesting) (Ok w)) (Err why) = e in
      let g' : ◌≡◌ {A = LineRead} (Err Nesting) (Err why) = rw q at g in
      let f : Nesting ≡ why = cc in
      rw f
  told_faulty false false false false false w r why line q e =
      let g : ◌≡◌ {A = LineRead} (cond (breaks_nesting chain n previous w.depth w.kind) (Err Nesting) (Ok w)) (Err why) = e in
      let g' : ◌≡◌ {A = LineRead} (Ok w) (Err why) = rw q at g in
      let z : ◌≡◌ {A = ℕ} 0 1 = cc in
      absurd (omega arith)

record Fair (u y x z : Bool) (w v : Node) : Type 0 where
  fields : u ≡ false
  bytes : y ≡ false
  sum : x ≡ false
  bounds : z ≡ false
  same : w ≡ v

told_line : (u y x z : Bool) (w v : Node) → answered u y x z w ≡ Ok v → Fair u y x z w v
told_line true y x z w v e = let z : ◌≡◌ {A = ℕ} 0 1 = cc in absurd (omega arith)
told_line false true x z w v e = let z : ◌≡◌ {A = ℕ} 0 1 = cc in absurd (omega arith)
told_line false false true z w v e = let z : ◌≡◌ {A = ℕ} 0 1 = cc in absurd (omega arith)
told_line false false false true w v e = let z : ◌≡◌ {A = ℕ} 0 1 = cc in absurd (omega arith)
told_line false false false false w v e = record { fields = refl; bytes = refl; sum = refl; bounds = refl; same = cc }

module _ {s : List ℕ} {a b : List NodeRecord} {chain : List Kind} {previous at n : ℕ} (t : ReadingLoop s a b chain previous at n) (h : at < length s) where
  here : Line
  here = or_none (read_line (piece_at s at))

  after : List Piece
  after = pieces (drop (at + length (piece_at s at).bytes + 1) s)

  rest : drop n (node_pieces s) ≡ piece_at s at ∷ after
  unfolding after
  rest = sym t.place ∙ pieces_at s at h

  line_here : (n < length (sheet_lines s)) × (get_or (sheet_lines s) n no_line ≡ here) × (drop (suc n) (sheet_lines s) ≡ lines_of after)
  unfolding here lines_of sheet_lines
  line_here = drop_here no_line (sheet_lines s) n here (lines_of after) (lines_drop n (node_pieces s) ∙ ap lines_of rest)

  asked : reading_of s ≡
      cond (is_unread (read_line (piece_at s at))) (Err (refusal reason.Fields (suc n)))
      (cond (has_bad_byte (read_line (piece_at s at))) (Err (refusal TextByte (suc n)))
      (cond (not_expression (read_line (piece_at s at))) (Err (refusal NoExpression (suc n)))
      (cond (out_of_bounds (read_line (piece_at s at))) (Err (refusal OutOfBounds (suc n)))
      (cond (misplaced (earlier n (sheet_lines s)) here) (Err (refusal Nesting (suc n)))
      (first_answer Err (Ok (length (sheet_lines s))) (lines_checks (suc (suc n)) (here ∷ earlier n (sheet_lines s)) after ++ end_checks (sheet_lines s)))))))
  unfolding here lines_checks first_answer
  asked = t.answer ∙ rw rest

  broken : breaks_nesting chain n previous here.depth here.kind ≡ misplaced (earlier n (sheet_lines s)) here
  unfolding here
  broken = linked_told t.linked here (piece_ranged (piece_at s at)).0.deep

  pub turns_refuse : (why : Reason) → nesting_checked chain n previous (line_at s at) ≡ Err why → Err (refusal why (n + 1)) ≡ reading_of s
  unfolding here line_at line_in
  turns_refuse why e =
      sym
      (asked
      ∙ told_faulty chain n previous (is_unread (read_line (piece_at s at))) (has_bad_byte (read_line (piece_at s at)))
      (not_expression (read_line (piece_at s at))) (out_of_bounds (read_line (piece_at s at))) (misplaced (earlier n (sheet_lines s)) here)
      (node_of at (piece_at s at) here) _ why (suc n) broken e
      ∙ ap (λ (i : ℕ). Err (refusal why i)) (sym (add-one n)))

  read_fair : (v : Node) → line_at s at ≡ Ok v
      → Fair (is_unread (read_line (piece_at s at))) (has_bad_byte (read_line (piece_at s at))) (not_expression (read_line (piece_at s at)))
      (out_of_bounds (read_line (piece_at s at))) (node_of at (piece_at s at) here) v
  unfolding here line_at line_in
  read_fair v g = told_line _ _ _ _ (node_of at (piece_at s at) here) v g

  earlier_here : earlier (n + 1) (sheet_lines s) ≡ here ∷ earlier n (sheet_lines s)
  unfolding earlier
  earlier_here = rw (add-one n, line_here.1)

  module _ (good : line_at s at ≡ Ok (node_of at (piece_at s at) here)) (fits : breaks_nesting chain n previous here.depth here.kind ≡ false)
      (c : List NodeRecord) (r : n < length a) (same : length c ≡ length b) (p : c ≡ set b n (record_of here)) where
    more : ReadingLoop s a c (set chain here.depth here.kind) here.depth (at + length (piece_at s at).bytes + 1) (n + 1)
    unfolding here after line_at line_in
    more =
        let g = good_line s at (node_of at (piece_at s at) here) good in
        let f = read_fair (node_of at (piece_at s at) here) good in
        record {
          within = g.inside;
          place = sym (drop_here (piece_at s at) (node_pieces s) n (piece_at s at) after rest).2 ∙ ap (λ (m : ℕ). drop m (node_pieces s)) (sym (add-one n));
          count = omega (arith, line_here.0);
          few = omega (arith, feeds_at s at g.ended, t.few);
          linked = rw earlier_here (linked_more t.linked here (piece_ranged (piece_at s at)).0.deep);
          answer = asked ∙ rw (f.fields, f.bytes, f.sum, f.bounds, sym broken ∙ fits, earlier_here, ← (drop_here (piece_at s at) (node_pieces s) n (piece_at s at) after rest).2, add-one n);
          stored =
              stored_more (sheet_lines s) n (record_of here) b c t.stored line_here.0 (omega (arith, t.same)) p (ap record_of (sym line_here.1));
          same = same ∙ t.same;
        }

  -- a sound line is the one that stands at the place
  as_read : (v : Node) (G : Node → Type 0) → nesting_checked chain n previous (line_at s at) ≡ Ok v
      → (line_at s at ≡ Ok (node_of at (piece_at s at) here) → breaks_nesting chain n previous here.depth here.kind ≡ false → G (node_of at (piece_at s at) here))
      → G v
  unfolding here line_at line_in
  as_read v G e k =
      let (g, f) = told_good chain n previous (line_at s at) v e in
      let q = (read_fair v g).same in
      subst G q (k (rw (sym q) at g) (rw (sym q) at f))

  -- the line as it is kept
  module _ (x : Brief) (w : (node : Node) × (nesting_checked chain n previous (line_at s at) ≡ Ok node) × BriefPost node x) where
    pub turns_next : NextLine s at n x.value.depth x.next
    unfolding here
    turns_next =
        rw (depth_of w.2, w.2.next)
        (as_read w.0 (λ (v : Node). NextLine s at n v.depth v.next) w.1
        (λ g f.
        let l = good_line s at (node_of at (piece_at s at) here) g in
        let p = (piece_ranged (piece_at s at)).0 in
        record { deep = p.deep; ahead = omega arith; ends = l.inside; few = omega (arith, feeds_at s at l.ended, t.few) }))

    pub turns_more : (c : List NodeRecord) → n < length a → length c ≡ length b → c ≡ set b n x.value
        → ReadingLoop s a c (set chain x.value.depth x.value.kind) x.value.depth x.next (n + 1)
    unfolding here
    turns_more c r m p =
        rw (depth_of w.2, kind_of w.2, w.2.next)
        (as_read w.0 (λ (v : Node). c ≡ set b n (figures_of v) → ReadingLoop s a c (set chain v.depth v.kind) v.depth v.next (n + 1)) w.1
        (λ g f p. more g f c r m p) (p ∙ ap (set b n) w.2.kept))

module _ {s : List ℕ} {a b : List NodeRecord} {chain : List Kind} {previous at n : ℕ} (t : ReadingLoop s a b chain previous at n) (h : length s ≤ at) where
  none : drop n (node_pieces s) ≡ []
  none = sym t.place ∙ pieces_end s at h

  count : n ≡ length (sheet_lines s)
  unfolding sheet_lines
  count = omega (arith, lines_length (node_pieces s), drop_none (node_pieces s) n none, t.count)

  stored : take n b ≡ map record_of (sheet_lines s)
  stored = rw (take_all n (sheet_lines s) (omega (arith, count))) at t.stored

  pub turns_stored : (m : ℕ) → m ≡ length (sheet_lines s) → take m b ≡ map record_of (sheet_lines s)
  turns_stored m e = rw (e ∙ sym count) stored

  pub turns_end : line_end (bare (take n b)) ≡ reading_of s
  unfolding lines_checks line_end
  turns_end = rw stored (bare_end (sheet_lines s) ∙ sym (t.answer ∙ rw none))
