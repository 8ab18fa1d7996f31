-- The lines of an accepted sheet by the places where they start: line i + 1 starts after the heading and the i lines before it.
use mathlib.Core.Path.{◌≡◌, refl, sym, ap, ◌∙◌}
use mathlib.Core.List.{List, [], ◌∷◌}
use Prim.Native.Nat.{ℕ, zero, suc, ◌+◌, ◌≤◌, ◌<◌}
use native.Mathlib.Decide.{dec_lt}
use native.Mathlib.Numerals.{add-one}
use native.Mathlib.Omega.{arith}
use lib.ListN.{length, get_or, take, drop}
use Rattle.std.specs.Prelude.{Err, Ok, Some, None, true, false, Bool, not, cond, eqb, nat_lt}
use Rattle.std.specs.List.{position, position_or_len}
use Rattle.std.specs.Option.{unwrap_or}
use borrow.Author.Tests.{ltb-false}
use Rattle.common.specs.Limits.{max_lines}
use Rattle.common.specs.Lists.{sum}
use Rattle.common.specs.Refusals.{passes}
use Rattle.fields.specs.Lines.{Piece, piece, pieces, feed, heading_bytes, node_pieces}
use Rattle.line.specs.Fields.{Line, no_line, read_line, or_none}
use Rattle.line.specs.inner.LineAt.{piece_at, node_of, line_at, line_in}
use Rattle.line.proofs.Pieces.{upto, length_upto, piece_length, pieces_at, pieces_end}
use Rattle.line.proofs.Told.{GoodLine, good_line}
use Rattle.sheet.specs.Sheet.{sheet_checks, sheet_lines}
use Rattle.sheet.specs.inner.Reading.{reading_of}
use Rattle.sheet.proofs.Bounds.{accepted_lines}
use Rattle.sheet.proofs.Accepted.{Passed, accepted_passed, SoundLine, line_sound}
use Rattle.sheet.proofs.Earlier.{drop_here, drop_none, lines_length, line_is, earlier}
use Rattle.sheet.proofs.First.{first_passes}
use Rattle.sheet.proofs.Heading.{heading_long}
use Rattle.spoken_text.specs.Text.{bytes_of}
use Rattle.spoken_text.specs.inner.Places.{end_of, LinesPassed}

-- one line more
bytes_more : (ps : List Piece) (i : ℕ) (d : Piece) → i < length ps → bytes_of (take (suc i) ps) ≡ bytes_of (take i ps) + suc (length (get_or ps i d).bytes)
unfolding sum
bytes_more [] i d h = absurd (omega arith)
bytes_more (p ∷ ps) zero d h = omega arith
bytes_more (p ∷ ps) (suc i) d h = omega (arith, bytes_more ps i d (omega arith))

pub accepted_reading : (s : List ℕ) → passes (sheet_checks s) ≡ true → Passed s (length (sheet_lines s))
unfolding reading_of
accepted_reading s e = accepted_passed s (length (sheet_lines s)) (first_passes Err (Ok (length (sheet_lines s))) (sheet_checks s) e)

pub accepted_few : (s : List ℕ) → passes (sheet_checks s) ≡ true → length (sheet_lines s) ≤ max_lines
unfolding reading_of
accepted_few s e = (accepted_lines s (length (sheet_lines s)) (first_passes Err (Ok (length (sheet_lines s))) (sheet_checks s) e)).1

-- where the bytes of a line end, by a search for the line feed
upto_position : (t : List ℕ) → length (upto t) ≡ position_or_len (λ b. eqb b feed) t
unfolding upto
upto_position [] = refl
upto_position (b ∷ bs) = go (eqb b feed) (upto_position bs)
  where
    go : (t : Bool) → length (upto bs) ≡ position_or_len (λ b. eqb b feed) bs
        → length (cond t [] (b ∷ upto bs)) ≡ cond (not t) (1 + position_or_len (λ b. eqb b feed) bs) 0
    go true e = refl
    go false e = omega (arith, e)

found_or : (n m : ℕ) → n ≤ m → unwrap_or (cond (nat_lt n m) (Some n) None) m ≡ n
found_or n m h = go (nat_lt n m) refl
  where
    go : (b : Bool) → nat_lt n m ≡ b → unwrap_or (cond b (Some n) None) m ≡ n
    go true e = refl
    go false e = omega (arith, h, ltb-false n m e)

pub end_found : (s : List ℕ) (at : ℕ) {r : List ℕ} → r ≡ drop at s → at + unwrap_or (position (λ b. eqb b feed) r) (length r) ≡ end_of s at
unfolding end_of
end_found s at {r} e =
    let p = upto_position r in
    ap (λ (n : ℕ). at + n) (found_or (position_or_len (λ b. eqb b feed) r) (length r) (omega (arith, p, length_upto r)))
    ∙ omega (arith, p, ap (λ (t : List ℕ). length (upto t)) e, piece_length s at)

-- the line that starts at a place after i others, and what reading it there answers
pub record LineHere (s : List ℕ) (at i : ℕ) : Type 0 where
  pub inside : at < length s
  pub piece_is : get_or (node_pieces s) i (piece [] false) ≡ piece_at s at
  pub after : drop (suc i) (node_pieces s) ≡ pieces (drop (at + length (piece_at s at).bytes + 1) s)
  pub line_is : get_or (sheet_lines s) i no_line ≡ or_none (read_line (piece_at s at))
  pub read : line_at s at ≡ Ok (node_of at (piece_at s at) (or_none (read_line (piece_at s at))))
  pub good : GoodLine s at (node_of at (piece_at s at) (or_none (read_line (piece_at s at))))

-- reading a sound line
read_sound : (s : List ℕ) (at : ℕ) (before : List Line) → SoundLine (piece_at s at) before
    → line_at s at ≡ Ok (node_of at (piece_at s at) (or_none (read_line (piece_at s at))))
unfolding line_at line_in
read_sound s at before l = rw (l.read, l.clean, l.expression, l.bounded)

module _ {s : List ℕ} (e : passes (sheet_checks s) ≡ true) where
  pub passed_start : LinesPassed s heading_bytes 0
  unfolding sum
  passed_start = record { within = heading_long s (accepted_reading s e).begins.headed; place = refl; start = refl }

  module _ {at i : ℕ} (a : LinesPassed s at i) (h : i < length (sheet_lines s)) where
    few : i < length (node_pieces s)
    unfolding sheet_lines
    few = omega (arith, lines_length (node_pieces s))

    inside : at < length s
    inside = go (dec_lt at (length s))
      where
        go : Dec (at < length s) → at < length s
        go (yes g) = g
        go (no g) = absurd (omega (arith, few, drop_none (node_pieces s) i (sym a.place ∙ pieces_end s at (omega arith))))

    pub line_here : LineHere s at i
    unfolding sheet_lines
    line_here =
        let d = piece [] false in
        let (z, p, q) = drop_here d (node_pieces s) i (piece_at s at) _ (sym a.place ∙ pieces_at s at inside) in
        let l : SoundLine (piece_at s at) (earlier i (sheet_lines s)) = rw p at (line_sound (node_pieces s) (accepted_reading s e).lines i few d) in
        let r = read_sound s at _ l in
        record {
          inside = inside;
          piece_is = p;
          after = q;
          line_is = line_is (node_pieces s) i few d ∙ ap (λ (x : Piece). or_none (read_line x)) p;
          read = r;
          good = good_line s at _ r;
        }

    pub passed_more : LinesPassed s (end_of s at + 1) (i + 1)
    unfolding end_of
    passed_more =
        let l = line_here in
        record {
          within = l.good.inside;
          place = sym l.after ∙ ap (λ (k : ℕ). drop k (node_pieces s)) (sym (add-one i));
          start = rw (add-one i) (omega (arith, a.start, bytes_more (node_pieces s) i (piece [] false) few, ap (λ (p : Piece). length p.bytes) l.piece_is));
        }

  -- every line starts somewhere
  pub passed_all : (i : ℕ) → i ≤ length (sheet_lines s) → (at : ℕ) × LinesPassed s at i
  passed_all zero h = (heading_bytes, passed_start)
  passed_all (suc i) h =
      let (at, a) = passed_all i (omega arith) in
      (end_of s at + 1, rw (sym (add-one i)) (passed_more a h))
