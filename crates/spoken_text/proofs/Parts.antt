-- The text of a line as a part of the sheet: by the places that reading the line answers.
use mathlib.Core.Path.{◌≡◌, sym, ap, ap₂, subst, ◌∙◌}
use mathlib.Core.List.{List}
use Prim.Native.Nat.{ℕ, ◌+◌, ◌-◌, ◌≤◌, ◌<◌}
use native.Mathlib.Decide.{ℕ_discrete}
use native.Mathlib.Omega.{arith}
use lib.ListN.{length, take, drop, length-take}
use borrow.Author.Tests.{eq-eqb, ne_eqb}
use Rattle.std.specs.Prelude.{Option, Some, None, Bool, true, false, cond, eqb}
use Rattle.std.specs.Result.{result_ok}
use Rattle.common.specs.Limits.{max_bytes}
use Rattle.fields.specs.Lines.{Piece}
use Rattle.line.specs.Fields.{Line, Read, read_line, or_none}
use Rattle.line.specs.declared.Node.{Node}
use Rattle.line.specs.inner.LineAt.{piece_at, node_of, line_at}
use Rattle.answers.specs.declared.Part.{Part}
use Rattle.spoken_text.specs.Text.{text_of, line_end, text_part, part_with}
use Rattle.spoken_text.specs.inner.Places.{part_between, LinesPassed, TextPartPre}
use Rattle.spoken_text.proofs.Lines.{accepted_reading, LineHere, line_here, passed_all}

-- the part between two places that are so far from each other
between : (from to n m : ℕ) → to - from ≡ n → from ≤ to → to ≡ m → part_between from to ≡ cond (eqb n 0) None (Some (part_with (m - n) n))
unfolding part_between
between from to n m p h q = go (ℕ_discrete n 0)
  where
    e : from ≡ m - n
    e = omega arith

    go : Dec (n ≡ 0) → cond (eqb from to) None (Some (part_with from (to - from))) ≡ cond (eqb n 0) None (Some (part_with (m - n) n))
    go (yes z) = rw (eq-eqb n 0 z, eq-eqb from to (omega arith))
    go (no z) = rw (ne_eqb n 0 z, ne_eqb from to (λ g. z (omega arith))) (ap₂ (λ (a b : ℕ). Some (part_with a b)) e p)

module _ {s : List ℕ} {k at : ℕ} (t : TextPartPre s k) (a : LinesPassed s at (k - 1)) where
  abbrev here : LineHere s at (k - 1)
  here = line_here t.accepted a (omega (arith, t.from_one, t.within))

  abbrev node : Node
  node = node_of at (piece_at s at) (or_none (read_line (piece_at s at)))

  abbrev line : Line
  line = or_none (read_line (piece_at s at))

  text_is : text_of s k ≡ line.text
  text_is = ap (λ (l : Line). l.text) here.line_is

  -- it is what stands between the two places
  stands : line.text ≡ take (node.to - node.from) (drop node.from s)
  stands = ap (λ (r : Read). (or_none r).text) here.good.read ∙ here.good.text

  to_is : node.to ≡ line_end s k
  to_is = omega (arith, a.start, ap (λ (p : Piece). length p.bytes) here.piece_is)

  long : node.to - node.from ≡ length (text_of s k)
  long =
      let n : length (text_of s k) ≤ node.to - node.from = omega (
        arith,
        ap length text_is,
        ap length stands,
        length-take (node.to - node.from) (drop node.from s),
      ) in
      omega (arith, n, here.good.stops, ap length text_is)

  pub part_is : part_between node.from node.to ≡ text_part s k
  unfolding text_part
  part_is = between node.from node.to (length (text_of s k)) (line_end s k) long here.good.stops to_is

  -- what reading it answers there
  told : {d : Node} → result_ok (line_at s at) ≡ Some d → d ≡ node
  told {d} e = let q : ◌≡◌ {A = Option Node} (Some node) (Some d) = ap result_ok (sym here.read) ∙ e in cc

  pub never_none : result_ok (line_at s at) ≡ None → ⊥
  never_none e = let q : ◌≡◌ {A = Option Node} (Some node) None = ap result_ok (sym here.read) ∙ e in let z : ◌≡◌ {A = ℕ} 0 1 = cc in absurd (omega arith)

  pub starts_inside : at < length s
  starts_inside = here.inside

  pub told_part : {d : Node} → result_ok (line_at s at) ≡ Some d → (d.from ≤ d.to) × (d.to ≤ max_bytes) × (part_between d.from d.to ≡ text_part s k)
  told_part {d} e =
      subst (λ (x : Node). (x.from ≤ x.to) × (x.to ≤ max_bytes) × (part_between x.from x.to ≡ text_part s k)) (sym (told e))
      (here.good.stops, omega (arith, here.good.inside, (accepted_reading s t.accepted).begins.short), part_is)

  -- the part lies in the sheet, and what stands there is the text of the line
  pub part_stands : {p : Part} → text_part s k ≡ Some p → (p.from + p.length ≤ length s) × (take p.length (drop p.from s) ≡ text_of s k)
  unfolding text_part
  part_stands {p} e = go (eqb (length (text_of s k)) 0) e
    where
      m : ℕ
      m = length (text_of s k)

      f : node.from ≡ line_end s k - m
      f = omega (arith, long, to_is, here.good.stops)

      stays : take m (drop (line_end s k - m) s) ≡ text_of s k
      stays = ap₂ (λ (a b : ℕ). take a (drop b s)) (sym long) (sym f) ∙ sym stands ∙ sym text_is

      go : (b : Bool) → cond b None (Some (part_with (line_end s k - m) m)) ≡ Some p → (p.from + p.length ≤ length s) × (take p.length (drop p.from s) ≡ text_of s k)
      go true g = let z : ◌≡◌ {A = ℕ} 0 1 = cc in absurd (omega arith)
      go false g =
          let q : part_with (line_end s k - m) m ≡ p = cc in
          subst (λ (x : Part). (x.from + x.length ≤ length s) × (take x.length (drop x.from s) ≡ text_of s k)) q
          (omega (arith, here.good.inside, here.good.stops, f, long), stays)

-- so that of every line
pub text_stands : {s : List ℕ} {k : ℕ} {p : Part} → TextPartPre s k → text_part s k ≡ Some p → (p.from + p.length ≤ length s) × (take p.length (drop p.from s) ≡ text_of s k)
text_stands {s} {k} t e =
    let (at, a) = passed_all t.accepted (k - 1) (omega (arith, t.within)) in
    part_stands t a e
