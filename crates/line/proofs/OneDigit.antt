-- A line whose cols and rows have one digit each, and whose n is 0: its fields, and what it is where a line feed ends its text. Its depth has one digit or two.
use mathlib.Core.Path.{◌≡◌, sym, ap, ◌∙◌}
use mathlib.Core.Bool.{Bool, true, false, ◌||◌}
use mathlib.Core.List.{List, [], ◌∷◌, ◌++◌}
use Prim.Native.Nat.{ℕ, ◌+◌, ◌-◌, ◌*◌, ◌≤◌, ◌<◌}
use native.Mathlib.Nat.{add-zero}
use native.Mathlib.Omega.{arith}
use lib.Dec.{eqb}
use lib.ListN.{length, get_or, drop, length-drop}
use lib.Seq.{drop-drop, drop-append-add, get_or-drop}
use borrow.Author.Tests.{ne_eqb, le-leb}
use Rattle.std.specs.Prelude.{Some, Ok}
use Rattle.common.specs.Limits.{max_depth, max_cols, max_rows}
use Rattle.text.specs.Decimal.{Number, plain, shift, shifted}
use Rattle.text.specs.Text.{text_size, with_img, begins, trim_start, trim_end, widths, runs}
use Rattle.text.specs.inner.Fronts.{front_of}
use Rattle.kinds.specs.declared.Kind.{Kind}
use Rattle.kinds.specs.Kinds.{kind_number, has_text, img_kind, calc_kind}
use Rattle.fields.specs.Lines.{feed}
use Rattle.fields.specs.Numbers.{up_to, magnitude, all_digits, is_natural, value_from, natural_of, number_of}
use Rattle.fields.specs.Blanks.{until_blank, blank}
use Rattle.fields.specs.inner.Reading.{sound, number_read, kind_read}
use Rattle.line.specs.Fields.{n_fits}
use Rattle.line.specs.inner.Reading.{span_limit, rest_read, fields_read}
use Rattle.line.specs.inner.LineAt.{line_at}
use Rattle.line.proofs.Judging.{reads, front_good}

-- a number of one digit, where it is allowed
pub digit_read : (allowed : Number → Bool) (kept : Number → ℕ) (at : ℕ) (s rest : List ℕ) (v : ℕ) → v ≤ 9 → drop at s ≡ (48 + v) ∷ blank ∷ rest
    → allowed (plain v) ≡ true → number_read allowed kept at (drop at s) ≡ sound (kept (plain v)) (at + 2)
unfolding number_read until_blank number_of natural_of is_natural value_from
digit_read allowed kept at s rest v h e a =
    let value : 0 * 10 + (48 + v - 48) ≡ v = omega arith in
    let next : at + 1 + 1 ≡ at + 2 = omega arith in
    rw (
      e,
      ne_eqb (48 + v) blank (λ q. omega arith),
      ne_eqb (48 + v) 45 (λ q. omega arith),
      le-leb 48 (48 + v) (omega arith),
      le-leb (48 + v) 57 (omega arith),
      value,
      a,
      next,
    )

-- a depth of two digits
pub two_read : (at : ℕ) (s rest : List ℕ) (tens ones : ℕ) → 1 ≤ tens → tens ≤ 9 → ones ≤ 9 → tens * 10 + ones ≤ max_depth → drop at s ≡ (48 + tens) ∷ (48 + ones) ∷ blank ∷ rest
    → number_read (up_to max_depth) magnitude at (drop at s) ≡ sound (tens * 10 + ones) (at + 3)
unfolding number_read until_blank number_of natural_of is_natural all_digits value_from
two_read at s rest tens ones first h g deep e =
    let value : (0 * 10 + (48 + tens - 48)) * 10 + (48 + ones - 48) ≡ tens * 10 + ones = omega arith in
    let next : at + 2 + 1 ≡ at + 3 = omega arith in
    rw (
      e,
      ne_eqb (48 + tens) blank (λ q. omega arith),
      ne_eqb (48 + ones) blank (λ q. omega arith),
      ne_eqb (48 + tens) 45 (λ q. omega arith),
      ne_eqb (48 + tens) 48 (λ q. omega arith),
      le-leb 48 (48 + tens) (omega arith),
      le-leb (48 + tens) 57 (omega arith),
      le-leb 48 (48 + ones) (omega arith),
      le-leb (48 + ones) 57 (omega arith),
      value,
      le-leb (tens * 10 + ones) max_depth deep,
      next,
    )

-- what stands after bytes that stand at a place
pub past : (s : List ℕ) (at k : ℕ) (t : List ℕ) → drop at s ≡ t → drop (at + k) s ≡ drop k t
past s at k t e = sym (drop-drop k at s) ∙ ap (drop k) e

-- the kind has this name
abbrev pub Name : List ℕ → Kind → Type 0
Name name kind = (at : ℕ) (t : List ℕ) → kind_read at (name ++ (blank ∷ t)) ≡ sound kind (at + length name + 1)

-- `name_at` is the place after the depth and its space
module _ (s : List ℕ) (at name_at depth : ℕ) (kind : Kind) (cols rows : ℕ) (name rest : List ℕ)
    (deep : number_read (up_to max_depth) magnitude at (drop at s) ≡ sound depth name_at) (narrow : cols ≤ 9) (low : rows ≤ 9)
    (named : Name name kind) (numbered : n_fits kind (plain 0) ≡ true) (wide : up_to (span_limit kind max_cols) (plain cols) ≡ true)
    (high : up_to (span_limit kind max_rows) (plain rows) ≡ true)
    (stands : drop name_at s ≡ name ++ (blank ∷ 48 ∷ blank ∷ (48 + cols) ∷ blank ∷ (48 + rows) ∷ blank ∷ rest)) where
  -- the place of n
  abbrev n_place : ℕ
  n_place = name_at + length name + 1

  at_n : drop n_place s ≡ 48 ∷ blank ∷ (48 + cols) ∷ blank ∷ (48 + rows) ∷ blank ∷ rest
  at_n =
      let e : name_at + (length name + 1) ≡ n_place = omega arith in
      rw (← e) (past s name_at (length name + 1) _ stands ∙ drop-append-add name _ 1)

  fields_are : fields_read s at
      ≡ Some (record { depth = depth; kind = kind; number = shift; cols = cols; rows = rows; from = n_place + 6 })
  unfolding fields_read rest_read shifted
  fields_are =
      let two : n_place + 2 + 2 ≡ n_place + 4 = omega arith in
      let four : n_place + 4 + 2 ≡ n_place + 6 = omega arith in
      rw (
        deep,
        stands,
        named name_at _,
        digit_read (n_fits kind) shifted n_place s _ 0 (omega arith) at_n numbered,
        digit_read (up_to (span_limit kind max_cols)) magnitude (n_place + 2) s _ cols narrow (past s n_place 2 _ at_n) wide,
        two,
        digit_read (up_to (span_limit kind max_rows)) magnitude (n_place + 4) s _ rows low (past s n_place 4 _ at_n) high,
        four,
      )

  -- the place of the text
  abbrev from : ℕ
  from = n_place + 6

  pub text_at : drop from s ≡ rest
  text_at = past s n_place 6 _ at_n

  pub line_is : (stop size : ℕ) → stop ≡ from + length (front_of feed (drop from s)) → stop < length s → get_or s stop 0 ≡ feed
      → (eqb (stop - from) 0 || has_text kind) ≡ true → eqb (kind_number kind) calc_kind ≡ false → size ≡ text_size (front_of feed (drop from s))
      → line_at s at
      ≡ Ok (record { depth = depth; kind = kind; number = shift; cols = cols; rows = rows; own = with_img (eqb (kind_number kind) img_kind) size; from = from; to = stop; next = stop + 1 })
  line_is stop size end inside fed may other sized = front_good s at _ (reads s at _ fields_are) stop end inside fed may other size sized

  -- the line feed stands where the text would start
  pub bare_is : (more : List ℕ) → rest ≡ feed ∷ more → eqb (kind_number kind) calc_kind ≡ false
      → line_at s at
      ≡ Ok (record { depth = depth; kind = kind; number = shift; cols = cols; rows = rows; own = with_img (eqb (kind_number kind) img_kind) 0; from = from; to = from; next = from + 1 })
  unfolding front_of text_size begins trim_start trim_end widths runs
  bare_is more e other =
      let here : drop from s ≡ feed ∷ more = text_at ∙ e in
      let none : front_of feed (drop from s) ≡ [] = rw here in
      let length-here = ap length here in
      let same : from - from ≡ 0 = omega arith in
      line_is from 0 (omega (arith, ap length none)) (omega (arith, length-drop from s, length-here))
      (sym (get_or-drop from s 0 0 ∙ ap (λ (i : ℕ). get_or s i 0) (add-zero from)) ∙ ap (λ (l : List ℕ). get_or l 0 0) here) (rw same) other (rw none)
