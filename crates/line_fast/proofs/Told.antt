-- The commonest lines kind by kind: the bytes that are compared are those of such a line, whose fields and figures follow by computing.
use mathlib.Core.Path.{◌≡◌, refl, sym, ap, ◌∙◌}
use mathlib.Core.Bool.{true, false, or-true}
use mathlib.Core.List.{List, [], ◌∷◌, ◌++◌}
use Prim.Native.Nat.{ℕ, ◌+◌, ◌-◌, ◌*◌, ◌/◌, ◌%◌, ◌≤◌}
use native.Mathlib.Nat.{add-zero}
use native.Mathlib.Numerals.{add-one}
use native.Mathlib.Omega.{arith}
use lib.Dec.{eqb}
use lib.ListN.{length, get_or, take, drop, length-drop}
use lib.Seq.{drop-cons, get_or-drop}
use borrow.Author.Tests.{le-leb}
use Rattle.std.specs.Prelude.{Some}
use Rattle.std.specs.List.{slice_range}
use Rattle.std.proofs.lemmas.List.{take_rest}
use Rattle.common.specs.Limits.{max_depth, max_cols, max_rows}
use Rattle.common.specs.Lists.{All}
use Rattle.text.specs.Decimal.{plain, shift}
use Rattle.text.specs.Text.{with_img}
use Rattle.swar.specs.inner.Digits.{as_number, EightPost}
use Rattle.swar.proofs.Standing.{stand, joined}
use Rattle.kinds.specs.declared.Kind.{Kind}
use Rattle.kinds.specs.declared.Kind.TheVariants.{Text, Table, Body, Row, Cell}
use Rattle.kinds.specs.Kinds.{kind_number, kind_at, same, place, kind_of, img_kind, calc_kind}
use Rattle.records.specs.inner.NodeRecord.{cell_node}
use Rattle.records.specs.declared.NodeRecord.{NodeRecord}
use Rattle.fields.specs.Blanks.{until_blank, blank}
use Rattle.fields.specs.Numbers.{up_to, magnitude}
use Rattle.fields.specs.inner.Reading.{kind_read}
use Rattle.line.specs.Fields.{n_fits}
use Rattle.line.specs.inner.Reading.{span_limit}
use Rattle.line.proofs.OneDigit.{Name, past, digit_read, two_read, line_is, bare_is}
use Rattle.line_fast.specs.inner.Briefs.{Brief, InBrief}
use Rattle.line_fast.specs.inner.Bytes.{DepthPost, BareLinePost, TextLinePost, ending}
use Rattle.line_fast.specs.inner.Bytes as bytes

-- ` cell 0 `, ` row 0 0`, ` body 0 `, ` table 0` and ` text 0 `, and `t 0 0 0 `

abbrev pub cell_front : List ℕ
cell_front = 32 ∷ 99 ∷ 101 ∷ 108 ∷ 108 ∷ 32 ∷ 48 ∷ 32 ∷ []

abbrev pub row_front : List ℕ
row_front = 32 ∷ 114 ∷ 111 ∷ 119 ∷ 32 ∷ 48 ∷ 32 ∷ 48 ∷ []

abbrev pub body_front : List ℕ
body_front = 32 ∷ 98 ∷ 111 ∷ 100 ∷ 121 ∷ 32 ∷ 48 ∷ 32 ∷ []

abbrev pub table_front : List ℕ
table_front = 32 ∷ 116 ∷ 97 ∷ 98 ∷ 108 ∷ 101 ∷ 32 ∷ 48 ∷ []

abbrev pub text_front : List ℕ
text_front = 32 ∷ 116 ∷ 101 ∷ 120 ∷ 116 ∷ 32 ∷ 48 ∷ 32 ∷ []

abbrev pub text_end : List ℕ
text_end = 116 ∷ 32 ∷ 48 ∷ 32 ∷ 48 ∷ 32 ∷ 48 ∷ 32 ∷ []

-- a number that is ` 0 0 0 ` and a line feed with one digit more for cols and one for rows
pub cell_ends : {s : List ℕ} {at depth r z : ℕ} → EightPost s at r → z ≡ as_number (ending 0 0) → z ≤ r → (r - z) % 16777216 ≡ 0
    → (r - z) / 16777216 % 65536 ≤ 9 → (r - z) / 16777216 / 65536 ≤ 9 → (l : NodeRecord)
    → l ≡ cell_node depth ((r - z) / 16777216 % 65536) ((r - z) / 16777216 / 65536) → (b : Brief) → Some (record { value = l; next = at + 8 }) ≡ Some b → bytes.CellLinePost s at depth b
unfolding All
cell_ends {r = r} {z = z} w n h m p q l i b e =
    let figure = (r - z) / 16777216 in
    let cols = figure % 65536 in
    let rows = figure / 65536 in
    record {
      cols = cols;
      rows = rows;
      narrow = p;
      low = q;
      stands =
          stand w (ending cols rows) refl
          (omega arith, (omega arith, (omega arith, (omega arith, (omega arith, (omega arith, (omega arith, (omega arith, tt)))))))) (omega arith);
      is = cc;
    }

-- ---- what the comparisons say of the bytes from the depth on

module _ {s : List ℕ} {at after depth : ℕ} (d : DepthPost s at after depth) where
  -- a line without a text, or a cell: its front, and its end k places on
  module _ (kind : Kind) (k cols rows : ℕ) (name front : List ℕ) (short : k ≤ 8) (begins : take k front ≡ blank ∷ name) (counted : length name + 1 ≡ k)
      (named : Name name kind) (numbered : n_fits kind (plain 0) ≡ true) (other : eqb (kind_number kind) calc_kind ≡ false) (narrow : cols ≤ 9) (low : rows ≤ 9)
      (wide : up_to (span_limit kind max_cols) (plain cols) ≡ true) (high : up_to (span_limit kind max_rows) (plain rows) ≡ true)
      (at_front : take 8 (drop after s) ≡ front) (at_end : take 8 (drop (after + k) s) ≡ ending cols rows) where
    pub ended : (b : Brief)
        → b.value ≡ record { depth = depth; kind = kind; cols = cols; rows = rows; number = shift; own = with_img (eqb (kind_number kind) img_kind) 0 }
        → b.next ≡ after + k + 8 → InBrief s at b
    ended b kept next =
        let rest = drop (after + k + 8) s in
        let bytes : drop after s ≡ blank ∷ (name ++ (ending cols rows ++ rest)) =
        joined s front (ending cols rows) after k short at_front at_end ∙ ap (λ (l : List ℕ). l ++ (ending cols rows ++ rest)) begins in
        record {
          node = _;
          read = bare_is s at (after + 1) depth kind cols rows name (10 ∷ rest) (d.read _ bytes) narrow low named numbered wide high (past s after 1 _ bytes) rest refl other;
          brief = record { kept = kept; next = next ∙ omega (arith, counted) };
        }

  -- ---- kind by kind

  pub cell_told : {b : Brief} → take 8 (drop after s) ≡ cell_front → bytes.CellLinePost s (after + 5) depth b → InBrief s at b
  unfolding kind_read until_blank kind_of place same n_fits span_limit kind_at
  cell_told e z =
      rw z.is
      (ended Cell 5 z.cols z.rows (99 ∷ 101 ∷ 108 ∷ 108 ∷ []) cell_front (omega arith) refl refl (λ p t. refl) refl refl z.narrow z.low
      (le-leb z.cols max_cols (omega (arith, z.narrow))) (le-leb z.rows max_rows (omega (arith, z.low))) e z.stands _ refl (omega arith))

  pub row_told : {b : Brief} → take 8 (drop after s) ≡ row_front → BareLinePost s (after + 4) depth Row b → InBrief s at b
  unfolding kind_read until_blank kind_of place same n_fits span_limit kind_at
  row_told e z =
      rw z.is
      (ended Row 4 0 0 (114 ∷ 111 ∷ 119 ∷ []) row_front (omega arith) refl refl (λ p t. refl) refl refl (omega arith) (omega arith) refl refl e z.stands _ refl
      (omega arith))

  pub body_told : {b : Brief} → take 8 (drop after s) ≡ body_front → BareLinePost s (after + 5) depth Body b → InBrief s at b
  unfolding kind_read until_blank kind_of place same n_fits span_limit kind_at
  body_told e z =
      rw z.is
      (ended Body 5 0 0 (98 ∷ 111 ∷ 100 ∷ 121 ∷ []) body_front (omega arith) refl refl (λ p t. refl) refl refl (omega arith) (omega arith) refl refl e z.stands _ refl
      (omega arith))

  pub table_told : {b : Brief} → take 8 (drop after s) ≡ table_front → BareLinePost s (after + 6) depth Table b → InBrief s at b
  unfolding kind_read until_blank kind_of place same n_fits span_limit kind_at
  table_told e z =
      rw z.is
      (ended Table 6 0 0 (116 ∷ 97 ∷ 98 ∷ 108 ∷ 101 ∷ []) table_front (omega arith) refl refl (λ p t. refl) refl refl (omega arith) (omega arith) refl refl e z.stands
      _ refl (omega arith))

  pub text_told : {b : Brief} → take 8 (drop after s) ≡ text_front → take 8 (drop (after + 4) s) ≡ text_end → TextLinePost s (after + 12) depth b → InBrief s at b
  unfolding kind_read until_blank kind_of place same n_fits span_limit kind_at
  text_told e f z =
      let twelve : after + 1 + 4 + 1 + 6 ≡ after + 12 = omega arith in
      let front = z.front in
      let bytes = joined s text_front text_end after 4 (omega arith) e f in
      rw z.is
      (record {
        node = _;
        read =
            line_is s at (after + 1) depth Text 0 0 (116 ∷ 101 ∷ 120 ∷ 116 ∷ []) (drop (after + 4 + 8) s) (d.read _ bytes) (omega arith) (omega arith) (λ p t. refl) refl refl refl
            (past s after 1 _ bytes) front.end front.size (rw twelve z.scanned.end) z.inside z.ended
            (or-true (eqb (front.end - (after + 1 + 4 + 1 + 6)) 0)) refl (rw twelve z.scanned.size);
        brief = record { kept = rw add-zero; next = refl };
      })

-- ---- the depth

-- what stands at the front of the bytes from a place on
front_first : (s : List ℕ) (at : ℕ) {r : List ℕ} → r ≡ slice_range s at (length s) → (k : ℕ) → get_or s (at + k) 0 ≡ get_or r k 0
front_first s at h k = sym (get_or-drop at s k 0) ∙ ap (λ (l : List ℕ). get_or l k 0) (sym (take_rest s at) ∙ sym h)

module _ (s : List ℕ) (at : ℕ) {r : List ℕ} (h : r ≡ slice_range s at (length s)) (long : 16 ≤ length r) (first : 48 ≤ get_or r 0 0) (top : get_or r 0 0 ≤ 57) where
  within : at + 16 ≤ length s
  within = let e = ap length (h ∙ take_rest s at) in omega (arith, e, length-drop at s, long)

  pub one_deep : {v : ℕ} → v ≡ get_or r 0 0 - 48 → DepthPost s at (at + 1) v
  one_deep {v} e = record {
    inside = omega (arith, within);
    read = λ t q.
        let b : get_or s at 0 ≡ 48 + v = ap (λ (i : ℕ). get_or s i 0) (sym (add-zero at)) ∙ front_first s at h 0 ∙ omega (arith, e) in
        let two : at + 1 + 1 ≡ at + 2 = omega arith in
        rw two (digit_read (up_to max_depth) magnitude at s t v (omega (arith, e)) (drop-cons s at 0 (omega (arith, within)) ∙ rw (← add-one at, b, q)) (le-leb v max_depth (omega (arith, e))));
  }

  pub two_deep : {v : ℕ} → (get_or r 0 0 ≡ 48 → ⊥) → 48 ≤ get_or r 1 0 → get_or r 1 0 ≤ 57 → v ≡ (get_or r 0 0 - 48) * 10 + (get_or r 1 0 - 48) → v ≤ max_depth → DepthPost s at (at + 2) v
  two_deep {v} z low high e deep = record {
    inside = omega (arith, within);
    read = λ t q.
        let tens = get_or r 0 0 - 48 in
        let ones = get_or r 1 0 - 48 in
        let b : get_or s at 0 ≡ 48 + tens = ap (λ (i : ℕ). get_or s i 0) (sym (add-zero at)) ∙ front_first s at h 0 ∙ omega arith in
        let c : get_or s (at + 1) 0 ≡ 48 + ones = front_first s at h 1 ∙ omega arith in
        let three : at + 2 + 1 ≡ at + 3 = omega arith in
        let two : at + 1 + 1 ≡ at + 2 = omega arith in
        let after : drop (at + 1) s ≡ (48 + ones) ∷ blank ∷ t = drop-cons s (at + 1) 0 (omega (arith, within)) ∙ rw (← add-one (at + 1), two, c, q) in
        rw (three, e)
        (two_read at s t tens ones (omega (arith, z)) (omega arith) (omega arith) (omega (arith, e)) (drop-cons s at 0 (omega (arith, within)) ∙ rw (← add-one at, b, after)));
  }
