-- No call answers 7, whatever the sheet: the answer of every call is what it accepts, or a refusal of another number. By the numbers of the checks.
use Rattle.common.specs.declared.Reason.{Reason}
use Rattle.common.specs.declared.Reason.TheVariants.{Fields, Heading, Nesting, NoExpression, NoTable, OutOfBounds, RowEnd, TextByte, TooLong, TooManyEntries}
use Rattle.common.specs.declared.Refusal.{Refusal}
use mathlib.Core.Path.{◌≡◌, refl}
use mathlib.Core.Logic.{◌⊎◌, inl, inr}
use mathlib.Core.Bool.{Bool, true, false, cond}
use mathlib.Core.List.{List, [], ◌∷◌, ◌++◌}
use Prim.Native.Nat.{ℕ, suc}
use native.Mathlib.Omega.{arith}
use lib.Dec.{eqb}
use Rattle.common.specs.Refusals.{reason_number, Check, check, first_answer}
use Rattle.common.specs.Lists.{All}
use Rattle.common.proofs.All.{all_append}
use Rattle.kinds.specs.Kinds.{kind_number, table_kind}
use Rattle.fields.specs.Lines.{Piece, node_pieces}
use Rattle.line.specs.Fields.{Line, read_line, or_none}
use Rattle.records.specs.declared.NodeRecord.{NodeRecord}
use Rattle.sheet.specs.Sheet.{lines_checks, empty_checks, sheet_lines, sheet_checks}
use Rattle.resolved_rows.specs.Cells.{rows_under}
use Rattle.resolved_rows.specs.Cells as cells
use Rattle.grid.specs.Grid.{table_checks, tables_checks}
use Rattle.sheet_load.specs.Opening.{nodes_of}
use Rattle.sheet_figures.specs.Calls.{check_checks, asked_checks}

-- a check of another refusal
abbrev pub Other : Check → Type 0
Other c = reason_number c.refusal.reason ≡ 7 → ⊥

pub no_more : All Other []
unfolding All
no_more = tt

pub more : (n : Reason) → (reason_number n ≡ 7 → ⊥) → (b : Bool) (line : ℕ) (cs : List Check) → All Other cs → All Other (check b n line ∷ cs)
unfolding All
more n p b line cs ps = (p, ps)

-- ---- the checks of a sheet

lines_other : (k : ℕ) (earlier : List Line) (ps : List Piece) → All Other (lines_checks k earlier ps)
unfolding lines_checks
lines_other k earlier [] = no_more
lines_other k earlier (p ∷ ps) =
    more Fields (λ e. omega (arith, e)) _ _ _
    (more TextByte (λ e. omega (arith, e)) _ _ _
    (more NoExpression (λ e. omega (arith, e)) _ _ _
    (more OutOfBounds (λ e. omega (arith, e)) _ _ _
    (more Nesting (λ e. omega (arith, e)) _ _ _ (lines_other (suc k) (or_none (read_line p) ∷ earlier) ps)))))

empty_other : (k : ℕ) (ls : List Line) → All Other (empty_checks k ls)
unfolding empty_checks
empty_other k [] = no_more
empty_other k (l ∷ ls) = more Nesting (λ e. omega (arith, e)) _ _ _ (empty_other (suc k) ls)

sheet_other : (s : List ℕ) → All Other (sheet_checks s)
unfolding sheet_checks
sheet_other s =
    more TooLong (λ e. omega (arith, e)) _ _ _ (more Heading (λ e. omega (arith, e)) _ _ _ (all_append Other _ _ (lines_other 1 [] (node_pieces s)) (more Nesting (λ e. omega (arith, e)) _ _ _ (empty_other 1 (sheet_lines s)))))

table_other : (t : ℕ) (table : List cells.Row) → All Other (table_checks t table)
unfolding table_checks
table_other t table = more RowEnd (λ e. omega (arith, e)) _ _ _ (more TooManyEntries (λ e. omega (arith, e)) _ _ _ no_more)

tables_other : (t : ℕ) (ls : List NodeRecord) → All Other (tables_checks t ls)
unfolding tables_checks
tables_other t [] = no_more
tables_other t (l ∷ ls) = all_append Other _ _ (go (eqb (kind_number l.kind) table_kind)) (tables_other (suc t) ls)
  where
    go : (b : Bool) → All Other (cond b (table_checks t (rows_under l.depth t ls)) [])
    go true = table_other t (rows_under l.depth t ls)
    go false = no_more

-- ---- the checks of the calls

pub check_other : (s : List ℕ) → All Other (check_checks s)
check_other s = all_append Other _ _ (sheet_other s) (tables_other 1 (nodes_of s))

-- those of a call that asks for a table
pub asked_other : (arguments : List Check) → All Other arguments → (s : List ℕ) (line : ℕ) → All Other (arguments ++ asked_checks s line)
asked_other arguments a s line = all_append Other _ _ a (all_append Other _ _ (sheet_other s) (more NoTable (λ e. omega (arith, e)) _ _ _ (tables_other 1 (nodes_of s))))

-- ---- the answers

pub record Refused {A : Type 0} (refused : Refusal → A) (answer : A) : Type 0 where
  pub why : Refusal
  pub other : reason_number why.reason ≡ 7 → ⊥
  pub is : answer ≡ refused why

pub never_seven : {A : Type 0} (refused : Refusal → A) (accepted : A) (cs : List Check) → All Other cs → (first_answer refused accepted cs ≡ accepted) ⊎ Refused refused (first_answer refused accepted cs)
unfolding All first_answer
never_seven refused accepted [] p = inl refl
never_seven refused accepted (c ∷ cs) p = go c.applies (never_seven refused accepted cs p.1)
  where
    go : (b : Bool) → (first_answer refused accepted cs ≡ accepted) ⊎ Refused refused (first_answer refused accepted cs)
        → (cond b (refused c.refusal) (first_answer refused accepted cs) ≡ accepted) ⊎ Refused refused (cond b (refused c.refusal) (first_answer refused accepted cs))
    go true r = inr (record { why = c.refusal; other = p.0; is = refl })
    go false r = r
