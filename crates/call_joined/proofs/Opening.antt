-- A sheet opened for two tables: both lines are tables, and the checks of the calls are those of opening and then 5 and 6 of the joined grid.
use Rattle.common.specs.declared.Refusal.{Refusal}
use Rattle.common.specs.declared.Reason.{Reason}
use Rattle.std.specs.Prelude.{Result, Ok, Err, Some, MatchResult, IsErrAnd}
use Rattle.std.proofs.lemmas.Result.{err_from_is_err_and}
use mathlib.Core.Path.{◌≡◌, refl, sym, ap, ◌∙◌}
use mathlib.Core.Bool.{Bool, true, false, cond}
use mathlib.Core.List.{List, [], ◌∷◌, ◌++◌, append-nil}
use borrow.Author.Tests.{ltb-false}
use Prim.Native.Nat.{ℕ, ◌-◌, ◌≤◌}
use native.Mathlib.Omega.{arith}
use lib.ListN.{length, take}
use Rattle.common.specs.Refusals.{Check, first_answer, answer_by, passes, refusal}
use Rattle.common.specs.Limits.{max_lines, max_entries, max_position}
use Rattle.records.specs.declared.NodeRecord.{NodeRecord}
use Rattle.resolved_rows.specs.Listed.{table_rows}
use Rattle.grid.specs.Grid.{grid_of, columns_of, entries_of}
use Rattle.grid.proofs.GridFacts.{grid_rows}
use Rattle.grid.proofs.Rebuilt.{held_few}
use Rattle.grid_build.specs.declared.Counts.{Counts}
use Rattle.grid_join.specs.Joined.{joined_checks}
use Rattle.grid_join.proofs.Rows.{joined_count}
use Rattle.sheet.specs.Sheet.{sheet_checks}
use Rattle.sheet.proofs.First.{first_append, first_passes, first_carries, first_accepts, passes_both}
use Rattle.sheet_load.specs.Opening.{nodes_of, is_table, line_check, after_reading, open_checks, opened_of}
use Rattle.sheet_load.specs.inner.Opened.{Apt, deciding, OpenSheetPost}
use Rattle.sheet_load.proofs.Answers.{table_apt}
use Rattle.sheet_load.proofs.Opens.{opened_asked}
use Rattle.sheet_load.proofs.Passing.{Passed, passed}
use Rattle.sheet_load.proofs.Ready.{nodes_lined}
use Rattle.sheet_figures.specs.Calls.{every_table}
use Rattle.sheet_figures.proofs.Openings.{told}
use Rattle.joined_tables.specs.Tables.{both_checks}
use Rattle.joined_tables.specs.inner.Joining.{Tables, counts_at}
use Rattle.call_joined.specs.Joined.{joined_rows, joined_columns, two_checks}

module _ (s : List ℕ) (l r : ℕ) where
  -- the line that decides
  abbrev pub decided : ℕ
  decided = deciding (nodes_of s) l r

  -- the checks of opening by that line
  abbrev pub opening : List Check
  opening = open_checks (Some decided) s

  -- 5 and 6
  abbrev pub late : List Check
  late = both_checks (nodes_of s) (l - 1) (r - 1)

  module _ {A : Type 0} (refused : Refusal → A) (accepted : A) where
    after_lines : first_answer refused accepted (line_check (nodes_of s) l ∷ line_check (nodes_of s) r ∷ every_table s)
        ≡ first_answer refused accepted (after_reading (Some decided) (nodes_of s))
    unfolding first_answer after_reading
    after_lines = go (is_table (nodes_of s) l) refl
      where
        go : (b : Bool) → is_table (nodes_of s) l ≡ b
            → first_answer refused accepted (line_check (nodes_of s) l ∷ line_check (nodes_of s) r ∷ every_table s)
            ≡ first_answer refused accepted (after_reading (Some decided) (nodes_of s))
        go true e = rw e
        go false e = rw (e, e)

    -- one line decides for both
    by_one : first_answer refused accepted (sheet_checks s ++ line_check (nodes_of s) l ∷ line_check (nodes_of s) r ∷ every_table s) ≡ first_answer refused accepted opening
    by_one =
        first_append refused accepted (sheet_checks s) (line_check (nodes_of s) l ∷ line_check (nodes_of s) r ∷ every_table s)
        ∙ ap (λ (a : A). first_answer refused a (sheet_checks s)) after_lines
        ∙ sym (first_append refused accepted (sheet_checks s) (after_reading (Some decided) (nodes_of s)))

  module _ {A : Type 0} (refused : Refusal → A) (accepted : A) where
    -- the checks in turn
    pub in_turn : first_answer refused accepted (two_checks s l r) ≡ first_answer refused (first_answer refused accepted late) opening
    in_turn =
        first_append refused accepted (sheet_checks s ++ line_check (nodes_of s) l ∷ line_check (nodes_of s) r ∷ every_table s) late
        ∙ by_one refused (first_answer refused accepted late)

    -- refused before 5 and 6
    pub two_refused : {why : Refusal} → opened_of (Some decided) s ≡ Err why → first_answer refused accepted (two_checks s l r) ≡ refused why
    two_refused {why} o = in_turn ∙ told (Some decided) s refused _ why o

    -- not refused before them
    pub two_opened : passes opening ≡ true → first_answer refused accepted (two_checks s l r) ≡ first_answer refused accepted late
    two_opened p = in_turn ∙ first_passes refused (first_answer refused accepted late) opening p

    -- refused for 5 or 6
    pub two_late : {B : Type 0} (b : B) {why : Refusal} → passes opening ≡ true → answer_by b late ≡ Err why → first_answer refused accepted (two_checks s l r) ≡ refused why
    two_late b {why} p e =
        two_opened p
        ∙ ap (first_answer refused accepted) (sym (append-nil late))
        ∙ first_carries Err (Ok b) refused accepted why (λ w f. cc) (λ f. let z : ◌≡◌ {A = ℕ} 0 1 = cc in omega arith) late [] e

  -- a sheet that is accepted for both
  pub record Opened (n : ℕ) (lines : List NodeRecord) : Type 0 where
    pub answer : opened_of (Some decided) s ≡ Ok n
    pub passed : Passed (Some decided) s n
    pub holds : take n lines ≡ nodes_of s
    pub left : Apt (nodes_of s) l
    pub right : Apt (nodes_of s) r
    pub tables : Tables (nodes_of s) (l - 1) (r - 1)

  both_tables : is_table (nodes_of s) decided ≡ true → (is_table (nodes_of s) l ≡ true) × (is_table (nodes_of s) r ≡ true)
  both_tables = go (is_table (nodes_of s) l) refl
    where
      go : (b : Bool) → is_table (nodes_of s) l ≡ b → is_table (nodes_of s) (cond b r l) ≡ true → (is_table (nodes_of s) l ≡ true) × (is_table (nodes_of s) r ≡ true)
      go true e h = (e, h)
      go false e h = let z : ◌≡◌ {A = Bool} false true = sym e ∙ h in let y : ◌≡◌ {A = ℕ} 0 1 = cc in absurd (omega arith)

  pub opened : {q : Result ℕ Refusal} {lines : List NodeRecord} → OpenSheetPost (Some decided) s q lines → {n : ℕ} → q ≡ Ok n → Opened n lines
  opened w {n} e =
      let a : opened_of (Some decided) s ≡ Ok n = sym w.answer ∙ e in
      let p = passed (Some decided) s n a in
      let t = both_tables (opened_asked (Some decided) s n a decided refl) in
      let x = table_apt (nodes_of s) l t.0 in
      let y = table_apt (nodes_of s) r t.1 in
      record {
        answer = a;
        passed = p;
        holds = w.holds n e;
        left = x;
        right = y;
        tables =
            record {
              lined = nodes_lined s n p.reading;
              left_within = omega (arith, x.from_one, x.within);
              right_within = omega (arith, y.from_one, y.within);
              left_sound = (w.sound n e).at (l - 1) (omega (arith, x.from_one, x.within)) x.kind;
              right_sound = (w.sound n e).at (r - 1) (omega (arith, y.from_one, y.within)) y.kind;
            };
      }

-- ---- the joined grid

module _ (s : List ℕ) (l r : ℕ) where
  abbrev pub counts : Counts
  counts = counts_at (nodes_of s) (l - 1) (r - 1)

  -- where neither 5 nor 6 applies, no check does, and the counts fit 32 bits
  pub record Counted (c : Counts) : Type 0 where
    pub passes_all : passes (two_checks s l r) ≡ true
    pub same : counts ≡ c
    pub few_entries : length (entries_of (joined_rows s l r)) ≤ max_entries
    pub few_rows : length (joined_rows s l r) ≤ max_lines
    pub few_columns : joined_columns s l r ≤ max_position
    pub rows_are : length (joined_rows s l r) ≡ c.rows

  few : passes (late s l r) ≡ true → (joined_columns s l r ≤ max_position) × (length (entries_of (joined_rows s l r)) ≤ max_entries)
  unfolding joined_checks
  few p =
      let a = passes_both _ _ p in
      let b = passes_both _ _ a.1 in
      (ltb-false _ _ a.0, ltb-false _ _ b.0)

  pub counted : {n : ℕ} {lines : List NodeRecord} → Opened s l r n lines → {c : Counts} → answer_by counts (late s l r) ≡ Ok c → Counted c
  unfolding passes
  counted w {c} e =
      let a = first_accepts Err (Ok counts) (Ok c) (late s l r) (λ why f. let z : ◌≡◌ {A = ℕ} 0 1 = cc in omega arith) e in
      let f = few a.0 in
      let q : counts ≡ c = cc in
      let g = joined_count (columns_of (table_rows (nodes_of s) (l - 1))) (columns_of (table_rows (nodes_of s) (r - 1))) (grid_of (table_rows (nodes_of s) (l - 1))) (grid_of (table_rows (nodes_of s) (r - 1))) in
      record {
        passes_all = two_opened s l r (λ why. false) true w.passed.all ∙ a.0;
        same = q;
        few_entries = f.1;
        few_rows =
            omega (
              arith,
              g,
              grid_rows (table_rows (nodes_of s) (l - 1)) w.tables.left_sound,
              grid_rows (table_rows (nodes_of s) (r - 1)) w.tables.right_sound,
              held_few (nodes_of s) (l - 1),
              held_few (nodes_of s) (r - 1),
              w.tables.lined.short,
            );
        few_columns = f.0;
        rows_are = g ∙ ap (λ (k : Counts). k.rows) q;
      }

-- ---- a reason that is put on a line by `map_err`

pub record PutOn {A : Type 0} (line : ℕ) (r : Result A Reason) (y : Refusal) : Type 0 where
  pub why : Reason
  pub was : r ≡ Err why
  pub is : y ≡ refusal why line

module _ {A : Type 0} (line : ℕ) (r : Result A Reason) (t : Result A Refusal) (P : Reason → Refusal → Type 0) (k : (why : Reason) (y : Refusal) → P why y → y ≡ refusal why line)
    (c : MatchResult r (λ x. t ≡ Ok x) (λ why. IsErrAnd t (P why))) where
  pub put_on : (y : Refusal) → t ≡ Err y → PutOn line r y
  put_on y n = go r refl c
    where
      go : (q : Result A Reason) → r ≡ q → MatchResult q (λ x. t ≡ Ok x) (λ why. IsErrAnd t (P why)) → PutOn line r y
      go (Ok x) e d = cc
      go (Err why) e d =
          let q = err_from_is_err_and t d in
          let same : Err y ≡ Err q.0 = sym n ∙ q.1 in
          record { why = why; was = e; is = cc (k why q.0 q.2) }

  pub put_none : (x : A) → t ≡ Ok x → r ≡ Ok x
  put_none x n = go r refl c
    where
      go : (q : Result A Reason) → r ≡ q → MatchResult q (λ x. t ≡ Ok x) (λ why. IsErrAnd t (P why)) → r ≡ Ok x
      go (Ok y) e d =
          let q : ◌≡◌ {A = Result A Refusal} (Ok y) (Ok x) = sym d ∙ n in
          let same : y ≡ x = cc in
          rw same at e
      go (Err why) e d =
          let q = err_from_is_err_and t d in
          let same : Ok x ≡ Err q.0 = sym n ∙ q.1 in
          cc
