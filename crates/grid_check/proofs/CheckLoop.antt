-- The loop over the tables of a sheet on plain lists: the verdict on the lines that are left is the verdict on all, and every table that is passed has no
-- refusal.
use mathlib.Core.Path.{◌≡◌, refl, sym, ap, subst, ◌∙◌}
use mathlib.Core.Bool.{Bool, true, false, cond}
use mathlib.Core.List.{List, [], ◌∷◌, ◌++◌}
use Prim.Native.Nat.{ℕ, zero, suc, ◌+◌, ◌≤◌, ◌<◌}
use native.Mathlib.Numerals.{add-one}
use native.Mathlib.Decide.{ℕ_discrete}
use native.Mathlib.Omega.{arith}
use lib.Dec.{eqb}
use lib.ListN.{length, get_or, drop, drop_of_length-le}
use lib.Seq.{drop-cons}
use borrow.Author.Tests.{eq-eqb, ne_eqb}
use Rattle.std.specs.Prelude.{Result, Ok, Err}
use Rattle.std.specs.Result.{IsErrAnd, MatchResult}
use Rattle.std.proofs.lemmas.Result.{err_from_is_err_and}
use Rattle.common.specs.Refusals.{refusal, first_answer, verdict_of}
use Rattle.common.specs.declared.Reason.{Reason}
use Rattle.common.specs.declared.Refusal.{Refusal}
use Rattle.kinds.specs.Kinds.{kind_number, table_kind}
use Rattle.records.specs.NodeRecord.{no_node}
use Rattle.records.specs.declared.NodeRecord.{NodeRecord}
use Rattle.resolved_rows.specs.Listed.{table_rows}
use Rattle.grid.specs.Grid.{table_checks, tables_checks}
use Rattle.grid.specs.Facts.{Sound}
use Rattle.grid_check.specs.inner.Checking.{refusal_of, TablesChecked}
use Rattle.grid_bounds.specs.inner.Sheets.{AllSound}
use Rattle.grid_check.proofs.Reasons.{or_rest, fits_none, none_sound, verdict_reason}

module _ (ks : List NodeRecord) (t : ℕ) (h : t < length ks) where
  abbrev here : NodeRecord
  here = get_or ks t no_node

  lines_here : drop t ks ≡ here ∷ drop (t + 1) ks
  lines_here = rw (add-one, drop-cons ks t no_node)

  abbrev rest : Result (Unit {0}) Refusal
  rest = verdict_of (tables_checks (t + 1 + 1) (drop (t + 1) ks))

  checks_here : (b : Bool) → eqb (kind_number here.kind) table_kind ≡ b
      → tables_checks (t + 1) (drop t ks) ≡ cond b (table_checks (t + 1) (table_rows ks t)) [] ++ tables_checks (t + 1 + 1) (drop (t + 1) ks)
  unfolding tables_checks table_rows
  checks_here b e =
      ap (tables_checks (t + 1)) lines_here
      ∙ (λ i. cond (e i) (table_checks (t + 1) (table_rows ks t)) [] ++ tables_checks (sym (add-one (t + 1)) i) (drop (t + 1) ks))

  verdict_other : (kind_number here.kind ≡ table_kind → ⊥) → verdict_of (tables_checks (t + 1) (drop t ks)) ≡ rest
  verdict_other n = ap verdict_of (checks_here false (ne_eqb (kind_number here.kind) table_kind n))

  module _ (e : kind_number here.kind ≡ table_kind) (r : Result (Unit {0}) Reason) (j : r ≡ refusal_of (table_rows ks t)) where
    verdict_table : verdict_of (tables_checks (t + 1) (drop t ks)) ≡ or_rest r (t + 1) rest
    verdict_table =
        ap verdict_of (checks_here true (eq-eqb (kind_number here.kind) table_kind e)) ∙ verdict_reason (table_rows ks t) (t + 1) (tables_checks (t + 1 + 1) (drop (t + 1) ks))
        ∙ ap (λ (x : Result (Unit {0}) Reason). or_rest x (t + 1) rest) (sym j)

    verdict_none : r ≡ Ok tt → verdict_of (tables_checks (t + 1) (drop t ks)) ≡ rest
    verdict_none z = verdict_table ∙ ap (λ (x : Result (Unit {0}) Reason). or_rest x (t + 1) rest) z

    verdict_refused : (why : Reason) → r ≡ Err why → verdict_of (tables_checks (t + 1) (drop t ks)) ≡ Err (refusal why (t + 1))
    verdict_refused why z = verdict_table ∙ ap (λ (x : Result (Unit {0}) Reason). or_rest x (t + 1) rest) z

-- ---- the loop

pub record Sofar (ks : List NodeRecord) (t : ℕ) : Type 0 where
  pub at : t ≤ length ks
  pub left : verdict_of (tables_checks (t + 1) (drop t ks)) ≡ verdict_of (tables_checks 1 ks)
  pub sound : (u : ℕ) → u < t → kind_number (get_or ks u no_node).kind ≡ table_kind → Sound (table_rows ks u)

pub start : (ks : List NodeRecord) → Sofar ks 0
start ks = record { at = omega arith; left = refl; sound = λ u l. absurd (omega arith) }

module _ {ks : List NodeRecord} {t : ℕ} (z : Sofar ks t) where
  pub stop : length ks ≤ t → TablesChecked ks (Ok tt)
  unfolding tables_checks verdict_of first_answer
  stop h = record { answer = rw (drop_of_length-le ks {i = t} h) at z.left; sound = λ _. record { at = λ u l e. z.sound u (omega (arith, z.at)) e } }

  module _ (h : t < length ks) where
    pub turn_other : (kind_number (get_or ks t no_node).kind ≡ table_kind → ⊥) → Sofar ks (t + 1)
    turn_other n = record { at = omega arith; left = sym (verdict_other ks t h n) ∙ z.left; sound = λ u l e. each u l e (ℕ_discrete u t) }
      where
        each : (u : ℕ) → u < t + 1 → kind_number (get_or ks u no_node).kind ≡ table_kind → Dec (u ≡ t) → Sound (table_rows ks u)
        each u l e (yes v) = absurd (n (ap (λ (i : ℕ). kind_number (get_or ks i no_node).kind) (sym v) ∙ e))
        each u l e (no v) = z.sound u (omega arith) e

    module _ (e : kind_number (get_or ks t no_node).kind ≡ table_kind) (r : Result (Unit {0}) Reason) (j : r ≡ refusal_of (table_rows ks t)) where
      pub turn_refused : (why : Reason) → r ≡ Err why → TablesChecked ks (Err (refusal why (t + 1)))
      turn_refused why n = record {
        answer = sym (verdict_refused ks t h e r j why n) ∙ z.left;
        sound = λ a. cc;
      }

      pub turn_table : r ≡ Ok tt → Sofar ks (t + 1)
      turn_table n = record {
        at = omega arith;
        left = sym (verdict_none ks t h e r j n) ∙ z.left;
        sound = λ u l g. each u l g (ℕ_discrete u t);
      }
        where
          each : (u : ℕ) → u < t + 1 → kind_number (get_or ks u no_node).kind ≡ table_kind → Dec (u ≡ t) → Sound (table_rows ks u)
          each u l g (yes v) = subst (λ (i : ℕ). Sound (table_rows ks i)) (sym v) (none_sound (table_rows ks t) (sym j ∙ n))
          each u l g (no v) = z.sound u (omega arith) g

      -- the reason with the table's line, or none: what `map_err` makes of the table's verdict
      module _ (m : Result (Unit {0}) Refusal) (P : Reason → Refusal → Type 0) (k : (why : Reason) (y : Refusal) → P why y → y ≡ refusal why (t + 1))
          (c : MatchResult r (λ x. m ≡ Ok x) (λ why. IsErrAnd m (P why))) where
        pub turn_told : (y : Refusal) → m ≡ Err y → TablesChecked ks (Err y)
        turn_told y n = go r refl c
          where
            go : (s : Result (Unit {0}) Reason) → r ≡ s → MatchResult s (λ x. m ≡ Ok x) (λ why. IsErrAnd m (P why)) → TablesChecked ks (Err y)
            go (Ok x) e d = cc
            go (Err why) e d =
                let q = err_from_is_err_and m d in
                let same : Err y ≡ Err q.0 = sym n ∙ q.1 in
                let v : y ≡ refusal why (t + 1) = cc (k why q.0 q.2) in
                subst (λ (x : Refusal). TablesChecked ks (Err x)) (sym v) (turn_refused why e)

        pub turn_fine : (x : Unit {0}) → m ≡ Ok x → Sofar ks (t + 1)
        turn_fine x n = go r refl c
          where
            go : (s : Result (Unit {0}) Reason) → r ≡ s → MatchResult s (λ x. m ≡ Ok x) (λ why. IsErrAnd m (P why)) → Sofar ks (t + 1)
            go (Ok tt) e d = turn_table e
            go (Err why) e d =
                let q = err_from_is_err_and m d in
                let same : Ok x ≡ Err q.0 = sym n ∙ q.1 in
                absurd cc

-- ---- a sheet each of whose tables fits

module _ {ks : List NodeRecord} (f : AllSound ks) where
  from_fit : (n t : ℕ) → t + n ≡ length ks → Sofar ks t → TablesChecked ks (Ok tt)
  from_fit zero t e z = stop z (omega arith)
  from_fit (suc n) t e z = go (from_fit n (t + 1) (omega arith)) (ℕ_discrete (kind_number (get_or ks t no_node).kind) table_kind)
    where
      go : (Sofar ks (t + 1) → TablesChecked ks (Ok tt)) → Dec (kind_number (get_or ks t no_node).kind ≡ table_kind) → TablesChecked ks (Ok tt)
      go ih (yes k) = ih (turn_table z (omega arith) k (refusal_of (table_rows ks t)) refl (sym (fits_none (table_rows ks t) (f.at t (omega arith) k))))
      go ih (no k) = ih (turn_other z (omega arith) k)

  pub fit_accepted : TablesChecked ks (Ok tt)
  fit_accepted = from_fit (length ks) 0 (omega arith) (start ks)
