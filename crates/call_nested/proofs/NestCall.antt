-- The call `nested`: what is found in the sheet is what it answers and leaves, and of it the third demand holds.
use Rattle.records.specs.declared.NodeRecord.{NodeRecord}
use Rattle.answers.specs.Answers.{nested_with}
use Rattle.answers.specs.declared.Layout.{Layout}
use Rattle.answers.specs.declared.Nested.{Nested}
use Rattle.common.specs.declared.Refusal.{Refusal}
use Rattle.std.specs.Prelude.{Err, Ok, Option, Result, MatchResult, None, Some}
use mathlib.Core.Path.{◌≡◌, refl, sym, ap, ◌∙◌}
use mathlib.Core.Bool.{Bool, true, false, ◌||◌}
use mathlib.Core.List.{List, [], ◌∷◌, append-nil}
use Prim.Native.Nat.{ℕ, ◌-◌, ◌≤◌, ◌<◌}
use native.Mathlib.Omega.{arith}
use lib.Dec.{ltb}
use lib.ListN.{length, get_or, take}
use lib.Seq.{get_or-take}
use borrow.Author.Tests.{ltb-false}
use Rattle.common.specs.Lists.{padded}
use Rattle.common.specs.Limits.{max_size, max_wrap, max_width}
use Rattle.common.specs.Refusals.{Check, first_answer, verdict_of, passes, if_passes}
use Rattle.text.specs.declared.Estimate.{Estimate}
use Rattle.sheet.specs.Sheet.{sheet_lines}
use Rattle.sheet.specs.inner.Steps.{line_bound}
use Rattle.sheet.proofs.First.{neither, passes_both, first_passes, first_accepts, first_carries, figures_pass, figures_fail}
use Rattle.sheet_load.specs.Opening.{nodes_of, after_reading, open_checks}
use Rattle.sheet_load.specs.inner.Opened.{Apt}
use Rattle.sheet_load.proofs.Answers.{table_apt}
use Rattle.sheet_load.proofs.Opens.{opened_asked}
use Rattle.table_layout.specs.inner.Asked.{OutCapacity}
use Rattle.table_layout.proofs.Grids.{all_cells}
use Rattle.arguments.specs.Arguments.{walk_settings, nested_arguments}
use Rattle.arguments.specs.declared.Settings.{Settings}
use Rattle.arguments.specs.inner.Asked.{Asks, verdict_in}
use Rattle.arguments.proofs.Opened.{opened}
use Rattle.arguments.proofs.Shorter.{layout_fits}
use Rattle.sheet_figures.specs.inner.Opened.{LinesOf}
use Rattle.call_layout.specs.inner.Found as layouts
use Rattle.call_layout.specs.inner.Made.{LayoutOfPost}
use Rattle.call_layout.proofs.Answers.{counts_fit}
use Rattle.call_layout.proofs.Found.{layout_found}
use Rattle.call_layout.specs.Layout.{for_columns, for_places}
use Rattle.sheet_figures.specs.inner.Early.{early}
use Rattle.sheet_figures.proofs.Early.{early_nines, none_nines, leaving}
use Rattle.width_walk.specs.inner.Steps.{AtMost}
use Rattle.call_nested.specs.Nested.{width_to, answer_at, columns_for, xs_for, wides_for, nested_checks, nested_of, NestedAnswer}
use Rattle.sheet_walk.specs.inner.Found.{WalkSheetPost}
use Rattle.sheet_walk.specs.Sheets.{walked_checks}
use Rattle.call_nested.specs.inner.Found.{NestMade, columns_in, entries_in, NestFound}
use Rattle.sheet_walk.proofs.Opening.{opened_passed}

same_width : {v k : ℕ} → ◌≡◌ {A = Option ℕ} (Some v) (Some k) → v ≡ k
same_width e = cc

-- a layout as one at a width
abbrev layout_nested : ℕ → Result Layout Refusal → Result (Option Nested) Refusal
layout_nested at (Ok t) = Ok (Some (nested_with at t))
layout_nested at (Err why) = Err why

-- ---- the table asked for, of a sheet that was walked

module _ {s : List ℕ} {line wrap raw width overflow : ℕ} {r : Result ℕ Refusal} {lines : List NodeRecord} {figures : List Estimate} {ps : List (Option ℕ)}
    (w : WalkSheetPost (Some line) s wrap raw width overflow r lines figures ps) where
  apt : (n : ℕ) → r ≡ Ok n → Apt (nodes_of s) line
  apt n e = table_apt (nodes_of s) line (opened_asked (Some line) s n (sym (w.opened n e).answer) line refl)

  module _ {n : ℕ} (e : r ≡ Ok n) where
    -- the sheet opened for its line
    pub lines_of : LinesOf s line wrap n lines figures
    lines_of =
        let o = w.opened n e in
        let t = apt n e in
        record {
          opened = record {
            answer = sym o.answer;
            holds = o.holds n refl;
            sound = o.sound n refl (line - 1) (omega (arith, t.from_one, t.within)) t.kind;
          };
          measured = record { cells = (all_cells (line - 1) wrap (o.measured n refl).figures).cells; sound = λ i c. (o.measured n refl).sound i c.within };
        }

    pub place_in : (walk : List (Option ℕ)) → line_bound s ≤ length walk → line - 1 < length walk
    place_in walk h = let t = apt n e in let p = opened_passed (w.opened n e) n refl in omega (arith, t.from_one, t.within, p.capacity, p.kept)

    all_pass : passes (walked_checks (Some line) s wrap raw width overflow) ≡ true
    all_pass = (first_accepts Err (Ok (length (sheet_lines s))) (Ok n) (walked_checks (Some line) s wrap raw width overflow) (λ why d. let z : ◌≡◌ {A = ℕ} 0 1 = cc in omega arith) (sym w.answer ∙ e)).0

    -- the width at the table's place is the one that the walk gives it
    width_is : get_or ps (line - 1) None ≡ width_to s line wrap raw width
    width_is =
        let t = apt n e in
        let p = opened_passed (w.opened n e) n refl in
        sym (get_or-take n ps (line - 1) None (omega (arith, t.from_one, t.within, p.kept))) ∙ ap (λ (l : List (Option ℕ)). get_or l (line - 1) None) (w.widths n e)

    pub width_small : AtMost max_size (get_or ps (line - 1) None)
    width_small = rw width_is (w.small n e (line - 1))

    -- ---- what is found

    module _ {t : Option Nested} {column x wide : List ℕ} (g : NestMade (take n lines) (line - 1) figures raw (get_or ps (line - 1) None) t column x wide) where
      -- with a width
      laid_found : (k : ℕ) → get_or ps (line - 1) None ≡ Some k → NestFound (walked_checks (Some line) s wrap raw width overflow) s line wrap raw width (Ok t) column x wide
      unfolding answer_at columns_in entries_in columns_for xs_for wides_for layouts.columns_in layouts.entries_in
      laid_found k d =
          let cs = walked_checks (Some line) s wrap raw width overflow in
          let u : width_to s line wrap raw width ≡ Some k = sym width_is ∙ d in
          let l = layout_found _ _ _ _ _ lines_of (g.laid k d) in
          let p = (opened_passed (w.opened n e) n refl).all in
          let q = all_pass in
          let a = l.answer ∙ first_passes Err _ (open_checks (Some line) s) p in
          rw (g.answer k d)
          (record {
            answer =
                ap (layout_nested k) a
                ∙ sym (first_passes Err (answer_at s line wrap raw (width_to s line wrap raw width)) cs q ∙ ap (answer_at s line wrap raw) u);
            few_columns = l.few_columns;
            few_entries = l.few_entries;
            widths = l.widths ∙ figures_pass (open_checks (Some line) s) _ p ∙ sym (figures_pass cs _ q ∙ ap (columns_for s line wrap raw) u);
            xs = l.xs ∙ figures_pass (open_checks (Some line) s) _ p ∙ sym (figures_pass cs _ q ∙ ap (xs_for s line wrap raw) u);
            wides = l.wides ∙ figures_pass (open_checks (Some line) s) _ p ∙ sym (figures_pass cs _ q ∙ ap (wides_for s line wrap raw) u);
            promised = λ low _ y h. let z : k ≡ y = same_width (sym u ∙ h) in rw (← z) (l.promised low p);
          })

      -- without one
      none_found : get_or ps (line - 1) None ≡ None → NestFound (walked_checks (Some line) s wrap raw width overflow) s line wrap raw width (Ok t) column x wide
      unfolding answer_at columns_in entries_in columns_for xs_for wides_for
      none_found d =
          let cs = walked_checks (Some line) s wrap raw width overflow in
          let u : width_to s line wrap raw width ≡ None = sym width_is ∙ d in
          let q = all_pass in
          rw (g.without d)
          (record {
            answer = sym (first_passes Err (answer_at s line wrap raw (width_to s line wrap raw width)) cs q ∙ ap (answer_at s line wrap raw) u);
            few_columns = omega arith;
            few_entries = omega arith;
            widths = sym (figures_pass cs _ q ∙ ap (columns_for s line wrap raw) u);
            xs = sym (figures_pass cs _ q ∙ ap (xs_for s line wrap raw) u);
            wides = sym (figures_pass cs _ q ∙ ap (wides_for s line wrap raw) u);
            promised = λ low _ m h. let c = sym u ∙ h in let z : ◌≡◌ {A = ℕ} 0 1 = cc in absurd (omega arith);
          })

      pub nest_found : NestFound (walked_checks (Some line) s wrap raw width overflow) s line wrap raw width (Ok t) column x wide
      nest_found = at (get_or ps (line - 1) None) refl
        where
          at : (u : Option ℕ) → get_or ps (line - 1) None ≡ u → NestFound (walked_checks (Some line) s wrap raw width overflow) s line wrap raw width (Ok t) column x wide
          at None d = none_found d
          at (Some k) d = laid_found k d

  pub nest_refused : {why : Refusal} {column x wide : List ℕ} → r ≡ Err why → NestFound (walked_checks (Some line) s wrap raw width overflow) s line wrap raw width (Err why) column x wide
  unfolding columns_in entries_in
  nest_refused {why} e =
      let cs = walked_checks (Some line) s wrap raw width overflow in
      let o : first_answer Err (Ok (length (sheet_lines s))) cs ≡ Err why = sym w.answer ∙ e in
      let q : passes cs ≡ false = fails o (passes cs) refl in
      record {
        answer = sym (ap (first_answer Err _) (sym (append-nil cs))
            ∙ first_carries Err (Ok (length (sheet_lines s))) Err _ why (λ w f. cc) (λ f. let z : ◌≡◌ {A = ℕ} 0 1 = cc in omega arith) cs [] o);
        few_columns = omega arith;
        few_entries = omega arith;
        widths = sym (figures_fail cs _ q);
        xs = sym (figures_fail cs _ q);
        wides = sym (figures_fail cs _ q);
        promised = λ low p. let z : ◌≡◌ {A = ℕ} 0 1 = cc in absurd (omega arith);
      }
    where
      fails : {why : Refusal} → first_answer Err (Ok (length (sheet_lines s))) (walked_checks (Some line) s wrap raw width overflow) ≡ Err why
          → (b : Bool) → passes (walked_checks (Some line) s wrap raw width overflow) ≡ b → b ≡ false
      fails o true p = let z = sym (first_passes Err (Ok (length (sheet_lines s))) (walked_checks (Some line) s wrap raw width overflow) p) ∙ o in let y : ◌≡◌ {A = ℕ} 0 1 = cc in absurd (omega arith)
      fails o false p = refl

-- ---- what is laid out, by its width

module _ {w : Option ℕ} {ks : List NodeRecord} {at : ℕ} {figures : List Estimate} {raw : ℕ} {column x wide : List ℕ} where
  pub made_none : w ≡ None → NestMade ks at figures raw w None column x wide
  made_none e = record {
    without = λ _. refl;
    layout = λ v f. let z : ◌≡◌ {A = ℕ} 0 1 = cc in absurd (omega arith);
    answer = λ v f. let z : ◌≡◌ {A = ℕ} 0 1 = cc in absurd (omega arith);
    laid = λ v f. let z : ◌≡◌ {A = ℕ} 0 1 = cc in absurd (omega arith);
  }

  pub made_some : {v : ℕ} → w ≡ Some v → {a : Layout} → LayoutOfPost ks at figures raw v a column x wide → NestMade ks at figures raw w (Some (nested_with v a)) column x wide
  made_some {v} e {a} l = record {
    without = λ f. let z : ◌≡◌ {A = ℕ} 0 1 = cc in absurd (omega arith);
    layout = λ k f. a;
    answer = λ k f. let z : v ≡ k = same_width (sym e ∙ f) in rw (← z) refl;
    laid = λ k f. let z : v ≡ k = same_width (sym e ∙ f) in rw (← z) l;
  }

-- a width at which a table can be laid out
pub small_width : {w : Option ℕ} {v : ℕ} → w ≡ Some v → AtMost max_size w → v ≤ max_size
unfolding AtMost
small_width e h = rw e at h

-- ---- refused for the arguments, or not

nest_early : (why : Refusal) (cs : List Check) (s : List ℕ) (line wrap raw width : ℕ) (column x wide : List ℕ)
    → NestFound (early (Err why) ∷ cs) s line wrap raw width (Err why) column x wide
unfolding first_answer early passes if_passes columns_in entries_in
nest_early why cs s line wrap raw width column x wide =
    record {
      answer = refl;
      few_columns = omega arith;
      few_entries = omega arith;
      widths = refl;
      xs = refl;
      wides = refl;
      promised = λ low p. let z : ◌≡◌ {A = ℕ} 0 1 = cc in absurd (omega arith);
    }

nest_late : {cs : List Check} {s : List ℕ} {line wrap raw width : ℕ} {r : Result (Option Nested) Refusal} {column x wide : List ℕ}
    → NestFound cs s line wrap raw width r column x wide → NestFound (early (Ok tt) ∷ cs) s line wrap raw width r column x wide
unfolding first_answer early passes if_passes
nest_late f =
    record {
      answer = f.answer;
      few_columns = f.few_columns;
      few_entries = f.few_entries;
      widths = f.widths;
      xs = f.xs;
      wides = f.wides;
      promised = f.promised;
    }

pub nest_opened : {asked : Result Settings Refusal} {s : List ℕ} {line wrap raw width overflow : ℕ} {r : Result (Option Nested) Refusal} {column x wide : List ℕ}
    → Asks asked wrap raw width overflow
    → MatchResult asked (λ g. NestFound (walked_checks (Some line) s g.wrap g.raw g.width g.overflow) s line g.wrap g.raw g.width r column x wide) (λ why. r ≡ Err why)
    → NestFound (early (verdict_in asked) ∷ walked_checks (Some line) s wrap raw width overflow) s line wrap raw width r column x wide
nest_opened {asked} {s} {line} {wrap} {raw} {width} {overflow} {r} {column} {x} {wide} =
    let cs = walked_checks (Some line) s in
    opened (λ v q. NestFound (early v ∷ cs wrap raw width overflow) s line wrap raw width q column x wide)
    (λ p q l o. NestFound (cs p q l o) s line p q l r column x wide)
    asked (λ why. nest_early why (cs wrap raw width overflow) s line wrap raw width column x wide) nest_late

-- where no check applies, raw is 0 or 1
raw_low : (wrap raw width overflow : ℕ) (cs : List Check) → passes (walk_settings wrap raw width overflow ∷ cs) ≡ true → raw ≤ 1
raw_low wrap raw width overflow cs e =
    let (a, b) = neither (ltb max_wrap wrap || ltb 1 raw || ltb max_width width) (ltb 1 overflow) (passes_both (walk_settings wrap raw width overflow) cs e).0 in
    let (c, d) = neither (ltb max_wrap wrap || ltb 1 raw) (ltb max_width width) a in
    ltb-false 1 raw (neither (ltb max_wrap wrap) (ltb 1 raw) c).1

pub nest_fit : (wrap raw width overflow : ℕ) (v : Result (Unit {0}) Refusal) (column x wide : List ℕ)
    → v ≡ verdict_of (nested_arguments wrap raw width overflow (for_columns column) (for_places x wide)) → v ≡ (Ok tt) → OutCapacity column x wide
nest_fit wrap raw width overflow v column x wide judged z =
    let (a, b, c) = layout_fits (length column) (length x) (length wide) (none_nines _ _ (sym judged ∙ z)).1 in
    record { column_capacity = a; x_capacity = b; wide_capacity = c }

pub nest_rooms : {s : List ℕ} {line : ℕ} (wrap raw width overflow : ℕ) {v : Result (Unit {0}) Refusal} (a b c : ℕ) {r : Result (Option Nested) Refusal} {column x wide : List ℕ} (ds : List Check)
    → v ≡ verdict_of (nested_arguments wrap raw width overflow (a ∷ []) (b ∷ c ∷ [])) → NestFound (early v ∷ ds) s line wrap raw width r column x wide
    → (columns_in r ≤ a) × (entries_in r ≤ b) × (entries_in r ≤ c)
unfolding columns_in entries_in
nest_rooms wrap raw width overflow {v} a b c {r} ds judged found =
    counts_fit columns_in entries_in (λ why. refl) (λ why. refl) _ v ds r found.answer found.few_columns found.few_entries
    (λ z. layout_fits a b c (none_nines _ _ (sym judged ∙ z)).1)

module _ {s : List ℕ} {line wrap raw width overflow : ℕ} {v : Result (Unit {0}) Refusal} {column₀ x₀ wide₀ : List ℕ} {r : Result (Option Nested) Refusal} {column x wide : List ℕ}
    (judged : v ≡ verdict_of (nested_arguments wrap raw width overflow (for_columns column₀) (for_places x₀ wide₀)))
    (found : NestFound (early v ∷ walked_checks (Some line) s wrap raw width overflow) s line wrap raw width r column x wide) where
  pub nest_answered : {n m : ℕ} {a b c : List ℕ} → n ≡ columns_in r → m ≡ entries_in r
      → length column ≡ length column₀ → length x ≡ length x₀ → length wide ≡ length wide₀
      → a ≡ padded (length column) (take n column) → b ≡ padded (length x) (take m x) → c ≡ padded (length wide) (take m wide)
      → NestedAnswer s line wrap raw width overflow column₀ x₀ wide₀ r a b c
  unfolding nested_of after_reading passes if_passes
  nest_answered k l ka kb kc a b c =
      let ds = walked_checks (Some line) s wrap raw width overflow in
      let f : (xs : List ℕ) → first_answer (λ why. []) xs (early v ∷ ds) ≡ first_answer (λ why. []) xs (nested_checks s line wrap raw width overflow (for_columns column₀) (for_places x₀ wide₀)) =
      λ xs. early_nines (λ why. []) xs v ds _ _ judged in
      record {
        answer = found.answer ∙ early_nines Err _ v ds _ _ judged;
        left =
            record {
              widths = leaving column₀ column (f _) k ka a found.widths;
              xs = leaving x₀ x (f _) l kb b found.xs;
              wides = leaving wide₀ wide (f _) l kc c found.wides;
              promised = λ q. found.promised (raw_low wrap raw width overflow _ q) (early_nines (λ why. false) true v ds _ _ judged ∙ q);
            };
      }
