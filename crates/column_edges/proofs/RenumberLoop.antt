-- The loop of `renumber` on plain lists and numbers: what holds at its head, and what a turn does.
use mathlib.Core.Path.{◌≡◌, refl, sym, ap, ◌∙◌}
use mathlib.Core.Bool.{Bool, true, false, cond, ◌&&◌}
use mathlib.Core.List.{List, [], ◌∷◌, ◌++◌, map, append_assoc, append-nil}
use Prim.Native.Nat.{ℕ, zero, suc, ◌+◌, ◌-◌, ◌≤◌, ◌<◌, zero-le}
use native.Mathlib.Nat.{add-zero}
use native.Mathlib.Numerals.{add-one}
use native.Mathlib.Omega.{arith}
use lib.ListN.{length, get_or, set, take, drop, drop_of_length-le}
use lib.Seq.{get_or-drop, drop-drop, take_all, take-suc-set}
use Rattle.common.specs.Lists.{sum}
use Rattle.common.specs.Limits.{max_position}
use Rattle.records.specs.inner.NodeRecord.{no_entry}
use Rattle.records.specs.declared.Entry.{Entry}
use Rattle.records.specs.inner.Figures.{entry_cell, entry_span}
use Rattle.std.proofs.lemmas.List.{drop_more, get_or-map}
use Rattle.std.specs.Prelude.{Some, None}
use Rattle.column_edges.specs.Edges.{count_below, ends_from, all_at}
use Rattle.column_edges.specs.inner.Edges.{is_edge, edge_at, records_from, numbered_by, RenumberPost}
use Rattle.column_edges.proofs.Counts.{count_le, count_mono}

-- what an answer says of the position
pub found : (ws : List ℕ) (p n : ℕ) → edge_at ws p ≡ Some n → (is_edge ws p ≡ true) × (n ≡ count_below (is_edge ws) p)
unfolding edge_at
found ws p n e = pick (is_edge ws p) e
  where
    pick : (b : Bool) → cond b (Some (count_below (is_edge ws) p)) None ≡ Some n → (b ≡ true) × (n ≡ count_below (is_edge ws) p)
    pick true h = (refl, cc)
    pick false h = cc

pub not_found : (ws : List ℕ) (p : ℕ) → edge_at ws p ≡ None → is_edge ws p ≡ false
unfolding edge_at
not_found ws p e = pick (is_edge ws p) e
  where
    pick : (b : Bool) → cond b (Some (count_below (is_edge ws) p)) None ≡ None → b ≡ false
    pick true h = cc
    pick false h = refl

-- what stands after a place is not touched by a store there
drop_past : (es : List Entry) (k : ℕ) (e : Entry) → drop (suc k) (set es k e) ≡ drop (suc k) es
drop_past [] zero e = refl
drop_past [] (suc k) e = refl
drop_past (x ∷ es) zero e = refl
drop_past (x ∷ es) (suc k) e = drop_past es k e

-- the records that are written, with those of the entries that are left, are those of the row
pub record Sofar (f : ℕ → Bool) (spans line : List ℕ) (es₀ es : List Entry) (pos column i : ℕ) : Type 0 where
  pub passed : i ≤ length spans
  pub fits : pos + sum (drop i spans) ≡ sum spans
  pub edge : f pos ≡ true
  pub counted : column ≡ count_below f pos
  pub all : all_at f (ends_from pos (drop i spans)) ≡ all_at f (ends_from 0 spans)
  pub written : take i es ++ records_from f pos (drop i line) (drop i spans) ≡ records_from f 0 line spans
  pub kept : drop i es ≡ drop i es₀

pub start : (f : ℕ → Bool) (spans line : List ℕ) (es₀ : List Entry) → f 0 ≡ true → Sofar f spans line es₀ es₀ 0 0 0
unfolding count_below
start f spans line es₀ e =
    record { passed = zero-le; fits = omega arith; edge = e; counted = refl; all = refl; written = refl; kept = refl }

module _ {f : ℕ → Bool} {spans line : List ℕ} {es₀ es : List Entry} {pos column i : ℕ} (z : Sofar f spans line es₀ es pos column i) where
  -- nothing is left
  pub stop : length spans ≤ i → length es ≤ i → RenumberPost f spans line (Some column) es
  unfolding all_at ends_from records_from sum numbered_by
  stop h g =
      let d : drop i spans ≡ [] = drop_of_length-le spans h in
      let p : pos ≡ sum spans = omega (arith, ap sum d, z.fits) in
      let a : all_at f (ends_from 0 spans) ≡ true = sym z.all ∙ ap (λ (l : List ℕ). all_at f (ends_from pos l)) d in
      record {
        told =
            ap Some (z.counted ∙ ap (count_below f) p)
            ∙ sym (ap (λ (b : Bool). cond b (Some (count_below f (sum spans))) None) a);
        written = λ _. sym (take_all i es g) ∙ sym (append-nil (take i es)) ∙ sym (ap (λ (l : List ℕ). take i es ++ records_from f pos (drop i line) l) d) ∙ z.written;
      }

  module _ (h : i < length spans) (s : ℕ) (is : get_or spans i 0 ≡ s) where
    next : drop i spans ≡ s ∷ drop (i + 1) spans
    next = drop_more spans i 0 h ∙ ap (λ (x : ℕ). x ∷ drop (i + 1) spans) is

    pub turn_fits : sum spans ≤ max_position → pos + s ≤ max_position
    unfolding sum
    turn_fits g = omega (arith, ap sum (next), z.fits)

    -- the next entry ends at no edge
    pub turn_missing : f (pos + s) ≡ false → (es' : List Entry) → RenumberPost f spans line None es'
    unfolding all_at ends_from numbered_by
    turn_missing e es' =
        let a : all_at f (ends_from 0 spans) ≡ false =
        sym z.all ∙ ap (λ (l : List ℕ). all_at f (ends_from pos l)) (next) ∙ ap (λ (b : Bool). b && all_at f (ends_from (pos + s) (drop (i + 1) spans))) e in
        record {
          told = sym (ap (λ (b : Bool). cond b (Some (count_below f (sum spans))) None) a);
          written = λ t. cc a;
        }

    -- it ends at the edge number n
    module _ (n : ℕ) (e : f (pos + s) ≡ true) (c : n ≡ count_below f (pos + s)) where
      pub turn_at : sum spans ≤ max_position → (column ≤ n) × (n ≤ max_position)
      turn_at g =
          omega (arith, c, z.counted, turn_fits g, count_mono f pos (pos + s) (omega arith), count_le f (pos + s))

      pub turn : (cell : ℕ) → get_or line i 0 ≡ cell → i < length es → (es' : List Entry)
          → es' ≡ set es i (record { cell = cell; first = column; span = n - column }) → Sofar f spans line es₀ es' (pos + s) n (i + 1)
      unfolding sum all_at ends_from records_from
      turn cell ic g es' w =
          let new : Entry = record { cell = cell; first = column; span = n - column } in
          let d = next in
          let more = records_from f (pos + s) (drop (i + 1) line) (drop (i + 1) spans) in
          let l : get_or (drop i line) 0 0 ≡ cell = get_or-drop i line 0 0 ∙ ap (λ (x : ℕ). get_or line x 0) (add-zero i) ∙ ic in
          let t : take (i + 1) es' ≡ take i es ++ (new ∷ []) =
          ap (λ (x : ℕ). take x es') (add-one i) ∙ ap (take (suc i)) w ∙ take-suc-set es i new g in
          let r : new ∷ more ≡ records_from f pos (drop i line) (s ∷ drop (i + 1) spans) =
          (λ j. record { cell = sym l j; first = z.counted j; span = c j - z.counted j } ∷ records_from f (pos + s) (sym (drop-drop 1 i line) j) (drop (i + 1) spans)) in
          record {
            passed = omega arith;
            fits = omega (arith, ap sum d, z.fits);
            edge = e;
            counted = c;
            all =
                sym (ap (λ (b : Bool). b && all_at f (ends_from (pos + s) (drop (i + 1) spans))) e)
                ∙ sym (ap (λ (x : List ℕ). all_at f (ends_from pos x)) d) ∙ z.all;
            written =
                ap (λ (x : List Entry). x ++ more) t ∙ append_assoc (take i es) (new ∷ []) more
                ∙ ap (λ (x : List Entry). take i es ++ x) (r ∙ sym (ap (records_from f pos (drop i line)) d)) ∙ z.written;
            kept =
                ap (drop (i + 1)) w ∙ ap (λ (x : ℕ). drop x (set es i new)) (add-one i) ∙ drop_past es i new
                ∙ sym (drop-drop 1 i es ∙ ap (λ (x : ℕ). drop x es) (add-one i))
                ∙ ap (drop 1) z.kept ∙ drop-drop 1 i es₀;
          }

-- the next entry stands there as it stood, and its span and its line are those of the row
module _ {f : ℕ → Bool} {es₀ es : List Entry} {pos column i : ℕ}
    (z : Sofar f (map entry_span es₀) (map entry_cell es₀) es₀ es pos column i) (h : i < length es₀) where
  same_entry : get_or es i no_entry ≡ get_or es₀ i no_entry
  same_entry =
      let a : (l : List Entry) → get_or l i no_entry ≡ get_or (drop i l) 0 no_entry =
      λ l. ap (λ (k : ℕ). get_or l k no_entry) (sym (add-zero i)) ∙ sym (get_or-drop i l 0 no_entry) in
      a es ∙ ap (λ (l : List Entry). get_or l 0 no_entry) z.kept ∙ sym (a es₀)

  pub entry_span_lem : (get_or es i no_entry).span ≡ get_or (map entry_span es₀) i 0
  entry_span_lem = ap entry_span same_entry ∙ sym (get_or-map entry_span es₀ i no_entry 0 h)

  pub entry_cell_lem : (get_or es i no_entry).cell ≡ get_or (map entry_cell es₀) i 0
  entry_cell_lem = ap entry_cell same_entry ∙ sym (get_or-map entry_cell es₀ i no_entry 0 h)
