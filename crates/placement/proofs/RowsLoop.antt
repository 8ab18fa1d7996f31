-- The loop over a table's rows. The figures written so far, with those of the rows left, are the figures of all rows; the entries left begin
-- where the last row ended.
use mathlib.Core.Path.{◌≡◌, refl, sym, ap, ◌∙◌}
use mathlib.Core.List.{List, [], ◌∷◌, ◌++◌, map, append_assoc, append-nil}
use Prim.Native.Nat.{ℕ, suc, ◌+◌, ◌-◌, ◌≤◌, ◌<◌}
use native.Mathlib.Numerals.{add-one}
use native.Mathlib.Omega.{arith}
use lib.ListN.{length, get_or, take, drop, length-map, length-append, length-take, length-drop, drop_of_length-le, get_or-map}
use lib.Seq.{drop-cons, drop-drop, take_all, take_at}
use Rattle.std.proofs.lemmas.List.{take-map, drop-map}
use Rattle.records.specs.inner.NodeRecord.{no_row}
use Rattle.records.specs.declared.Entry.{Entry}
use Rattle.records.specs.declared.RowEnd.{RowEnd}
use Rattle.columns.specs.Boxes.{Box}
use Rattle.columns.specs.inner.Boxes.{rows_by, BoxesTile, TilesAll}
use Rattle.answers.specs.declared.Way.{Way}
use Rattle.placement.specs.Place.{Placed, place_row, place_rows}
use Rattle.placement.specs.inner.Rows.{bare_box, bare_boxes, Ascends, PlaceRowPre, PlacePre, Written}
use Rattle.records.specs.inner.Figures.{row_end}
use Rattle.placement.proofs.Placing.{length_row}

pub ascends_le : (a : ℕ) (ends : List ℕ) (n : ℕ) → Ascends a ends n → a ≤ n
unfolding Ascends
ascends_le a [] n t = omega arith
ascends_le a (e ∷ ends) n t = omega (arith, ascends_le e ends n t.1)

map_append : {A B : Type 0} (f : A → B) (xs ys : List A) → map f (xs ++ ys) ≡ map f xs ++ map f ys
map_append f [] ys = refl
map_append f (x ∷ xs) ys = rw (map_append f xs ys)

-- writing ys over the part of n places from a on
module _ (l ys : List ℕ) (a n : ℕ) (same : length ys ≡ n) (h : a + n ≤ length l) where
  pub written_length : length (take a l ++ (ys ++ drop n (drop a l))) ≡ length l
  written_length =
      simp (length-append, length-take, length-drop) (omega arith)

  pub written_front : take (a + n) (take a l ++ (ys ++ drop n (drop a l))) ≡ take a l ++ ys
  written_front =
      ap (take (a + n)) (sym (append_assoc (take a l) ys (drop n (drop a l))))
      ∙ take_at (take a l ++ ys) (drop n (drop a l)) (a + n) (simp (length-append, length-take) (omega arith))

-- one of the two figures, g, of all entries, after r rows that end at from
abbrev Figures : (Placed → ℕ) → (List (List Box) → List Placed) → List Box → List ℕ → List ℕ → ℕ → ℕ → Type 0
Figures g put bs ends out from r = take from out ++ map g (put (rows_by from (drop r ends) (drop from bs))) ≡ map g (put (rows_by 0 ends bs))

pub record Sofar (way : Way) (ws : List ℕ) (width : ℕ) (bs : List Box) (ends xs wides : List ℕ) (from r : ℕ) : Type 0 where
  pub at_most : r ≤ length ends
  pub xs_length : length xs ≡ length bs
  pub wides_length : length wides ≡ length bs
  pub ascends : Ascends from (drop r ends) (length bs)
  pub tiles : TilesAll (length ws) (rows_by from (drop r ends) (drop from bs))
  pub x : Figures (λ p. p.x) (place_rows way ws width) bs ends xs from r
  pub wide : Figures (λ p. p.width) (place_rows way ws width) bs ends wides from r

module _ (way : Way) (ws : List ℕ) (width : ℕ) (bs : List Box) (ends : List ℕ) where
  module _ (xs wides : List ℕ) (from r : ℕ) (z : Sofar way ws width bs ends xs wides from r) where
    module _ (h : length ends ≤ r) where
      last : from ≡ length bs
      unfolding Ascends
      last = rw (drop_of_length-le ends h) at z.ascends

      whole : (g : Placed → ℕ) (out : List ℕ) → length out ≡ length bs → Figures g (place_rows way ws width) bs ends out from r →
          out ≡ map g (place_rows way ws width (rows_by 0 ends bs))
      unfolding rows_by place_rows
      whole g out n e =
          sym (take_all from out (omega (arith, last)))
          ∙ sym (append-nil (take from out))
          ∙ (rw (drop_of_length-le ends h) at e)

      pub sofar_stop : Written (place_rows way ws width (rows_by 0 ends bs)) xs wides
      sofar_stop = record { x = whole (λ p. p.x) xs z.xs_length z.x; wide = whole (λ p. p.width) wides z.wides_length z.wide }

    module _ (h : r < length ends) where
      left : drop r ends ≡ get_or ends r 0 ∷ drop (suc r) ends
      left = drop-cons ends r 0 h

      -- the next row's end
      pub sofar_bounds : (from ≤ get_or ends r 0) × (get_or ends r 0 ≤ length bs)
      unfolding Ascends
      sofar_bounds =
          let t : Ascends from (get_or ends r 0 ∷ drop (suc r) ends) (length bs) = rw left at z.ascends in
          (t.0, ascends_le (get_or ends r 0) (drop (suc r) ends) (length bs) t.1)

      -- its boxes
      pub sofar_tiles : BoxesTile (length ws) 0 (take (get_or ends r 0 - from) (drop from bs))
      unfolding rows_by TilesAll
      sofar_tiles = (rw left at z.tiles).0

      after : drop (get_or ends r 0 - from) (drop from bs) ≡ drop (get_or ends r 0) bs
      after =
          drop-drop (get_or ends r 0 - from) from bs
          ∙ ap (λ (m : ℕ). drop m bs) (let m : from + (get_or ends r 0 - from) ≡ get_or ends r 0 = omega (arith, sofar_bounds) in m)

      tiles_more : TilesAll (length ws) (rows_by (get_or ends r 0) (drop (suc r) ends) (drop (get_or ends r 0) bs))
      unfolding rows_by TilesAll
      tiles_more = rw after at (rw left at z.tiles).2

      ascends_more : Ascends (get_or ends r 0) (drop (suc r) ends) (length bs)
      unfolding Ascends
      ascends_more = (rw left at z.ascends).1

      -- what is left to place: this row, and the rows after it
      parted : place_rows way ws width (rows_by from (drop r ends) (drop from bs))
          ≡ place_row way ws width (take (get_or ends r 0 - from) (drop from bs))
          ++ place_rows way ws width (rows_by (get_or ends r 0) (drop (suc r) ends) (drop (get_or ends r 0) bs))
      unfolding rows_by place_rows
      parted = rw (left, after)

      module _ (g : Placed → ℕ) (out ys : List ℕ) (n : length out ≡ length bs)
          (e : ys ≡ map g (place_row way ws width (take (get_or ends r 0 - from) (drop from bs)))) where
        same : length ys ≡ get_or ends r 0 - from
        same =
            ap length e
            ∙ length-map (place_row way ws width (take (get_or ends r 0 - from) (drop from bs))) g
            ∙ length_row way ws width (take (get_or ends r 0 - from) (drop from bs))
            ∙ simp (length-take, length-drop) (omega (arith, sofar_bounds))

        length_more : length (take from out ++ (ys ++ drop (get_or ends r 0 - from) (drop from out))) ≡ length bs
        length_more = written_length out ys from (get_or ends r 0 - from) same (omega (arith, sofar_bounds)) ∙ n

        figures_more : Figures g (place_rows way ws width) bs ends out from r →
            Figures g (place_rows way ws width) bs ends (take from out ++ (ys ++ drop (get_or ends r 0 - from) (drop from out))) (get_or ends r 0) (suc r)
        figures_more f =
            let m : from + (get_or ends r 0 - from) ≡ get_or ends r 0 = omega (arith, sofar_bounds) in
            let rest = place_rows way ws width (rows_by (get_or ends r 0) (drop (suc r) ends) (drop (get_or ends r 0) bs)) in
            ap (λ (l : List ℕ). l ++ map g rest)
            (rw m at (written_front out ys from (get_or ends r 0 - from) same (omega (arith, sofar_bounds))))
            ∙ append_assoc (take from out) ys (map g rest)
            ∙ ap (λ (l : List ℕ). take from out ++ (l ++ map g rest)) e
            ∙ ap (λ (l : List ℕ). take from out ++ l) (sym (map_append g (place_row way ws width (take (get_or ends r 0 - from) (drop from bs))) rest))
            ∙ ap (λ (ps : List Placed). take from out ++ map g ps) (sym parted)
            ∙ f

      pub sofar_turn : (end : ℕ) (ys vs : List ℕ) → end ≡ get_or ends r 0 →
          Written (place_row way ws width (take (end - from) (drop from bs))) ys vs →
          Sofar way ws width bs ends (take from xs ++ (ys ++ drop (end - from) (drop from xs)))
          (take from wides ++ (vs ++ drop (end - from) (drop from wides))) end (r + 1)
      sofar_turn end ys vs q =
          rw (q, add-one r) (λ w.
          record {
            at_most = omega arith;
            xs_length = length_more (λ p. p.x) xs ys z.xs_length w.x;
            wides_length = length_more (λ p. p.width) wides vs z.wides_length w.wide;
            ascends = ascends_more;
            tiles = tiles_more;
            x = figures_more (λ p. p.x) xs ys z.xs_length w.x z.x;
            wide = figures_more (λ p. p.width) wides vs z.wides_length w.wide z.wide;
          })

-- ---- of records

-- the rows before r are placed, and their entries end at from
pub record Rows (way : Way) (es : List Entry) (rs : List RowEnd) (ws : List ℕ) (width : ℕ) (xs wides : List ℕ) (from r : ℕ) : Type 0 where
  pub at_most : r ≤ length rs
  pub xs_length : length xs ≡ length es
  pub wides_length : length wides ≡ length es
  pub sofar : Sofar way ws width (bare_boxes es) (map row_end rs) xs wides from r

-- the boxes of a part are a part of the boxes
bare_part : (a n : ℕ) (es : List Entry) → bare_boxes (take n (drop a es)) ≡ take n (drop a (bare_boxes es))
bare_part a n es = sym (ap (take n) (drop-map bare_box a es) ∙ take-map bare_box n (drop a es))

module _ (way : Way) (es : List Entry) (rs : List RowEnd) (ws : List ℕ) (width : ℕ) where
  rows_of : (xs wides : List ℕ) (from r : ℕ) → Sofar way ws width (bare_boxes es) (map row_end rs) xs wides from r → Rows way es rs ws width xs wides from r
  rows_of xs wides from r z =
      record {
        at_most = omega (arith, z.at_most, length-map rs row_end);
        xs_length = z.xs_length ∙ length-map es bare_box;
        wides_length = z.wides_length ∙ length-map es bare_box;
        sofar = z;
      }

  module _ (xs₀ wides₀ : List ℕ) (a : PlacePre way es rs ws xs₀ wides₀) where
    module _ (xs wides : List ℕ) (from r : ℕ) (z : Rows way es rs ws width xs wides from r) where
      pub rows_stop : length rs ≤ r → Written (place_rows way ws width (rows_by 0 (map row_end rs) (bare_boxes es))) xs wides
      rows_stop h = sofar_stop way ws width (bare_boxes es) (map row_end rs) xs wides from r z.sofar (omega (arith, length-map rs row_end))

      -- the next row, and where it ends
      module _ (h : r < length rs) where
        abbrev pub end : ℕ
        end = (get_or rs r no_row).end

        less : r < length (map row_end rs)
        less = omega (arith, length-map rs row_end)

        end_is : end ≡ get_or (map row_end rs) r 0
        end_is = sym (get_or-map row_end rs r no_row)

        pub rows_bounds : (from ≤ end) × (end ≤ length es)
        rows_bounds =
            rw (end_is, ← length-map es bare_box) (sofar_bounds way ws width (bare_boxes es) (map row_end rs) xs wides from r z.sofar less)

        -- it is a row
        pub rows_row : PlaceRowPre way (take (end - from) (drop from es)) ws (take (end - from) (drop from xs)) (take (end - from) (drop from wides))
        rows_row =
            record {
              xs_length = same xs z.xs_length;
              wides_length = same wides z.wides_length;
              tiles =
                  rw (bare_part from (end - from) es, end_is)
                  (sofar_tiles way ws width (bare_boxes es) (map row_end rs) xs wides from r z.sofar less);
              side = a.side;
            }
          where
            same : (l : List ℕ) → length l ≡ length es → length (take (end - from) (drop from l)) ≡ length (take (end - from) (drop from es))
            same l n = simp (length-take, length-drop) (rw n)

        pub rows_turn : (ys vs : List ℕ) → Written (place_row way ws width (bare_boxes (take (end - from) (drop from es)))) ys vs →
            Rows way es rs ws width (take from xs ++ (ys ++ drop (end - from) (drop from xs)))
            (take from wides ++ (vs ++ drop (end - from) (drop from wides))) end (r + 1)
        rows_turn ys vs w =
            rows_of _ _ end (r + 1)
            (sofar_turn way ws width (bare_boxes es) (map row_end rs) xs wides from r z.sofar less end ys vs end_is (rw (bare_part from (end - from) es) at w))
