-- Words put into a buffer, one after another.
use mathlib.Core.Path.{◌≡◌, refl, ap₂, ◌∙◌}
use mathlib.Core.List.{List, ◌++◌, append_assoc}
use Prim.Native.Nat.{ℕ, ◌+◌, ◌≤◌}
use native.Mathlib.Omega.{arith}
use lib.ListN.{length, take, drop, length-append}
use lib.Seq.{take_at, drop_at, drop-drop, length-take-le}
use Rattle.output.specs.inner.Printing.{written, PutPost, PutWithin}

-- two words, one after the other
module _ (d w v : List ℕ) (at : ℕ) (h : at + length w ≤ length d) where
  front : length (take at d ++ w) ≡ at + length w
  front = omega (arith, length-append (take at d) w, length-take-le at d (omega arith))

  written_twice : written (written d at w) (at + length w) v ≡ written d at (w ++ v)
  unfolding written
  written_twice =
      let p = take at d ++ w in
      let rest = drop (at + length w) d in
      let e : at + length w + length v ≡ at + (length w + length v) = omega arith in
      rw (
        take_at p rest (at + length w) front,
        ← drop-drop (length v) (at + length w) (p ++ rest),
        drop_at p rest (at + length w) front,
        drop-drop (length v) (at + length w) d,
        length-append w v,
        append_assoc (take at d) w v,
        e,
      )

module _ {most at r q : ℕ} {w v before middle after : List ℕ} (p : PutWithin most w at before middle r) (capacity : at + most ≤ length before) where
  -- a word of at most `more` bytes after another
  pub put_after : (more : ℕ) → length v ≤ more → PutPost v r middle after q → PutWithin (most + more) (w ++ v) at before after q
  put_after more h s =
      let n = length-append w v in
      let e : r ≡ at + length w = p.put.place in
      record {
        put =
            record {
              place = omega (arith, s.place);
              bytes = s.bytes ∙ ap₂ (λ (l : List ℕ) (k : ℕ). written l k v) p.put.bytes e ∙ written_twice before w v at (omega (arith, p.within));
            };
        above = omega (arith, p.above, s.place);
        within = omega (arith, p.within, s.place);
      }

  pub put_next : (more : ℕ) → PutWithin more v r middle after q → PutWithin (most + more) (w ++ v) at before after q
  put_next more s = put_after more (omega (arith, s.put.place, s.within)) s.put

-- a word in the place of as many bytes of a buffer
pub put_bytes : (d w m : List ℕ) (at n : ℕ) → n ≡ length w → m ≡ w → take at d ++ (m ++ drop n (drop at d)) ≡ written d at w
unfolding written
put_bytes d w m at n e f = rw (e, f, drop-drop (length w) at d, append_assoc (take at d) w (drop (at + length w) d)) refl
