-- The field n of each kind: the kind says which numbers.
use mathlib.Core.Path.{◌≡◌, refl, ap}
use mathlib.Core.Bool.{Bool, true, false, not, ◌&&◌, and-true}
use mathlib.Core.List.{List}
use Prim.Native.Nat.{ℕ, zero, suc}
use native.Mathlib.Omega.{arith}
use lib.Dec.{eqb, leb, leb-zero}
use borrow.Author.Tests.{le-leb, lt-leb}
use Rattle.text.specs.Decimal.{Number, plain, minus, shift, shifted}
use Rattle.kinds.specs.Kinds.{head_kind, ol_kind, kind_number}
use Rattle.fields.specs.Numbers.{within}
use Rattle.fields.specs.inner.Reading.{from_to, number_read}
use Rattle.fields.proofs.Signs.{number_map}
use Rattle.line.specs.Fields.{n_fits}
use Rattle.kinds.specs.declared.Kind.{Kind}

number_same : (allowed allowed' : Number → Bool) → ((n : Number) → allowed n ≡ allowed' n) → (at : ℕ) (s : List ℕ)
    → number_read allowed shifted at s ≡ number_read allowed' shifted at s
number_same allowed allowed' same at s = number_map (λ r. r) refl allowed' allowed shifted shifted (λ n p. rw (same n)) at s

above_zero : (v : ℕ) → not (leb v 0) ≡ leb 1 v
above_zero zero = refl
above_zero (suc v) = rw (lt-leb (suc v) 0 (omega arith), le-leb 1 (suc v) (omega arith))

module _ (kind : Kind) (at : ℕ) (s : List ℕ) where
  pub n_head : eqb (kind_number kind) head_kind ≡ true → number_read (n_fits kind) shifted at s ≡ number_read (from_to 1 6) shifted at s
  unfolding n_fits
  n_head e = number_same (n_fits kind) (from_to 1 6) same at s
    where
      same : (n : Number) → n_fits kind n ≡ from_to 1 6 n
      same (plain v) = rw e (ap (λ (t : Bool). leb v 6 && t) (above_zero v))
      same (minus v) = rw e

  pub n_ol : eqb (kind_number kind) head_kind ≡ false → eqb (kind_number kind) ol_kind ≡ true → number_read (n_fits kind) shifted at s ≡ number_read (within shift) shifted at s
  unfolding n_fits
  n_ol h e = number_same (n_fits kind) (within shift) (λ n. rw (h, e)) at s

  pub n_else : eqb (kind_number kind) head_kind ≡ false → eqb (kind_number kind) ol_kind ≡ false → number_read (n_fits kind) shifted at s ≡ number_read (from_to 0 0) shifted at s
  unfolding n_fits
  n_else h o = number_same (n_fits kind) (from_to 0 0) same at s
    where
      same : (n : Number) → n_fits kind n ≡ from_to 0 0 n
      same (plain v) = rw (h, o, leb-zero v, and-true)
      same (minus v) = rw (h, o)
