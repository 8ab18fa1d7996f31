-- `line::ranges::n_at` meets its contract: for each kind the numbers that are allowed are those of the reader that it calls.
use mathlib.Core.Path.{◌≡◌, sym, ap, ◌∙◌}
use mathlib.Core.Bool.{false}
use lib.Dec.{eqb}
use borrow.Author.Tests.{ne_eqb}
use Rattle.kinds.specs.declared.Kind.{Kind}
use Rattle.kinds.specs.declared.Kind.TheVariants.{Head, Ol}
use Rattle.kinds.specs.Kinds.{kind_at, kind_number, head_kind, ol_kind}
use Rattle.kinds.proofs.Places.{at_of_number}
use Rattle.line.proofs.Numbering.{n_head, n_ol, n_else}
use Rattle.line.proofs.ranges.n_at.Goals as goal

other : (k h : Kind) → (k ≡ h → ⊥) → eqb (kind_number k) (kind_number h) ≡ false
other k h n = ne_eqb _ _ (λ e. n (sym (at_of_number k) ∙ ap kind_at e ∙ at_of_number h))

pub returns-in-Head : goal.returns-in-Head
returns-in-Head c = c.shifted_at.ensures ∙ sym (n_head _ _ _ (ap (λ (k : Kind). eqb (kind_number k) head_kind) c.in-Head.is))

pub returns-in-Ol : goal.returns-in-Ol
returns-in-Ol c =
    c.signed_at.ensures
    ∙ sym
    (n_ol _ _ _ (ap (λ (k : Kind). eqb (kind_number k) head_kind) c.in-Ol.is) (ap (λ (k : Kind). eqb (kind_number k) ol_kind) c.in-Ol.is))

pub returns-in_default : goal.returns-in_default
returns-in_default c = c.shifted_at-in_default.ensures ∙ sym (n_else _ _ _ (other _ Head c.in_default.not-Head) (other _ Ol c.in_default.not-Ol))
