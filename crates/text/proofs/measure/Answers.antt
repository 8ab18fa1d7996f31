-- `text::measure` meets its contract: each return is the first refusal that applies, by the tests passed on the way, or the figures, by
-- what `scan` tells. A size is at most twice the bytes, so that an img's 2 fit.
use mathlib.Core.Path.{◌≡◌, sym, ap, ◌∙◌}
use native.Mathlib.Omega.{arith}
use borrow.Author.Tests.{lt-ltb, le-ltb}
use Rattle.std.specs.Prelude.{Err}
use Rattle.std.specs.Result.{result_ok}
use Rattle.std.proofs.Common.{rules}
use Rattle.common.specs.Refusals.{first_answer}
use Rattle.common.proofs.Handed.{handed}
use Rattle.text.specs.Text.{measure_of}
use Rattle.text.proofs.Sizes.{scan_size, scan_unreadable, scan_le}
use Rattle.text.proofs.measure.Goals as goal

pub returns-then-wrap-gt-MAX_WRAP : goal.returns-then-wrap-gt-MAX_WRAP
unfolding measure_of first_answer
returns-then-wrap-gt-MAX_WRAP c = rw (lt-ltb _ _ c.if-wrap-gt-MAX_WRAP.true, c.at.ensures)

pub returns-then-text-gt-MAX_BYTES : goal.returns-then-text-gt-MAX_BYTES
unfolding measure_of first_answer
returns-then-text-gt-MAX_BYTES c = rw (le-ltb _ _ c.if-wrap-gt-MAX_WRAP.false, lt-ltb _ _ c.if-text-gt-MAX_BYTES.true, c.at-then-text-gt-MAX_BYTES.ensures)

pub returns-in_err-own : goal.returns-in_err-own
unfolding measure_of first_answer
returns-in_err-own c =
    let q : c.from_residual.result ≡ Err c.in_err-own.field-0.0 = search rules in
    let h = handed _ _ _ _ c.ok_or.ensures.value c.in_err-own.was in
    rw (le-ltb _ _ c.if-wrap-gt-MAX_WRAP.false, le-ltb _ _ c.if-text-gt-MAX_BYTES.false, scan_unreadable _ (sym c.scan.ensures ∙ sym h.0))
    (q ∙ ap Err (h.1 ∙ c.at-2.ensures))

pub with_img-size-requires : goal.with_img-size-requires
with_img-size-requires c = omega (arith, scan_le _ _ (sym c.scan.ensures ∙ c.ok_or.ensures.ok_part ∙ ap result_ok c.in_ok-own.was))

pub returns : goal.returns
unfolding measure_of first_answer
returns c =
    let told = scan_size _ _ (sym c.scan.ensures ∙ c.ok_or.ensures.ok_part ∙ ap result_ok c.in_ok-own.was) in
    rw (le-ltb _ _ c.if-wrap-gt-MAX_WRAP.false, le-ltb _ _ c.if-text-gt-MAX_BYTES.false, told.0)
    (rw (c.min.ensures, c.with_img-size.ensures, told.1))
