-- `line::line_at` meets its contract. Where a field is not sound the line is unread. Where all are, the fields and the front that the scan finds
-- determine the answer (Judging): no line feed, a refused byte, a text where none may stand, a calc, or the node.
use mathlib.Core.Path.{sym, ap, ◌∙◌}
use Prim.Native.Nat.{ℕ}
use native.Mathlib.Omega.{arith}
use Rattle.std.specs.Prelude.{◌≡◌, Ok, Err}
use Rattle.std.specs.Result.{result_ok}
use Rattle.std.proofs.Common.{rules}
use Rattle.common.proofs.Handed.{handed}
use Rattle.text.proofs.Sizes.{front_size_le, text_size_le}
use Rattle.line.specs.inner.Reading.{node_with}
use Rattle.line.proofs.Judging.{reads, judged_unread, line_broken, front_open, front_refused, front_text, front_good, front_calc}
use Rattle.line.proofs.line_at.Goals as goal

pub returns-in_err-f : goal.returns-in_err-f
returns-in_err-f c =
    let q : c.from_residual.result ≡ Err c.in_err-f.field-0.0 = search rules in
    let h = handed _ _ _ _ c.ok_or.ensures.value c.in_err-f.was in
    q ∙ ap Err h.1 ∙ sym (judged_unread _ _ (line_broken _ _ (sym c.fields_at.ensures ∙ sym h.0)))

pub scan_front-front-requires-clause-from_in_bounds : goal.scan_front-front-requires-clause-from_in_bounds
scan_front-front-requires-clause-from_in_bounds c = (reads _ _ _ (sym c.fields_at.ensures ∙ c.ok_or.ensures.ok_part ∙ ap result_ok c.in_ok-f.was)).place.inside

pub returns-then-to-bytes : goal.returns-then-to-bytes
returns-then-to-bytes c =
    let told = reads _ _ _ (sym c.fields_at.ensures ∙ c.ok_or.ensures.ok_part ∙ ap result_ok c.in_ok-f.was) in
    sym (judged_unread _ _ (front_open _ _ _ told _ c.scan_front-front.ensures.end c.if-to-bytes.true))

pub returns-then-bytes-to-ne10 : goal.returns-then-bytes-to-ne10
returns-then-bytes-to-ne10 c =
    let told = reads _ _ _ (sym c.fields_at.ensures ∙ c.ok_or.ensures.ok_part ∙ ap result_ok c.in_ok-f.was) in
    ap Err c.unreadable.ensures
    ∙ sym (front_refused _ _ _ told _ c.scan_front-front.ensures.end c.if-to-bytes.false c.if-bytes-to-ne10.true)

pub returns-then-not-text_fits : goal.returns-then-not-text_fits
returns-then-not-text_fits c =
    let told = reads _ _ _ (sym c.fields_at.ensures ∙ c.ok_or.ensures.ok_part ∙ ap result_ok c.in_ok-f.was) in
    let none = sym c.text_fits.ensures ∙ c.if-not-text_fits.true in
    sym (judged_unread _ _ (front_text _ _ _ told _ c.scan_front-front.ensures.end c.if-to-bytes.false c.if-bytes-to-ne10.false none))

pub returns-then-is_calc : goal.returns-then-is_calc
returns-then-is_calc c =
    let told = reads _ _ _ (sym c.fields_at.ensures ∙ c.ok_or.ensures.ok_part ∙ ap result_ok c.in_ok-f.was) in
    let may = sym c.text_fits.ensures ∙ c.if-not-text_fits.false in
    c.calc_line.ensures
    ∙ sym
    (front_calc _ _ _ told _ c.scan_front-front.ensures.end c.if-to-bytes.false c.if-bytes-to-ne10.false may (sym c.eq-is_calc.ensures ∙ c.if-is_calc.true))

pub with_img-own-requires : goal.with_img-own-requires
with_img-own-requires c = omega (arith, front_size_le text_size_le c.scan_front-front.ensures, c.requires.bytes_len_bound)

pub returns : goal.returns
returns c =
    let front = c.scan_front-front.ensures in
    let f = c.in_ok-f.f in
    let told = reads _ _ _ (sym c.fields_at.ensures ∙ c.ok_or.ensures.ok_part ∙ ap result_ok c.in_ok-f.was) in
    let may = sym c.text_fits.ensures ∙ c.if-not-text_fits.false in
    ap Ok (c.node_with.ensures ∙ ap (λ (own : ℕ). node_with f own f.from c.scan_front-front.result.end) (c.with_img-own.ensures ∙ rw c.eq.ensures))
    ∙ sym (front_good _ _ _ told _ front.end c.if-to-bytes.false c.if-bytes-to-ne10.false may (sym c.eq-is_calc.ensures ∙ c.if-is_calc.false) _ front.size)
