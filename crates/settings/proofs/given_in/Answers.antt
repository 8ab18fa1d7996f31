-- `settings::given_in` meets its contract: the heading is compared and the three settings are read in the definition's order, each from where
-- the one before ended, and the first that fails ends the reading (`no_heading` to `all_set`).
use mathlib.Core.Path.{sym, ◌∙◌}
use Rattle.settings.specs.Settings.{settings_heading}
use Rattle.fields.proofs.Words.{word_told}
use Rattle.settings.proofs.Answers.{no_heading, no_wrap, no_raw, no_width, all_set}
use Rattle.settings.proofs.given_in.Goals as goal

pub returns-then-not-starts_with : goal.returns-then-not-starts_with
returns-then-not-starts_with c = sym (no_heading _ (word_told settings_heading _ c.starts_with.ensures.value c.if-not-starts_with.true))

pub returns-in_err-wrap : goal.returns-in_err-wrap
returns-in_err-wrap c =
    let headed = word_told settings_heading _ c.starts_with.ensures.value c.if-not-starts_with.false in
    rw c.from_residual.ensures (sym (no_wrap _ headed (sym c.number_at.ensures ∙ c.in_err-wrap.was)))

pub returns-in_err-raw : goal.returns-in_err-raw
returns-in_err-raw c =
    let headed = word_told settings_heading _ c.starts_with.ensures.value c.if-not-starts_with.false in
    let wrap = sym c.number_at.ensures ∙ c.in_ok-wrap.was in
    rw c.from_residual-in_err-raw.ensures (sym (no_raw _ headed wrap (sym c.number_at-2.ensures ∙ c.in_err-raw.was)))

pub returns-in_err-width : goal.returns-in_err-width
returns-in_err-width c =
    let headed = word_told settings_heading _ c.starts_with.ensures.value c.if-not-starts_with.false in
    let wrap = sym c.number_at.ensures ∙ c.in_ok-wrap.was in
    let raw = sym c.number_at-2.ensures ∙ c.in_ok-raw.was in
    rw c.from_residual-in_err-width.ensures (sym (no_width _ headed wrap raw (sym c.number_at-3.ensures ∙ c.in_err-width.was)))

pub returns : goal.returns
returns c =
    let headed = word_told settings_heading _ c.starts_with.ensures.value c.if-not-starts_with.false in
    let wrap = sym c.number_at.ensures ∙ c.in_ok-wrap.was in
    let raw = sym c.number_at-2.ensures ∙ c.in_ok-raw.was in
    sym (all_set _ headed wrap raw (sym c.number_at-3.ensures ∙ c.in_ok-width.was))
