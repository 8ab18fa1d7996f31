-- `spoken_text::spoken_part` meets its contract: a text that is found inside is a line of the sheet.
use mathlib.Core.Path.{sym, ap, ◌∙◌}
use native.Mathlib.Omega.{arith}
use lib.ListN.{length, length-map}
use Rattle.sheet.specs.Sheet.{sheet_lines}
use Rattle.sheet.specs.Reading.{record_of}
use Rattle.spoken_text.specs.Text.{part_for}
use Rattle.spoken_text.proofs.Inside.{inside_within}
use Rattle.spoken_text.proofs.Lines.{accepted_few}
use Rattle.spoken_text.proofs.spoken_part.Goals as goal

pub first_text-requires : goal.first_text-requires
first_text-requires c = record {
  from_one = c.requires.from_one;
  within = c.requires.within;
  short = omega (arith, ap length c.requires.lines_are, length-map (sheet_lines c.args.sheet.now) record_of, accepted_few c.args.sheet.now c.requires.accepted);
}

pub returns-in_err-k : goal.returns-in_err-k
unfolding part_for
returns-in_err-k c = rw (← c.first_text.ensures, c.in_err-k.was) c.from_residual.ensures

pub text_part-requires : goal.text_part-requires
text_part-requires c =
    let w = inside_within c.args.lines.now c.args.c c.in_ok-k.k c.requires.within (sym c.first_text.ensures ∙ c.in_ok-k.was) in
    record {
      accepted = c.requires.accepted;
      from_one = w.0;
      within = omega (arith, w.1, ap length c.requires.lines_are, length-map (sheet_lines c.args.sheet.now) record_of);
    }

pub returns : goal.returns
unfolding part_for
returns c = rw (← c.first_text.ensures, c.in_ok-k.was) c.text_part.ensures
