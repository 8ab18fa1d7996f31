-- `spoken_text::end_of` meets its contract: a line ends at its line feed, or at the end of the sheet.
use Rattle.std.proofs.lemmas.List.{take_rest}
use Rattle.spoken_text.proofs.Lines.{end_found}
use Rattle.spoken_text.proofs.end_of.Goals as goal

pub returns : goal.returns
returns c = rw (c.unwrap_or.ensures, c.feed_in.ensures) (end_found c.args.bytes.now c.args.at (take_rest c.args.bytes.now c.args.at))
