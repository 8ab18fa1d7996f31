-- `line_fast::common_line` meets its contract: the front that is found is that of a kind, and the rest is told by the function that reads its end.
use mathlib.Core.Path.{refl, ◌∙◌}
use Rattle.swar.proofs.Standing.{stand_given}
use Rattle.line_fast.proofs.Told.{cell_front, row_front, body_front, table_front, text_front, text_end, cell_told, row_told, body_told, table_told, text_told}
use Rattle.line_fast.proofs.common_line.Goals as goal

pub returns-then-front-from_le_bytes : goal.returns-then-front-from_le_bytes
returns-then-front-from_le_bytes c b e = cell_told c.in_ok-depth.ensures (stand_given c.eight-front.ensures cell_front refl refl (c.if-front-from_le_bytes.true ∙ c.from_le_bytes.ensures)) (c.cell_line.ensures b e)

pub returns-then-front-from_le_bytes-2 : goal.returns-then-front-from_le_bytes-2
returns-then-front-from_le_bytes-2 c b e = text_told c.in_ok-depth.ensures (stand_given c.eight-front.ensures text_front refl refl (c.if-front-from_le_bytes-2.true ∙ c.from_le_bytes-2.ensures)) (stand_given c.eight.ensures text_end refl refl (c.if-eight-from_le_bytes.false ∙ c.from_le_bytes-then-front-from_le_bytes-2.ensures)) (c.text_line.ensures b e)

pub returns-then-front-from_le_bytes-3 : goal.returns-then-front-from_le_bytes-3
returns-then-front-from_le_bytes-3 c b e = row_told c.in_ok-depth.ensures (stand_given c.eight-front.ensures row_front refl refl (c.if-front-from_le_bytes-3.true ∙ c.from_le_bytes-3.ensures)) (c.bare_line.ensures b e)

pub returns-then-front-from_le_bytes-4 : goal.returns-then-front-from_le_bytes-4
returns-then-front-from_le_bytes-4 c b e = body_told c.in_ok-depth.ensures (stand_given c.eight-front.ensures body_front refl refl (c.if-front-from_le_bytes-4.true ∙ c.from_le_bytes-4.ensures)) (c.bare_line-then-front-from_le_bytes-4.ensures b e)

pub returns-then-front-from_le_bytes-5 : goal.returns-then-front-from_le_bytes-5
returns-then-front-from_le_bytes-5 c b e = table_told c.in_ok-depth.ensures (stand_given c.eight-front.ensures table_front refl refl (c.if-front-from_le_bytes-5.true ∙ c.from_le_bytes-5.ensures)) (c.bare_line-then-front-from_le_bytes-5.ensures b e)
