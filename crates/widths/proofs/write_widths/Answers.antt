-- `widths::write_widths` meets its contract. Down every place has the width. Sideways the shares are written, none below its least, and cut where
-- they stand, which is the definition.
use mathlib.Core.Path.{◌≡◌, sym, ap, ◌∙◌}
use mathlib.Core.List.{List}
use Prim.Native.Nat.{ℕ}
use lib.ListN.{length, replicate}
use Rattle.std.proofs.Common.{rules}
use Rattle.cutting.specs.Cut.{cut}
use Rattle.widths.proofs.Laying.{final_down, final_side, cuttable}
use Rattle.widths.proofs.write_widths.Goals as goal

pub cut_widths-requires : goal.cut_widths-requires
cut_widths-requires c = cuttable c.requires c.in-Sideways.is c.write_shares.ensures

pub returns-in-Down : goal.returns-in-Down
returns-in-Down c =
    let a = c.args in
    let all : c.fill.new.self ≡ replicate (length a.wide.now) a.width = search rules in
    all
    ∙ ap (λ (n : ℕ). replicate n a.width) c.requires.columns.wide_length
    ∙ sym (final_down a.way a.sizes.now a.leasts.now a.width c.in-Down.is)

pub returns-in-Sideways : goal.returns-in-Sideways
returns-in-Sideways c =
    let a = c.args in
    c.cut_widths.ensures
    ∙ ap (λ (ws : List ℕ). cut a.leasts.now ws a.width) c.write_shares.ensures
    ∙ sym (final_side a.way a.sizes.now a.leasts.now a.width c.in-Sideways.is)
