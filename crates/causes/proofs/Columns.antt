-- The room for the columns' figures, and the causes that are written of the figures told: they are the causes of the table's columns.
use mathlib.Core.Path.{◌≡◌, ap, ◌∙◌}
use mathlib.Core.List.{List}
use Prim.Native.Nat.{ℕ}
use lib.ListN.{length}
use Rattle.text.specs.declared.Estimate.{Estimate}
use Rattle.records.specs.declared.Entry.{Entry}
use Rattle.columns.specs.Columns.{up_to}
use Rattle.widths.specs.Widths.{final_widths}
use Rattle.answers.specs.declared.Way.{Way}
use Rattle.widths.specs.declared.Laid.{Laid}
use Rattle.column_sizes.specs.inner.Sizing.{sizes_in, leasts_in}
use Rattle.causes.specs.inner.Telling.{TellColumnsPost, number_at}
use Rattle.causes.specs.inner.Tables.{finals_in, causes_in}

pub causes_told : {es : List Entry} {figures : List Estimate} {c m raw width : ℕ} {sizes leasts shares column cause : List ℕ} {r : Laid}
    → TellColumnsPost es figures c raw width sizes leasts shares column r → m ≡ c → cause ≡ up_to (length sizes) (number_at width sizes shares column)
    → cause ≡ causes_in es figures m raw width
unfolding causes_in
causes_told {es} {figures} {c} {m} {raw} {width} {column = column} {r = r} t q e = e ∙ rw (t.sizes_are, t.shares_are, column_is, q)
  where
    column_is : column ≡ finals_in es figures c raw width
    column_is = t.laid.wide_are ∙ ap (λ (w : Way). final_widths w (sizes_in es figures c) (leasts_in es figures c) width) t.laid.way_is
