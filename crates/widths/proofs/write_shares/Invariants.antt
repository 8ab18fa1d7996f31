-- `widths::write_shares` meets its contract. The loop's invariant: the first i places have the first i shares, and the rest stands as it did; what the
-- iterator has left are the columns from i on.
use mathlib.Core.Path.{◌≡◌}
use mathlib.Core.List.{◌++◌}
use lib.ListN.{take, drop}
use Rattle.std.specs.Iterator.Adapters.{zip_first, zip_second, enumerate_source, enumerate_count}
use Rattle.std.specs.Slice.Iter.{iter_rest}
use Rattle.widths.specs.Share.{shares}
use Rattle.widths.proofs.write_shares.Given as goal

abbrev pub invariant-loop-i : goal.invariant-loop-i
invariant-loop-i l =
    let i = enumerate_count l.i-iterator in
    (l.wide ≡ take i (shares l.sizes l.leasts l.width) ++ drop i l.initial.wide)
    × (iter_rest (zip_first (enumerate_source l.i-iterator)) ≡ drop i l.sizes)
    × (iter_rest (zip_second (enumerate_source l.i-iterator)) ≡ drop i l.leasts)
