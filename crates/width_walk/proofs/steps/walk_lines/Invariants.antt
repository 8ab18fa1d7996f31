-- `width_walk::steps::walk_lines` meets its contract. The loop's invariant (`Sofar`): the lines that are passed have their widths, and the slices of widths their lengths.
use mathlib.Core.Path.{◌≡◌}
use lib.ListN.{length}
use Rattle.common.specs.Limits.{depths}
use Rattle.width_walk.proofs.Capacities.{SofarAny}
use Rattle.width_walk.proofs.steps.walk_lines.Given as goal

abbrev pub invariant-loop-i : goal.invariant-loop-i
invariant-loop-i l =
    SofarAny l.m.lines.now l.m.figures.now l.raw l.width l.overflow l.walk l.passed l.i
    × (length l.walk ≡ length l.initial.walk)
    × (length l.passed ≡ depths)
