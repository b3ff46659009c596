-- The one entry more is there once its place is past.
use mathlib.Core.Path.{◌≡◌}
use Rattle.layout.specs.DisplayLaws.{so_far}
use Rattle.layout.proofs.display.extended.Given as goal

abbrev pub invariant-loop-kept : goal.invariant-loop-kept
invariant-loop-kept l = (l.place ≡ l.kept-index) × (l.kept-items ≡ so_far l.initial.kept-items l.last l.area l.place)
