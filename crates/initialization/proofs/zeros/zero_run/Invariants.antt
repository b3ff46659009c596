use mathlib.Core.Path.{◌≡◌}
use Rattle.model.specs.Objects.{filled}
use Rattle.initialization.proofs.zeros.zero_run.Given as goal

abbrev pub invariant-loop-i : goal.invariant-loop-i
invariant-loop-i l = l.store ≡ filled l.initial.store l.from l.i 0
