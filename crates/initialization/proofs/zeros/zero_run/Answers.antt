-- `zero_run` meets its contract. The invariant: the first i words are 0.
use mathlib.Core.Path.{refl, ap}
use mathlib.Core.List.{List}
use Prim.Native.Nat.{ℕ, ◌+◌}
use native.Mathlib.Numerals.{add-one}
use lib.ListN.{set}
use Rattle.model.specs.Objects.{filled}
use Rattle.initialization.proofs.zeros.zero_run.Goals as goal

pub loop-i-init : goal.loop-i-init
unfolding filled
loop-i-init c = refl

pub loop-i-preserved : goal.loop-i-preserved
unfolding filled
loop-i-preserved c = rw (add-one c.loop-i.i) (ap (λ (l : List ℕ). set l (c.args.from + c.loop-i.i) 0) c.loop-i.invariant)
