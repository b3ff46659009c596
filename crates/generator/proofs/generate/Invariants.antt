use Rattle.std.proofs.Common.{◌≡◌}
use Rattle.generator.proofs.Laws.{filled}
use Rattle.generator.proofs.generate.Given as goal

abbrev pub invariant-loop-g : goal.invariant-loop-g
invariant-loop-g l = l.table ≡ filled l.input l.g
