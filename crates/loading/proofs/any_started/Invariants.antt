-- The invariant: whether some thread so far is started.
use Rattle.std.proofs.Common.{◌≡◌}
use Rattle.layout.specs.Below.{some_below}
use Rattle.model.specs.Checks.{is_started}
use Rattle.tables.specs.Decode.{state_of}
use Rattle.loading.proofs.any_started.Given as goal

abbrev pub invariant-loop-t : goal.invariant-loop-t
invariant-loop-t l = l.some ≡ some_below (is_started (state_of l.words l.bytes)) l.t
