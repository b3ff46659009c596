-- `callers::caller::check_lengths` meets its contract. Assumes nothing.
use Rattle.std.proofs.Common.{ap}
use Rattle.std.proofs.Math.Bool.{not}
use Rattle.callers.specs.Caller.{check_unfit, check_fit}
use Rattle.callers.proofs.caller.check_lengths.Goals as goal

pub returns-then-not-fit : goal.returns-then-not-fit
returns-then-not-fit c = check_unfit _ _ c.lengths_fit-fit.ensures (ap not c.if-not-fit.true)

pub returns : goal.returns
returns c = check_fit _ _ c.lengths_fit-fit.ensures (ap not c.if-not-fit.false)
