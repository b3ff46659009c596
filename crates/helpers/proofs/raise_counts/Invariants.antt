use Rattle.model.specs.Helpers.{raised}
use Rattle.tables.specs.Decode.{state_of, Holds}
use Rattle.helpers.specs.Helper.{lowest}
use Rattle.helpers.proofs.raise_counts.Given as goal

abbrev pub invariant-loop-i : goal.invariant-loop-i
invariant-loop-i l = Holds l.words l.bytes (raised (state_of l.initial.words l.bytes) (lowest (state_of l.initial.words l.bytes) l.t l.i))
