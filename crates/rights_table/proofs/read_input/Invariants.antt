-- The measure is what is still missing of a full input: a read that adds nothing ends the loop.
use Rattle.std.proofs.Common.{length, ◌-◌, ◌≡◌}
use Rattle.console.specs.Counts.{IsPrefixLen}
use Rattle.rights_table.proofs.read_input.Given as goal

abbrev pub invariant-loop-n : goal.invariant-loop-n
invariant-loop-n l = (length l.input ≡ length l.initial.input) × IsPrefixLen l.n l.input

abbrev pub decreases-loop-n : goal.decreases-loop-n
decreases-loop-n l = length l.input - l.n
