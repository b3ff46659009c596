-- The invariant: what is held is what feeding the input up to the rest leaves.
use Rattle.std.proofs.Common.{◌≤◌, ◌*◌, length}
use Rattle.line_answers.specs.Answered.{core}
use Rattle.reader.specs.Held.{held}
use Rattle.reader.specs.HeldLaws.{FedTo}
use Rattle.reader.proofs.feed.feed.Given as goal

abbrev pub invariant-loop-n : goal.invariant-loop-n
invariant-loop-n l = record {
  room : 19 * length l.fn.input ≤ length l.initial.output;
  fed : FedTo
      (held (core l.initial.words l.initial.bytes l.initial.permanent l.initial.scratch l.initial.map l.initial.written) l.initial.line l.initial.output 0)
      (held (core l.words l.bytes l.permanent l.scratch l.map l.written) l.line l.output l.at)
      l.rest
      l.fn.input;
}

abbrev pub decreases-loop-n : goal.decreases-loop-n
decreases-loop-n l = length l.rest
