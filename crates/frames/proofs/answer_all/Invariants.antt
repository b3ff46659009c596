-- The invariant: the rounds so far lead from the core that `answer_all` was given to this one. Each round takes some of the steps.
use mathlib.Core.Path.{◌≡◌}
use Prim.Native.Nat.{◌*◌, ◌≤◌, ◌<◌}
use lib.ListN.{length, take}
use mathlib.Core.List.{[]}
use Rattle.lines.specs.Lines.{Buffered}
use Rattle.tables.specs.Contract.{Ready}
use Rattle.line_answers.specs.Answered.{core}
use Rattle.frames.specs.Progress.{Continues, Progress}
use Rattle.frames.proofs.answer_all.Given as goal

abbrev pub invariant-loop-more : goal.invariant-loop-more
invariant-loop-more l = record {
  ready : Ready l.words l.bytes;
  began : Buffered l.initial.line [];
  chunk : length l.input ≡ 16384;
  room : 19 * 16384 ≤ length l.output;
  rounds : Progress
      (core l.initial.words l.initial.bytes l.initial.permanent l.initial.scratch l.initial.map l.initial.written)
      l.initial.line
      (core l.words l.bytes l.permanent l.scratch l.map l.written)
      l.line
      (take l.n l.input)
      l.steps;
  goes_on : Continues l.n l.steps l.more;
  left : (l.steps ≡ 0 → ⊥) → 19 < l.steps;
}

abbrev pub decreases-loop-more : goal.decreases-loop-more
decreases-loop-more l = l.steps
