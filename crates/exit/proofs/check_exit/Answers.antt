-- `check_exit` meets its contract: one law for each way that it ends.
use Rattle.std.proofs.Common.{rules, arith, refl, ◌≡◌, ◌∙◌}
use Rattle.layout.specs.Answer.{status_of, number_of, number_some}
use Rattle.model.specs.State.{State, thread_at}
use Rattle.tables.specs.Decode.{state_of}
use Rattle.tables.proofs.Laws.{len_read}
use Rattle.callers.specs.Caller.{thread_called}
use Rattle.exit.specs.Exit.{exit_no_thread, exit_not_called, exit_empty, exit_accepted}
use Rattle.exit.proofs.check_exit.Goals as goal
use Rattle.exit.proofs.check_exit.Goals.{After-thread_at}

abbrev state : After-thread_at → State
state c = state_of c.args.words.now c.args.bytes.now

len_is : (c : After-thread_at) → (thread_at (state c) c.args.t).len ≡ c.thread_at.result.len
len_is c = let a = c.args in len_read a.words.now a.bytes.now a.t c.if-t-ge16.false c.thread_at.ensures

pub returns-then-t-ge16 : goal.returns-then-t-ge16
returns-then-t-ge16 c = exit_no_thread _ _ c.if-t-ge16.true

pub returns-then-thread_at-gt0 : goal.returns-then-thread_at-gt0
returns-then-thread_at-gt0 c =
    let l = len_is (goal.at.returns-then-thread_at-gt0 c).After-thread_at in
    exit_accepted _ _ c.requires.good c.if-t-ge16.false (omega (arith, c.if-thread_at-gt0.true, l))

pub returns-in_err-check_thread : goal.returns-in_err-check_thread
returns-in_err-check_thread c =
    let r = c.in_err-check_thread in
    let q : status_of c.from_residual.result ≡ number_of r.field-0.0 = search rules in
    q ∙ exit_not_called _ _ r.ensures (number_some r.field-0.0)

pub returns : goal.returns
returns c =
    let l = len_is (goal.at.returns c).After-thread_at in
    exit_empty _ _ (thread_called _ _ c.in_ok-check_thread.ensures refl) (omega (arith, c.if-thread_at-gt0.false, l))
