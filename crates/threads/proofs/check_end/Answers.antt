-- `threads::check_end` meets its contract. Assumes nothing.
use Rattle.std.proofs.Common.{rules, ◌≡◌, refl, ◌∙◌}
use Rattle.layout.specs.Answer.{status_of, number_of, number_some}
use Rattle.model.proofs.Accepted.{Called}
use Rattle.tables.proofs.Laws.{len_read}
use Rattle.tables.specs.Decode.{state_of}
use Rattle.callers.specs.Caller.{thread_called}
use Rattle.threads.specs.Thread.{end_not_called, end_entries, end_accepted}
use Rattle.threads.proofs.check_end.Goals as goal

pub returns-in_err-check_thread : goal.returns-in_err-check_thread
returns-in_err-check_thread c =
    let q : status_of c.from_residual.result ≡ number_of c.in_err-check_thread.field-0.0 = search rules in
    q ∙ end_not_called _ _ c.in_err-check_thread.ensures (number_some c.in_err-check_thread.field-0.0)

pub thread_at-requires : goal.thread_at-requires
thread_at-requires c = (thread_called _ _ c.in_ok-check_thread.ensures refl).thread

pub returns-then-thread_at-gt0 : goal.returns-then-thread_at-gt0
returns-then-thread_at-gt0 c =
    let a = c.args in
    let k : Called (state_of a.words.now a.bytes.now) a.t = thread_called _ _ c.in_ok-check_thread.ensures refl in
    end_entries _ _ k (rw (len_read a.words.now a.bytes.now a.t k.thread c.thread_at.ensures) (search rules))

pub returns : goal.returns
returns c =
    let a = c.args in
    let k : Called (state_of a.words.now a.bytes.now) a.t = thread_called _ _ c.in_ok-check_thread.ensures refl in
    end_accepted _ _ k (rw (len_read a.words.now a.bytes.now a.t k.thread c.thread_at.ensures) (search rules))
