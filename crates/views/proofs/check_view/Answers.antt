-- `check_view` meets its contract: refused by the thread, or what check_object answers.
use mathlib.Core.Path.{◌≡◌, refl, sym, subst}
use borrow.Author.Rules.{rules}
use Rattle.std.specs.Prelude.{Err}
use Rattle.layout.specs.Answer.{Verdict, number_some}
use Rattle.model.proofs.Accepted.{Called}
use Rattle.tables.specs.Decode.{state_of}
use Rattle.callers.specs.Caller.{thread_refused, thread_called, called_rest}
use Rattle.views.proofs.check_view.Goals as goal
use Rattle.views.proofs.check_view.Goals.{In_ok-check_thread}

is_called : (c : In_ok-check_thread) → Called (state_of c.args.words.now c.args.bytes.now) c.args.t
is_called c = thread_called _ _ c.in_ok-check_thread.ensures refl

pub returns-in_err-check_thread : goal.returns-in_err-check_thread
returns-in_err-check_thread c =
    let e = c.in_err-check_thread.field-0.0 in
    let q : c.from_residual.result ≡ Err e = search rules in
    rw q (thread_refused _ _ c.in_err-check_thread.ensures (number_some e) _)

pub check_object-requires : goal.check_object-requires
check_object-requires c = (c.requires.0, c.requires.1, is_called c)

pub returns : goal.returns
returns c =
    subst (Verdict c.check_object.result _) (sym (called_rest _ _ (is_called (goal.at.returns c).In_ok-check_thread) _)) c.check_object.ensures
