-- `check_helper` meets its contract: one law for each way that it ends.
use Rattle.std.proofs.Common.{rules, ◌≡◌, refl, sym, ◌∙◌}
use Rattle.layout.specs.Answer.{status_of, number_of, number_some}
use Rattle.model.specs.State.{State}
use Rattle.model.proofs.Accepted.{Called}
use Rattle.tables.specs.Decode.{state_of}
use Rattle.callers.specs.Caller.{thread_called}
use Rattle.helpers.specs.Helper.{helper_not_called, helper_not_startable, no_right, helper_accepted}
use Rattle.helpers.proofs.check_helper.Goals as goal
use Rattle.helpers.proofs.check_helper.Goals.{In_ok-check_thread}

abbrev state : In_ok-check_thread → State
state c = state_of c.args.words.now c.args.bytes.now

called : (c : In_ok-check_thread) → Called (state c) c.args.t
called c = thread_called (state c) c.args.t c.in_ok-check_thread.ensures refl

pub returns-in_err-check_thread : goal.returns-in_err-check_thread
returns-in_err-check_thread c =
    let q : status_of c.from_residual.result ≡ number_of c.in_err-check_thread.field-0.0 = search rules in
    q ∙ helper_not_called _ _ _ _ c.in_err-check_thread.ensures (number_some c.in_err-check_thread.field-0.0)

pub returns-in_err-kind : goal.returns-in_err-kind
returns-in_err-kind c =
    let a = c.args in
    let e = c.in_err-kind in
    let q : status_of c.from_residual-in_err-kind.result ≡ number_of e.field-0.0 = search rules in
    q ∙ helper_not_startable _ a.t a.kind a.helper (called (goal.at.returns-in_err-kind c).In_ok-check_thread) e.ensures (number_some e.field-0.0)

pub may_enter_all-requires : goal.may_enter_all-requires
may_enter_all-requires c = (c.requires, (called (goal.at.may_enter_all-requires c).In_ok-check_thread).thread)

pub returns-then-not-may_enter_all : goal.returns-then-not-may_enter_all
returns-then-not-may_enter_all c =
    let a = c.args in
    no_right _ a.t a.kind a.helper (called (goal.at.returns-then-not-may_enter_all c).In_ok-check_thread) (sym c.in_ok-kind.ensures.1) refl
    (rw c.in_ok-kind.ensures.0 at c.may_enter_all.ensures) c.if-not-may_enter_all.true

pub returns : goal.returns
returns c =
    let a = c.args in
    helper_accepted _ a.t a.kind a.helper (called (goal.at.returns c).In_ok-check_thread) (sym c.in_ok-kind.ensures.1) refl
    (rw c.in_ok-kind.ensures.0 at c.may_enter_all.ensures) c.if-not-may_enter_all.false
