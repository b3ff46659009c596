-- `enter_on` meets its contract: one law for each way that it ends.
use Rattle.std.proofs.Common.{rules, arith, refl, ◌≡◌}
use Rattle.layout.specs.Answer.{answer_of, refused, number_of, number_some}
use Rattle.tables.proofs.AnsweredLaws.{changed_refused}
use Rattle.callers.specs.Caller.{thread_called}
use Rattle.entry.specs.Enter.{enter_not_called, enter_no_area}
use Rattle.entry.proofs.enter_on.Goals as goal

pub returns-in_err-check_thread : goal.returns-in_err-check_thread
returns-in_err-check_thread c =
    let r = c.in_err-check_thread in
    let q : answer_of c.from_residual.result ≡ refused (number_of r.field-0.0) = search rules in
    let z = number_some r.field-0.0 in
    rw q (changed_refused _ _ _ c.requires (enter_not_called _ _ _ r.ensures z) z)

pub returns-then-q-ge64 : goal.returns-then-q-ge64
returns-then-q-ge64 c =
    let k = thread_called _ _ c.in_ok-check_thread.ensures refl in
    changed_refused _ _ _ c.requires (enter_no_area _ _ _ k c.if-q-ge64.true) (λ z. omega arith)

pub enter_scope-requires : goal.enter_scope-requires
enter_scope-requires c =
    (c.requires, thread_called _ _ c.in_ok-check_thread.ensures refl, c.if-q-ge2.true, c.if-q-ge64.false)

pub enter_standing-requires : goal.enter_standing-requires
enter_standing-requires c = (c.requires, thread_called _ _ c.in_ok-check_thread.ensures refl, c.if-q-ge2.false)
