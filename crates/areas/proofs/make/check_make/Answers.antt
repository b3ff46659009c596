-- `check_make` meets its contract: one law for each way that it ends.
use mathlib.Core.Path.{◌≡◌, refl, sym, ◌∙◌}
use borrow.Author.Rules.{rules}
use borrow.Author.Tests.{ltb-true, ltb-false}
use Rattle.std.proofs.Common.{◌≤◌, ◌&&◌, ℕ, ltb, false, is_le, nat_cmp, is_lt}
use Rattle.layout.specs.Choice.{cases}
use Rattle.std.proofs.lemmas.Result.{err_from_is_err_and}
use Rattle.layout.specs.Answer.{number_some}
use Rattle.model.specs.State.{State, is_made}
use Rattle.model.proofs.Accepted.{Called}
use Rattle.tables.specs.Decode.{state_of}
use Rattle.tables.proofs.Laws.{made_read}
use Rattle.callers.specs.Caller.{thread_called}
use Rattle.areas.specs.Make.{make_not_called, make_low, make_high, make_made, make_room}
use Rattle.areas.proofs.make.check_make.Goals as goal
use Rattle.areas.proofs.make.check_make.Goals.{After-is_made, In_ok-check_thread}

abbrev state : In_ok-check_thread → State
state c = state_of c.args.words.now c.args.bytes.now

called : (c : In_ok-check_thread) → Called (state c) c.args.t
called c = thread_called _ _ c.in_ok-check_thread.ensures refl

made : (c : After-is_made) → is_made (state (goal.at.After-is_made c).In_ok-check_thread) c.args.q ≡ c.is_made.result
made c =
    let a = c.args in
    made_read a.words.now a.bytes.now a.q (search rules) c.area_at.ensures ∙ sym c.is_made.ensures

pub returns-in_err-check_thread : goal.returns-in_err-check_thread
returns-in_err-check_thread c =
    let e = c.in_err-check_thread in
    let p = err_from_is_err_and c.from_residual.result c.from_residual.ensures.1 in
    rw (p.1, p.2) (make_not_called _ _ _ _ e.ensures (number_some e.field-0.0))

outside : (q : ℕ) → 2 ≤ q → false ≡ is_le (nat_cmp 2 q) && is_lt (nat_cmp q 64) → 64 ≤ q
outside q l e = search rules

pub returns-then-not-contains : goal.returns-then-not-contains
returns-then-not-contains c =
    let k = called (goal.at.returns-then-not-contains c).In_ok-check_thread in
    cases (ltb c.args.q 2)
    (λ l. make_low _ _ _ _ k (ltb-true c.args.q 2 l))
    (λ l. make_high _ _ _ _ k (ltb-false c.args.q 2 l) (outside _ (ltb-false c.args.q 2 l) c.if-not-contains.ensures.value))

pub returns-then-is_made : goal.returns-then-is_made
returns-then-is_made c = make_made _ _ _ _ (called (goal.at.returns-then-is_made c).In_ok-check_thread) (search rules) (search rules) (made (goal.at.returns-then-is_made c).After-is_made ∙ c.if-is_made.true)

pub returns : goal.returns
returns c =
    rw (← make_room _ _ _ _ (called (goal.at.returns c).In_ok-check_thread) (search rules) (search rules) (made (goal.at.returns c).After-is_made ∙ c.if-is_made.false))
    c.find_room.ensures
