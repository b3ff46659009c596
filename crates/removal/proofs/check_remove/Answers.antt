-- `check_remove` meets its contract: one law for each way that it ends.
use mathlib.Core.Path.{◌≡◌, refl, sym, ap, ◌∙◌}
use borrow.Author.Rules.{rules}
use borrow.Author.Tests.{ltb-true, ltb-false}
use Rattle.std.proofs.Common.{◌≤◌, ◌&&◌, ℕ, ltb, false, is_le, nat_cmp, is_lt}
use Rattle.layout.specs.Choice.{cases}
use Rattle.layout.specs.Answer.{status_of, number_of, number_some}
use Rattle.model.specs.declared.Area.{Area}
use Rattle.model.specs.State.{State, area_at, is_made}
use Rattle.model.proofs.Accepted.{Called}
use Rattle.tables.specs.Decode.{state_of}
use Rattle.tables.proofs.Laws.{area_read, made_read}
use Rattle.callers.specs.Caller.{thread_called}
use Rattle.removal.specs.Remove.{remove_not_called, remove_low, remove_high, remove_unmade, remove_open, remove_accepted}
use Rattle.removal.proofs.check_remove.Goals as goal
use Rattle.removal.proofs.check_remove.Goals.{After-is_made-made, In_ok-check_thread}

abbrev state : In_ok-check_thread → State
state c = state_of c.args.words.now c.args.bytes.now

called : (c : In_ok-check_thread) → Called (state c) c.args.t
called c = thread_called _ _ c.in_ok-check_thread.ensures refl

made : (c : After-is_made-made) → is_made (state (goal.at.After-is_made-made c).In_ok-check_thread) c.args.q ≡ c.is_made-made.result
made c =
    let a = c.args in
    made_read a.words.now a.bytes.now a.q (search rules) c.area_at-x.ensures ∙ sym c.is_made-made.ensures

count : (c : After-is_made-made) → (area_at (state (goal.at.After-is_made-made c).In_ok-check_thread) c.args.q).count ≡ c.area_at-x.result.count
count c =
    let a = c.args in
    ap (λ (x : Area). x.count) (area_read a.words.now a.bytes.now a.q (search rules) ∙ sym c.area_at-x.ensures)

pub returns-in_err-check_thread : goal.returns-in_err-check_thread
returns-in_err-check_thread c =
    let q : status_of c.from_residual.result ≡ number_of c.in_err-check_thread.field-0.0 = search rules in
    q ∙ remove_not_called _ _ _ c.in_err-check_thread.ensures (number_some c.in_err-check_thread.field-0.0)

outside : (q : ℕ) → 2 ≤ q → false ≡ is_le (nat_cmp 2 q) && is_lt (nat_cmp q 64) → 64 ≤ q
outside q l e = search rules

pub returns-then-not-contains : goal.returns-then-not-contains
returns-then-not-contains c =
    let k = called (goal.at.returns-then-not-contains c).In_ok-check_thread in
    cases (ltb c.args.q 2)
    (λ l. remove_low _ _ _ k (ltb-true c.args.q 2 l))
    (λ l. remove_high _ _ _ k (ltb-false c.args.q 2 l) (outside _ (ltb-false c.args.q 2 l) c.if-not-contains.ensures.value))

pub returns-then-not-made : goal.returns-then-not-made
returns-then-not-made c =
    remove_unmade _ _ _ (called (goal.at.returns-then-not-made c).In_ok-check_thread) (search rules) (search rules) (made (goal.at.returns-then-not-made c).After-is_made-made ∙ c.if-not-made.true)

pub returns-then-open : goal.returns-then-open
returns-then-open c =
    remove_open _ _ _ (called (goal.at.returns-then-open c).In_ok-check_thread) (search rules) (search rules) (made (goal.at.returns-then-open c).After-is_made-made ∙ c.if-not-made.false) (rw (count (goal.at.returns-then-open c).After-is_made-made) c.if-open.true)

pub returns : goal.returns
returns c =
    remove_accepted _ _ _ (called (goal.at.returns c).In_ok-check_thread) (search rules) (search rules) (made (goal.at.returns c).After-is_made-made ∙ c.if-not-made.false) (rw (count (goal.at.returns c).After-is_made-made) c.if-open.false)
