-- `enter_scope` meets its contract: refused, or the scope is entered.
use Rattle.std.proofs.Common.{rules, refl, sym, ◌≡◌, ◌∙◌, ℕ}
use Rattle.layout.specs.Answer.{answer_of, refused, number_of, number_some}
use Rattle.model.specs.Scopes.{enter_rest}
use Rattle.model.proofs.Accepted.{enter_ok}
use Rattle.model.proofs.KeepsEnter.{good_enter}
use Rattle.tables.specs.Decode.{state_of}
use Rattle.tables.proofs.Laws.{area_read}
use Rattle.tables.proofs.AnsweredLaws.{changed_refused, changed_accepted}
use Rattle.entry.specs.Enter.{scope_rest, there_refused, scope_checked, enterable}
use Rattle.entry.proofs.enter_scope.Goals as goal
use Rattle.entry.proofs.enter_scope.Goals.{After-area_at}

pub returns-in_err-check_there : goal.returns-in_err-check_there
returns-in_err-check_there c =
    let a = c.args in
    let r = c.in_err-check_there in
    let q : answer_of c.from_residual.result ≡ refused (number_of r.field-0.0) = search rules in
    let z = number_some r.field-0.0 in
    rw q (changed_refused _ _ _ c.requires.0 (there_refused (state_of a.words.now a.bytes.now) a.t a.q c.requires.1 c.requires.3 r.ensures z) z)

-- n is what check_scope answers
checked : (m : After-area_at) {n : ℕ} → let a = m.args in n ≡ scope_rest m.area_at.result m.top_entry-inner.result.inner
    → n ≡ enter_rest (state_of a.words.now a.bytes.now) a.t a.q
checked m e =
    let a = m.args in
    scope_checked (state_of a.words.now a.bytes.now) a.t a.q m.requires.1 m.requires.3 m.in_ok-check_there.ensures m.requires.2 refl
    (m.area_at.ensures ∙ sym (area_read a.words.now a.bytes.now a.q m.requires.3)) m.top_entry-inner.ensures e

pub returns-in_err-check_scope : goal.returns-in_err-check_scope
returns-in_err-check_scope c =
    let r = c.in_err-check_scope in
    let q : answer_of c.from_residual-in_err-check_scope.result ≡ refused (number_of r.field-0.0) = search rules in
    rw q (changed_refused _ _ _ c.requires.0 (checked (goal.at.returns-in_err-check_scope c).After-area_at r.ensures) (number_some r.field-0.0))

pub apply_enter-requires-clause-scope : goal.apply_enter-requires-clause-scope
apply_enter-requires-clause-scope c =
    let e = checked (goal.at.apply_enter-requires-clause-scope c).After-area_at c.in_ok-check_scope.ensures in
    (c.requires.0.sized, enterable _ _ _ c.requires.0.good e refl, c.requires.2)

pub returns : goal.returns
returns c =
    let a = c.args in
    let s = state_of a.words.now a.bytes.now in
    let e = checked (goal.at.returns c).After-area_at c.in_ok-check_scope.ensures in
    changed_accepted _ _ _ c.requires.0 e refl c.apply_enter.ensures.value c.apply_enter.ensures.state
    (good_enter s a.t a.q c.requires.0.good (enter_ok s a.t a.q (sym e)))
