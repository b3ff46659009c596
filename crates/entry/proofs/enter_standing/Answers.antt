-- `enter_standing` meets its contract: refused, or an entry more.
use Rattle.std.proofs.Common.{rules, arith, refl, ap, sym, ◌≡◌, ◌<◌, ℕ}
use Rattle.layout.specs.Answer.{answer_of, refused, number_of, number_some}
use Rattle.model.specs.Scopes.{enter_rest}
use Rattle.model.proofs.Accepted.{enter_ok}
use Rattle.model.proofs.KeepsEnter.{good_enter}
use Rattle.tables.specs.declared.Entry.{Entry}
use Rattle.tables.specs.Decode.{state_of}
use Rattle.tables.proofs.AnsweredLaws.{changed_refused, changed_accepted}
use Rattle.entry.specs.Enter.{there_rest, standing_checked, enterable}
use Rattle.opening.specs.Entered.{value_standing, standing_holds}
use Rattle.entry.proofs.enter_standing.Goals as goal
use Rattle.entry.proofs.enter_standing.Goals.{Start}

-- n is what check_there answers
checked : (o : Start) {n : ℕ} → let a = o.args in n ≡ there_rest (state_of a.words.now a.bytes.now) a.t a.q 0
    → n ≡ enter_rest (state_of a.words.now a.bytes.now) a.t a.q
checked o e =
    let a = o.args in
    let area : a.q < 64 = omega (arith, o.requires.2) in
    standing_checked (state_of a.words.now a.bytes.now) a.t a.q o.requires.1 area e o.requires.2

pub returns-in_err-check_there : goal.returns-in_err-check_there
returns-in_err-check_there c =
    let r = c.in_err-check_there in
    let q : answer_of c.from_residual.result ≡ refused (number_of r.field-0.0) = search rules in
    rw q (changed_refused _ _ _ c.requires.0 (checked (goal.at.returns-in_err-check_there c).Start r.ensures) (number_some r.field-0.0))

pub push-requires : goal.push-requires
push-requires c =
    let k = enterable _ _ _ c.requires.0.good (checked (goal.at.push-requires c).Start c.in_ok-check_there.ensures) refl in
    (c.requires.0.sized, k.thread, k.room)

pub returns : goal.returns
returns c =
    let a = c.args in
    let s = state_of a.words.now a.bytes.now in
    let e = checked (goal.at.returns c).Start c.in_ok-check_there.ensures in
    changed_accepted _ _ _ c.requires.0 e refl
    (value_standing a.words.now a.bytes.now a.t a.q c.requires.2 c.area_at-generation.ensures)
    (standing_holds a.words.now a.bytes.now a.t a.q c.requires.2 _ (ap (λ (y : Entry). y.inner) c.top_entry-inner.ensures) c.push.ensures)
    (good_enter s a.t a.q c.requires.0.good (enter_ok s a.t a.q (sym e)))
