-- `remove_on` meets its contract: refused, or carried out.
use Rattle.std.proofs.Common.{rules, ◌≡◌, refl, sym}
use Rattle.layout.specs.Answer.{answer_of, number_of, number_some, refused}
use Rattle.model.proofs.Accepted.{remove_ok}
use Rattle.model.proofs.KeepsScopes.{good_remove}
use Rattle.tables.specs.Decode.{state_of}
use Rattle.tables.proofs.AnsweredLaws.{changed_refused, changed_accepted}
use Rattle.removal.proofs.remove_on.Goals as goal

pub returns-in_err-check_remove : goal.returns-in_err-check_remove
returns-in_err-check_remove c =
    let e = c.in_err-check_remove in
    let q : answer_of c.from_residual.result ≡ refused (number_of e.field-0.0) = search rules in
    rw q (changed_refused _ _ _ c.requires e.ensures (number_some e.field-0.0))

pub apply_remove-requires : goal.apply_remove-requires
apply_remove-requires c = (c.requires, remove_ok _ _ _ (sym c.in_ok-check_remove.ensures))

pub returns : goal.returns
returns c =
    let a = c.args in
    let e = c.in_ok-check_remove.ensures in
    changed_accepted _ _ _ c.requires e refl refl c.apply_remove.ensures
    (good_remove (state_of a.words.now a.bytes.now) a.t a.q c.requires.good (remove_ok _ _ _ (sym e)))
