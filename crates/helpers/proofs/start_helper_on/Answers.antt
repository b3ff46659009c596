-- `start_helper_on` meets its contract: refused, or carried out.
use Rattle.std.proofs.Common.{rules, ◌≡◌, refl}
use Rattle.layout.specs.Answer.{answer_of, number_of, number_some, refused}
use Rattle.tables.proofs.AnsweredLaws.{changed_refused}
use Rattle.helpers.specs.Helper.{passed, helper_on}
use Rattle.helpers.proofs.start_helper_on.Goals as goal

pub returns-in_err-check_helper : goal.returns-in_err-check_helper
returns-in_err-check_helper c =
    let e = c.in_err-check_helper in
    let q : answer_of c.from_residual.result ≡ refused (number_of e.field-0.0) = search rules in
    rw q (changed_refused _ _ _ c.requires e.ensures (number_some e.field-0.0))

pub apply_helper-requires : goal.apply_helper-requires
apply_helper-requires c =
    let a = c.args in
    (c.requires, passed a.words.now a.bytes.now c.requires a.t a.kind a.helper c.in_ok-check_helper.ensures refl)

pub returns : goal.returns
returns c =
    let a = c.args in
    helper_on a.words.now a.bytes.now c.requires a.t a.kind a.helper c.in_ok-check_helper.ensures refl c.apply_helper.ensures
