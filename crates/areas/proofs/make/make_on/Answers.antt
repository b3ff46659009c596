-- `make_on` meets its contract: refused, or carried out.
use Rattle.std.proofs.Common.{rules, ◌≡◌, refl, sym}
use Rattle.layout.specs.Answer.{answer_of, number_of, refused}
use Rattle.model.proofs.KeepsScopes.{good_make}
use Rattle.tables.specs.Decode.{state_of}
use Rattle.tables.proofs.AnsweredLaws.{changed_refused, changed_accepted}
use Rattle.areas.specs.Make.{make_passed, make_refused}
use Rattle.areas.proofs.make.make_on.Goals as goal

pub returns-in_err-first : goal.returns-in_err-first
returns-in_err-first c =
    let e = c.in_err-first in
    let q : answer_of c.from_residual.result ≡ refused (number_of e.field-0.0) = search rules in
    let k = make_refused _ _ _ _ e.field-0.0 e.ensures in
    rw q (changed_refused _ _ _ c.requires k.0 k.1)

pub apply_make-requires : goal.apply_make-requires
apply_make-requires c =
    let k = make_passed _ _ _ _ c.in_ok-first.ensures in
    (c.requires, k.0, k.1)

pub returns : goal.returns
returns c =
    let a = c.args in
    let k = make_passed _ _ _ _ c.in_ok-first.ensures in
    changed_accepted _ _ _ c.requires (sym k.2) refl refl c.apply_make.ensures
    (good_make (state_of a.words.now a.bytes.now) a.t a.q a.r c.requires.good k.0)
