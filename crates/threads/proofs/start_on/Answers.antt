-- `threads::start_on` meets its contract. Assumes nothing.
use Rattle.std.proofs.Common.{rules, ◌≡◌, refl, sym}
use Rattle.layout.specs.Answer.{answer_of, number_of, number_some, refused}
use Rattle.model.proofs.Accepted.{start_ok}
use Rattle.tables.proofs.AnsweredLaws.{changed_refused}
use Rattle.threads.specs.Thread.{started_on}
use Rattle.threads.proofs.start_on.Goals as goal

pub returns-in_err-check_start : goal.returns-in_err-check_start
returns-in_err-check_start c =
    let e = c.in_err-check_start in
    let q : answer_of c.from_residual.result ≡ refused (number_of e.field-0.0) = search rules in
    rw q (changed_refused _ _ _ c.requires e.ensures (number_some e.field-0.0))

pub put_kind-requires : goal.put_kind-requires
put_kind-requires c = (c.requires.sized, (start_ok _ _ _ c.in_ok-check_start.ensures.1).thread)

pub returns : goal.returns
returns c =
    let a = c.args in
    started_on a.words.now a.bytes.now c.requires a.t a.kind (sym c.in_ok-check_start.ensures.1) refl c.put_kind.ensures
