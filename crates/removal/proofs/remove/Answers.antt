-- `removal::remove` meets its contract. Assumes nothing.
use Rattle.std.proofs.Common.{rules, ◌≡◌, refl}
use Rattle.layout.specs.Answer.{answer_of, number_of, number_some, refused}
use Rattle.tables.proofs.AnsweredLaws.{answered_refused, fit_answered}
use Rattle.callers.specs.Caller.{lengths_refused, lengths_passed}
use Rattle.removal.proofs.remove.Goals as goal

pub returns-in_err-check_lengths : goal.returns-in_err-check_lengths
returns-in_err-check_lengths c =
    let e = c.in_err-check_lengths in
    let q : answer_of c.from_residual.result ≡ refused (number_of e.field-0.0) = search rules in
    rw q (answered_refused _ _ _ _ c.requires (lengths_refused _ _ e.ensures (number_some e.field-0.0) _) (number_some e.field-0.0))

pub returns : goal.returns
returns c = fit_answered _ _ _ _ _ refl (search (rules, lengths_passed)) c.remove_on.ensures
