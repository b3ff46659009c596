-- `exit::exit` meets its contract. Assumes nothing.
use Rattle.std.proofs.Common.{rules, refl, ◌≡◌}
use Rattle.layout.specs.Answer.{answer_of, refused, number_of, number_some}
use Rattle.tables.proofs.AnsweredLaws.{answered_refused, fit_answered}
use Rattle.callers.specs.Caller.{lengths_refused, lengths_passed}
use Rattle.exit.proofs.exit.Goals as goal

pub returns-in_err-check_lengths : goal.returns-in_err-check_lengths
returns-in_err-check_lengths c =
    let r = c.in_err-check_lengths in
    let q : answer_of c.from_residual.result ≡ refused (number_of r.field-0.0) = search rules in
    let z = number_some r.field-0.0 in
    rw q (answered_refused _ _ _ _ c.requires (lengths_refused _ _ r.ensures z _) z)

pub returns : goal.returns
returns c = fit_answered _ _ _ _ _ refl (search (rules, lengths_passed)) c.exit_on.ensures
