-- `callers::caller::check_caller` meets its contract. Assumes nothing.
use Rattle.std.proofs.Common.{rules, ◌≡◌, ◌∙◌, sym}
use Rattle.layout.specs.Answer.{status_of, number_of, number_some}
use Rattle.model.proofs.Outcomes.{fit_fitted}
use Rattle.callers.specs.Caller.{lengths_refused, lengths_passed}
use Rattle.callers.proofs.caller.check_caller.Goals as goal

pub returns-in_err-check_lengths : goal.returns-in_err-check_lengths
returns-in_err-check_lengths c =
    let q : status_of c.from_residual.result ≡ number_of c.in_err-check_lengths.field-0.0 = search rules in
    q ∙ lengths_refused _ _ c.in_err-check_lengths.ensures (number_some c.in_err-check_lengths.field-0.0) _

pub returns : goal.returns
returns c = c.check_thread.ensures ∙ sym (fit_fitted _ _ (lengths_passed _ _ c.in_ok-check_lengths.ensures) _)
