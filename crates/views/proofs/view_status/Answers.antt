-- `view_status` meets its contract: lent other lengths it is refused by 1; else by what check_view refuses it.
use mathlib.Core.Bool.{true}
use mathlib.Core.Path.{◌≡◌, refl, sym, ◌∙◌}
use borrow.Author.Rules.{rules}
use Rattle.std.specs.Prelude.{Err}
use Rattle.layout.specs.Answer.{number_some}
use Rattle.model.specs.Checks.{fits}
use Rattle.model.specs.Calls as calls
use Rattle.tables.specs.Decode.{state_of}
use Rattle.tables.proofs.AnsweredLaws.{answered_refused, answered_accepted}
use Rattle.callers.specs.Caller.{lengths_refused, lengths_passed}
use Rattle.model.proofs.Outcomes.{fit_fitted}
use Rattle.objects.specs.Fits.{fits_stores}
use Rattle.views.proofs.view_status.Goals as goal
use Rattle.views.proofs.view_status.Goals.{In_ok-check_lengths}

fitting : (c : In_ok-check_lengths) → fits (state_of c.args.words.now c.args.bytes.now) c.args.buffers.now ≡ true
fitting c = lengths_passed _ _ c.in_ok-check_lengths.ensures

pub returns-in_err-check_lengths : goal.returns-in_err-check_lengths
returns-in_err-check_lengths c =
    let e = c.in_err-check_lengths.field-0.0 in
    let q : c.from_residual.result ≡ Err e = search rules in
    rw q (answered_refused _ _ _ (calls.view_status _ _) c.requires (lengths_refused _ _ c.in_err-check_lengths.ensures (number_some e) _) (number_some e))

pub check_view-requires : goal.check_view-requires
check_view-requires c = (c.requires, fits_stores _ _ (fitting c))

pub returns-in_err-check_view : goal.returns-in_err-check_view
returns-in_err-check_view c =
    let f = fitting (goal.at.returns-in_err-check_view c).In_ok-check_lengths in
    let e = c.in_err-check_view.field-0.0 in
    let q : c.from_residual-in_err-check_view.result ≡ Err e = search rules in
    rw q (answered_refused _ _ _ (calls.view_status _ _) c.requires (c.in_err-check_view.ensures ∙ sym (fit_fitted _ _ f _)) (number_some e))

pub returns : goal.returns
returns c =
    let f = fitting (goal.at.returns c).In_ok-check_lengths in
    answered_accepted _ _ _ (calls.view_status _ _) c.requires (sym (fit_fitted _ _ f _ ∙ c.in_ok-check_view.ensures.1)) refl refl refl
    (record { sized = c.requires.sized; state = refl }) refl
