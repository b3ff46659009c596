-- `view_place` meets its contract: lent other lengths it is refused by 1; else what was checked is placed in the store of the handle's area.
use mathlib.Core.Bool.{true}
use mathlib.Core.Path.{◌≡◌, ◌∙◌}
use borrow.Author.Tests.{le-leb, lt-leb}
use Rattle.layout.specs.Answer.{number_some}
use Rattle.model.specs.Checks.{fits}
use Rattle.tables.specs.Decode.{state_of}
use Rattle.callers.specs.Caller.{lengths_refused, lengths_passed}
use Rattle.objects.specs.Fits.{fits_stores}
use Rattle.views.proofs.ViewLaws.{place_refused, past_1, view_placed, start_low}
use Rattle.views.proofs.view_place.Goals as goal
use Rattle.views.proofs.view_place.Goals.{In_default}

fitting : (c : In_default) → fits (state_of c.args.words.now c.args.bytes.now) c.args.buffers.now ≡ true
fitting c = lengths_passed _ _ c.in_default.ensures

pub returns-in-Err : goal.returns-in-Err
returns-in-Err c =
    let h = number_some c.in-Err.refusal in
    c.placed.ensures ∙ place_refused _ _ _ _ (lengths_refused _ _ c.in-Err.ensures h _) h

pub check_view-requires : goal.check_view-requires
check_view-requires c = (c.requires, fits_stores _ _ (fitting (goal.at.check_view-requires c).In_default))

pub check_view-requires-2 : goal.check_view-requires-2
check_view-requires-2 c = (c.requires, fits_stores _ _ (fitting (goal.at.check_view-requires-2 c).In_default))

pub placed-requires-then-area-ge2 : goal.placed-requires-then-area-ge2
placed-requires-then-area-ge2 c =
    start_low _ _ c.args.t c.args.p _ (past_1 _ _ c.args.t c.args.p (fitting (goal.at.placed-requires-then-area-ge2 c).In_default) c.check_view.result c.check_view.ensures) c.requires.good

pub placed-requires-2 : goal.placed-requires-2
placed-requires-2 c =
    start_low _ _ c.args.t c.args.p _ (past_1 _ _ c.args.t c.args.p (fitting (goal.at.placed-requires-2 c).In_default) c.check_view-2.result c.check_view-2.ensures) c.requires.good

pub returns-then-area-ge2 : goal.returns-then-area-ge2
returns-then-area-ge2 c =
    c.placed-then-area-ge2.ensures
    ∙ view_placed _ _ c.args.t c.args.p _ 1 (past_1 _ _ c.args.t c.args.p (fitting (goal.at.returns-then-area-ge2 c).In_default) c.check_view.result c.check_view.ensures)
    (rw (← c.area.ensures, le-leb 2 _ c.if-area-ge2.true))

pub returns : goal.returns
returns c =
    c.placed-2.ensures
    ∙ view_placed _ _ c.args.t c.args.p _ 0 (past_1 _ _ c.args.t c.args.p (fitting (goal.at.returns c).In_default) c.check_view-2.result c.check_view-2.ensures)
    (rw (← c.area.ensures, lt-leb 2 _ c.if-area-ge2.false))
