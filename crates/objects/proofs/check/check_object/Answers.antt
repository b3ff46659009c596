-- `check_object` meets its contract: one law for each way that it ends.
use mathlib.Core.Bool.{not}
use mathlib.Core.Path.{◌≡◌, sym, ap, ◌∙◌}
use borrow.Author.Tests.{not-true, not-false}
use Rattle.std.specs.Prelude.{Some}
use Rattle.tables.specs.Decode.{state_of}
use Rattle.objects.specs.Found.{found_of}
use Rattle.objects.proofs.Places.{at_live}
use Rattle.objects.proofs.Statuses.{use_nothing, use_no_right, use_right}
use Rattle.objects.proofs.check.check_object.Goals as goal
use Rattle.objects.proofs.check.check_object.Goals.{In-Some}

seen : (c : In-Some) → Some c.in-Some.o ≡ found_of (state_of c.args.words.now c.args.bytes.now) c.args.buffers.now c.args.p
seen c = sym c.in-Some.is ∙ c.lookup.ensures.found

pub returns-in_default : goal.returns-in_default
returns-in_default c = use_nothing _ _ _ _ c.requires.0.good (sym c.in_default.is ∙ c.lookup.ensures.found)

pub returns-then-not-has_right : goal.returns-then-not-has_right
returns-then-not-has_right c =
    use_no_right _ _ _ _ c.requires.0.good _ (seen (goal.at.returns-then-not-has_right c).In-Some)
    (sym c.has_right.ensures ∙ not-true c.has_right.result (ap not c.if-not-has_right.true))

pub returns : goal.returns
returns c =
    let e = seen (goal.at.returns c).In-Some in (
      (at_live _ _ _ _ e).1,
      sym (use_right _ _ _ _ c.requires.0.good _ e (sym c.has_right.ensures ∙ not-false c.has_right.result (ap not c.if-not-has_right.false))),
    )
