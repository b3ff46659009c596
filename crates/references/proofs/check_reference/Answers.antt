-- `check_reference` meets its contract: one law for each way that it ends.
use mathlib.Core.Bool.{not}
use mathlib.Core.Path.{◌≡◌, sym, ap, ◌∙◌}
use borrow.Author.Tests.{not-true, not-false}
use Rattle.std.specs.Prelude.{Some}
use Rattle.tables.specs.Decode.{state_of}
use Rattle.objects.specs.Found.{found_of}
use Rattle.references.specs.Statuses.{reference_null, reference_nothing, reference_no_right, reference_right}
use Rattle.references.proofs.check_reference.Goals as goal
use Rattle.references.proofs.check_reference.Goals.{In-Some}

seen : (c : In-Some) → Some c.in-Some.o ≡ found_of (state_of c.args.words.now c.args.bytes.now) c.args.buffers.now c.args.x
seen c = sym c.in-Some.is ∙ c.lookup.ensures.found

pub returns-then-x-eq0 : goal.returns-then-x-eq0
returns-then-x-eq0 c = reference_null _ _ _ _ c.if-x-eq0.true

pub returns-in_default : goal.returns-in_default
returns-in_default c = reference_nothing _ _ _ _ c.if-x-eq0.false (sym c.in_default.is ∙ c.lookup.ensures.found)

pub returns-then-not-has_right : goal.returns-then-not-has_right
returns-then-not-has_right c =
    reference_no_right _ _ _ _ c.if-x-eq0.false _ (seen (goal.at.returns-then-not-has_right c).In-Some)
    (sym c.has_right.ensures ∙ not-true c.has_right.result (ap not c.if-not-has_right.true))

pub returns : goal.returns
returns c =
    reference_right _ _ _ _ c.if-x-eq0.false _ (seen (goal.at.returns c).In-Some)
    (sym c.has_right.ensures ∙ not-false c.has_right.result (ap not c.if-not-has_right.false))
