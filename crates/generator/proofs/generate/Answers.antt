-- `generate` meets its contract. The invariant: the digits of the classes so far are put.
use Rattle.std.proofs.Common.{◌≡◌, ◌∙◌, refl, sym, add-one, arith}
use lib.ListN.{get_or}
use Rattle.hexadecimal.specs.Digit.{digit_value}
use Rattle.generator.specs.Generator.{class_count, digit_place, generated}
use Rattle.generator.proofs.Laws.{source_long, source_digit, filled_none, filled_more, filled_all}
use Rattle.generator.proofs.generate.Goals as goal

pub loop-g-init : goal.loop-g-init
loop-g-init c = filled_none _

pub bounds-input-place : goal.bounds-input-place
bounds-input-place c = omega (arith, source_long _ (sym c.if-not-is_source.ensures), c.place.ensures.within)

pub digit_value-requires : goal.digit_value-requires
digit_value-requires c =
    rw c.place.ensures.place (source_digit _ (sym c.if-not-is_source.ensures) _ c.loop-g-test.true)

pub loop-g-preserved : goal.loop-g-preserved
loop-g-preserved c =
    let g = c.loop-g.g in
    let input = c.args.input.now in
    let place_is = c.place.ensures.place in
    let v : c.digit_value.result ≡ digit_value (get_or input (digit_place g) 0) = rw place_is at c.digit_value.ensures in
    c.put_class.ensures ∙ rw (c.loop-g.invariant, v, add-one) (filled_more input g c.loop-g-test.true)

pub returns-then-not-is_source-clause-printed : goal.returns-then-not-is_source-clause-printed
unfolding generated
returns-then-not-is_source-clause-printed c = rw (← c.if-not-is_source.ensures) refl

pub returns-clause-printed : goal.returns-clause-printed
unfolding generated
returns-clause-printed c =
    let e : c.loop-g.g ≡ class_count = omega arith in
    rw (← c.if-not-is_source.ensures) ((rw e at c.loop-g.invariant) ∙ filled_all _)
