-- `whole` meets its contract: the header's sizes are below 16,384, so no sum wraps.
use native.Mathlib.Omega.{arith}
use Rattle.layout.specs.HandleLaws.{slots_lt, data_lt}
use Rattle.objects.proofs.Steps.{ends_at, ends_out}
use Rattle.objects.proofs.find.whole.Goals as goal

pub overflow_add-slots : goal.overflow_add-slots
overflow_add-slots c = omega (arith, c.slots-slots.ensures, slots_lt c.args.header, c.data_words-data_words.ensures, data_lt c.args.header)

pub returns-then-left-slots : goal.returns-then-left-slots
returns-then-left-slots c =
    let a = c.args in
    ends_out a.header a.area a.at a.bit a.left (rw (c.slots-slots.ensures, c.data_words-data_words.ensures) at c.if-left-slots.true)

pub returns : goal.returns
returns c =
    let a = c.args in
    let s = c.slots-slots.ensures in
    let d = c.data_words-data_words.ensures in
    rw (s, d) (ends_at a.header a.area a.at a.bit a.left (rw (s, d) at c.if-left-slots.false))
