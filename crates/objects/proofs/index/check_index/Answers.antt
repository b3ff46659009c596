-- `check_index` meets its contract: refused by check_object, past the end of the part, or within it.
use mathlib.Core.Path.{◌≡◌, sym}
use Prim.Native.Nat.{◌+◌, ◌<◌}
use native.Mathlib.Omega.{arith}
use borrow.Author.Rules.{rules}
use Rattle.std.specs.Prelude.{Err}
use Rattle.layout.specs.Answer.{number_some}
use Rattle.model.proofs.Accepted.{UseOk, use_ok}
use Rattle.tables.specs.Decode.{state_of}
use Rattle.objects.specs.Indexed.{part_count, part_start}
use Rattle.objects.proofs.Statuses.{index_not_used, index_past, index_in}
use Rattle.objects.proofs.Effects.{word_low, bit_low, word_place}
use Rattle.objects.proofs.index.check_index.Goals as goal
use Rattle.objects.proofs.index.check_index.Goals.{Else-count-q}

-- an index within the part, and its word
within : (c : Else-count-q) → c.args.q < part_count c.args.part c.in_ok-o.o
within c = omega (arith, c.if-count-q.false, c.count.ensures)

-- its place and its bit are small
module _ (c : Else-count-q) where
  passed : UseOk (state_of c.args.words.now c.args.bytes.now) c.args.buffers.now c.args.t c.args.p
  passed = (use_ok _ _ _ _ 0 c.in_ok-o.ensures.1).0

  low : c.in_ok-o.o.at + (part_start c.args.part c.in_ok-o.o + c.args.q) + 1 < 16384
  low = word_low _ _ c.args.p _ c.in_ok-o.ensures.0 c.requires.0.good c.requires.1 c.args.t passed c.args.part c.args.q (within c)

  low_bit : c.in_ok-o.o.bit + (part_start c.args.part c.in_ok-o.o + c.args.q) + 1 < 32768
  low_bit = bit_low _ _ c.args.p _ c.in_ok-o.ensures.0 c.requires.0.good c.requires.1 c.args.t passed c.args.part c.args.q (within c)

pub returns-in_err-o : goal.returns-in_err-o
returns-in_err-o c =
    let q : c.from_residual.result ≡ Err c.in_err-o.field-0.0 = search rules in
    rw q (index_not_used c.args.part _ _ _ _ c.args.q c.in_err-o.ensures (number_some c.in_err-o.field-0.0))

pub returns-then-count-q : goal.returns-then-count-q
returns-then-count-q c =
    index_past c.args.part _ _ _ _ c.args.q c.in_ok-o.ensures.1 _ c.in_ok-o.ensures.0 (rw c.count.ensures at c.if-count-q.true)

pub overflow_add-k : goal.overflow_add-k
overflow_add-k c = omega (arith, low (goal.at.overflow_add-k c).Else-count-q, c.first.ensures)

pub overflow_add-result : goal.overflow_add-result
overflow_add-result c = omega (arith, low (goal.at.overflow_add-result c).Else-count-q, c.first.ensures)

pub overflow_add-result-2 : goal.overflow_add-result-2
overflow_add-result-2 c = omega (arith, low (goal.at.overflow_add-result-2 c).Else-count-q, c.first.ensures)

pub overflow_add-result-3 : goal.overflow_add-result-3
overflow_add-result-3 c = omega (arith, low_bit (goal.at.overflow_add-result-3 c).Else-count-q, c.first.ensures)

pub overflow_add-result-4 : goal.overflow_add-result-4
overflow_add-result-4 c = omega (arith, low_bit (goal.at.overflow_add-result-4 c).Else-count-q, c.first.ensures)

pub returns : goal.returns
returns c = (
  rw c.first.ensures (word_place _ _ c.args.p _ c.in_ok-o.ensures.0 c.args.part c.args.q),
  sym (index_in c.args.part _ _ _ _ c.args.q c.in_ok-o.ensures.1 _ c.in_ok-o.ensures.0 (within (goal.at.returns c).Else-count-q)),
)
