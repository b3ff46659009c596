-- `flip_bits` meets its contract. The invariant: where the run was all clear, or all set, the bits before digit `digit` of map word `word` are changed, and
-- the `left` bits from there on are as they were.
use mathlib.Core.Path.{◌≡◌, refl, ap, ◌∙◌}
use Prim.Native.Nat.{◌+◌, ◌-◌, ◌*◌, ◌/◌, ◌%◌}
use native.Mathlib.Omega.{arith}
use lib.ListN.{set}
use Rattle.bitmap.specs.Bitmap.{on_bits}
use Rattle.flips.specs.Flipped.{run_digits, run_behind, run_changed, run_flipped}
use Rattle.flips.proofs.flip_bits.Goals as goal

pub loop-left-init : goal.loop-left-init
unfolding on_bits
loop-left-init c =
    let a = c.args in
    let at : 64 * (a.w / 64) + a.w % 64 ≡ a.w = omega arith in
    let none : a.w - a.w ≡ 0 = omega arith in
    (λ on b. (rw (at, none) refl, rw at b), omega arith, omega arith, omega arith, omega arith)

pub returns-then-left-room : goal.returns-then-left-room
returns-then-left-room c on b =
    let l = c.loop-left in
    let a = c.args in
    let i = l.invariant.0 on b in
    let all : 64 * l.word + l.digit + l.left - a.w ≡ a.n = omega arith in
    ap (set l.map l.word) (c.flip_digits.ensures on (run_digits l.map l.word l.digit l.left _ (omega arith) i.1))
    ∙ rw all at (run_changed on a.map.now l.map a.w l.word l.digit l.left l.invariant.3 i.0 l.invariant.1 (omega arith) (omega arith))
    ∙ run_flipped on a.map.now a.w a.n

pub loop-left-preserved : goal.loop-left-preserved
loop-left-preserved c =
    let l = c.loop-left in
    let a = c.args in
    let next : 64 * l.word + l.digit + (64 - l.digit) - a.w ≡ 64 * (l.word + 1) + 0 - a.w = omega arith in (
      λ on b.
          let i = l.invariant.0 on b in (
            ap (set l.map l.word) (c.flip_digits-in-loop-left.ensures on (run_digits l.map l.word l.digit (64 - l.digit) _ (omega arith) (λ j h. i.1 j (omega arith))))
                ∙ rw next at (run_changed on a.map.now l.map a.w l.word l.digit (64 - l.digit) l.invariant.3 i.0 l.invariant.1 (omega arith) (omega arith)),
            run_behind l.map l.word l.digit l.left _ _ l.invariant.3 i.1,
          ),
      omega arith,
      omega arith,
      omega arith,
      omega arith,
    )
