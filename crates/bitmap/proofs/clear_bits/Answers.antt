-- `clear_bits` meets its contract. The invariant: the bits before `first` are cleared, it is not past the last one, and `iterations` map
-- words came before that of `first`.
use mathlib.Core.Path.{◌≡◌, refl, ap, ◌∙◌}
use Prim.Native.Nat.{◌-◌, ◌/◌}
use native.Mathlib.Omega.{arith}
use lib.ListN.{set}
use Rattle.bitmap.specs.Bitmap.{without_digit, on_bits, words_holding}
use Rattle.bitmap.specs.Digits.{without_digits}
use Rattle.bitmap.specs.Runs.{run_one, run_rest, run_last, clearing}
use Rattle.bitmap.specs.MapWords.{counted}
use Rattle.bitmap.proofs.clear_bits.Goals as goal

pub returns-then-n-eq0 : goal.returns-then-n-eq0
unfolding on_bits words_holding
returns-then-n-eq0 c = rw c.if-n-eq0.true (refl, refl)

-- they lie in one map word
pub returns-then-w-last : goal.returns-then-w-last
returns-then-w-last c =
    let a = c.args in (
      ap (set a.map.now (a.w / 64)) c.without_digits.ensures ∙ run_one without_digit without_digits clearing a.map.now a.w a.n (omega arith) (omega arith) c.if-w-last.true,
      counted a.w a.n a.w 0 (omega arith) (omega arith) c.if-w-last.true,
    )

pub loop-map-init : goal.loop-map-init
unfolding on_bits
loop-map-init c =
    let a = c.args in
    let none : a.w - a.w ≡ 0 = omega arith in
    (rw none refl, omega arith, omega arith, omega arith)

pub returns-then-word-last : goal.returns-then-word-last
returns-then-word-last c =
    let l = c.loop-map in
    let a = c.args in (
      ap (set l.map (l.first / 64)) c.without_digits-then-word-last.ensures
          ∙ run_last without_digit without_digits clearing a.map.now l.map a.w l.first l.invariant.0 l.invariant.1 (omega arith) a.n l.invariant.2 c.if-word-last.true (omega arith),
      counted a.w a.n l.first l.iterations (omega arith) l.invariant.3 c.if-word-last.true,
    )

pub loop-map-preserved : goal.loop-map-preserved
loop-map-preserved c =
    let l = c.loop-map in
    let a = c.args in (
      ap (set l.map (l.first / 64)) c.without_digits-in-loop-map.ensures
          ∙ run_rest without_digit without_digits clearing a.map.now l.map a.w l.first l.invariant.0 l.invariant.1 (omega arith),
      omega arith,
      omega arith,
      omega arith,
    )
