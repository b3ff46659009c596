use mathlib.Core.Bool.{Bool}
use mathlib.Core.Path.{◌≡◌}
use Prim.Native.Nat.{◌+◌, ◌-◌, ◌*◌, ◌≤◌, ◌<◌}
use Rattle.layout.specs.Choice.{pick}
use Rattle.bitmap.specs.Bitmap.{on_bits}
use Rattle.flips.specs.Flipped.{AllBits, to_digit}
use Rattle.flips.proofs.flip_bits.Given as goal

abbrev pub invariant-loop-left : goal.invariant-loop-left
invariant-loop-left l =
    ((on : Bool) → AllBits l.initial.map l.w l.n (pick on 0 1)
    → (l.map ≡ on_bits (to_digit on) l.initial.map l.w (64 * l.word + l.digit - l.w)) × AllBits l.map (64 * l.word + l.digit) l.left (pick on 0 1))
    × (l.w ≤ 64 * l.word + l.digit) × (0 < l.left) × (l.digit < 64) × (64 * l.word + l.digit + l.left ≡ l.w + l.n)

abbrev pub decreases-loop-left : goal.decreases-loop-left
decreases-loop-left l = l.left
