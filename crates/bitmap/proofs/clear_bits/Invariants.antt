use mathlib.Core.Path.{◌≡◌}
use Prim.Native.Nat.{◌+◌, ◌-◌, ◌/◌, ◌≤◌}
use Rattle.bitmap.specs.Bitmap.{cleared}
use Rattle.bitmap.proofs.clear_bits.Given as goal

abbrev pub invariant-loop-map : goal.invariant-loop-map
invariant-loop-map l =
    (l.map ≡ cleared l.initial.map l.w (l.first - l.w)) × (l.w ≤ l.first) × (l.first ≤ l.last) × (l.w / 64 + l.iterations ≡ l.first / 64)

abbrev pub decreases-loop-map : goal.decreases-loop-map
decreases-loop-map l = l.last - l.first
