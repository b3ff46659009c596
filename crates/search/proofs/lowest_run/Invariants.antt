use mathlib.Core.Path.{◌≡◌}
use Prim.Native.Nat.{suc, ◌+◌, ◌-◌, ◌≤◌, ◌<◌}
use Rattle.search.specs.Search.{Sought, Looking}
use Rattle.search.proofs.lowest_run.Given as goal

abbrev pub invariant-search : goal.invariant-search
invariant-search l = (l.n ≤ suc l.last) × Sought l.map l.n l.bits (l.last - (l.n - 1)) l.looks × (l.last < l.bits)

abbrev pub decreases-search : goal.decreases-search
decreases-search l = l.bits + l.n - l.last

abbrev pub invariant-loop-looks : goal.invariant-loop-looks
invariant-loop-looks l = (l.n ≤ suc l.last) × Sought l.map l.n l.bits (l.last - (l.n - 1)) l.looks × (l.initial.last ≤ l.last) × (l.last < l.bits)

abbrev pub decreases-loop-looks : goal.decreases-loop-looks
decreases-loop-looks l = l.bits + l.n - l.last

abbrev pub invariant-loop-clear : goal.invariant-loop-clear
invariant-loop-clear l =
    Looking l.map l.n l.bits l.start l.looks (suc (l.end - 1 - l.start)) × (l.start < l.end) × (l.start + l.n ≡ suc l.initial.last) × (l.end ≤ l.start + l.n)

abbrev pub decreases-loop-clear : goal.decreases-loop-clear
decreases-loop-clear l = l.end
