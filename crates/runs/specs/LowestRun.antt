-- The lowest run of numbers that pass a test.
-- Assumes nothing.
use Prim.Native.Nat.{ℕ, zero, suc, ◌+◌, ◌-◌, ◌≤◌, ◌<◌}
use Rattle.std.specs.Prelude.{Bool, true, List, ◌≡◌, ◌≢◌, eqb}
use Rattle.std.proofs.Math.Bool.{false}
use Rattle.layout.specs.Choice.{pick}
use Rattle.layout.specs.Below.{all_below}
use Rattle.bitmap.specs.Bitmap.{bit_at}

-- ---- definitions

-- the n numbers from q on are free
abbrev pub is_run : (ℕ → Bool) → ℕ → ℕ → Bool
is_run free q n = all_below (λ j. free (q + j)) n

-- the first of the k starts from q on whose n numbers are free, `bound` where none is
unfoldable pub lowest_from : (ℕ → Bool) → ℕ → ℕ → ℕ → ℕ → ℕ
lowest_from free n bound q zero = bound
lowest_from free n bound q (suc k) = pick (is_run free q n) q (lowest_from free n bound (suc q) k)

-- "the lowest run of adjacent clear bits that holds it": where the lowest run of n free numbers below `bound` starts, `bound` where there is none. The
-- starts are tried in their order, from 0 to bound - n.
unfoldable pub lowest_run : (ℕ → Bool) → ℕ → ℕ → ℕ
lowest_run free n bound = lowest_from free n bound 0 (suc bound - n)

-- bit k of a map is clear
abbrev pub is_clear : List ℕ → ℕ → Bool
is_clear m k = eqb (bit_at m k) 0

-- ---- the law that fixes it

-- r is the start of a run of n free numbers that ends within `bound`, or `bound` itself; and no lower start has one
pub record Lowest (free : ℕ → Bool) (n bound r : ℕ) : Type 0 where
  pub bounded : r ≤ bound
  pub ends : r ≢ bound → r + n ≤ bound
  pub run : r ≢ bound → (j : ℕ) → j < n → free (r + j) ≡ true
  pub lowest : (q : ℕ) → q < r → q + n ≤ bound → is_run free q n ≡ false
