-- Two runs of one word in a list that overlap or meet are one run; a word before a run may be written first.
-- Assumes nothing.
use Prim.Native.Nat.{ℕ, zero, suc, ◌+◌, ◌-◌, ◌≤◌, ◌<◌}
use mathlib.Core.List.{List}
use Rattle.std.specs.Prelude.{◌≡◌, eqb, leb}
use Rattle.std.proofs.Math.Path.{refl, ap}
use Rattle.std.proofs.Common.{◌∙◌, set-set}
use native.Mathlib.Omega.{arith}
use Rattle.std.proofs.Math.ListN.{set}
use Rattle.std.proofs.Math.Seq.{set_comm}
use borrow.Author.Tests.{eqb-true, eqb-false, leb-true, leb-false}
use Rattle.layout.specs.Choice.{cases}
use Rattle.model.specs.Objects.{filled}

-- l has v in the k places from p on, and v is written once more:
module _ (l : List ℕ) (p v : ℕ) where
  -- in one of these places; nothing changes
  set_within : (k i : ℕ) → i < k → set (filled l p k v) (p + i) v ≡ filled l p k v
  unfolding filled
  set_within zero i h = absurd (omega arith)
  set_within (suc k) i h = cases (eqb i k)
      (λ e. rw (eqb-true i k e) (set-set (filled l p k v) (p + k) v v))
      (λ e. set_comm (filled l p k v) (p + k) (p + i) v v (λ z. eqb-false i k e (omega arith))
      ∙ ap (λ (x : List ℕ). set x (p + k) v) (set_within k i (omega (arith, eqb-false i k e))))

  -- in m of them, d places further on; nothing changes
  filled_within : (k d m : ℕ) → d + m ≤ k → filled (filled l p k v) (p + d) m v ≡ filled l p k v
  unfolding filled
  filled_within k d zero h = refl
  filled_within k d (suc m) h =
      let e : p + d + m ≡ p + (d + m) = omega arith in
      ap (λ (x : List ℕ). set x (p + d + m) v) (filled_within k d m (omega arith)) ∙ rw e (set_within k (d + m) (omega arith))

  -- in m places, d further on, which start there or where it ends, and end no earlier; the two runs are one
  pub filled_joined : (k d m : ℕ) → d ≤ k → k ≤ d + m → filled (filled l p k v) (p + d) m v ≡ filled l p (d + m) v
  unfolding filled
  filled_joined k d zero h g =
      let e : k ≡ d + 0 = omega arith in
      ap (λ (n : ℕ). filled l p n v) e
  filled_joined k d (suc m) h g =
      let e : p + d + m ≡ p + (d + m) = omega arith in
      let f : d + suc m ≡ suc (d + m) = omega arith in
      cases (leb k (d + m))
      (λ b. ap (λ (x : List ℕ). set x (p + d + m) v) (filled_joined k d m h (leb-true k (d + m) b)) ∙ rw (e, f) refl)
      (λ b.
      let z : k ≡ d + suc m = omega (arith, leb-false k (d + m) b) in
      filled_within k d (suc m) (omega arith) ∙ ap (λ (n : ℕ). filled l p n v) z)

  -- the same of n places: the first k, then the last k
  pub filled_both_ends : (n k : ℕ) → k ≤ n → n ≤ k + k → filled (filled l p k v) (p + n - k) k v ≡ filled l p n v
  filled_both_ends n k h g =
      let e : p + n - k ≡ p + (n - k) = omega arith in
      let f : n - k + k ≡ n = omega arith in
      rw e (filled_joined k (n - k) k (omega arith) (omega arith)) ∙ ap (λ (i : ℕ). filled l p i v) f

-- the word at p, and a run behind it
pub filled_behind : (l : List ℕ) (p n x v : ℕ) → filled (set l p x) (p + 1) n v ≡ set (filled l (p + 1) n v) p x
unfolding filled
filled_behind l p zero x v = refl
filled_behind l p (suc n) x v =
    ap (λ (y : List ℕ). set y (p + 1 + n) v) (filled_behind l p n x v) ∙ set_comm (filled l (p + 1) n v) p (p + 1 + n) x v (λ z. omega arith)
