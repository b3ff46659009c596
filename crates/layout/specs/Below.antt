-- A test of the numbers below n: whether it holds of all, or of some.
-- Assumes nothing.
use Rattle.std.specs.Prelude.{ℕ, zero, suc, ◌+◌, ◌<◌, Bool, true, false, ◌&&◌, ◌||◌, ◌≡◌, refl, eqb}
use Rattle.std.proofs.Common.{add-one, arith, eqb-true}
use Rattle.std.proofs.lemmas.Bool.{eqb-false}
use Rattle.layout.specs.Choice.{cases, and_true}

-- f holds of 0 to n - 1
unfoldable pub all_below : (ℕ → Bool) → ℕ → Bool
all_below f zero = true
all_below f (suc n) = all_below f n && f n

-- f holds of one of 0 to n - 1
unfoldable pub some_below : (ℕ → Bool) → ℕ → Bool
some_below f zero = false
some_below f (suc n) = some_below f n || f n

-- one number further
pub all_more : (f : ℕ → Bool) (n : ℕ) → all_below f (n + 1) ≡ all_below f n && f n
unfolding all_below
all_more f n = rw add-one refl

pub some_more : (f : ℕ → Bool) (n : ℕ) → some_below f (n + 1) ≡ some_below f n || f n
unfolding some_below
some_more f n = rw add-one refl

pub all_each : (f : ℕ → Bool) (n : ℕ) → all_below f n ≡ true → (i : ℕ) → i < n → f i ≡ true
unfolding all_below
all_each f zero e i h = absurd (omega arith)
all_each f (suc n) e i h =
    let p = and_true (all_below f n) (f n) e in
    cases (eqb i n)
    (λ q. rw (eqb-true i n q) p.1)
    (λ q. let ne : i ≡ n → ⊥ = eqb-false i n q in all_each f n p.0 i (omega arith))

pub each_all : (f : ℕ → Bool) (n : ℕ) → ((i : ℕ) → i < n → f i ≡ true) → all_below f n ≡ true
unfolding all_below
each_all f zero h = refl
each_all f (suc n) h = rw (each_all f n (λ i l. h i (omega arith)), h n (omega arith)) refl
