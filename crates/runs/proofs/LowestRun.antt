-- Laws of the lowest run: a run by its numbers, and what the definition answers is the start of the lowest one.
-- Assumes nothing.
use Prim.Native.Nat.{ℕ, zero, suc, ◌+◌, ◌-◌, ◌≤◌, ◌<◌}
use Rattle.std.specs.Prelude.{Bool, true, ◌≡◌, ◌≢◌, eqb, ltb}
use Rattle.std.proofs.Math.Bool.{false}
use Rattle.std.proofs.Common.{true≢false, sym, ◌∙◌}
use Rattle.std.proofs.Math.Path.{refl}
use native.Mathlib.Omega.{arith}
use borrow.Author.Tests.{eqb-true, eqb-false, ltb-true, ltb-false}
use Rattle.layout.specs.Choice.{cases}
use Rattle.layout.specs.Below.{all_each, each_all}
use Rattle.runs.specs.LowestRun.{is_run, lowest_from, lowest_run, Lowest}

-- a run that is free, by its numbers
pub run_free : (free : ℕ → Bool) (q n : ℕ) → is_run free q n ≡ true → (j : ℕ) → j < n → free (q + j) ≡ true
run_free free q n e = all_each (λ (j : ℕ). free (q + j)) n e

pub free_run : (free : ℕ → Bool) (q n : ℕ) → ((j : ℕ) → j < n → free (q + j) ≡ true) → is_run free q n ≡ true
free_run free q n f = each_all (λ (j : ℕ). free (q + j)) n f

-- one that holds a number that is not free
pub no_run : (free : ℕ → Bool) (q n j : ℕ) → j < n → free (q + j) ≡ false → is_run free q n ≡ false
no_run free q n j h e = cases (is_run free q n)
    (λ d. absurd (true≢false (sym (run_free free q n d j h) ∙ e)))
    (λ d. d)

module _ (free : ℕ → Bool) (n bound : ℕ) where
  -- no start below q has a run, and k starts are left from there on
  lowest_from_lem : (q k : ℕ) → 0 < n → q + k ≡ suc bound - n → ((p : ℕ) → p < q → p + n ≤ bound → is_run free p n ≡ false) → Lowest free n bound (lowest_from free n bound q k)
  unfolding lowest_from
  lowest_from_lem q zero some e low = record {
    bounded = omega arith;
    ends = λ ne. absurd (ne refl);
    run = λ ne. absurd (ne refl);
    lowest = λ p h l. low p (omega arith) l;
  }
  lowest_from_lem q (suc k) some e low = cases (is_run free q n)
      (λ d. rw d record { bounded = omega arith; ends = λ ne. omega arith; run = λ ne. run_free free q n d; lowest = low })
      (λ d. rw d (lowest_from_lem (suc q) k some (omega arith) (next d)))
    where
      next : is_run free q n ≡ false → (p : ℕ) → p < suc q → p + n ≤ bound → is_run free p n ≡ false
      next d p h l = cases (eqb p q)
          (λ x. rw (eqb-true p q x) d)
          (λ x. let ne : p ≢ q = eqb-false p q x in low p (omega arith) l)

  pub lowest_run_lem : 0 < n → Lowest free n bound (lowest_run free n bound)
  unfolding lowest_run
  lowest_run_lem some = lowest_from_lem 0 (suc bound - n) some (omega arith) (λ p h. absurd (omega arith))

  -- only one number is it
  not_below : (r q : ℕ) → 0 < n → Lowest free n bound r → Lowest free n bound q → q < r → ⊥
  not_below r q some x y h =
      let ne : q ≢ bound = λ e. omega (arith, x.bounded) in
      true≢false (sym (free_run free q n (y.run ne)) ∙ x.lowest q h (y.ends ne))

  pub lowest_one : {r : ℕ} → 0 < n → Lowest free n bound r → r ≡ lowest_run free n bound
  lowest_one {r} some x =
      let y : Lowest free n bound (lowest_run free n bound) = lowest_run_lem some in
      cases (ltb r (lowest_run free n bound))
      (λ e. absurd (not_below (lowest_run free n bound) r some y x (ltb-true r (lowest_run free n bound) e)))
      (λ e. cases (ltb (lowest_run free n bound) r)
      (λ d. absurd (not_below r (lowest_run free n bound) some x y (ltb-true (lowest_run free n bound) r d)))
      (λ d. omega (arith, ltb-false r (lowest_run free n bound) e, ltb-false (lowest_run free n bound) r d)))

  -- more numbers than there are have no run
  pub too_long : bound < n → lowest_run free n bound ≡ bound
  unfolding lowest_run lowest_from
  too_long h = let e : suc bound - n ≡ 0 = omega arith in rw e refl
