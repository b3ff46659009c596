-- The answer of a check, whichever enum it is: what the check passes on, or the number of the refusal.
-- Assumes nothing.
use Prim.Native.Nat.{ℕ, zero, suc}
use Rattle.std.specs.Prelude.{◌≡◌, refl, ◌≢◌}
use Rattle.std.proofs.Math.Path.{sym, ap}
use Rattle.std.proofs.Common.{◌∙◌, arith}

-- the case of each number, for a call that passes on x
unfoldable pub verdict_of : {A C : Type 0} → (A → C) → (ℕ → C) → A → ℕ → C
verdict_of pass stop x zero = pass x
verdict_of pass stop x (suc n) = stop (suc n)

-- what is to be known of the two cases, and of the number of each
pub record Cases {A C : Type 0} (pass : A → C) (stop : ℕ → C) (number : C → ℕ) : Type 0 where
  pub same : {x y : A} → pass x ≡ pass y → x ≡ y
  pub apart : {x : A} {n : ℕ} → pass x ≡ stop n → ⊥
  pub number_pass : (x : A) → number (pass x) ≡ 0
  pub number_stop : (n : ℕ) → number (stop n) ≡ n

module _ {A C : Type 0} {pass : A → C} {stop : ℕ → C} {number : C → ℕ} (d : Cases pass stop number) (x : A) where
  pub verdict_number : (k : ℕ) → number (verdict_of pass stop x k) ≡ k
  unfolding verdict_of
  verdict_number zero = d.number_pass x
  verdict_number (suc k) = d.number_stop (suc k)

  -- what a check answers
  pub passed_verdict : {k : ℕ} {y : A} → y ≡ x → 0 ≡ k → pass y ≡ verdict_of pass stop x k
  unfolding verdict_of
  passed_verdict e z = ap pass e ∙ ap (verdict_of pass stop x) z

  pub stopped_verdict : (n : ℕ) {k : ℕ} → n ≢ 0 → n ≡ k → stop n ≡ verdict_of pass stop x k
  unfolding verdict_of
  stopped_verdict zero h e = absurd (h refl)
  stopped_verdict (suc n) h e = ap (verdict_of pass stop x) e

  -- what its answer says
  pub verdict_passed : (k : ℕ) {y : A} → pass y ≡ verdict_of pass stop x k → (k ≡ 0) × (y ≡ x)
  unfolding verdict_of
  verdict_passed zero e = (refl, d.same e)
  verdict_passed (suc k) e = absurd (d.apart e)

  pub verdict_stopped : (k : ℕ) {n : ℕ} → stop n ≡ verdict_of pass stop x k → (n ≡ k) × (n ≢ 0)
  unfolding verdict_of
  verdict_stopped zero e = absurd (d.apart (sym e))
  verdict_stopped (suc k) {n} e =
      let h : n ≡ suc k = sym (d.number_stop n) ∙ ap number e ∙ d.number_stop (suc k) in
      (h, λ z. omega arith)
