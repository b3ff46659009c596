-- A chain of refusals, as a function of the rest of the chain.
-- Assumes nothing.
use Rattle.std.specs.Prelude.{ℕ, suc, Bool, true, false, ◌≡◌, refl, ◌≢◌, eqb}
use Rattle.std.proofs.Common.{sym, ◌∙◌, arith, eqb-true}
use Rattle.std.proofs.lemmas.Bool.{eqb-false}
use Rattle.layout.specs.Choice.{refuse, cases}

-- where no refusal of the chain meets, the rest counts; where one meets, the rest does not
pub record Chain (f : ℕ → ℕ) : Type 0 where
  pub passes : f 0 ≡ 0 → (rest : ℕ) → f rest ≡ rest
  pub stops : f 0 ≢ 0 → (rest : ℕ) → f rest ≡ f 0

pub chain_none : Chain (λ (n : ℕ). n)
chain_none = record { passes = λ e n. refl; stops = λ h n. absurd (h refl) }

-- one refusal more
pub chain_more : (f : ℕ → ℕ) (b : Bool) (k : ℕ) → Chain f → Chain (λ (n : ℕ). f (refuse b (suc k) n))
unfolding refuse
chain_more f true k c = record {
  passes = λ e n. absurd (cases (eqb (f 0) 0)
      (λ z. let d : f (suc k) ≡ suc k = c.passes (eqb-true (f 0) 0 z) (suc k) in omega arith)
      (λ z. eqb-false (f 0) 0 z (sym (c.stops (eqb-false (f 0) 0 z) (suc k)) ∙ e)));
  stops = λ h n. refl;
}
chain_more f false k c = record { passes = c.passes; stops = c.stops }

-- a chain that gives 0 with a rest gives 0 without it
pub chain_passed : {f : ℕ → ℕ} → Chain f → (rest : ℕ) → f rest ≡ 0 → f 0 ≡ 0
chain_passed {f} c rest e =
    cases (eqb (f 0) 0)
    (λ z. eqb-true (f 0) 0 z)
    (λ z. sym (c.stops (eqb-false (f 0) 0 z) rest) ∙ e)
