-- Laws of digits.
-- Assumes nothing.
use Rattle.std.specs.Prelude.{◌≡◌, true, ◌&&◌, ◌⊎◌, ℕ, ◌-◌, ◌≤◌, ◌<◌, leb}
use Rattle.std.proofs.Common.{inl, inr, ⊎_elim, arith, le-leb, leb-true}
use Rattle.std.proofs.lemmas.Bool.{lt-leb}
use Rattle.layout.specs.Choice.{and_true, or_true}
use Rattle.hexadecimal.specs.Digit.{is_digit, digit_value}

both : (x y a b : ℕ) → leb x y && leb a b ≡ true → (x ≤ y) × (a ≤ b)
both x y a b e = let s = and_true (leb x y) (leb a b) e in (leb-true x y s.0, leb-true a b s.1)

-- a digit is 0 to 9 or a to f
pub digit_is : (b : ℕ) → is_digit b ≡ true → ((48 ≤ b) × (b ≤ 57)) ⊎ ((97 ≤ b) × (b ≤ 102))
unfolding is_digit
digit_is b e =
    ⊎_elim (λ h. inl (both 48 b b 57 h)) (λ h. inr (both 97 b b 102 h))
    (or_true (leb 48 b && leb b 57) (leb 97 b && leb b 102) e)

pub low_value : (b : ℕ) → b ≤ 57 → b - 48 ≡ digit_value b
unfolding digit_value
low_value b h = simp (le-leb b 57 h)

pub high_value : (b : ℕ) → 57 < b → b - 87 ≡ digit_value b
unfolding digit_value
high_value b h = simp (lt-leb b 57 h)

pub value_small : (b : ℕ) → is_digit b ≡ true → digit_value b < 16
value_small b e =
    ⊎_elim (λ h. omega (arith, low_value b h.1, h.0)) (λ h. omega (arith, high_value b (omega (arith, h.0)), h.0, h.1)) (digit_is b e)
