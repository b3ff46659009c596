-- Laws of runs of digits, and of the number of a field.
-- Assumes nothing.
use Rattle.std.specs.Prelude.{◌≡◌, refl, Bool, true, false, ◌&&◌, List, [], ◌∷◌, ℕ, zero, suc, ◌+◌, ◌*◌, ◌^◌, ◌≤◌, ◌<◌, length, take, drop, get_or, fold}
use Rattle.std.proofs.Common.{add-one, pow-suc, arith, length-take}
use Rattle.std.proofs.lemmas.List.Sums.{fold_more}
use Rattle.std.proofs.Math.Nat.{pow-le-pow_right}
use Rattle.layout.specs.Choice.{and_true}
use Rattle.hexadecimal.specs.Digit.{is_digit, digit_value}
use Rattle.hexadecimal.specs.DigitLaws.{value_small}
use Rattle.lines.specs.Hexadecimal.{all_digits, number_from, ShortDigits}

-- ---- all digits

-- every byte is looked at
pub digits_from : (a : Bool) (l : List ℕ) → fold (λ (all : Bool) (b : ℕ). all && is_digit b) a l ≡ a && all_digits l
digits_from true [] = refl
digits_from false [] = refl
digits_from true (b ∷ l) = digits_from (is_digit b) l
digits_from false (b ∷ l) = digits_from false l

-- a part of digits is digits
digits_take : (n : ℕ) (l : List ℕ) → all_digits l ≡ true → all_digits (take n l) ≡ true
digits_take zero l e = refl
digits_take (suc n) [] e = refl
digits_take (suc n) (b ∷ l) e = let s = and_true (is_digit b) (all_digits l) e in rw (s.0, digits_take n l s.1) refl

digits_drop : (n : ℕ) (l : List ℕ) → all_digits l ≡ true → all_digits (drop n l) ≡ true
digits_drop zero l e = e
digits_drop (suc n) [] e = refl
digits_drop (suc n) (b ∷ l) e = digits_drop n l (and_true (is_digit b) (all_digits l) e).1

pub digits_part : (at n : ℕ) (l : List ℕ) → n ≤ 16 → all_digits l ≡ true → ShortDigits (take n (drop at l))
digits_part at n l h e = record { short = omega (arith, length-take n (drop at l)); digits = digits_take n (drop at l) (digits_drop at l e) }

pub digit_at : (l : List ℕ) (i : ℕ) → all_digits l ≡ true → i < length l → is_digit (get_or l i 0) ≡ true
digit_at [] i e h = absurd (omega arith)
digit_at (b ∷ l) zero e h = (and_true (is_digit b) (all_digits l) e).0
digit_at (b ∷ l) (suc i) e h = digit_at l i (and_true (is_digit b) (all_digits l) e).1 (omega arith)

-- ---- the number of a field

-- one digit more
pub number_more : (l : List ℕ) (i : ℕ) → i < length l → number_from 0 (take (suc i) l) ≡ number_from 0 (take i l) * 16 + digit_value (get_or l i 0)
number_more l i h = rw add-one at (fold_more (λ (v b : ℕ). v * 16 + digit_value b) 0 l i 0 h)

module _ {l : List ℕ} (d : ShortDigits l) where
  -- below 16^i
  number_below : (i : ℕ) → i ≤ length l → number_from 0 (take i l) < 16 ^ i
  number_below zero h = omega arith
  number_below (suc i) h =
      let ih = number_below i (omega arith) in
      omega (arith, number_more l i (omega arith), value_small (get_or l i 0) (digit_at l i d.digits (omega arith)), pow-suc 16 i)

  -- a digit more still fits a word
  pub number_fits : (i : ℕ) → i < length l → number_from 0 (take i l) * 16 + digit_value (get_or l i 0) < 2 ^ 64
  number_fits i h =
      let m : 16 ^ suc i ≤ 16 ^ 16 = pow-le-pow_right {n = 16} (omega arith) {i = suc i} {j = 16} (omega (arith, d.short)) in
      omega (arith, number_more l i h, number_below (suc i) (omega arith))
