-- Laws of a field by its place in a line: byte by byte, and digit by digit.
-- Assumes nothing.
use Rattle.std.specs.Prelude.{◌≡◌, refl, Bool, true, false, ◌&&◌, List, [], ◌∷◌, ℕ, zero, suc, ◌+◌, ◌*◌, ◌^◌, ◌≤◌, ◌<◌, ◌++◌, length, drop, get_or}
use Rattle.std.proofs.Common.{sym, ◌∙◌, pow-suc, add-one, arith, length-drop, drop-cons, get_or-drop}
use Rattle.std.proofs.Math.Nat.{pow-le-pow_right}
use Rattle.hexadecimal.specs.Digit.{is_digit, digit_value}
use Rattle.hexadecimal.specs.DigitLaws.{value_small}
use Rattle.std.proofs.lemmas.List.Sums.{fold-append}
use Rattle.lines.specs.Hexadecimal.{all_digits, number_from, field_of, Digits}
use Rattle.lines.specs.HexadecimalLaws.{digit_at, number_more}

-- ---- all digits

none_left : (l : List ℕ) (n : ℕ) → length l ≤ n → true ≡ all_digits (drop n l)
none_left [] zero h = refl
none_left [] (suc n) h = refl
none_left (b ∷ l) zero h = absurd (omega arith)
none_left (b ∷ l) (suc n) h = none_left l n (omega arith)

one_more : (l : List ℕ) (i : ℕ) → i < length l → all_digits (drop i l) ≡ is_digit (get_or l i 0) && all_digits (drop (suc i) l)
one_more l i h = rw (drop-cons l i 0 h) refl

-- a says whether the bytes before place i are digits
module _ (l : List ℕ) (i : ℕ) where
  -- one byte more
  pub one_further : (a : Bool) {d : Bool} → i < length l → d ≡ is_digit (get_or l i 0) → a && all_digits (drop i l) ≡ all_digits l
      → (a && d) && all_digits (drop (i + 1) l) ≡ all_digits l
  one_further true h e v = rw (add-one, e) (sym (one_more l i h) ∙ v)
  one_further false h e v = v

  -- none is left
  pub all_read : (a : Bool) → length l ≤ i → a && all_digits (drop i l) ≡ all_digits l → a ≡ all_digits l
  all_read true h v = none_left l i h ∙ v
  all_read false h v = v

-- ---- the number of a field

-- behind other digits
number_append : (v : ℕ) (l : List ℕ) (b : ℕ) → number_from v (l ++ (b ∷ [])) ≡ number_from v l * 16 + digit_value b
number_append v l b = fold-append (λ (v b : ℕ). v * 16 + digit_value b) v l (b ∷ [])

pub field_none : (l : List ℕ) (at : ℕ) → 0 ≡ field_of l at 0
field_none l at = refl

-- one digit more
pub field_more : (l : List ℕ) (at i : ℕ) → at + i < length l → field_of l at (suc i) ≡ field_of l at i * 16 + digit_value (get_or l (at + i) 0)
field_more l at i h = rw (← get_or-drop at l i 0) (number_more (drop at l) i (omega (arith, length-drop at l)))

module _ {l : List ℕ} {at n : ℕ} (d : Digits l at n) where
  pub field_digit : (i : ℕ) → i < n → is_digit (get_or l (at + i) 0) ≡ true
  field_digit i h = digit_at l (at + i) d.digits (omega arith)

  -- below 16^i
  field_below : (i : ℕ) → i ≤ n → field_of l at i < 16 ^ i
  field_below zero h = omega (arith, field_none l at)
  field_below (suc i) h =
      let ih = field_below i (omega arith) in
      omega (arith, field_more l at i (omega arith), value_small (get_or l (at + i) 0) (field_digit i (omega arith)), pow-suc 16 i)

  -- a digit more still fits a word
  pub field_fits : (i : ℕ) → i < n → field_of l at i * 16 + digit_value (get_or l (at + i) 0) < 2 ^ 64
  field_fits i h =
      let m : 16 ^ suc i ≤ 16 ^ 16 = pow-le-pow_right {n = 16} (omega arith) {i = suc i} {j = 16} (omega arith) in
      omega (arith, field_more l at i (omega arith), field_below (suc i) (omega arith))
