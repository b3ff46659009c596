-- Binary digits and bits of a map that are flipped, a run of them at a time: where all are clear they are set, where all are set they are cleared.
-- Assumes nothing.
use Rattle.std.specs.Prelude.{Bool, true, false, List, ◌≡◌, refl, ℕ, zero, suc, ◌+◌, ◌-◌, ◌*◌, ◌/◌, ◌%◌, ◌^◌, ◌≤◌, ◌<◌, length, get_or, set}
use Rattle.std.proofs.Common.{sym, ◌∙◌, mod-lt, add-zero, add_comm, add-one, one-add, arith, get_or-set_other, pow_pos, pow_mono, shr-shr, shl_exact}
use Rattle.std.proofs.Math.Nat.{mod-one, add-suc}
use Rattle.std.specs.Int.Bits.{bit_and, bit_xor, xor_add_and}
use Rattle.std.proofs.lemmas.Nat.Bits.{and_high}
use Rattle.std.proofs.Math.Pow.{high, ones_lt, high_ones}
use Rattle.std.proofs.lemmas.Nat.{mod-pow-add}
use Rattle.layout.specs.Choice.{pick}
use Rattle.bitmap.specs.Bitmap.{digit, with_digit, without_digit, bit_at, on_bits, marked, cleared}
use Rattle.bitmap.specs.Digits.{twice, one_of, without_digits, above_below, halved, without_none, ones_shr}
use Rattle.bitmap.specs.Runs.{OneByOne, run_on, clearing}

-- ---- definitions

-- x without its n digits from digit k on, and then all of them
unfoldable pub with_digits : ℕ → ℕ → ℕ → ℕ
with_digits x k n = without_digits x k n + (2 ^ (k + n) - 2 ^ k)

-- the n binary digits of x from digit k on are all v; the n bits of a map from bit w on
abbrev pub AllDigits : ℕ → ℕ → ℕ → ℕ → Type 0
AllDigits x k n v = (i : ℕ) → i < n → digit x (k + i) ≡ v

abbrev pub AllBits : List ℕ → ℕ → ℕ → ℕ → Type 0
AllBits m w n v = (j : ℕ) → j < n → bit_at m (w + j) ≡ v

-- x with digit k set, or clear; with its n digits from digit k on
abbrev pub to_digit : Bool → ℕ → ℕ → ℕ
to_digit on x k = pick on (with_digit x k) (without_digit x k)

abbrev pub to_digits : Bool → ℕ → ℕ → ℕ → ℕ
to_digits on x k n = pick on (with_digits x k n) (without_digits x k n)

-- digits that were all clear are set, digits that were all set are clear
abbrev pub FlippedDigits : ℕ → ℕ → ℕ → ℕ → Type 0
FlippedDigits x y k n = (on : Bool) → AllDigits x k n (pick on 0 1) → y ≡ to_digits on x k n

-- so with the bits of a map: m has become l
abbrev pub Flipped : List ℕ → List ℕ → ℕ → ℕ → Type 0
Flipped m l w n = (on : Bool) → AllBits m w n (pick on 0 1) → l ≡ pick on (marked m w n) (cleared m w n)

-- ---- digits

-- one digit is set after another
with_none : (x k : ℕ) → with_digits x k 0 ≡ x
unfolding with_digits
with_none x k = rw (without_none x k, add-zero k) (omega arith)

-- the digits below stand below digit k + n, whatever is set
module _ (x k n : ℕ) where
  order : 2 ^ k ≤ 2 ^ (k + n)
  order = let le : k ≤ k + n = omega arith in pow_mono le

  filled : with_digits x k n ≡ x / 2 ^ (k + n) * 2 ^ (k + n) + (x % 2 ^ k + (2 ^ (k + n) - 2 ^ k))
  unfolding with_digits
  filled = rw (above_below x k n) (omega arith)

  above : with_digits x k n / 2 ^ (k + n) ≡ x / 2 ^ (k + n)
  above =
      let below : x % 2 ^ k + (2 ^ (k + n) - 2 ^ k) < 2 ^ (k + n) = omega (arith, mod-lt x (pow_pos k), order) in
      rw filled (high (x / 2 ^ (k + n)) (k + n) below)

  filled_next : x / 2 ^ (k + n) / 2 ≡ x / 2 ^ suc (k + n) → with_digits x k (suc n) ≡ x / 2 ^ (k + n) / 2 * (2 * 2 ^ (k + n)) + (x % 2 ^ k + (2 * 2 ^ (k + n) - 2 ^ k))
  unfolding with_digits
  filled_next half = rw (above_below x k (suc n), add-suc k n, half, twice (k + n)) (omega arith)

  with_next : with_digit (with_digits x k n) (k + n) ≡ with_digits x k (suc n)
  with_next =
      let half = rw add-one at (shr-shr x (k + n) 1) in
      rw (above, filled_next half)
      (omega (arith, filled, halved (x / 2 ^ (k + n)) (2 ^ (k + n)), one_of (x / 2 ^ (k + n) % 2) (2 ^ (k + n)) (omega arith), order))

pub flipping : (on : Bool) → OneByOne (to_digit on) (to_digits on)
flipping true = record { none = with_none; next = with_next }
flipping false = clearing

-- the digits of x from digit k on, one more
next_digit : (x k n : ℕ) → x / 2 ^ k % 2 ^ suc n ≡ digit x (k + n) * 2 ^ n + x / 2 ^ k % 2 ^ n
next_digit x k n = rw (← shr-shr x k n) (rw one-add at (mod-pow-add (x / 2 ^ k) 1 n))

-- none of them is set, or all are
no_digits : (x k n : ℕ) → AllDigits x k n 0 → x / 2 ^ k % 2 ^ n ≡ 0
no_digits x k zero a = mod-one (x / 2 ^ k)
no_digits x k (suc n) a = next_digit x k n ∙ rw (a n (omega arith), no_digits x k n (λ i h. a i (omega arith))) (omega arith)

every_digit : (x k n : ℕ) → AllDigits x k n 1 → x / 2 ^ k % 2 ^ n ≡ 2 ^ n - 1
every_digit x k zero a = mod-one (x / 2 ^ k)
every_digit x k (suc n) a = next_digit x k n ∙ rw (a n (omega arith), every_digit x k n (λ i h. a i (omega arith)), twice n) (omega (arith, pow_pos n))

-- `u64::MAX >> (64 - n) << k`
abbrev mask_of : ℕ → ℕ → ℕ
mask_of k n = (2 ^ 64 - 1) / 2 ^ (64 - n) * 2 ^ k % 2 ^ 64

mask_is : (k n : ℕ) → k + n ≤ 64 → mask_of k n ≡ 2 ^ (n + k) - 2 ^ k
mask_is k n h =
    let fit : n + k ≤ 64 = omega arith in
    rw (ones_shr n (omega arith), shl_exact n k 64 (ones_lt n) fit, ← high_ones n k) refl

-- `x ^ mask`
pub digits_flipped : (x k n : ℕ) → k + n ≤ 64 → FlippedDigits x (bit_xor x (mask_of k n)) k n
unfolding with_digits without_digits
digits_flipped x k n h true a =
    let none : bit_and x (2 ^ (n + k) - 2 ^ k) ≡ 0 = and_high x n k ∙ rw (no_digits x k n a) (omega arith) in
    rw (mask_is k n h, no_digits x k n a, add_comm k n) (omega (arith, xor_add_and x (2 ^ (n + k) - 2 ^ k), none))
digits_flipped x k n h false a =
    let all : bit_and x (2 ^ (n + k) - 2 ^ k) ≡ 2 ^ (n + k) - 2 ^ k = and_high x n k ∙ rw (every_digit x k n a) (sym (high_ones n k)) in
    rw (mask_is k n h, every_digit x k n a, ← high_ones n k) (omega (arith, xor_add_and x (2 ^ (n + k) - 2 ^ k), all))

-- ---- bits

-- the run lies in map word k, from digit d on
pub run_digits : (m : List ℕ) (k d n v : ℕ) → d + n ≤ 64 → AllBits m (64 * k + d) n v → AllDigits (get_or m k 0) d n v
unfolding bit_at
run_digits m k d n v fit a i h =
    let place : (64 * k + d + i) / 64 ≡ k = omega arith in
    let at : (64 * k + d + i) % 64 ≡ d + i = omega arith in
    rw (place, at) at (a i h)

-- what is left of a run behind map word k, which has become y, is as it was
pub run_behind : (m : List ℕ) (k d n v y : ℕ) → d < 64 → AllBits m (64 * k + d) n v → AllBits (set m k y) (64 * (k + 1) + 0) (n - (64 - d)) v
unfolding bit_at
run_behind m k d n v y l a j h =
    let place : 64 * (k + 1) + 0 + j ≡ 64 * k + d + (64 - d + j) = omega arith in
    rw (get_or-set_other m k ((64 * (k + 1) + 0 + j) / 64) y 0 (λ e. omega arith), place) (a (64 - d + j) (omega arith))

-- l is m with the bits from bit w on changed up to digit d of map word k, and so are n bits from there on
pub run_changed : (on : Bool) (m l : List ℕ) (w k d n : ℕ) → d < 64 → l ≡ on_bits (to_digit on) m w (64 * k + d - w) → w ≤ 64 * k + d → k < length l → d + n ≤ 64
    → set l k (to_digits on (get_or l k 0) d n) ≡ on_bits (to_digit on) m w (64 * k + d + n - w)
run_changed on m l w k d n b e le h fit =
    let place : (64 * k + d) / 64 ≡ k = omega arith in
    let digit : (64 * k + d) % 64 ≡ d = omega arith in
    rw (place, digit) at (run_on (to_digit on) (to_digits on) (flipping on) m l w (64 * k + d) e le (omega arith) n (omega arith))

pub run_flipped : (on : Bool) (m : List ℕ) (w n : ℕ) → on_bits (to_digit on) m w n ≡ pick on (marked m w n) (cleared m w n)
run_flipped true m w n = refl
run_flipped false m w n = refl
