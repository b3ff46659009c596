-- The clear bits from a bit down, in its map word: a law of the leading zeros of a word.
-- Assumes nothing.
use Rattle.std.specs.Prelude.{ℕ, zero, suc, ◌+◌, ◌-◌, ◌*◌, ◌/◌, ◌%◌, ◌^◌, ◌≤◌, ◌<◌, List, ◌≢◌, ◌≡◌, get_or, leb}
use Rattle.std.proofs.Math.Path.{refl}
use Rattle.std.proofs.Common.{sym, ◌∙◌, mod-lt, mod-eq_of_lt, leb-true, leb-false, pow_pos, pow_mono}
use Rattle.std.proofs.Math.Nat.{div-eq_of_lt}
use native.Mathlib.Omega.{arith}
use Rattle.std.specs.Int.Count.{count_leading_zeros, leading_of_zero}
use Rattle.std.proofs.lemmas.Nat.{leading_length, and_mask, mod-pow-add}
use Rattle.std.specs.Int.Bits.{bit_and}
use Rattle.std.proofs.Math.Pow.{high, mod-mod-pow}
use Rattle.layout.specs.Choice.{cases}
use Rattle.bitmap.specs.Bitmap.{digit, bit_at}
use Rattle.bitmap.specs.Digits.{twice, ones_shr}

-- r bits from bit w down are clear, no further than its map word; where the word has another one below them, it is set
pub record ClearDown (m : List ℕ) (w r : ℕ) : Type 0 where
  pub inside : r ≤ w % 64 + 1
  pub clear : (j : ℕ) → j < r → bit_at m (w - j) ≡ 0
  pub stop : r ≤ w % 64 → bit_at m (w - r) ≡ 1

-- the binary digits of bit w's map word, up to bit w
abbrev pub digits_down : List ℕ → ℕ → ℕ
digits_down m w = get_or m (w / 64) 0 % 2 ^ suc (w % 64)

-- ---- the digits of a word up to digit d

-- the digits below digit n stay where the others are cut off
cut_digit : (x n i : ℕ) → i < n → digit (x % 2 ^ n) i ≡ digit x i
cut_digit x n i h =
    let a : n - 1 - i + 1 + i ≡ n = omega arith in
    let e : x % 2 ^ n ≡ x / 2 ^ i % 2 ^ (n - 1 - i + 1) * 2 ^ i + x % 2 ^ i = rw a at (mod-pow-add x (n - 1 - i + 1) i) in
    rw (e, high (x / 2 ^ i % 2 ^ (n - 1 - i + 1)) i (mod-lt x (pow_pos i))) (mod-mod-pow (x / 2 ^ i) (n - 1 - i) 1)

module _ (x d : ℕ) (l : d < 64) where
  -- the digits up to digit d, and how many of the 64 stand above the highest set one
  abbrev rest : ℕ
  rest = x % 2 ^ suc d

  abbrev zeros : ℕ
  zeros = count_leading_zeros 64 rest

  -- so many are left below them
  record Long (m : ℕ) : Type 0 where
    whole : zeros + m ≡ 64
    holds : rest < 2 ^ m
    needed : 2 ^ m ≤ 2 * rest + 1

  long : (m : ℕ) × Long m
  long =
      let le : suc d ≤ 64 = omega arith in
      let k = leading_length 64 rest (omega (arith, mod-lt x (pow_pos (suc d)), pow_mono le)) in
      (k.0, record { whole = k.1; holds = k.2; needed = k.3 })

  module _ (m : ℕ) (k : Long m) where
    short : m ≤ suc d
    short = cases (leb m (suc d))
        (λ e. leb-true m (suc d) e)
        (λ e.
        let more : suc (suc d) ≤ m = leb-false m (suc d) e in
        absurd (omega (arith, mod-lt x (pow_pos (suc d)), pow_mono more, twice (suc d), k.needed)))

    -- a digit above them is clear, and the highest of them is set
    above : (i : ℕ) → i ≤ d → m ≤ i → digit x i ≡ 0
    above i p q = sym (cut_digit x (suc d) i (omega arith)) ∙ rw (div-eq_of_lt (less i q)) refl
      where
        less : (i : ℕ) → m ≤ i → rest < 2 ^ i
        less i q = omega (arith, k.holds, pow_mono q)

    top : (i : ℕ) → m ≡ suc i → digit x i ≡ 1
    top i e =
        let two : 2 ^ suc i ≡ 2 * 2 ^ i = twice i in
        let all : rest ≡ 1 * 2 ^ i + (rest - 2 ^ i) = omega (arith, rw e at k.needed) in
        let low : rest - 2 ^ i < 2 ^ i = omega (arith, rw e at k.holds, pow_pos i) in
        sym (cut_digit x (suc d) i (omega (arith, short))) ∙ rw (all, high 1 i low) refl

    -- where one of them is set, some are left
    some : 0 < rest → 0 < m
    some h = not_none m k.holds
      where
        not_none : (i : ℕ) → rest < 2 ^ i → 0 < i
        not_none zero p = absurd (omega arith)
        not_none (suc i) p = omega arith

-- what the leading zeros of a word's digits up to digit d tell
pub record Down (x d : ℕ) : Type 0 where
  pub above : 63 - d ≤ count_leading_zeros 64 (x % 2 ^ suc d)
  pub inside : count_leading_zeros 64 (x % 2 ^ suc d) - (63 - d) ≤ d + 1
  pub clear : (j : ℕ) → j < count_leading_zeros 64 (x % 2 ^ suc d) - (63 - d) → digit x (d - j) ≡ 0
  pub fewer : 0 < x % 2 ^ suc d → count_leading_zeros 64 (x % 2 ^ suc d) - (63 - d) ≤ d
  pub stop : count_leading_zeros 64 (x % 2 ^ suc d) - (63 - d) ≤ d → digit x (d - (count_leading_zeros 64 (x % 2 ^ suc d) - (63 - d))) ≡ 1

zeros_down : (x d : ℕ) → d < 64 → Down x d
zeros_down x d l =
    let m : ℕ = (long x d l).0 in
    let k : Long x d l m = (long x d l).1 in
    let s : m ≤ suc d = short x d l m k in
    record {
      above = omega (arith, k.whole);
      inside = omega (arith, k.whole);
      clear = λ j h. above x d l m k (d - j) (omega arith) (omega (arith, k.whole));
      fewer = λ h. omega (arith, k.whole, some x d l m k h);
      stop = λ h. top x d l m k (d - (count_leading_zeros 64 (x % 2 ^ suc d) - (63 - d))) (omega (arith, k.whole));
    }

-- the digits up to digit d, which stand below 2 ^ suc d
pub zeros_above : (y d : ℕ) → d < 64 → y < 2 ^ suc d → 63 - d ≤ count_leading_zeros 64 y
zeros_above y d l h = rw (mod-eq_of_lt h) at (zeros_down y d l).above

-- ---- the bits of a map

module _ (m : List ℕ) (w : ℕ) where
  abbrev word : ℕ
  word = get_or m (w / 64) 0

  -- `map[w / 64] & u64::MAX >> (63 - w % 64)`
  pub rest_is : bit_and word ((2 ^ 64 - 1) / 2 ^ (63 - w % 64)) ≡ word % 2 ^ suc (w % 64)
  rest_is =
      let e : 63 - w % 64 ≡ 64 - suc (w % 64) = omega arith in
      rw (e, ones_shr (suc (w % 64)) (omega arith)) (and_mask word (suc (w % 64)))

  pub digits_bound : digits_down m w < 2 ^ suc (w % 64)
  digits_bound = mod-lt word (pow_pos (suc (w % 64)))

  down : Down word (w % 64)
  down = zeros_down word (w % 64) (omega arith)

  bit_is : (j : ℕ) → j ≤ w % 64 → bit_at m (w - j) ≡ digit word (w % 64 - j)
  unfolding bit_at
  bit_is j h =
      let a : (w - j) / 64 ≡ w / 64 = omega arith in
      let b : (w - j) % 64 ≡ w % 64 - j = omega arith in
      rw (a, b) refl

  pub cleared_down : ClearDown m w (count_leading_zeros 64 (word % 2 ^ suc (w % 64)) - (63 - w % 64))
  cleared_down = record {
    inside = down.inside;
    clear = λ j h. bit_is j (omega (arith, down.inside)) ∙ down.clear j h;
    stop = λ h. bit_is (count_leading_zeros 64 (word % 2 ^ suc (w % 64)) - (63 - w % 64)) h ∙ down.stop h;
  }

  -- no digit is set
  pub all_down : digits_down m w ≡ 0 → ClearDown m w (w % 64 + 1)
  all_down z =
      let zeros : count_leading_zeros 64 (word % 2 ^ suc (w % 64)) ≡ 64 = rw z (leading_of_zero 64) in
      let count : count_leading_zeros 64 (word % 2 ^ suc (w % 64)) - (63 - w % 64) ≡ w % 64 + 1 = omega arith in
      rw count at cleared_down

  -- one is, which bit w - r is, where r bits above it are clear
  pub one_down : {digits r : ℕ} → digits ≡ digits_down m w → r ≡ count_leading_zeros 64 digits - (63 - w % 64) → digits ≢ 0 → ClearDown m w r × (bit_at m (w - r) ≢ 0)
  one_down {digits} {r} e f n =
      let d : ClearDown m w r = rw (f, e) cleared_down in
      (d, λ z. omega (arith, z, d.stop (rw (f, e) (down.fewer (omega (arith, e))))))
