-- Binary digits: what a shift and a mask do to one of them or to a run of them, and what setting and clearing one leaves of the others.
-- Assumes nothing.
use Rattle.std.specs.Prelude.{◌≡◌, refl, ℕ, zero, suc, ◌+◌, ◌-◌, ◌*◌, ◌/◌, ◌%◌, ◌^◌, ◌≤◌, ◌<◌}
use Rattle.std.proofs.Common.{sym, ap, ◌∙◌, mod-eq_of_lt, mod-lt, pow-suc, one-mul, mul_assoc, add-zero, add-suc, add-mul, add_comm, div-add-mod', one-add, add-one, arith, pow_pos, pow_mono, pow-add, shl_lt, shr-shr}
use Rattle.std.specs.Int.Bits.{bit_and, bit_or, or_add_and, or_shifted_r}
use Rattle.std.proofs.lemmas.Nat.{and_mask, and_le_l, mod-pow-add}
use Rattle.std.proofs.lemmas.Nat.Bits.{and_high}
use Rattle.std.proofs.Math.Pow.{pow-lt, shr_mod, split, high, low, ones_lt, ones_split, high_ones}
use Rattle.bitmap.specs.Bitmap.{digit, with_digit, without_digit}

pub twice : (k : ℕ) → 2 ^ suc k ≡ 2 * 2 ^ k
twice k = omega (arith, pow-suc 2 k)

-- `1 << k`
pub one_shl : (k : ℕ) → k < 64 → 1 * 2 ^ k % 2 ^ 64 ≡ 2 ^ k
one_shl k h = rw one-mul (mod-eq_of_lt (pow-lt h))

-- `x & 1 << k`
and_pow : (x k : ℕ) → bit_and x (2 ^ k) ≡ digit x k * 2 ^ k
and_pow x k =
    let e : 2 ^ (1 + k) - 2 ^ k ≡ 2 ^ k = rw one-add (omega (arith, twice k)) in
    rw e at (and_high x 1 k)

-- of a digit and its complement, exactly one counts
pub one_of : (d p : ℕ) → d < 2 → (1 - d) * p + d * p ≡ p
one_of zero p h = omega arith
one_of (suc zero) p h = omega arith
one_of (suc (suc d)) p h = omega arith

-- `x | 1 << k`
pub or_pow : (x k : ℕ) → bit_or x (2 ^ k) ≡ with_digit x k
or_pow x k =
    omega (arith, or_add_and x (2 ^ k), and_pow x k, one_of (digit x k) (2 ^ k) (omega arith))

-- the digits of x are those of x / 2, after the lowest
digit_suc : (x k : ℕ) → digit x (suc k) ≡ digit (x / 2) k
digit_suc x k = ap (λ (y : ℕ). y % 2) (sym (rw one-add at (shr-shr x 1 k)))

with_half : (x k : ℕ) → with_digit x (suc k) / 2 ≡ with_digit (x / 2) k
with_half x k = rw (digit_suc x k, twice k) (omega arith)

with_odd : (x k : ℕ) → with_digit x (suc k) % 2 ≡ x % 2
with_odd x k = rw (digit_suc x k, twice k) (omega arith)

pub digit_le : (x k : ℕ) → digit x k * 2 ^ k ≤ x
digit_le x k = rw (and_pow x k) at (and_le_l x (2 ^ k))

without_half : (x k : ℕ) → without_digit x (suc k) / 2 ≡ without_digit (x / 2) k
without_half x k = rw (digit_suc x k, twice k) (omega arith)

without_odd : (x k : ℕ) → without_digit x (suc k) % 2 ≡ x % 2
without_odd x k =
    let le = rw (digit_suc x k, twice k) at (digit_le x (suc k)) in
    rw (digit_suc x k, twice k) (omega arith)

-- digit k is set, or cleared, and no other changes
pub with_same : (x k : ℕ) → digit (with_digit x k) k ≡ 1
with_same x zero = omega arith
with_same x (suc k) = digit_suc (with_digit x (suc k)) k ∙ rw (with_half x k) (with_same (x / 2) k)

pub without_same : (x k : ℕ) → digit (without_digit x k) k ≡ 0
without_same x zero = omega arith
without_same x (suc k) = digit_suc (without_digit x (suc k)) k ∙ rw (without_half x k) (without_same (x / 2) k)

pub with_other : (x k j : ℕ) → (j ≡ k → ⊥) → digit (with_digit x k) j ≡ digit x j
with_other x zero zero h = absurd (h refl)
with_other x zero (suc j) h =
    let e : with_digit x 0 / 2 ≡ x / 2 = omega arith in
    digit_suc (with_digit x 0) j ∙ rw e (sym (digit_suc x j))
with_other x (suc k) zero h = omega (arith, with_odd x k)
with_other x (suc k) (suc j) h =
    digit_suc (with_digit x (suc k)) j ∙ rw (with_half x k) (with_other (x / 2) k j (λ e. h (ap suc e))) ∙ sym (digit_suc x j)

pub without_other : (x k j : ℕ) → (j ≡ k → ⊥) → digit (without_digit x k) j ≡ digit x j
without_other x zero zero h = absurd (h refl)
without_other x zero (suc j) h =
    let e : without_digit x 0 / 2 ≡ x / 2 = omega arith in
    digit_suc (without_digit x 0) j ∙ rw e (sym (digit_suc x j))
without_other x (suc k) zero h = omega (arith, without_odd x k)
without_other x (suc k) (suc j) h =
    digit_suc (without_digit x (suc k)) j ∙ rw (without_half x k) (without_other (x / 2) k j (λ e. h (ap suc e))) ∙ sym (digit_suc x j)

-- the n digits of x from digit k on; x without them
abbrev digits : ℕ → ℕ → ℕ → ℕ
digits x k n = x / 2 ^ k % 2 ^ n

unfoldable pub without_digits : ℕ → ℕ → ℕ → ℕ
without_digits x k n = x - digits x k n * 2 ^ k

-- what stands above the digits, and what stands below them
pub above_below : (x k n : ℕ) → without_digits x k n ≡ x / 2 ^ (k + n) * 2 ^ (k + n) + x % 2 ^ k
unfolding without_digits
above_below x k n = rw (add_comm k n) (omega (arith, split x (n + k), mod-pow-add x n k))

-- h pieces of size p: the pairs of them, and the one left over
pub halved : (h p : ℕ) → h * p ≡ h / 2 * (2 * p) + h % 2 * p
halved h p = omega (arith, ap (λ (y : ℕ). y * p) (div-add-mod' h 2), add-mul (h / 2 * 2) (h % 2) p)

-- one digit goes after another
pub without_none : (x k : ℕ) → without_digits x k 0 ≡ x
without_none x k = above_below x k 0 ∙ rw add-zero (split x k)

pub without_next : (x k n : ℕ) → without_digit (without_digits x k n) (k + n) ≡ without_digits x k (suc n)
without_next x k n =
    let le : k ≤ k + n = omega arith in
    let below : x % 2 ^ k < 2 ^ (k + n) = omega (arith, mod-lt x (pow_pos k), pow_mono le) in
    let half = rw add-one at (shr-shr x (k + n) 1) in
    rw (above_below x k n, high (x / 2 ^ (k + n)) (k + n) below, above_below x k (suc n), add-suc k n, ← half, twice (k + n))
    (omega (arith, halved (x / 2 ^ (k + n)) (2 ^ (k + n))))

-- `x & ((1 << k) - 1)`
and_below : (x k : ℕ) → k < 64 → bit_and x (1 * 2 ^ k % 2 ^ 64 - 1) ≡ x % 2 ^ k
and_below x k h = rw (one_shl k h) (and_mask x k)

-- `u64::MAX - 1 << e`, where j digits stand above digit e
ones_above : (j e : ℕ) → e + j ≡ 63 → (2 ^ 64 - 1 - 1) * 2 ^ e % 2 ^ 64 ≡ 2 ^ (j + suc e) - 2 ^ suc e
ones_above j e h =
    let all : j + suc e ≡ 64 = omega arith in
    let double : (2 ^ 64 - 1 - 1) * 2 ^ e ≡ (2 ^ 63 - 1) * 2 ^ suc e = omega (arith, twice e) in
    let parts : (2 ^ 63 - 1) * 2 ^ suc e ≡ (2 ^ e - 1) * 2 ^ 64 + (2 ^ j - 1) * 2 ^ suc e =
    ap (λ (y : ℕ). y * 2 ^ suc e) (rw h at (ones_split e j)) ∙ add-mul ((2 ^ e - 1) * 2 ^ j) (2 ^ j - 1) (2 ^ suc e)
    ∙ rw (mul_assoc (2 ^ e - 1) (2 ^ j) (2 ^ suc e), ← pow-add 2 j (suc e), all) refl in
    ap (λ (y : ℕ). y % 2 ^ 64) (double ∙ parts) ∙ low (2 ^ e - 1) 64 (rw all at (shl_lt j (suc e) (ones_lt j))) ∙ sym (high_ones j (suc e))

-- `x & (u64::MAX - 1 << e)`
and_above : (x e : ℕ) → x < 2 ^ 64 → e < 64 → bit_and x ((2 ^ 64 - 1 - 1) * 2 ^ e % 2 ^ 64) ≡ x / 2 ^ suc e * 2 ^ suc e
and_above x e hx h =
    let all : 63 - e + suc e ≡ 64 = omega arith in
    let fits : x < 2 ^ (63 - e + suc e) = rw all hx in
    rw (ones_above (63 - e) e (omega arith), and_high x (63 - e) (suc e), shr_mod (63 - e) (suc e) fits) refl

-- `x & ((1 << k) - 1)` where x has 64 digits
pub rest_cleared : (x k : ℕ) → x < 2 ^ 64 → k < 64 → bit_and x (1 * 2 ^ k % 2 ^ 64 - 1) ≡ without_digits x k (64 - k)
rest_cleared x k hx h =
    let all : k + (64 - k) ≡ 64 = omega arith in
    and_below x k h ∙ sym (above_below x k (64 - k) ∙ rw all (omega arith))

-- `x & ((1 << k) - 1) | x & (u64::MAX - 1 << e)`
pub digits_cleared : (x k e : ℕ) → x < 2 ^ 64 → k ≤ e → e < 64
    → bit_or (bit_and x (1 * 2 ^ k % 2 ^ 64 - 1)) (bit_and x ((2 ^ 64 - 1 - 1) * 2 ^ e % 2 ^ 64)) ≡ without_digits x k (suc e - k)
digits_cleared x k e hx hk he =
    let all : k + (suc e - k) ≡ suc e = omega arith in
    let le : k ≤ suc e = omega arith in
    let below : x % 2 ^ k < 2 ^ suc e = omega (arith, mod-lt x (pow_pos k), pow_mono le) in
    rw (and_below x k (omega arith), and_above x e hx he, or_shifted_r (x / 2 ^ suc e) (suc e) (x % 2 ^ k) below)
    (sym (rw all at (above_below x k (suc e - k))))

-- `u64::MAX >> (64 - n)`
pub ones_shr : (n : ℕ) → n ≤ 64 → (2 ^ 64 - 1) / 2 ^ (64 - n) ≡ 2 ^ n - 1
ones_shr n h =
    let all : n + (64 - n) ≡ 64 = omega arith in
    rw all at (ap (λ (y : ℕ). y / 2 ^ (64 - n)) (ones_split n (64 - n)) ∙ high (2 ^ n - 1) (64 - n) (ones_lt (64 - n)))
