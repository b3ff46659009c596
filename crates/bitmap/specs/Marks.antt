-- A run's first bit marked: it may be cleared with the others before it is set.
-- Assumes nothing.
use Rattle.std.specs.Prelude.{◌≡◌, List, ◌≢◌, ℕ, zero, suc, ◌+◌, ◌-◌, ◌*◌, ◌/◌, ◌%◌, ◌^◌, ◌≤◌, ◌<◌, length, get_or}
use Rattle.std.proofs.Common.{sym, ◌∙◌, ⊎_elim, arith, get_or-set_same, get_or-set_other, set-set}
use Rattle.std.proofs.lemmas.List.{set_comm}
use Rattle.bitmap.specs.Bitmap.{digit, with_digit, without_digit, on_bit, with_bit, on_bits, cleared}
use Rattle.bitmap.specs.Digits.{with_other, without_same, without_other, digit_le}
use Rattle.bitmap.specs.BitmapLaws.{length_cleared, same?}

-- a digit that is cleared and then set is set; setting one digit and clearing another may change places
refilled : (d p x : ℕ) → d < 2 → d * p ≤ x → x - d * p + (1 - 0) * p ≡ x + (1 - d) * p
refilled zero p x h l = omega arith
refilled (suc zero) p x h l = omega arith
refilled (suc (suc d)) p x h l = absurd (omega arith)

with_without : (x k : ℕ) → with_digit (without_digit x k) k ≡ with_digit x k
with_without x k = rw (without_same x k) (refilled (digit x k) (2 ^ k) x (omega arith) (digit_le x k))

with_without_other : (x j k : ℕ) → j ≢ k → with_digit (without_digit x j) k ≡ without_digit (with_digit x k) j
with_without_other x j k ne = rw (without_other x j k (λ e. ne (sym e)), with_other x k j ne) (omega (arith, digit_le x j))

-- the same of a bit
set_cleared : (m : List ℕ) (w : ℕ) → w / 64 < length m → with_bit (on_bit without_digit m w) w ≡ with_bit m w
unfolding with_bit
set_cleared m w h = rw (get_or-set_same m (w / 64) _ 0 h, set-set, with_without (get_or m (w / 64) 0) (w % 64))

set_cleared_other : (m : List ℕ) (v w : ℕ) → v ≢ w → v / 64 < length m → w / 64 < length m → with_bit (on_bit without_digit m v) w ≡ on_bit without_digit (with_bit m w) v
unfolding with_bit
set_cleared_other m v w ne hv hw =
    ⊎_elim
    (λ e. rw e (rw (
      get_or-set_same m (w / 64) _ 0 hw,
      get_or-set_same m (w / 64) _ 0 hw,
      set-set,
      set-set,
      with_without_other (get_or m (w / 64) 0) (v % 64) (w % 64) (λ d. ne (omega arith)),
    )))
    (λ n. rw (get_or-set_other m (v / 64) (w / 64) _ 0 (λ d. n (sym d)), get_or-set_other m (w / 64) (v / 64) _ 0 n) (set_comm m (v / 64) (w / 64) _ _ n))
    (same? (v / 64) (w / 64))

-- the same of the first bit of a run
pub marked_run : (m : List ℕ) (w n : ℕ) → w + suc n ≤ 64 * length m → with_bit (cleared m w (suc n)) w ≡ with_bit (cleared m (suc w) n) w
unfolding on_bits
marked_run m w zero h =
    let e : w + 0 ≡ w = omega arith in
    rw e (set_cleared m w (omega arith))
marked_run m w (suc n) h =
    let v : w + suc n ≡ suc w + n = omega arith in
    let k = length_cleared m w (suc n) in
    let l = length_cleared m (suc w) n in
    set_cleared_other (cleared m w (suc n)) (w + suc n) w (λ e. omega arith) (omega (arith, k)) (omega (arith, k))
    ∙ rw (marked_run m w n (omega arith), v) (sym (set_cleared_other (cleared m (suc w) n) (suc w + n) w (λ e. omega arith) (omega (arith, l)) (omega (arith, l))))
