-- The map's laws: what changing a bit, and a run of bits, leaves at each bit.
-- Assumes nothing.
use Rattle.std.specs.Prelude.{◌≡◌, List, ◌⊎◌, eqb, get_or}
use Rattle.std.proofs.Math.Path.{refl}
use Rattle.std.proofs.Common.{◌∙◌, arith, eqb-true, length-set, get_or-set_same, get_or-set_other}
use Rattle.std.proofs.Math.Logic.{⊎_elim, inl, inr}
use Prim.Native.Nat.{ℕ, zero, suc, ◌+◌, ◌*◌, ◌/◌, ◌%◌, ◌≤◌, ◌<◌}
use Rattle.std.proofs.lemmas.Bool.{eqb-false}
use Rattle.std.proofs.Math.ListN.{length}
use Rattle.layout.specs.Choice.{cases}
use Rattle.bitmap.specs.Bitmap.{digit, with_digit, without_digit, bit_at, on_bit, with_bit, on_bits, cleared, marked}
use Rattle.bitmap.specs.Digits.{with_same, with_other, without_same, without_other}

-- two numbers are equal or not
pub same? : (a b : ℕ) → (a ≡ b) ⊎ (a ≡ b → ⊥)
same? a b = cases (eqb a b) (λ e. inl (eqb-true a b e)) (λ e. inr (eqb-false a b e))

-- ---- any change of one digit

pub length_run : (f : ℕ → ℕ → ℕ) (m : List ℕ) (w n : ℕ) → length (on_bits f m w n) ≡ length m
unfolding on_bits
length_run f m w zero = refl
length_run f m w (suc n) = length-set (on_bits f m w n) _ _ ∙ length_run f m w n

-- f makes a digit v, and leaves every other
record Makes (f : ℕ → ℕ → ℕ) (v : ℕ) : Type 0 where
  same : (x k : ℕ) → digit (f x k) k ≡ v
  other : (x k j : ℕ) → (j ≡ k → ⊥) → digit (f x k) j ≡ digit x j

module _ (f : ℕ → ℕ → ℕ) (v : ℕ) (c : Makes f v) (m : List ℕ) where
  bit_same : (w : ℕ) → w / 64 < length m → bit_at (on_bit f m w) w ≡ v
  unfolding bit_at
  bit_same w h = rw (get_or-set_same m (w / 64) _ 0 h) (c.same (get_or m (w / 64) 0) (w % 64))

  bit_other : (w : ℕ) → w / 64 < length m → (u : ℕ) → (u ≡ w → ⊥) → bit_at (on_bit f m w) u ≡ bit_at m u
  unfolding bit_at
  bit_other w h u ne =
      ⊎_elim
      (λ e. rw e (rw (get_or-set_same m (w / 64) _ 0 h) (c.other (get_or m (w / 64) 0) (w % 64) (u % 64) (λ d. ne (omega arith)))))
      (λ n. rw (get_or-set_other m (w / 64) (u / 64) _ 0 n) refl)
      (same? (u / 64) (w / 64))

-- a run that was changed: v inside, as before outside
module _ (f : ℕ → ℕ → ℕ) (v : ℕ) (c : Makes f v) where
  run_inside : (m : List ℕ) (w n u : ℕ) → w + n ≤ 64 * length m → w ≤ u → u < w + n → bit_at (on_bits f m w n) u ≡ v
  unfolding on_bits
  run_inside m w zero u h lo hi = absurd (omega arith)
  run_inside m w (suc n) u h lo hi =
      let short : (w + n) / 64 < length (on_bits f m w n) = omega (arith, length_run f m w n) in
      ⊎_elim
      (λ e. rw e (bit_same f v c (on_bits f m w n) (w + n) short))
      (λ ne. bit_other f v c (on_bits f m w n) (w + n) short u ne ∙ run_inside m w n u (omega arith) lo (omega arith))
      (same? u (w + n))

  run_outside : (m : List ℕ) (w n u : ℕ) → w + n ≤ 64 * length m → (u < w) ⊎ (w + n ≤ u) → bit_at (on_bits f m w n) u ≡ bit_at m u
  unfolding on_bits
  run_outside m w zero u h out = refl
  run_outside m w (suc n) u h out =
      let short : (w + n) / 64 < length (on_bits f m w n) = omega (arith, length_run f m w n) in
      let ne : u ≡ w + n → ⊥ = λ e. ⊎_elim (λ a. omega arith) (λ b. omega arith) out in
      bit_other f v c (on_bits f m w n) (w + n) short u ne
      ∙ run_outside m w n u (omega arith) (⊎_elim (λ a. inl a) (λ b. inr (omega arith)) out)

-- ---- setting and clearing

sets : Makes with_digit 1
sets = record { same = with_same; other = with_other }

clears : Makes without_digit 0
clears = record { same = without_same; other = without_other }

module _ (m : List ℕ) (w : ℕ) (h : w / 64 < length m) where
  pub bit_with_same : bit_at (with_bit m w) w ≡ 1
  unfolding with_bit
  bit_with_same = bit_same with_digit 1 sets m w h

  pub bit_with_other : (u : ℕ) → (u ≡ w → ⊥) → bit_at (with_bit m w) u ≡ bit_at m u
  unfolding with_bit
  bit_with_other u ne = bit_other with_digit 1 sets m w h u ne

module _ (m : List ℕ) (w n : ℕ) where
  pub length_cleared : length (cleared m w n) ≡ length m
  length_cleared = length_run without_digit m w n

  pub length_marked : length (marked m w n) ≡ length m
  length_marked = length_run with_digit m w n

  module _ (u : ℕ) (h : w + n ≤ 64 * length m) where
    pub cleared_inside : w ≤ u → u < w + n → bit_at (cleared m w n) u ≡ 0
    cleared_inside lo hi = run_inside without_digit 0 clears m w n u h lo hi

    pub cleared_outside : (u < w) ⊎ (w + n ≤ u) → bit_at (cleared m w n) u ≡ bit_at m u
    cleared_outside out = run_outside without_digit 0 clears m w n u h out

    pub marked_inside : w ≤ u → u < w + n → bit_at (marked m w n) u ≡ 1
    marked_inside lo hi = run_inside with_digit 1 sets m w n u h lo hi

    pub marked_outside : (u < w) ⊎ (w + n ≤ u) → bit_at (marked m w n) u ≡ bit_at m u
    marked_outside out = run_outside with_digit 1 sets m w n u h out
