-- Digits that are written from the lowest on.
-- Assumes nothing.
use Rattle.std.specs.Prelude.{◌≡◌, refl, List, [], ◌∷◌, ℕ, suc, ◌+◌, ◌-◌, ◌/◌, ◌%◌, ◌^◌, ◌≤◌, ◌<◌, length, set}
use Rattle.std.proofs.Common.{ap, ◌∙◌, pow-suc, arith}
use Rattle.std.proofs.Math.Nat.{div-div-eq-div-mul}
use Rattle.std.proofs.lemmas.List.Edits.{sets}
use Rattle.std.proofs.Math.Seq.{length-sets}
use Rattle.std.proofs.lemmas.List.{set_comm}
use Rattle.lines.specs.Answers.{digit_of, digits_of}

-- a store before a run
sets_before : (s l : List ℕ) (i j a : ℕ) → i < j → set (sets l j s) i a ≡ sets (set l i a) j s
sets_before [] l i j a h = refl
sets_before (b ∷ s) l i j a h =
    sets_before s (set l j b) i (suc j) a (omega arith)
    ∙ ap (λ (m : List ℕ). sets m (suc j) s) (set_comm l j i b a (λ e. omega arith))

-- Digits are written from the lowest on: those that stand from at + i on are the n - i lowest of v, and rest is v without them.
pub record Lowest (first : List ℕ) (at v n rest i : ℕ) (l : List ℕ) : Type 0 where
  pub within : i ≤ n
  pub left : rest ≡ v / 16 ^ (n - i)
  pub written : l ≡ sets first (at + i) (digits_of v (n - i))

pub lowest_none : (l : List ℕ) (at v n : ℕ) → Lowest l at v n v n l
unfolding digits_of
lowest_none l at v n =
    let e : n - n ≡ 0 = omega arith in
    record { within = omega arith; left = rw e (omega arith); written = rw e refl }

-- the digit before those that are written
pub lowest_more : (l first : List ℕ) (at v n rest i : ℕ) → 0 < i → Lowest first at v n rest i l
    → Lowest first at v n (rest / 16) (i - 1) (set l (at + (i - 1)) (digit_of (rest % 16)))
unfolding digits_of
lowest_more l first at v n rest i h s =
    let k : n - (i - 1) ≡ suc (n - i) = omega (arith, s.within) in
    let f : at + i ≡ suc (at + (i - 1)) = omega arith in
    record {
      within = omega (arith, s.within);
      left = rw (k, s.left, pow-suc 16 (n - i)) (div-div-eq-div-mul v (16 ^ (n - i)) 16);
      written = rw (k, s.written, f, s.left) (sets_before (digits_of v (n - i)) first (at + (i - 1)) (suc (at + (i - 1))) (digit_of (v / 16 ^ (n - i) % 16)) (omega arith));
    }

pub lowest_all : (l first : List ℕ) (at v n rest i : ℕ) → i ≤ 0 → Lowest first at v n rest i l → l ≡ sets first at (digits_of v n)
lowest_all l first at v n rest i h s =
    let e : at + i ≡ at = omega arith in
    let f : n - i ≡ n = omega arith in
    rw (e, f) at s.written

pub lowest_length : (l first : List ℕ) (at v n rest i : ℕ) → Lowest first at v n rest i l → length l ≡ length first
lowest_length l first at v n rest i s = rw s.written (length-sets first (at + i) (digits_of v (n - i)))
