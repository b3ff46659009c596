-- The map words that hold a run of bits, counted one by one: the formula of `words_holding` is their number.
-- Assumes nothing.
use Rattle.std.specs.Prelude.{◌≡◌, refl, ◌⊎◌, Bool, true, false, ◌||◌, ℕ, zero, suc, ◌+◌, ◌-◌, ◌*◌, ◌/◌, ◌≤◌, ◌<◌, min, eqb, leb}
use Rattle.std.proofs.Common.{◌∙◌, ⊎_elim, inl, inr, arith, eq-eqb, ne_eqb, leb-true, leb-false}
use Rattle.std.proofs.lemmas.Bool.{eqb-false}
use Rattle.layout.specs.Choice.{pick, cases}
use Rattle.bitmap.specs.Bitmap.{words_holding}

-- map word i holds one of the n bits from bit w on
unfoldable pub holds_one : ℕ → ℕ → ℕ → Bool
holds_one i w zero = false
holds_one i w (suc n) = eqb ((w + n) / 64) i || holds_one i w n

-- how many of the first c map words do
unfoldable pub count_holding : ℕ → ℕ → ℕ → ℕ
count_holding zero w n = 0
count_holding (suc c) w n = count_holding c w n + pick (holds_one c w n) 1 0

-- a map word from that of the first bit to that of the last holds one; any other holds none
inside : (i w n : ℕ) → w / 64 ≤ i → i ≤ (w + n) / 64 → holds_one i w (suc n) ≡ true
unfolding holds_one
inside i w zero lo hi = rw (eq-eqb ((w + 0) / 64) i (omega arith)) refl
inside i w (suc n) lo hi = cases (eqb ((w + suc n) / 64) i)
    (λ e. rw e refl)
    (λ e. let ne = eqb-false ((w + suc n) / 64) i e in rw e (inside i w n lo (omega arith)))

outside : (i w n : ℕ) → (i < w / 64) ⊎ (w + n ≤ 64 * i) → holds_one i w n ≡ false
unfolding holds_one
outside i w zero out = refl
outside i w (suc n) out =
    let ne : (w + n) / 64 ≡ i → ⊥ = λ e. ⊎_elim (λ a. omega arith) (λ b. omega arith) out in
    rw (ne_eqb ((w + n) / 64) i ne) (outside i w n (⊎_elim (λ a. inl a) (λ b. inr (omega arith)) out))

-- so the first c map words have those from that of the first bit on, to that of the last
among : (c w n : ℕ) → count_holding c w (suc n) ≡ min c (suc ((w + n) / 64)) - w / 64
unfolding count_holding
among zero w n = omega arith
among (suc c) w n = cases (leb (w / 64) c)
    (λ lo. cases (leb c ((w + n) / 64))
    (λ hi.
    let l = leb-true (w / 64) c lo in
    let h = leb-true c ((w + n) / 64) hi in
    rw (inside c w n l h) (omega (arith, among c w n)))
    (λ hi.
    let h = leb-false c ((w + n) / 64) hi in
    rw (outside c w (suc n) (inr (omega arith))) (omega (arith, among c w n))))
    (λ lo.
    let l = leb-false (w / 64) c lo in
    rw (outside c w (suc n) (inl l)) (omega (arith, among c w n)))

none : (c w : ℕ) → count_holding c w 0 ≡ 0
unfolding count_holding holds_one
none zero w = refl
none (suc c) w = omega (arith, none c w)

-- in a map of c words that has the bits, the map words that hold one of them are so many
pub held_words : (c w n : ℕ) → w + n ≤ 64 * c → count_holding c w n ≡ words_holding w n
unfolding words_holding
held_words c w zero h = none c w
held_words c w (suc n) h = among c w n ∙ omega arith

-- of the map words that hold a run, k come before that of bit v, and the last bit lies in that one
pub counted : (w n v k : ℕ) → 0 < n → w / 64 + k ≡ v / 64 → v / 64 ≡ (w + n - 1) / 64 → k + 1 ≡ words_holding w n
unfolding words_holding
counted w zero v k h e last = absurd (omega arith)
counted w (suc n) v k h e last = omega arith
