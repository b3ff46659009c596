-- `lowest_run` meets its contract. `Sought` is what the search knows before it looks at a run, `Looking` what it knows while it does: bit `end - 1` is
-- the next one.
use mathlib.Core.List.{List}
use mathlib.Core.Path.{◌≡◌, refl, sym, ◌∙◌}
use Prim.Native.Nat.{ℕ, suc, ◌+◌, ◌-◌, ◌*◌, ◌/◌, ◌%◌, ◌^◌, ◌≤◌, ◌<◌}
use native.Mathlib.Omega.{arith}
use Rattle.bitmap.specs.Bitmap.{bit_at}
use Rattle.runs.specs.LowestRun.{lowest_run, is_clear}
use Rattle.search.specs.ClearDown.{digits_bound, all_down, one_down}
use Rattle.search.specs.Search.{Sought, Looking, sought_first, looking_first, looking_more, sought_next, found, none}
use Rattle.search.proofs.lowest_run.Goals as goal

-- the looks so far, and the bits that are left
looked : {m : List ℕ} {n bits start looks left : ℕ} → Looking m n bits start looks left → looks + left ≤ 2 * bits
looked l = omega (arith, l.counted, l.ends, l.sought.few, l.sought.within)

-- the run whose last bit is bit `last`, before a bit of it is looked at
module _ {m : List ℕ} {n bits last looks : ℕ} (some : 0 < n) (low : n ≤ suc last) (high : last < bits) (s : Sought m n bits (last - (n - 1)) looks) where
  window : Looking m n bits (last - (n - 1)) looks (suc (last - (last - (n - 1))))
  window = looking_first m n bits (suc (last - (last - (n - 1)))) (omega arith) s (omega arith)

-- its last bit, which is clear
one_clear : (m : List ℕ) (last : ℕ) → bit_at m last ≡ 0 → (j : ℕ) → j < 1 → bit_at m (last - j) ≡ 0
one_clear m last z j h = let e : last - j ≡ last = omega arith in rw e z

-- the last bit of the next run lies behind that of this one, whose start has a set bit `at` behind it, so less is left
behind : (start at clear n last first : ℕ) → start ≤ at → clear ≤ at - start → start + n ≡ suc last → first ≤ last → first < at - clear + n
behind start at clear n last first p q e h = omega arith

-- bit `at - clear` of the run, and the bits that are left with it
rest_of : (start at clear : ℕ) → start ≤ at → clear ≤ at - start → (start ≤ at - clear) × (clear + suc (at - clear - start) ≡ suc (at - start))
rest_of start at clear p q = (omega arith, omega arith)

next_start : (at n : ℕ) → 0 < n → at + n - (n - 1) ≡ suc at
next_start at n h = omega arith

fits_next : (at clear n bits : ℕ) {end : ℕ} → at < end → end ≤ bits → n ≤ bits → bits ≤ 1024 → at - clear + n < 2 ^ 64
fits_next at clear n bits p q h b = omega arith

low : {start end : ℕ} → start < end → start ≤ end - 1
low h = omega arith

below : {start end top : ℕ} → start < end → end ≤ top → end - 1 < top
below h p = omega arith

within : (start at clear : ℕ) → clear ≤ at - start → clear ≤ at
within start at clear h = omega arith

-- the bits of a map word from bit `at` down, and those of the run that are left below them
word_bits : (at : ℕ) → (at / 64 * 64 ≤ at) × (at - at / 64 * 64 + 1 ≡ at % 64 + 1)
word_bits at = (omega arith, omega arith)

word_rest : (at start from : ℕ) → from ≤ at → start < from → at - from + 1 + suc (from - 1 - start) ≡ suc (at - start)
word_rest at start from p q = omega arith

among : (j rest clear : ℕ) → j < rest + 1 → rest < clear → j < clear
among j rest clear h p = omega arith

-- a run behind bit `used`, and whether it ends below bit `bits`
under : (used n bits : ℕ) → n ≤ bits → used < bits - n → used + n < bits
under used n bits h p = omega arith

over : (used n bits : ℕ) → bits - n ≤ used → bits < suc used + n
over used n bits p = omega arith

less : (all last next : ℕ) → last < next → last < all → all - next < all - last
less all last next h l = omega arith

pub overflow_sub-last : goal.overflow_sub-last
overflow_sub-last c = omega arith

pub search-init : goal.search-init
search-init c =
    let a = c.args in
    let e : a.n - 1 - (a.n - 1) ≡ 0 = omega arith in
    (omega arith, rw e (sought_first _ _ _), omega arith)

pub loop-looks-init : goal.loop-looks-init
loop-looks-init c = (c.search.invariant.0, c.search.invariant.1, omega arith, c.search.invariant.2)

pub bit-requires : goal.bit-requires
bit-requires c = omega arith

pub overflow_add-looks : goal.overflow_add-looks
overflow_add-looks c =
    let l = c.loop-looks.invariant in
    omega (arith, looked (window (omega arith) l.0 (omega arith) l.1))

pub overflow_add-last : goal.overflow_add-last
overflow_add-last c = omega arith

pub loop-looks-smaller : goal.loop-looks-smaller
loop-looks-smaller c = omega arith

pub loop-looks-preserved : goal.loop-looks-preserved
loop-looks-preserved c =
    let l = c.loop-looks in
    (omega arith, sought_next _ _ _ (omega arith) (window (omega arith) l.invariant.0 (omega arith) l.invariant.1) (λ z. c.if-bit-eq0.false (c.bit.ensures ∙ z)) _ (omega (arith, l.invariant.0)), omega (arith, l.invariant.2), omega arith)

pub overflow_sub-start : goal.overflow_sub-start
overflow_sub-start c = omega arith

pub overflow_sub-start-in-search : goal.overflow_sub-start-in-search
overflow_sub-start-in-search c = omega (arith, c.loop-looks.invariant.0)

pub overflow_add-looks-in-search : goal.overflow_add-looks-in-search
overflow_add-looks-in-search c =
    let l = c.loop-looks.invariant in
    omega (arith, looked (window (omega arith) l.0 (omega arith) l.1))

pub loop-clear-init : goal.loop-clear-init
loop-clear-init c =
    let l = c.loop-looks.invariant in
    let w = window (omega arith) l.0 (omega arith) l.1 in
    (looking_more _ _ _ (omega arith) w 1 _ (omega arith) (one_clear _ _ (sym c.bit.ensures ∙ c.if-bit-eq0.true)), omega arith, omega (arith, l.0), omega (arith, l.0))

pub overflow_sub-at : goal.overflow_sub-at
overflow_sub-at c = omega (arith, c.loop-clear.invariant.1)

pub digits_down-digits-requires : goal.digits_down-digits-requires
digits_down-digits-requires c = let l = c.loop-clear.invariant in omega (arith, l.0.ends, l.1, l.3)

pub clear_above-clear-requires : goal.clear_above-clear-requires
clear_above-clear-requires c = rw c.digits_down-digits.ensures (digits_bound c.args.map.now _)

pub overflow_sub-at-then-digits-ne0 : goal.overflow_sub-at-then-digits-ne0
overflow_sub-at-then-digits-ne0 c = low c.loop-clear.invariant.1

pub overflow_sub-looks : goal.overflow_sub-looks
overflow_sub-looks c = low c.loop-clear.invariant.1

pub overflow_add-looks-then-at-start : goal.overflow_add-looks-then-at-start
overflow_add-looks-then-at-start c =
    let l = c.loop-clear.invariant in
    omega (arith, looked l.0)

pub overflow_add-looks-then-at-start-2 : goal.overflow_add-looks-then-at-start-2
overflow_add-looks-then-at-start-2 c =
    let l = c.loop-clear.invariant in
    omega (arith, looked l.0)

pub overflow_add-looks-then-digits-ne0 : goal.overflow_add-looks-then-digits-ne0
overflow_add-looks-then-digits-ne0 c =
    let l = c.loop-clear.invariant in
    omega (arith, looked l.0)

pub overflow_add-looks-then-digits-ne0-2 : goal.overflow_add-looks-then-digits-ne0-2
overflow_add-looks-then-digits-ne0-2 c =
    let l = c.loop-clear.invariant in
    omega (arith, looked l.0)

pub overflow_sub-used : goal.overflow_sub-used
overflow_sub-used c = within (c.loop-looks.last - (c.args.n - 1)) _ _ (omega arith)

pub overflow_sub-bits : goal.overflow_sub-bits
overflow_sub-bits c = omega arith

pub overflow_add-last-then-digits-ne0 : goal.overflow_add-last-then-digits-ne0
overflow_add-last-then-digits-ne0 c =
    let l = c.loop-clear.invariant in
    record { fits = fits_next _ c.clear_above-clear.result _ _ (below l.1 l.3) l.0.ends (omega arith) (omega arith) }

pub search-smaller : goal.search-smaller
search-smaller c =
    let l = c.loop-clear.invariant in
    let k = c.loop-looks.invariant in
    less _ _ _ (behind _ _ _ _ _ _ (low l.1) (omega arith) l.2 k.2) (omega (arith, l.0.ends, l.2, k.2))

pub search-preserved : goal.search-preserved
search-preserved c =
    let l = c.loop-clear.invariant in
    let d = one_down _ _ c.digits_down-digits.ensures c.clear_above-clear.ensures c.if-digits-ne0.true in
    let sum : c.loop-clear.looks + (c.clear_above-clear.result + 1) ≡ c.loop-clear.looks + c.clear_above-clear.result + 1 = omega arith in
    let k = rest_of _ (c.loop-clear.end - 1) c.clear_above-clear.result (low l.1) (omega arith) in
    (omega arith, rw sum (sought_next _ _ _ k.0 (looking_more _ _ _ (low l.1) l.0 _ _ k.1 d.0.clear) d.1 _ (next_start _ _ (omega arith))), under _ _ _ (omega arith) (omega arith))

pub overflow_mul-end : goal.overflow_mul-end
overflow_mul-end c = let l = c.loop-clear.invariant in omega (arith, l.0.ends, l.3)

pub overflow_sub-looks-then-end-start : goal.overflow_sub-looks-then-end-start
overflow_sub-looks-then-end-start c = low c.loop-clear.invariant.1

pub overflow_add-looks-then-end-start : goal.overflow_add-looks-then-end-start
overflow_add-looks-then-end-start c =
    let l = c.loop-clear.invariant in
    omega (arith, looked l.0)

pub overflow_add-looks-then-end-start-2 : goal.overflow_add-looks-then-end-start-2
overflow_add-looks-then-end-start-2 c =
    let l = c.loop-clear.invariant in
    omega (arith, looked l.0)

pub overflow_sub-looks-in-loop-clear : goal.overflow_sub-looks-in-loop-clear
overflow_sub-looks-in-loop-clear c = (word_bits _).0

pub overflow_add-looks-in-loop-clear : goal.overflow_add-looks-in-loop-clear
overflow_add-looks-in-loop-clear c = omega (arith, (word_bits (c.loop-clear.end - 1)).1)

pub overflow_add-looks-in-loop-clear-2 : goal.overflow_add-looks-in-loop-clear-2
overflow_add-looks-in-loop-clear-2 c =
    let l = c.loop-clear.invariant in
    omega (arith, looked l.0, (word_bits (c.loop-clear.end - 1)).1)

pub loop-clear-smaller : goal.loop-clear-smaller
loop-clear-smaller c = omega (arith, (word_bits (c.loop-clear.end - 1)).0, c.loop-clear.invariant.1)

pub loop-clear-preserved : goal.loop-clear-preserved
loop-clear-preserved c =
    let l = c.loop-clear.invariant in
    let at = c.loop-clear.end - 1 in
    let d = all_down _ _ (sym c.digits_down-digits.ensures ∙ c.if-digits-ne0.false) in (
      looking_more _ _ _ (low l.1) l.0 _ _ (word_rest _ _ _ (word_bits at).0 (omega arith)) (λ j h. d.clear j (omega (arith, (word_bits at).1))),
      omega arith,
      l.2,
      omega (arith, l.1, l.3, (word_bits at).0),
    )

-- the last bit, a start and the looks where the search ends: with a run, and with none
module _ {m : List ℕ} {n bits start looks : ℕ} (some : 0 < n) where
  with_run : Looking m n bits start looks 0 → record { start : (start ≡ lowest_run (is_clear m) n bits) × (start < bits); few : looks ≤ 2 * bits }
  with_run l = let f = found m n bits some l in record { start = (f.0, omega (arith, l.ends)); few = f.1 }

  with_none : Sought m n bits start looks → bits < start + n → record { start : bits ≡ lowest_run (is_clear m) n bits; few : looks ≤ 2 * bits }
  with_none s h = let f = none m n bits some s h in record { start = f.0; few = f.1 }

pub returns-then-bits-last : goal.returns-then-bits-last
returns-then-bits-last c =
    let l = c.loop-looks.invariant in
    let s = sought_next _ _ _ (omega arith) (window (omega arith) l.0 (omega arith) l.1) (λ z. c.if-bit-eq0.false (c.bit.ensures ∙ z)) (suc c.loop-looks.last) refl in
    with_none c.requires.0 s (omega (arith, l.0))

pub returns-then-n-le1 : goal.returns-then-n-le1
returns-then-n-le1 c =
    let l = c.loop-looks.invariant in
    let w = window (omega arith) l.0 (omega arith) l.1 in
    with_run (omega arith) (looking_more _ _ _ (omega arith) w 1 0 (omega arith) (one_clear _ _ (sym c.bit.ensures ∙ c.if-bit-eq0.true)))

pub returns-then-at-start : goal.returns-then-at-start
returns-then-at-start c =
    let l = c.loop-clear.invariant in
    let d = one_down _ _ c.digits_down-digits.ensures c.clear_above-clear.ensures c.if-digits-ne0.true in
    with_run (omega arith) (looking_more _ _ _ (low l.1) l.0 _ 0 (omega arith) (λ j h. d.0.clear j (among _ _ _ h c.if-at-start.true)))

pub returns-then-bits-n : goal.returns-then-bits-n
returns-then-bits-n c =
    let l = c.loop-clear.invariant in
    let d = one_down _ _ c.digits_down-digits.ensures c.clear_above-clear.ensures c.if-digits-ne0.true in
    let sum : c.loop-clear.looks + (c.clear_above-clear.result + 1) ≡ c.loop-clear.looks + c.clear_above-clear.result + 1 = omega arith in
    let k = rest_of _ (c.loop-clear.end - 1) c.clear_above-clear.result (low l.1) (omega arith) in
    let next = sought_next _ _ _ k.0 (looking_more _ _ _ (low l.1) l.0 _ _ k.1 d.0.clear) d.1 _ refl in
    rw sum (with_none c.requires.0 next (over _ _ _ (omega arith)))

pub returns-then-end-start : goal.returns-then-end-start
returns-then-end-start c =
    let l = c.loop-clear.invariant in
    let d = all_down _ _ (sym c.digits_down-digits.ensures ∙ c.if-digits-ne0.false) in
    with_run (omega arith) (looking_more _ _ _ (low l.1) l.0 _ 0 (omega arith) (λ j h. d.clear j (omega arith)))
