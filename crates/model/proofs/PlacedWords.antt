-- Where the words of the areas lie: each inside its store, with its bit inside the map, and no two at one place or one bit.
-- Assumes nothing.
use Prim.Native.Nat.{ℕ, zero, suc, ◌+◌, ◌/◌, ◌≤◌, ◌<◌}
use mathlib.Core.Bool.{true}
use mathlib.Core.List.{List}
use mathlib.Core.Path.{◌≡◌, refl, sym, ap, ◌∙◌}
use lib.ListN.{length, get_or}
use lib.Dec.{eqb, leb}
use native.Mathlib.Omega.{arith}
use borrow.Author.Tests.{leb-true, leb-false, eqb-true, eqb-false}
use Rattle.layout.specs.Choice.{cases, and_true}
use Rattle.model.specs.State.{State, Memory, area_at, is_scope, store_length, store_of, with_store, bit_index}
use Rattle.model.specs.Checks.{fits}
use Rattle.model.specs.Invariant.{Placed}

-- ---- inside

module _ (s : State) (g : Placed s) where
  -- heap and immortal lie in the permanent store
  low_inside : (a : ℕ) → a < 2 → (area_at s a).start + (area_at s a).size ≤ s.lengths.permanent
  low_inside zero h = omega (arith, g.heap, g.whole)
  low_inside (suc zero) h = omega (arith, g.immortal, g.whole)
  low_inside (suc (suc a)) h = absurd (omega arith)

  -- every area ends within its store
  pub inside : (a : ℕ) → a < 64 → (area_at s a).start + (area_at s a).size ≤ store_length s a
  inside a h = cases (leb 2 a)
      (λ e. rw e (omega (arith, g.below a (leb-true 2 a e) h)))
      (λ e. rw e (low_inside a (leb-false 2 a e)))

  -- so an offset has 14 bits
  store_room : (a : ℕ) → store_length s a ≤ 16384
  store_room a = cases (leb 2 a) (λ e. rw e g.scratch) (λ e. rw e g.permanent)

  pub size_room : (a : ℕ) → a < 64 → (area_at s a).size ≤ 16384
  size_room a h = omega (arith, inside a h, store_room a)

  pub room : (a : ℕ) → a < 64 → (area_at s a).used ≤ 16384
  room a h = omega (arith, g.used a h, size_room a h)

  -- a used word is one of the area's
  pub used_in_lem : (a : ℕ) → a < 64 → (j : ℕ) → j < (area_at s a).used → j < (area_at s a).size
  used_in_lem a h j p = omega (arith, g.used a h)

  -- the bit of a word is one of the map's
  bit_inside : (a : ℕ) → a < 64 → (j : ℕ) → j < (area_at s a).size → bit_index s a j < s.lengths.permanent + s.lengths.scratch
  bit_inside a h j p = cases (leb 2 a)
      (λ e. rw e (omega (arith, rw e at (inside a h))))
      (λ e. rw e (omega (arith, rw e at (inside a h))))

  -- ---- apart

  low_apart : (a c : ℕ) → a < 2 → c < 2 → (j k : ℕ) → j < (area_at s a).size → k < (area_at s c).size
      → (area_at s a).start + j ≡ (area_at s c).start + k → a ≡ c
  low_apart zero zero h i j k p q e = refl
  low_apart zero (suc zero) h i j k p q e = absurd (omega (arith, g.heap, g.immortal))
  low_apart (suc zero) zero h i j k p q e = absurd (omega (arith, g.heap, g.immortal))
  low_apart (suc zero) (suc zero) h i j k p q e = refl
  low_apart zero (suc (suc c)) h i j k p q e = absurd (omega arith)
  low_apart (suc zero) (suc (suc c)) h i j k p q e = absurd (omega arith)
  low_apart (suc (suc a)) c h i j k p q e = absurd (omega arith)

  high_apart : (a c : ℕ) → 2 ≤ a → a < 64 → 2 ≤ c → c < 64 → (j k : ℕ) → j < (area_at s a).size → k < (area_at s c).size
      → (area_at s a).start + j ≡ (area_at s c).start + k → a ≡ c
  high_apart a c l h m i j k p q e = cases (eqb a c)
      (λ d. eqb-true a c d)
      (λ d. absurd (g.apart a c l h m i (eqb-false a c d) j k p q e))

  module _ (a c : ℕ) (h : a < 64) (i : c < 64) (j k : ℕ) (p : j < (area_at s a).size) (q : k < (area_at s c).size) where
    -- two words with one bit are of one area
    one_area : bit_index s a j ≡ bit_index s c k → a ≡ c
    one_area e = cases (leb 2 a)
        (λ x. cases (leb 2 c)
        (λ y. high_apart a c (leb-true 2 a x) h (leb-true 2 c y) i j k p q (omega (arith, rw (x, y) at e)))
        (λ y. absurd (omega (arith, rw (x, y) at e, rw y at (inside c i)))))
        (λ x. cases (leb 2 c)
        (λ y. absurd (omega (arith, rw (x, y) at e, rw x at (inside a h))))
        (λ y. low_apart a c (leb-false 2 a x) (leb-false 2 c y) j k p q (omega (arith, rw (x, y) at e))))

    -- two words with one bit are one word
    pub one_word : bit_index s a j ≡ bit_index s c k → (a ≡ c) × (j ≡ k)
    one_word e =
        let is : a ≡ c = one_area e in
        (is, omega (arith, e, ap (λ (x : ℕ). bit_index s x 0) is))

    -- and so are two words at one place of one store
    pub one_place : is_scope a ≡ is_scope c → (area_at s a).start + j ≡ (area_at s c).start + k → (a ≡ c) × (j ≡ k)
    one_place f e = one_word (rw (f, e))

-- ---- lengths

module _ (s : State) (m : Memory) (f : fits s m ≡ true) where
  -- what is lent has the lengths of set-up
  pub record SuppliedLengths : Type 0 where
    pub permanent : length m.permanent ≡ s.lengths.permanent
    pub scratch : length m.scratch ≡ s.lengths.scratch
    pub map : length m.map ≡ s.lengths.map
    pub written : length m.written ≡ s.lengths.map

  pub supplied_lengths : SuppliedLengths
  unfolding fits
  supplied_lengths =
      let p = and_true (eqb (length m.permanent) s.lengths.permanent) _ f in
      let q = and_true (eqb (length m.scratch) s.lengths.scratch) _ p.1 in
      let r = and_true (eqb (length m.map) s.lengths.map) _ q.1 in
      record { permanent = eqb-true _ _ p.0; scratch = eqb-true _ _ q.0; map = eqb-true _ _ r.0; written = eqb-true _ _ r.1 }

  pub store_length_lem : (a : ℕ) → length (store_of m a) ≡ store_length s a
  store_length_lem a = cases (is_scope a) (λ e. rw e supplied_lengths.scratch) (λ e. rw e supplied_lengths.permanent)

  -- the same lengths fit
  pub fits_also : (n : Memory) → length n.permanent ≡ length m.permanent → length n.scratch ≡ length m.scratch
      → length n.map ≡ length m.map → length n.written ≡ length m.written → fits s n ≡ true
  unfolding fits
  fits_also n p q r w = rw (p, q, r, w) f

module _ (s : State) (m : Memory) (g : Placed s) (f : fits s m ≡ true) (a : ℕ) (h : a < 64) (j : ℕ) (p : j < (area_at s a).size) where
  -- a word lies inside its store
  pub word_in : (area_at s a).start + j < length (store_of m a)
  word_in = rw (store_length_lem s m f a) (omega (arith, inside s g a h))

  -- and its bit in a word of either map
  pub bit_in_lem : bit_index s a j / 64 < length m.map
  bit_in_lem = omega (arith, bit_inside s g a h j p, g.map, (supplied_lengths s m f).map)

  pub written_in : bit_index s a j / 64 < length m.written
  written_in = omega (arith, bit_inside s g a h j p, g.map, (supplied_lengths s m f).written)

-- ---- a store is replaced

module _ (m : Memory) (a : ℕ) (l : List ℕ) where
  -- the areas of that store find the new one
  pub replaced : (c : ℕ) → is_scope c ≡ is_scope a → store_of (with_store m a l) c ≡ l
  unfolding with_store
  replaced c e = rw e (cases (is_scope a) (λ d. rw d) (λ d. rw d))

  -- a word is as it was if it is of the other store, or if the new store has it too
  pub read_same : (c i : ℕ) → (is_scope c ≡ is_scope a → get_or l i 0 ≡ get_or (store_of m a) i 0) → get_or (store_of (with_store m a l) c) i 0 ≡ get_or (store_of m c) i 0
  unfolding with_store
  read_same c i f = cases (is_scope c)
      (λ d. cases (is_scope a) (λ x. rw (d, x) (rw x at (f (d ∙ sym x)))) (λ x. rw (d, x)))
      (λ d. cases (is_scope a) (λ x. rw (d, x)) (λ x. rw (d, x) (rw x at (f (d ∙ sym x)))))

  -- a store of the same length fits too
  pub store_fits : (s : State) → fits s m ≡ true → length l ≡ length (store_of m a) → fits s (with_store m a l) ≡ true
  unfolding with_store
  store_fits s f e = fits_also s m f (with_store m a l)
      (cases (is_scope a) (λ d. rw d) (λ d. rw d (rw d at e)))
      (cases (is_scope a) (λ d. rw d (rw d at e)) (λ d. rw d))
      refl refl
