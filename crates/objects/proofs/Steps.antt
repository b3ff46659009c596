-- One law for each way that a lookup ends, over what its code has read.
-- Assumes nothing.
use Rattle.std.specs.Prelude.{ℕ, suc, ◌+◌, ◌-◌, ◌/◌, ◌≤◌, ◌<◌, List, ◌≡◌, refl, leb, length, get_or, Some, None}
use Rattle.std.proofs.Math.Path.{sym}
use Rattle.std.proofs.Common.{ap, ◌∙◌, arith, leb-true, leb-false, le-leb}
use Rattle.std.proofs.lemmas.Bool.{lt-leb}
use Rattle.layout.specs.Choice.{pick, cases, pick_true, pick_false}
use Rattle.layout.specs.Handle.{offset_of, area_of, generation_of}
use Rattle.layout.specs.HandleLaws.{area_lt, offset_lt}
use Rattle.layout.specs.Header.{slots_of, data_of}
use Rattle.bitmap.specs.Bitmap.{bit_at}
use Rattle.model.specs.declared.Area.{Area}
use Rattle.model.specs.State.{State, Memory, area_at, is_scope, store_of, bit_index}
use Rattle.model.specs.Checks.{header_at}
use Rattle.model.specs.Invariant.{Good}
use Rattle.tables.specs.Decode.{state_of}
use Rattle.tables.specs.Contract.{Ready}
use Rattle.stores.specs.Stores.{pick_most}
use Rattle.objects.specs.Fits.{StoresFitIn}
use Rattle.objects.specs.Found.{object_of, found_of, ends_of}
use Rattle.objects.proofs.Places.{AreaWords, area_words_lem, found_at, found_nothing}

-- ---- the last step

module _ (n a at b u : ℕ) where
  pub ends_at : slots_of n + data_of n < u → Some (record { area = a; at = at; bit = b; slots = slots_of n; data_words = data_of n }) ≡ ends_of n a at b u
  unfolding ends_of
  ends_at k = sym (pick_true (leb (suc (slots_of n + data_of n)) u) _ _ (le-leb (suc (slots_of n + data_of n)) u (omega arith)))

  pub ends_out : u ≤ slots_of n + data_of n → None ≡ ends_of n a at b u
  unfolding ends_of
  ends_out k = sym (pick_false (leb (suc (slots_of n + data_of n)) u) _ _ (lt-leb (suc (slots_of n + data_of n)) u (omega arith)))

ends_found : (s : State) (m : Memory) (h : ℕ) → Good s
    → generation_of h ≡ (area_at s (area_of h)).generation → offset_of h < (area_at s (area_of h)).used → bit_at m.map (bit_index s (area_of h) (offset_of h)) ≡ 1
    → ends_of (header_at s m h) (area_of h) ((area_at s (area_of h)).start + offset_of h) (bit_index s (area_of h) (offset_of h)) ((area_at s (area_of h)).used - offset_of h)
    ≡ found_of s m h
unfolding ends_of object_of
ends_found s m h g e u b =
    let n = header_at s m h in
    cases (leb (suc (slots_of n + data_of n)) ((area_at s (area_of h)).used - offset_of h))
    (λ k. rw k (found_at s m h g (record { generation = e; used = u; bit = b; whole = omega (arith, leb-true (suc (slots_of n + data_of n)) ((area_at s (area_of h)).used - offset_of h) k) })))
    (λ k. rw k (found_nothing s m h (λ l. omega (arith, l.whole, leb-false (suc (slots_of n + data_of n)) ((area_at s (area_of h)).used - offset_of h) k))))

-- a bit that is not 0 is 1
bit_one : (l : List ℕ) (w : ℕ) → (bit_at l w ≡ 0 → ⊥) → bit_at l w ≡ 1
unfolding bit_at
bit_one l w n = omega arith

-- ---- the steps

-- what the code has read: the handle's area and offset, and the area's record
pub record HandleRead (w b : List ℕ) (m : Memory) (h a o : ℕ) (x : Area) : Type 0 where
  pub ready : Ready w b
  pub fitting : StoresFitIn (state_of w b) m
  pub area_is : a ≡ area_of h
  pub offset_is : o ≡ offset_of h
  pub record_is : x ≡ area_at (state_of w b) a

module _ (w b : List ℕ) (m : Memory) (h a o : ℕ) (x : Area) (d : HandleRead w b m h a o x) where
  pub offset_low : o < 16384
  offset_low = rw d.offset_is (offset_lt h)

  here : x ≡ area_at (state_of w b) (area_of h)
  here = d.record_is ∙ ap (area_at (state_of w b)) d.area_is

  in_area : AreaWords (state_of w b) m (area_of h)
  in_area = area_words_lem (state_of w b) m d.ready.good d.fitting (area_of h) (area_lt h)

  pub other_generation : (g : ℕ) → g ≡ generation_of h → (g ≡ x.generation → ⊥) → None ≡ found_of (state_of w b) m h
  other_generation g e n = found_nothing (state_of w b) m h (λ l. n (e ∙ l.generation ∙ sym (ap (λ (y : Area). y.generation) here)))

  pub past_used : x.used ≤ o → None ≡ found_of (state_of w b) m h
  past_used k = found_nothing (state_of w b) m h (λ l. omega (arith, l.used, k, d.offset_is, ap (λ (y : Area). y.used) here))

  module _ (k : o < x.used) where
    pub word_low : x.start + o < 16384
    word_low = omega (arith, in_area.used, in_area.low, ap (λ (y : Area). y.start) here, ap (λ (y : Area). y.used) here)

    pub bit_low : length m.permanent + (x.start + o) < 65536
    bit_low = omega (arith, word_low, in_area.first, d.fitting.permanent_is)

    pub word_in : x.start + o < length (store_of m a)
    word_in = rw d.area_is
        (omega (arith, in_area.used, in_area.words, ap (λ (y : Area). y.start) here, ap (λ (y : Area). y.used) here))

    module _ (i : ℕ) (e : i ≡ pick (is_scope a) (length m.permanent) 0 + (x.start + o)) where
      index_is : i ≡ bit_index (state_of w b) (area_of h) (offset_of h)
      index_is = e ∙ rw (d.area_is, d.offset_is, d.fitting.permanent_is, ap (λ (y : Area). y.start) here) refl

      pub bit_fits : i < 65536
      bit_fits = omega (arith, bit_low, e, pick_most (is_scope a) (length m.permanent))

      pub bit_in_lem : i / 64 < length m.map
      bit_in_lem = omega (arith, index_is, in_area.bits, in_area.used, d.offset_is, k, ap (λ (y : Area). y.used) here)

      pub no_bit : bit_at m.map i ≡ 0 → None ≡ found_of (state_of w b) m h
      no_bit z = found_nothing (state_of w b) m h (λ l. omega (arith, l.bit, z, ap (bit_at m.map) index_is))

      pub ends : generation_of h ≡ x.generation → (bit_at m.map i ≡ 0 → ⊥)
          → ends_of (get_or (store_of m a) (x.start + o) 0) a (x.start + o) i (x.used - o) ≡ found_of (state_of w b) m h
      ends g z = rw (index_is, here, d.area_is, d.offset_is)
          (ends_found (state_of w b) m h d.ready.good
          (g ∙ ap (λ (y : Area). y.generation) here)
          (omega (arith, k, d.offset_is, ap (λ (y : Area). y.used) here))
          (ap (bit_at m.map) (sym index_is) ∙ bit_one m.map i z))
