-- The words of a found object: where they lie, and what a word read or written there is.
-- Assumes nothing.
use Rattle.std.specs.Prelude.{ℕ, suc, ◌+◌, ◌/◌, ◌≤◌, ◌<◌, List, ◌≡◌, length, get_or, set}
use Rattle.std.proofs.Math.Path.{refl, ap}
use Rattle.std.proofs.Common.{sym, ◌∙◌, subst, arith, zero-add}
use Rattle.layout.specs.Handle.{area_of, offset_of}
use Rattle.model.specs.State.{State, Memory, area_at, store_of, bit_index}
use Rattle.model.specs.References.{place_after, word_after, store_after}
use Rattle.model.specs.Data.{data_index}
use Rattle.model.specs.Invariant.{Good}
use Rattle.model.proofs.Accepted.{UseOk}
use Rattle.tables.specs.Contract.{memory_of}
use Rattle.objects.specs.declared.find.Resolved.{Resolved}
use Rattle.objects.specs.declared.index.Part.{Part}
use Rattle.objects.specs.declared.index.Part.TheVariants.{Slots, Data}
use Rattle.objects.specs.declared.index.WordPlace.{WordPlace}
use Rattle.objects.specs.Fits.{StoresFitIn}
use Rattle.objects.specs.Found.{object_of}
use Rattle.objects.proofs.Places.{Lies, lies}
use Rattle.stores.specs.Stores.{StoreWritten, stored_memory}
use Rattle.objects.specs.Indexed.{part_count, part_start, index_rest, word_index, word_of}
use Rattle.objects.proofs.Statuses.{area_is, slots_is, index_ok}

-- ---- the object

module _ (s : State) (m : Memory) (p : ℕ) (o : Resolved) (e : o ≡ object_of s m p) where
  header_at_lem : (object_of s m p).at ≡ (area_at s (area_of p)).start + offset_of p
  unfolding object_of
  header_at_lem = refl

  pub place_is : (i : ℕ) → o.at + 1 + i ≡ place_after s p i
  place_is i = omega (arith, ap (λ (x : Resolved). x.at) e, header_at_lem)

  pub index_is : (q : ℕ) → o.slots + q ≡ data_index s m p q
  index_is q = ap (λ (n : ℕ). n + q) (slots_is s m p o e)

  -- the object of an accepted call
  pub object_lies : Good s → StoresFitIn s m → (t : ℕ) → UseOk s m t p → Lies m o
  object_lies g f t u = subst (Lies m) (sym e) (lies s m p g f u.object)

  -- ---- word q of a part of it

  first_is : (part : Part) (q : ℕ) → part_start part o + q ≡ word_index part s m p q
  first_is Slots q = zero-add q
  first_is Data q = index_is q

  -- the bit of word i after the header
  bit_is : (i : ℕ) → o.bit + i + 1 ≡ bit_index s (area_of p) (suc (offset_of p + i))
  unfolding object_of
  bit_is i = omega (arith, ap (λ (x : Resolved). x.bit) e)

  at_is : (i : ℕ) → o.at + i + 1 ≡ place_after s p i
  at_is i = omega (arith, place_is i)

  pub word_place : (part : Part) (q : ℕ)
      → record { area = o.area; at = o.at + (part_start part o + q) + 1; bit = o.bit + (part_start part o + q) + 1 } ≡ word_of part s m p q
  unfolding word_of
  word_place part q = rw (first_is part q, at_is (word_index part s m p q), bit_is (word_index part s m p q), area_is s m p o e) refl

  -- a part ends with the object
  part_ends : (part : Part) → part_start part o + part_count part o ≤ o.slots + o.data_words
  part_ends Slots = omega arith
  part_ends Data = omega arith

  -- a part of the object of an accepted call, and a word of the part
  module _ (g : Good s) (f : StoresFitIn s m) (t : ℕ) (u : UseOk s m t p) (part : Part) (q : ℕ) (h : q < part_count part o) where
    pub word_low : o.at + (part_start part o + q) + 1 < 16384
    word_low = omega (arith, (object_lies g f t u).low, part_ends part)

    pub bit_low : o.bit + (part_start part o + q) + 1 < 32768
    bit_low = omega (arith, (object_lies g f t u).bits_low, part_ends part)

    word_inside : o.at + (part_start part o + q) + 1 < length (store_of m o.area)
    word_inside = omega (arith, (object_lies g f t u).inside, part_ends part)

    bit_inside : (o.bit + (part_start part o + q) + 1) / 64 < length m.map
    bit_inside = omega (arith, (object_lies g f t u).bits, part_ends part)

-- ---- a word that is found: it lies in its store, what is read there, and what a word written there leaves

module _ (part : Part) (s : State) (m : Memory) (p q : ℕ) (w : WordPlace) (e : w ≡ word_of part s m p q) where
  pub word_area : w.area ≡ area_of p
  unfolding word_of
  word_area = ap (λ (x : WordPlace). x.area) e

  pub word_in : Good s → StoresFitIn s m → (t : ℕ) → index_rest part s m t p q 0 ≡ 0 → w.at < length (store_of m w.area)
  word_in g f t z =
      let k = index_ok part s m t p q z in
      let d = e ∙ sym (word_place s m p _ refl part q) in
      rw d (word_inside s m p _ refl g f t k.0 part q k.1)

  -- and its bit in the start map
  pub bit_in_lem : Good s → StoresFitIn s m → (t : ℕ) → index_rest part s m t p q 0 ≡ 0 → w.bit / 64 < length m.map
  bit_in_lem g f t z =
      let k = index_ok part s m t p q z in
      let d = e ∙ sym (word_place s m p _ refl part q) in
      rw d (bit_inside s m p _ refl g f t k.0 part q k.1)

  pub word_read : get_or (store_of m w.area) w.at 0 ≡ word_after s m p (word_index part s m p q)
  unfolding word_of
  word_read = rw e refl

  pub word_written : (v : ℕ) {p' s' : List ℕ} → StoreWritten p' s' m.permanent m.scratch w.area (set (store_of m w.area) w.at v)
      → memory_of p' s' m.map m.written ≡ store_after s m p (word_index part s m p q) v
  unfolding word_of store_after
  word_written v z = stored_memory z m.map m.written ∙ rw e refl
