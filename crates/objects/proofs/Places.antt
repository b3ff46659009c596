-- Where the words of an area lie in the lent memory, and what a live handle has passed.
-- Assumes nothing.
use Rattle.std.specs.Prelude.{ℕ, suc, ◌+◌, ◌*◌, ◌≤◌, ◌<◌, true, false, ◌||◌, List, refl, eqb, leb, ltb, length, Option, Some, None}
use Rattle.std.proofs.Math.Path.{◌≡◌, sym}
use Rattle.std.proofs.Common.{◌∙◌, arith}
use borrow.Author.Tests.{ltb-true, ltb-false, leb-true, eqb-true, eq-eqb, ne_eqb, lt-ltb, le-leb}
use Rattle.layout.specs.Choice.{pick, refuse, cases, pick_true, pick_false, and_true}
use Rattle.layout.specs.Handle.{null, offset_of, area_of, generation_of}
use Rattle.layout.specs.HandleLaws.{area_lt, slots_lt, data_lt}
use Rattle.layout.specs.Header.{slots_of, data_of}
use Rattle.bitmap.specs.Bitmap.{bit_at}
use Rattle.model.specs.State.{State, Memory, area_at, is_scope, is_open, store_of, bit_index, with_written}
use Rattle.model.specs.Checks.{header_at, live, is_object, is_reference}
use Rattle.model.specs.Invariant.{Good}
use Rattle.model.proofs.PlacedWords.{inside}
use Rattle.stores.specs.Stores.{pick_most}
use Rattle.objects.specs.declared.find.Resolved.{Resolved}
use Rattle.objects.specs.Fits.{StoresFitIn}
use Rattle.objects.specs.Found.{object_of, found_of, RefusedAs}

-- ---- the words of an area

-- where the words of area a lie: in its store, and in the map from a bit on
pub record AreaWords (s : State) (m : Memory) (a : ℕ) : Type 0 where
  pub used : (area_at s a).used ≤ (area_at s a).size
  pub words : (area_at s a).start + (area_at s a).size ≤ length (store_of m a)
  pub low : (area_at s a).start + (area_at s a).size ≤ 16384
  pub first : s.lengths.permanent ≤ 16384
  pub bits : pick (is_scope a) s.lengths.permanent 0 + ((area_at s a).start + (area_at s a).size) ≤ 64 * length m.map

pub area_words_lem : (s : State) (m : Memory) → Good s → StoresFitIn s m → (a : ℕ) → a < 64 → AreaWords s m a
area_words_lem s m g f a k =
    cases (leb 2 a)
    (λ e. let b = rw e at (inside s p a k) in record {
      used = p.used a k;
      words = rw e (omega (arith, b, f.scratch_is));
      low = omega (arith, b, p.scratch);
      first = p.permanent;
      bits = rw e (omega (arith, b, p.map, f.map_is));
    })
    (λ e. let b = rw e at (inside s p a k) in record {
      used = p.used a k;
      words = rw e (omega (arith, b, f.permanent_is));
      low = omega (arith, b, p.permanent);
      first = p.permanent;
      bits = rw e (omega (arith, b, p.map, f.map_is));
    })
  where
    p : Rattle.model.specs.Invariant.Placed s
    p = g.placed

-- ---- handles

module _ (s : State) (m : Memory) (h : ℕ) where
  -- what a live handle has passed; where it has, its area is heap, immortal or an open scope
  pub record Live : Type 0 where
    pub generation : generation_of h ≡ (area_at s (area_of h)).generation
    pub used : offset_of h < (area_at s (area_of h)).used
    pub bit : bit_at m.map (bit_index s (area_of h) (offset_of h)) ≡ 1
    pub whole : suc (offset_of h + slots_of (header_at s m h) + data_of (header_at s m h)) ≤ (area_at s (area_of h)).used

  pub live_ok : live s m h ≡ true → Live
  unfolding live
  live_ok e =
      let a = and_true (ltb (area_of h) 2 || is_open s (area_of h)) _ e in
      let b = and_true (eqb (generation_of h) (area_at s (area_of h)).generation) _ a.1 in
      let c = and_true (ltb (offset_of h) (area_at s (area_of h)).used) _ b.1 in
      let d = and_true (eqb (bit_at m.map (bit_index s (area_of h) (offset_of h))) 1) _ c.1 in
      record {
        generation = eqb-true (generation_of h) (area_at s (area_of h)).generation b.0;
        used = ltb-true (offset_of h) (area_at s (area_of h)).used c.0;
        bit = eqb-true (bit_at m.map (bit_index s (area_of h) (offset_of h))) 1 d.0;
        whole = leb-true (suc (offset_of h + slots_of (header_at s m h) + data_of (header_at s m h))) (area_at s (area_of h)).used d.1;
      }

  -- a scope that is not open has no used words
  open_used : Good s → offset_of h < (area_at s (area_of h)).used → ltb (area_of h) 2 || is_open s (area_of h) ≡ true
  open_used g u =
      cases (ltb (area_of h) 2)
      (λ e. rw e refl)
      (λ e. rw e (lt-ltb 0 (area_at s (area_of h)).count (some (ltb-false (area_of h) 2 e))))
    where
      some : 2 ≤ area_of h → 0 < (area_at s (area_of h)).count
      some k =
          cases (ltb 0 (area_at s (area_of h)).count)
          (λ e. ltb-true 0 (area_at s (area_of h)).count e)
          (λ e. let z : (area_at s (area_of h)).count ≡ 0 = omega (arith, ltb-false 0 (area_at s (area_of h)).count e) in
          absurd (omega (arith, (g.scopes (area_of h) k (area_lt h)).no_words z)))

  pub ok_live : Good s → Live → live s m h ≡ true
  unfolding live
  ok_live g l = rw (
    open_used g l.used,
    eq-eqb (generation_of h) (area_at s (area_of h)).generation l.generation,
    lt-ltb (offset_of h) (area_at s (area_of h)).used l.used,
    eq-eqb (bit_at m.map (bit_index s (area_of h) (offset_of h))) 1 l.bit,
  ) (le-leb (suc (offset_of h + slots_of (header_at s m h) + data_of (header_at s m h))) (area_at s (area_of h)).used l.whole)

  -- the two ways that a lookup ends
  pub found_at : Good s → Live → Some (object_of s m h) ≡ found_of s m h
  unfolding found_of
  found_at g l = sym (pick_true (live s m h) (Some (object_of s m h)) None (ok_live g l))

  pub found_nothing : (Live → ⊥) → None ≡ found_of s m h
  unfolding found_of
  found_nothing n = cases (live s m h) (λ e. absurd (n (live_ok e))) (λ e. sym (pick_false (live s m h) (Some (object_of s m h)) None e))

  -- and what each says
  pub at_live : (o : Resolved) → Some o ≡ found_of s m h → (live s m h ≡ true) × (o ≡ object_of s m h)
  unfolding found_of
  at_live o e =
      cases (live s m h)
      (λ k. (k, let d : Some o ≡ Some (object_of s m h) = e ∙ pick_true (live s m h) (Some (object_of s m h)) None k in cc))
      (λ k. let d : Some o ≡ None = e ∙ pick_false (live s m h) (Some (object_of s m h)) None k in cc)

  pub nothing_live : None ≡ found_of s m h → live s m h ≡ false
  unfolding found_of
  nothing_live e =
      cases (live s m h)
      (λ k. let d : None ≡ Some (object_of s m h) = e ∙ pick_true (live s m h) (Some (object_of s m h)) None k in cc)
      (λ k. k)

-- null leads to nothing: the heap's generation is 1
pub null_dead : (s : State) (m : Memory) → Good s → live s m null ≡ false
unfolding area_of generation_of
null_dead s m g =
    cases (live s m null)
    (λ e. absurd (omega (arith, (live_ok s m null e).generation, (g.standing 0 (omega arith)).generation)))
    (λ e. e)

pub object_live : (s : State) (m : Memory) (p : ℕ) → Good s → is_object s m p ≡ live s m p
unfolding is_object
object_live s m p g =
    cases (eqb p null)
    (λ e. rw (eqb-true p null e) (sym (null_dead s m g)))
    (λ e. rw e refl)

-- the numbers of what a lookup finds are those of refusals 13 and 15
number_is : (s : State) (m : Memory) (h : ℕ) → Good s → {r : Option Resolved} → r ≡ found_of s m h → RefusedAs s m h r
unfolding found_of refuse is_reference
number_is s m h g e = record {
  as_object = rw (e, object_live s m h g) (cases (live s m h) (λ k. rw k) (λ k. rw k));
  as_reference = λ n. rw (e, ne_eqb h 0 n) (cases (live s m h) (λ k. rw k) (λ k. rw k));
}

-- whatever the written map is
pub refused_as : (s : State) (m : List ℕ → Memory) (h : ℕ) → Good s → {r : Option Resolved} → ((x : List ℕ) → r ≡ found_of s (m x) h)
    → ((x : List ℕ) → r ≡ found_of s (m x) h) × ((x : List ℕ) → RefusedAs s (m x) h r)
refused_as s m h g e = (e, λ x. number_is s (m x) h g (e x))

-- a look-up's answer by both clauses
pub looked_up : (s : State) (m : Memory) (h : ℕ) → Good s → {r : Option Resolved} → r ≡ found_of s m h → record { found : r ≡ found_of s m h; number : RefusedAs s m h r }
looked_up s m h g e = record { found = e; number = number_is s m h g e }

-- ---- whatever the written map is, x, the same is found

module _ (s : State) (m : Memory) (x : List ℕ) (h : ℕ) where
  pub object_any : object_of s (with_written m x) h ≡ object_of s m h
  unfolding object_of
  object_any = refl

  pub live_any : live s (with_written m x) h ≡ live s m h
  unfolding live
  live_any = refl

  pub found_any : found_of s (with_written m x) h ≡ found_of s m h
  unfolding found_of live object_of
  found_any = refl

  pub number_any : (r : Option Resolved) → RefusedAs s m h r → RefusedAs s (with_written m x) h r
  unfolding is_object is_reference
  number_any r n = record { as_object = rw live_any n.as_object; as_reference = λ k. rw live_any (n.as_reference k) }

-- ---- the object that a handle leads to

-- where an object lies: the words of its header, slots and data are words of its store, and have their bits in the map
pub record Lies (m : Memory) (o : Resolved) : Type 0 where
  pub area : o.area < 64
  pub slots : o.slots < 16384
  pub words : o.data_words < 16384
  pub low : suc (o.at + o.slots + o.data_words) ≤ 16384
  pub inside : suc (o.at + o.slots + o.data_words) ≤ length (store_of m o.area)
  pub bits_low : suc (o.bit + o.slots + o.data_words) ≤ 32768
  pub bits : suc (o.bit + o.slots + o.data_words) ≤ 64 * length m.map

pub lies : (s : State) (m : Memory) (h : ℕ) → Good s → StoresFitIn s m → live s m h ≡ true → Lies m (object_of s m h)
unfolding object_of
lies s m h g f e =
    let l = live_ok s m h e in
    let w = area_words_lem s m g f (area_of h) (area_lt h) in
    record {
      area = area_lt h;
      slots = slots_lt (header_at s m h);
      words = data_lt (header_at s m h);
      low = omega (arith, l.whole, w.used, w.low);
      inside = omega (arith, l.whole, w.used, w.words);
      bits_low = omega (arith, l.whole, w.used, w.low, w.first, pick_most (is_scope (area_of h)) s.lengths.permanent);
      bits = omega (arith, l.whole, w.used, w.bits);
    }
