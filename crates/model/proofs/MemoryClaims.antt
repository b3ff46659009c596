-- What a sound memory says for the claims: what slots hold, that no load yields 15, and which handles the history's objects have.
-- Assumes nothing.
use Prim.Native.Nat.{ℕ, suc, ◌+◌, ◌≤◌, ◌<◌}
use mathlib.Core.Bool.{Bool, true, false, not, ◌||◌, false≢true}
use mathlib.Core.List.{List, []}
use mathlib.Core.Path.{◌≡◌, refl, sym, ap, ◌∙◌}
use mathlib.Core.Logic.{◌≢◌, ⊎_elim}
use lib.Dec.{eqb, leb}
use native.Mathlib.Omega.{arith}
use borrow.Author.Tests.{leb-false, eq-eqb, not-false}
use Rattle.layout.specs.Choice.{refuse, and_true}
use Rattle.layout.specs.Handle.{null, handle_of, offset_of, area_of}
use Rattle.layout.specs.Header.{slots_of}
use Rattle.model.specs.State.{State, Memory, display_at, word_at}
use Rattle.model.specs.Checks.{fits, is_started, fitted, called, admit, has_right, header_at, live, is_object, is_reference, use_rest}
use Rattle.model.specs.References.{word_after, slot_rest, reference_rest, load_rest}
use Rattle.model.specs.History.{Object, History, occurrences, handles}
use Rattle.model.specs.Claims.{In, first, later, Within}
use Rattle.model.proofs.Lists.{occ_same}
use Rattle.model.proofs.Tiles.{Tile, tiled_in, handles_in, tiled_one}
use Rattle.model.proofs.Memory.{Ok}
use Rattle.model.proofs.Sound.{used_in, generation_in, bit_in, Sound}
use Rattle.model.proofs.PlacedWords.{inside, store_length_lem}
use Rattle.model.proofs.Live.{tile_parts, given_live}
use Rattle.model.proofs.MemoryWords.{slot_word}

-- ---- objects and handles of a list

in_handles : {x : Object} {l : List Object} → In x l → 0 < occurrences x.handle (handles l)
unfolding occurrences
in_handles {x} (first {l = l}) = omega (arith, occ_same x.handle (handles l))
in_handles (later i) = omega (arith, in_handles i)

-- one refusal: it gives another number than 15, or its test fails
past_15 : (b : Bool) (k rest : ℕ) → (b ≡ true → k ≢ 15) → (b ≡ false → rest ≢ 15) → refuse b k rest ≢ 15
unfolding refuse
past_15 true k rest n f = n refl
past_15 false k rest n f = f refl

or_second : (x y : Bool) → y ≡ true → x || y ≡ true
or_second true y e = refl
or_second false y e = e

module _ (s : State) (m : Memory) (b : History) (o : Sound s m b) where
  -- an object's tile
  pub tile_of : (a : ℕ) (x : Object) → a < 64 → In x (b.objects a)
      → (n : ℕ) × Tile (word_at s m a) (bit_in s m a) (Ok b.objects (display_at s) a) (λ y. handle_of y a (generation_in s a)) x n × (n ≤ used_in s a)
  tile_of a x h i = tiled_in (used_in s a) i (o.memory.tiles a h)

  pub slot_holds : (a : ℕ) (x : Object) → In x (b.objects a) → a < 64 → (i : ℕ) → i < x.slots
      → Ok b.objects (display_at s) a (word_at s m a (suc (offset_of x.handle + i)))
  slot_holds a x k h i p = (tile_of a x h k).1.refs i p

  pub handle_area : (a : ℕ) (x : Object) → a < 64 → In x (b.objects a) → area_of x.handle ≡ a
  handle_area a x h i =
      let t = tile_of a x h i in
      (tile_parts s m b o a h t.1 t.2).0

  pub within : (a : ℕ) (x : Object) → a < 64 → In x (b.objects a) → Within s m a x
  within a x h i =
      let t = tile_of a x h i in
      record {
        area = handle_area a x h i;
        number = h;
        ends = omega (arith, t.1.ends, t.2);
        used = o.good.placed.used a h;
        inside = rw (store_length_lem s m o.supplied a) (inside s o.good.placed a h);
      }

  pub one_object : (a c : ℕ) (x y : Object) → a < 64 → c < 64 → In x (b.objects a) → In y (b.objects c) → x.handle ≡ y.handle → (a ≡ c) × (x ≡ y)
  one_object a c x y h k i j e =
      let same : a ≡ c = sym (handle_area a x h i) ∙ ap area_of e ∙ handle_area c y k j in
      (same, tiled_one (word_at s m a) (bit_in s m a) (Ok b.objects (display_at s) a) (λ y. handle_of y a (generation_in s a)) (used_in s a) i (rw (← same) at j) (o.memory.tiles a h) e)

  pub given_in : (h : ℕ) → 0 < occurrences h (handles (b.objects (area_of h))) → (x : Object) × In x (b.objects (area_of h)) × (x.handle ≡ h)
  given_in h p = handles_in h (b.objects (area_of h)) p

  pub in_given : (a : ℕ) (x : Object) → a < 64 → In x (b.objects a) → 0 < occurrences x.handle (handles (b.objects (area_of x.handle)))
  in_given a x h i = rw (handle_area a x h i) (in_handles i)

  pub no_objects_above : (a : ℕ) → 64 ≤ a → b.objects a ≡ []
  no_objects_above a h = o.above a h

  -- what a slot of a live object holds is a reference
  loaded : (p q : ℕ) → live s m p ≡ true → q < slots_of (header_at s m p) → is_reference s m (word_after s m p q) ≡ true
  unfolding is_reference
  loaded p q l h = ⊎_elim
      (λ e. rw (eq-eqb (word_after s m p q) null e))
      (λ n. or_second (eqb (word_after s m p q) null) (live s m (word_after s m p q)) (given_live s m b o (word_after s m p q) n.given))
      (slot_word s m b o p l q h)

  pub no_15 : (t p q : ℕ) → admit s m t (load_rest s m t p q) ≢ 15
  unfolding fitted called load_rest slot_rest use_rest reference_rest
  no_15 t p q =
      past_15 (not (fits s m)) 1 _ (λ x e. omega arith) (λ a.
      past_15 (leb 16 t) 2 _ (λ x e. omega arith) (λ c.
      past_15 (not (is_started s t)) 2 _ (λ x e. omega arith) (λ d.
      past_15 (not (is_object s m p)) 13 _ (λ x e. omega arith) (λ f.
      past_15 (not (has_right s t _ (area_of p))) 5 _ (λ x e. omega arith) (λ g.
      past_15 (leb (slots_of (header_at s m p)) q) 14 _ (λ x e. omega arith) (λ h.
      past_15 (not (is_reference s m (word_after s m p q))) 15 _ (λ x. absurd (is_one f h x)) (λ i.
      past_15 (not (eqb (word_after s m p q) null || has_right s t _ (area_of (word_after s m p q)))) 5 0 (λ x e. omega arith) (λ j e. omega arith))))))))
    where
      is_live : is_object s m p ≡ true → live s m p ≡ true
      is_live e = unfold is_object in (and_true (not (eqb p null)) (live s m p) e).1

      is_one : not (is_object s m p) ≡ false → leb (slots_of (header_at s m p)) q ≡ false → not (is_reference s m (word_after s m p q)) ≡ true → ⊥
      is_one f h x = false≢true (rw (loaded p q (is_live (not-false (is_object s m p) f)) (leb-false (slots_of (header_at s m p)) q h)) at x)
