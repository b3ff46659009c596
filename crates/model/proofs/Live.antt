-- What the test of a handle says of a sound memory: live is what an allocation gave for an object that is not gone.
-- Assumes nothing.
use Prim.Native.Nat.{ℕ, suc, ◌+◌, ◌≤◌, ◌<◌}
use mathlib.Core.Bool.{Bool, true, false, ◌&&◌, ◌||◌}
use mathlib.Core.List.{List, []}
use mathlib.Core.Path.{◌≡◌, refl, sym, ap, ◌∙◌}
use lib.Dec.{eqb, leb, ltb}
use native.Mathlib.Omega.{arith}
use borrow.Author.Tests.{ltb-true, ltb-false, eqb-true, eq-eqb, ne_eqb, le-leb, lt-ltb, le-ltb}
use Rattle.layout.specs.Choice.{cases, and_true}
use Rattle.layout.specs.Handle.{null, handle_of, offset_of, area_of, generation_of}
use Rattle.layout.specs.Header.{slots_of, data_of}
use Rattle.layout.specs.HandleLaws.{packed, area_lt, area_packed, generation_packed}
use Rattle.model.specs.State.{State, Memory, is_open, display_at, word_at}
use Rattle.model.specs.Checks.{header_at, live}
use Rattle.model.specs.History.{Object, History, occurrences, handles}
use Rattle.model.specs.Claims.{In}
use Rattle.model.specs.Invariant.{count_in}
use Rattle.model.proofs.Lists.{occ_nil}
use Rattle.model.proofs.Tiles.{place, IsHeader, Tile, tiled_at, tiled_has}
use Rattle.model.proofs.Memory.{Ok}
use Rattle.model.proofs.Sound.{used_in, generation_in, bit_in, Dead, Sound}
use Rattle.model.proofs.PlacedWords.{room}

module _ (s : State) (m : Memory) (b : History) (o : Sound s m b) where
  -- an object of area a, with its tile
  pub object_tile : (a : ℕ) → a < 64 → (h : ℕ) → 0 < occurrences h (handles (b.objects a))
      → (x : Object) × (n : ℕ) × (x.handle ≡ h)
      × Tile (word_at s m a) (bit_in s m a) (Ok b.objects (display_at s) a) (λ y. handle_of y a (generation_in s a)) x n × (n ≤ used_in s a) × In x (b.objects a)
  object_tile a k h p = tiled_has _ _ _ _ (b.objects a) (used_in s a) h (o.memory.tiles a k) p

  -- the handles of area a's objects have its number and its generation
  pub tile_parts : (a : ℕ) → a < 64 → {x : Object} {n : ℕ}
      → Tile (word_at s m a) (bit_in s m a) (Ok b.objects (display_at s) a) (λ y. handle_of y a (generation_in s a)) x n → n ≤ used_in s a
      → (area_of x.handle ≡ a) × (generation_of x.handle ≡ generation_in s a)
  tile_parts a k {x} t l = (
    ap area_of t.made ∙ area_packed (place x) a (generation_in s a) small k,
    ap generation_of t.made ∙ generation_packed (place x) a (generation_in s a) small k,
  )
    where
      small : place x < 16384
      small = omega (arith, room s o.good.placed a k, t.ends)

  module _ (h : ℕ) where
    pub live_given : live s m h ≡ true → 0 < occurrences h (handles (b.objects (area_of h)))
    unfolding live
    live_given e =
        let p = and_true (ltb (area_of h) 2 || is_open s (area_of h)) _ e in
        let q = and_true (eqb (generation_of h) (generation_in s (area_of h))) _ p.1 in
        let r = and_true (ltb (offset_of h) (used_in s (area_of h))) _ q.1 in
        let u = and_true (bit_in s m (area_of h) (offset_of h)) _ r.1 in
        let z : 0 < occurrences (handle_of (offset_of h) (area_of h) (generation_in s (area_of h))) (handles (b.objects (area_of h)))
        = tiled_at _ _ _ _ (b.objects (area_of h)) (used_in s (area_of h)) (offset_of h) (o.memory.tiles (area_of h) (area_lt h)) (ltb-true _ _ r.0) u.0 in
        rw (ap (handle_of (offset_of h) (area_of h)) (sym (eqb-true _ _ q.0)) ∙ packed h) at z

    -- null is not live: the heap's generation is 1
    pub live_some : live s m h ≡ true → eqb h null ≡ false
    unfolding live area_of generation_of
    live_some e = ne_eqb h null (λ z.
        let p = and_true (ltb (area_of h) 2 || is_open s (area_of h)) _ e in
        let q = and_true (eqb (generation_of h) (generation_in s (area_of h))) _ p.1 in
        let g : generation_of h ≡ generation_in s (area_of h) = eqb-true _ _ q.0 in
        omega (arith, rw z at g, (o.good.standing 0 (omega arith)).generation))

    module _ (p : 0 < occurrences h (handles (b.objects (area_of h)))) where
      -- the area of an object that is not gone is open
      given_open : (ltb (area_of h) 2 || is_open s (area_of h)) ≡ true
      given_open = cases (ltb (area_of h) 2)
          (λ e. rw e)
          (λ e. rw e (cases (is_open s (area_of h))
          (λ c. c)
          (λ c. absurd (none (o.memory.closed (area_of h) (ltb-false (area_of h) 2 e) (area_lt h) (omega (arith, ltb-false 0 (count_in s (area_of h)) c)))))))
        where
          none : b.objects (area_of h) ≡ [] → ⊥
          none e = omega (arith, ap (λ (l : List Object). occurrences h (handles l)) e, occ_nil h)

      pub given_tile : (x : Object) × (n : ℕ) × (x.handle ≡ h)
          × Tile (word_at s m (area_of h)) (bit_in s m (area_of h)) (Ok b.objects (display_at s) (area_of h)) (λ y. handle_of y (area_of h) (generation_in s (area_of h))) x n
          × (n ≤ used_in s (area_of h)) × In x (b.objects (area_of h))
      given_tile = object_tile (area_of h) (area_lt h) h p

      pub given_place : place given_tile.0 ≡ offset_of h
      given_place = ap offset_of given_tile.2

      pub given_ends : suc (offset_of h + given_tile.0.slots + given_tile.0.data_words) ≤ used_in s (area_of h)
      given_ends = omega (arith, given_place, given_tile.3.ends, given_tile.4)

      -- what the header of an object that is not gone says
      pub given_head : IsHeader (header_at s m h) given_tile.0
      given_head = rw (← given_place) given_tile.3.head

      pub given_live : live s m h ≡ true
      unfolding live
      given_live = rw (given_open, same_generation, inside, on, whole)
        where
          same_generation : eqb (generation_of h) (generation_in s (area_of h)) ≡ true
          same_generation = eq-eqb _ _ (ap generation_of (sym given_tile.2) ∙ (tile_parts (area_of h) (area_lt h) given_tile.3 given_tile.4).1)

          inside : ltb (offset_of h) (used_in s (area_of h)) ≡ true
          inside = lt-ltb (offset_of h) (used_in s (area_of h)) (omega (arith, given_ends))

          on : bit_in s m (area_of h) (offset_of h) ≡ true
          on = ap (bit_in s m (area_of h)) (sym given_place) ∙ given_tile.3.on

          whole : leb (suc (offset_of h + slots_of (header_at s m h) + data_of (header_at s m h))) (used_in s (area_of h)) ≡ true
          whole = le-leb (suc (offset_of h + slots_of (header_at s m h) + data_of (header_at s m h))) (used_in s (area_of h)) (omega (arith, given_head.slots, given_head.data_words, given_ends))

    -- a handle that is dead is not live
    pub dead_not : Dead (count_in s) (generation_in s) h → live s m h ≡ false
    unfolding live
    dead_not d = cases (eqb (generation_of h) (generation_in s (area_of h)))
        (λ e. rw (le-ltb (area_of h) 2 d.scope, le-ltb 0 (count_in s (area_of h)) (closed e)))
        (λ e. rw e (and_no (ltb (area_of h) 2 || is_open s (area_of h))))
      where
        closed : eqb (generation_of h) (generation_in s (area_of h)) ≡ true → count_in s (area_of h) ≤ 0
        closed e = cases (is_open s (area_of h))
            (λ c. absurd (omega (arith, d.past (ltb-true 0 (count_in s (area_of h)) c), eqb-true (generation_of h) (generation_in s (area_of h)) e)))
            (λ c. ltb-false 0 (count_in s (area_of h)) c)

        and_no : (t : Bool) → t && false ≡ false
        and_no true = refl
        and_no false = refl
