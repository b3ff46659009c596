-- A call that writes no word keeps a sound memory: no area's words change, or a scope opens, or a scope shuts and its objects are gone.
-- Assumes nothing.
use Prim.Native.Nat.{ℕ, ◌+◌, ◌≤◌, ◌<◌}
use mathlib.Core.Bool.{true}
use mathlib.Core.List.{List, [], ◌++◌}
use mathlib.Core.Path.{◌≡◌, refl, sym, ap, ◌∙◌}
use mathlib.Core.Logic.{◌≢◌, ◌⊎◌, inl, inr, ⊎_elim}
use lib.ListN.{get_or}
use lib.Dec.{eqb, ltb}
use native.Mathlib.Omega.{arith}
use borrow.Author.Tests.{ltb-true, ltb-false, eqb-true, eqb-false}
use Rattle.layout.specs.Choice.{cases}
use Rattle.layout.specs.Stack.{down}
use Rattle.layout.specs.Handle.{area_of, generation_of}
use Rattle.layout.specs.HandleLaws.{area_lt}
use Rattle.model.specs.declared.Area.{Area}
use Rattle.model.specs.State.{State, Memory, area_at, row_at, display_at, store_of, word_at}
use Rattle.model.specs.Checks.{fits}
use Rattle.model.specs.History.{Object, History, occurrences, handles, put_at}
use Rattle.model.specs.Invariant.{count_in, Good}
use Rattle.model.proofs.Lists.{occ_nil, occ_append}
use Rattle.model.proofs.Nesting.{display_open}
use Rattle.model.proofs.Memory.{Named, Kept, Bare, mem_nest, mem_frame, put_same, put_other}
use Rattle.model.proofs.Sound.{Same, used_in, generation_in, bit_in, Dead, Sound}
use Rattle.model.proofs.Live.{object_tile, tile_parts}
use Rattle.model.proofs.Parts.{Untouched}
use Rattle.model.proofs.Alters.{Alters, same_field}

-- ---- what such a call does to an area

-- its words stay where they are, and its generation never falls: it rises where the area opens
pub record Moved (y x : Area) : Type 0 where
  pub start : 0 < y.used → x.start ≡ y.start
  pub later : y.generation ≤ x.generation
  pub fresh : 0 < x.count → y.count ≡ 0 → y.generation < x.generation

-- used words, generation and display are as they were
pub record Still (s n : State) (a : ℕ) : Type 0 where
  pub used : used_in n a ≡ used_in s a
  pub generation : generation_in n a ≡ generation_in s a
  pub display : display_at n a ≡ display_at s a

module _ {s n : State} {a : ℕ} (u : Untouched s n a) where
  pub moved_same : Moved (area_at s a) (area_at n a)
  moved_same = rw u.area record { start = λ p. refl; later = omega arith; fresh = λ p q. absurd (omega arith) }

  pub still_same : Still s n a
  still_same = record {
    used = ap (λ (x : Area). x.used) u.area;
    generation = ap (λ (x : Area). x.generation) u.area;
    display = unfold display_at in rw (u.area, u.row);
  }

-- one area becomes x: what is to be known of x
module _ {s n : State} {q : ℕ} {x : Area} (e : Alters s n q x) where
  pub moved_all : Moved (area_at s q) x → (a : ℕ) → Moved (area_at s a) (area_at n a)
  moved_all v a = cases (eqb a q)
      (λ d. rw (eqb-true a q d, e.here) v)
      (λ d. moved_same (e.others a (eqb-false a q d)))

  pub still_all : ((a : ℕ) → row_at n a ≡ row_at s a) → x.used ≡ used_in s q → x.generation ≡ generation_in s q → x.depth ≡ (area_at s q).depth
      → (a : ℕ) → Still s n a
  still_all r u g d a = record {
    used = same_field e (λ (z : Area). z.used) u a;
    generation = same_field e (λ (z : Area). z.generation) g a;
    display = unfold display_at in rw (r a, same_field e (λ (z : Area). z.depth) d a);
  }

  -- no count falls to 0
  pub count_all : (x.count ≡ 0 → count_in s q ≡ 0) → (a : ℕ) → count_in n a ≡ 0 → count_in s a ≡ 0
  count_all f a z = cases (eqb a q)
      (λ y. ap (count_in s) (eqb-true a q y) ∙ f (sym (ap (λ (r : Area). r.count) e.here) ∙ sym (ap (count_in n) (eqb-true a q y)) ∙ z))
      (λ y. sym (ap (λ (r : Area). r.count) (e.others a (eqb-false a q y)).area) ∙ z)

-- ---- the memory as seen after the call

-- a handle that is dead stays so
pub dead_on : (s n : State) (h : ℕ) → Moved (area_at s (area_of h)) (area_at n (area_of h)) → Dead (count_in s) (generation_in s) h → Dead (count_in n) (generation_in n) h
dead_on s n h v d = record {
  scope = d.scope;
  old = omega (arith, d.old, v.later);
  past = λ p. cases (ltb 0 (count_in s (area_of h)))
      (λ e. omega (arith, d.past (ltb-true 0 (count_in s (area_of h)) e), v.later))
      (λ e. omega (arith, d.old, v.fresh p (omega (arith, ltb-false 0 (count_in s (area_of h)) e))));
}

module _ (s : State) (m : Memory) (b : History) (o : Sound s m b) (n : State) (c : History) (g : Good n) (i : Same n c) (ln : n.lengths ≡ s.lengths)
    (mv : (a : ℕ) → Moved (area_at s a) (area_at n a)) where
  word_stays : (a j : ℕ) → a < 64 → j < used_in s a → word_at n m a j ≡ word_at s m a j
  word_stays a j h p = ap (λ (x : ℕ). get_or (store_of m a) (x + j) 0) ((mv a).start (omega arith))

  bit_stays : (a j : ℕ) → a < 64 → j < used_in s a → bit_in n m a j ≡ bit_in s m a j
  bit_stays a j h p =
      let e : (area_at n a).start ≡ (area_at s a).start = (mv a).start (omega arith) in
      rw (e, ln)

  supplied_still : fits n m ≡ true
  unfolding fits
  supplied_still = rw ln o.supplied

  sound_kept : (os : ℕ → List Object) (gs : List ℕ) → c.objects ≡ os → c.gone ≡ gs
      → ((a : ℕ) → a < 64 → Kept (display_at s) (display_at n) (used_in s) (used_in n) (generation_in s) (generation_in n) b.objects os a ⊎ Bare (used_in n) os a)
      → ((a : ℕ) → 2 ≤ a → a < 64 → count_in n a ≡ 0 → os a ≡ [])
      → ((h : ℕ) → 0 < occurrences h gs → (0 < occurrences h b.gone) ⊎ Dead (count_in n) (generation_in n) h)
      → ((a : ℕ) → 64 ≤ a → os a ≡ [])
      → Sound n m c
  sound_kept os gs eo eg kp cl gn ab = record {
    good = g;
    same = i;
    supplied = supplied_still;
    memory = rw eo (mem_nest (mem_frame o.memory (word_at n m) (bit_in n m) word_stays bit_stays) (display_at n) (count_in n) (used_in n) (generation_in n) os kp cl);
    dead = rw eg (λ h p. ⊎_elim (λ q. dead_on s n h (mv (area_of h)) (o.dead h q)) (λ d. d) (gn h p));
    above = rw eo ab;
  }

  kept : (a : ℕ) → Still s n a → Kept (display_at s) (display_at n) (used_in s) (used_in n) (generation_in s) (generation_in n) b.objects b.objects a
  kept a z = record {
    used_same = z.used;
    generation_same = z.generation;
    objects_same = refl;
    names = λ x y. record { given = y.given; reach = ⊎_elim (λ r. inl r) (λ r. inr (r.0, rw (ap (occurrences (area_of x)) z.display) r.1)) y.reach };
  }

  -- every area is as it was, but for counts and parents, and none shuts
  pub sound_still : c.objects ≡ b.objects → c.gone ≡ b.gone → ((a : ℕ) → Still s n a) → ((a : ℕ) → count_in n a ≡ 0 → count_in s a ≡ 0) → Sound n m c
  sound_still eo eg st cl = sound_kept b.objects b.gone eo eg
      (λ a h. inl (kept a (st a)))
      (λ a h k z. o.memory.closed a h k (cl a z))
      (λ h p. inl p)
      o.above

  -- scope q opens
  pub sound_opens : c.objects ≡ b.objects → c.gone ≡ b.gone → (q : ℕ) → 2 ≤ q → q < 64 → count_in s q ≡ 0 → used_in n q ≡ 0
      → ((a : ℕ) → a ≢ q → Untouched s n a) → Sound n m c
  sound_opens eo eg q h k z u f = sound_kept b.objects b.gone eo eg
      (λ a l. cases (eqb a q)
      (λ e. inr record { none_used = ap (used_in n) (eqb-true a q e) ∙ u; no_objects = rw (eqb-true a q e) none })
      (λ e. inl (kept a (still_same (f a (eqb-false a q e))))))
      (λ a l j y. cases (eqb a q)
      (λ e. rw (eqb-true a q e) none)
      (λ e. o.memory.closed a l j (sym (ap (λ (x : Area). x.count) (f a (eqb-false a q e)).area) ∙ y)))
      (λ x p. inl p)
      o.above
    where
      none : b.objects q ≡ []
      none = o.memory.closed q h k z

  -- scope q shuts: its objects are gone
  module _ (q : ℕ) (hq : 2 ≤ q) (kq : q < 64) (z : count_in n q ≡ 0) (u : used_in n q ≡ 0) (f : (a : ℕ) → a ≢ q → Untouched s n a) where
    -- what an object of another area than q refers to, in another area than q, it still does
    still_named : (a x : ℕ) → a ≢ q → area_of x ≢ q → Named b.objects (display_at s) a x → Named (put_at b.objects q []) (display_at n) a x
    still_named a x ne nx y = record {
      given = rw (put_other b.objects q [] (area_of x) nx) y.given;
      reach = ⊎_elim (λ r. inl r) (λ r. inr (r.0, rw (ap (occurrences (area_of x)) (still_same (f a ne)).display) r.1)) y.reach;
    }

    -- an area that is open then does not refer to q: what its display has is open
    elsewhere : (a x : ℕ) → a < 64 → a ≢ q → (a < 2) ⊎ ((2 ≤ a) × (0 < count_in n a)) → Named b.objects (display_at s) a x → area_of x ≢ q
    elsewhere a x h ne op y e = ⊎_elim
        (λ r. absurd (omega arith))
        (λ r. ⊎_elim
        (λ lo. absurd (omega (arith, r.1, ap (occurrences (area_of x)) (low lo), occ_nil (area_of x))))
        (λ hi. absurd (omega (
          arith,
          ap (count_in n) e,
          display_open g.nesting a (area_of x) hi.0 h hi.1 r.0 (area_lt x) (rw (ap (occurrences (area_of x)) (still_same (f a ne)).display) r.1),
        )))
        op)
        y.reach
      where
        low : a < 2 → display_at s a ≡ []
        low lo = unfold display_at down in rw (o.good.standing a lo).depth

    shut_kept : (a : ℕ) → a < 64 → a ≢ q → (a < 2) ⊎ ((2 ≤ a) × (0 < count_in n a))
        → Kept (display_at s) (display_at n) (used_in s) (used_in n) (generation_in s) (generation_in n) b.objects (put_at b.objects q []) a
    shut_kept a h ne op = record {
      used_same = (still_same (f a ne)).used;
      generation_same = (still_same (f a ne)).generation;
      objects_same = put_other b.objects q [] a ne;
      names = λ x y. still_named a x ne (elsewhere a x h ne op y) y;
    }

    shut_bare : (a : ℕ) → 2 ≤ a → a < 64 → a ≢ q → count_in n a ≡ 0 → Bare (used_in n) (put_at b.objects q []) a
    shut_bare a h k ne w =
        let e : b.objects a ≡ [] = o.memory.closed a h k (sym (ap (λ (y : Area). y.count) (f a ne).area) ∙ w) in
        record { none_used = (still_same (f a ne)).used ∙ (rw e at (o.memory.tiles a k)); no_objects = put_other b.objects q [] a ne ∙ e }

    shut_dead : (h : ℕ) → 0 < occurrences h (handles (b.objects q)) → Dead (count_in n) (generation_in n) h
    shut_dead h p = record {
      scope = rw is hq;
      old = rw is (omega (arith, (mv q).later, generation_is));
      past = λ w. absurd (omega (arith, ap (count_in n) is));
    }
      where
        is : area_of h ≡ q
        is =
            let t = object_tile s m b o q kq h p in
            ap area_of (sym t.2) ∙ (tile_parts s m b o q kq t.3 t.4).0

        generation_is : generation_of h ≡ generation_in s q
        generation_is =
            let t = object_tile s m b o q kq h p in
            ap generation_of (sym t.2) ∙ (tile_parts s m b o q kq t.3 t.4).1

    pub sound_shuts : c.objects ≡ put_at b.objects q [] → c.gone ≡ handles (b.objects q) ++ b.gone → Sound n m c
    sound_shuts eo eg = sound_kept (put_at b.objects q []) (handles (b.objects q) ++ b.gone) eo eg
        (λ a h. cases (eqb a q)
        (λ e. inr record { none_used = ap (used_in n) (eqb-true a q e) ∙ u; no_objects = rw (eqb-true a q e) (put_same b.objects q []) })
        (λ e. cases (ltb a 2)
        (λ lo. inl (shut_kept a h (eqb-false a q e) (inl (ltb-true a 2 lo))))
        (λ hi. cases (ltb 0 (count_in n a))
        (λ w. inl (shut_kept a h (eqb-false a q e) (inr (ltb-false a 2 hi, ltb-true 0 (count_in n a) w))))
        (λ w. inr (shut_bare a (ltb-false a 2 hi) h (eqb-false a q e) (omega (arith, ltb-false 0 (count_in n a) w)))))))
        (λ a h k w. cases (eqb a q)
        (λ e. rw (eqb-true a q e) (put_same b.objects q []))
        (λ e. (shut_bare a h k (eqb-false a q e) w).no_objects))
        (λ h p. cases (ltb 0 (occurrences h (handles (b.objects q))))
        (λ e. inr (shut_dead h (ltb-true 0 (occurrences h (handles (b.objects q))) e)))
        (λ e. inl (omega (arith, ltb-false 0 (occurrences h (handles (b.objects q))) e, occ_append h (handles (b.objects q)) b.gone))))
        (λ a h. put_other b.objects q [] a (λ e. omega arith) ∙ o.above a h)
