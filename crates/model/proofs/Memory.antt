-- The invariant of the memory, over what is seen of it: words and start bits by area and offset, and the history's objects.
-- Assumes nothing.
use Prim.Native.Nat.{ℕ, suc, ◌+◌, ◌≤◌, ◌<◌}
use mathlib.Core.Bool.{Bool, false}
use mathlib.Core.List.{List, [], ◌∷◌}
use mathlib.Core.Path.{◌≡◌, refl, sym, ap, ◌∙◌, subst₂, fun_ext}
use mathlib.Core.Logic.{◌≢◌, ◌⊎◌, inl, inr, ⊎_elim}
use lib.Dec.{eqb}
use native.Mathlib.Omega.{arith}
use borrow.Author.Tests.{eqb-true, eqb-false, eq-eqb, ne_eqb}
use Rattle.layout.specs.Choice.{cases}
use Rattle.layout.specs.Handle.{handle_of, area_of}
use Rattle.model.specs.History.{Object, occurrences, handles, put_at, put_word}
use Rattle.model.proofs.Lists.{occ_more}
use Rattle.model.proofs.Tiles.{place, IsHeader, Tile, Tiled, tiled_frame, tiled_store, tiled_data, tiled_push}

-- an object of area a may refer to area c
abbrev pub Reach : (ℕ → List ℕ) → ℕ → ℕ → Type 0
Reach dis a c = (c < 2) ⊎ ((2 ≤ c) × (0 < occurrences c (dis a)))

-- w is the handle of a live object that an object of area a may refer to
pub record Named (objects : ℕ → List Object) (dis : ℕ → List ℕ) (a w : ℕ) : Type 0 where
  pub given : 0 < occurrences w (handles (objects (area_of w)))
  pub reach : Reach dis a (area_of w)

-- what a slot of an object of area a may hold
abbrev pub Ok : (ℕ → List Object) → (ℕ → List ℕ) → ℕ → ℕ → Type 0
Ok objects dis a w = (w ≡ 0) ⊎ Named objects dis a w

pub record Mem (dis : ℕ → List ℕ) (cnt used generation : ℕ → ℕ) (wd : ℕ → ℕ → ℕ) (bit : ℕ → ℕ → Bool) (objects : ℕ → List Object) : Type 0 where
  pub tiles : (a : ℕ) → a < 64 → Tiled (wd a) (bit a) (Ok objects dis a) (λ o. handle_of o a (generation a)) (objects a) (used a)
  pub closed : (a : ℕ) → 2 ≤ a → a < 64 → cnt a ≡ 0 → objects a ≡ []

ok_frame : (objects objects' : ℕ → List Object) (dis dis' : ℕ → List ℕ) (a : ℕ)
    → ((w : ℕ) → Named objects dis a w → Named objects' dis' a w) → (w : ℕ) → Ok objects dis a w → Ok objects' dis' a w
ok_frame objects objects' dis dis' a f w = ⊎_elim (λ e. inl e) (λ n. inr (f w n))

pub put_same {ℓ} : {A : Type ℓ} (f : ℕ → A) (q : ℕ) (v : A) → put_at f q v q ≡ v
unfolding put_at
put_same f q v = rw (eq-eqb q q refl)

pub put_other {ℓ} : {A : Type ℓ} (f : ℕ → A) (q : ℕ) (v : A) (a : ℕ) → a ≢ q → put_at f q v a ≡ f a
unfolding put_at
put_other f q v a h = rw (ne_eqb a q h)

-- one word of a handle is put
module _ (f : ℕ → ℕ → ℕ) (h i v : ℕ) where
  pub put_word_own : (k j : ℕ) → k ≡ h → j ≡ i → put_word f h i v k j ≡ v
  put_word_own k j d e = rw (d, e, put_same f h (put_at (f h) i v), put_same (f h) i v)

  pub put_word_other : (k j : ℕ) → (k ≡ h → j ≡ i → ⊥) → put_word f h i v k j ≡ f k j
  put_word_other k j n = cases (eqb k h)
      (λ e. rw (eqb-true k h e, put_same f h (put_at (f h) i v)) (put_other (f h) i v j (n (eqb-true k h e))))
      (λ e. rw (put_other f h (put_at (f h) i v) k (eqb-false k h e)))

-- an area after a call that writes no word: it is as it was, or it has no object
pub record Kept (dis dis' : ℕ → List ℕ) (used used' generation generation' : ℕ → ℕ) (objects objects' : ℕ → List Object) (a : ℕ) : Type 0 where
  pub used_same : used' a ≡ used a
  pub generation_same : generation' a ≡ generation a
  pub objects_same : objects' a ≡ objects a
  pub names : (w : ℕ) → Named objects dis a w → Named objects' dis' a w

pub record Bare (used : ℕ → ℕ) (objects : ℕ → List Object) (a : ℕ) : Type 0 where
  pub none_used : used a ≡ 0
  pub no_objects : objects a ≡ []

pub mem_nest : {dis : ℕ → List ℕ} {cnt used generation : ℕ → ℕ} {wd : ℕ → ℕ → ℕ} {bit : ℕ → ℕ → Bool} {objects : ℕ → List Object} → Mem dis cnt used generation wd bit objects
    → (dis' : ℕ → List ℕ) (cnt' used' generation' : ℕ → ℕ) (objects' : ℕ → List Object)
    → ((a : ℕ) → a < 64 → Kept dis dis' used used' generation generation' objects objects' a ⊎ Bare used' objects' a)
    → ((a : ℕ) → 2 ≤ a → a < 64 → cnt' a ≡ 0 → objects' a ≡ [])
    → Mem dis' cnt' used' generation' wd bit objects'
mem_nest {dis} {cnt} {used} {generation} {wd} {bit} {objects} m dis' cnt' used' generation' objects' f c = record {
  tiles = λ a h. ⊎_elim (λ k. kept a h k) (λ k. bare a k) (f a h);
  closed = c;
}
  where
    bare : (a : ℕ) → Bare used' objects' a → Tiled (wd a) (bit a) (Ok objects' dis' a) (λ o. handle_of o a (generation' a)) (objects' a) (used' a)
    bare a k = rw k.no_objects k.none_used

    kept : (a : ℕ) → a < 64 → Kept dis dis' used used' generation generation' objects objects' a → Tiled (wd a) (bit a) (Ok objects' dis' a) (λ o. handle_of o a (generation' a)) (objects' a) (used' a)
    kept a h k = rw (k.objects_same, k.used_same, k.generation_same)
        (tiled_frame (wd a) (wd a) (bit a) (bit a) (Ok objects dis a) (Ok objects' dis' a) (λ o. handle_of o a (generation a)) (objects a) (used a)
        (λ j p. refl) (λ j p. refl) (ok_frame objects objects' dis dis' a k.names) (m.tiles a h))

module _ {dis : ℕ → List ℕ} {cnt used generation : ℕ → ℕ} {wd : ℕ → ℕ → ℕ} {bit : ℕ → ℕ → Bool} {objects : ℕ → List Object} (m : Mem dis cnt used generation wd bit objects) where
  -- the same, seen through other functions
  pub mem_cong : (dis' : ℕ → List ℕ) (cnt' used' generation' : ℕ → ℕ) → ((a : ℕ) → dis' a ≡ dis a) → ((a : ℕ) → cnt' a ≡ cnt a)
      → ((a : ℕ) → used' a ≡ used a) → ((a : ℕ) → generation' a ≡ generation a) → Mem dis' cnt' used' generation' wd bit objects
  mem_cong dis' cnt' used' generation' d c u t =
      subst₂ (λ (x : ℕ → List ℕ) (y : ℕ → ℕ). Mem x y used' generation' wd bit objects) (fun_ext (λ a. sym (d a))) (fun_ext (λ a. sym (c a)))
      (subst₂ (λ (x y : ℕ → ℕ). Mem dis cnt x y wd bit objects) (fun_ext (λ a. sym (u a))) (fun_ext (λ a. sym (t a))) m)

  -- the used words are as they were
  pub mem_frame : (wd' : ℕ → ℕ → ℕ) (bit' : ℕ → ℕ → Bool)
      → ((a j : ℕ) → a < 64 → j < used a → wd' a j ≡ wd a j) → ((a j : ℕ) → a < 64 → j < used a → bit' a j ≡ bit a j) → Mem dis cnt used generation wd' bit' objects
  mem_frame wd' bit' f g = record {
    tiles = λ a h. tiled_frame (wd a) (wd' a) (bit a) (bit' a) (Ok objects dis a) (Ok objects dis a) (λ o. handle_of o a (generation a)) (objects a) (used a)
        (λ j i. f a j h i) (λ j i. g a j h i) (λ w x. x) (m.tiles a h);
    closed = m.closed;
  }

  -- one word of area b is replaced, where its objects still lie as they should
  mem_word : (b p : ℕ) (wd' : ℕ → ℕ → ℕ)
      → (b < 64 → ((j : ℕ) → j < used b → j ≢ p → wd' b j ≡ wd b j) → Tiled (wd' b) (bit b) (Ok objects dis b) (λ o. handle_of o b (generation b)) (objects b) (used b))
      → ((a j : ℕ) → a < 64 → j < used a → (a ≡ b → j ≡ p → ⊥) → wd' a j ≡ wd a j) → Mem dis cnt used generation wd' bit objects
  mem_word b p wd' here f = record {
    tiles = λ a h. cases (eqb a b)
        (λ q. let k : b < 64 = rw (eqb-true a b q) at h in rw (eqb-true a b q) (here k (λ j i ne. f b j k i (λ x y. ne y))))
        (λ q. tiled_frame (wd a) (wd' a) (bit a) (bit a) (Ok objects dis a) (Ok objects dis a) (λ o. handle_of o a (generation a)) (objects a) (used a)
        (λ j i. f a j h i (λ x y. eqb-false a b q x)) (λ j i. refl) (λ w x. x) (m.tiles a h));
    closed = m.closed;
  }

  -- at an offset where no object starts, by a word that a slot there may hold
  pub mem_store : (b p : ℕ) (wd' : ℕ → ℕ → ℕ) → bit b p ≡ false → Ok objects dis b (wd' b p)
      → ((a j : ℕ) → a < 64 → j < used a → (a ≡ b → j ≡ p → ⊥) → wd' a j ≡ wd a j) → Mem dis cnt used generation wd' bit objects
  mem_store b p wd' e k =
      mem_word b p wd' (λ l f. tiled_store (wd b) (wd' b) (bit b) (Ok objects dis b) _ p e k (objects b) (used b) f (m.tiles b l))

  -- a data word of the object with handle h
  pub mem_data : (b p h : ℕ) (wd' : ℕ → ℕ → ℕ)
      → ((o : Object) → o.handle ≡ h → IsHeader (wd b (place o)) o → (place o + o.slots < p) × (p ≤ place o + o.slots + o.data_words))
      → 0 < occurrences h (handles (objects b))
      → ((a j : ℕ) → a < 64 → j < used a → (a ≡ b → j ≡ p → ⊥) → wd' a j ≡ wd a j) → Mem dis cnt used generation wd' bit objects
  mem_data b p h wd' d k =
      mem_word b p wd' (λ l f. tiled_data (wd b) (wd' b) (bit b) (Ok objects dis b) _ p h d (objects b) (used b) f k (m.tiles b l))

  -- an object is made on top of area b
  pub mem_alloc : (b : ℕ) (o : Object) (used' : ℕ → ℕ) (wd' : ℕ → ℕ → ℕ) (bit' : ℕ → ℕ → Bool) → b < 64
      → (2 ≤ b → 0 < cnt b)
      → place o ≡ used b → used' b ≡ suc (used b + o.slots + o.data_words) → ((a : ℕ) → a ≢ b → used' a ≡ used a)
      → Tile (wd' b) (bit' b) (λ w. w ≡ 0) (λ x. handle_of x b (generation b)) o (suc (used b + o.slots + o.data_words))
      → ((a j : ℕ) → a < 64 → j < used a → wd' a j ≡ wd a j) → ((a j : ℕ) → a < 64 → j < used a → bit' a j ≡ bit a j)
      → Mem dis cnt used' generation wd' bit' (put_at objects b (o ∷ objects b))
  mem_alloc b o used' wd' bit' hb ob pl us uo t f g = record {
    tiles = λ a h. cases (eqb a b)
        (λ q. rw (eqb-true a b q) here)
        (λ q. rw (put_other objects b (o ∷ objects b) a (eqb-false a b q), uo a (eqb-false a b q))
        (tiled_frame (wd a) (wd' a) (bit a) (bit' a) (Ok objects dis a) (Ok next dis a) (λ x. handle_of x a (generation a)) (objects a) (used a)
        (λ j i. f a j h i) (λ j i. g a j h i) (ok_frame objects next dis dis a (names a)) (m.tiles a h)));
    closed = λ a h k z. cases (eqb a b)
        (λ q. absurd (omega (arith, ob (rw (eqb-true a b q) at h), ap cnt (eqb-true a b q))))
        (λ q. put_other objects b (o ∷ objects b) a (eqb-false a b q) ∙ m.closed a h k z);
  }
    where
      next : ℕ → List Object
      next = put_at objects b (o ∷ objects b)

      names : (a w : ℕ) → Named objects dis a w → Named next dis a w
      names a w n = record {
        given = cases (eqb (area_of w) b)
            (λ q. rw (eqb-true (area_of w) b q, put_same objects b (o ∷ objects b)) (occ_more w o.handle (handles (objects b)) (rw (eqb-true (area_of w) b q) at n.given)))
            (λ q. rw (put_other objects b (o ∷ objects b) (area_of w) (eqb-false (area_of w) b q)) n.given);
        reach = n.reach;
      }

      tile : Tile (wd' b) (bit' b) (Ok next dis b) (λ x. handle_of x b (generation b)) o (suc (used b + o.slots + o.data_words))
      tile = record { made = t.made; ends = t.ends; head = t.head; on = t.on; off = t.off; refs = λ j h. inl (t.refs j h) }

      here : Tiled (wd' b) (bit' b) (Ok next dis b) (λ x. handle_of x b (generation b)) (next b) (used' b)
      here = rw (put_same objects b (o ∷ objects b), us)
          (tiled_push (wd b) (wd' b) (bit b) (bit' b) (Ok objects dis b) (Ok next dis b) (λ x. handle_of x b (generation b)) (objects b) (used b) o
          (λ j i. f b j hb i) (λ j i. g b j hb i) (ok_frame objects next dis dis b (names b)) pl tile (m.tiles b hb))
