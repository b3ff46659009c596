-- One law for each way that the checks of ops 07 and 08 end.
-- Assumes nothing.
use Rattle.std.specs.Prelude.{ℕ, ◌≤◌, ◌<◌, true, false, not, ◌||◌, List, ◌≡◌, refl, ◌≢◌, eqb, Some, None}
use Rattle.std.proofs.Common.{true≢false, ◌∙◌}
use Rattle.std.proofs.Math.Path.{sym, ap}
use borrow.Author.Tests.{eqb-true, le-leb, lt-leb, lt-ltb, le-ltb, eq-eqb, ne_eqb}
use Rattle.layout.specs.Choice.{refuse, cases, hit, skip}
use Rattle.layout.specs.Handle.{null, area_of}
use Rattle.layout.specs.Display.{row_holds}
use Rattle.rights.specs.declared.Right.TheVariants.{Refer}
use Rattle.model.specs.declared.Area.{Area}
use Rattle.model.specs.State.{State, Memory, area_at, display_holds, with_written}
use Rattle.model.specs.Checks.{has_right, live, is_object, is_reference, use_rest}
use Rattle.model.specs.References.{may_refer, word_after, slot_rest, reference_rest, store_rest, load_rest}
use Rattle.tables.specs.Decode as decode
use Rattle.tables.proofs.Laws.{area_read, row_read}
use Rattle.objects.specs.declared.find.Resolved.{Resolved}
use Rattle.objects.specs.Found.{found_of}
use Rattle.objects.proofs.Places.{at_live, nothing_live}
use Rattle.objects.specs.Chains.{Chain, chain_none, chain_more, chain_passed}
use Rattle.objects.specs.declared.index.Part.TheVariants.{Slots}
use Rattle.objects.proofs.Statuses.{found_area, index_chain}

-- ---- refusals 15 and 5: a target or a loaded word

module _ (s : State) (m : Memory) (t x : ℕ) where
  pub reference_chain : Chain (reference_rest s m t x)
  unfolding reference_rest
  reference_chain =
      chain_more (λ (n : ℕ). refuse (not (is_reference s m x)) 15 n) (not (eqb x null || has_right s t Refer (area_of x))) 4
      (chain_more (λ (n : ℕ). n) (not (is_reference s m x)) 14 chain_none)

  pub reference_null : x ≡ 0 → 0 ≡ reference_rest s m t x 0
  unfolding reference_rest is_reference refuse
  reference_null e = rw (eq-eqb x 0 e)

  module _ (n : x ≢ 0) where
    pub reference_nothing : None ≡ found_of s m x → 15 ≡ reference_rest s m t x 0
    unfolding reference_rest is_reference refuse
    reference_nothing e = rw (ne_eqb x 0 n, nothing_live s m x e)

    module _ (o : Resolved) (e : Some o ≡ found_of s m x) where
      pub reference_no_right : has_right s t Refer o.area ≡ false → 5 ≡ reference_rest s m t x 0
      unfolding reference_rest is_reference refuse
      reference_no_right r = rw (ne_eqb x 0 n, (at_live s m x o e).0, ← found_area s m x o e, r)

      pub reference_right : has_right s t Refer o.area ≡ true → 0 ≡ reference_rest s m t x 0
      unfolding reference_rest is_reference refuse
      reference_right r = rw (ne_eqb x 0 n, (at_live s m x o e).0, ← found_area s m x o e, r)

-- ---- refusal 16: the assignment rule, where x and y are the records of the areas of the target and of the object

module _ (w b : List ℕ) (object target : ℕ) where
  pub may_plain : target < 2 → true ≡ may_refer (decode.state_of w b) object target
  unfolding may_refer
  may_plain h = rw (lt-ltb target 2 h)

  module _ (h : 2 ≤ target) (ho : object < 64) (ht : target < 64) (x y : Area) (ex : x ≡ decode.area_record w target) (ey : y ≡ decode.area_record w object) where
    target_is : area_at (decode.state_of w b) target ≡ x
    target_is = area_read w b target ht ∙ sym ex

    object_is : area_at (decode.state_of w b) object ≡ y
    object_is = area_read w b object ho ∙ sym ey

    pub may_deeper : y.depth < x.depth → false ≡ may_refer (decode.state_of w b) object target
    unfolding may_refer display_holds
    may_deeper k = rw (le-ltb target 2 h, target_is, object_is, lt-leb x.depth y.depth k)

    pub may_look : x.depth ≤ y.depth → row_holds (decode.display_row b object) x.depth target ≡ may_refer (decode.state_of w b) object target
    unfolding may_refer display_holds
    may_look k = rw (le-ltb target 2 h, target_is, object_is, le-leb x.depth y.depth k, row_read w b object ho)

-- null's area is the heap
null_may : (s : State) (object r : ℕ) → r ≡ null → true ≡ may_refer s object (area_of r)
unfolding may_refer area_of
null_may s object r e = rw e

-- ---- ops 07 and 08; n is what check_index or check_reference answers

module _ (s : State) (m : Memory) (t p q : ℕ) where
  module _ (r : ℕ) where
    pub store_no_slot : {n : ℕ} → n ≡ slot_rest s m t p q 0 → n ≢ 0 → n ≡ store_rest s m t p q r
    unfolding store_rest
    store_no_slot e h = e ∙ sym ((index_chain Slots s m t p q).stops (λ z. h (e ∙ z)) _)

    pub store_slot : store_rest s m t p q r ≡ 0 → slot_rest s m t p q 0 ≡ 0
    unfolding store_rest
    store_slot = chain_passed (index_chain Slots s m t p q) _

    module _ (z : slot_rest s m t p q 0 ≡ 0) where
      pub store_no_reference : {n : ℕ} → n ≡ reference_rest s m t r 0 → n ≢ 0 → n ≡ store_rest s m t p q r
      unfolding store_rest
      store_no_reference e h = e ∙ sym ((index_chain Slots s m t p q).passes z _ ∙ (reference_chain s m t r).stops (λ y. h (e ∙ y)) _)

      module _ (y : reference_rest s m t r 0 ≡ 0) where
        last : (rest : ℕ) → slot_rest s m t p q (reference_rest s m t r rest) ≡ rest
        last rest = (index_chain Slots s m t p q).passes z _ ∙ (reference_chain s m t r).passes y rest

        pub store_forbidden : may_refer s (area_of p) (area_of r) ≡ false → 16 ≡ store_rest s m t p q r
        unfolding store_rest
        store_forbidden e = sym (last _ ∙ hit (not (eqb r null || may_refer s (area_of p) (area_of r))) 16 0
            (cases (eqb r null)
            (λ k. absurd (true≢false (null_may s (area_of p) r (eqb-true r null k) ∙ e)))
            (λ k. rw (k, e))))

        pub store_allowed : may_refer s (area_of p) (area_of r) ≡ true → 0 ≡ store_rest s m t p q r
        unfolding store_rest
        store_allowed e = sym (last _ ∙ skip (not (eqb r null || may_refer s (area_of p) (area_of r))) 16 0
            (cases (eqb r null) (λ k. rw k) (λ k. rw (k, e))))

  pub load_no_slot : {n : ℕ} → n ≡ slot_rest s m t p q 0 → n ≢ 0 → n ≡ load_rest s m t p q
  unfolding load_rest
  load_no_slot e h = e ∙ sym ((index_chain Slots s m t p q).stops (λ z. h (e ∙ z)) _)

  pub load_slot : slot_rest s m t p q 0 ≡ 0 → {n x : ℕ} → x ≡ word_after s m p q → n ≡ reference_rest s m t x 0 → n ≡ load_rest s m t p q
  unfolding load_rest
  load_slot z f e = e ∙ ap (λ (x : ℕ). reference_rest s m t x 0) f ∙ sym ((index_chain Slots s m t p q).passes z _)

-- ---- whatever the written map is, l, the refusals are the same

module _ (s : State) (m : Memory) (l : List ℕ) (t r : ℕ) where
  pub reference_any : (rest : ℕ) → reference_rest s (with_written m l) t r rest ≡ reference_rest s m t r rest
  unfolding reference_rest is_reference live
  reference_any rest = refl

  pub store_any : (p q : ℕ) → store_rest s (with_written m l) t p q r ≡ store_rest s m t p q r
  unfolding store_rest slot_rest use_rest reference_rest is_object is_reference live
  store_any p q = refl
