-- One law for each way that the checks of every call on an object end.
-- Assumes nothing.
use Rattle.std.specs.Prelude.{ℕ, List, ◌≤◌, ◌<◌, true, false, ◌≡◌, refl, ◌≢◌, leb, Option, Some, None, Result, Ok, Err}
use Rattle.std.proofs.Math.Bool.{not}
use Rattle.std.proofs.Math.Path.{sym, ap, fun_ext}
use Rattle.std.proofs.Common.{◌∙◌, subst, leb-false, le-leb}
use Rattle.std.proofs.lemmas.Bool.{lt-leb}
use Rattle.layout.specs.Choice.{refuse, hit, skip, peel}
use Rattle.layout.specs.Handle.{area_of}
use Rattle.layout.specs.Header.{slots_of, data_of}
use Rattle.layout.specs.declared.answer.Refusal.{Refusal}
use Rattle.rights.specs.declared.Right.TheVariants.{Use}
use Rattle.model.specs.State.{State, Memory, with_written}
use Rattle.model.specs.Checks.{has_right, header_at, live, is_object, use_rest}
use Rattle.model.specs.References.{slot_rest}
use Rattle.model.specs.Data.{data_rest}
use Rattle.model.specs.Invariant.{Good}
use Rattle.model.proofs.Accepted.{UseOk, use_ok}
use Rattle.objects.specs.declared.find.Resolved.{Resolved}
use Rattle.objects.specs.declared.index.Part.{Part}
use Rattle.objects.specs.declared.index.Part.TheVariants.{Slots, Data}
use Rattle.objects.specs.declared.index.WordPlace.{WordPlace}
use Rattle.objects.specs.Found.{object_of, found_of}
use Rattle.objects.specs.Indexed.{part_count, index_rest, word_of}
use Rattle.objects.specs.Resolving.{Finds, Numbers, Checks, Indexes}
use Rattle.objects.proofs.Places.{at_live, nothing_live, object_live, object_any, found_any, number_any}
use Rattle.objects.specs.Chains.{Chain, chain_none, chain_more}
use Rattle.tables.specs.Decode.{state_of}

-- ---- the fields of the object that a handle leads to

module _ (s : State) (m : Memory) (p : ℕ) (o : Resolved) where
  module _ (e : o ≡ object_of s m p) where
    pub area_is : o.area ≡ area_of p
    unfolding object_of
    area_is = ap (λ (x : Resolved). x.area) e

    pub slots_is : o.slots ≡ slots_of (header_at s m p)
    unfolding object_of
    slots_is = ap (λ (x : Resolved). x.slots) e

    pub data_words_is : o.data_words ≡ data_of (header_at s m p)
    unfolding object_of
    data_words_is = ap (λ (x : Resolved). x.data_words) e

  pub found_area : Some o ≡ found_of s m p → o.area ≡ area_of p
  found_area e = area_is (at_live s m p o e).1

module _ (s : State) (m : Memory) (t p : ℕ) where
  -- ---- refusals 13 and 5

  pub use_chain : Chain (use_rest s m t p)
  unfolding use_rest
  use_chain =
      chain_more (λ (n : ℕ). refuse (not (is_object s m p)) 13 n) (not (has_right s t Use (area_of p))) 4
      (chain_more (λ (n : ℕ). n) (not (is_object s m p)) 12 chain_none)

  module _ (g : Good s) where
    pub use_nothing : None ≡ found_of s m p → 13 ≡ use_rest s m t p 0
    unfolding use_rest
    use_nothing e = sym (hit (not (is_object s m p)) 13 _ (ap not (object_live s m p g ∙ nothing_live s m p e)))

    module _ (o : Resolved) (e : Some o ≡ found_of s m p) where
      found : not (is_object s m p) ≡ false
      found = ap not (object_live s m p g ∙ (at_live s m p o e).0)

      pub use_no_right : has_right s t Use o.area ≡ false → 5 ≡ use_rest s m t p 0
      unfolding use_rest
      use_no_right r = sym (
          skip (not (is_object s m p)) 13 _ found
          ∙ hit (not (has_right s t Use (area_of p))) 5 0 (ap not (ap (has_right s t Use) (sym (found_area s m p o e)) ∙ r)))

      pub use_right : has_right s t Use o.area ≡ true → 0 ≡ use_rest s m t p 0
      unfolding use_rest
      use_right r = sym (
          skip (not (is_object s m p)) 13 _ found
          ∙ skip (not (has_right s t Use (area_of p))) 5 0 (ap not (ap (has_right s t Use) (sym (found_area s m p o e)) ∙ r)))

-- ---- refusal 14; n is what check_object answers

-- both parts have the same chain, over how many words the part has
index_rest_lem : (part : Part) (s : State) (m : Memory) (t p q rest : ℕ)
    → index_rest part s m t p q rest ≡ use_rest s m t p (refuse (leb (part_count part (object_of s m p)) q) 14 rest)
unfolding slot_rest data_rest object_of
index_rest_lem Slots s m t p q rest = refl
index_rest_lem Data s m t p q rest = refl

module _ (part : Part) (s : State) (m : Memory) (t p q : ℕ) where
  pub index_chain : Chain (index_rest part s m t p q)
  index_chain = subst Chain (fun_ext (λ rest. sym (index_rest_lem part s m t p q rest)))
      (chain_more (use_rest s m t p) (leb (part_count part (object_of s m p)) q) 13 (use_chain s m t p))

  pub index_not_used : {n : ℕ} → n ≡ use_rest s m t p 0 → n ≢ 0 → n ≡ index_rest part s m t p q 0
  index_not_used e h = e ∙ sym (index_rest_lem part s m t p q 0 ∙ (use_chain s m t p).stops (λ z. h (e ∙ z)) _)

  module _ (z : use_rest s m t p 0 ≡ 0) (o : Resolved) (e : o ≡ object_of s m p) where
    past_use : refuse (leb (part_count part o) q) 14 0 ≡ index_rest part s m t p q 0
    past_use = rw e (sym (index_rest_lem part s m t p q 0 ∙ (use_chain s m t p).passes z _))

    pub index_past : part_count part o ≤ q → 14 ≡ index_rest part s m t p q 0
    index_past h = sym (hit (leb (part_count part o) q) 14 0 (le-leb (part_count part o) q h)) ∙ past_use

    pub index_in : q < part_count part o → 0 ≡ index_rest part s m t p q 0
    index_in h = sym (skip (leb (part_count part o) q) 14 0 (lt-leb (part_count part o) q h)) ∙ past_use

  -- what an accepted call has passed
  pub index_ok : index_rest part s m t p q 0 ≡ 0 → UseOk s m t p × (q < part_count part (object_of s m p))
  index_ok z =
      let a = use_ok s m t p _ (sym (index_rest_lem part s m t p q 0) ∙ z) in
      (a.0, leb-false (part_count part (object_of s m p)) q (peel _ _ _ a.1).0)

-- ---- whatever the written map is, x, the refusals are the same, and the word

module _ (s : State) (m : Memory) (x : List ℕ) (t p : ℕ) where
  pub use_any : (rest : ℕ) → use_rest s (with_written m x) t p rest ≡ use_rest s m t p rest
  unfolding use_rest is_object live
  use_any rest = refl

  pub index_any : (part : Part) (q rest : ℕ) → index_rest part s (with_written m x) t p q rest ≡ index_rest part s m t p q rest
  unfolding slot_rest data_rest use_rest is_object live
  index_any Slots q rest = refl
  index_any Data q rest = refl

  pub word_any : (part : Part) (q : ℕ) → word_of part s (with_written m x) p q ≡ word_of part s m p q
  unfolding word_of
  word_any Slots q = refl
  word_any Data q = refl

-- ---- so what a look-up and the checks of a call say of the lent buffers they say of any written map

module _ (w b : List ℕ) (m : Memory) (x : List ℕ) where
  abbrev s : State
  s = state_of w b

  pub finds_any : (r : Option Resolved) (h : ℕ) → Finds r w b m h → Finds r w b (with_written m x) h
  finds_any r h e = e ∙ sym (found_any s m x h)

  pub numbers_any : (r : Option Resolved) (h : ℕ) → Numbers r w b m h → Numbers r w b (with_written m x) h
  numbers_any r h e = number_any s m x h r e

  pub checks_any : (r : Result Resolved Refusal) (t p : ℕ) → Checks r w b m p (λ s n. use_rest s n t p 0)
      → Checks r w b (with_written m x) p (λ s n. use_rest s n t p 0)
  checks_any (Ok o) t p e = (e.0 ∙ sym (object_any s m x p), use_any s m x t p 0 ∙ e.1)
  checks_any (Err r) t p e = e ∙ sym (use_any s m x t p 0)

  pub indexes_any : (r : Result WordPlace Refusal) (t p : ℕ) (part : Part) (q : ℕ)
      → Indexes r w b m p part q (λ s n. index_rest part s n t p q 0)
      → Indexes r w b (with_written m x) p part q (λ s n. index_rest part s n t p q 0)
  indexes_any (Ok o) t p part q e = (e.0 ∙ sym (word_any s m x t p part q), index_any s m x t p part q 0 ∙ e.1)
  indexes_any (Err r) t p part q e = e ∙ sym (index_any s m x t p part q 0)
