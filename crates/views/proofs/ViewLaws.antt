-- Laws of the shown part.
-- Assumes nothing.
use Rattle.std.specs.Prelude.{ℕ, ◌+◌, ◌-◌, ◌*◌, ◌≤◌, ◌<◌, Bool, List, eqb, length, take, drop, Result, Ok, Err}
use Rattle.std.proofs.Math.Bool.{true, false}
use Rattle.std.proofs.Math.Path.{◌≡◌, refl, ap}
use Rattle.std.proofs.Common.{sym, subst, ◌∙◌}
use Rattle.std.proofs.Math.Logic.{◌≢◌}
use native.Mathlib.Omega.{arith}
use Rattle.std.proofs.Math.Nat.{add-sub_cancel_left}
use borrow.Author.Tests.{ne_eqb, eqb-true, eqb-false}
use Rattle.layout.specs.declared.answer.Refusal.{Refusal}
use Rattle.layout.specs.Answer.{Verdict, number_some}
use Rattle.layout.specs.Choice.{pick, cases}
use Rattle.layout.specs.Handle.{area_of}
use Rattle.model.specs.State.{State, Memory, is_scope}
use Rattle.model.specs.Checks.{fits, called, use_rest}
use Rattle.model.specs.References.{place_after}
use Rattle.model.specs.Data.{data_index, view_refusal, view_words}
use Rattle.model.specs.Invariant.{Good}
use Rattle.model.proofs.Accepted.{admitted, use_ok}
use Rattle.model.proofs.Outcomes.{unfit_fitted, fit_fitted}
use Rattle.objects.specs.declared.find.Resolved.{Resolved}
use Rattle.objects.specs.Found.{object_of}
use Rattle.objects.proofs.Places.{Lies}
use Rattle.views.specs.declared.ViewPlace.{ViewPlace}
use Rattle.objects.proofs.Statuses.{area_is, data_words_is}
use Rattle.objects.specs.Fits.{fits_stores}
use Rattle.objects.proofs.Effects.{place_is, index_is, object_lies}
use Rattle.views.specs.PlacedView.{data_start, placed_in, view_store, view_from, view_length, view_place_of, PlacedAt, words_there}

module _ (s : State) (m : Memory) (t p : ℕ) where
  -- ---- what is shown, by numbers: of a refused call

  pub place_refused : {n : ℕ} → n ≡ view_refusal s m t p → n ≢ 0 → record { status = n; store = 0; from = 0; len = 0 } ≡ view_place_of s m t p
  unfolding view_place_of view_store view_from view_length
  place_refused e h = rw (ne_eqb (view_refusal s m t p) 0 (λ z. h (e ∙ z)), ← e) refl

  -- lent other lengths
  pub refused_1 : fits s m ≡ false → 1 ≡ view_refusal s m t p
  refused_1 u = sym (unfit_fitted s m u _)

  -- of an accepted one, with its object
  module _ (z : view_refusal s m t p ≡ 0) (o : Resolved) (e : o ≡ object_of s m p) where
    from_is : o.at + 1 + o.slots ≡ place_after s p (data_index s m p 0)
    from_is =
        let d : o.slots + 0 ≡ o.slots = omega arith in
        ap (λ (i : ℕ). o.at + 1 + i) (sym d ∙ index_is s m p o e 0) ∙ place_is s m p o e (data_index s m p 0)

    pub place_accepted : record { status = 0; store = pick (is_scope o.area) 1 0; from = o.at + 1 + o.slots; len = o.data_words } ≡ view_place_of s m t p
    unfolding view_place_of view_store view_from view_length
    place_accepted = rw (z, area_is s m p o e, data_words_is s m p o e, from_is) refl

    pub object_in : Good s → Lies m o
    object_in g =
        let a = admitted s m t _ z in
        object_lies s m p o e g (fits_stores s m a.0.supplied) t (use_ok s m t p 0 a.1).0

  -- past 1, a check of the other refusals is one of all
  pub past_1 : fits s m ≡ true → (c : Result Resolved Refusal) → Verdict c (object_of s m p) (called s t (use_rest s m t p 0)) → Verdict c (object_of s m p) (view_refusal s m t p)
  past_1 f c e = subst (Verdict c (object_of s m p)) (sym (fit_fitted s m f _)) e

  -- of what a check answers, in the store that has the words of the handle's area
  pub view_placed : (c : Result Resolved Refusal) (k : ℕ) → Verdict c (object_of s m p) (view_refusal s m t p) → k ≡ pick (is_scope (area_of p)) 1 0 → placed_in c k ≡ view_place_of s m t p
  view_placed (Ok o) k e f = rw (f, ← area_is s m p o e.0) (place_accepted e.1 o e.0)
  view_placed (Err r) k e f = place_refused e (number_some r)

  pub start_low : (c : Result Resolved Refusal) → Verdict c (object_of s m p) (view_refusal s m t p) → Good s → data_start c < 65536
  start_low (Ok o) e g = omega (arith, (object_in e.1 o e.0 g).low)
  start_low (Err r) e g = omega arith

  -- ---- the words there; store 0 is the permanent one, any other the scratch

  words_there_lem : take (view_length s m t p) (drop (view_from s m t p) (view_store s m t p m.permanent m.scratch)) ≡ view_words s m t p
  unfolding view_words view_store view_from view_length
  words_there_lem = cases (eqb (view_refusal s m t p) 0) (λ k. rw k refl) (λ k. rw k refl)

  in_permanent : {A : Type 0} (x y : A) → ◌≡◌ {A = ℕ} (view_store s m t p 0 1) 0 → view_store s m t p x y ≡ x
  unfolding view_store
  in_permanent x y = by (eqb (view_refusal s m t p) 0) (is_scope (area_of p))
    where
      by : (b c : Bool) → ◌≡◌ {A = ℕ} (pick b (pick c 1 0) 0) 0 → pick b (pick c y x) x ≡ x
      by true true h = absurd (omega arith)
      by true false h = refl
      by false c h = refl

  in_scratch : {A : Type 0} (x y : A) → ◌≢◌ {A = ℕ} (view_store s m t p 0 1) 0 → view_store s m t p x y ≡ y
  unfolding view_store
  in_scratch x y = by (eqb (view_refusal s m t p) 0) (is_scope (area_of p))
    where
      by : (b c : Bool) → ◌≢◌ {A = ℕ} (pick b (pick c 1 0) 0) 0 → pick b (pick c y x) x ≡ y
      by true true h = refl
      by true false h = absurd (h refl)
      by false c h = absurd (h refl)

  room : Good s → (view_from s m t p + view_length s m t p ≤ 16384)
      × (view_from s m t p + view_length s m t p ≤ length (view_store s m t p m.permanent m.scratch))
  unfolding view_store view_from view_length
  room g = cases (eqb (view_refusal s m t p) 0)
      (λ k. let z : view_refusal s m t p ≡ 0 = eqb-true (view_refusal s m t p) 0 k in
      let o : Resolved = object_of s m p in
      let l = object_in z o refl g in
      rw (k, ← from_is z o refl, ← data_words_is s m p o refl, ← area_is s m p o refl) (omega (arith, l.low), omega (arith, l.inside)))
      (λ k. rw k (omega arith, omega arith))

  -- a place that is answered, and the words of one store and where it begins
  module _ (r : ViewPlace) (e : r ≡ view_place_of s m t p) where
    store_is : r.store ≡ view_store s m t p 0 1
    unfolding view_place_of
    store_is = ap (λ (x : ViewPlace). x.store) e

    starts : r.from ≡ view_from s m t p
    unfolding view_place_of
    starts = ap (λ (x : ViewPlace). x.from) e

    counts : r.len ≡ view_length s m t p
    unfolding view_place_of
    counts = ap (λ (x : ViewPlace). x.len) e

    ends : (l : List ℕ) → view_store s m t p m.permanent m.scratch ≡ l → Good s → r.from + r.len ≤ length l
    ends l el g = omega (arith, (room g).1, starts, counts, ap (length {A = ℕ}) el)

    module _ (l : List ℕ) (b permanent scratch : ℕ × ℕ) (el : view_store s m t p m.permanent m.scratch ≡ l) (eb : view_store s m t p permanent scratch ≡ b) where
      there : (take (r.from + r.len - r.from) (drop r.from l) ≡ view_words s m t p) × PlacedAt (b.0, r.from * 8 + b.1) permanent scratch s m t p
      there = (
        rw (add-sub_cancel_left, starts, counts, ← el) words_there_lem,
        record { store_is = ap (λ (x : ℕ × ℕ). x.0) (sym eb); place_is = rw (starts, ← eb) refl },
      )

    pub place_low : Good s → r.from + r.len ≤ 16384
    place_low g = omega (arith, (room g).0, starts, counts)

    module _ (h : r.store ≡ 0) where
      pub permanent_end : Good s → r.from + r.len ≤ length m.permanent
      permanent_end = ends m.permanent (in_permanent m.permanent m.scratch (sym store_is ∙ h))

      pub view_permanent : (permanent scratch : ℕ × ℕ)
          → (take (r.from + r.len - r.from) (drop r.from m.permanent) ≡ view_words s m t p)
          × PlacedAt (permanent.0, r.from * 8 + permanent.1) permanent scratch s m t p
      view_permanent permanent scratch =
          there m.permanent permanent permanent scratch (in_permanent m.permanent m.scratch (sym store_is ∙ h)) (in_permanent permanent scratch (sym store_is ∙ h))

    module _ (h : r.store ≢ 0) where
      pub scratch_end : Good s → r.from + r.len ≤ length m.scratch
      scratch_end = ends m.scratch (in_scratch m.permanent m.scratch (λ z. h (store_is ∙ z)))

      pub view_scratch : (permanent scratch : ℕ × ℕ)
          → (take (r.from + r.len - r.from) (drop r.from m.scratch) ≡ view_words s m t p)
          × PlacedAt (scratch.0, r.from * 8 + scratch.1) permanent scratch s m t p
      view_scratch permanent scratch =
          there m.scratch scratch permanent scratch (in_scratch m.permanent m.scratch (λ z. h (store_is ∙ z))) (in_scratch permanent scratch (λ z. h (store_is ∙ z)))

    -- the words at the place are those that are shown
    pub there_is : words_there r m ≡ view_words s m t p
    there_is = cases (eqb r.store 0)
        (λ k. rw k (rw add-sub_cancel_left at (view_permanent (eqb-true r.store 0 k) (0, 0) (0, 0)).0))
        (λ k. rw k (rw add-sub_cancel_left at (view_scratch (eqb-false r.store 0 k) (0, 0) (0, 0)).0))
