-- Every accepted call keeps state, memory and history sound, and set-up gives a sound beginning: given that the state and the history stay good.
-- Assumes nothing.
use Prim.Native.Nat.{ℕ, zero, suc, ◌+◌}
use mathlib.Core.Bool.{true, not}
use mathlib.Core.Path.{◌≡◌, refl}
use lib.ListN.{length, replicate, length-replicate, get_or-replicate}
use lib.Dec.{eqb, ltb}
use native.Mathlib.Omega.{arith}
use borrow.Author.Tests.{ltb-true, ltb-false, eq-eqb, eqb-true, not-false}
use Rattle.layout.specs.Choice.{cases, peel}
use Rattle.model.specs.State.{State, Memory, no_area}
use Rattle.model.specs.SetUp.{lengths_of, set_up_status, begins, first_state}
use Rattle.model.specs.Checks.{fits}
use Rattle.model.specs.References.{store_after}
use Rattle.model.specs.Data.{write_memory}
use Rattle.model.specs.Calls.{Call, start, end, make, enter, exit, start_helper, remove, allocate, store, write, asks, configure, call_status, call_value, call_state, call_memory}
use Rattle.model.specs.History.{History, blank, history_step}
use Rattle.model.specs.Invariant.{Good}
use Rattle.model.proofs.Accepted.{fitted_ok, admitted, make_ok, enter_ok, exit_ok, helper_ok, remove_ok, allocate_ok, StoreOk, store_ok, DataOk, data_ok}
use Rattle.model.proofs.Lists.{occ_nil}
use Rattle.model.proofs.Sound.{Same, used_in, Sound, sound_words}
use Rattle.model.proofs.KeepsConfiguration.{configure_stays}
use Rattle.model.proofs.MemoryScopes.{stays_sound, sound_start, sound_end, sound_make, sound_remove, sound_enter, sound_exit, sound_helper}
use Rattle.model.proofs.MemoryWords.{sound_store, sound_write}
use Rattle.model.proofs.MemoryObjects.{sound_allocate}

pub sound_call : (s : State) (m : Memory) (b : History) (c : Call) → Sound s m b → call_status s m c ≡ 0 → Good (call_state s m c)
    → Same (call_state s m c) (history_step b c (call_value s m c)) → Sound (call_state s m c) (call_memory s m c) (history_step b c (call_value s m c))
sound_call s m b (start t p) o e g i = sound_start s m b o t p g i
sound_call s m b (end t) o e g i = sound_end s m b o t g i
sound_call s m b (make t q r) o e g i = sound_make s m b o t q r (make_ok s t q r (fitted_ok s m _ e).1) g i
sound_call s m b (enter t q) o e g i = sound_enter s m b o t q (enter_ok s t q (fitted_ok s m _ e).1) g i
sound_call s m b (exit t) o e g i = sound_exit s m b o t (exit_ok s t (fitted_ok s m _ e).1) g i
sound_call s m b (start_helper t p q) o e g i = sound_helper s m b o t p q (helper_ok s t p q (fitted_ok s m _ e).1) g i
sound_call s m b (remove t q) o e g i = sound_remove s m b o t q (remove_ok s t q (fitted_ok s m _ e).1) g i
sound_call s m b (allocate t q r) o e g i = sound_allocate s m b o t q r (allocate_ok s t q r (fitted_ok s m _ e).1) g i
sound_call s m b (store t p q r) o e g i =
    let k : StoreOk s m t p q r = store_ok s m t p q r (admitted s m t _ e).1 in
    sound_words s (store_after s m p q r) b (sound_store s m b o p k.at.used.object q k.at.slot r k.target k.rule) _ _
sound_call s m b (write t p q r) o e g i =
    let k : DataOk s m t p q = (data_ok s m t p q _ (admitted s m t _ e).1).0 in
    sound_words s (write_memory s m p q r) b (sound_write s m b o p k.used.object q k.index r) _ _
sound_call s m b (asks x) o e g i = o
sound_call s m b (configure x) o e g i = stays_sound s m b o _ b g i (configure_stays s x) refl refl

-- ---- set-up

-- no word is used
first_used : (h i : ℕ) (m : Memory) (a : ℕ) → used_in (first_state h i (lengths_of m)) a ≡ 0
unfolding first_state
first_used h i m zero = refl
first_used h i m (suc zero) = refl
first_used h i m (suc (suc a)) = cases (ltb a 62)
    (λ e. rw (get_or-replicate 62 a no_area no_area (ltb-true a 62 e)))
    (λ e. rw (lib.ListN.get_or-eq_default (replicate 62 no_area) no_area {n = a} (omega (arith, ltb-false a 62 e, length-replicate 62 no_area))))

-- an accepted set-up was lent a written map as long as the start map
maps_alike : (h i : ℕ) (m : Memory) → begins h i m ≡ 0 → length m.written ≡ length m.map
unfolding set_up_status
maps_alike h i m e =
    let a = peel (not (eqb (h + i) (length m.permanent))) 0 _ e in
    let b = peel _ 0 _ a.1 in
    let c = peel _ 0 _ b.1 in
    let d = peel _ 0 _ c.1 in
    let k = peel (not (eqb (length m.written) (length m.map))) 0 0 d.1 in
    eqb-true _ _ (not-false (eqb (length m.written) (length m.map)) k.0)

first_fits : (h i : ℕ) (m : Memory) → begins h i m ≡ 0 → fits (first_state h i (lengths_of m)) m ≡ true
unfolding first_state fits
first_fits h i m e = rw (
  eq-eqb (length m.permanent) (length m.permanent) refl,
  eq-eqb (length m.scratch) (length m.scratch) refl,
  eq-eqb (length m.map) (length m.map) refl,
  eq-eqb (length m.written) (length m.map) (maps_alike h i m e),
)

pub sound_first : (h i : ℕ) (m : Memory) → begins h i m ≡ 0 → Good (first_state h i (lengths_of m))
    → Same (first_state h i (lengths_of m)) blank → Sound (first_state h i (lengths_of m)) m blank
unfolding blank
sound_first h i m e g k = record {
  good = g;
  same = k;
  supplied = first_fits h i m e;
  memory = record { tiles = λ a l. first_used h i m a; closed = λ a l n z. refl };
  dead = λ x p. absurd (omega (arith, occ_nil x));
  above = λ a l. refl;
}
