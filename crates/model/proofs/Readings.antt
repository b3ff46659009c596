-- What a read answers: the last word written for that handle and index, or 19 if there is none, by the history and the table in force alone.
-- Assumes nothing.
use Prim.Native.Nat.{ℕ, ◌<◌}
use mathlib.Core.Bool.{true, not}
use mathlib.Core.List.{List}
use mathlib.Core.Path.{◌≡◌, refl, sym, ap, ◌∙◌}
use mathlib.Core.Logic.{◌≢◌}
use lib.Dec.{eqb, leb}
use native.Mathlib.Omega.{arith}
use borrow.Author.Tests.{lt-leb}
use Rattle.layout.specs.Choice.{refuse, cases, hit, skip}
use Rattle.layout.specs.Handle.{area_of}
use Rattle.layout.specs.Header.{data_of}
use Rattle.bitmap.specs.Bitmap.{bit_at}
use Rattle.rights.specs.declared.Right.TheVariants.{Use}
use Rattle.model.specs.State.{State, Memory, word_at}
use Rattle.model.specs.Checks.{is_started, called, has_right, header_at, live, is_object, use_rest}
use Rattle.model.specs.References.{word_after}
use Rattle.model.specs.Data.{data_index, data_rest, written_index, read_rest}
use Rattle.model.specs.Calls.{read, call_status, call_value}
use Rattle.model.specs.Run.{Line}
use Rattle.model.specs.History.{Object, History, history_of}
use Rattle.model.specs.Values.{read_status, read_value, may_in}
use Rattle.model.specs.Claims.{In}
use Rattle.model.proofs.Tiles.{place, IsHeader}
use Rattle.model.proofs.Sound.{Sound}
use Rattle.model.proofs.Live.{live_some, given_live}
use Rattle.model.proofs.MemoryClaims.{tile_of, handle_area, in_given}
use Rattle.model.proofs.Outcomes.{fit_fitted}
use Rattle.model.proofs.Traces.{area_below}
use Rattle.model.proofs.Stored.{cell_of, Recorded, cell_told}
use Rattle.model.proofs.Configured.{InForce}

-- ---- a word and its written bit

cell_status : (bit v : ℕ) → refuse (eqb bit 0) 19 0 ≡ read_status (cell_of bit v)
unfolding refuse cell_of
cell_status bit v = cases (eqb bit 0) (λ e. rw e refl) (λ e. rw e refl)

cell_value : (bit v : ℕ) → refuse (eqb bit 0) 19 0 ≡ 0 → v ≡ read_value (cell_of bit v)
unfolding refuse cell_of
cell_value bit v z = cases (eqb bit 0) (λ e. absurd (omega (arith, rw e at z))) (λ e. rw e refl)

cell_none : (bit v : ℕ) → refuse (eqb bit 0) 19 0 ≢ 0 → 0 ≡ read_value (cell_of bit v)
unfolding refuse cell_of
cell_none bit v n = cases (eqb bit 0) (λ e. rw e refl) (λ e. absurd (n (rw e refl)))

-- ---- the refusals before 19

past_2 : (s : State) (t rest : ℕ) → called s t rest ≢ 2 → called s t rest ≡ rest
unfolding called
past_2 s t rest n = cases (leb 16 t)
    (λ e. absurd (n (hit (leb 16 t) 2 _ e)))
    (λ e. skip (leb 16 t) 2 _ e ∙ cases (is_started s t)
    (λ d. skip (not (is_started s t)) 2 rest (ap not d))
    (λ d. absurd (n (skip (leb 16 t) 2 _ e ∙ hit (not (is_started s t)) 2 rest (ap not d)))))

module _ (s : State) (m : Memory) (b : History) (o : Sound s m b) (t p q : ℕ)
    (lv : live s m p ≡ true) (may : has_right s t Use (area_of p) ≡ true) (l : q < data_of (header_at s m p)) where
  object_is : is_object s m p ≡ true
  unfolding is_object
  object_is = rw (live_some s m b o p lv) lv

  -- 13, 5 and 14 do not meet
  rest_is : read_rest s m t p q ≡ refuse (eqb (bit_at m.written (written_index s m p q)) 0) 19 0
  unfolding read_rest data_rest use_rest
  rest_is =
      skip (not (is_object s m p)) 13 _ (ap not object_is)
      ∙ skip (not (has_right s t Use (area_of p))) 5 _ (ap not may)
      ∙ skip (leb (data_of (header_at s m p)) q) 14 _ (lt-leb (data_of (header_at s m p)) q l)

  -- so a read that 2 does not refuse is refused by 19 or by nothing
  pub status_is : call_status s m (read t p q) ≢ 2 → call_status s m (read t p q) ≡ refuse (eqb (bit_at m.written (written_index s m p q)) 0) 19 0
  status_is n =
      let f = fit_fitted s m o.supplied (called s t (read_rest s m t p q)) in
      f ∙ past_2 s t (read_rest s m t p q) (λ z. n (f ∙ z)) ∙ rest_is

  -- and what it answers is what was last written
  module _ (w : Recorded s m b) (n : call_status s m (read t p q) ≢ 2) where
    pub read_status_lem : call_status s m (read t p q) ≡ read_status (b.written p q)
    read_status_lem = status_is n ∙ cell_status _ (word_after s m p (data_index s m p q)) ∙ ap read_status (cell_told s m b o w p lv q l)

    pub read_value_lem : call_status s m (read t p q) ≡ 0 → call_value s m (read t p q) ≡ read_value (b.written p q)
    read_value_lem z = cell_value _ (word_after s m p (data_index s m p q)) (sym (status_is n) ∙ z) ∙ ap read_value (cell_told s m b o w p lv q l)

    pub read_none : call_status s m (read t p q) ≢ 0 → 0 ≡ read_value (b.written p q)
    read_none z = cell_none _ (word_after s m p (data_index s m p q)) (λ e. z (status_is n ∙ e)) ∙ ap read_value (cell_told s m b o w p lv q l)

-- ---- from the lines

module _ (s : State) (m : Memory) (ls : List Line) (o : Sound s m (history_of ls)) (f : InForce s ls)
    (p a : ℕ) (x : Object) (i : In x ((history_of ls).objects a)) (h : x.handle ≡ p) where
  pub area_is : area_of p ≡ a
  area_is = ap area_of (sym h) ∙ handle_area s m (history_of ls) o a x (area_below s m (history_of ls) o a x i) i

  -- the handle of an object of the history is live
  pub object_live : live s m p ≡ true
  object_live = rw h at (given_live s m (history_of ls) o x.handle (in_given s m (history_of ls) o a x (area_below s m (history_of ls) o a x i) i))

  -- its header says its data words
  pub words_are : data_of (header_at s m p) ≡ x.data_words
  words_are =
      let d : IsHeader (word_at s m a (place x)) x = (tile_of s m (history_of ls) o a x (area_below s m (history_of ls) o a x i) i).1.head in
      rw (area_is, ← h) d.data_words

  -- a thread has the rights that the lines tell
  pub right_is : (t : ℕ) → may_in ls t Use a ≡ true → has_right s t Use (area_of p) ≡ true
  unfolding may_in has_right
  right_is t r = rw (area_is, f, o.same.kinds t) r
