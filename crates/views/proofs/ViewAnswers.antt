-- The calls that show an object's data, by the one contract of any call.
-- Assumes nothing.
use Rattle.std.specs.Prelude.{ℕ, List, ◌≡◌, refl, eqb}
use Rattle.std.proofs.Math.Path.{ap}
use Rattle.std.proofs.Common.{eqb-true}
use Rattle.std.proofs.lemmas.Bool.{eqb-false}
use Rattle.layout.specs.Choice.{cases}
use Rattle.model.specs.State.{Memory}
use Rattle.model.specs.Data.{view_refusal, view_words}
use Rattle.model.specs.Calls.{view, view_status, outcome_of}
use Rattle.tables.specs.Decode.{state_of}
use Rattle.tables.specs.Contract.{Ready, plain, view_reply, Answered}
use Rattle.tables.proofs.AnsweredLaws.{answered_refused, answered_accepted}
use Rattle.views.specs.declared.ViewPlace.{ViewPlace}
use Rattle.views.specs.PlacedView.{view_place_of, words_there}
use Rattle.views.proofs.ViewLaws.{there_is}

module _ (w b : List ℕ) (m : Memory) (t p : ℕ) (y : Ready w b) where
  -- the view, by the words that it gives
  pub view_answered : {l : List ℕ} → l ≡ view_words (state_of w b) m t p → Answered w b m (view t p) (view_reply l) w b m
  unfolding outcome_of
  view_answered e = record { reply_is = rw e refl; state_is = refl; memory_is = refl; ready = y }

  -- a place, for both calls
  module _ (r : ViewPlace) (e : r ≡ view_place_of (state_of w b) m t p) where
    pub place_shows : Answered w b m (view t p) (view_reply (words_there r m)) w b m
    place_shows = view_answered (there_is (state_of w b) m t p r e)

    status_is : r.status ≡ view_refusal (state_of w b) m t p
    unfolding view_place_of
    status_is = ap (λ (x : ViewPlace). x.status) e

    pub place_tells : Answered w b m (view_status t p) (plain r.status 0) w b m
    place_tells = rw status_is (cases (eqb (view_refusal (state_of w b) m t p) 0)
        (λ k. let z = eqb-true (view_refusal (state_of w b) m t p) 0 k in
        rw z (answered_accepted w b m (view_status t p) y refl z refl refl (record { sized = y.sized; state = refl }) refl))
        (λ k. answered_refused w b m (view_status t p) y refl (eqb-false (view_refusal (state_of w b) m t p) 0 k)))
