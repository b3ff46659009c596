-- The shown part: which words of which store.
-- Assumes nothing.
use Rattle.std.specs.Prelude.{ℕ, ◌+◌, ◌*◌, List, ◌≡◌, eqb, take, drop, Result, Ok, Err}
use Rattle.layout.specs.declared.answer.Refusal.{Refusal}
use Rattle.layout.specs.Answer.{number_of}
use Rattle.layout.specs.Choice.{pick}
use Rattle.layout.specs.Handle.{area_of}
use Rattle.layout.specs.Header.{data_of}
use Rattle.model.specs.State.{State, Memory, is_scope}
use Rattle.model.specs.Checks.{header_at}
use Rattle.model.specs.References.{place_after}
use Rattle.model.specs.Data.{data_index, view_refusal}
use Rattle.model.specs.Calls.{view, view_status}
use Rattle.objects.specs.declared.find.Resolved.{Resolved}
use Rattle.tables.specs.Contract.{plain, view_reply, Replies}
use Rattle.views.specs.declared.ViewPlace.{ViewPlace}

-- "shown as a part of the permanent or scratch store itself": of two things, one for each store, that of the store that is shown a part of:
-- the store of the object's area, the permanent store where the call is refused
unfoldable pub view_store : {A : Type 0} → State → Memory → ℕ → ℕ → A → A → A
view_store s m t p permanent scratch = pick (eqb (view_refusal s m t p) 0) (pick (is_scope (area_of p)) scratch permanent) permanent

-- which of its words is the first that is shown: the first data word, word 0 where the call is refused
unfoldable pub view_from : State → Memory → ℕ → ℕ → ℕ
view_from s m t p = pick (eqb (view_refusal s m t p) 0) (place_after s p (data_index s m p 0)) 0

-- how many are shown: "exactly its d words. Refusals of this call (1, 2, 13, 5) show a part of length 0"
unfoldable pub view_length : State → Memory → ℕ → ℕ → ℕ
view_length s m t p = pick (eqb (view_refusal s m t p) 0) (data_of (header_at s m p)) 0

-- the part by numbers, beside the status: store 0 is the permanent one, 1 the scratch
unfoldable pub view_place_of : State → Memory → ℕ → ℕ → ViewPlace
view_place_of s m t p = record {
  status = view_refusal s m t p;
  store = view_store s m t p 0 1;
  from = view_from s m t p;
  len = view_length s m t p;
}

-- the place of what a check answers, in a store
abbrev pub placed_in : Result Resolved Refusal → ℕ → ViewPlace
placed_in (Ok o) k = record { status = 0; store = k; from = o.at + 1 + o.slots; len = o.data_words }
placed_in (Err r) k = record { status = number_of r; store = 0; from = 0; len = 0 }

-- where the data words of what it answers begin
abbrev pub data_start : Result Resolved Refusal → ℕ
data_start (Ok o) = o.at + 1 + o.slots
data_start (Err r) = 0

-- a part that begins there, from where the two stores begin: in "the permanent or scratch store itself", 8 bytes to a word
pub record PlacedAt (slice permanent scratch : ℕ × ℕ) (s : State) (m : Memory) (t p : ℕ) : Type 0 where
  pub store_is : slice.0 ≡ (view_store s m t p permanent scratch).0
  pub place_is : slice.1 ≡ view_from s m t p * 8 + (view_store s m t p permanent scratch).1

-- the words that lie at a place
abbrev pub words_there : ViewPlace → Memory → List ℕ
words_there r m = take r.len (drop r.from (pick (eqb r.store 0) m.permanent m.scratch))

-- one place answers both calls: the words there are what the view shows, and the status is that of the call beside it
pub record PlaceAnswers (r : ViewPlace) (w b : List ℕ) (m : Memory) (t p : ℕ) : Type 0 where
  pub shows : Replies (view_reply (words_there r m)) (view t p) w b m w b m
  pub tells : Replies (plain r.status 0) (view_status t p) w b m w b m
