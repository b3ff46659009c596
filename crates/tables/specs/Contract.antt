-- The contracts of the calls: what every call may rely on, and what every call promises. One contract for any call, over what it is lent.
-- Assumes nothing.
use Rattle.std.specs.Prelude.{List, [], ◌≡◌, ℕ, eqb}
use Rattle.layout.specs.Choice.{pick}
use Rattle.layout.specs.declared.answer.Answer.{Answer}
use Rattle.model.specs.State.{Memory}
use Rattle.model.specs.Checks.{Change}
use Rattle.model.specs.Calls.{Call, Reply, outcome_of}
use Rattle.model.specs.Invariant.{Good}
use Rattle.tables.specs.Decode.{state_of, Shaped}

-- the four lent buffers, at one moment
abbrev pub memory_of : List ℕ → List ℕ → List ℕ → List ℕ → Memory
memory_of p s m x = record { permanent = p; scratch = s; map = m; written = x }

-- ---- what a call asks

-- what set-up and every call leave, and all that a call asks: the tables hold a state of the invariant
pub record Ready (w b : List ℕ) : Type 0 where
  pub sized : Shaped w b
  pub good : Good (state_of w b)

-- ---- what a call promises

-- an answer that shows no words
abbrev pub plain : ℕ → ℕ → Reply
plain status value = record { status = status; value = value; words = [] }

-- the answer of a view, which is its words alone
abbrev pub view_reply : List ℕ → Reply
view_reply l = record { status = 0; value = 0; words = l }

-- What every call promises, whichever it is: lent the tables w, b and the buffers m, it answered r and left w', b' and m'. All are those of
-- the call's definition, and the next call may rely on what is left.
pub record Answered (w b : List ℕ) (m : Memory) (c : Call) (r : Reply) (w' b' : List ℕ) (m' : Memory) : Type 0 where
  pub reply_is : r ≡ (outcome_of (state_of w b) m c).reply
  pub state_is : state_of w' b' ≡ (outcome_of (state_of w b) m c).state
  pub memory_is : m' ≡ (outcome_of (state_of w b) m c).memory
  pub ready : Ready w' b'

-- The same, in the order of a contract: it answered r to call c; lent w, b and m, it left w', b' and m'. What is lent to read is the same at both moments.
abbrev pub Replies : Reply → Call → List ℕ → List ℕ → Memory → List ℕ → List ℕ → Memory → Type 0
Replies r c w b m w' b' m' = Answered w b m c r w' b' m'

-- the same of a call that shows no words
abbrev pub Answers : Answer → Call → List ℕ → List ℕ → Memory → List ℕ → List ℕ → Memory → Type 0
Answers r c w b m w' b' m' = Replies (plain r.status r.value) c w b m w' b' m'

-- the same of a call that is lent no buffer: whatever memory is kept, it stays
abbrev pub AnswersAlone : Answer → Call → List ℕ → List ℕ → List ℕ → List ℕ → Type 0
AnswersAlone r c w b w' b' = (m : Memory) → Answered w b m c (plain r.status r.value) w' b' m

-- What a call that touches no lent word does to the tables w, b after refusal 1: a refusal yields 0 and leaves the state.
pub record Changed (w b : List ℕ) (x : Change) (status value : ℕ) (w' b' : List ℕ) : Type 0 where
  pub status_is : status ≡ x.status
  pub value_is : value ≡ pick (eqb x.status 0) x.value 0
  pub state_is : state_of w' b' ≡ pick (eqb x.status 0) x.state (state_of w b)
  pub ready : Ready w' b'

abbrev pub Changes : Answer → Change → List ℕ → List ℕ → List ℕ → List ℕ → Type 0
Changes r x w b w' b' = Changed w b x r.status r.value w' b'
