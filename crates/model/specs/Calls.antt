-- Any call: one clause says its status, its value, the words that it shows, the next state and the next lent words.
-- Assumes nothing.
use Rattle.std.specs.Prelude.{ℕ, Bool, true, false, List, [], eqb}
use Rattle.layout.specs.Choice.{pick}
use Rattle.model.specs.State.{State, Memory}
use Rattle.model.specs.Checks.{fitted, admit, Change}
use Rattle.model.specs.Threads.{start_change, end_change}
use Rattle.model.specs.Scopes.{make_change, enter_change, exit_change}
use Rattle.model.specs.Helpers.{helper_change}
use Rattle.model.specs.Removal.{remove_change}
use Rattle.model.specs.Objects.{current_at, allocate_rest, allocate_state, allocate_memory, allocate_value}
use Rattle.model.specs.References.{store_after, word_after, store_rest, load_rest}
use Rattle.model.specs.Data.{data_index, write_rest, write_memory, read_rest, view_refusal, view_words}
use Rattle.model.specs.Configuration.{load_rights_change}

-- the calls that change nothing: ops 08 and 0a, the shown part and its status call
pub data Question : Type 0 where
  loads : (t p q : ℕ) → Question
  reads : (t p q : ℕ) → Question
  views : (t p : ℕ) → Question
  views_status : (t p : ℕ) → Question

-- the calls without an op that replace a table of the state: the load of a rights table
pub data Configuration : Type 0 where
  rights_table : (text : List ℕ) → Configuration

-- Ops 01 to 0c, the shown part and its status call, and the calls without an op. The thread comes first, then the fields that the op uses.
pub data Call : Type 0 where
  start : (t p : ℕ) → Call
  end : (t : ℕ) → Call
  make : (t q r : ℕ) → Call
  enter : (t q : ℕ) → Call
  exit : (t : ℕ) → Call
  start_helper : (t p q : ℕ) → Call
  remove : (t q : ℕ) → Call
  allocate : (t q r : ℕ) → Call
  store : (t p q r : ℕ) → Call
  write : (t p q r : ℕ) → Call
  asks : Question → Call
  configure : Configuration → Call

abbrev pub load : ℕ → ℕ → ℕ → Call
load t p q = asks (loads t p q)

abbrev pub read : ℕ → ℕ → ℕ → Call
read t p q = asks (reads t p q)

abbrev pub view : ℕ → ℕ → Call
view t p = asks (views t p)

abbrev pub view_status : ℕ → ℕ → Call
view_status t p = asks (views_status t p)

abbrev pub load_rights : List ℕ → Call
load_rights text = configure (rights_table text)

-- "New calls without an op, here and later, are lent no buffer of set-up and skip 1": whether a call is lent the buffers
abbrev pub is_supplied : Call → Bool
is_supplied (start t p) = true
is_supplied (end t) = true
is_supplied (make t q r) = true
is_supplied (enter t q) = true
is_supplied (exit t) = true
is_supplied (start_helper t p q) = true
is_supplied (remove t q) = true
is_supplied (allocate t q r) = true
is_supplied (store t p q r) = true
is_supplied (write t p q r) = true
is_supplied (asks x) = true
is_supplied (configure x) = false

-- what a call answers
pub record Reply : Type 0 where
  pub status : ℕ
  pub value : ℕ
  pub words : List ℕ

-- What a call does: the first refusal that meets, 0 where none does; and of the accepted call the value, the words that it shows, the state and
-- the lent words that it leaves.
pub record Effect : Type 0 where
  pub status : ℕ
  pub value : ℕ
  pub words : List ℕ
  pub state : State
  pub memory : Memory

-- a call that is lent no buffer: it skips 1, and what is kept stays
abbrev pub unsupplied : State → Memory → Change → Effect
unsupplied s m x = record { status = x.status; value = x.value; words = []; state = x.state; memory = m }

-- a call that is lent the buffers, and touches no word of them
abbrev pub changing : State → Memory → Change → Effect
changing s m x = unsupplied s m (record { status = fitted s m x.status; value = x.value; state = x.state })

-- a call that writes lent words and leaves the state: "The value is 0 where none is named"
abbrev writing : State → ℕ → Memory → Effect
writing s status next = record { status = status; value = 0; words = []; state = s; memory = next }

-- The first refusal that a question meets, and what it yields where none does. "Refusals of this call (1, 2, 13, 5) show a part of length 0; a
-- call beside it yields the status": so the view answers 0 always, a refused view is seen only by its empty part, and the call beside it has the refusal.
abbrev pub reply_to : State → Memory → Question → Reply
reply_to s m (loads t p q) = record { status = admit s m t (load_rest s m t p q); value = word_after s m p q; words = [] }
reply_to s m (reads t p q) = record { status = admit s m t (read_rest s m t p q); value = word_after s m p (data_index s m p q); words = [] }
reply_to s m (views t p) = record { status = 0; value = 0; words = view_words s m t p }
reply_to s m (views_status t p) = record { status = view_refusal s m t p; value = 0; words = [] }

-- a call that changes nothing
abbrev asking : State → Memory → Reply → Effect
asking s m x = record { status = x.status; value = x.value; words = x.words; state = s; memory = m }

-- what a call that replaces a table changes
abbrev pub configuring : State → Configuration → Change
configuring s (rights_table text) = load_rights_change s text

-- one clause for each call, one for all questions, and one for all calls that replace a table
abbrev pub effect_of : State → Memory → Call → Effect
effect_of s m (start t p) = changing s m (start_change s t p)
effect_of s m (end t) = changing s m (end_change s t)
effect_of s m (make t q r) = changing s m (make_change s t q r)
effect_of s m (enter t q) = changing s m (enter_change s t q)
effect_of s m (exit t) = changing s m (exit_change s t)
effect_of s m (start_helper t p q) = changing s m (helper_change s t p q)
effect_of s m (remove t q) = changing s m (remove_change s t q)
effect_of s m (allocate t q r) = record {
  status = fitted s m (allocate_rest s t q r);
  value = allocate_value s (current_at s t);
  words = [];
  state = allocate_state s (current_at s t) q r;
  memory = allocate_memory s m (current_at s t) q r;
}
effect_of s m (store t p q r) = writing s (admit s m t (store_rest s m t p q r)) (store_after s m p q r)
effect_of s m (write t p q r) = writing s (admit s m t (write_rest s m t p q)) (write_memory s m p q r)
effect_of s m (asks x) = asking s m (reply_to s m x)
effect_of s m (configure x) = unsupplied s m (configuring s x)

-- ---- its parts

abbrev pub call_status : State → Memory → Call → ℕ
call_status s m c = (effect_of s m c).status

abbrev pub call_value : State → Memory → Call → ℕ
call_value s m c = (effect_of s m c).value

abbrev pub call_words : State → Memory → Call → List ℕ
call_words s m c = (effect_of s m c).words

abbrev pub call_state : State → Memory → Call → State
call_state s m c = (effect_of s m c).state

abbrev pub call_memory : State → Memory → Call → Memory
call_memory s m c = (effect_of s m c).memory

-- what a call answers and leaves
pub record Outcome : Type 0 where
  pub reply : Reply
  pub state : State
  pub memory : Memory

-- "Each call gives status 0 and a value, or a refusal and 0." "A refusal yields 0 and alters no state and no lent word."
abbrev pub settled : State → Memory → Effect → Outcome
settled s m x =
    pick (eqb x.status 0)
    (record { reply = record { status = 0; value = x.value; words = x.words }; state = x.state; memory = x.memory })
    (record { reply = record { status = x.status; value = 0; words = [] }; state = s; memory = m })

unfoldable pub outcome_of : State → Memory → Call → Outcome
outcome_of s m c = settled s m (effect_of s m c)
