-- What the lines so far say of an answer to come: what a read answers, the generation that an entry gives, the entries that an exit leaves; what
-- a load of rights, the start of a helper and a removal answer, which rights table is in force, and which rights a thread has by it.
-- Assumes nothing.
use Rattle.std.specs.Prelude.{ℕ, zero, suc, Bool, not, ◌&&◌, ◌||◌, List, [], ◌∷◌, eqb, leb, ltb}
use Rattle.layout.specs.Choice.{pick, refuse}
use Rattle.layout.specs.Below.{some_below}
use Rattle.rights.specs.Rights.{built_in, class_of, allows, is_table}
use Rattle.rights.specs.declared.Right.{Right}
use Rattle.model.specs.State.{current, is_scope, is_no_scope}
use Rattle.model.specs.Threads.{is_kind}
use Rattle.model.specs.Helpers.{may_enter_all}
use Rattle.model.specs.Calls.{Call, start, end, make, enter, exit, start_helper, remove, allocate, store, write, asks, Configuration, rights_table, configure}
use Rattle.model.specs.Run.{Line}
use Rattle.model.specs.History.{History, started_in, made_in, thread_row, total, is_scope_on_none, history_exit, history_of}

-- ---- op 0a: "value: word"

-- what a read answers by the data word as last written, 0 if it never was: "the last word accepted for that handle and index, or 19 if there is
-- none"
abbrev pub read_status : ℕ → ℕ
read_status zero = 19
read_status (suc v) = 0

abbrev pub read_value : ℕ → ℕ
read_value zero = 0
read_value (suc v) = v

-- ---- op 04: "value: turn"

-- the last opening of a gave g, then a call is accepted with value v, after the history b: an entry of "a scope on no row" opens it
abbrev pub opening_step : History → ℕ → ℕ → Call → ℕ → ℕ
opening_step b a g (start t p) v = g
opening_step b a g (end t) v = g
opening_step b a g (make t q r) v = g
opening_step b a g (enter t q) v = pick (is_scope_on_none q b.rows && eqb q a) v g
opening_step b a g (exit t) v = g
opening_step b a g (start_helper t p q) v = g
opening_step b a g (remove t q) v = g
opening_step b a g (allocate t q r) v = g
opening_step b a g (store t p q r) v = g
opening_step b a g (write t p q r) v = g
opening_step b a g (asks x) v = g
opening_step b a g (configure x) v = g

-- a refused call opens nothing
unfoldable pub opening_line : History → ℕ → ℕ → Line → ℕ
opening_line b a g l = pick (eqb l.reply.status 0) (opening_step b a g l.call l.reply.value) g

-- what the last opening of scope a gave, 0 if there was none
unfoldable pub last_opening : ℕ → List Line → ℕ
last_opening a [] = 0
last_opening a (l ∷ ls) = opening_line (history_of ls) a (last_opening a ls) l

-- "It sets its turn one higher (first turn 1 ..)" where the entry opens scope q, else it has the turn of its opening; heap and immortal "always
-- have turn 1"
unfoldable pub entry_generation : ℕ → List Line → ℕ
entry_generation q ls = pick (is_scope q) (pick (eqb (total q (history_of ls).rows) 0) (suc (last_opening q ls)) (last_opening q ls)) 1

-- ---- op 05: "value: scope's count left, else 0"

-- how many entries of the area that thread t leaves, if it is a scope, are left on all rows
unfoldable pub entries_left : History → ℕ → ℕ
entries_left b t = pick (is_scope (current (thread_row b t))) (total (current (thread_row b t)) (history_exit b t).rows) 0

-- ---- the load of a rights table

-- what a load of a text answers after the history b: "23 when there are not 36 digits or they break these rules, first. 24 when any thread is
-- started, after 23."
unfoldable pub load_answer : History → List ℕ → ℕ
load_answer b text = refuse (not (is_table text)) 23 (refuse (some_below (started_in b) 16) 24 0)

-- ---- the rights table

-- table is in force, then a call that replaces a table is accepted
abbrev pub configured_table : List ℕ → Configuration → List ℕ
configured_table table (rights_table text) = text

-- .. or any call
abbrev pub table_step : List ℕ → Call → List ℕ
table_step table (start t p) = table
table_step table (end t) = table
table_step table (make t q r) = table
table_step table (enter t q) = table
table_step table (exit t) = table
table_step table (start_helper t p q) = table
table_step table (remove t q) = table
table_step table (allocate t q r) = table
table_step table (store t p q r) = table
table_step table (write t p q r) = table
table_step table (asks x) = table
table_step table (configure x) = configured_table table x

-- "A refused load leaves the old table."
unfoldable pub table_line : List ℕ → Line → List ℕ
table_line table l = pick (eqb l.reply.status 0) (table_step table l.call) table

-- the table of the newest accepted load, or "the constant table, which stays in force until a load"
unfoldable pub table_after : List Line → List ℕ
table_after [] = built_in
table_after (l ∷ ls) = table_line (table_after ls) l

-- whether a thread has a right in area a, by the lines: the kind that it was started with, and the table in force
unfoldable pub may_in : List Line → ℕ → Right → ℕ → Bool
may_in ls t right a = allows (table_after ls) ((history_of ls).kinds t) (class_of a) right

-- ---- op 0b

-- what a start of a helper answers after the lines, where 1 does not refuse it: "2 (starter as in the table, then new number, above 15 only), 3 (new
-- number), 4, then 5 if the kind lacks E for any entry" of the starter's row, by the table in force
unfoldable pub helper_answer : List Line → ℕ → ℕ → ℕ → ℕ
helper_answer ls t p q =
    refuse (leb 16 t) 2
    (refuse (not (started_in (history_of ls) t)) 2
    (refuse (leb 16 q) 2
    (refuse (started_in (history_of ls) q) 3
    (refuse (not (is_kind p)) 4
    (refuse (not (may_enter_all (table_after ls) p (thread_row (history_of ls) t))) 5 0)))))

-- ---- op 0c

-- what a removal answers after the history b, where 1 does not refuse it: "2, 6 (outside 2 to 63, or not made). 20 when the scope is open, after 6": on
-- some row
unfoldable pub remove_answer : History → ℕ → ℕ → ℕ
remove_answer b t q =
    refuse (leb 16 t) 2
    (refuse (not (started_in b t)) 2
    (refuse (is_no_scope q || not (made_in b q)) 6
    (refuse (ltb 0 (total q b.rows)) 20 0)))
