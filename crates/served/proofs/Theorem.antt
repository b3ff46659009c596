-- The third demand, said of the code: whatever a host has called, every claim holds of the tables and the buffers that it holds. The
-- hypotheses are what the contracts of set-up and of the exported functions give, and nothing else.
-- Assumes nothing.
use Prim.Native.Nat.{ℕ}
use mathlib.Core.Bool.{false}
use mathlib.Core.List.{List, [], ◌++◌}
use mathlib.Core.Path.{◌≡◌, refl, sym, ap, ◌∙◌, subst}
use mathlib.Core.Logic.{◌≢◌}
use lib.Dec.{eqb}
use borrow.Author.Tests.{eq-eqb, ne_eqb}
use Rattle.layout.specs.Choice.{refuse, pick_true, pick_false}
use Rattle.model.specs.State.{Memory}
use Rattle.model.specs.SetUp.{lengths_of, set_up_status, begins, set_up_state, first_state}
use Rattle.model.specs.Checks.{live}
use Rattle.model.specs.Run.{kept, other, Line, World, run, begin, Reached}
use Rattle.model.specs.History.{history_of}
use Rattle.model.specs.Claims.{Among, Claims}
use Rattle.model.proofs.Traces.{gone_onto}
use Rattle.model.proofs.Reached.{run_none, reached_step, reached_claims}
use Rattle.tables.specs.Decode.{state_of}
use Rattle.tables.specs.Contract.{memory_of, Ready}
use Rattle.tables.proofs.AnsweredLaws.{world_of, step_kept, step_other}
use Rattle.setup.specs.First.{Begun}
use Rattle.served.specs.Served.{Served, began, called, others}

-- set-up promises the state of set_up_state, and an accepted one is where run begins
begin_is : (w b : List ℕ) (m : Memory) (status h i : ℕ) → Begun status w b h i m → status ≡ 0 → world_of w b m [] ≡ begin h i m
unfolding begin set_up_state
begin_is w b m status h i g z =
    rw (
      g.holds.state,
      pick_true (eqb (begins h i m) 0) (first_state h i (lengths_of m)) _
          (eq-eqb (begins h i m) 0 (sym g.status_is ∙ z)),
    ) refl

-- ---- what a host holds and has had is a world that a list of calls leads to

pub served : {w b : List ℕ} {m : Memory} {ls : List Line} → Served w b m ls → Reached (world_of w b m ls)
served (began {w = w} {b = b} {m = m} {status = status} h i g z) = record {
  heap = h;
  immortal = i;
  memory = m;
  accepted = sym g.status_is ∙ z;
  elements = [];
  run_is = begin_is w b m status h i g z ∙ sym (run_none (begin h i m));
}
served (called {w = w} {b = b} {w' = w'} {b' = b'} {m = m} {m' = m'} {ls = ls} {c = c} {r = r} s a) =
    subst Reached (step_kept w b w' b' ls c r m m' a) (reached_step (world_of w b m ls) (record { call = c; supplied = kept }) (served s))
served (others {w = w} {b = b} {w' = w'} {b' = b'} {m = m} {n = n} {n' = n'} {ls = ls} {c = c} {r = r} s f a) =
    subst Reached (step_other w b w' b' ls c r m n n' f a) (reached_step (world_of w b m ls) (record { call = c; supplied = other n }) (served s))

-- ---- the theorem

-- what every call asks holds of the tables
pub served_ready : {w b : List ℕ} {m : Memory} {ls : List Line} → Served w b m ls → Ready w b
served_ready (began h i g z) = g.ready
served_ready (called s a) = a.ready
served_ready (others s f a) = a.ready

-- every claim holds of the tables, the buffers and the lines that the host has
pub served_claims : {w b : List ℕ} {m : Memory} {ls : List Line} → Served w b m ls → Claims (world_of w b m ls) (history_of ls)
served_claims {w} {b} {m} {ls} s = reached_claims (world_of w b m ls) (served s)

-- "a handle whose object is gone is never accepted as one again": not by the tables and buffers after any further lines
pub served_gone : {w b : List ℕ} {m : Memory} (ks ls : List Line) → Served w b m (ks ++ ls) → (x : ℕ) → Among x (history_of ls).gone
    → live (state_of w b) m x ≡ false
served_gone {w} {b} {m} ks ls s x i = unfold run in (served_claims s).gone [] x (gone_onto ks ls x i)

-- ---- beside a world that is a run by itself

pub record Matches (w b : List ℕ) (m : Memory) (ls : List Line) (x : World) : Type 0 where
  pub ready : Ready w b
  pub state_is : state_of w b ≡ x.state
  pub memory_is : m ≡ x.memory
  pub trace_is : ls ≡ x.trace

pub served_world : {w b : List ℕ} {m : Memory} {ls : List Line} (s : Served w b m ls)
    → Matches w b m ls (run (begin (served s).heap (served s).immortal (served s).memory) (served s).elements)
served_world s =
    let e = (served s).run_is in
    record {
      ready = served_ready s;
      state_is = ap (λ (x : World). x.state) e;
      memory_is = ap (λ (x : World). x.memory) e;
      trace_is = ap (λ (x : World). x.trace) e;
    }

-- ---- a refused set-up: the tables that it gives are those of an accepted one that was lent nothing, so the theorem covers it too

pub refused_begun : (status : ℕ) (w b : List ℕ) (h i : ℕ) (m : Memory) → Begun status w b h i m → status ≢ 0 → Begun 0 w b 0 0 (memory_of [] [] [] [])
unfolding set_up_state set_up_status refuse
refused_begun status w b h i m g z = record {
  status_is = refl;
  holds = record {
    sized = g.holds.sized;
    state = g.holds.state ∙ pick_false (eqb (begins h i m) 0) _ _ (ne_eqb (begins h i m) 0 (λ e. z (g.status_is ∙ e)));
  };
  ready = g.ready;
}
