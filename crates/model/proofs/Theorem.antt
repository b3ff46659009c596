-- After every list of calls, from every accepted set-up, each claim of specs/Claims.antt holds: the third demand, and what calls yield.
-- Assumes nothing.
use Prim.Native.Nat.{ℕ, suc, ◌+◌, ◌<◌}
use mathlib.Core.Bool.{true, false}
use mathlib.Core.List.{List, [], ◌∷◌}
use mathlib.Core.Path.{◌≡◌, refl}
use lib.ListN.{length}
use mathlib.Core.Logic.{◌⊎◌, inl, inr, ⊎_elim}
use Rattle.layout.specs.Choice.{cases}
use Rattle.layout.specs.Handle.{offset_of, area_of}
use Rattle.model.specs.State.{Memory, word_at}
use Rattle.model.specs.SetUp.{lengths_of, begins}
use Rattle.model.specs.Checks.{fits, live}
use Rattle.model.specs.Calls.{Call, is_supplied}
use Rattle.model.specs.Run.{Supplied, kept, other, Element, Line, World, supplied_to, step, run, begin}
use Rattle.model.specs.History.{Object, History, blank, occurrences, handles, history_from, history_of}
use Rattle.model.specs.Claims.{In, Among, Since, made, stays, Names, Claims}
use Rattle.model.proofs.Sound.{Sound}
use Rattle.model.proofs.Keeps.{good_first}
use Rattle.model.proofs.Agrees.{same_first}
use Rattle.model.proofs.NestingClaims.{started, stacks, opens, parents, counts, displays, dropped, threads, scopes, heights, room, order, looks, walked, scanned}
use Rattle.model.proofs.Live.{live_given, given_live, dead_not}
use Rattle.model.proofs.KeepsMemory.{sound_first}
use Rattle.model.proofs.MemoryClaims.{one_object, slot_holds, within, given_in, in_given}
use Rattle.model.proofs.Outcomes.{Transition, sound_line, line_for, step_transition}
use Rattle.model.proofs.Traces.{none_in, born, gone_run, among_some, area_below, open_area}
use Rattle.model.proofs.Openings.{Opened, opened_first, opened_line}
use Rattle.model.proofs.Sizes.{Sized, sized_first, sized_line, made_told, rooms_told, apart_told, used_told}
use Rattle.model.proofs.Stored.{Recorded, recorded_line}
use Rattle.model.proofs.Configured.{InForce, in_force_first, in_force_line}
use Rattle.model.proofs.LineClaims.{AllAnswer, line_answers, each_answers}

-- ---- one element of the list

-- a world with the history of its trace
abbrev Holds : World → Type 0
Holds w = Sound w.state w.memory (history_of w.trace)

module _ (w : World) (e : Element) where
  abbrev supplied : Memory
  supplied = supplied_to w.state w.memory e.call e.supplied

  abbrev line : Line
  line = line_for w.state supplied e.call

  trace_is : (step w e).trace ≡ line ∷ w.trace
  unfolding step
  trace_is = refl

  -- what is lent is the kept memory, or has other lengths
  supplied_is : (c : Call) (l : Supplied) → (supplied_to w.state w.memory c l ≡ w.memory) ⊎ (fits w.state (supplied_to w.state w.memory c l) ≡ false)
  supplied_is c kept = inl refl
  supplied_is c (other n) = cases (is_supplied c)
      (λ i. cases (fits w.state n) (λ t. inl (rw (i, t))) (λ f. inr (rw (i, f) f)))
      (λ i. inl (rw i))

  step_is : Holds w → Transition w.state w.memory line (step w e).state (step w e).memory
  unfolding step
  step_is o = step_transition w.state w.memory supplied o.supplied (supplied_is e.call e.supplied) e.call

  step_holds : Holds w → Holds (step w e)
  unfolding history_from
  step_holds o = rw trace_is (sound_line (history_of w.trace) o (step_is o))

-- ---- the invariant of a world, and its trace

record Told (w : World) : Type 0 where
  holds : Holds w
  since : (a : ℕ) (x : Object) → In x ((history_of w.trace).objects a) → Since x.handle a w.trace
  recorded : Recorded w.state w.memory (history_of w.trace)
  opened : Opened w.state w.trace
  table : InForce w.state w.trace
  sized : Sized w.state (history_of w.trace)
  answers : AllAnswer w.trace

module _ (w : World) (e : Element) (o : Told w) where
  leads : Transition w.state w.memory (line w e) (step w e).state (step w e).memory
  leads = step_is w e o.holds

  now : Holds (step w e)
  now = step_holds w e o.holds

  step_since : (a : ℕ) (x : Object) → In x ((history_of (step w e).trace).objects a) → Since x.handle a (step w e).trace
  step_since a x i = rw trace_is (⊎_elim
      (λ k. stays (o.since a x k) (λ h. rw trace_is at (open_area (step w e).state (step w e).memory (history_of (step w e).trace) now a x i h)))
      (λ k. made k)
      (born (history_of w.trace) (line w e) a x (unfold history_from in (rw trace_is at i))))

  step_recorded : Recorded (step w e).state (step w e).memory (history_of (step w e).trace)
  unfolding history_from
  step_recorded = rw trace_is (recorded_line w.state w.memory (history_of w.trace) o.holds o.recorded leads (rw trace_is at now))

  step_told : Told (step w e)
  step_told = record {
    holds = now;
    since = step_since;
    recorded = step_recorded;
    opened = rw trace_is (opened_line w.state w.memory w.trace o.holds o.opened leads);
    table = rw trace_is (in_force_line w.state w.memory w.trace o.table leads);
    sized = rw trace_is (sized_line w.state w.memory w.trace o.holds o.sized leads);
    answers = rw trace_is (line_answers w.state w.memory w.trace o.holds o.recorded o.opened o.table o.sized leads, o.answers);
  }

run_told : (w : World) (es : List Element) → Told w → Told (run w es)
unfolding run
run_told w [] o = o
run_told w (e ∷ es) o = run_told (step w e) es (step_told w e o)

begin_told : (h i : ℕ) (m : Memory) → begins h i m ≡ 0 → Told (begin h i m)
unfolding begin history_from blank
begin_told h i m e = record {
  holds = sound_first h i m e (good_first h i (lengths_of m) (length m.written) e) (same_first h i (lengths_of m));
  since = λ a x k. absurd (none_in k);
  recorded = record { slots = λ a x k. absurd (none_in k); cells = λ a x k. absurd (none_in k) };
  opened = opened_first h i (lengths_of m);
  table = in_force_first h i (lengths_of m);
  sized = sized_first h i (lengths_of m);
  answers = tt;
}

-- ---- the claims

module _ (w : World) (o : Told w) where
  abbrev b : History
  b = history_of w.trace

  abbrev sound : Sound w.state w.memory (history_of w.trace)
  sound = o.holds

  given_names : (x : ℕ) → 0 < occurrences x (handles ((history_of w.trace).objects (area_of x))) → Names (history_of w.trace) w.trace x
  given_names x p =
      let k : (y : Object) × In y ((history_of w.trace).objects (area_of x)) × (y.handle ≡ x) = given_in w.state w.memory (history_of w.trace) sound x p in
      record { area = area_of x; object = k.0; live = k.1; handle = k.2; since = rw k.2 at (o.since (area_of x) k.0 k.1) }

  names_live : (x : ℕ) → Names (history_of w.trace) w.trace x → live w.state w.memory x ≡ true
  names_live x n =
      let h = area_below w.state w.memory (history_of w.trace) sound n.area n.object n.live in
      rw n.handle at (given_live w.state w.memory (history_of w.trace) sound n.object.handle
      (in_given w.state w.memory (history_of w.trace) sound n.area n.object h n.live))

  gone_after : (rest : List Element) (x : ℕ) → Among x (history_of w.trace).gone → live (run w rest).state (run w rest).memory x ≡ false
  gone_after rest x i =
      let z : Holds (run w rest) = (run_told w rest o).holds in
      dead_not (run w rest).state (run w rest).memory (history_of (run w rest).trace) z x
      (z.dead x (among_some (gone_run w rest x i)))

  claimed : Claims w (history_of w.trace)
  claimed = record {
    started = started w.state b sound.good sound.same;
    kinds = sound.same.kinds;
    stacks = stacks w.state b sound.good sound.same;
    opens = opens w.state b sound.good sound.same;
    parents = parents w.state b sound.good sound.same;
    counts = counts w.state b sound.good sound.same;
    displays = displays w.state b sound.good sound.same;
    dropped = dropped w.state b sound.good sound.same;
    threads = threads w.state b sound.good sound.same;
    scopes = scopes w.state b sound.good sound.same;
    heights = heights w.state b sound.good sound.same;
    room = room w.state b sound.good sound.same;
    order = order w.state b sound.good sound.same;
    references = λ a x i j h. ⊎_elim
        (λ z. inl z)
        (λ n. inr (given_names (word_at w.state w.memory a (suc (offset_of x.handle + j))) n.given))
        (slot_holds w.state w.memory b sound a x i (area_below w.state w.memory b sound a x i) j h);
    within = λ a x i. within w.state w.memory b sound a x (area_below w.state w.memory b sound a x i) i;
    handles = λ x. (λ e. given_names x (live_given w.state w.memory b sound x e), names_live x);
    unique = λ a c x y i j e. one_object w.state w.memory b sound a c x y
        (area_below w.state w.memory b sound a x i) (area_below w.state w.memory b sound c y j) i j e;
    gone = gone_after;
    looks = looks w.state b sound.good sound.same;
    walked = walked w.state b sound.good sound.same;
    scanned = scanned w.state b sound.good sound.same;
    loads = λ l before i. (each_answers i o.answers).loads;
    loaded = λ l before i. (each_answers i o.answers).loaded;
    reads = λ l before i. (each_answers i o.answers).reads;
    entries = λ l before i. (each_answers i o.answers).entries;
    exits = λ l before i. (each_answers i o.answers).exits;
    rights = o.table;
    loadable = sound.good.rights;
    reloads = λ l before i. (each_answers i o.answers).reloads;
    helpers = λ l before i. (each_answers i o.answers).helpers;
    made = made_told w.state b sound.good sound.same o.sized;
    sizes = o.sized;
    rooms = rooms_told w.state b sound.good sound.same o.sized;
    apart = apart_told w.state b sound.good sound.same o.sized;
    used = used_told w.state b sound.good sound.same o.sized;
    removes = λ l before i. (each_answers i o.answers).removes;
  }

-- The one theorem: from an accepted set-up, with any contents of the lent words, after every list of calls. The list has loads of any text at any place,
-- so this is "Soundness of references must hold under every loadable table", the table changing on the way included.
pub every_list : (h i : ℕ) (m : Memory) → begins h i m ≡ 0 → (es : List Element)
    → Claims (run (begin h i m) es) (history_of (run (begin h i m) es).trace)
every_list h i m e es = claimed (run (begin h i m) es) (run_told (begin h i m) es (begin_told h i m e))
