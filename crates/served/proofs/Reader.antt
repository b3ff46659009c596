-- The reader of frames: its world is that of a list of calls, one for each line that is a frame, in the order of the lines. So every claim
-- holds of the tables and buffers of a program that feeds it, and what such a program writes tells the answers of those calls.
-- Assumes nothing.
use Prim.Native.Nat.{ℕ}
use mathlib.Core.List.{List, [], ◌∷◌, ◌++◌}
use mathlib.Core.Path.{◌≡◌, refl, sym, ap, ◌∙◌, subst}
use native.Mathlib.Omega.{arith}
use lib.Dec.{eqb}
use lib.ListN.{replicate, length-replicate}
use Rattle.layout.specs.Choice.{cases}
use Rattle.model.specs.declared.Lengths.{Lengths}
use Rattle.model.specs.SetUp.{set_up_status}
use Rattle.model.specs.Run.{kept, Element, World, step, run, begin, Reached}
use Rattle.model.specs.History.{history_of}
use Rattle.model.specs.Claims.{Claims}
use Rattle.model.proofs.Reached.{run_none, reached_step, reached_claims}
use Rattle.tables.specs.Contract.{memory_of}
use Rattle.tables.proofs.AnsweredLaws.{world_of}
use Rattle.setup.specs.First.{prepared}
use Rattle.std.specs.Prelude.{Option, Some, None}
use Rattle.lines.specs.declared.frame.Fields.{Fields}
use Rattle.lines.specs.declared.line.Line.{Line}
use Rattle.lines.specs.Lines.{Buffered}
use Rattle.lines.specs.Frames.{parsed_of}
use Rattle.line_answers.specs.Output.{frame_call, answer_to, following, line_answer, after_line, lines_of, answers_of, first_world, output_of}
use Rattle.reader.specs.Feeding.{fed, finished, fed_all, joined, fed_none, fed_end, fed_other, fed_chunks, lines_end, lines_other}
use Rattle.line_answers.specs.Answered.{Core, Represents}
use Rattle.reader.specs.Held.{held, Finishes}
use Rattle.reader.specs.Program.{FedChunks, fed_after}
use Rattle.served.specs.Input.{elements_to, elements_of, lines_from, onto, answer_by, left_by, answers_by}

-- ---- the world after lines is that of their calls

unfoldable after_lines : World → List (List ℕ) → World
after_lines w [] = w
after_lines w (l ∷ ls) = after_lines (after_line w l) ls

after_to : (w : World) (x : Option Fields) (es : List Element) → run w (elements_to x es) ≡ run (following w x) es
unfolding run
after_to w (Some f) es = refl
after_to w None es = refl

after_lines_lem : (ls : List (List ℕ)) (w : World) → after_lines w ls ≡ run w (elements_of ls)
unfolding after_lines elements_of after_line run
after_lines_lem [] w = refl
after_lines_lem (l ∷ ls) w = after_lines_lem ls (after_line w l) ∙ sym (after_to w (parsed_of l) (elements_of ls))

rest_world : (w : World) (l : List ℕ) → (finished w l).world ≡ after_lines w (lines_of l [])
unfolding finished lines_of after_lines
rest_world w [] = refl
rest_world w (c ∷ l) = refl

more_world : (w : World) (l : List ℕ) (ls : List (List ℕ)) → after_lines w (l ∷ ls) ≡ after_lines (after_line w l) ls
unfolding after_lines
more_world w l ls = refl

fed_world : (input : List ℕ) (w : World) (l : List ℕ) → (finished (fed w l input).world (fed w l input).line).world ≡ after_lines w (lines_of l input)
fed_world [] w l = rw (fed_none w l) (rest_world w l)
fed_world (b ∷ input) w l =
    cases (eqb b 10)
    (λ e. rw (fed_end w l b input e, lines_end l b input e, more_world w l (lines_of [] input)) (fed_world input (after_line w l) []))
    (λ e. rw (fed_other w l b input e, lines_other l b input e) (fed_world input w (l ++ (b ∷ []))))

-- the world at the end of an input is that of the calls of its lines
pub output_world : (input : List ℕ)
    → (finished (fed first_world [] input).world (fed first_world [] input).line).world ≡ run first_world (elements_of (lines_of [] input))
output_world input = fed_world input first_world [] ∙ after_lines_lem (lines_of [] input) first_world

-- ---- between any two bytes of the input it is one of the list theorem

fitting : (n : Lengths) (k : ℕ) → n.permanent ≡ 2048 → n.scratch ≡ 4096 → n.map ≡ 96 → k ≡ 96 → set_up_status 1024 1024 n k ≡ 0
fitting n k p s m x = sym (prepared 1024 1024 n k (sym p) (omega arith) (omega arith) (rw (p, s, m) refl) (x ∙ sym m))

first_reached : Reached first_world
unfolding first_world
first_reached = record {
  heap = 1024;
  immortal = 1024;
  memory = memory_of (replicate 2048 0) (replicate 4096 0) (replicate 96 0) (replicate 96 0);
  accepted = fitting _ _ (length-replicate {A = ℕ} 2048 0) (length-replicate {A = ℕ} 4096 0) (length-replicate {A = ℕ} 96 0) (length-replicate {A = ℕ} 96 0);
  elements = [];
  run_is = sym (run_none (begin 1024 1024 (memory_of (replicate 2048 0) (replicate 4096 0) (replicate 96 0) (replicate 96 0))));
}

line_reached : (w : World) (x : Option Fields) → Reached w → Reached (following w x)
line_reached w (Some f) r = reached_step w (record { call = frame_call f; supplied = kept }) r
line_reached w None r = r

after_reached : (w : World) (l : List ℕ) → Reached w → Reached (after_line w l)
unfolding after_line
after_reached w l r = line_reached w (parsed_of l) r

fed_reached : (input : List ℕ) (w : World) (l : List ℕ) → Reached w → Reached (fed w l input).world
fed_reached [] w l r = rw (fed_none w l) r
fed_reached (b ∷ input) w l r =
    cases (eqb b 10)
    (λ e. rw (fed_end w l b input e) (fed_reached input (after_line w l) [] (after_reached w l r)))
    (λ e. rw (fed_other w l b input e) (fed_reached input w (l ++ (b ∷ [])) r))

finished_reached : (w : World) (l : List ℕ) → Reached w → Reached (finished w l).world
unfolding finished
finished_reached w [] r = r
finished_reached w (c ∷ l) r = after_reached w (c ∷ l) r

-- ---- every claim holds of what the reader's tables and buffers hold

-- with the lines of the calls so far
abbrev pub CoreClaims : Core → World → Type 0
CoreClaims k w = Claims (world_of k.words k.bytes (memory_of k.permanent k.scratch k.map k.written) w.trace) (history_of w.trace)

represents_claims : (k : Core) (w : World) → Represents k w → Reached w → CoreClaims k w
represents_claims k w s r = rw (s.state, s.memory) (reached_claims w r)

module _ {k k₁ : Core} {line line₁ : Line} {chunks : List (List ℕ)} {written : List ℕ}
    (s : Represents k first_world) (z : Buffered line []) (d : FedChunks k line chunks written k₁ line₁) where
  abbrev input : List ℕ
  input = joined chunks

  -- after each chunk, however the input was cut
  pub chunks_claims : CoreClaims k₁ (fed first_world [] input).world
  chunks_claims =
      represents_claims k₁ (fed first_world [] input).world
      (rw (fed_chunks chunks first_world []) at (fed_after first_world [] d s z).represents)
      (fed_reached input first_world [] first_reached)

  -- after the end of the input: with the lines of the calls of all its frames
  pub program_claims : {k₂ : Core} {line₂ : Line} {out out₁ : List ℕ} {n : ℕ} → Finishes (held k₁ line₁ out 0) (held k₂ line₂ out₁ n)
      → CoreClaims k₂ (run first_world (elements_of (lines_of [] input)))
  program_claims {k₂} f =
      let a = fed_after first_world [] d s z in
      let v = f.leaves (fed_all first_world [] chunks).world (fed_all first_world [] chunks).line a.represents a.buffered in
      let w : World = (finished (fed first_world [] input).world (fed first_world [] input).line).world in
      subst (CoreClaims k₂) (output_world input)
      (represents_claims k₂ w (rw (fed_chunks chunks first_world []) at v.represents)
      (finished_reached (fed first_world [] input).world (fed first_world [] input).line (fed_reached input first_world [] first_reached)))

-- ---- and what it has written tells the calls' answers, in their order

pub run_trace : (es : List Element) (w : World) → (run w es).trace ≡ onto (lines_from w es) w.trace
unfolding run step lines_from onto
run_trace [] w = refl
run_trace (e ∷ es) w = run_trace es (step w e)

answer_by_lem : (w : World) (x : Option Fields) (lines : List (List ℕ)) (es : List Element)
    → answer_by x (lines_from w (elements_to x es)) ++ answers_by lines (left_by x (lines_from w (elements_to x es)))
    ≡ answer_to w x ++ answers_by lines (lines_from (following w x) es)
unfolding lines_from
answer_by_lem w (Some f) lines es = refl
answer_by_lem w None lines es = refl

answers_by_lem : (lines : List (List ℕ)) (w : World) → answers_of w lines ≡ answers_by lines (lines_from w (elements_of lines))
unfolding answers_of answers_by elements_of line_answer after_line
answers_by_lem [] w = refl
answers_by_lem (l ∷ lines) w =
    ap (λ (o : List ℕ). line_answer w l ++ o) (answers_by_lem lines (after_line w l)) ∙ sym (answer_by_lem w (parsed_of l) lines (elements_of lines))

-- the output of an input tells the lines of its list of calls, which are the trace of the world at its end
pub output_told : (input : List ℕ) → output_of input ≡ answers_by (lines_of [] input) (lines_from first_world (elements_of (lines_of [] input)))
unfolding output_of
output_told input = answers_by_lem (lines_of [] input) first_world
