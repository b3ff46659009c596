-- What a run writes, and where it leaves the core: that of feeding what was read, and of finishing where nothing failed. And every claim holds of it.
-- Assumes nothing.
use Rattle.std.specs.Prelude.{ℕ, ◌≡◌, List, [], ◌++◌, take}
use Rattle.std.proofs.Common.{subst, append-nil}
use Rattle.model.specs.Run.{run}
use Rattle.line_answers.specs.Output.{first_world, lines_of, output_of}
use Rattle.reader.specs.Feeding.{Feeding, fed, finished, joined, fed_chunks}
use Rattle.line_answers.specs.Answered.{Core, Represents}
use Rattle.reader.specs.Program.{After, fed_after, program}
use Rattle.served.specs.Input.{elements_of}
use Rattle.served.proofs.Reader.{CoreClaims, chunks_claims, program_claims}
use Rattle.frames.specs.declared.Ended.{Ended}
use Rattle.frames.specs.Progress.{Ran}

module _ {k₀ k₂ : Core} {input out₂ : List ℕ} {e : Ended} (r : Ran k₀ k₂ input out₂ e) where
  -- the bytes that the reads left in the input, in order
  abbrev pub received : List ℕ
  received = joined r.rounds.chunks

  -- the bytes that were handed to write, in order
  abbrev pub handed : List ℕ
  handed = r.rounds.written ++ take e.sent out₂

  -- what feeding leaves of all that was received
  abbrev pub reached : Feeding
  reached = fed first_world [] received

  -- after the rounds the core, what was written and the line so far are those of feeding the chunks
  after_rounds : After r.k₁ r.line₁ r.rounds.written reached
  after_rounds =
      subst (After r.k₁ r.line₁ r.rounds.written) (fed_chunks r.rounds.chunks first_world [])
      (fed_after first_world [] r.rounds.fed r.first r.empty)

  -- ---- where nothing failed

  -- what was handed to write is the answers to the lines of what was received
  pub ran_output : (e.kept ≡ 0 → ⊥) → handed ≡ output_of received
  ran_output p = program r.first r.empty r.rounds.fed r.room (r.finishes p).0

  -- and the core stands in the world after them
  pub ran_represents : (e.kept ≡ 0 → ⊥) → Represents k₂ (finished reached.world reached.line).world
  ran_represents p = ((r.finishes p).0.leaves reached.world reached.line after_rounds.represents after_rounds.buffered).represents

  -- so every claim of the list theorem holds of it, with the lines of the calls of all frames
  pub ran_claims : (e.kept ≡ 0 → ⊥) → CoreClaims k₂ (run first_world (elements_of (lines_of [] received)))
  ran_claims p = program_claims r.first r.empty r.rounds.fed (r.finishes p).0

  -- ---- where a read or a write failed: nothing was answered after it, not even the line so far

  pub failed_output : e.kept ≡ 0 → handed ≡ reached.output
  failed_output z = rw ((r.fails z).1, append-nil r.rounds.written) after_rounds.written_is

  pub failed_represents : e.kept ≡ 0 → Represents k₂ reached.world
  failed_represents z = rw (r.fails z).0 after_rounds.represents

  pub failed_claims : e.kept ≡ 0 → CoreClaims k₂ reached.world
  failed_claims z = rw (r.fails z).0 (chunks_claims r.first r.empty r.rounds.fed)
