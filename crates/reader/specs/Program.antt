-- What a program writes that begins in the first world, feeds its input chunk by chunk, writes the output of each chunk, and finishes: the answers to the
-- lines of the whole input, wherever the chunks were cut. It rests on what feeding and finishing promise.
-- Assumes nothing.
use Rattle.std.specs.Prelude.{ℕ, ◌+◌, ◌*◌, ◌≤◌, ◌≡◌, refl, List, [], ◌∷◌, ◌++◌, length, take, drop}
use Rattle.std.proofs.Common.{arith, ap, ap₂, ◌∙◌}
use Rattle.std.proofs.lemmas.List.Edits.{sets, sets-eq}
use Rattle.std.proofs.Math.Seq.{take-append_seam}
use Rattle.model.specs.Run.{World}
use Rattle.line_answers.specs.Output.{first_world, output_of}
use Rattle.lines.specs.declared.line.Line.{Line}
use Rattle.lines.specs.Lines.{Buffered}
use Rattle.reader.specs.Feeding.{Feeding, fed, finished, fed_all, joined, fed_output}
use Rattle.line_answers.specs.Answered.{Core, Represents}
use Rattle.reader.specs.Held.{Held, held, LeavesFed, Feeds, Finishes}

-- Chunk after chunk: each is fed to what the one before it left, with an output that has room for it and is written as far as it goes.
pub data FedChunks : Core → Line → List (List ℕ) → List ℕ → Core → Line → Type 0 where
  none : {k : Core} {line : Line} → FedChunks k line [] [] k line
  more : {k k₁ k₂ : Core} {line line₁ line₂ : Line} {chunk out out₁ : List ℕ} {n : ℕ} {chunks : List (List ℕ)} {written : List ℕ}
      → 19 * length chunk ≤ length out
      → Feeds (held k line out 0) (held k₁ line₁ out₁ n) chunk
      → FedChunks k₁ line₁ chunks written k₂ line₂
      → FedChunks k line (chunk ∷ chunks) (take n out₁ ++ written) k₂ line₂

-- what is written of an output that was filled from its start
take_sets : (l o : List ℕ) → length o ≤ length l → take (length o) (sets l 0 o) ≡ o
take_sets l o h = ap (take (length o)) (sets-eq o l 0 (omega arith)) ∙ take-append_seam o (drop (0 + length o) l)

written_part : (e x : Held) (f : Feeding) → e.at ≡ 0 → x.at ≤ length e.output → LeavesFed e x f → take x.at x.output ≡ f.output
written_part e x f z h v =
    let n : x.at ≡ length f.output = omega (arith, v.at_is) in
    rw (n, v.output_is, z) (take_sets e.output f.output (omega arith))

pub record After (k : Core) (line : Line) (written : List ℕ) (f : Feeding) : Type 0 where
  pub written_is : written ≡ f.output
  pub represents : Represents k f.world
  pub buffered : Buffered line f.line

pub fed_after : {k k₁ : Core} {line line₁ : Line} {chunks : List (List ℕ)} {written : List ℕ} (w : World) (l : List ℕ)
    → FedChunks k line chunks written k₁ line₁ → Represents k w → Buffered line l → After k₁ line₁ written (fed_all w l chunks)
unfolding fed_all
fed_after w l none s h = record { written_is = refl; represents = s; buffered = h }
fed_after w l (more {k = k} {k₁ = k₁} {line = line} {line₁ = line₁} {chunk = chunk} {out = out} {out₁ = out₁} {n = n} r f d) s h =
    let v = f.leaves w l s h in
    let a = fed_after (fed w l chunk).world (fed w l chunk).line d v.represents v.buffered in
    record {
      written_is =
          ap₂ (λ (x y : List ℕ). x ++ y)
          (written_part (held k line out 0) (held k₁ line₁ out₁ n) (fed w l chunk) refl (omega (arith, f.room)) v)
          a.written_is;
      represents = a.represents;
      buffered = a.buffered;
    }

-- the whole: from the first world and an empty line to the end of the input
pub program : {k k₁ k₂ : Core} {line line₁ line₂ : Line} {chunks : List (List ℕ)} {written out out₁ : List ℕ} {n : ℕ}
    → Represents k first_world
    → Buffered line []
    → FedChunks k line chunks written k₁ line₁
    → 19 ≤ length out
    → Finishes (held k₁ line₁ out 0) (held k₂ line₂ out₁ n)
    → written ++ take n out₁ ≡ output_of (joined chunks)
program {k} {k₁} {k₂} {line} {line₁} {line₂} {chunks} {written} {out} {out₁} {n} s z d r f =
    let a = fed_after first_world [] d s z in
    let all : Feeding = fed_all first_world [] chunks in
    let v = f.leaves all.world all.line a.represents a.buffered in
    ap₂ (λ (x y : List ℕ). x ++ y) a.written_is
    (written_part (held k₁ line₁ out 0) (held k₂ line₂ out₁ n) (finished all.world all.line) refl (omega (arith, f.room)) v)
    ∙ fed_output chunks
