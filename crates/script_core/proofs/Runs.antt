-- What a run did, by how it ended.
use Rattle.std.proofs.Common.{◌≡◌, ◌+◌, ◌⊎◌, inl, inr, ℕ, List, [], Option, Result, refl, arith}
use Rattle.std.specs.Prelude.{Ok, Err}
use Rattle.std.proofs.KnownBytes.{Consumes-nil}
use Rattle.point_core.specs.declared.refusal.Refusal.{Refusal}
use Rattle.point_core.specs.declared.refusal.Refusal.TheVariants.{Read as ReadFault, Write as WriteFault, Memory}
use Rattle.line_core.specs.Handling.{BeginsScript, Handled, HandlesScript}
use Rattle.line_core.specs.Reading.{ConsumesAtMost, ReadsScript}
use Rattle.line_core.specs.declared.line.Line.{Line}
use Rattle.line_core.specs.declared.script.Ending.{Ending}
use Rattle.line_core.specs.declared.script.Ending.TheVariants as ending
use Rattle.line_core.specs.declared.script.TheConstants.{SCRIPT_BYTES}
use Rattle.script_core.specs.declared.totals.Totals.{Totals}
use Rattle.script_core.specs.Output.{AnswersEndedLines, AnswersInput, WritesInputPrefix}
use Rattle.script_core.specs.Answering.{AnswersLines}
use Rattle.script_core.specs.Handled.{HasStopped}
use Rattle.script_core.specs.Run.{ReadsInput, RunsScript}
use Rattle.line_core.specs.Script.{script_of}
use Rattle.line_core.proofs.Inputs.{reads_front, some_input}
use Rattle.script_core.proofs.Inputs.{prefix_written, all_written, ended_written, WritesPrefix-all}
use Rattle.script_core.proofs.Progress.{WritesPrefix-none}

-- a failed write or allocation is no failed read
pub other-fault : (ended : Result Totals Refusal) (e : Refusal) → ended ≡ Err e → (e ≡ WriteFault) ⊎ (e ≡ Memory) → ended ≡ Err ReadFault → ⊥
other-fault ended e is (inl write) read = cc
other-fault ended e is (inr memory) read = cc

-- nothing was read
pub ConsumesAtMost-none : (most : ℕ) (known : Option (List ℕ)) → ConsumesAtMost most known known
ConsumesAtMost-none most known = record { bytes = []; consumed = Consumes-nil known; few = omega arith }

module _ (unread left : Option (List ℕ)) (within : ConsumesAtMost (SCRIPT_BYTES + 1) unread left) where
  pub ReadsInput-whole : (totals : Totals) → ReadsScript unread left → ReadsInput (Ok totals) unread left
  ReadsInput-whole totals reads = record { reads = reads; within = within; refusals = tt }

  pub ReadsInput-unread : ReadsInput (Err ReadFault) unread left
  ReadsInput-unread = record { reads = tt; within = within; refusals = inl refl }

  pub ReadsInput-fault : (e : Refusal) → (e ≡ WriteFault) ⊎ (e ≡ Memory) → ReadsInput (Err e) unread left
  ReadsInput-fault e is = record { reads = tt; within = within; refusals = inr is }

module _ (unread left old new : Option (List ℕ)) (within : ConsumesAtMost (SCRIPT_BYTES + 1) unread left) where
  -- all lines were answered
  RunsScript-whole : (totals : Totals) → ReadsScript unread left → AnswersInput unread totals old new → RunsScript (Ok totals) unread left old new
  RunsScript-whole totals reads answers = record {
    reading = ReadsInput-whole unread left within totals reads;
    ok = answers;
    read = λ e. absurd (cc);
    err = tt;
  }

  -- a read failed
  RunsScript-unread : AnswersEndedLines unread left old new → WritesInputPrefix unread old new → RunsScript (Err ReadFault) unread left old new
  RunsScript-unread ended front = record {
    reading = ReadsInput-unread unread left within;
    ok = tt;
    read = λ e. ended;
    err = front;
  }

  -- a write or an allocation failed
  RunsScript-fault : (e : Refusal) → (e ≡ WriteFault) ⊎ (e ≡ Memory) → WritesInputPrefix unread old new → RunsScript (Err e) unread left old new
  RunsScript-fault e is front = record {
    reading = ReadsInput-fault unread left within e is;
    ok = tt;
    read = λ read. absurd (other-fault (Err e) e refl is read);
    err = front;
  }

  -- the lines were handled up to one at which a write or an allocation failed
  pub RunsScript-stopped : (e : Refusal) (lines : List (List ℕ)) (said : List Line) → BeginsScript unread lines said → HasStopped e said old new → RunsScript (Err e) unread left old new
  RunsScript-stopped e lines said begins h = RunsScript-fault e h.is (prefix_written unread lines said old new begins h.written)

  -- all lines whose end was read were handled, and their answers were written
  module _ {S : Type 0} (handled : Handled S) (end : Ending) (start now : S) (b : HandlesScript handled (λ _. handled) unread left end start now) (totals : Totals) (w : AnswersLines b.said totals old new) where
    pub RunsScript-broken : end ≡ ending.Failed → RunsScript (Err ReadFault) unread left old new
    RunsScript-broken failed =
        let ended = ended_written unread left b.bytes end b.said b.read b.is old new totals failed w in
        RunsScript-unread ended (prefix_written unread b.lines b.said old new b.begins (WritesPrefix-all b.said w.given old new w.answers))

    pub RunsScript-ended : (end ≡ ending.Whole) ⊎ (end ≡ ending.TooLong) → RunsScript (Ok totals) unread left old new
    RunsScript-ended ends =
        let answers = all_written unread left b.bytes end b.said b.read b.is old new totals ends w in
        RunsScript-whole totals (reads_front unread left b.bytes end b.read ends) answers

-- no line was read
pub RunsScript-unbegun : (unread contents : Option (List ℕ)) (e : Refusal) → (e ≡ WriteFault) ⊎ (e ≡ Memory) → RunsScript (Err e) unread unread contents contents
RunsScript-unbegun unread contents e is =
    let input = some_input unread in
    RunsScript-fault unread unread contents contents (ConsumesAtMost-none (SCRIPT_BYTES + 1) unread) e is (input.0, input.1, WritesPrefix-none (script_of input.0) contents)
