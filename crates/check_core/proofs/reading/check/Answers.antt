-- The script is what was read of it, if the reader is at its end. Each call says why it was refused.
use Rattle.std.proofs.Common.{inl, inr, refl, ap, subst, ◌∙◌, ◌≡◌, ◌⊎◌, take, Result, Err}
use Rattle.std.proofs.KnownBytes.{Keeps-refl}
use Rattle.std.proofs.lemmas.Result.{err_from_is_err_and}
use Rattle.point_core.specs.declared.refusal.Refusal.{Refusal}
use Rattle.point_core.specs.declared.refusal.Refusal.TheVariants.{Limit, Read, Write, Memory}
use Rattle.point_core.specs.declared.refusal.LimitKind.TheVariants.{Script}
use Rattle.line_core.specs.Reading.{WasRead}
use Rattle.line_core.specs.Script.{lines_until}
use Rattle.line_core.specs.declared.script.TheConstants.{SCRIPT_BYTES}
use Rattle.line_core.proofs.Handling.{not-failed}
use Rattle.check_core.specs.Checked.{tally_of_checker}
use Rattle.check_core.proofs.Progress.{HasChecked-none, checks-bytes, checks-input, reads-few, reads-long}
use Rattle.check_core.proofs.reading.check.Goals as goal

not-read : {T : Type 0} (r : Result T Refusal) (e f : Refusal) → r ≡ Err e → e ≡ f → (f ≡ Write) ⊎ (f ≡ Memory) → r ≡ Err Read → ⊥
not-read r e f is same (inl write) read = cc
not-read r e f is same (inr memory) read = cc

not-limit : {T : Type 0} (r : Result T Refusal) (e f : Refusal) → r ≡ Err e → e ≡ f → (f ≡ Write) ⊎ (f ≡ Memory) → r ≡ Err (Limit Script) → ⊥
not-limit r e f is same (inl write) limit = cc
not-limit r e f is same (inr memory) limit = cc

pub for_each_line-requires : goal.for_each_line-requires
for_each_line-requires g c =
    let quiet = Keeps-refl (g.W.Write.contents c.args.writer.now) in
    record {
      fresh = record {
        so_far = HasChecked-none c.new-checker.result.checker c.new-checker.ensures.fresh;
        slips = c.new-checker.ensures.slips;
        quiet = λ _ _. quiet;
      };
    }

pub returns-in_err-ending-clause-read : goal.returns-in_err-ending-clause-read
returns-in_err-ending-clause-read g c read =
    let p = err_from_is_err_and c.from_residual.result c.from_residual.ensures.1 in
    absurd (not-read c.from_residual.result _ _ p.1 p.2 c.in_err-ending.ensures.err.at read)

pub returns-in_err-ending-clause-limit : goal.returns-in_err-ending-clause-limit
returns-in_err-ending-clause-limit g c limit =
    let p = err_from_is_err_and c.from_residual.result c.from_residual.ensures.1 in
    absurd (not-limit c.from_residual.result _ _ p.1 p.2 c.in_err-ending.ensures.err.at limit)

pub returns-in_err-ending-clause-refusals : goal.returns-in_err-ending-clause-refusals
returns-in_err-ending-clause-refusals g c =
    let p = err_from_is_err_and c.from_residual.result c.from_residual.ensures.1 in
    rw (p.1, p.2) (inr (inr c.in_err-ending.ensures.err.at))

pub returns-in-TooLong-clause-refusals : goal.returns-in-TooLong-clause-refusals
returns-in-TooLong-clause-refusals g c = inr (inl refl)

pub returns-in-Failed-clause-refusals : goal.returns-in-Failed-clause-refusals
returns-in-Failed-clause-refusals g c = inl refl

pub returns-in-Whole-clause-ok : goal.returns-in-Whole-clause-ok
returns-in-Whole-clause-ok g c =
    let b = c.in_ok-ending.ensures.ok in
    let tally = tally_of_checker c.for_each_line.new.handler in
    let read = subst (WasRead _ _ b.bytes) c.in-Whole.is b.read in
    let at = b.whole (not-failed _ (inl c.in-Whole.is)) in
    let is = b.is ∙ ap (λ end. lines_until end (take SCRIPT_BYTES b.bytes)) c.in-Whole.is in
    checks-input _ _ b.bytes tally read (checks-bytes b.bytes b.lines b.unread b.said tally read.ends.0 is b.split at.0 (at.1 c.in-Whole.is).checks)

pub returns-in-Whole-clause-reads : goal.returns-in-Whole-clause-reads
returns-in-Whole-clause-reads g c =
    let b = c.in_ok-ending.ensures.ok in
    (b.bytes, subst (WasRead _ _ b.bytes) c.in-Whole.is b.read)

pub returns-in-Whole-clause-quiet : goal.returns-in-Whole-clause-quiet
returns-in-Whole-clause-quiet g c none no_slips =
    let b = c.in_ok-ending.ensures.ok in
    let at = b.whole (not-failed _ (inl c.in-Whole.is)) in
    (at.1 c.in-Whole.is).quiet none no_slips

pub returns-in-TooLong-clause-limit : goal.returns-in-TooLong-clause-limit
returns-in-TooLong-clause-limit g c _ =
    let b = c.in_ok-ending.ensures.ok in
    reads-long _ _ b.bytes (subst (WasRead _ _ b.bytes) c.in-TooLong.is b.read)

pub returns-in-Failed-clause-read : goal.returns-in-Failed-clause-read
returns-in-Failed-clause-read g c _ =
    let b = c.in_ok-ending.ensures.ok in
    reads-few _ _ b.bytes (subst (WasRead _ _ b.bytes) c.in-Failed.is b.read)
