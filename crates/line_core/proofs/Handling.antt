-- Lines of a script that are handled one after another.
use Rattle.std.proofs.Common.{◌≡◌, ◌≢◌, ℕ, ◌+◌, ◌-◌, ◌⊎◌, inl, inr, List, [], ◌∷◌, ◌++◌, length, take, Option, None, refl, sym, ap, ◌∙◌, append-nil, subst, arith}
use Rattle.std.specs.Prelude.{Result, Ok, Err, OnOk, OnErr, IfErr}
use Rattle.std.proofs.lemmas.List.{take-append-le}
use Rattle.line_core.specs.declared.script.Ending.{Ending}
use Rattle.line_core.specs.declared.script.Ending.TheVariants as ending
use Rattle.line_core.specs.declared.script.TheConstants.{SCRIPT_BYTES}
use Rattle.line_core.specs.Cutting.{cut}
use Rattle.line_core.specs.Handling.{BeginsScript, FailsLast, Handled, HandlesLast, HandlesLine, HandlesScript, StopsAmong}
use Rattle.line_core.specs.Line.{body_of}
use Rattle.line_core.specs.Reading.{EndsSo, WasRead}
use Rattle.line_core.specs.Script.{answered, ended_lines, ending_of, last_body, lines_of, lines_until, numbered, script_of}
use Rattle.line_core.specs.ScriptLines.{HasEnded, HasGiven, LinesState}
use Rattle.line_core.proofs.Cutting.{take-append}
use Rattle.line_core.proofs.EndedLines.{last-answered, line-answered, numbered-given}
use Rattle.line_core.proofs.Fronts.{some_lines}
use Rattle.line_core.proofs.Inputs.{input_from, script_of-too_long, script_of-whole}

-- a fact of a call that succeeded, or failed
pub on-ok : {T E A B : Type 0} (r : Result T E) → (A → B) → OnOk r A → OnOk r B
on-ok (Ok v) f h = f h
on-ok (Err e) f h = tt

pub on-both : {T E A B C : Type 0} (r : Result T E) → (A → B → C) → OnOk r A → OnOk r B → OnOk r C
on-both (Ok v) f g h = f g h
on-both (Err e) f g h = tt

pub on-err : {T E A : Type 0} {P Q : E → Type 0} (r : Result T E) → (A → (e : E) → P e → Q e) → OnErr r A → IfErr r P → IfErr r Q
on-err (Ok v) f h p = tt
on-err (Err e) f h p = f h e p

pub if-err : {T E : Type 0} {P Q : E → Type 0} (r : Result T E) → ((e : E) → P e → Q e) → IfErr r P → IfErr r Q
if-err (Ok v) f p = tt
if-err (Err e) f p = f e p

-- ---- the lines that were read, and the script

-- the lines that were returned are the script's first
pub given-begins : (before now : Option (List ℕ)) (s : LinesState) (given : List (List ℕ)) → HasGiven before now s given → BeginsScript before given (ended_lines 1 given)
given-begins before now s given p =
    let input = input_from before now p.bytes p.consumed in
    let script = input.0 in
    let after = take (SCRIPT_BYTES - length p.bytes) input.1.more in
    let within : take SCRIPT_BYTES script ≡ take SCRIPT_BYTES p.bytes ++ after = ap (λ xs. take SCRIPT_BYTES xs) input.1.whole ∙ take-append SCRIPT_BYTES p.bytes input.1.more in
    let tail = lines_of (p.front ++ (s.ready ++ after)) in
    let split : lines_of (take SCRIPT_BYTES script) ≡ given ++ tail = ap lines_of within ∙ p.split after in
    record {
      script = script;
      is = input.1.input;
      tail = tail;
      split = split;
      rest = numbered (ending_of script) (1 + length given) tail;
      first = ap (numbered (ending_of script) 1) split ∙ numbered-given (ending_of script) 1 given tail (some_lines (p.front ++ (s.ready ++ after)));
    }

-- bytes that end so, if the read did not fail, are the whole script
pub whole-begins : (before left : Option (List ℕ)) (bytes : List ℕ) (end : Ending) → WasRead before left bytes end → (end ≡ ending.Whole) ⊎ (end ≡ ending.TooLong)
    → BeginsScript before (lines_of (take SCRIPT_BYTES bytes)) (lines_until end (take SCRIPT_BYTES bytes))
whole-begins before left bytes end read ends =
    let input = input_from before left bytes read.consumed in
    let script = input.0 in
    let of = input.1 in
    let ls = lines_of (take SCRIPT_BYTES bytes) in
    let same : (take SCRIPT_BYTES script ≡ take SCRIPT_BYTES bytes) × (script_of script ≡ lines_until end (take SCRIPT_BYTES bytes)) = elim ends [
      | inl e ↦ (let whole = subst (EndsSo left bytes) e read.ends in (
        ap (take SCRIPT_BYTES) (of.whole ∙ ap (λ more. bytes ++ more) (of.end whole.1) ∙ append-nil bytes),
        script_of-whole before left bytes script of whole ∙ ap (λ x. lines_until x (take SCRIPT_BYTES bytes)) (sym e),
      ))
      | inr e ↦ (let long = subst (EndsSo left bytes) e read.ends in (
        ap (take SCRIPT_BYTES) of.whole ∙ take-append-le SCRIPT_BYTES bytes of.more (omega (arith, long)),
        script_of-too_long before left bytes script of long ∙ ap (λ x. lines_until x (take SCRIPT_BYTES bytes)) (sym e),
      ))
    ] in
    record {
      script = script;
      is = of.input;
      tail = [];
      split = ap lines_of same.0 ∙ sym (append-nil ls);
      rest = [];
      first = same.1 ∙ sym (append-nil (lines_until end (take SCRIPT_BYTES bytes)));
    }

-- ---- one line

-- one more line was handled
pub line-handled : {S : Type 0} (handled next : Handled S) (given : List (List ℕ)) (line bytes : List ℕ) (number : ℕ) (start old new : S)
    → handled start given (ended_lines 1 given) old → number ≡ length given + 1 → bytes ≡ cut line
    → HandlesLine handled next number bytes (body_of bytes) old new → next start (given ++ line ∷ []) (ended_lines 1 (given ++ line ∷ [])) new
line-handled handled next given line bytes number start old new p place held h =
    subst (λ said. next start (given ++ line ∷ []) said new) (line-answered given line bytes number (body_of bytes) place held refl) (h start given (ended_lines 1 given) line p place held)

module _ {S : Type 0} (handled : Handled S) (before now left : Option (List ℕ)) (s t : LinesState) (given : List (List ℕ)) (number : ℕ) (bytes : List ℕ) (start old new : S) (g : HasGiven before now s given) (p : handled start given (ended_lines 1 given) old) where
  -- the last line was handled
  last-handled : (end : Ending) (e : HasEnded before left t end given) → number ≡ t.number → bytes ≡ t.line → (next : Handled S) → HandlesLine handled next number bytes (last_body end bytes) old new
      → next start (lines_of (take SCRIPT_BYTES e.bytes)) (lines_until end (take SCRIPT_BYTES e.bytes)) new
  last-handled end e n held next h =
      let said : ended_lines 1 given ++ answered number (last_body end bytes) [] ≡ lines_until end (take SCRIPT_BYTES e.bytes) = last-answered before left t end given e bytes number (last_body end bytes) n held refl in
      subst (λ ls. next start ls (lines_until end (take SCRIPT_BYTES e.bytes)) new) (sym e.split)
      (subst (λ ls. next start (given ++ e.last ∷ []) ls new) said (h start given (ended_lines 1 given) e.last p (n ∙ e.number) (held ∙ e.is.held)))

  pub script-handled : (end : Ending) (ended : Ending → Handled S) (e : HasEnded before left t end given) → number ≡ t.number → bytes ≡ t.line → HandlesLast handled ended end number bytes old new → HandlesScript handled ended before left end start new
  script-handled ending.Whole ended e n held h = record {
    bytes = e.bytes;
    read = e.read;
    lines = lines_of (take SCRIPT_BYTES e.bytes);
    said = lines_until ending.Whole (take SCRIPT_BYTES e.bytes);
    begins = whole-begins before left e.bytes ending.Whole e.read (inl refl);
    is = refl;
    unread = [];
    split = sym (append-nil (lines_of (take SCRIPT_BYTES e.bytes)));
    whole = λ other. (refl, last-handled ending.Whole e n held (ended ending.Whole) (h.whole other));
    broken = λ failed. absurd (cc);
  }
  script-handled ending.TooLong ended e n held h = record {
    bytes = e.bytes;
    read = e.read;
    lines = lines_of (take SCRIPT_BYTES e.bytes);
    said = lines_until ending.TooLong (take SCRIPT_BYTES e.bytes);
    begins = whole-begins before left e.bytes ending.TooLong e.read (inr refl);
    is = refl;
    unread = [];
    split = sym (append-nil (lines_of (take SCRIPT_BYTES e.bytes)));
    whole = λ other. (refl, last-handled ending.TooLong e n held (ended ending.TooLong) (h.whole other));
    broken = λ failed. absurd (cc);
  }
  script-handled ending.Failed ended e n held h = record {
    bytes = e.bytes;
    read = e.read;
    lines = given;
    said = ended_lines 1 given;
    begins = given-begins before now s given g;
    is = sym (append-nil (ended_lines 1 given)) ∙ last-answered before left t ending.Failed given e bytes number None n held refl;
    unread = e.last ∷ [];
    split = e.split;
    whole = λ other. absurd (other refl);
    broken = λ failed. subst (handled start given (ended_lines 1 given)) (sym (h.broken failed)) p;
  }

  pub last-failed : (end : Ending) (failed : Handled S) (e : HasEnded before left t end given) → number ≡ t.number → bytes ≡ t.line → FailsLast handled failed end number bytes old new → StopsAmong failed before start new
  last-failed ending.Whole failed e n held h = record {
    lines = lines_of (take SCRIPT_BYTES e.bytes);
    said = lines_until ending.Whole (take SCRIPT_BYTES e.bytes);
    begins = whole-begins before left e.bytes ending.Whole e.read (inl refl);
    at = last-handled ending.Whole e n held failed h.at;
  }
  last-failed ending.TooLong failed e n held h = record {
    lines = lines_of (take SCRIPT_BYTES e.bytes);
    said = lines_until ending.TooLong (take SCRIPT_BYTES e.bytes);
    begins = whole-begins before left e.bytes ending.TooLong e.read (inr refl);
    at = last-handled ending.TooLong e n held failed h.at;
  }
  last-failed ending.Failed failed e n held h = absurd (h.whole refl)

-- ---- the end of the script

-- no read failed in the last line
pub not-failed : (end : Ending) → (end ≡ ending.Whole) ⊎ (end ≡ ending.TooLong) → end ≢ ending.Failed
not-failed end (inl e) failed = cc
not-failed end (inr e) failed = cc

-- where the last line is handled as the others are
pub all-handled : {S : Type 0} {handled : Handled S} (before left : Option (List ℕ)) (end : Ending) (start now : S) (h : HandlesScript handled (λ _. handled) before left end start now) → handled start h.lines h.said now
all-handled before left ending.Whole start now h = (h.whole (λ e. cc)).1
all-handled before left ending.TooLong start now h = (h.whole (λ e. cc)).1
all-handled before left ending.Failed start now h = h.broken refl
