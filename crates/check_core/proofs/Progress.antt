-- Lines that are checked one after another.
use Rattle.std.proofs.Common.{◌≡◌, ℕ, ◌+◌, ◌≤◌, ◌⊎◌, inl, inr, Bool, true, false, cond, List, [], ◌∷◌, ◌++◌, length, drop, take, Option, None, Some, is_some, option_to_list, refl, sym, ap, ◌∙◌, subst, append_assoc, append-nil, arith}
use Rattle.std.proofs.Math.Seq.{drop-append_seam}
use Rattle.std.proofs.lemmas.Bool.{cases_lt, lt-ltb, le-leb}
use Rattle.std.proofs.lemmas.List.{take_all, length_push}
use Rattle.point_core.specs.declared.refusal.Refusal.TheVariants.{LongLine}
use Rattle.command_core.specs.declared.answer.Answer.{Answer}
use Rattle.desk_core.specs.theorem.Desk.{HasHistory}
use Rattle.line_core.specs.declared.line.Body.{Body}
use Rattle.line_core.specs.declared.line.Body.TheVariants.{Bad}
use Rattle.line_core.specs.declared.line.Line.{Line}
use Rattle.line_core.specs.declared.line.TheConstants.{LINE_BYTES}
use Rattle.line_core.specs.declared.script.Ending.{Ending}
use Rattle.line_core.specs.declared.script.Ending.TheVariants as ending
use Rattle.line_core.specs.declared.script.TheConstants.{SCRIPT_BYTES}
use Rattle.script_core.specs.Answering.{history_along}
use Rattle.line_core.specs.Cutting.{cut}
use Rattle.line_core.specs.Line.{body_from, body_of}
use Rattle.line_core.specs.Reading.{IsInput, WasRead, ConsumesAtMost}
use Rattle.script_core.specs.Output.{AreLineAnswers}
use Rattle.line_core.specs.Script.{answered, ending_of, last_body, lines_of, lines_until, script_of}
use Rattle.report_core.specs.Answer.{text_of}
use Rattle.line_core.specs.Words.{words_of}
use Rattle.line_core.proofs.EndedLines.{body_of-cut}
use Rattle.line_core.proofs.Inputs.{input_from}
use Rattle.script_core.proofs.Progress.{AreLineAnswers-push, history_along-push, length-answers}
use Rattle.check_core.specs.declared.checker.Checker.{Checker}
use Rattle.check_core.specs.declared.tally.CheckTally.{CheckTally}
use Rattle.check_core.specs.Checked.{HasChecked, asked_among, asked_of, differing_among, differing_of, expected_at}
use Rattle.check_core.specs.Expected.{expected_text, expected_after, expected_of, is_asked, differs}
use Rattle.check_core.specs.Check.{AnswersAsExpected, AreAsExpected, asked_count, differing_count, ChecksScript, IsJudged, IsFresh, IsTooLong, Expects, IsJudgedAt, IsAnswered, IsTaken, IsEnded}
use Rattle.check_core.specs.Slips.{slip_count}
use Rattle.check_core.specs.Stage.{IsAt}
use Rattle.check_core.specs.Tally.{one_if}
use Rattle.check_core.proofs.Counts.{counts-agree, lines-agree}

-- ---- counts among the lines of a script

asked_among-push : (lines : List (List ℕ)) (ls : List Line) (l : Line) → asked_among lines (ls ++ l ∷ []) ≡ asked_among lines ls + one_if (is_asked (expected_at lines l.number))
asked_among-push lines [] l = omega arith
asked_among-push lines (m ∷ ls) l = omega (arith, asked_among-push lines ls l)

differing_among-push : (lines : List (List ℕ)) (ls : List Line) (given : List Answer) (l : Line) (a : Answer) → length given ≡ length ls → differing_among lines (ls ++ l ∷ []) (given ++ a ∷ []) ≡ differing_among lines ls given + one_if (differs (expected_at lines l.number) (text_of l.number a))
differing_among-push lines [] [] l a e = omega arith
differing_among-push lines [] (b ∷ given) l a e = absurd (omega (arith, e))
differing_among-push lines (m ∷ ls) [] l a e = absurd (omega (arith, e))
differing_among-push lines (m ∷ ls) (b ∷ given) l a e =
    let shorter : length given ≡ length ls = omega (arith, e) in
    omega (arith, differing_among-push lines ls given l a shorter)

asked_among-script : (script : List ℕ) (ls : List Line) → asked_among (lines_of script) ls ≡ asked_count script ls
asked_among-script script [] = refl
asked_among-script script (l ∷ ls) = ap (λ n. one_if (is_asked (expected_of script l.number)) + n) (asked_among-script script ls)

differing_among-script : (script : List ℕ) (ls : List Line) (given : List Answer) → differing_among (lines_of script) ls given ≡ differing_count script ls given
differing_among-script script [] given = refl
differing_among-script script (l ∷ ls) [] = refl
differing_among-script script (l ∷ ls) (a ∷ rest) = ap (λ n. one_if (differs (expected_of script l.number) (text_of l.number a)) + n) (differing_among-script script ls rest)

-- ---- no line was checked

pub HasChecked-none : (c : Checker) → IsFresh c → HasChecked [] [] c
HasChecked-none c fresh = record {
  answers = [];
  each = tt;
  stands = fresh.stands;
  expected = [];
  at = subst (λ s. IsAt s [] c.text.items) (sym fresh.stage) refl;
  counted = fresh.tally.lines;
  few = record {
    lines = omega (arith, fresh.tally.lines);
    checked = omega (arith, fresh.tally.checked);
    differing = omega (arith, fresh.tally.differing);
  };
  checked = λ more. omega (arith, fresh.tally.checked);
  differing = λ more. omega (arith, fresh.tally.differing, ap (λ text. one_if (differs (expected_after more) text)) fresh.text);
}

-- a line without an answer is not cut
pub note-whole : (line : List ℕ) → body_of line ≡ None → cut line ≡ line
note-whole line none = elim (cases_lt LINE_BYTES (length line)) [
  | inl h ↦ (let long = ap (λ b. cond b (Some (Bad LongLine)) (body_from (words_of line))) (lt-ltb LINE_BYTES (length line) h) in
      absurd (cc))
  | inr h ↦ take_all (LINE_BYTES + 1) line (omega arith)
]

one_at_most : (b : Bool) → one_if b ≤ 1
one_at_most true = omega arith
one_at_most false = omega arith

-- ---- one line more

module _ (given : List (List ℕ)) (line bytes : List ℕ) (number : ℕ) (place : number ≡ length given + 1) (says : body_of bytes ≡ body_of line) (uncut : body_of line ≡ None → bytes ≡ line) (done : List Line) (c c' : Checker) (p : HasChecked given done c) where
  abbrev with_line : List (List ℕ)
  with_line = given ++ line ∷ []

  among : (more : List (List ℕ)) → with_line ++ more ≡ given ++ line ∷ more
  among more = append_assoc given (line ∷ []) more

  body_is : (body : Option Body) → body ≡ body_of bytes → body_of line ≡ body
  body_is body is = sym (is ∙ says)

  -- a line without an answer
  module _ (is : None ≡ body_of bytes) (x : Expects c c' (option_to_list (expected_text bytes))) where
    none : body_of line ≡ None
    none = body_is None is

    whole : bytes ≡ line
    whole = uncut none

    abbrev unsaid : List Line
    unsaid = done ++ answered number None []

    same : done ≡ unsaid
    same = sym (append-nil done)

    abbrev expected' : List (List ℕ)
    expected' = p.expected ++ option_to_list (expected_text bytes)

    behind : (more : List (List ℕ)) → expected_after (line ∷ more) ≡ option_to_list (expected_text line) ++ expected_after more
    behind more = ap (λ b. cond (is_some b) [] (option_to_list (expected_text line) ++ expected_after more)) none

    expected-more : (more : List (List ℕ)) → p.expected ++ expected_after (line ∷ more) ≡ expected' ++ expected_after more
    expected-more more =
        ap (λ xs. p.expected ++ xs) (behind more) ∙ sym (append_assoc p.expected (option_to_list (expected_text line)) (expected_after more)) ∙ ap (λ b. (p.expected ++ option_to_list (expected_text b)) ++ expected_after more) (sym whole)

    checked-note : (more : List (List ℕ)) → asked_of (with_line ++ more) unsaid ≡ c'.tally.checked + one_if (is_asked (expected' ++ expected_after more))
    checked-note more =
        ap (λ ls. asked_of ls unsaid) (among more) ∙ ap (λ ls. asked_of (given ++ line ∷ more) ls) (sym same) ∙ p.checked (line ∷ more) ∙ ap (λ xs. c.tally.checked + one_if (is_asked xs)) (expected-more more) ∙ ap (λ t. t.checked + one_if (is_asked (expected' ++ expected_after more))) (sym x.tally)

    differing-note : (more : List (List ℕ)) → differing_of (with_line ++ more) unsaid p.answers ≡ c'.tally.differing + one_if (differs (expected' ++ expected_after more) c'.text.items)
    differing-note more =
        ap (λ ls. differing_of ls unsaid p.answers) (among more) ∙ ap (λ ls. differing_of (given ++ line ∷ more) ls p.answers) (sym same) ∙ p.differing (line ∷ more) ∙ ap (λ xs. c.tally.differing + one_if (differs xs c.text.items)) (expected-more more) ∙ ap (λ t. t.differing + one_if (differs (expected' ++ expected_after more) c.text.items)) (sym x.tally) ∙ ap (λ text. c'.tally.differing + one_if (differs (expected' ++ expected_after more) text)) (sym x.text)

    HasChecked-note : HasChecked with_line unsaid c'
    HasChecked-note = record {
      answers = p.answers;
      each = subst (λ ls. AreLineAnswers [] ls p.answers) same p.each;
      stands = subst (λ ls. HasHistory c'.desk (history_along [] ls p.answers)) same (subst (λ d. HasHistory d (history_along [] done p.answers)) (sym x.desk) p.stands);
      expected = expected';
      at = subst (λ text. IsAt c'.stage expected' text) (sym x.text) (x.at p.expected p.at);
      counted = ap (λ t. t.lines) x.tally ∙ p.counted;
      few = record {
        lines = omega (arith, p.few.lines, ap (λ t. t.lines) x.tally, length_push given line);
        checked = omega (arith, p.few.checked, ap (λ t. t.checked) x.tally, length_push given line);
        differing = omega (arith, p.few.differing, ap (λ t. t.differing) x.tally, length_push given line);
      };
      checked = checked-note;
      differing = differing-note;
    }

  -- a line that has an answer
  module _ (body : Body) (is : Some body ≡ body_of bytes) (x : IsAnswered c c' number body) where
    abbrev a : Answer
    a = x.opened.answered.given

    abbrev l : Line
    l = record { number = number; body = body }

    abbrev said : List Line
    said = done ++ l ∷ []

    judged : IsJudged c.tally x.between.tally p.expected c.text.items
    judged = x.judged.judged p.expected p.at

    stands : HasHistory x.between.desk (history_along [] done p.answers)
    stands = subst (λ d. HasHistory d (history_along [] done p.answers)) (sym x.judged.desk) p.stands

    no_more : (more : List (List ℕ)) → p.expected ++ expected_after (line ∷ more) ≡ p.expected
    no_more more =
        ap (λ b. p.expected ++ cond (is_some b) [] (option_to_list (expected_text line) ++ expected_after more)) (body_is (Some body) is) ∙ append-nil p.expected

    here : (more : List (List ℕ)) → expected_at (given ++ line ∷ more) number ≡ expected_after more
    here more =
        let end : number ≡ length with_line = omega (arith, place, length_push given line) in
        ap (λ ls. expected_at ls number) (sym (among more)) ∙ ap (λ n. expected_after (drop n (with_line ++ more))) end ∙ ap expected_after (drop-append_seam with_line more)

    checked-answer : (more : List (List ℕ)) → asked_of (with_line ++ more) said ≡ c'.tally.checked + one_if (is_asked (expected_after more))
    checked-answer more =
        let all = given ++ line ∷ more in
        let before : asked_of all done ≡ c.tally.checked + one_if (is_asked p.expected) = p.checked (line ∷ more) ∙ ap (λ xs. c.tally.checked + one_if (is_asked xs)) (no_more more) in
        let one : asked_among all (done ++ l ∷ []) ≡ asked_among all done + one_if (is_asked (expected_after more)) = asked_among-push all done l ∙ ap (λ xs. asked_among all done + one_if (is_asked xs)) (here more) in
        let now : asked_of all (done ++ l ∷ []) ≡ c'.tally.checked + one_if (is_asked (expected_after more)) = omega (arith, before, one, judged.checked, x.opened.checked) in
        ap (λ ls. asked_of ls said) (among more) ∙ now

    differing-answer : (more : List (List ℕ)) → differing_of (with_line ++ more) said (p.answers ++ a ∷ []) ≡ c'.tally.differing + one_if (differs (expected_after more) c'.text.items)
    differing-answer more =
        let all = given ++ line ∷ more in
        let behind = expected_after more in
        let before : differing_of all done p.answers ≡ c.tally.differing + one_if (differs p.expected c.text.items) = p.differing (line ∷ more) ∙ ap (λ xs. c.tally.differing + one_if (differs xs c.text.items)) (no_more more) in
        let one : differing_among all (done ++ l ∷ []) (p.answers ++ a ∷ []) ≡ differing_among all done p.answers + one_if (differs behind c'.text.items) =
        differing_among-push all done p.answers l a (length-answers [] done p.answers p.each) ∙ ap (λ xs. differing_among all done p.answers + one_if (differs xs (text_of number a))) (here more) ∙ ap (λ text. differing_among all done p.answers + one_if (differs behind text)) (sym x.opened.answered.text_is) in
        let now : differing_of all (done ++ l ∷ []) (p.answers ++ a ∷ []) ≡ c'.tally.differing + one_if (differs behind c'.text.items) = omega (arith, before, one, judged.differing, x.opened.differing) in
        ap (λ ls. differing_of ls said (p.answers ++ a ∷ [])) (among more) ∙ now

    HasChecked-answer : HasChecked with_line said c'
    HasChecked-answer = record {
      answers = p.answers ++ a ∷ [];
      each = AreLineAnswers-push [] done p.answers l a p.each (x.opened.answered.is (history_along [] done p.answers) stands);
      stands = subst (λ h. HasHistory c'.desk h) (sym (history_along-push [] done p.answers l a p.each)) (x.opened.answered.stands (history_along [] done p.answers) stands);
      expected = [];
      at = subst (λ s. IsAt s [] c'.text.items) (sym x.opened.stage) refl;
      counted = omega (arith, x.opened.lines, judged.lines, p.counted, length_push p.answers a);
      few = record {
        lines = omega (arith, p.few.lines, x.opened.lines, judged.lines, length_push given line);
        checked = omega (arith, p.few.checked, x.opened.checked, judged.checked, one_at_most (is_asked p.expected), length_push given line);
        differing = omega (arith, p.few.differing, x.opened.differing, judged.differing, one_at_most (differs p.expected c.text.items), length_push given line);
      };
      checked = checked-answer;
      differing = differing-answer;
    }

  HasChecked-next : (body : Option Body) → body ≡ body_of bytes → IsTaken c c' number body (expected_text bytes) → HasChecked (given ++ line ∷ []) (done ++ answered number body []) c'
  HasChecked-next None is x = HasChecked-note is x
  HasChecked-next (Some body) is x = HasChecked-answer body is x

-- with the bytes that are kept of the line
pub HasChecked-line : (given : List (List ℕ)) (line bytes : List ℕ) (number : ℕ) → number ≡ length given + 1 → bytes ≡ cut line → (done : List Line) (c c' : Checker) → HasChecked given done c → (body : Option Body) → body ≡ body_of bytes
    → IsTaken c c' number body (expected_text bytes) → HasChecked (given ++ line ∷ []) (done ++ answered number body []) c'
HasChecked-line given line bytes number place held done c c' p =
    HasChecked-next given line bytes number place (ap body_of held ∙ body_of-cut line) (λ none. held ∙ note-whole line none) done c c' p

-- with the whole line
pub HasChecked-whole : (given : List (List ℕ)) (line : List ℕ) (number : ℕ) → number ≡ length given + 1 → (done : List Line) (c c' : Checker) → HasChecked given done c
    → IsTaken c c' number (body_of line) (expected_text line) → HasChecked (given ++ line ∷ []) (done ++ answered number (body_of line) []) c'
HasChecked-whole given line number place done c c' p =
    HasChecked-next given line line number place refl (λ none. refl) done c c' p (body_of line) refl

-- ---- the end of the script

-- no more is expected of the last answer
HasChecked-end : (script : List ℕ) (done : List Line) (c c' : Checker) (slips : ℕ) → script_of script ≡ done → HasChecked (lines_of script) done c → IsJudgedAt c c' → slips ≡ slip_count (lines_of script)
    → ChecksScript script (record c'.tally { slips = slips })
HasChecked-end script done c c' slips of p x counted =
    let lines = lines_of script in
    let judged = x.judged p.expected p.at in
    let asked : asked_of lines done ≡ c.tally.checked + one_if (is_asked p.expected) =
    ap (λ ls. asked_of ls done) (sym (append-nil lines)) ∙ p.checked [] ∙ ap (λ xs. c.tally.checked + one_if (is_asked xs)) (append-nil p.expected) in
    let differ : differing_of lines done p.answers ≡ c.tally.differing + one_if (differs p.expected c.text.items) =
    ap (λ ls. differing_of ls done p.answers) (sym (append-nil lines)) ∙ p.differing [] ∙ ap (λ xs. c.tally.differing + one_if (differs xs c.text.items)) (append-nil p.expected) in
    let differing : c'.tally.differing ≡ one_if (differs (expected_of script 0) []) + differing_count script (script_of script) p.answers =
    omega (arith, judged.differing, differ, differing_among-script script done p.answers, ap (λ ls. differing_count script ls p.answers) of) in
    record {
      given = p.answers;
      each = subst (λ ls. AreLineAnswers [] ls p.answers) (sym of) p.each;
      lines = judged.lines ∙ p.counted;
      checked = omega (arith, judged.checked, asked, asked_among-script script done, ap (asked_count script) of);
      differing = differing;
      agrees = counts-agree script p.answers c'.tally.differing differing;
      slips = counted;
    }

-- and no answer of the text was other than expected
pub HasChecked-agrees : (text : List ℕ) (done : List Line) (c c' : Checker) → lines_until ending.Whole text ≡ done → HasChecked (lines_of text) done c → IsJudgedAt c c' → c'.tally.differing ≡ 0 → AnswersAsExpected text
HasChecked-agrees text done c c' of p x none =
    let lines = lines_of text in
    let judged = x.judged p.expected p.at in
    let differ : differing_of lines done p.answers ≡ c.tally.differing + one_if (differs p.expected c.text.items) =
    ap (λ ls. differing_of ls done p.answers) (sym (append-nil lines)) ∙ p.differing [] ∙ ap (λ xs. c.tally.differing + one_if (differs xs c.text.items)) (append-nil p.expected) in
    let zero : one_if (differs (expected_of text 0) []) + differing_count text done p.answers ≡ 0 =
    omega (arith, judged.differing, differ, differing_among-script text done p.answers, none) in
    let agrees = lines-agree text done p.answers zero in
    record {
      given = p.answers;
      each = subst (λ ls. AreLineAnswers [] ls p.answers) (sym of) p.each;
      first = agrees.0;
      all = subst (λ ls. AreAsExpected text ls p.answers) (sym of) agrees.1;
    }

-- the last line, if the script was read to its end
pub HasChecked-last : (given : List (List ℕ)) (done : List Line) (line bytes : List ℕ) (number : ℕ) (end : Ending) (c c' : Checker) (slips : ℕ) → number ≡ length given + 1 → bytes ≡ cut line → end ≡ ending.Whole
    → HasChecked given done c → IsEnded c c' number (body_of bytes) (expected_text bytes) → slips ≡ slip_count (given ++ line ∷ [])
    → (script : List ℕ) → lines_of script ≡ given ++ line ∷ [] → script_of script ≡ done ++ answered number (last_body end bytes) [] → ChecksScript script (record c'.tally { slips = slips })
HasChecked-last given done line bytes number ending.TooLong c c' slips place held is p x counted script split of = absurd (cc)
HasChecked-last given done line bytes number ending.Failed c c' slips place held is p x counted script split of = absurd (cc)
HasChecked-last given done line bytes number ending.Whole c c' slips place held is p x counted script split of =
    let done' = done ++ answered number (body_of bytes) [] in
    let taken : HasChecked (given ++ line ∷ []) done' x.between = HasChecked-line given line bytes number place held done c x.between p (body_of bytes) refl x.taken in
    HasChecked-end script done' x.between c' slips of (subst (λ ls. HasChecked ls done' x.between) (sym split) taken) x.judged (counted ∙ ap slip_count (sym split))

-- no other ending is
pub not-whole : (end : Ending) → (end ≡ ending.TooLong) ⊎ (end ≡ ending.Failed) → end ≡ ending.Whole → ⊥
not-whole end (inl e) whole = cc
not-whole end (inr e) whole = cc

-- the bytes that were read are the script
pub checks-bytes : (bytes : List ℕ) (lines broken : List (List ℕ)) (done : List Line) (tally : CheckTally) → length bytes ≤ SCRIPT_BYTES → done ≡ lines_until ending.Whole (take SCRIPT_BYTES bytes) → lines_of (take SCRIPT_BYTES bytes) ≡ lines ++ broken → broken ≡ []
    → ((script : List ℕ) → lines_of script ≡ lines → script_of script ≡ done → ChecksScript script tally) → ChecksScript bytes tally
checks-bytes bytes lines broken done tally short is split none checks =
    let all : take SCRIPT_BYTES bytes ≡ bytes = take_all SCRIPT_BYTES bytes short in
    let ends : ending_of bytes ≡ ending.Whole = ap (λ b. cond b ending.Whole ending.TooLong) (le-leb (length bytes) SCRIPT_BYTES short) in
    checks bytes
    (ap lines_of (sym all) ∙ split ∙ ap (λ ls. lines ++ ls) none ∙ append-nil lines)
    (ap (λ end. lines_until end (take SCRIPT_BYTES bytes)) ends ∙ sym is)

-- and the reader had no more
pub checks-input : (before after : Option (List ℕ)) (bytes : List ℕ) (tally : CheckTally) → WasRead before after bytes ending.Whole → ChecksScript bytes tally → (script : List ℕ) × IsInput before script × ChecksScript script tally
checks-input before after bytes tally read checks =
    let input = input_from before after bytes read.consumed in
    let same : bytes ≡ input.0 = sym (input.1.whole ∙ ap (λ more. bytes ++ more) (input.1.end read.ends.1) ∙ append-nil bytes) in
    (input.0, input.1.input, subst (λ script. ChecksScript script tally) same checks)

-- before a failed read no more was read than a script may have
pub reads-few : (before after : Option (List ℕ)) (bytes : List ℕ) → WasRead before after bytes ending.Failed → ConsumesAtMost SCRIPT_BYTES before after
reads-few before after bytes read = record { bytes = bytes; consumed = read.consumed; few = read.ends }

-- past the limit more was read
pub reads-long : (before after : Option (List ℕ)) (bytes : List ℕ) → WasRead before after bytes ending.TooLong → IsTooLong before after
reads-long before after bytes read = record { bytes = bytes; consumed = read.consumed; long = omega (arith, read.ends) }
