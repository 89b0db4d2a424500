-- Lines that are answered one after another, and counted.
use Rattle.std.proofs.Common.{◌≡◌, ℕ, ◌+◌, ◌⊎◌, inl, inr, List, [], ◌∷◌, ◌++◌, take, Option, None, Some, Bool, cond, sym, ap, ◌∙◌, append-nil, zero-add, subst, arith}
use Rattle.std.specs.Prelude.{MatchOption, OnOk, Result, Ok, Err}
use Rattle.std.specs.List.{count_by}
use Rattle.std.proofs.KnownBytes.{Appends-nil, Appends-trans}
use Rattle.std.proofs.lemmas.List.{length_push}
use Rattle.std.proofs.lemmas.List.Sums.{sum_by-append}
use Rattle.command_core.specs.declared.answer.Answer.{Answer}
use Rattle.desk_core.specs.theorem.Answer.{is_refused}
use Rattle.desk_core.specs.theorem.Desk.{DeskState, HasHistory}
use Rattle.line_core.specs.declared.line.Body.{Body}
use Rattle.line_core.specs.declared.line.Line.{Line}
use Rattle.line_core.specs.declared.script.Ending.{Ending}
use Rattle.line_core.specs.declared.script.Ending.TheVariants as ending
use Rattle.line_core.specs.declared.script.TheConstants.{SCRIPT_BYTES}
use Rattle.line_core.specs.Reading.{IsInput, WasRead, EndsSo}
use Rattle.line_core.specs.Script.{answered, lines_until, script_of}
use Rattle.line_core.proofs.Inputs.{input_from, script_of-whole, script_of-too_long}
use Rattle.script_core.specs.declared.totals.Totals.{Totals}
use Rattle.script_core.specs.Answering.{history_along}
use Rattle.script_core.specs.Output.{Counts, Grows}
use Rattle.script_core.proofs.Progress.{AreLineAnswers-push, history_along-push}
use Rattle.json_core.specs.Answering.{AnswersLine, CountsAnswers, HasAnswered}

pub ok-anyway : {T E A : Type 0} (r : Result T E) → A → OnOk r A
ok-anyway (Ok v) a = a
ok-anyway (Err e) a = tt

-- bytes that are written one after another

pub Grows-none : (contents : Option (List ℕ)) → Grows contents contents
Grows-none contents = ([], Appends-nil contents)

pub Grows-trans : (old now new : Option (List ℕ)) → Grows old now → Grows now new → Grows old new
Grows-trans old now new a b = (a.0 ++ b.0, Appends-trans old now new a.0 b.0 a.1 b.1)

-- lines

count_by_push : (p : Answer → Bool) (xs : List Answer) (x : Answer) → count_by p (xs ++ x ∷ []) ≡ count_by p xs + cond (p x) 1 0
count_by_push p xs x = sum_by-append (λ y. cond (p y) 1 0) xs (x ∷ []) ∙ ap (λ n. count_by p xs + n) (zero-add (cond (p x) 1 0))

pub answered-none : (desk : DeskState) (totals : Totals) (contents : Option (List ℕ)) → HasHistory desk [] → Counts totals [] → HasAnswered [] [] desk totals contents contents
answered-none desk totals contents stands counts = record { given = []; each = tt; stands = stands; counts = counts; few = (let none : totals.lines ≡ 0 = counts.lines in omega (arith, none)); grows = Grows-none contents }

module _ {lines : List (List ℕ)} {said : List Line} {desk : DeskState} {totals : Totals} {old now : Option (List ℕ)}
    (p : HasAnswered lines said desk totals old now) where
  -- a line without an answer
  answered-more : {new : Option (List ℕ)} (line : List ℕ) → Grows now new → HasAnswered (lines ++ line ∷ []) said desk totals old new
  answered-more {new} line grows = record {
    given = p.given;
    each = p.each;
    stands = p.stands;
    counts = p.counts;
    few = omega (arith, p.few, length_push lines line);
    grows = Grows-trans old now new p.grows grows;
  }

  answered-one : {desk' : DeskState} {totals' : Totals} {new : Option (List ℕ)} (line : List ℕ) (l : Line)
      → AnswersLine l.body desk desk' totals totals' → Grows now new → HasAnswered (lines ++ line ∷ []) (said ++ l ∷ []) desk' totals' old new
  answered-one {desk'} {totals'} {new} line l t grows =
      record {
        given = p.given ++ t.given ∷ [];
        each = AreLineAnswers-push [] said p.given l t.given p.each (t.is (history_along [] said p.given) p.stands);
        stands = subst (HasHistory desk') (sym (history_along-push [] said p.given l t.given p.each)) (t.stands (history_along [] said p.given) p.stands);
        counts = record {
          lines = t.lines ∙ ap (λ n. n + 1) p.counts.lines ∙ sym (length_push p.given t.given);
          refused = t.refused ∙ ap (λ n. n + cond (is_refused t.given) 1 0) p.counts.refused ∙ sym (count_by_push is_refused p.given t.given);
        };
        few = omega (arith, p.few, t.lines, length_push lines line);
        grows = Grows-trans old now new p.grows grows;
      }

  -- more bytes are written
  pub answered-grown : {new : Option (List ℕ)} → Grows now new → HasAnswered lines said desk totals old new
  answered-grown {new} grows = record {
    given = p.given;
    each = p.each;
    stands = p.stands;
    counts = p.counts;
    few = p.few;
    grows = Grows-trans old now new p.grows grows;
  }

  pub answers-counted : CountsAnswers said totals
  answers-counted = record { given = p.given; each = p.each; counts = p.counts }

pub answered-next : (lines : List (List ℕ)) (said : List Line) (desk desk' : DeskState) (totals totals' : Totals) (old now new : Option (List ℕ)) (line : List ℕ) (number : ℕ) (body : Option Body)
    → HasAnswered lines said desk totals old now → Grows now new
    → MatchOption body ((desk' ≡ desk) × (totals' ≡ totals)) (λ b. AnswersLine b desk desk' totals totals')
    → HasAnswered (lines ++ line ∷ []) (said ++ answered number body []) desk' totals' old new
answered-next lines said desk desk' totals totals' old now new line number None p grows same =
    rw (same.0, same.1, append-nil said) (answered-more p line grows)
answered-next lines said desk desk' totals totals' old now new line number (Some body) p grows told =
    answered-one p line (record { number = number; body = body }) told grows

-- the bytes that were read are the script

module _ (before left : Option (List ℕ)) (bytes : List ℕ) (end : Ending) (read : WasRead before left bytes end) (totals : Totals) (w : CountsAnswers (lines_until end (take SCRIPT_BYTES bytes)) totals) where
  same-script : (script : List ℕ) → script_of script ≡ lines_until end (take SCRIPT_BYTES bytes) → CountsAnswers (script_of script) totals
  same-script script said = rw said w

  pub script-counted : (end ≡ ending.Whole) ⊎ (end ≡ ending.TooLong) → (script : List ℕ) × IsInput before script × CountsAnswers (script_of script) totals
  script-counted ends =
      let input = input_from before left bytes read.consumed in
      let script = input.0 in
      let of = input.1 in
      elim ends [
        | inl e ↦ (let whole = subst (EndsSo left bytes) e read.ends in
            (script, of.input, same-script script (script_of-whole before left bytes script of whole ∙ ap (λ x. lines_until x (take SCRIPT_BYTES bytes)) (sym e))))
        | inr e ↦ (let long = subst (EndsSo left bytes) e read.ends in
            (script, of.input, same-script script (script_of-too_long before left bytes script of long ∙ ap (λ x. lines_until x (take SCRIPT_BYTES bytes)) (sym e))))
      ]
