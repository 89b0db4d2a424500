-- The lines that are run, one after another, and their answers.
use Rattle.std.proofs.Common.{◌≡◌, ℕ, ◌+◌, ◌<◌, ◌≤◌, Bool, true, false, nat_le, refl, sym, ap, ◌∙◌, cond, List, [], ◌∷◌, ◌++◌, length, get_or, take}
use Rattle.std.specs.Prelude.{◌||◌}
use Rattle.std.specs.List.{list_any}
use Rattle.std.proofs.lemmas.Bool.{le-leb, lt-leb}
use Rattle.std.proofs.lemmas.List.{append-nil, take_more}
use Rattle.std.proofs.lemmas.List.Elements.{filter-append}
use Rattle.command_core.specs.declared.answer.Answer.{Answer}
use Rattle.desk_core.specs.theorem.Answer.{is_refused}
use Rattle.desk_core.specs.theorem.Desk.{DeskState, HasHistory}
use Rattle.line_core.specs.declared.line.Body.{Body}
use Rattle.line_core.specs.declared.line.Line.{Line}
use Rattle.script_core.specs.Answering.{history_along}
use Rattle.script_core.proofs.Progress.{AreLineAnswers-push, history_along-push}
use Rattle.draw_core.specs.declared.window.Window.{Window}
use Rattle.draw_core.specs.Shown.{lines_run}
use Rattle.draw_core.specs.Progress.{Answers, HasRun}

run_if : (b : Bool) (l : Line) → b ≡ true → cond b (l ∷ []) [] ≡ l ∷ []
run_if b l is = ap (λ c. cond c (l ∷ []) []) is

lines_run-push : (window : Window) (done : List Line) (l : Line) → l.number ≤ window.last → lines_run window (done ++ l ∷ []) ≡ lines_run window done ++ l ∷ []
lines_run-push window done l low =
    filter-append (λ (m : Line). nat_le m.number window.last) done (l ∷ [])
    ∙ ap (λ ls. lines_run window done ++ ls) (run_if (nat_le l.number window.last) l (le-leb l.number window.last low))

lines_run-past : (window : Window) (done : List Line) (l : Line) → window.last < l.number → lines_run window (done ++ l ∷ []) ≡ lines_run window done
lines_run-past window done l past =
    filter-append (λ (m : Line). nat_le m.number window.last) done (l ∷ [])
    ∙ ap (λ b. lines_run window done ++ cond b (l ∷ []) []) (lt-leb l.number window.last past)
    ∙ append-nil (lines_run window done)

-- one more answer, refused or not
any-push : (given : Answer) (refused : Bool) (earlier : List Answer) → refused ≡ list_any is_refused earlier
    → (is_refused given || refused) ≡ list_any is_refused (earlier ++ given ∷ [])
any-push given refused [] is = ap (λ (b : Bool). is_refused given || b) is
any-push given refused (a ∷ earlier) is =
    ap (λ (b : Bool). is_refused given || b) is
    ∙ swapped (is_refused given) (is_refused a) (list_any is_refused earlier)
    ∙ ap (λ (b : Bool). is_refused a || b) (any-push given (list_any is_refused earlier) earlier refl)
  where
    swapped : (b d e : Bool) → (b || (d || e)) ≡ (d || (b || e))
    swapped true true e = refl
    swapped true false e = refl
    swapped false true e = refl
    swapped false false e = refl

pub HasRun-none : (window : Window) (desk : DeskState) → HasHistory desk [] → HasRun window [] desk false
HasRun-none window desk stands = record { given = []; answers = tt; stands = stands; refusals = refl }

pub HasRun-past : (window : Window) (done : List Line) (desk : DeskState) (refused : Bool) (l : Line) → window.last < l.number
    → HasRun window done desk refused → HasRun window (done ++ l ∷ []) desk refused
HasRun-past window done desk refused l past h =
    let same = lines_run-past window done l past in
    record { given = h.given; answers = rw same h.answers; stands = rw same h.stands; refusals = h.refusals }

pub HasRun-answered : (window : Window) (done : List Line) (desk later : DeskState) (old new : Bool) (l : Line) → l.number ≤ window.last
    → Answers l.body desk later old new → HasRun window done desk old → HasRun window (done ++ l ∷ []) later new
HasRun-answered window done desk later old new l low a h =
    let history = history_along [] (lines_run window done) h.given in
    let pushed = lines_run-push window done l low in
    record {
      given = h.given ++ a.given ∷ [];
      answers = rw pushed (AreLineAnswers-push [] (lines_run window done) h.given l a.given h.answers (a.is history h.stands));
      stands = rw (pushed, history_along-push [] (lines_run window done) h.given l a.given h.answers) (a.stands history h.stands);
      refusals = a.refused ∙ any-push a.given old h.given h.refusals;
    }

-- another line of a list
pub take_line : (lines : List Line) (i : ℕ) (l : Line) (number : ℕ) (body : Body) → i < length lines → l ≡ get_or lines i l → number ≡ l.number → body ≡ l.body → take (i + 1) lines ≡ take i lines ++ record { number = number; body = body } ∷ []
take_line lines i l number body low at same same' =
    take_more lines i l low ∙ ap (λ (m : Line). take i lines ++ m ∷ []) (sym at ∙ (λ j. record { number = sym same j; body = sym same' j }))
