-- Lines of a script that were answered, from the first on.
use Rattle.std.proofs.Common.{◌+◌, ◌≤◌, ℕ, List, [], ◌∷◌, ◌++◌, length-append, Option, arith}
use Rattle.line_core.specs.declared.line.Body.{Body}
use Rattle.line_core.specs.declared.line.Line.{Line}
use Rattle.line_core.specs.Script.{answered}
use Rattle.script_core.specs.Answering.{AnswersMore, AnswersState, HasAnswered}
use Rattle.script_core.specs.Handled.{HasHandled}
use Rattle.script_core.proofs.Progress.{Progress-empty}

-- no line was handled yet
pub HasHandled-none : (s : AnswersState) (start : Option (List ℕ)) → HasAnswered [] s start start → HasHandled [] [] s start start
HasHandled-none s start p = record { answered = p; few = omega (arith, Progress-empty s.desk s.out s.totals start start p) }

-- one more line was handled, which has an answer or not
pub HasHandled-line : (lines : List (List ℕ)) (said : List Line) (text : List ℕ) (number : ℕ) (body : Option Body) (s t : AnswersState) (start old new : Option (List ℕ))
    → HasHandled lines said s start old → AnswersMore (answered number body []) s t old new → t.totals.lines ≤ s.totals.lines + 1
    → HasHandled (lines ++ text ∷ []) (said ++ answered number body []) t start new
HasHandled-line lines said text number body s t start old new p more lines_more = record {
  answered = more said start p.answered;
  few = omega (arith, p.few, lines_more, length-append lines (text ∷ []));
}
