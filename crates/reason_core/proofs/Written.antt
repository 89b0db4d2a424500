-- What was written when lines were answered.
use Rattle.std.proofs.Common.{ℕ, List, [], Option, sym, append-nil}
use Rattle.line_core.specs.declared.line.Line.{Line}
use Rattle.script_core.specs.Answering.{AnswersState, HasAnswered}
use Rattle.script_core.specs.Output.{WritesPrefix}
use Rattle.script_core.proofs.Progress.{Progress-front, AppendsFront-none}

pub answered-prefix : (done : List Line) (s : AnswersState) (old new : Option (List ℕ)) → HasAnswered done s old new → WritesPrefix done old new
answered-prefix done s old new p = Progress-front done done [] s.desk s.out s.totals old new new p (sym (append-nil done)) (AppendsFront-none new s.out)
