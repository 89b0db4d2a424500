-- What is noted on a line: its mark first, and more notes on the line behind it.
use Rattle.std.proofs.Common.{◌≡◌, inl, inr, ℕ, List, [], ◌++◌, Option, Result, Ok, Err, OnErr, OnOk, refl, sym, ap, ◌∙◌, append_assoc, append-nil}
use Rattle.std.specs.Io.KnownBytes.{Appends}
use Rattle.std.proofs.KnownBytes.{Appends-nil, Appends-trans, Keeps-refl}
use Rattle.point_core.specs.declared.refusal.Refusal.{Refusal}
use Rattle.command_core.specs.declared.answer.Answer.{Answer}
use Rattle.line_core.specs.declared.line.Line.{Line}
use Rattle.report_core.specs.Bytes.{AppendsFront}
use Rattle.script_core.specs.Answering.{AnswersState, HasAnswered}
use Rattle.script_core.specs.Output.{Grows, WritesAnswers}
use Rattle.script_core.proofs.Progress.{AppendsFront-all, AppendsFront-none, Progress-flushed}
use Rattle.reason_core.specs.declared.look.NoteLook.{NoteLook}
use Rattle.reason_core.specs.Notes.{IsNote, Notes, WritesNote, mark_of}

pub AppendsFront-more : (old new : Option (List ℕ)) (bytes more : List ℕ) → AppendsFront old new bytes → AppendsFront old new (bytes ++ more)
AppendsFront-more old new bytes more f = record {
  front = f.front;
  rest = f.rest ++ more;
  whole = ap (λ xs. xs ++ more) f.whole ∙ append_assoc f.front f.rest more;
  appended = f.appended;
}

pub AppendsFront-behind : (old middle new : Option (List ℕ)) (bytes more : List ℕ) → Appends old middle bytes → AppendsFront middle new more → AppendsFront old new (bytes ++ more)
AppendsFront-behind old middle new bytes more appended f = record {
  front = bytes ++ f.front;
  rest = f.rest;
  whole = ap (λ xs. bytes ++ xs) f.whole ∙ sym (append_assoc bytes f.front f.rest);
  appended = Appends-trans old middle new bytes f.front appended f.appended;
}

-- all of the bytes were written, or a prefix of them
pub Grows-either : (ended : Result (Unit {0}) Refusal) (old new : Option (List ℕ)) (bytes : List ℕ) → OnOk ended (Appends old new bytes) → OnErr ended (AppendsFront old new bytes) → Grows old new
Grows-either (Ok done) old new bytes written front = (bytes, written)
Grows-either (Err e) old new bytes written front = (front.front, front.appended)

IsNote-append : (number : ℕ) (first second : List ℕ) → IsNote number first → IsNote number second → IsNote number (first ++ second)
IsNote-append number first second (inl none) note = rw none note
IsNote-append number first second (inr (look, more, is)) note = inr (look, more ++ second, ap (λ xs. xs ++ second) is ∙ append_assoc (mark_of look number) more second)

-- nothing was noted
pub Notes-none : (ended : Result (Unit {0}) Refusal) (number : ℕ) (contents : Option (List ℕ)) → Notes ended number contents contents
Notes-none (Ok done) number contents = record { text = []; is = inl refl; written = Appends-nil contents }
Notes-none (Err e) number contents = record { text = []; is = inl refl; written = AppendsFront-none contents [] }

-- the mark was written, and more
pub Notes-marked : (ended : Result (Unit {0}) Refusal) (number : ℕ) (look : NoteLook) (more : List ℕ) (old new : Option (List ℕ)) → Appends old new (mark_of look number ++ more) → Notes ended number old new
Notes-marked (Ok done) number look more old new written = record { text = mark_of look number ++ more; is = inr (look, more, refl); written = written }
Notes-marked (Err e) number look more old new written = record { text = mark_of look number ++ more; is = inr (look, more, refl); written = AppendsFront-all old new (mark_of look number ++ more) written }

-- a prefix of the mark was written
pub Notes-cut : (e : Refusal) (number : ℕ) (look : NoteLook) (old new : Option (List ℕ)) → AppendsFront old new (mark_of look number) → Notes (Err e) number old new
Notes-cut e number look old new written = record { text = mark_of look number; is = inr (look, [], sym (append-nil (mark_of look number))); written = written }

-- one note on the line after another
pub Notes-trans : (ended : Result (Unit {0}) Refusal) (done : Unit {0}) (number : ℕ) (old middle new : Option (List ℕ)) → Notes (Ok done) number old middle → Notes ended number middle new → Notes ended number old new
Notes-trans (Ok all) done number old middle new first second = record {
  text = first.text ++ second.text;
  is = IsNote-append number first.text second.text first.is second.is;
  written = Appends-trans old middle new first.text second.text first.written second.written;
}
Notes-trans (Err e) done number old middle new first second = record {
  text = first.text ++ second.text;
  is = IsNote-append number first.text second.text first.is second.is;
  written = AppendsFront-behind old middle new first.text second.text first.written second.written;
}

-- whether it is whole or cut
pub Notes-written : (ended : Result (Unit {0}) Refusal) (number : ℕ) (old new : Option (List ℕ)) → Notes ended number old new → WritesNote number old new
Notes-written (Ok done) number old new n = record { text = n.text; is = n.is; written = AppendsFront-all old new n.text n.written }
Notes-written (Err e) number old new n = record { text = n.text; is = n.is; written = n.written }

-- once no text is pending, the answers of all lines are written
pub answered-written : (done : List Line) (s : AnswersState) (old new : Option (List ℕ)) → HasAnswered done s old new → s.out ≡ [] → (given : List Answer) × WritesAnswers done given old new
answered-written done s old new p none =
    let lines = Progress-flushed done s.desk s.out s.totals old new new p none (Keeps-refl new) in
    (lines.given, lines.answers)
