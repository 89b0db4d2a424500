-- Notes on lines, after the answers of all lines up to them.
use Rattle.std.proofs.Common.{◌≡◌, inl, inr, ℕ, List, [], ◌∷◌, ◌++◌, Option, refl, sym, ap, ◌∙◌, subst, append_assoc, append-nil}
use Rattle.std.specs.Io.KnownBytes.{Appends}
use Rattle.std.proofs.KnownBytes.{Appends-trans}
use Rattle.std.proofs.lemmas.List.Elements.{All-append, All-cons, All-nil, All-weaker}
use Rattle.line_core.specs.Handling.{BeginsScript}
use Rattle.line_core.specs.Script.{answered, script_of}
use Rattle.line_core.specs.declared.line.Body.{Body}
use Rattle.line_core.specs.declared.line.Line.{Line}
use Rattle.line_core.proofs.Inputs.{some_input}
use Rattle.script_core.specs.Answering.{AnswersState, HasAnswered}
use Rattle.reason_core.specs.Notes.{AnswersUpTo, AreNoted, IsWrittenUpTo, NotesAmong, NotesFollow, NotesLine, WritesNote}
use Rattle.script_core.specs.Output.{Grows, texts_of}

AnswersUpTo-grows : (lines : List Line) (number : ℕ) (old middle new : Option (List ℕ)) → Grows middle new → AnswersUpTo lines number old middle → AnswersUpTo lines number old new
AnswersUpTo-grows lines number old middle new g p =
    let text = texts_of (p.before ++ p.line ∷ []) p.given in
    record {
      before = p.before;
      line = p.line;
      after = p.after;
      whole = p.whole;
      numbered = p.numbered;
      given = p.given;
      each = p.each;
      more = p.more ++ g.0;
      written = subst (Appends old new) (append_assoc text p.more g.0) (Appends-trans old middle new (text ++ p.more) g.0 p.written g.1);
    }

AnswersUpTo-more : (lines more whole : List Line) (number : ℕ) (old new : Option (List ℕ)) → whole ≡ lines ++ more → AnswersUpTo lines number old new → AnswersUpTo whole number old new
AnswersUpTo-more lines more whole number old new e p = record {
  before = p.before;
  line = p.line;
  after = p.after ++ more;
  whole = e ∙ ap (λ ls. ls ++ more) p.whole ∙ append_assoc (p.before ++ p.line ∷ []) p.after more;
  numbered = p.numbered;
  given = p.given;
  each = p.each;
  more = p.more;
  written = p.written;
}

AnswersUpTo-line : (number : ℕ) (body : Option Body) (s : AnswersState) (done : List Line) (start old new : Option (List ℕ))
    → HasAnswered done s start old → IsWrittenUpTo number body s old new → AnswersUpTo (done ++ answered number body []) number start new
AnswersUpTo-line number body s done start old new p w =
    let line : Line = record { number = number; body = w.said } in
    let lines_are : done ++ answered number body [] ≡ done ++ line ∷ [] = ap (λ b. done ++ answered number b []) w.is in
    let all = w.written done start p in
    let text = texts_of (done ++ line ∷ []) all.0 in
    record {
      before = done;
      line = line;
      after = [];
      whole = lines_are ∙ sym (append-nil (done ++ line ∷ []));
      numbered = refl;
      given = all.0;
      each = all.1.each;
      more = [];
      written = subst (Appends start new) (sym (append-nil text)) all.1.written;
    }

module _ {N : Type 0} (contents : N → Option (List ℕ)) where
  AreNoted-push : (numbers : List ℕ) (number : ℕ) (old middle new : N) → AreNoted contents numbers old middle → WritesNote number (contents middle) (contents new) → AreNoted contents (numbers ++ number ∷ []) old new
  AreNoted-push [] number old middle new e n = (new, subst (λ m. WritesNote number (contents m) (contents new)) e n, refl)
  AreNoted-push (m ∷ numbers) number old middle new p n = (p.0, p.1, AreNoted-push numbers number p.0 middle new p.2 n)

  pub NotesAmong-none : (lines : List Line) (start : Option (List ℕ)) (notes : N) → NotesAmong contents lines start start notes notes
  NotesAmong-none lines start notes = record { numbers = []; notes = refl; follow = All-nil (λ (number : ℕ). AnswersUpTo lines number start start) }

  -- more was written
  pub NotesAmong-grows : (lines : List Line) (start middle new : Option (List ℕ)) (before after : N) → NotesAmong contents lines start middle before after → Grows middle new → NotesAmong contents lines start new before after
  NotesAmong-grows lines start middle new before after p g = record {
    numbers = p.numbers;
    notes = p.notes;
    follow = All-weaker (λ (number : ℕ). AnswersUpTo lines number start middle) (λ (number : ℕ). AnswersUpTo lines number start new) (λ number. AnswersUpTo-grows lines number start middle new g) p.numbers p.follow;
  }

  -- there are more lines
  NotesAmong-more : (lines more whole : List Line) (start new : Option (List ℕ)) (before after : N) → whole ≡ lines ++ more → NotesAmong contents lines start new before after → NotesAmong contents whole start new before after
  NotesAmong-more lines more whole start new before after e p = record {
    numbers = p.numbers;
    notes = p.notes;
    follow = All-weaker (λ (number : ℕ). AnswersUpTo lines number start new) (λ (number : ℕ). AnswersUpTo whole number start new) (λ number. AnswersUpTo-more lines more whole number start new e) p.numbers p.follow;
  }

  -- one more line was noted
  NotesAmong-push : (lines : List Line) (start new : Option (List ℕ)) (before middle after : N) (number : ℕ) → NotesAmong contents lines start new before middle → WritesNote number (contents middle) (contents after) → AnswersUpTo lines number start new → NotesAmong contents lines start new before after
  NotesAmong-push lines start new before middle after number p n up =
      let P = λ (m : ℕ). AnswersUpTo lines m start new in
      record {
        numbers = p.numbers ++ number ∷ [];
        notes = AreNoted-push p.numbers number before middle after p.notes n;
        follow = All-append P p.numbers (number ∷ []) p.follow (All-cons P number [] up (All-nil P));
      }

  -- one more line was answered, and may be noted
  pub NotesAmong-line : (start old new : Option (List ℕ)) (before middle after : N) (number : ℕ) (body : Option Body) (s : AnswersState) (done : List Line)
      → NotesAmong contents done start old before middle → HasAnswered done s start old → Grows old new → NotesLine contents number body s old new middle after
      → NotesAmong contents (done ++ answered number body []) start new before after
  NotesAmong-line start old new before middle after number body s done p answers g n =
      let lines = done ++ answered number body [] in
      let grown = NotesAmong-more done (answered number body []) lines start new before middle refl (NotesAmong-grows done start old new before middle p g) in
      elim n [
        | inl same ↦ subst (NotesAmong contents lines start new before) (sym same) grown
        | inr note ↦ NotesAmong-push lines start new before middle after number grown note.0 (AnswersUpTo-line number body s done start old new answers note.1)
      ]

  -- the lines are the script's first
  pub NotesFollow-from : (known start new : Option (List ℕ)) (before after : N) (lines : List (List ℕ)) (said : List Line) → BeginsScript known lines said → NotesAmong contents said start new before after → NotesFollow contents known start new before after
  NotesFollow-from known start new before after lines said b p = (b.script, b.is, NotesAmong-more said b.rest (script_of b.script) start new before after b.first p)

  pub NotesFollow-none : (known start : Option (List ℕ)) (notes : N) → NotesFollow contents known start start notes notes
  NotesFollow-none known start notes =
      let input = some_input known in
      (input.0, input.1, NotesAmong-none (script_of input.0) start notes)
