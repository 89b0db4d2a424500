-- Lines that were answered and reported.
use Rattle.std.proofs.Common.{◌≡◌, ◌⊎◌, ◌<◌, ◌≤◌, ◌++◌, sym, ap, subst, ◌∙◌, refl, true, false, Bool, ℕ, List, inl, inr, arith, length}
use Rattle.std.specs.Prelude.{ℤ}
use Rattle.std.proofs.lemmas.List.{append-nil}
use Rattle.point_core.specs.declared.refusal.Refusal.{Refusal}
use Rattle.point_core.specs.declared.refusal.Refusal.TheVariants.{Memory}
use Rattle.command_core.specs.declared.command.Command.{Command}
use Rattle.command_core.specs.declared.answer.Answer.{Answer}
use Rattle.command_core.specs.declared.answer.Answer.TheVariants as answer
use Rattle.desk_core.specs.theorem.Answer.{OnRefused}
use Rattle.desk_core.specs.theorem.Desk.{HasHistory}
use Rattle.line_core.specs.declared.line.Body.{Body}
use Rattle.line_core.specs.declared.line.Body.TheVariants.{Cmd, Bad}
use Rattle.c_desk.specs.declared.handle.DeskHandle.{DeskHandle}
use Rattle.c_desk.specs.declared.line.TheConstants.{ANSWER_ROOM}
use Rattle.c_desk.specs.Call.{number_of_answer, IsRefusal, IsStepOf, IsAskedOpen, IsAskedIf, IsAsked}
use Rattle.c_desk.specs.Handle.{is_open}
use Rattle.c_desk.specs.Line.{command_of, has_rows, answer_text, StoresText, IsReporting, IsLineCall}
use Rattle.c_desk.proofs.Looking.{rows-no_cookies, memory-answer, same-history}

on-refused : {A B : Type 0} (given : Answer) → (A → B) → OnRefused given A → OnRefused given B
on-refused (answer.Refused r) then fact = then fact
on-refused answer.Done then fact = tt
on-refused (answer.Value n) then fact = tt
on-refused (answer.Raised n fired) then fact = tt
on-refused (answer.Info i) then fact = tt
on-refused (answer.Show rows) then fact = tt
on-refused (answer.Report report) then fact = tt

module _ (old new : DeskHandle) (room out : List ℕ) (count : ℕ) (returned : ℤ) (wide : ANSWER_ROOM ≤ length room) where
  abbrev Same : Type 0
  Same = (history : List Command) → HasHistory old.service.desk history → HasHistory new.service.desk history

  -- an answer that is reported unchanged
  reported-number : (given : Answer) (t : IsReporting given room out count returned) → t.reported ≡ given → returned ≡ number_of_answer given
  reported-number given t same = t.number ∙ ap number_of_answer same

  reported-text : (given : Answer) (t : IsReporting given room out count returned) (a : Answer) → t.reported ≡ a → StoresText (answer_text a) room out count
  reported-text given t a same = subst (λ (x : Answer). StoresText (answer_text x) room out count) same t.text

  fits-by : (given : Answer) (t : IsReporting given room out count returned) (b : Bool) → has_rows t.reported ≡ b → (has_rows t.reported ≡ true → Same) → (count < length room) ⊎ Same
  fits-by given t false is rows = let few = t.few is in inl (omega (arith, few, wide))
  fits-by given t true is rows = inr (rows is)

  of_refusal : (r : Refusal) (given : Answer) → is_open old ≡ true → IsRefusal r old new given → IsReporting given room out count returned → IsLineCall old new (Bad r) room out count returned
  of_refusal r given opened refused t = elim t.is [
    | inl same ↦
        let is : t.reported ≡ answer.Refused r = same ∙ refused.is in
        let unchanged = refused.unchanged in
        let stands : Same = λ history before. subst (λ (h : DeskHandle). HasHistory h.service.desk history) (sym unchanged) before in
        record {
          given = answer.Refused r;
          opened = ap is_open unchanged ∙ opened;
          answered = λ history before. refl;
          stands = stands;
          unchanged = inl (ap (λ (h : DeskHandle). h.service) unchanged);
          kept = ap (λ (h : DeskHandle). h.service.fired) unchanged ∙ sym (append-nil old.service.fired);
          number = t.number ∙ ap number_of_answer is;
          text = reported-text given t (answer.Refused r) is;
          few = λ none. t.few (ap has_rows is ∙ none);
          fits = inr stands;
        }
    | inr memory ↦ let none : has_rows (answer.Refused r) ≡ true = ap has_rows (sym refused.is) ∙ memory.1 in absurd (cc)
  ]

  of_command : (c : Command) (given : Answer) → IsStepOf old new c given → IsReporting given room out count returned → IsLineCall old new (Cmd c) room out count returned
  of_command c given stepped t =
      let step = stepped.step in
      let rows_same : has_rows given ≡ true → Same = λ rows history before.
      same-history new.service.desk c given rows history (step.answered history before) (step.stands history before) old.service.desk before in
      elim t.is [
        | inl same ↦ record {
          given = given;
          opened = stepped.opened;
          answered = step.answered;
          stands = step.stands;
          unchanged = on-refused given (λ same. inl same) step.unchanged;
          kept = step.kept;
          number = reported-number given t same;
          text = reported-text given t given same;
          few = λ none. t.few (ap has_rows same ∙ none);
          fits = fits-by given t (has_rows t.reported) refl (λ rows. rows_same (ap has_rows (sym same) ∙ rows));
        }
        | inr memory ↦ record {
          given = answer.Refused Memory;
          opened = stepped.opened;
          answered = λ history before. memory-answer new.service.desk c given memory.1 history (step.answered history before);
          stands = rows_same memory.1;
          unchanged = inr refl;
          kept = step.kept ∙ ap (λ (l : List ℕ). old.service.fired ++ l) (rows-no_cookies given memory.1);
          number = t.number ∙ ap number_of_answer memory.0;
          text = reported-text given t (answer.Refused Memory) memory.0;
          few = λ none. t.few (ap has_rows memory.0 ∙ none);
          fits = inr (rows_same memory.1);
        }
      ]

  asked-open : (b : Bool) (body : Body) (given : Answer) → b ≡ true → IsAskedIf b old new (command_of body) given → IsAskedOpen old new (command_of body) given
  asked-open true body given is asked = asked
  asked-open false body given is asked = absurd (cc)

  -- the line that an open handle was asked to run was answered and reported
  pub line-call : (body : Body) (given : Answer) → is_open old ≡ true → IsAsked old new (command_of body) given → IsReporting given room out count returned → IsLineCall old new body room out count returned
  line-call (Cmd c) given opened asked t = of_command c given (asked-open (is_open old) (Cmd c) given opened asked) t
  line-call (Bad r) given opened asked t = of_refusal r given opened (asked-open (is_open old) (Bad r) given opened asked) t
