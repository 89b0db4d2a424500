-- Commands whose answers have rows: they allocate, and change nothing.
use Rattle.std.proofs.Common.{◌≡◌, ◌++◌, ◌∷◌, [], sym, ap, subst, ◌∙◌, refl, true, false, Bool, List, Option, None, Some, inl, inr}
use Rattle.std.specs.Prelude.{if◌then◌else◌}
use Rattle.point_core.specs.declared.refusal.Refusal.{Refusal}
use Rattle.point_core.specs.declared.refusal.Refusal.TheVariants.{Memory}
use Rattle.command_core.specs.declared.command.Command.{Command}
use Rattle.command_core.specs.declared.command.Command.TheVariants as command
use Rattle.command_core.specs.declared.answer.Answer.{Answer}
use Rattle.command_core.specs.declared.answer.Answer.TheVariants as answer
use Rattle.desk_core.specs.theorem.World.{World, empty_world, after, fires_some}
use Rattle.desk_core.specs.theorem.Answer.{causes, first_of, reported, answer_to, refused_or, is_refused, takes_memory}
use Rattle.desk_core.specs.theorem.History.{world_of, IsAnswer, history_after}
use Rattle.desk_core.specs.theorem.Desk.{DeskState, HasHistory, Holds}
use Rattle.desk_core.proofs.Answering.{world_from-push}
use Rattle.c_desk.specs.Line.{has_rows}
use Rattle.c_desk.specs.Service.{cookies_of}

none : {A : Type 0} (cause : Option Refusal) (a : Answer) → has_rows a ≡ false → has_rows (refused_or cause a) ≡ true → A
none None a not is = absurd (cc)
none (Some r) a not is = absurd (cc)

abbrev Looks : World → (Command → Bool) → Command → Type 0
Looks w fires c = (after w c ≡ w) × (takes_memory fires c ≡ true)

looks : (w : World) (fires : Command → Bool) (c : Command) → has_rows (answer_to w c) ≡ true → Looks w fires c
looks w fires (command.Info f) is = (refl, refl)
looks w fires (command.Show b) is = (refl, refl)
looks w fires command.Report is = (refl, refl)
looks w fires c is = none (first_of (causes w c)) (reported w c) refl is

pub rows-accepted : (a : Answer) → has_rows a ≡ true → is_refused a ≡ false
rows-accepted (answer.Refused r) is = absurd (cc)
rows-accepted _ is = refl

pub rows-no_cookies : (a : Answer) → has_rows a ≡ true → cookies_of a ≡ []
rows-no_cookies (answer.Raised n fired) is = absurd (cc)
rows-no_cookies _ is = refl

module _ (new : DeskState) (c : Command) (a : Answer) (rows : has_rows a ≡ true) (history : List Command) (answered : IsAnswer history c a) where
  abbrev w : World
  w = world_of history

  is_answer : a ≡ answer_to w c
  is_answer = elim answered.reported [
    | inl same ↦ same
    | inr memory ↦ let refused : has_rows (answer.Refused Memory) ≡ true = ap has_rows (sym memory.0) ∙ rows in absurd (cc)
  ]

  look : Looks w (fires_some w) c
  look = looks w (fires_some w) c (ap has_rows (sym is_answer) ∙ rows)

  -- the command could have found no memory
  pub memory-answer : IsAnswer history c (answer.Refused Memory)
  memory-answer =
      let accepted : is_refused (answer_to w c) ≡ false = ap is_refused (sym is_answer) ∙ rows-accepted a rows in
      record { reported = inr (refl, look.1, accepted) }

  -- the desk still refines the history
  pub same-history : HasHistory new (history_after history c a) → (desk : DeskState) → HasHistory desk history → HasHistory new history
  same-history stands desk before =
      let more : HasHistory new (history ++ c ∷ []) = subst (λ (b : Bool). HasHistory new (if b then history else history ++ c ∷ [])) (rows-accepted a rows) stands in
      record {
        accepted = before.accepted;
        holds = subst (λ (v : World). Holds new v) (world_from-push empty_world history c ∙ look.0) more.holds;
      }
