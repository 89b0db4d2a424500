-- Answers, and the histories after them.
use Rattle.std.proofs.Common.{◌≡◌, ◌≢◌, ℕ, false, refl, sym, ap, subst, ◌∙◌, List, [], ◌∷◌, ◌++◌, length, Option, None, Some, inl, inr, arith, rules, length-append}
use Rattle.std.specs.Prelude.{Result, Ok, Err, IfOk, IfErr, OnErr}
use Rattle.std.proofs.lemmas.Bool.{cases_Bool}
use Rattle.std.proofs.lemmas.List.Elements.{All-nil}
use Rattle.point_core.proofs.Agreement.{AgreesAbove-refl}
use Rattle.resv_core.specs.Resv.{IsTable}
use Rattle.point_core.specs.declared.refusal.Refusal.TheVariants.{Memory}
use Rattle.point_core.specs.declared.refusal.Refusal.{Refusal}
use Rattle.command_core.specs.declared.command.Command.{Command}
use Rattle.command_core.specs.declared.command.Command.TheVariants as command
use Rattle.command_core.specs.declared.answer.Answer.{Answer}
use Rattle.command_core.specs.declared.answer.Answer.TheVariants as answer
use Rattle.point_core.specs.Refusal.{IsRefusedFor}
use Rattle.desk_core.specs.theorem.World.{World, MadeFile, file_named, empty_world, after, fires_some}
use Rattle.desk_core.specs.theorem.Answer.{first_of, causes, reported, info_reported, answer_to, refused_or, is_refused, takes_memory, OnRefused}
use Rattle.desk_core.specs.theorem.History.{world_from, world_of, AreAccepted, IsAnswer, history_after, history_of, AreAnswers}
use Rattle.timeline_core.specs.Timeline.{Timeline}
use Rattle.syncfile_core.specs.SyncFile.{File}
use Rattle.dmabuf_core.specs.Buffers.{Buffer}
use Rattle.fence_core.specs.Watch.{Registry}
use Rattle.fence_core.specs.Watches.{no_watches}
use Rattle.desk_core.specs.theorem.Desk.{DeskState, Holds, HasHistory, Answers}
use Rattle.desk_core.specs.Keeping.{Keeps, cause_of, fires_kept, IsDone, answer_of}
use Rattle.desk_core.proofs.Sound.{IsSound-history, none_distinct}
use Rattle.desk_core.proofs.Stepping.{causes-keeps}
use Rattle.desk_core.proofs.Watching.{fires_kept-holds}

-- one more command

pub world_from-push : (w : World) (history : List Command) (c : Command) → world_from w (history ++ c ∷ []) ≡ after (world_from w history) c
world_from-push w [] c = refl
world_from-push w (d ∷ history) c = world_from-push (after w d) history c

is_refused-info : (w : World) (name : List ℕ) (o : Option MadeFile) → is_refused (info_reported w name o) ≡ false
is_refused-info w name None = refl
is_refused-info w name (Some f) = refl

pub is_refused-reported : (w : World) (c : Command) → is_refused (reported w c) ≡ false
is_refused-reported w (command.Info f) = is_refused-info w f (file_named w.files f)
is_refused-reported w _ = refl

-- the desk keeps the world of each history that it stands for
pub Keeps-stands : {desk : DeskState} {history : List Command} → HasHistory desk history → Keeps desk (world_of history)
Keeps-stands {desk} {history} stands = record { holds = stands.holds; sound = IsSound-history history stands.accepted }

pub AreAccepted-push : (w : World) (history : List Command) (c : Command) → AreAccepted w history → is_refused (answer_to (world_from w history) c) ≡ false → AreAccepted w (history ++ c ∷ [])
AreAccepted-push w [] c accepted is = (is, tt)
AreAccepted-push w (d ∷ history) c accepted is = (accepted.0, AreAccepted-push (after w d) history c accepted.1 is)

-- a command takes memory for the desk exactly when it does in the world
takes_memory-holds : {desk : DeskState} {world : World} → Keeps desk world → (c : Command) → takes_memory (fires_kept desk) c ≡ takes_memory (fires_some world) c
takes_memory-holds k (command.Inc t n) = fires_kept-holds k (command.Inc t n)
takes_memory-holds k (command.Shut t) = fires_kept-holds k (command.Shut t)
takes_memory-holds k _ = refl

answered : (old new : DeskState) (c : Command) (r : Result Answer Refusal) (cause : Option Refusal) (history : List Command) → IsRefusedFor cause r → (takes_memory (fires_kept old) c ≡ false → IfErr r (λ e. e ≢ Memory)) → IfOk r (λ a. IsDone old c a new) → Keeps old (world_of history) → first_of (causes (world_of history) c) ≡ cause → IsAnswer history c (answer_of r)
answered old new c (Ok a) (Some e) history refused sure done keeps is = absurd (cc)
answered old new c (Ok a) None history refused sure done keeps is = record { reported = inl (done.reported (world_of history) keeps ∙ ap (λ o. refused_or o (reported (world_of history) c)) (sym is)) }
answered old new c (Err e') (Some e) history refused sure done keeps is =
    let same : e' ≡ e = cc in
    record { reported = inl (ap answer.Refused same ∙ ap (λ o. refused_or o (reported (world_of history) c)) (sym is)) }
answered old new c (Err e) None history refused sure done keeps is =
    elim (cases_Bool (takes_memory (fires_kept old) c)) [
      | inl takes ↦ record {
        reported = inr (ap answer.Refused refused, sym (takes_memory-holds keeps c) ∙ takes, ap (λ o. is_refused (refused_or o (reported (world_of history) c))) is ∙ is_refused-reported (world_of history) c);
      }
      | inr takes_none ↦ absurd (sure takes_none refused)
    ]

-- the answer is the one of each history that the desk stands for
pub Answers-outcome : (old new : DeskState) (c : Command) (r : Result Answer Refusal) → IsRefusedFor (cause_of old c) r → (takes_memory (fires_kept old) c ≡ false → IfErr r (λ e. e ≢ Memory)) → IfOk r (λ a. IsDone old c a new) → Answers old c (answer_of r)
Answers-outcome old new c r refused sure done history stands =
    let keeps = Keeps-stands stands in
    answered old new c r (cause_of old c) history refused sure done keeps (causes-keeps keeps c)

accepted-cause : (cause : Option Refusal) (a : Answer) → IsRefusedFor cause (Ok a) → cause ≡ None
accepted-cause (Some e) a refused = absurd (cc)
accepted-cause None a refused = refl

-- the desk stands for the history after it
pub HasHistory-outcome : (old new : DeskState) (c : Command) (r : Result Answer Refusal) → IsRefusedFor (cause_of old c) r → OnErr r (new ≡ old) → IfOk r (λ a. IsDone old c a new) → (history : List Command) → HasHistory old history → HasHistory new (history_after history c (answer_of r))
HasHistory-outcome old new c (Ok a) refused unchanged done history stands =
    let keeps = Keeps-stands stands in
    let P : World → Type 0 = λ w. Holds new w in
    let uncaused = causes-keeps keeps c ∙ accepted-cause (cause_of old c) a refused in
    let is = ap (λ o. is_refused (refused_or o (reported (world_of history) c))) uncaused ∙ is_refused-reported (world_of history) c in
    let accepted = done.accepted in
    rw accepted (record {
      accepted = AreAccepted-push empty_world history c stands.accepted is;
      holds = subst P (sym (world_from-push empty_world history c)) (done.held (world_of history) keeps);
    })
HasHistory-outcome old new c (Err e) refused unchanged done history stands =
    let P : DeskState → Type 0 = λ d. HasHistory d history in
    subst P (sym unchanged) stands

accepted_OnRefused : (given : Answer) (fact : Type 0) → is_refused given ≡ false → OnRefused given fact
accepted_OnRefused (answer.Refused r) fact is = absurd (cc)
accepted_OnRefused _ fact is = tt

-- a refused command leaves the desk as it was
pub OnRefused-outcome : (old new : DeskState) (c : Command) (r : Result Answer Refusal) → OnErr r (new ≡ old) → IfOk r (λ a. IsDone old c a new) → OnRefused (answer_of r) (new ≡ old)
OnRefused-outcome old new c (Ok a) unchanged done = accepted_OnRefused a (new ≡ old) done.accepted
OnRefused-outcome old new c (Err e) unchanged done = unchanged

-- a run

pub history_of-push : (history cs : List Command) (given : List Answer) (c : Command) (a : Answer) → length cs ≡ length given → history_of history (cs ++ c ∷ []) (given ++ a ∷ []) ≡ history_after (history_of history cs given) c a
history_of-push history [] [] c a same = refl
history_of-push history [] (b ∷ given) c a same = absurd (omega (arith, same))
history_of-push history (d ∷ cs) [] c a same = absurd (omega (arith, same))
history_of-push history (d ∷ cs) (b ∷ given) c a same = history_of-push (history_after history d b) cs given c a (omega arith)

pub AreAnswers-push : (history cs : List Command) (given : List Answer) (c : Command) (a : Answer) → AreAnswers history cs given → IsAnswer (history_of history cs given) c a → AreAnswers history (cs ++ c ∷ []) (given ++ a ∷ [])
AreAnswers-push history [] [] c a are is = (is, tt)
AreAnswers-push history [] (b ∷ given) c a are is = absurd are
AreAnswers-push history (d ∷ cs) [] c a are is = absurd are
AreAnswers-push history (d ∷ cs) (b ∷ given) c a are is = (are.0, AreAnswers-push (history_after history d b) cs given c a are.1 is)

-- the desk and the answers after those commands
pub record HasRun (desk : DeskState) (cs : List Command) (given : List Answer) : Type 0 where
  pub answers : AreAnswers [] cs given
  pub stands : HasHistory desk (history_of [] cs given)
  pub each : length cs ≡ length given

pub HasRun-push : {desk : DeskState} {cs : List Command} {given : List Answer} (new : DeskState) (c : Command) (a : Answer) → HasRun desk cs given → Answers desk c a → ((history : List Command) → HasHistory desk history → HasHistory new (history_after history c a)) → HasRun new (cs ++ c ∷ []) (given ++ a ∷ [])
HasRun-push {desk} {cs} {given} new c a run answer stands = record {
  answers = AreAnswers-push [] cs given c a run.answers (answer (history_of [] cs given) run.stands);
  stands =
      let P : List Command → Type 0 = λ history. HasHistory new history in
      subst P (sym (history_of-push [] cs given c a run.each)) (stands (history_of [] cs given) run.stands);
  each = omega (arith, run.each, length-append {A = Command}, length-append {A = Answer});
}

-- the desk that nothing was put into stands for the empty history

pub HasHistory-new : (timelines : List Timeline) (files : List File) (buffers : List Buffer) (watches : Registry) → timelines ≡ [] → files ≡ [] → buffers ≡ [] → watches ≡ no_watches → HasHistory (record { timelines = timelines; files = files; buffers = buffers; watches = watches }) []
HasHistory-new timelines files buffers watches no_timelines no_files no_buffers none =
    rw (no_timelines, no_files, no_buffers, none) (record {
      accepted = tt;
      holds = record {
        timelines = refl;
        names = refl;
        points = refl;
        buffers = refl;
        kept = record { distinct = none_distinct; within = omega arith; tables = All-nil IsTable };
        tables = λ name. AgreesAbove-refl _ [];
        watches = search rules;
        watches_made = refl;
      };
    })
