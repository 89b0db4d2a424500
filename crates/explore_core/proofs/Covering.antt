-- Standings that are alike go on alike.
use Rattle.std.proofs.Common.{◌≡◌, ℕ, Bool, true, false, not, ◌&&◌, refl, sym, ap, ◌∙◌, subst, List, [], ◌∷◌, ◌++◌, Option, None, Some, if◌then◌else◌, slice_get, get_or, set}
use Rattle.std.specs.Prelude.{IsSome}
use Rattle.std.specs.List.{AllZip}
use Rattle.std.proofs.lemmas.Bool.{false≢true}
use Rattle.std.proofs.lemmas.Option.{same_Some}
use Rattle.point_core.specs.Agreement.{AgreesAbove}
use Rattle.point_core.proofs.Agreement.{AgreesAbove-trans}
use Rattle.timeline_core.specs.Timeline.{Timeline, reach_of}
use Rattle.command_core.specs.declared.command.Command.{Command}
use Rattle.desk_core.specs.theorem.World.{World, MadeWatch, empty_world, after, put_set, buffer_put_set}
use Rattle.desk_core.specs.theorem.Answer.{is_refused}
use Rattle.desk_core.specs.theorem.History.{world_of}
use Rattle.desk_core.specs.Sound.{IsSound}
use Rattle.desk_core.proofs.Answering.{world_from-push}
use Rattle.desk_core.proofs.Sound.{IsSound-history}
use Rattle.explore_core.specs.declared.plan.Step.{Step}
use Rattle.explore_core.specs.Alike.{AsksOnly, AreAlike, IsSameWatch, after_answer}
use Rattle.explore_core.specs.Schedule.{Lines, Standing, answer_now, history_with, history_along, lines_of, made_by, next_line, can_be_made, is_due, place_after, after_line, made_line, after_one, IsLast, IsStuck, MayGo}
use Rattle.explore_core.specs.Covering.{MayAsk, GoOnAlike}
use Rattle.explore_core.proofs.Answering.{same_answer}
use Rattle.explore_core.proofs.Staying.{alike-answered, IsSound-answered}

-- the world after one more command

world-by : (history : List Command) (c : Command) (r : Bool) → world_of (if r then history else history ++ c ∷ []) ≡ (if r then world_of history else after (world_of history) c)
world-by history c true = refl
world-by history c false = world_from-push empty_world history c

pub world-with : (history : List Command) (c : Command) → world_of (history_with history c) ≡ after_answer (world_of history) c
world-with history c = world-by history c (is_refused (answer_now history c))

pub sound-with : (history : List Command) (c : Command) → IsSound (world_of history) → IsSound (world_of (history_with history c))
sound-with history c sound = subst IsSound (sym (world-with history c)) (IsSound-answered (world_of history) c sound)

pub sound-along : (history cs : List Command) → IsSound (world_of history) → IsSound (world_of (history_along history cs))
sound-along history [] sound = sound
sound-along history (c ∷ cs) sound = sound-along (history_with history c) cs (sound-with history c sound)

-- alike is transitive

watches-trans : (reach : List ℕ) (xs ys zs : List MadeWatch) → AllZip (IsSameWatch reach) xs ys → AllZip (IsSameWatch reach) ys zs → AllZip (IsSameWatch reach) xs zs
watches-trans reach [] [] [] h k = tt
watches-trans reach [] [] (z ∷ zs) h k = absurd k
watches-trans reach [] (y ∷ ys) zs h k = absurd h
watches-trans reach (x ∷ xs) [] zs h k = absurd h
watches-trans reach (x ∷ xs) (y ∷ ys) [] h k = absurd k
watches-trans reach (x ∷ xs) (y ∷ ys) (z ∷ zs) h k = (record { cookie = h.0.cookie ∙ k.0.cookie; put = AgreesAbove-trans h.0.put k.0.put }, watches-trans reach xs ys zs h.1 k.1)

alike-trans : {asked : List ℕ → Bool} {u v w : World} → AreAlike asked u v → AreAlike asked v w → AreAlike asked u w
alike-trans {asked} {u} {v} {w} a b = record {
  timelines = a.timelines ∙ b.timelines;
  file_counts = λ n. a.file_counts n ∙ b.file_counts n;
  files_made = a.files_made ∙ b.files_made;
  files = λ n. let P : List Timeline → Type 0 = λ ts. AgreesAbove (reach_of ts) (put_set v.files n) (put_set w.files n) in AgreesAbove-trans (a.files n) (subst P (sym a.timelines) (b.files n));
  lists = λ n is. a.lists n is ∙ b.lists n is;
  buffer_names = a.buffer_names ∙ b.buffer_names;
  buffers = λ n. let P : List Timeline → Type 0 = λ ts. AgreesAbove (reach_of ts) (buffer_put_set v.buffers n) (buffer_put_set w.buffers n) in AgreesAbove-trans (a.buffers n) (subst P (sym a.timelines) (b.buffers n));
  watches = let P : List Timeline → Type 0 = λ ts. AllZip (IsSameWatch (reach_of ts)) v.watches w.watches in watches-trans (reach_of u.timelines) u.watches v.watches w.watches a.watches (subst P (sym a.timelines) b.watches);
  watches_made = a.watches_made ∙ b.watches_made;
}

pub go-on-trans : {asked : List ℕ → Bool} {r s t : Standing} → GoOnAlike asked r s → GoOnAlike asked s t → GoOnAlike asked r t
go-on-trans g h = record { made = g.made ∙ h.made; worlds = alike-trans g.worlds h.worlds }

-- standings that go on alike

module _ {asked : List ℕ → Bool} {plan : Lines} (may : MayAsk asked plan) {s t : Standing} (g : GoOnAlike asked s t) (sound : IsSound (world_of s.history)) where
  pub next-same : (client : ℕ) → next_line plan s client ≡ next_line plan t client
  next-same client = ap (λ made. slice_get (lines_of plan client) (get_or made client 0)) g.made

  pub asks-next : (client : ℕ) (step : Step) → next_line plan s client ≡ Some step → AsksOnly asked step.command
  asks-next client step is = may.lines client (made_by s client) step is

  pub answer-same : (step : Step) → AsksOnly asked step.command → answer_now s.history step.command ≡ answer_now t.history step.command
  answer-same step asks = same_answer g.worlds step.command asks sound

  pub can-same : (step : Step) → AsksOnly asked step.command → can_be_made s step ≡ can_be_made t step
  can-same step asks =
      ap (λ made. is_due made step.after && not (step.waits && is_refused (answer_now s.history step.command))) g.made
      ∙ ap (λ given. is_due t.made step.after && not (step.waits && is_refused given)) (answer-same step asks)

  line-alike : (client : ℕ) (step : Step) → AsksOnly asked step.command → GoOnAlike asked (after_line s client step) (after_line t client step)
  line-alike client step asks = record {
    made = ap (λ made. set made client (place_after step (get_or made client 0) (answer_now s.history step.command))) g.made
        ∙ ap (λ given. set t.made client (place_after step (made_by t client) given)) (answer-same step asks);
    worlds = rw (world-with s.history step.command, world-with t.history step.command) (alike-answered g.worlds step.command asks sound);
  }

  abbrev Next : ℕ → Step → Standing → Type 0
  Next client step next = GoOnAlike asked next (after_line t client step)

  -- both make a line, or neither
  made-alike : (client : ℕ) (o : Option Step) (next : Standing) → next_line plan s client ≡ o → made_line s client o ≡ Some next
      → (other : Standing) × (made_line t client o ≡ Some other) × GoOnAlike asked next other
  made-alike client None next is goes = absurd (cc)
  made-alike client (Some step) next is goes = by (can_be_made s step) (can_be_made t step) (can-same step asks) goes
    where
      asks : AsksOnly asked step.command
      asks = asks-next client step is

      by : (b b' : Bool) → b ≡ b' → (if b then Some (after_line s client step) else None) ≡ Some next
          → (other : Standing) × ((if b' then Some (after_line t client step) else None) ≡ Some other) × GoOnAlike asked next other
      by true true same goes = (after_line t client step, refl, subst (Next client step) (same_Some (after_line s client step) next goes) (line-alike client step asks))
      by false false same goes = absurd (cc)
      by true false same goes = absurd (false≢true (sym same))
      by false true same goes = absurd (false≢true same)

  -- the same clients can go on, to standings that go on alike
  pub one-alike : (client : ℕ) (next : Standing) → after_one plan s client ≡ Some next
      → (other : Standing) × (after_one plan t client ≡ Some other) × GoOnAlike asked next other
  one-alike client next goes =
      let there = made-alike client (next_line plan s client) next refl goes in
      (there.0, ap (made_line t client) (sym (next-same client)) ∙ there.1, there.2)

  none-made : (client : ℕ) (o : Option Step) → next_line plan s client ≡ o → made_line s client o ≡ None → made_line t client o ≡ None
  none-made client None is none = refl
  none-made client (Some step) is none = by (can_be_made s step) (can_be_made t step) (can-same step (asks-next client step is)) none
    where
      by : (b b' : Bool) → b ≡ b' → (if b then Some (after_line s client step) else None) ≡ None → (if b' then Some (after_line t client step) else None) ≡ None
      by true true same none = absurd (cc)
      by false false same none = refl
      by true false same none = absurd (false≢true (sym same))
      by false true same none = absurd (false≢true same)

  -- in both no client can go, or in neither
  pub last-alike : IsLast plan s → IsLast plan t
  last-alike nobody client may =
      ap (made_line t client) (sym (next-same client))
      ∙ none-made client (next_line plan s client) refl (nobody client (subst (λ (made : List ℕ). MayGo plan made client) (sym g.made) may))

  -- both are stuck, or neither
  pub stuck-alike : IsStuck plan s → IsStuck plan t
  stuck-alike stuck = record {
    nobody = last-alike stuck.nobody;
    waiting = (stuck.waiting.0, subst IsSome (next-same stuck.waiting.0) stuck.waiting.1);
  }

-- a line that is made leaves a sound world

pub sound-made : (s : Standing) (client : ℕ) (o : Option Step) (next : Standing) → made_line s client o ≡ Some next → IsSound (world_of s.history) → IsSound (world_of next.history)
sound-made s client None next goes sound = absurd (cc)
sound-made s client (Some step) next goes sound = by (can_be_made s step) goes
  where
    P : Standing → Type 0
    P n = IsSound (world_of n.history)

    by : (b : Bool) → (if b then Some (after_line s client step) else None) ≡ Some next → IsSound (world_of next.history)
    by true goes = subst P (same_Some (after_line s client step) next goes) (sound-with s.history step.command sound)
    by false goes = absurd (cc)

pub sound-empty : IsSound (world_of [])
sound-empty = IsSound-history [] tt
