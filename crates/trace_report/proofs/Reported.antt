-- What a whole trace shows.
use Rattle.std.proofs.Common.{◌≡◌, ◌∙◌, ℕ, true, false, ◌&&◌, List, [], ◌∷◌, Option, Result, Ok, Err, IfErr, IfOk, refl, sym, ap, arith}
use Rattle.std.specs.Prelude.{◌==◌}
use Rattle.std.proofs.lemmas.Bool.{and_parts, eqb-true, false≢true}
use Rattle.trace_core.specs.declared.fence_event.FenceKey.{FenceKey}
use Rattle.trace_core.specs.declared.pending.Pending.{Pending}
use Rattle.trace_core.specs.declared.tally.Tally.{Tally}
use Rattle.trace_core.specs.declared.tracker.Tracker.{Tracker}
use Rattle.trace_core.specs.declared.window.Span.{Span}
use Rattle.trace_core.specs.History.{Step, every, events_in, tally_in}
use Rattle.trace_core.specs.Reading.{HasTakenIn}
use Rattle.trace_report.specs.declared.report.TraceOutcome.{TraceOutcome}
use Rattle.trace_report.specs.declared.report.TraceOutcome.TheVariants.{Sound, Broken, NoEvents}
use Rattle.trace_report.specs.Found.{AreHangs, is_reported, key_of}
use Rattle.trace_report.specs.Report.{IsSound, IsVerdict, ReportsTrace, Shows, is_sound}

module _ (steps : List Step) where
  none-listed : (key : FenceKey) → AreHangs steps [] → is_reported steps key ≡ true → ⊥
  none-listed key hangs reported = let there = (hangs.are key).1 reported in omega (arith, there.1)

  -- no fence is listed, and no rule is counted as broken
  pub sound : (fences : List Pending) (total : Tally) → AreHangs steps fences → total ≡ tally_in every steps → is_sound fences total ≡ true → IsSound steps
  sound [] total hangs counted is =
      let parts = and_parts (total.overtaken == 0) (total.signalled_twice == 0) is in
      record {
        none = λ key. none-listed key hangs;
        overtaken = sym (ap (λ (t : Tally). t.overtaken) counted) ∙ eqb-true total.overtaken 0 parts.0;
        twice = sym (ap (λ (t : Tally). t.signalled_twice) counted) ∙ eqb-true total.signalled_twice 0 parts.1;
      }
  sound (fence ∷ fences) total hangs counted is = absurd (false≢true is)

  -- a fence is listed, or a rule is counted as broken
  pub broken : (fences : List Pending) (total : Tally) → AreHangs steps fences → total ≡ tally_in every steps → is_sound fences total ≡ false → IsSound steps → ⊥
  broken [] total hangs counted is fine =
      let overtaken = ap (λ n. n == 0) (ap (λ (t : Tally). t.overtaken) counted ∙ fine.overtaken) in
      let twice = ap (λ n. n == 0) (ap (λ (t : Tally). t.signalled_twice) counted ∙ fine.twice) in
      false≢true (sym is ∙ ap (λ b. b && total.signalled_twice == 0) overtaken ∙ twice)
  broken (fence ∷ fences) total hangs counted is fine =
      fine.none (key_of fence) ((hangs.are (key_of fence)).0 (0, omega arith, refl))

-- the trace was read, and these are its steps
module _ (span : Span) (t : Tracker) (text rest before after : Option (List ℕ)) (h : HasTakenIn span t text rest) where
  pub reported : (outcome : TraceOutcome) → Shows h.tracks.fences.steps before after outcome → ReportsTrace span text rest before after outcome
  reported outcome shows = record {
    items = h.items;
    seen = h.seen;
    drivers = t.drivers;
    timelines = t.timelines;
    steps = h.tracks.fences.steps;
    window = h.window;
    saw = h.tracks.fences.saw;
    forgets = h.tracks.fences.ledger.forgets;
    shows = shows;
  }

  pub judged : (outcome : TraceOutcome) → (events_in h.tracks.fences.steps ≡ 0 → ⊥) → IsVerdict h.tracks.fences.steps outcome → ReportsTrace span text rest before after outcome
  judged Sound some verdict = reported Sound (some, verdict)
  judged Broken some verdict = reported Broken (some, verdict)
  judged NoEvents some verdict = absurd verdict

pub ok-then : {T E : Type 0} {P Q : T → Type 0} (r : Result T E) → IfOk r P → ((v : T) → P v → Q v) → IfOk r Q
ok-then (Ok v) h on = on v h
ok-then (Err e) h on = tt

pub err-then : {T E : Type 0} {P Q : E → Type 0} (r : Result T E) → IfErr r P → ((e : E) → P e → Q e) → IfErr r Q
err-then (Ok v) h on = tt
err-then (Err e) h on = on e h
