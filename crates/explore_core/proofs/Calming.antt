-- A plan with room for its files is calm.
use Rattle.std.proofs.Common.{◌≡◌, ℕ, zero, suc, ◌+◌, ◌<◌, ◌≤◌, Bool, true, false, refl, sym, ap, ◌∙◌, subst, List, [], ◌∷◌, ◌++◌, length, length-append, get_or, set, slice_get, replicate, Some, unwrap_or, arith, if◌then◌else◌}
use Rattle.std.specs.Prelude.{All}
use Rattle.std.specs.List.{sum_by}
use Rattle.std.proofs.lemmas.List.{length-replicate, length-set}
use Rattle.std.proofs.lemmas.List.Elements.{All-head, All-tail}
use Rattle.std.proofs.lemmas.List.Sums.{sum_by-cons}
use Rattle.std.proofs.lemmas.Option.{none-some, same_Some}
use Rattle.command_core.specs.declared.command.Command.{Command}
use Rattle.command_core.specs.declared.command.Command.TheVariants as command
use Rattle.desk_core.specs.theorem.World.{World, MadeFile, after}
use Rattle.desk_core.specs.theorem.Answer.{answer_to, is_refused}
use Rattle.desk_core.specs.theorem.History.{world_of}
use Rattle.desk_core.specs.Sound.{IsSound}
use Rattle.explore_core.specs.declared.plan.Step.{Step}
use Rattle.explore_core.specs.Room.{HasRoom, LeadForward, files_by_plan, files_by_lines, files_by}
use Rattle.explore_core.specs.Found.{CanBeExplored}
use Rattle.explore_core.specs.Persistent.{IsCalm}
use Rattle.explore_core.specs.Schedule.{Lines, Standing, Schedule, answer_now, history_with, history_along, beginning, made_by, next_line, place_after, after_line, Leads}
use Rattle.explore_core.proofs.Covering.{world-with, sound-along, sound-empty, sound-with}
use Rattle.explore_core.proofs.Moving.{goes-forward, line-made}
use Rattle.explore_core.proofs.Naming.{length-without_named}
use Rattle.explore_core.proofs.Scheduling.{none-comes, no_watches-of}

-- how many files there are

abbrev files_in : World → ℕ
files_in w = length w.files

one-more : (fs : List MadeFile) (f : MadeFile) → length (fs ++ f ∷ []) ≤ length fs + 1
one-more fs f = omega (arith, length-append {A = MadeFile})

files-after : (w : World) (c : Command) → files_in (after w c) ≤ files_in w + files_by c
files-after w (command.Fence f t p) = one-more w.files _
files-after w (command.Merge f a b) = one-more w.files _
files-after w (command.Export f b flags) = one-more w.files _
files-after w (command.Close f) = omega (arith, length-without_named (λ (f : MadeFile). f.name) w.files f)
files-after w _ = omega arith

files-with : (history : List Command) (c : Command) → files_in (world_of (history_with history c)) ≤ files_in (world_of history) + files_by c
files-with history c =
    subst (λ v. files_in v ≤ files_in (world_of history) + files_by c) (sym (world-with history c)) (by (world_of history) (is_refused (answer_to (world_of history) c)))
  where
    by : (w : World) (r : Bool) → files_in (if r then w else after w c) ≤ files_in w + files_by c
    by w true = omega arith
    by w false = files-after w c

files-along : (history cs : List Command) → files_in (world_of (history_along history cs)) ≤ files_in (world_of history) + sum_by files_by cs
files-along history [] = omega arith
files-along history (c ∷ cs) =
    let one = files-with history c in
    let rest = files-along (history_with history c) cs in
    let more = sum_by-cons files_by c cs in
    omega (arith, one, rest, more)

-- how many files the lines make that are not made yet

abbrev files_from : List Step → ℕ → ℕ
files_from [] place = 0
files_from (line ∷ lines) zero = files_by line.command + files_from lines zero
files_from (line ∷ lines) (suc place) = files_from lines place

abbrev files_ahead : List (List Step) → List ℕ → ℕ
files_ahead [] made = 0
files_ahead (lines ∷ clients) [] = 0
files_ahead (lines ∷ clients) (place ∷ made) = files_from lines place + files_ahead clients made

all-files : (lines : List Step) → files_from lines 0 ≡ files_by_lines lines
all-files [] = refl
all-files (line ∷ lines) = ap (λ n. files_by line.command + n) (all-files lines) ∙ sym (sum_by-cons (λ (step : Step). files_by step.command) line lines)

ahead-first : (clients : List (List Step)) → files_ahead clients (replicate (length clients) 0) ≡ sum_by files_by_lines clients
ahead-first [] = refl
ahead-first (lines ∷ clients) =
    ap (λ n. n + files_ahead clients (replicate (length clients) 0)) (all-files lines)
    ∙ ap (λ n. files_by_lines lines + n) (ahead-first clients) ∙ sym (sum_by-cons files_by_lines lines clients)

fewer : (lines : List Step) (place : ℕ) → files_from lines place ≤ files_from lines 0
fewer [] place = omega arith
fewer (line ∷ lines) zero = omega arith
fewer (line ∷ lines) (suc place) = let rest = fewer lines place in omega (arith, rest)

line-passed : (lines : List Step) (place next : ℕ) (line : Step) → slice_get lines place ≡ Some line → place < next → files_by line.command + files_from lines next ≤ files_from lines place
line-passed [] place next line at ahead = absurd (none-some line at)
line-passed (other ∷ lines) place zero line at ahead = absurd (omega (arith, ahead))
line-passed (other ∷ lines) zero (suc next) line at ahead =
    let same : files_by other.command ≡ files_by line.command = ap (λ (s : Step). files_by s.command) (same_Some other line at) in
    let rest = fewer lines next in
    omega (arith, same, rest)
line-passed (other ∷ lines) (suc place) (suc next) line at ahead = line-passed lines place next line at (omega (arith, ahead))

client-passed : (clients : List (List Step)) (made : List ℕ) (client next : ℕ) (line : Step) → length made ≡ length clients → slice_get (unwrap_or (slice_get clients client) []) (get_or made client 0) ≡ Some line → get_or made client 0 < next
    → files_by line.command + files_ahead clients (set made client next) ≤ files_ahead clients made
client-passed [] made client next line same at ahead = absurd (none-some line at)
client-passed (lines ∷ clients) [] client next line same at ahead = absurd (omega (arith, same))
client-passed (lines ∷ clients) (place ∷ made) zero next line same at ahead = let one = line-passed lines place next line at ahead in omega (arith, one)
client-passed (lines ∷ clients) (place ∷ made) (suc client) next line same at ahead =
    let rest = client-passed clients made client next line (omega (arith, same)) at ahead in
    omega (arith, rest)

-- along a schedule

record IsKept (plan : Lines) (now : Standing) : Type 0 where
  sound : IsSound (world_of now.history)
  clients : length now.made ≡ length plan.clients
  files : files_in (world_of now.history) + files_ahead plan.clients now.made ≤ files_by_plan plan

client-forward : (clients : List (List Step)) (client : ℕ) → All LeadForward clients → LeadForward (unwrap_or (slice_get clients client) [])
client-forward [] client all = λ place step at. absurd (none-some step at)
client-forward (lines ∷ clients) zero all = All-head LeadForward lines clients all
client-forward (lines ∷ clients) (suc client) all = client-forward clients client (All-tail LeadForward lines clients all)

module _ (plan : Lines) (has : HasRoom plan) where
  kept-first : IsKept plan (beginning plan)
  kept-first =
      let ahead = ahead-first plan.clients in
      let files : files_in (world_of (history_along [] plan.first)) ≤ 0 + sum_by files_by plan.first = files-along [] plan.first in
      record {
        sound = sound-along [] plan.first sound-empty;
        clients = length-replicate (length plan.clients) 0;
        files = omega (arith, ahead, files);
      }

  kept-line : (now : Standing) (client : ℕ) (line : Step) → IsKept plan now → next_line plan now client ≡ Some line → IsKept plan (after_line now client line)
  kept-line now client line kept is =
      let forward = client-forward plan.clients client has.forward (made_by now client) line is in
      let next : ℕ = place_after line (made_by now client) (answer_now now.history line.command) in
      let passed = client-passed plan.clients now.made client next line kept.clients is (goes-forward line (made_by now client) (answer_now now.history line.command) forward) in
      let more = files-with now.history line.command in
      let before = kept.files in
      record {
        sound = sound-with now.history line.command kept.sound;
        clients = length-set now.made client next ∙ kept.clients;
        files = omega (arith, passed, more, before);
      }

  kept-along : (now : Standing) (schedule : Schedule) (later : Standing) → IsKept plan now → Leads plan now schedule later → IsKept plan later
  kept-along now [] later kept leads = subst (IsKept plan) leads kept
  kept-along now (client ∷ schedule) later kept leads =
      let l = line-made now client (next_line plan now client) leads.0 leads.1 in
      kept-along leads.0 schedule later (subst (IsKept plan) l.after (kept-line now client l.line kept l.is)) leads.2

  pub is-calm : CanBeExplored plan → IsCalm plan (beginning plan)
  is-calm can = λ schedule later leads.
      let kept = kept-along (beginning plan) schedule later kept-first leads in
      let room = has.room in
      let files = kept.files in
      let none = no_watches-of later.history (none-comes plan can schedule later leads) in
      record { sound = kept.sound; files = omega (arith, room, files); watches = none.watches }
