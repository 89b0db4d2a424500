-- A line that is independent of the lines along a schedule may be made before them.
use Rattle.std.proofs.Common.{◌≡◌, ◌≢◌, ℕ, ◌+◌, ◌<◌, ◌≤◌, arith, Bool, true, false, not, ◌&&◌, suc, zero, refl, sym, ap, ◌∙◌, subst, List, [], ◌∷◌, ◌++◌, get_or, set, slice_get, Option, None, Some, unwrap_or, if◌then◌else◌}
use Rattle.std.specs.Prelude.{IfSome}
use Rattle.std.proofs.lemmas.Bool.{and_from, and_parts, false≢true, lt-ltb, ltb-true}
use Rattle.std.proofs.lemmas.List.{get_or-set_other}
use Rattle.std.proofs.lemmas.Option.{same_Some}
use Rattle.command_core.specs.declared.answer.Answer.{Answer}
use Rattle.command_core.specs.declared.command.Command.{Command}
use Rattle.command_core.specs.declared.command.Command.TheVariants as command
use Rattle.desk_core.specs.theorem.World.{World}
use Rattle.desk_core.specs.theorem.Answer.{answer_to, is_refused}
use Rattle.desk_core.specs.theorem.History.{world_of}
use Rattle.desk_core.specs.Sound.{IsSound}
use Rattle.explore_core.specs.Branch.{Branching}
use Rattle.explore_core.specs.declared.plan.Milestone.{Milestone}
use Rattle.explore_core.specs.declared.plan.Step.{Step}
use Rattle.explore_core.specs.Alike.{AreAlike, after_answer}
use Rattle.explore_core.specs.Covering.{MayAsk, GoOnAlike}
use Rattle.explore_core.specs.Independence.{Bounds, Commute, Passes}
use Rattle.explore_core.specs.Moving.{answer_of, answers_of, IsPatient, AllGoBeside, MayGoFirst}
use Rattle.explore_core.specs.Room.{LeadsForward}
use Rattle.explore_core.specs.Schedule.{Lines, Standing, Schedule, answer_now, history_with, is_due, is_taken, lines_of, made_by, next_line, can_be_made, place_by, place_after, after_line, made_line, after_one, Leads}
use Rattle.explore_core.specs.Search.{standing_after}
use Rattle.explore_core.proofs.Commuting.{commute, alike-itself}
use Rattle.explore_core.proofs.Covering.{world-with, sound-with, sound-made, go-on-trans, next-same, asks-next, answer-same, one-alike}

-- two places of a list that change

suc-apart : (i j : ℕ) → suc j ≢ suc i → j ≢ i
suc-apart i j apart = λ is. apart (ap suc is)

set-set : (xs : List ℕ) (i j x y : ℕ) → j ≢ i → set (set xs i x) j y ≡ set (set xs j y) i x
set-set [] i j x y apart = refl
set-set (z ∷ xs) zero zero x y apart = absurd (apart refl)
set-set (z ∷ xs) zero (suc j) x y apart = refl
set-set (z ∷ xs) (suc i) zero x y apart = refl
set-set (z ∷ xs) (suc i) (suc j) x y apart = ap (λ zs. z ∷ zs) (set-set xs i j x y (suc-apart i j apart))

-- a line that was made

pub record IsLine (now : Standing) (client : ℕ) (o : Option Step) (next : Standing) : Type 0 where
  pub line : Step
  pub is : o ≡ Some line
  pub can : can_be_made now line ≡ true
  pub after : after_line now client line ≡ next

pub line-made : (now : Standing) (client : ℕ) (o : Option Step) (next : Standing) → made_line now client o ≡ Some next → IsLine now client o next
line-made now client None next goes = absurd (cc)
line-made now client (Some step) next goes = by (can_be_made now step) refl goes
  where
    by : (b : Bool) → can_be_made now step ≡ b → (if b then Some (after_line now client step) else None) ≡ Some next → IsLine now client (Some step) next
    by true can goes = record { line = step; is = refl; can = can; after = same_Some (after_line now client step) next goes }
    by false can goes = absurd (cc)

-- what is known of a line that can be made

abbrev accepted : Standing → Step → Bool
accepted now line = not (line.waits && is_refused (answer_now now.history line.command))

due-made : (now : Standing) (line : Step) → can_be_made now line ≡ true → is_due now.made line.after ≡ true
due-made now line can = (and_parts (is_due now.made line.after) (accepted now line) can).0

accepted-made : (now : Standing) (line : Step) → can_be_made now line ≡ true → accepted now line ≡ true
accepted-made now line can = (and_parts (is_due now.made line.after) (accepted now line) can).1

not-true : (b : Bool) → not b ≡ true → b ≡ false
not-true true is = absurd (false≢true is)
not-true false is = refl

-- a `wait` that is made is accepted
passes-made : (w : World) (c : Command) (waits : Bool) → IsPatient c waits → not (waits && is_refused (answer_to w c)) ≡ true → Passes w c
passes-made w (command.Wait f) waits patient can =
    not-true (is_refused (answer_to w (command.Wait f))) (ap (λ b. not (b && is_refused (answer_to w (command.Wait f)))) (sym patient) ∙ can)
passes-made w _ waits patient can = tt

-- lines that lead forward: a line that is due stays so

pub goes-forward : (line : Step) (place : ℕ) (given : Answer) → LeadsForward place line → place < place_after line place given
goes-forward line place given forward = by line.branch forward
  where
    taken : (b : Branching) (r : Bool) → place < b.otherwise → place < (if r then place + 1 else b.otherwise)
    taken b true ahead = omega arith
    taken b false ahead = ahead

    by : (o : Option Branching) → IfSome o (λ (b : Branching). place < b.otherwise) → place < place_by o place given
    by None forward = omega arith
    by (Some b) forward = taken b (is_taken b given) forward

place-later : (made : List ℕ) (client place other : ℕ) → get_or made client 0 ≤ place → get_or made other 0 ≤ get_or (set made client place) other 0
place-later [] client place other later = omega arith
place-later (x ∷ made) zero place zero later = later
place-later (x ∷ made) zero place (suc other) later = omega arith
place-later (x ∷ made) (suc client) place zero later = omega arith
place-later (x ∷ made) (suc client) place (suc other) later = place-later made client place other later

due-later : (made : List ℕ) (client place : ℕ) (o : Option Milestone) → get_or made client 0 ≤ place → is_due made o ≡ true → is_due (set made client place) o ≡ true
due-later made client place None later due = refl
due-later made client place (Some m) later due =
    let before = place-later made client place m.client later in
    let past = ltb-true m.place (get_or made m.client 0) due in
    lt-ltb m.place (get_or (set made client place) m.client 0) (omega (arith, before, past))

due-after : (now : Standing) (client : ℕ) (line : Step) (o : Option Milestone) → LeadsForward (made_by now client) line → is_due now.made o ≡ true → is_due (after_line now client line).made o ≡ true
due-after now client line o forward due =
    let given = answer_now now.history line.command in
    let ahead = goes-forward line (made_by now client) given forward in
    due-later now.made client (place_after line (made_by now client) given) o (omega (arith, ahead)) due

-- so it can be made after the line of another client too, if it gets the same answer
can-after : (now : Standing) (client : ℕ) (line other : Step) → LeadsForward (made_by now client) line → answer_now (after_line now client line).history other.command ≡ answer_now now.history other.command
    → can_be_made now other ≡ true → can_be_made (after_line now client line) other ≡ true
can-after now client line other forward same can =
    let later = after_line now client line in
    and_from (is_due later.made other.after) (accepted later other) (due-after now client line other.after forward (due-made now other can))
    (ap (λ given. not (other.waits && is_refused given)) same ∙ accepted-made now other can)

-- alike standings answer alike along a schedule

pub record LeadsAlike (asked : List ℕ → Bool) (plan : Lines) (from other : Standing) (clients : Schedule) (to : Standing) : Type 0 where
  pub last : Standing
  pub leads : Leads plan other clients last
  pub answers : answers_of plan other clients ≡ answers_of plan from clients
  pub alike : GoOnAlike asked to last

pub after-is : (plan : Lines) (now : Standing) (client : ℕ) (next : Standing) → after_one plan now client ≡ Some next → standing_after plan now client ≡ next
after-is plan now client next goes = ap (λ o. unwrap_or o now) goes

module _ {asked : List ℕ → Bool} {plan : Lines} (may : MayAsk asked plan) where
  answer-alike : (from other : Standing) (client : ℕ) (next : Standing) → IsSound (world_of from.history) → GoOnAlike asked from other → after_one plan from client ≡ Some next
      → answer_of other client (next_line plan other client) ≡ answer_of from client (next_line plan from client)
  answer-alike from other client next sound g goes =
      let l = line-made from client (next_line plan from client) next goes in
      ap (answer_of other client) (sym (next-same may g sound client) ∙ l.is)
      ∙ ap (λ made. record { client = client; place = get_or made client 0; answer = answer_now other.history l.line.command } ∷ []) (sym g.made)
      ∙ ap (λ given. record { client = client; place = made_by from client; answer = given } ∷ []) (sym (answer-same may g sound l.line (asks-next may g sound client l.line l.is)))
      ∙ ap (answer_of from client) (sym l.is)

  pub leads-alike : (clients : Schedule) (from other to : Standing) → IsSound (world_of from.history) → GoOnAlike asked from other → Leads plan from clients to → LeadsAlike asked plan from other clients to
  leads-alike [] from other to sound g leads = subst (λ (s : Standing). LeadsAlike asked plan from other [] s) leads (record { last = other; leads = refl; answers = refl; alike = g })
  leads-alike (client ∷ clients) from other to sound g leads =
      let there = one-alike may g sound client leads.0 leads.1 in
      let rest = leads-alike clients leads.0 there.0 to (sound-made from client (next_line plan from client) leads.0 leads.1 sound) there.2 leads.2 in
      record {
        last = rest.last;
        leads = (there.0, there.1, rest.leads);
        answers =
            ap (λ s. answer_of other client (next_line plan other client) ++ answers_of plan s clients) (after-is plan other client there.0 there.1)
            ∙ ap (λ more. answer_of other client (next_line plan other client) ++ more) rest.answers
            ∙ ap (λ more. more ++ answers_of plan leads.0 clients) (answer-alike from other client leads.0 sound g leads.1)
            ∙ ap (λ s. answer_of from client (next_line plan from client) ++ answers_of plan s clients) (sym (after-is plan from client leads.0 leads.1));
        alike = rest.alike;
      }

-- a line before one other line

record AreSwapped (asked : List ℕ → Bool) (plan : Lines) (now : Standing) (client : ℕ) (step : Step) (other : ℕ) (line : Step) : Type 0 where
  next : next_line plan (after_line now other line) client ≡ Some step
  answer : answer_now (after_line now other line).history step.command ≡ answer_now now.history step.command
  line_next : next_line plan (after_line now client step) other ≡ Some line
  line_answer : answer_now (after_line now client step).history line.command ≡ answer_now now.history line.command
  alike : GoOnAlike asked (after_line (after_line now other line) client step) (after_line (after_line now client step) other line)

module _ (asked : List ℕ → Bool) (now : Standing) (c d : Command) (commutes : Commute asked (world_of now.history) c d) where
  answer-before : answer_now (history_with now.history d) c ≡ answer_now now.history c
  answer-before = ap (λ w. answer_to w c) (world-with now.history d) ∙ commutes.first

  answer-after : answer_now (history_with now.history c) d ≡ answer_now now.history d
  answer-after = ap (λ w. answer_to w d) (world-with now.history c) ∙ commutes.second

  world-both : (a b : Command) → world_of (history_with (history_with now.history a) b) ≡ after_answer (after_answer (world_of now.history) a) b
  world-both a b = world-with (history_with now.history a) b ∙ ap (λ w. after_answer w b) (world-with now.history a)

  worlds-swapped : AreAlike asked (world_of (history_with (history_with now.history d) c)) (world_of (history_with (history_with now.history c) d))
  worlds-swapped =
      subst (λ w. AreAlike asked w (world_of (history_with (history_with now.history c) d))) (sym (world-both d c))
      (subst (λ w. AreAlike asked (after_answer (after_answer (world_of now.history) d) c) w) (sym (world-both c d)) commutes.worlds)

apart-from : (i j : ℕ) → j ≢ i → i ≢ j
apart-from i j apart = λ is. apart (sym is)

swapped : (asked : List ℕ → Bool) (plan : Lines) (now : Standing) (client : ℕ) (step : Step) (other : ℕ) (line : Step)
    → next_line plan now client ≡ Some step → next_line plan now other ≡ Some line → other ≢ client → Commute asked (world_of now.history) step.command line.command
    → AreSwapped asked plan now client step other line
swapped asked plan now client step other line next next' apart commutes =
    let place = place_after line (made_by now other) (answer_now now.history line.command) in
    let place' = place_after step (made_by now client) (answer_now now.history step.command) in
    let kept = get_or-set_other now.made other client place 0 (apart-from client other apart) in
    let kept' = get_or-set_other now.made client other place' 0 apart in
    let before = answer-before asked now step.command line.command commutes in
    let behind = answer-after asked now step.command line.command commutes in
    record {
      next = ap (slice_get (lines_of plan client)) kept ∙ next;
      answer = before;
      line_next = ap (slice_get (lines_of plan other)) kept' ∙ next';
      line_answer = behind;
      alike = record {
        made =
            ap (λ k. set (set now.made other place) client (place_after step k (answer_now (history_with now.history line.command) step.command))) kept
            ∙ ap (λ given. set (set now.made other place) client (place_after step (made_by now client) given)) before
            ∙ set-set now.made other client place place' (apart-from client other apart)
            ∙ ap (λ given. set (set now.made client place') other (place_after line (made_by now other) given)) (sym behind)
            ∙ ap (λ k. set (set now.made client place') other (place_after line k (answer_now (history_with now.history step.command) line.command))) (sym kept');
        worlds = worlds-swapped asked now step.command line.command commutes;
      };
    }

-- a line before all lines of a schedule

module _ {asked : List ℕ → Bool} {plan : Lines} (may : MayAsk asked plan) (client : ℕ) (step : Step) (patient : IsPatient step.command step.waits) where
  go-nowhere : (now : Standing) → next_line plan now client ≡ Some step → can_be_made now step ≡ true → MayGoFirst asked plan client step now [] now
  go-nowhere now next can = record {
    next = next;
    can = can;
    answer = refl;
    last = after_line now client step;
    leads = refl;
    answers = refl;
    alike = record { made = refl; worlds = alike-itself asked (world_of (after_line now client step).history) };
  }

  -- the client goes before the first other, and then before the rest
  go-before : (now : Standing) (other : ℕ) (line : Step) (others : Schedule) (later : Standing) → other ≢ client → can_be_made now line ≡ true → next_line plan now other ≡ Some line
      → LeadsForward (made_by now client) step → IsSound (world_of now.history) → AreSwapped asked plan now client step other line → MayGoFirst asked plan client step (after_line now other line) others later
      → MayGoFirst asked plan client step now (other ∷ others) later
  go-before now other line others later apart can next' forward sound s rest =
      let first = after_line now client step in
      let second = after_line now other line in
      let both = after_line first other line in
      let can' : can_be_made first line ≡ true = can-after now client step line forward s.line_answer can in
      let goes : after_one plan first other ≡ Some both = ap (made_line first other) s.line_next ∙ ap (λ b. if b then Some both else None) can' in
      let goes' : after_one plan now other ≡ Some second = ap (made_line now other) next' ∙ ap (λ b. if b then Some second else None) can in
      let kept = get_or-set_other now.made client other (place_after step (made_by now client) (answer_now now.history step.command)) 0 apart in
      let same : answer_of first other (next_line plan first other) ≡ answer_of now other (next_line plan now other) =
      ap (answer_of first other) s.line_next
      ∙ ap (λ place. record { client = other; place = place; answer = answer_now first.history line.command } ∷ []) kept
      ∙ ap (λ given. record { client = other; place = made_by now other; answer = given } ∷ []) s.line_answer
      ∙ ap (answer_of now other) (sym next') in
      let a = leads-alike may others (after_line second client step) both rest.last (sound-with second.history step.command (sound-with now.history line.command sound)) s.alike rest.leads in
      record {
        next = rest.next;
        can = rest.can;
        answer = rest.answer ∙ s.answer;
        last = a.last;
        leads = (both, goes, a.leads);
        answers =
            ap (λ n. answer_of first other (next_line plan first other) ++ answers_of plan n others) (after-is plan first other both goes)
            ∙ ap (λ more. answer_of first other (next_line plan first other) ++ more) (a.answers ∙ rest.answers)
            ∙ ap (λ more. more ++ answers_of plan second others) same
            ∙ ap (λ n. answer_of now other (next_line plan now other) ++ answers_of plan n others) (sym (after-is plan now other second goes'));
        alike = go-on-trans rest.alike a.alike;
      }

  pub go-first : (bounds : Bounds) (others : Schedule) (now later : Standing) → next_line plan now client ≡ Some step → can_be_made now step ≡ true → LeadsForward (made_by now client) step → IsSound (world_of now.history)
      → AllGoBeside asked bounds plan client step.command now others → Leads plan now others later → MayGoFirst asked plan client step now others later
  go-first bounds [] now later next can forward sound beside leads = subst (λ (s : Standing). MayGoFirst asked plan client step now [] s) leads (go-nowhere now next can)
  go-first bounds (other ∷ others) now later next can forward sound beside leads =
      let l = line-made now other (next_line plan now other) leads.0 leads.1 in
      let one = beside.0 in
      let passes = passes-made (world_of now.history) step.command step.waits patient (accepted-made now step can) in
      let passes' = passes-made (world_of now.history) l.line.command l.line.waits (one.patient l.line l.is) (accepted-made now l.line l.can) in
      let s = swapped asked plan now client step other l.line next l.is one.apart
      (commute asked bounds (world_of now.history) step.command l.line.command one.roomy one.within (one.independent l.line l.is) passes passes') in
      let kept = get_or-set_other now.made other client (place_after l.line (made_by now other) (answer_now now.history l.line.command)) 0 (apart-from client other one.apart) in
      let rest = go-first bounds others (after_line now other l.line) later s.next (can-after now other l.line step (one.forward l.line l.is) s.answer can)
      (subst (λ place. LeadsForward place step) (sym kept) forward) (sound-with now.history l.line.command sound)
      (subst (λ (n : Standing). AllGoBeside asked bounds plan client step.command n others) (after-is plan now other leads.0 leads.1 ∙ sym l.after) beside.1)
      (subst (λ (n : Standing). Leads plan n others later) (sym l.after) leads.2) in
      go-before now other l.line others later one.apart l.can l.is forward sound s rest
