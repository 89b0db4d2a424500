-- Who is inside a block along a schedule, and schedules that count as another does.
use Rattle.std.proofs.Common.{◌≡◌, ◌≢◌, ℕ, zero, suc, ◌==◌, Bool, true, false, not, ◌&&◌, ◌||◌, refl, sym, ap, ◌∙◌, subst, List, [], ◌∷◌, ◌++◌, length, get_or, map, set, slice_get, unwrap_or, Option, None, Some, is_none, if◌then◌else◌, arith, inl, inr}
use Rattle.std.specs.Prelude.{All, Vec}
use Rattle.std.specs.Global.{Global}
use Rattle.std.proofs.lemmas.Bool.{and_parts, cases_Bool, eq-eqb, eqb-true, false≢true}
use Rattle.std.proofs.lemmas.List.{get_or-set_other, length-set}
use Rattle.std.proofs.lemmas.List.Elements.{All-cons, All-head, All-map, All-nil, All-tail}
use Rattle.std.proofs.lemmas.Option.{none-some, same_Some}
use Rattle.command_core.specs.declared.answer.Answer.{Answer}
use Rattle.desk_core.specs.Sound.{IsSound}
use Rattle.desk_core.specs.theorem.Answer.{is_refused}
use Rattle.desk_core.specs.theorem.History.{world_of}
use Rattle.explore_core.specs.declared.plan.Milestone.{Milestone}
use Rattle.explore_core.specs.declared.plan.Step.{Step}
use Rattle.explore_core.specs.Blocks.{ArePrompt, NeverWaits, is_prompt}
use Rattle.explore_core.specs.Covering.{GoOnAlike, MayAsk}
use Rattle.explore_core.specs.Expects.{is_expected}
use Rattle.explore_core.specs.Levels.{Gives, IsOutside}
use Rattle.explore_core.specs.Moving.{LineAnswer, answer_of, answers_of}
use Rattle.explore_core.specs.Schedule.{Counts, GoesOn, IsLast, Leads, Lines, MayGo, Schedule, Standing, after_line, after_one, answer_now, can_be_made, is_in_block, is_joined, lines_of, made_by, made_line, next_line, place_after, is_due}
use Rattle.explore_core.proofs.Covering.{answer-same, asks-next, can-same, next-same}
use Rattle.explore_core.proofs.Moving.{after-is, line-made}
use Rattle.explore_core.proofs.Racing.{all-at}

-- nobody, or one client, is inside a block

abbrev pub IsOneInside : Lines → Standing → Type 0
IsOneInside plan now = (client : ℕ) → is_in_block plan now.made client ≡ true → MayGo plan now.made client

pub in-block-other : (plan : Lines) (made : List ℕ) (client place other : ℕ) → other ≢ client → is_in_block plan (set made client place) other ≡ is_in_block plan made other
in-block-other plan made client place other apart =
    ap (λ k. is_joined (slice_get (lines_of plan other) k)) (get_or-set_other made client other place 0 apart)

-- the client that went last is the only one that may be inside
one-set : (plan : Lines) (now : Standing) (client place : ℕ) → MayGo plan now.made client → (k : ℕ) → is_in_block plan (set now.made client place) k ≡ true → MayGo plan (set now.made client place) k
one-set plan now client place may k inside = elim (cases_Bool (k == client)) [
  | inl is ↦ (
      let same = eqb-true k client is in
      λ other apart.
      let foreign : other ≢ client = λ at. apart (at ∙ sym same) in
      in-block-other plan now.made client place other foreign ∙ may other foreign)
  | inr isnt ↦ (
      let foreign : k ≢ client = λ at. false≢true (sym isnt ∙ eq-eqb k client at) in
      absurd (false≢true (sym (in-block-other plan now.made client place k foreign ∙ may k foreign) ∙ inside)))
]

one-after : (plan : Lines) (now : Standing) (client : ℕ) (next : Standing) → after_one plan now client ≡ Some next → MayGo plan now.made client → IsOneInside plan next
one-after plan now client next goes may =
    let l = line-made now client (next_line plan now client) next goes in
    subst (IsOneInside plan) l.after (one-set plan now client (place_after l.line (made_by now client) (answer_now now.history l.line.command)) may)

pub one-along : (plan : Lines) (schedule : Schedule) (from to : Standing) → Leads plan from schedule to → Counts plan from schedule → IsOneInside plan from → IsOneInside plan to
one-along plan [] from to leads counts one = subst (IsOneInside plan) leads one
one-along plan (client ∷ schedule) from to leads counts one =
    one-along plan schedule leads.0 to leads.2 (counts.1 leads.0 leads.1) (one-after plan from client leads.0 leads.1 counts.0.may)

-- a client that never waits inside a block gets out of it

client-prompt : (clients : List (List Step)) (client : ℕ) → All ArePrompt clients → ArePrompt (unwrap_or (slice_get clients client) [])
client-prompt [] client all = refl
client-prompt (lines ∷ clients) zero all = All-head ArePrompt lines clients all
client-prompt (lines ∷ clients) (suc client) all = client-prompt clients client (All-tail ArePrompt lines clients all)

pub never-waits : (plan : Lines) (clients : List (Vec Step Global)) → map (λ (lines : Vec Step Global). lines.items) clients ≡ plan.clients → All (λ (lines : Vec Step Global). ArePrompt lines.items) clients → NeverWaits plan
never-waits plan clients are all = λ client. client-prompt plan.clients client (subst (All ArePrompt) are (All-map ArePrompt (λ (lines : Vec Step Global). lines.items) clients all))

joined-line : (o : Option Step) → is_joined o ≡ true → (step : Step) × (o ≡ Some step) × (step.joined ≡ true)
joined-line None is = absurd (false≢true is)
joined-line (Some step) is = (step, refl, is)

none-is : (o : Option Milestone) → is_none o ≡ true → o ≡ None
none-is None is = refl
none-is (Some m) is = absurd (false≢true is)

not-waits : (waits : Bool) → not waits ≡ true → waits ≡ false
not-waits true is = absurd (false≢true is)
not-waits false is = refl

prompt-can : (now : Standing) (step : Step) → is_prompt step ≡ true → step.joined ≡ true → can_be_made now step ≡ true
prompt-can now step prompt joined =
    let parts = and_parts (not step.waits) (is_none step.after) (sym (ap (λ b. not b || (not step.waits && is_none step.after)) joined) ∙ prompt) in
    ap (λ o. is_due now.made o && not (step.waits && is_refused (answer_now now.history step.command))) (none-is step.after parts.1)
    ∙ ap (λ b. not (b && is_refused (answer_now now.history step.command))) (not-waits step.waits parts.0)

pub outside-last : (plan : Lines) (now : Standing) → NeverWaits plan → IsOneInside plan now → IsLast plan now → IsOutside plan now
outside-last plan now never one last client = elim (cases_Bool (is_in_block plan now.made client)) [
  | inr isnt ↦ isnt
  | inl inside ↦ (
      let line = joined-line (next_line plan now client) inside in
      let prompt : is_prompt line.0 ≡ true = all-at is_prompt (lines_of plan client) (made_by now client) line.0 (never client) line.1 in
      let goes : after_one plan now client ≡ Some (after_line now client line.0) =
      ap (made_line now client) line.1 ∙ ap (λ b. if b then Some (after_line now client line.0) else None) (prompt-can now line.0 prompt line.2) in
      absurd (none-some (after_line now client line.0) (sym (last client (one client inside)) ∙ goes)))
]

-- standings where all clients but the chosen ones are at the same lines, and no chosen one is inside a block

abbrev pub first-given : Answer → List LineAnswer → Answer
first-given given [] = given
first-given given (a ∷ rest) = a.answer

abbrev pub behind-first : List LineAnswer → List LineAnswer
behind-first [] = []
behind-first (a ∷ rest) = rest

set-same : (xs ys : List ℕ) (i j x : ℕ) → length xs ≡ length ys → get_or xs j 0 ≡ get_or ys j 0 → get_or (set xs i x) j 0 ≡ get_or (set ys i x) j 0
set-same [] [] i j x size same = refl
set-same [] (y ∷ ys) i j x size same = absurd (omega (arith, size))
set-same (z ∷ xs) [] i j x size same = absurd (omega (arith, size))
set-same (z ∷ xs) (y ∷ ys) zero zero x size same = refl
set-same (z ∷ xs) (y ∷ ys) zero (suc j) x size same = same
set-same (z ∷ xs) (y ∷ ys) (suc i) zero x size same = same
set-same (z ∷ xs) (y ∷ ys) (suc i) (suc j) x size same = set-same xs ys i j x (omega (arith, size)) same

pub record IsBeside (plan : Lines) (chosen : ℕ → Bool) (now other : Standing) : Type 0 where
  pub size : length now.made ≡ length other.made
  pub same : (client : ℕ) → chosen client ≡ false → made_by now client ≡ made_by other client
  pub outside : (client : ℕ) → chosen client ≡ true → is_in_block plan other.made client ≡ false

pub may-beside : {plan : Lines} {chosen : ℕ → Bool} {now other : Standing} → IsBeside plan chosen now other → (client : ℕ) → MayGo plan now.made client → MayGo plan other.made client
may-beside {plan} {chosen} b client may = λ k apart. elim (cases_Bool (chosen k)) [
  | inl is ↦ b.outside k is
  | inr isnt ↦ subst (λ place. is_joined (slice_get (lines_of plan k) place) ≡ false) (b.same k isnt) (may k apart)
]

apart-chosen : (chosen : ℕ → Bool) (j k : ℕ) → chosen j ≡ true → chosen k ≡ false → j ≢ k
apart-chosen chosen j k is isnt = λ same. false≢true (sym isnt ∙ sym (ap chosen same) ∙ is)

module _ {plan : Lines} {chosen : ℕ → Bool} where
  -- the same line with the same answer
  line-beside : (now other : Standing) (client : ℕ) (line : Step) → IsBeside plan chosen now other → chosen client ≡ false → answer_now other.history line.command ≡ answer_now now.history line.command
      → IsBeside plan chosen (after_line now client line) (after_line other client line)
  line-beside now other client line b isnt given =
      let place = place_after line (made_by now client) (answer_now now.history line.command) in
      let place' = place_after line (made_by other client) (answer_now other.history line.command) in
      let moved : place ≡ place' =
      ap (λ p. place_after line p (answer_now now.history line.command)) (b.same client isnt) ∙ ap (place_after line (made_by other client)) (sym given) in
      record {
        size = length-set now.made client place ∙ b.size ∙ sym (length-set other.made client place');
        same = λ k isnt'. set-same now.made other.made client k place b.size (b.same k isnt') ∙ ap (λ p. get_or (set other.made client p) k 0) moved;
        outside = λ k is. in-block-other plan other.made client place' k (apart-chosen chosen k client is isnt) ∙ b.outside k is;
      }

  -- so a schedule that counts from one counts from the other, if it gives the same answers
  pub counts-beside : (schedule : Schedule) (now other to there : Standing) → IsBeside plan chosen now other → All (λ k. chosen k ≡ false) schedule → answers_of plan other schedule ≡ answers_of plan now schedule
      → Leads plan now schedule to → Leads plan other schedule there → Counts plan now schedule → Counts plan other schedule × IsBeside plan chosen to there
  counts-beside [] now other to there b unchosen same leads leads' counts =
      (tt, subst (λ (s : Standing). IsBeside plan chosen to s) leads' (subst (λ (s : Standing). IsBeside plan chosen s other) leads b))
  counts-beside (client ∷ schedule) now other to there b unchosen same leads leads' counts =
      let isnt = All-head (λ k. chosen k ≡ false) client schedule unchosen in
      let l = line-made now client (next_line plan now client) leads.0 leads.1 in
      let l' = line-made other client (next_line plan other client) leads'.0 leads'.1 in
      let next' : next_line plan other client ≡ Some l.line = ap (slice_get (lines_of plan client)) (sym (b.same client isnt)) ∙ l.is in
      let line : l'.line ≡ l.line = same_Some l'.line l.line (sym l'.is ∙ next') in
      let rest = answers_of plan leads.0 schedule in
      let rest' = answers_of plan leads'.0 schedule in
      let first : LineAnswer = record { client = client; place = made_by now client; answer = answer_now now.history l.line.command } in
      let first' : LineAnswer = record { client = client; place = made_by other client; answer = answer_now other.history l.line.command } in
      let all : answers_of plan now (client ∷ schedule) ≡ first ∷ rest =
      ap (λ n. answer_of now client (next_line plan now client) ++ answers_of plan n schedule) (after-is plan now client leads.0 leads.1)
      ∙ ap (λ o. answer_of now client o ++ rest) l.is in
      let all' : answers_of plan other (client ∷ schedule) ≡ first' ∷ rest' =
      ap (λ n. answer_of other client (next_line plan other client) ++ answers_of plan n schedule) (after-is plan other client leads'.0 leads'.1)
      ∙ ap (λ o. answer_of other client o ++ rest') next' in
      let both : first' ∷ rest' ≡ first ∷ rest = sym all' ∙ same ∙ all in
      let given : answer_now other.history l.line.command ≡ answer_now now.history l.line.command = ap (first-given first.answer) both in
      let after' : after_line other client l.line ≡ leads'.0 = ap (after_line other client) (sym line) ∙ l'.after in
      let beside : IsBeside plan chosen leads.0 leads'.0 =
      subst (λ (s : Standing). IsBeside plan chosen leads.0 s) after' (subst (λ (s : Standing). IsBeside plan chosen s (after_line other client l.line)) l.after (line-beside now other client l.line b isnt given)) in
      let more = counts-beside schedule leads.0 leads'.0 to there beside (All-tail (λ k. chosen k ≡ false) client schedule unchosen) (ap behind-first both) leads.2 leads'.2 (counts.1 leads.0 leads.1) in
      let on : GoesOn plan other client = record {
        may = may-beside b client counts.0.may;
        expected = λ step is.
            let same_line : l.line ≡ step = same_Some l.line step (sym next' ∙ is) in
            subst (λ (s : Step). is_expected (answer_now other.history s.command) s.expects ≡ true) same_line (ap (λ a. is_expected a l.line.expects) given ∙ counts.0.expected l.line l.is);
      } in (
        (on, λ next is. subst (λ (s : Standing). Counts plan s schedule) (same_Some leads'.0 next (sym leads'.1 ∙ is)) more.0),
        more.1,
      )

-- standings that go on alike

everyone : (schedule : Schedule) → All (λ k. false ≡ false) schedule
everyone [] = All-nil (λ k. false ≡ false)
everyone (client ∷ schedule) = All-cons (λ k. false ≡ false) client schedule refl (everyone schedule)

pub counts-alike : {asked : List ℕ → Bool} (plan : Lines) (schedule : Schedule) (now other to there : Standing) → GoOnAlike asked now other → answers_of plan other schedule ≡ answers_of plan now schedule
    → Leads plan now schedule to → Leads plan other schedule there → Counts plan now schedule → Counts plan other schedule
counts-alike {asked} plan schedule now other to there g same leads leads' counts =
    let beside : IsBeside plan (λ k. false) now other = record {
      size = ap length g.made;
      same = λ client isnt. ap (λ (made : List ℕ). get_or made client 0) g.made;
      outside = λ client is. absurd (false≢true is);
    } in
    (counts-beside schedule now other to there beside (everyone schedule) same leads leads' counts).0

pub gives-alike : {asked : List ℕ → Bool} {plan : Lines} {now other : Standing} → MayAsk asked plan → GoOnAlike asked now other → IsSound (world_of now.history) → (a : LineAnswer) → Gives plan now a → Gives plan other a
gives-alike {asked} {plan} {now} {other} may g sound a gives =
    let given = gives.given in
    let asks = asks-next may g sound a.client given.step given.next in
    record {
      may = subst (λ (made : List ℕ). MayGo plan made a.client) g.made gives.may;
      given = record {
        at = ap (λ (made : List ℕ). get_or made a.client 0) (sym g.made) ∙ given.at;
        step = given.step;
        next = sym (next-same may g sound a.client) ∙ given.next;
        made = sym (can-same may g sound given.step asks) ∙ given.made;
        answer = given.answer ∙ answer-same may g sound given.step asks;
      };
    }
