-- A chosen client goes first: from where its line leads to, the rest of the schedule gives the other answers.
use Rattle.std.proofs.Common.{◌≡◌, ℕ, ◌+◌, Bool, true, false, refl, sym, ap, ◌∙◌, subst, List, [], ◌∷◌, ◌++◌, append_assoc, length, length-append, slice_get, None, Some, arith, if◌then◌else◌, inl, inr, ◌==◌}
use Rattle.std.specs.Prelude.{◌⊎◌, All}
use Rattle.std.proofs.lemmas.List.Elements.{All-cons, All-nil, All-push}
use Rattle.std.proofs.lemmas.Option.{none-some, same_Some}
use Rattle.std.proofs.lemmas.Bool.{cases_Bool, eq-eqb, eqb-true, false≢true}
use Rattle.std.proofs.lemmas.List.{get_or-set_other, length-set}
use Rattle.desk_core.specs.Sound.{IsSound}
use Rattle.desk_core.specs.theorem.History.{world_of}
use Rattle.explore_core.specs.Access.{RaceAt}
use Rattle.explore_core.specs.Blocks.{NeverWaits}
use Rattle.explore_core.specs.Covering.{GoOnAlike, MayAsk}
use Rattle.explore_core.specs.declared.plan.Step.{Step}
use Rattle.explore_core.specs.Independence.{Bounds}
use Rattle.explore_core.specs.Levels.{Gives, IsOutside}
use Rattle.explore_core.specs.Moving.{LineAnswer, MayGoFirst, answer_of, answers_of}
use Rattle.explore_core.specs.Persistent.{Choice, IsCalm, IsFree, IsPersistent}
use Rattle.explore_core.specs.Schedule.{ComesTo, Counts, GoesOn, IsLast, Leads, Lines, MayGo, Schedule, Standing, after_line, after_one, answer_now, beginning, can_be_made, is_in_block, lines_of, made_by, made_line, next_line, place_after}
use Rattle.explore_core.specs.Search.{IsOnward, LetsOthers}
use Rattle.explore_core.proofs.Blocks.{IsBeside, behind-first, counts-alike, counts-beside, first-given, gives-alike, in-block-other, may-beside, one-along, outside-last}
use Rattle.explore_core.proofs.Covering.{sound-made}
use Rattle.explore_core.proofs.Moving.{after-is, leads-alike, line-made}
use Rattle.explore_core.proofs.Persistent.{stand-still}
use Rattle.explore_core.proofs.Racing.{race-kept}
use Rattle.explore_core.proofs.Scheduling.{Counts-append, Counts-split, Leads-is, Leads-push, Leads-split, after-answers, sound-leads}

-- a schedule up to its first chosen client

pub record FirstChosen (chosen : ℕ → Bool) (schedule : Schedule) : Type 0 where
  pub others : Schedule
  pub client : ℕ
  pub rest : Schedule
  pub is : schedule ≡ others ++ client ∷ rest
  pub unchosen : All (λ k. chosen k ≡ false) others
  pub one : chosen client ≡ true

pub parted : (chosen : ℕ → Bool) (schedule : Schedule) → All (λ k. chosen k ≡ false) schedule ⊎ FirstChosen chosen schedule
parted chosen [] = inl (All-nil (λ k. chosen k ≡ false))
parted chosen (k ∷ schedule) = by (chosen k) refl (parted chosen schedule)
  where
    by : (b : Bool) → chosen k ≡ b → All (λ k. chosen k ≡ false) schedule ⊎ FirstChosen chosen schedule → All (λ k. chosen k ≡ false) (k ∷ schedule) ⊎ FirstChosen chosen (k ∷ schedule)
    by true is rest = inr (record { others = []; client = k; rest = schedule; is = refl; unchosen = All-nil (λ k. chosen k ≡ false); one = is })
    by false isnt (inl all) = inl (All-cons (λ k. chosen k ≡ false) k schedule isnt all)
    by false isnt (inr f) = inr (record {
      others = k ∷ f.others;
      client = f.client;
      rest = f.rest;
      is = ap (λ ks. k ∷ ks) f.is;
      unchosen = All-cons (λ k. chosen k ≡ false) k f.others isnt f.unchosen;
      one = f.one;
    })

-- one schedule after another

pub Leads-append : (plan : Lines) (a b : Schedule) (from mid to : Standing) → Leads plan from a mid → Leads plan mid b to → Leads plan from (a ++ b) to
Leads-append plan [] b from mid to leads more = subst (λ (s : Standing). Leads plan s b to) (sym leads) more
Leads-append plan (k ∷ a) b from mid to leads more = (leads.0, leads.1, Leads-append plan a b leads.0 mid to leads.2 more)

pub answers-append : (plan : Lines) (a b : Schedule) (from mid : Standing) → Leads plan from a mid → answers_of plan from (a ++ b) ≡ answers_of plan from a ++ answers_of plan mid b
answers-append plan [] b from mid leads = ap (λ s. answers_of plan s b) leads
answers-append plan (k ∷ a) b from mid leads =
    let one = answer_of from k (next_line plan from k) in
    let is = after-is plan from k leads.0 leads.1 in
    ap (λ s. one ++ answers_of plan s (a ++ b)) is
    ∙ ap (λ more. one ++ more) (answers-append plan a b leads.0 mid leads.2)
    ∙ sym (append_assoc one (answers_of plan leads.0 a) (answers_of plan mid b))
    ∙ ap (λ s. (one ++ answers_of plan s a) ++ answers_of plan mid b) (sym is)

same-behind : (before more other : List LineAnswer) → before ++ more ≡ before ++ other → more ≡ other
same-behind [] more other same = same
same-behind (a ∷ before) more other same = same-behind before more other (ap behind-first same)

-- from a later standing each world is as calm
pub calm-later : (plan : Lines) (schedule : Schedule) (now : Standing) → IsCalm plan (beginning plan) → ComesTo plan schedule now → IsCalm plan now
calm-later plan schedule now calm comes more later leads = calm (schedule ++ more) later (Leads-append plan schedule more (beginning plan) now later comes.leads leads)

-- A client's line, and then the rest of a schedule, which counts. What is answered where the schedule leads is answered behind the rest,
-- or was answered before, as a chosen client's line.

pub record FirstGoes (asked : List ℕ → Bool) (plan : Lines) (chosen : ℕ → Bool) (from : Standing) (schedule : Schedule) (last : Standing) : Type 0 where
  pub client : ℕ
  pub one : chosen client ≡ true
  pub on : GoesOn plan from client
  pub start : Standing
  pub goes : after_one plan from client ≡ Some start
  pub rest : Schedule
  pub to : Standing
  pub leads : Leads plan start rest to
  pub counts : Counts plan start rest
  pub answers : (a : LineAnswer) → Gives plan last a → ((chosen a.client ≡ true) × Gives plan from a) ⊎ Gives plan to a
  pub races : (one other : ℕ) → RaceAt plan last.made one other → RaceAt plan from.made one other ⊎ RaceAt plan to.made one other
  pub ends : IsLast plan last → (length schedule ≡ length rest + 1) × GoOnAlike asked last to

length-shorter : (others rest : Schedule) (client : ℕ) → length (others ++ client ∷ rest) ≡ length (others ++ rest) + 1
length-shorter others rest client = omega (arith, length-append {A = ℕ})

module _ {asked : List ℕ → Bool} {bounds : Bounds} {plan : Lines} (may : MayAsk asked plan) (now : Standing) (choice : Choice) (p : IsPersistent asked bounds plan now choice) (calm : IsCalm plan now) (sound : IsSound (world_of now.history))
    (never : NeverWaits plan) (outside : IsOutside plan now) (onward : (client : ℕ) → choice.chosen client ≡ true → IsOnward plan now client) where
  line-goes : (client : ℕ) (line : Step) → next_line plan now client ≡ Some line → can_be_made now line ≡ true → after_one plan now client ≡ Some (after_line now client line)
  line-goes client line is can = ap (made_line now client) is ∙ ap (λ b. if b then Some (after_line now client line) else None) can

  -- nobody is inside a block before a chosen client's line, or behind it

  may-go : (client : ℕ) → MayGo plan now.made client
  may-go client = λ other apart. outside other

  lets-others : (client : ℕ) (line : Step) → choice.chosen client ≡ true → next_line plan now client ≡ Some line → can_be_made now line ≡ true → LetsOthers plan now client (after_line now client line)
  lets-others client line chosen is can = onward client chosen (may-go client) (after_line now client line) (line-goes client line is can)

  goes-on : (client : ℕ) (line : Step) → choice.chosen client ≡ true → next_line plan now client ≡ Some line → can_be_made now line ≡ true → GoesOn plan now client
  goes-on client line chosen is can = record { may = may-go client; expected = (lets-others client line chosen is can).expected }

  beside-first : (client : ℕ) (line : Step) → choice.chosen client ≡ true → next_line plan now client ≡ Some line → can_be_made now line ≡ true → IsBeside plan choice.chosen now (after_line now client line)
  beside-first client line chosen is can =
      let place = place_after line (made_by now client) (answer_now now.history line.command) in
      record {
        size = sym (length-set now.made client place);
        same = λ k isnt. sym (get_or-set_other now.made client k place 0 (λ same. false≢true (sym isnt ∙ ap choice.chosen same ∙ chosen)));
        outside = λ k chosen'. elim (cases_Bool (k == client)) [
          | inl same ↦ subst (λ c. is_in_block plan (after_line now client line).made c ≡ false) (sym (eqb-true k client same)) (lets-others client line chosen is can).outside
          | inr other ↦ in-block-other plan now.made client place k (λ same. false≢true (sym other ∙ eq-eqb k client same)) ∙ outside k
        ];
      }

  record Went (others : Schedule) (client : ℕ) (mid next : Standing) : Type 0 where
    line : Step
    is : next_line plan now client ≡ Some line
    is_later : next_line plan mid client ≡ Some line
    free : IsFree asked bounds plan now choice client line
    first : MayGoFirst asked plan client line now others mid
    place : made_by mid client ≡ made_by now client
    after : after_line mid client line ≡ next

  -- a chosen client that goes after others was free
  went : (others : Schedule) (client : ℕ) (mid next : Standing) → All (λ k. choice.chosen k ≡ false) others → choice.chosen client ≡ true → Leads plan now others mid → after_one plan mid client ≡ Some next
      → Went others client mid next
  went others client mid next unchosen chosen leads goes =
      let l = line-made mid client (next_line plan mid client) next goes in
      let st = stand-still may calm p.bounded p.stops others mid unchosen leads in
      let is : next_line plan now client ≡ Some l.line = ap (slice_get (lines_of plan client)) (sym (st.still client chosen)) ∙ l.is in
      elim (p.chosen client l.line chosen is) [
        | inl free ↦ record { line = l.line; is = is; is_later = l.is; free = free; first = st.free client l.line chosen is free; place = st.still client chosen; after = l.after }
        | inr held ↦ absurd (none-some next (sym (st.held client l.line chosen is held) ∙ goes))
      ]

  -- the first chosen client of a schedule goes before the others
  moved : (schedule : Schedule) (last : Standing) → Leads plan now schedule last → Counts plan now schedule → FirstChosen choice.chosen schedule → FirstGoes asked plan choice.chosen now schedule last
  moved schedule last leads counts f =
      let split = Leads-split plan now f.others (f.client ∷ f.rest) last (subst (λ (ks : Schedule). Leads plan now ks last) f.is leads) in
      let mid = split.0 in
      let next = split.2.0 in
      let w = went f.others f.client mid next f.unchosen f.one split.1 split.2.1 in
      let start = after_line now f.client w.line in
      let sound-mid = sound-leads plan now f.others mid split.1 sound in
      let sound-next : IsSound (world_of next.history) = sound-made mid f.client (next_line plan mid f.client) next split.2.1 sound-mid in
      let near : GoOnAlike asked next w.first.last = subst (λ (s : Standing). GoOnAlike asked s w.first.last) w.after w.first.alike in
      let r = leads-alike may f.rest next w.first.last last sound-next near split.2.2 in
      let parts = Counts-split plan now f.others (f.client ∷ f.rest) mid split.1 (subst (λ (ks : Schedule). Counts plan now ks) f.is counts) in
      let before = counts-beside f.others now start mid w.first.last (beside-first f.client w.line f.one w.is w.free.can) f.unchosen w.first.answers split.1 w.first.leads parts.0 in
      let behind = counts-alike plan f.rest next w.first.last last r.last near r.answers split.2.2 r.leads (parts.1.1 next split.2.1) in
      record {
        client = f.client;
        one = f.one;
        on = goes-on f.client w.line f.one w.is w.free.can;
        start = start;
        goes = line-goes f.client w.line w.is w.free.can;
        rest = f.others ++ f.rest;
        to = r.last;
        leads = Leads-append plan f.others f.rest start w.first.last r.last w.first.leads r.leads;
        counts = Counts-append plan start f.others f.rest w.first.last w.first.leads before.0 behind;
        answers = λ a gives. inr (gives-alike {other = r.last} may r.alike (sound-leads plan now schedule last leads sound) a gives);
        races = λ one other race. inr (subst (λ (made : List ℕ). RaceAt plan made one other) r.alike.made race);
        ends = λ end. (ap length f.is ∙ length-shorter f.others f.rest f.client, r.alike);
      }

  -- what a chosen client is answered behind lines of others, it is answered now
  answered-now : (schedule : Schedule) (last : Standing) → Leads plan now schedule last → All (λ k. choice.chosen k ≡ false) schedule → (a : LineAnswer) → choice.chosen a.client ≡ true → Gives plan last a → Gives plan now a
  answered-now schedule last leads unchosen a chosen gives =
      let given = gives.given in
      let still = stand-still may calm p.bounded p.stops schedule last unchosen leads in
      let next : next_line plan now a.client ≡ Some given.step = ap (slice_get (lines_of plan a.client)) (sym (still.still a.client chosen)) ∙ given.next in
      elim (p.chosen a.client given.step chosen next) [
        | inl free ↦ record {
          may = may-go a.client;
          given = record {
            at = sym (still.still a.client chosen) ∙ given.at;
            step = given.step;
            next = next;
            made = free.can;
            answer = given.answer ∙ (still.free a.client given.step chosen next free).answer;
          };
        }
        | inr held ↦ absurd (none-some (after_line last a.client given.step) (sym (still.held a.client given.step chosen next held) ∙ after-answers given))
      ]

  -- what another is answered behind lines of others, it is answered if a free client goes before them
  answered-behind : (schedule : Schedule) (last : Standing) → (leads : Leads plan now schedule last) → All (λ k. choice.chosen k ≡ false) schedule → (client : ℕ) (line : Step) → choice.chosen client ≡ true → next_line plan now client ≡ Some line
      → IsFree asked bounds plan now choice client line → (m : MayGoFirst asked plan client line now schedule last) → IsBeside plan choice.chosen last m.last → (a : LineAnswer) → choice.chosen a.client ≡ false → Gives plan last a → Gives plan m.last a
  answered-behind schedule last leads unchosen client line chosen is free m beside a isnt gives =
      let given = gives.given in
      let start = after_line now client line in
      let more : Schedule = a.client ∷ [] in
      let later = after_line last a.client given.step in
      let leads' = Leads-push plan now schedule last a.client later leads (after-answers given) in
      let still = stand-still may calm p.bounded p.stops (schedule ++ more) later (All-push (λ k. choice.chosen k ≡ false) schedule a.client unchosen isnt) leads' in
      let n = still.free client line chosen is free in
      let split = Leads-split plan start schedule more n.last n.leads in
      let same : split.0 ≡ m.last = Leads-is plan start schedule split.0 split.1 ∙ sym (Leads-is plan start schedule m.last m.leads) in
      let goes : after_one plan m.last a.client ≡ Some split.2.0 = ap (λ s. after_one plan s a.client) (sym same) ∙ split.2.1 in
      let next : next_line plan m.last a.client ≡ Some given.step = ap (slice_get (lines_of plan a.client)) (sym (beside.same a.client isnt)) ∙ given.next in
      let l = line-made m.last a.client (next_line plan m.last a.client) split.2.0 goes in
      let line-is : l.line ≡ given.step = same_Some l.line given.step (sym l.is ∙ next) in
      let given-last : LineAnswer = record { client = a.client; place = made_by last a.client; answer = answer_now last.history given.step.command } in
      let given-there : LineAnswer = record { client = a.client; place = made_by m.last a.client; answer = answer_now m.last.history given.step.command } in
      let all : answers_of plan now (schedule ++ more) ≡ answers_of plan now schedule ++ given-last ∷ [] =
      answers-append plan schedule more now last leads ∙ ap (λ o. answers_of plan now schedule ++ (answer_of last a.client o ++ [])) given.next in
      let all' : answers_of plan start (schedule ++ more) ≡ answers_of plan now schedule ++ given-there ∷ [] =
      answers-append plan schedule more start m.last m.leads ∙ ap (λ before. before ++ answers_of plan m.last more) m.answers
      ∙ ap (λ o. answers_of plan now schedule ++ (answer_of m.last a.client o ++ [])) next in
      let both : given-there ∷ [] ≡ given-last ∷ [] = same-behind (answers_of plan now schedule) (given-there ∷ []) (given-last ∷ []) (sym all' ∙ n.answers ∙ all) in
      let same-answer : answer_now m.last.history given.step.command ≡ answer_now last.history given.step.command = ap (first-given given-last.answer) both in
      record {
        may = may-beside beside a.client gives.may;
        given = record {
          at = sym (beside.same a.client isnt) ∙ given.at;
          step = given.step;
          next = next;
          made = subst (λ (s : Step). can_be_made m.last s ≡ true) line-is l.can;
          answer = given.answer ∙ sym same-answer;
        };
      }

  -- a client that is free goes before a schedule without chosen clients, behind which it could go
  added : (schedule : Schedule) (last : Standing) → Leads plan now schedule last → Counts plan now schedule → All (λ k. choice.chosen k ≡ false) schedule → FirstGoes asked plan choice.chosen now schedule last
  added schedule last leads counts unchosen =
      let client = p.goes.0 in
      let line = p.goes.2 in
      let still = stand-still may calm p.bounded p.stops schedule last unchosen leads in
      let m = still.free client line p.goes.1 p.goes.3 p.goes.4 in
      let can : can_be_made last line ≡ true = m.can in
      let goes : after_one plan last client ≡ Some (after_line last client line) = ap (made_line last client) m.next ∙ ap (λ b. if b then Some (after_line last client line) else None) can in
      let behind = counts-beside schedule now (after_line now client line) last m.last (beside-first client line p.goes.1 p.goes.3 p.goes.4.can) unchosen m.answers leads m.leads counts in
      record {
        client = client;
        one = p.goes.1;
        on = goes-on client line p.goes.1 p.goes.3 p.goes.4.can;
        start = after_line now client line;
        goes = line-goes client line p.goes.3 p.goes.4.can;
        rest = schedule;
        to = m.last;
        leads = m.leads;
        counts = behind.0;
        answers = λ a gives. elim (cases_Bool (choice.chosen a.client)) [
          | inl is ↦ inl (is, answered-now schedule last leads unchosen a is gives)
          | inr isnt ↦ inr (answered-behind schedule last leads unchosen client line p.goes.1 p.goes.3 p.goes.4 m behind.1 a isnt gives)
        ];
        races = λ one other race. elim (race-kept plan now last choice client line (answer_now last.history line.command) p.goes.1 still.still still.further p.goes.5 one other race) [
          | inl here ↦ inl here
          | inr behind ↦ inr (subst (λ (made : List ℕ). RaceAt plan made one other) m.alike.made behind)
        ];
        ends = λ end.
            let one = one-along plan schedule now last leads counts (λ k inside. may-go k) in
            absurd (none-some (after_line last client line) (sym (end client (λ other apart. outside-last plan last never one end other)) ∙ goes));
      }

  pub chosen-goes : (schedule : Schedule) (last : Standing) → Leads plan now schedule last → Counts plan now schedule → FirstGoes asked plan choice.chosen now schedule last
  chosen-goes schedule last leads counts = elim (parted choice.chosen schedule) [
    | inl unchosen ↦ added schedule last leads counts unchosen
    | inr first ↦ moved schedule last leads counts first
  ]

-- the first client of a schedule goes first

pub client-goes : {asked : List ℕ → Bool} (plan : Lines) (now : Standing) (client : ℕ) (rest : Schedule) (last : Standing) → GoOnAlike asked last last → Leads plan now (client ∷ rest) last → Counts plan now (client ∷ rest) → FirstGoes asked plan (λ k. true) now (client ∷ rest) last
client-goes {asked} plan now client rest last alike leads counts = record {
  client = client;
  one = refl;
  on = counts.0;
  start = leads.0;
  goes = leads.1;
  rest = rest;
  to = last;
  leads = leads.2;
  counts = counts.1 leads.0 leads.1;
  answers = λ a gives. inr gives;
  races = λ one other race. inr race;
  ends = λ end. (omega arith, alike);
}
