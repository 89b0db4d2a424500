use Rattle.std.proofs.Common.{◌≡◌, ◌+◌, ◌++◌, ◌∷◌, [], ℕ, List, map, sym, ap, ◌∙◌, arith}
use Rattle.std.specs.List.{range_with_len}
use Rattle.std.proofs.lemmas.List.FromFn.{map-range_with_len_more}
use Rattle.resv_core.specs.declared.plan.Act.{Act}
use Rattle.resv_core.specs.Rounds.{rounds_of}
use Rattle.clients_core.specs.Rounds.{client_round, client_rounds, next_client, plans_of_rounds}
use Rattle.clients_core.proofs.PlansOfRounds.{accepted-rounds}
use Rattle.clients_core.proofs.SettledRounds.{settled-rounds}
use Rattle.clients_core.proofs.rounds.plans_of_rounds.Goals as goal

pub loop-index-preserved : goal.loop-index-preserved
loop-index-preserved c =
    let clients = c.args.clients in
    let rounds = c.args.rounds in
    let n = c.loop-index.index in
    let plan : ℕ → List Act = client_rounds clients rounds in
    let here : 1 + n ≡ n + 1 = omega arith in
    let own : c.at.result ≡ n + 1 = omega arith in
    let next : c.at-in-loop-index.result ≡ next_client clients (n + 1) = c.at-in-loop-index.ensures ∙ c.place_after-next.ensures.next in
    let round : c.in_ok-acts.acts.items ≡ client_round (n + 1) (next_client clients (n + 1)) =
    c.in_ok-acts.ensures.items ∙ c.client_round-acts.ensures.acts ∙ ap (λ (client : ℕ). client_round client c.at-in-loop-index.result) own ∙ ap (client_round (n + 1)) next in
    let acts : c.in_ok-repeated.field-0 ≡ plan (n + 1) = c.in_ok-repeated.ensures.acts.1 ∙ ap (λ (acts : List Act). rounds_of acts rounds) round in
    record {
      plans =
          c.push_reserved.ensures.items
          ∙ ap (λ (plans : List (List Act)). plans ++ c.in_ok-repeated.field-0 ∷ []) c.loop-index.invariant.plans
          ∙ ap (λ (acts : List Act). map plan (range_with_len 1 n) ++ acts ∷ []) acts
          ∙ sym (map-range_with_len_more plan 1 n (n + 1) here);
      len = omega arith;
      places = c.push_reserved.ensures.capacity ∙ c.loop-index.invariant.places;
    }

pub returns-clause-accepted : goal.returns-clause-accepted
returns-clause-accepted c =
    let clients = c.args.clients in
    let rounds = c.args.rounds in
    let all : c.loop-index.index ≡ clients = omega arith in
    let whole : c.loop-index.plans.items ≡ plans_of_rounds clients rounds = c.loop-index.invariant.plans ∙ ap (λ (n : ℕ). map (client_rounds clients rounds) (range_with_len 1 n)) all in
    rw whole (accepted-rounds clients rounds c.requires.clients c.requires.rounds)

pub returns-clause-settled : goal.returns-clause-settled
returns-clause-settled c =
    let clients = c.args.clients in
    let rounds = c.args.rounds in
    let all : c.loop-index.index ≡ clients = omega arith in
    let whole : c.loop-index.plans.items ≡ plans_of_rounds clients rounds = c.loop-index.invariant.plans ∙ ap (λ (n : ℕ). map (client_rounds clients rounds) (range_with_len 1 n)) all in
    rw whole (λ some. settled-rounds clients rounds (omega arith) (omega arith) some)
