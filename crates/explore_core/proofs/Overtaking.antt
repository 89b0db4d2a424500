-- What the lines of a schedule overtake.
use Rattle.std.proofs.Common.{◌≡◌, ℕ, ◌+◌, ap, [], ◌∷◌, ◌++◌, Some, arith}
use Rattle.explore_core.specs.Schedule.{Lines, Standing, Schedule, next_line, after_one, beginning, Leads, ComesTo}
use Rattle.explore_core.specs.Shortening.{overtaken, overtaken_along, overtaken_by_line}

overtaken_along-push : (plan : Lines) (from : Standing) (schedule : Schedule) (mid : Standing) (client : ℕ) → Leads plan from schedule mid
    → overtaken_along plan (Some from) (schedule ++ client ∷ []) ≡ overtaken_along plan (Some from) schedule + overtaken_by_line plan mid (next_line plan mid client)
overtaken_along-push plan from [] mid client leads =
    let same : overtaken_by_line plan from (next_line plan from client) ≡ overtaken_by_line plan mid (next_line plan mid client) =
    ap (λ s. overtaken_by_line plan s (next_line plan s client)) leads in
    omega (arith, same)
overtaken_along-push plan from (first ∷ schedule) mid client leads =
    let all : overtaken_along plan (after_one plan from first) (schedule ++ client ∷ []) ≡ overtaken_along plan (Some leads.0) (schedule ++ client ∷ []) =
    ap (λ o. overtaken_along plan o (schedule ++ client ∷ [])) leads.1 in
    let some : overtaken_along plan (after_one plan from first) schedule ≡ overtaken_along plan (Some leads.0) schedule =
    ap (λ o. overtaken_along plan o schedule) leads.1 in
    omega (arith, all, some, overtaken_along-push plan leads.0 schedule mid client leads.2)

pub overtaken-push : (plan : Lines) (schedule : Schedule) (to : Standing) (client before after : ℕ) → ComesTo plan schedule to
    → before ≡ overtaken plan schedule → after ≡ before + overtaken_by_line plan to (next_line plan to client)
    → after ≡ overtaken plan (schedule ++ client ∷ [])
overtaken-push plan schedule to client before after comes counted more =
    omega (arith, counted, more, overtaken_along-push plan (beginning plan) schedule to client comes.leads)
