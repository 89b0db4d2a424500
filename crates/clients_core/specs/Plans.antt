-- Which plans clients may be started with, and what they come to.
use Rattle.std.specs.Prelude.{ℕ, ◌^◌, nat_lt, nat_le, Bool, true, not, ◌&&◌, if◌then◌else◌, List, length, Option, None, Some}
use Rattle.std.specs.List.{list_all}
use Rattle.point_core.specs.declared.refusal.Refusal.{Refusal}
use Rattle.point_core.specs.declared.refusal.Refusal.TheVariants.{NoEntry, Overflow, Limit}
use Rattle.point_core.specs.declared.refusal.LimitKind.TheVariants.{Clients, Buffers, Plan as PlanKind}
use Rattle.point_core.specs.declared.limits.TheConstants.{BUFFERS}
use Rattle.resv_core.specs.declared.plan.Act.{Act}
use Rattle.resv_core.specs.declared.plan.Act.TheVariants.{Inc, Put, Look}
use Rattle.resv_core.specs.declared.plan.Settled.{Settled}
use Rattle.resv_core.specs.Settled.{increments_of, values_of, tables_of}
use Rattle.clients_core.specs.declared.plans.TheConstants.{CLIENTS, ACTS}

-- the act is on a context and a buffer that there is, as a test
abbrev pub is_within : ℕ → ℕ → Act → Bool
is_within contexts buffers (Inc n) = true
is_within contexts buffers (Put into point usage) = nat_lt into buffers && nat_le point.ctx contexts
is_within contexts buffers (Look into usage) = nat_lt into buffers

-- each act of each plan is on a context and a buffer that there is
abbrev pub are_within : ℕ → ℕ → List (List Act) → Bool
are_within contexts buffers plans = list_all (λ acts. list_all (is_within contexts buffers) acts) plans

-- there is a client, and there are not too many
abbrev pub are_clients : ℕ → Bool
are_clients count = nat_le 1 count && nat_le count CLIENTS

-- the plan is not too long
abbrev pub has_few_acts : List Act → Bool
has_few_acts acts = nat_le (length acts) ACTS

-- the plan does not advance its timeline past the greatest value
abbrev pub never_wraps : List Act → Bool
never_wraps acts = nat_lt (increments_of acts) (2 ^ 64)

-- why no client is started with these plans: the first cause that holds
abbrev pub cause_to_refuse_plans : ℕ → List (List Act) → Option Refusal
cause_to_refuse_plans buffers plans =
    if not (are_within (length plans) buffers plans) then Some NoEntry
    else if not (are_clients (length plans)) then Some (Limit Clients)
    else if nat_lt BUFFERS buffers then Some (Limit Buffers)
    else if not (list_all has_few_acts plans) then Some (Limit PlanKind)
    else if not (list_all never_wraps plans) then Some Overflow
    else None

-- the values and tables that the plans come to
abbrev pub settled_of : ℕ → List (List Act) → Settled
settled_of buffers plans = record { values = values_of plans; tables = tables_of buffers plans (values_of plans) }
