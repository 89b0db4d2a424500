-- A settled table, from its values and its tables.
use Rattle.std.proofs.Common.{◌≡◌, ℕ, List, ap, ◌∙◌, Ok, Err, Result, IfOk}
use Rattle.point_core.specs.declared.refusal.Refusal.{Refusal}
use Rattle.resv_core.specs.declared.plan.Act.{Act}
use Rattle.resv_core.specs.declared.plan.Settled.{Settled}
use Rattle.resv_core.specs.Settled.{values_of, tables_of}
use Rattle.clients_core.specs.Plans.{settled_of}

-- the values and tables are all that a settled table is
pub settled_of-parts : (settled : Settled) (buffers : ℕ) (plans : List (List Act)) → settled.values ≡ values_of plans → settled.tables ≡ tables_of buffers plans settled.values → settled ≡ settled_of buffers plans
settled_of-parts settled buffers plans values tables =
    ap (λ (vs : List ℕ). record settled { values = vs }) values
    ∙ ap (λ (ts : _). record { values = values_of plans; tables = ts }) (tables ∙ ap (λ (vs : List ℕ). tables_of buffers plans vs) values)

-- of every answer
pub settled_of-answer : (answer : Result Settled Refusal) (buffers : ℕ) (plans : List (List Act)) (values : List ℕ) → values ≡ values_of plans → IfOk answer (λ s. s.values ≡ values)
    → IfOk answer (λ s. s.tables ≡ tables_of buffers plans s.values) → IfOk answer (λ s. s ≡ settled_of buffers plans)
settled_of-answer (Ok s) buffers plans values total told tables = settled_of-parts s buffers plans (told ∙ total) tables
settled_of-answer (Err e) buffers plans values total told tables = tt
