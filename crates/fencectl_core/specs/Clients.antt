-- What a run of clients prints.
use Rattle.std.specs.Prelude.{ℕ, List}
use Rattle.clients_core.specs.declared.rounds.TheConstants.{ROUND_BUFFERS}
use Rattle.clients_core.specs.Plans.{settled_of}
use Rattle.clients_core.specs.Rounds.{plans_of_rounds}
use Rattle.report_core.specs.Settled.{settled_text}

-- the text of what the plans of that many clients and rounds come to
abbrev pub clients_text : ℕ → ℕ → List ℕ
clients_text clients rounds = settled_text (settled_of ROUND_BUFFERS (plans_of_rounds clients rounds))
