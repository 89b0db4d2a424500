use Rattle.std.proofs.Common.{refl, sym, ◌∙◌}
use Rattle.std.proofs.lemmas.Bool.{false≢true}
use Rattle.syncfile_core.proofs.Passing.{common_status-found, IsBorneOutAt-found, found-IsBorneOutAt}
use Rattle.syncfile_core.proofs.running.Found.status_of.Goals as goal

pub returns-then-is_borne_out-clause-status : goal.returns-then-is_borne_out-clause-status
returns-then-is_borne_out-clause-status c = λ clocks found. common_status-found clocks c.args.file.now c.args.contexts c.args.self.now found (c.is_borne_out.ensures.0 c.if-is_borne_out.true).1

pub returns-then-is_borne_out-clause-borne_out : goal.returns-then-is_borne_out-clause-borne_out
returns-then-is_borne_out-clause-borne_out c = λ clocks found. IsBorneOutAt-found clocks c.args.file.now c.args.contexts c.args.self.now found (c.is_borne_out.ensures.0 c.if-is_borne_out.true)

pub returns-else-is_borne_out-clause-foreign : goal.returns-else-is_borne_out-clause-foreign
returns-else-is_borne_out-clause-foreign c = λ clocks some found past. (
  refl,
  λ out.
      absurd (false≢true (sym c.if-is_borne_out.false ∙ c.is_borne_out.ensures.1 (found-IsBorneOutAt clocks c.args.file.now c.args.contexts c.args.self.now some found past out))),
)
