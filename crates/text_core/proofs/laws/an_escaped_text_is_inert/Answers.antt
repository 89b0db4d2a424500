use Rattle.text_core.proofs.Escaping.{inert_all, read_back}
use Rattle.text_core.proofs.laws.an_escaped_text_is_inert.Goals as goal

pub returns-clause-safe : goal.returns-clause-safe
returns-clause-safe c = inert_all

pub returns-clause-back : goal.returns-clause-back
returns-clause-back c = read_back
