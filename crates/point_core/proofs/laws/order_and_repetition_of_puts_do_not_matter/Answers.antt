use Rattle.point_core.proofs.Agreement.{top-permutation, top-repeated, top-same}
use Rattle.point_core.proofs.laws.order_and_repetition_of_puts_do_not_matter.Goals as goal

pub returns-clause-order : goal.returns-clause-order
returns-clause-order c = λ es fs usage ctx moved. top-permutation es fs moved usage ctx

pub returns-clause-repetition : goal.returns-clause-repetition
returns-clause-repetition c = λ es e usage ctx among. top-repeated es e among usage ctx

pub returns-clause-same_entries : goal.returns-clause-same_entries
returns-clause-same_entries c = λ es fs usage ctx same. top-same es fs (λ e. (same e).0) (λ e. (same e).1) usage ctx
