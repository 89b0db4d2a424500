-- Entries agree exactly if their tables of latest points are equal.
use Rattle.std.proofs.Common.{◌≡◌, ℕ, ◌≤◌, zero, suc, sym, ap, ◌∙◌, List, inl, inr}
use Rattle.point_core.specs.declared.context.TheConstants.{CONTEXTS}
use Rattle.point_core.specs.declared.entry.Entry.{Entry}
use Rattle.point_core.specs.Reach.{value_at}
use Rattle.point_core.specs.Agreement.{AgreesAbove, HasContexts}
use Rattle.point_core.specs.Latest.{raised_to}
use Rattle.point_core.proofs.Agreement.{AgreesAbove-from_raised, AgreesAbove-raised, top-outside}
use Rattle.resv_core.specs.declared.tops.Tops.{Tops}
use Rattle.resv_core.specs.Tops.{AreTops, AreSame}
use Rattle.resv_core.proofs.Compaction.{AreTops-at, cases_context, table_at}

table_at-AreSame : (tops others : Tops) (usage ctx : ℕ) → AreSame tops others → 1 ≤ ctx → ctx ≤ CONTEXTS → value_at (table_at tops usage) ctx ≡ value_at (table_at others usage) ctx
table_at-AreSame tops others zero ctx same low high = (same ctx low high).0
table_at-AreSame tops others (suc zero) ctx same low high = (same ctx low high).1
table_at-AreSame tops others (suc (suc zero)) ctx same low high = (same ctx low high).2
table_at-AreSame tops others (suc (suc (suc usage))) ctx same low high = (same ctx low high).3

pub AgreesAbove-AreSame : {reach : List ℕ} {tops others : Tops} {es fs : List Entry} → AreTops tops reach es → AreTops others reach fs → HasContexts es → HasContexts fs → AreSame tops others → AgreesAbove reach es fs
AgreesAbove-AreSame {reach} {tops} {others} {es} {fs} tell tell' within within' same = AgreesAbove-from_raised (λ usage ctx. elim (cases_context CONTEXTS ctx) [
  | inl has ↦ sym (AreTops-at tell usage ctx has.0 has.1) ∙ table_at-AreSame tops others usage ctx same has.0 has.1 ∙ AreTops-at tell' usage ctx has.0 has.1
  | inr outside ↦ ap (raised_to (value_at reach ctx)) (top-outside es usage ctx within outside ∙ sym (top-outside fs usage ctx within' outside))
])

pub AreSame-AgreesAbove : {reach : List ℕ} {tops others : Tops} {es fs : List Entry} → AreTops tops reach es → AreTops others reach fs → AgreesAbove reach es fs → AreSame tops others
AreSame-AgreesAbove tell tell' h = λ ctx low high. (
  tell.kernel.values ctx low high ∙ AgreesAbove-raised h 0 ctx ∙ sym (tell'.kernel.values ctx low high),
  tell.write.values ctx low high ∙ AgreesAbove-raised h 1 ctx ∙ sym (tell'.write.values ctx low high),
  tell.read.values ctx low high ∙ AgreesAbove-raised h 2 ctx ∙ sym (tell'.read.values ctx low high),
  tell.bookkeep.values ctx low high ∙ AgreesAbove-raised h 3 ctx ∙ sym (tell'.bookkeep.values ctx low high),
)
