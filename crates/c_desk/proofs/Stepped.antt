-- A refused step changes nothing.
use Rattle.std.proofs.Common.{◌≡◌, ◌∙◌, ℕ, List, ◌++◌}
use Rattle.std.proofs.lemmas.List.{append-nil}
use Rattle.command_core.specs.declared.answer.Answer.{Answer}
use Rattle.command_core.specs.declared.answer.Answer.TheVariants as answer
use Rattle.desk_core.specs.theorem.Answer.{OnRefused}
use Rattle.desk_core.specs.theorem.Desk.{DeskState}
use Rattle.c_desk.specs.Service.{ServiceState, cookies_of}

abbrev state : DeskState → List ℕ → ServiceState
state d fired = record { desk = d; fired = fired }

pub refused_same : (given : Answer) (old new : DeskState) (before after : List ℕ) → OnRefused given (new ≡ old) → after ≡ before ++ cookies_of given → OnRefused given (state new after ≡ state old before)
refused_same (answer.Refused r) old new before after same is = let fired = is ∙ append-nil before in λ i. record { desk = same i; fired = fired i }
refused_same answer.Done old new before after same is = tt
refused_same (answer.Value n) old new before after same is = tt
refused_same (answer.Raised n fired) old new before after same is = tt
refused_same (answer.Info i) old new before after same is = tt
refused_same (answer.Show rows) old new before after same is = tt
refused_same (answer.Report report) old new before after same is = tt
