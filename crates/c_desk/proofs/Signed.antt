-- A signed number, as the machine represents it.
use Rattle.std.proofs.Common.{◌≡◌, ℤ, ap, refl, w32, to_z, of_z, ◌∙◌}
use Rattle.point_core.specs.declared.refusal.Refusal.{Refusal}
use Rattle.point_core.specs.declared.refusal.Refusal.TheVariants as refusal
use Rattle.command_core.specs.declared.answer.Answer.{Answer}
use Rattle.command_core.specs.declared.answer.Answer.TheVariants as answer
use Rattle.c_desk.specs.Call.{number_of, number_of_answer}

abbrev passed : ℤ → ℤ
passed z = to_z w32 (of_z w32 z)

pub answers : {result number : ℤ} → result ≡ number → passed result ≡ passed number
answers is = ap passed is

refusal-passed : (r : Refusal) → passed (number_of r) ≡ number_of r
refusal-passed refusal.Syntax = refl
refusal-passed refusal.NoEntry = refl
refusal-passed refusal.Exists = refl
refusal-passed refusal.Overflow = refl
refusal-passed refusal.Flags = refl
refusal-passed refusal.Signalled = refl
refusal-passed refusal.TimedOut = refl
refusal-passed refusal.Foreign = refl
refusal-passed refusal.Torn = refl
refusal-passed refusal.NotAll = refl
refusal-passed refusal.LongLine = refl
refusal-passed refusal.Read = refl
refusal-passed refusal.Write = refl
refusal-passed refusal.Cancelled = refl
refusal-passed refusal.Memory = refl
refusal-passed (refusal.Limit kind) = refl

answer-passed : (a : Answer) → passed (number_of_answer a) ≡ number_of_answer a
answer-passed answer.Done = refl
answer-passed (answer.Value n) = refl
answer-passed (answer.Raised n fired) = refl
answer-passed (answer.Info i) = refl
answer-passed (answer.Show rows) = refl
answer-passed (answer.Report report) = refl
answer-passed (answer.Refused r) = refusal-passed r

pub number-passed : {result : ℤ} (a : Answer) → result ≡ number_of_answer a → passed result ≡ number_of_answer a
number-passed a is = answers is ∙ answer-passed a
