-- What words ask for that the command line does not take.
use Rattle.std.proofs.Common.{◌≡◌, ◌⊎◌, ◌∙◌, ◌∷◌, [], ℕ, sym, subst, inl, inr, true, List, Option, Some, None, IfOk, IfSome, Result, Ok, Err}
use Rattle.clap.specs.Words.{IsAmong, Kinds, Text, takes}
use Rattle.clap.specs.declared.error.kind.ErrorKind.{ErrorKind}
use Rattle.clap.specs.declared.error.kind.ErrorKind.TheVariants.{InvalidSubcommand, OutOfMemory}
use Rattle.point_core.specs.declared.refusal.Refusal.{Refusal}
use Rattle.point_core.specs.declared.refusal.Refusal.TheVariants.{Memory, Write as WriteFault}
use Rattle.fencectl_core.specs.Asked.{Asked, EndsBy, IsAsked, IsFileOf, IsUsageFault, asked_of, kind_status}
use Rattle.fencectl_core.specs.Words.{fencectl}
use Rattle.fencectl_core.specs.declared.action.Action.{Action}
use Rattle.fencectl_core.specs.declared.action.Action.TheVariants as action

other_kind : (kind : ErrorKind) → kind ≡ OutOfMemory → kind ≡ InvalidSubcommand → ⊥
other_kind kind memory subcommand = cc (sym memory ∙ subcommand)

pub file_asked : (words : List Text) (kind : ErrorKind) (asked : Option Asked) → (takes fencectl words ≡ true → kind ≡ OutOfMemory)
    → IfSome asked (λ a. IsFileOf words a × (kind ≡ InvalidSubcommand)) → IfSome asked (IsAsked words)
file_asked words kind None taken file = tt
file_asked words kind (Some a) taken file = inr (file.0, λ t. other_kind kind (taken t) file.1)

kind_is : (kind other : ErrorKind) (status : ℕ) → (other ≡ kind) ⊎ ⊥ → status ≡ kind_status other → status ≡ kind_status kind
kind_is kind other status (inl same) is = subst (λ k. status ≡ kind_status k) same is
kind_is kind other status (inr none) is = absurd none

ends_among : (kinds : Kinds) (kind : ErrorKind) (a : Action) → IsAmong kind kinds → EndsBy (kind ∷ []) a → EndsBy kinds a
ends_among kinds kind (action.End status) among ends = (kind, among, kind_is kind ends.0 status ends.1 ends.2)
ends_among kinds kind (action.Run script) among ends = tt
ends_among kinds kind (action.Json script) among ends = tt
ends_among kinds kind (action.Update paths) among ends = tt
ends_among kinds kind (action.Check check) among ends = tt
ends_among kinds kind (action.Explain script) among ends = tt
ends_among kinds kind (action.Trace trace) among ends = tt
ends_among kinds kind (action.Draw draw) among ends = tt
ends_among kinds kind (action.Clients clients) among ends = tt
ends_among kinds kind (action.Explore explore) among ends = tt

-- the program ends by the kind of the error
pub ends_by : (kinds : Kinds) (kind : ErrorKind) (result : Result Action Refusal) → (kind ≡ OutOfMemory → result ≡ Err Memory)
    → (kind ≡ OutOfMemory) ⊎ IsAmong kind kinds → IfOk result (EndsBy (kind ∷ [])) → IfOk result (EndsBy kinds)
ends_by kinds kind (Err e) memory has ends = tt
ends_by kinds kind (Ok a) memory (inl out) ends = cc (memory out)
ends_by kinds kind (Ok a) memory (inr among) ends = ends_among kinds kind a among ends

-- what asks for something does not end the program
pub asked_stays : (kinds : Kinds) (asked : Asked) (a : Action) → asked_of a ≡ Some asked → EndsBy kinds a
asked_stays kinds asked (action.End status) is = cc is
asked_stays kinds asked (action.Run script) is = tt
asked_stays kinds asked (action.Json script) is = tt
asked_stays kinds asked (action.Update paths) is = tt
asked_stays kinds asked (action.Check check) is = tt
asked_stays kinds asked (action.Explain script) is = tt
asked_stays kinds asked (action.Trace trace) is = tt
asked_stays kinds asked (action.Draw draw) is = tt
asked_stays kinds asked (action.Clients clients) is = tt
asked_stays kinds asked (action.Explore explore) is = tt

pub usage_fault : (words : List Text) (refusal : Refusal) → (refusal ≡ WriteFault) ⊎ (refusal ≡ Memory) → IsUsageFault words refusal
usage_fault words refusal (inl write) = inl write
usage_fault words refusal (inr memory) = inr (inl memory)
