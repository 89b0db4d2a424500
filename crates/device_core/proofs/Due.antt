-- The least point at which a file waits, in the index and among the files.
use Rattle.std.proofs.Common.{◌≡◌, ℕ, ◌≤◌, ◌⊎◌, inl, inr, nat_eq, nat_le, true, false, refl, sym, subst, ◌∙◌, List, Option}
use Rattle.std.specs.Prelude.{None, Some, IfNone, IfSome, option_map}
use Rattle.std.proofs.lemmas.Bool.{and_from, and_parts, cases_Bool, eq-eqb, eqb-true, le-leb, leb-true}
use Rattle.device_core.specs.declared.fence.Signal.{Signal}
use Rattle.device_core.specs.declared.waiting_files.Waiter.{Waiter}
use Rattle.device_core.specs.Due.{IsFirstDue, IsFirstHeld, WaitsAt, waiting_at}
use Rattle.device_core.specs.theorem.State.{FileState, IsIndexed, at, file_signalled, holds, is_due_at}
use Rattle.device_core.proofs.Signalled.{on_their_way-done, on_their_way-none}

pub a-first : (index : List Waiter) (timeline bound : ℕ) (first : Waiter) → is_due_at timeline bound first ≡ true → holds index first ≡ true → ((k : Waiter) → is_due_at timeline bound k ≡ true → holds index k ≡ true → first.value ≤ k.value) → IsFirstHeld index timeline bound (Some first.value)
a-first index timeline bound first due there least =
    let parts = and_parts (nat_eq first.timeline timeline) (nat_le first.value bound) due in record {
      due = (leb-true first.value bound parts.1, (first.file, subst (λ t. holds index (waiting_at t first.value first.file) ≡ true) (eqb-true first.timeline timeline parts.0) there));
      least = least;
    }

-- nothing is due among the files either
none-due : (index : List Waiter) (files : List (ℕ × FileState)) (timeline bound : ℕ) (first : Option ℕ) → IsIndexed index files → IsFirstHeld index timeline bound first → IfNone first ((signal : Signal) (n : ℕ) → at files n ≡ option_map (file_signalled timeline bound signal) (at files n))
none-due index files timeline bound (Some p) indexed held = tt
none-due index files timeline bound None indexed held = λ signal.
    on_their_way-done timeline bound signal index files index files indexed (on_their_way-none timeline bound signal index files) (λ k due. away k due (cases_Bool (holds index k)))
  where
    away : (k : Waiter) → is_due_at timeline bound k ≡ true → (holds index k ≡ true) ⊎ (holds index k ≡ false) → holds index k ≡ false
    away k due (inl there) = absurd (held.least k due there)
    away k due (inr not_there) = not_there

some-due : (index : List Waiter) (files : List (ℕ × FileState)) (timeline bound : ℕ) (first : Option ℕ) → IsIndexed index files → IsFirstHeld index timeline bound first → IfSome first (λ p. (p ≤ bound) × WaitsAt (at files) timeline p)
some-due index files timeline bound None indexed held = tt
some-due index files timeline bound (Some p) indexed held = (held.due.0, (held.due.1.0, sym (indexed (waiting_at timeline p held.due.1.0)) ∙ held.due.1.1))

pub first-due : (index : List Waiter) (files : List (ℕ × FileState)) (timeline bound : ℕ) (first : Option ℕ) → IsIndexed index files → IsFirstHeld index timeline bound first → IsFirstDue (at files) timeline bound first
first-due index files timeline bound first indexed held = record {
  due = some-due index files timeline bound first indexed held;
  least = λ p low waits. held.least (waiting_at timeline p waits.0)
      (and_from (nat_eq timeline timeline) (nat_le p bound) (eq-eqb timeline timeline refl) (le-leb p bound low))
      (indexed (waiting_at timeline p waits.0) ∙ waits.1);
  untimed = none-due index files timeline bound first indexed held;
}
