-- The fences of a kind among those that are pending.
use Rattle.std.proofs.Common.{◌≡◌, ◌≢◌, Bool, true, false, not, ◌&&◌, cond, List, [], ◌∷◌, map, ◌++◌, Option, None, Some, append-nil, refl, sym, ap, subst, ◌∙◌, inl, inr, ◌⊎◌}
use Rattle.std.specs.Prelude.{OnOk, Result, Ok, Err, Contains, IsSome, unwrap_or}
use Rattle.std.specs.List.{IsDistinct, filter}
use Rattle.std.specs.List.Sorted.{IsPermutation}
use Rattle.std.specs.Map.{keys_of, lookup}
use Rattle.std.proofs.lemmas.Bool.{and_parts, false≢true}
use Rattle.std.proofs.lemmas.List.Elements.{All-contains, Contains-append_cases, filter_passes}
use Rattle.std.proofs.lemmas.List.Kept.{AllPairs-filter}
use Rattle.std.proofs.lemmas.List.Sorted.{Contains-permutation, IsPermutation-filter_both, IsPermutation-sym}
use Rattle.std.proofs.lemmas.Map.Keys.{IsDistinct-IsPermutation}
use Rattle.std.proofs.lemmas.Map.Made.{AllPairs-from_IsDistinct, IsDistinct-from_AllPairs}
use Rattle.std.proofs.lemmas.Map.Views.{Contains-keys_from_lookup}
use Rattle.trace_core.specs.declared.ledger.Ledger.{Ledger}
use Rattle.trace_core.specs.declared.life.Life.{Life}
use Rattle.trace_core.specs.declared.pending.Pending.{Pending}
use Rattle.trace_core.specs.declared.pending.PendingKind.{PendingKind}
use Rattle.trace_core.specs.declared.pending.PendingKind.TheVariants.{Hang, Unknown, Unnumbered}
use Rattle.trace_core.specs.declared.fence_event.FenceKey.{FenceKey}
use Rattle.trace_core.specs.History.{Step, IsLedgerOf, is_sure, is_unnumbered}
use Rattle.trace_core.specs.Keys.{same_key}
use Rattle.trace_core.specs.Life.{is_pending, unborn}
use Rattle.trace_core.specs.Pending.{is_pending_in, pending_among, pending_at}
use Rattle.trace_core.proofs.Same.{same_key-decides, same_key-is, same_key-laws}
use Rattle.trace_report.specs.Found.{AreHangs, AreListed, AreUnknown, hanging, hangs_by, is_hang, is_reported, is_unknown, key_of, may_be_signalled, not_known, unknown_by}

pub hanging-is : (fence : Pending) (kind : PendingKind) → fence.kind ≡ kind → hanging fence ≡ cond (hangs_by kind) (fence ∷ []) []
hanging-is fence kind is = ap (λ k. cond (hangs_by k) (fence ∷ []) []) is

pub put-none : {X T E : Type 0} (r : Result T E) (xs : List X) → OnOk r (xs ≡ xs ++ [])
put-none (Ok v) xs = sym (append-nil xs)
put-none (Err e) xs = tt

pub unknown-is : (fence : Pending) (kind : PendingKind) → fence.kind ≡ kind → not_known fence ≡ cond (unknown_by kind) (fence ∷ []) []
unknown-is fence kind is = ap (λ k. cond (unknown_by k) (fence ∷ []) []) is

-- one key, by whether it is pending, sure and unnumbered
chosen : {X : Type 0} (pending sure unnumbered : Bool) (x : X) (xs ys : List X) → xs ≡ ys → cond pending (cond (hangs_by (cond unnumbered Unnumbered (cond (pending && sure) Hang Unknown))) (x ∷ xs) xs) xs ≡ cond ((pending && sure) && not unnumbered) (x ∷ ys) ys
chosen true true true x xs ys is = is
chosen true true false x xs ys is = ap (λ zs. x ∷ zs) is
chosen true false true x xs ys is = is
chosen true false false x xs ys is = is
chosen false sure unnumbered x xs ys is = is

chosen-unknown : {X : Type 0} (pending sure unnumbered : Bool) (x : X) (xs ys : List X) → xs ≡ ys → cond pending (cond (unknown_by (cond unnumbered Unnumbered (cond (pending && sure) Hang Unknown))) (x ∷ xs) xs) xs ≡ cond ((pending && not sure) && not unnumbered) (x ∷ ys) ys
chosen-unknown true true true x xs ys is = is
chosen-unknown true true false x xs ys is = is
chosen-unknown true false true x xs ys is = is
chosen-unknown true false false x xs ys is = ap (λ zs. x ∷ zs) is
chosen-unknown false sure unnumbered x xs ys is = is

spread : (test : Pending → Bool) (steps : List Step) (key : FenceKey) (keys : List FenceKey) (pending : Bool) → map key_of (filter test (map (pending_at steps) (cond pending (key ∷ filter (is_pending_in steps) keys) (filter (is_pending_in steps) keys)))) ≡ cond pending (cond (test (pending_at steps key)) (key ∷ map key_of (filter test (pending_among steps keys))) (map key_of (filter test (pending_among steps keys)))) (map key_of (filter test (pending_among steps keys)))
spread test steps key keys false = refl
spread test steps key keys true = kept (test (pending_at steps key))
  where
    kept : (passes : Bool) → map key_of (cond passes (pending_at steps key ∷ filter test (pending_among steps keys)) (filter test (pending_among steps keys))) ≡ cond passes (key ∷ map key_of (filter test (pending_among steps keys))) (map key_of (filter test (pending_among steps keys)))
    kept true = refl
    kept false = refl

pub hangs-among : (steps : List Step) (keys : List FenceKey) → map key_of (filter is_hang (pending_among steps keys)) ≡ filter (is_reported steps) keys
hangs-among steps [] = refl
hangs-among steps (key ∷ keys) =
    spread is_hang steps key keys (is_pending_in steps key)
    ∙ chosen (is_pending_in steps key) (is_sure steps key) (is_unnumbered steps key) key (map key_of (filter is_hang (pending_among steps keys))) (filter (is_reported steps) keys) (hangs-among steps keys)

pub unknown-among : (steps : List Step) (keys : List FenceKey) → map key_of (filter is_unknown (pending_among steps keys)) ≡ filter (may_be_signalled steps) keys
unknown-among steps [] = refl
unknown-among steps (key ∷ keys) =
    spread is_unknown steps key keys (is_pending_in steps key)
    ∙ chosen-unknown (is_pending_in steps key) (is_sure steps key) (is_unnumbered steps key) key (map key_of (filter is_unknown (pending_among steps keys))) (filter (may_be_signalled steps) keys) (unknown-among steps keys)

found-alive : (key : FenceKey) (es : List (FenceKey × Life)) (o : Option Life) → lookup (same_key key) es ≡ o → is_pending (unwrap_or o unborn) ≡ true → Contains (keys_of es) key
found-alive key es (Some life) is pending = Contains-keys_from_lookup same_key-is key es (subst IsSome (sym is) refl)
found-alive key es None is pending = absurd (false≢true pending)

-- a key that is pending is one of those that the ledger has
pub is-alive : (ledger : Ledger) (steps : List Step) → IsLedgerOf ledger steps → (key : FenceKey) → is_pending_in steps key ≡ true → Contains (keys_of ledger.lives.by_key.entries) key
is-alive ledger steps h key pending =
    found-alive key ledger.lives.by_key.entries (lookup (same_key key) ledger.lives.by_key.entries) refl (ap is_pending (h.lives key) ∙ pending)

chosen-from : {X : Type 0} (xs ys : List X) (x : X) → (Contains ys x → ⊥) → Contains xs x ⊎ Contains ys x → Contains xs x
chosen-from xs ys x none (inl there) = there
chosen-from xs ys x none (inr there) = absurd (none there)

-- an element that passes a test is among those that do
contains-kept : {X : Type 0} (test : X → Bool) (xs : List X) (x : X) → Contains xs x → test x ≡ true → Contains (filter test xs) x
contains-kept {X = X} test xs x there passes =
    let other : X → Bool = λ y. not (test y) in
    chosen-from (filter test xs) (filter other xs) x (λ failing. false≢true (sym (ap not passes) ∙ All-contains (λ y. other y ≡ true) (filter other xs) x (filter_passes other xs) failing)) (
    Contains-append_cases (filter test xs) (filter other xs) x (Contains-permutation xs (filter test xs ++ filter other xs) x (IsPermutation-filter_both test other (λ y. refl) xs) there))

distinct-kept : (test : FenceKey → Bool) (keys : List FenceKey) → IsDistinct same_key keys → IsDistinct same_key (filter test keys)
distinct-kept test keys once =
    IsDistinct-from_AllPairs same_key-decides (filter test keys) (AllPairs-filter (λ x y. x ≢ y) test keys (AllPairs-from_IsDistinct same_key-decides keys once))

are-listed : (test : FenceKey → Bool) (keys : List FenceKey) (found : List Pending) → ((key : FenceKey) → test key ≡ true → Contains keys key) → IsDistinct same_key keys → IsPermutation (filter test keys) (map key_of found) → AreListed test found
are-listed test keys found all once same =
    let kept = filter test keys in
    record {
      are = λ key. (
        λ there. All-contains (λ k. test k ≡ true) kept key (filter_passes test keys) (Contains-permutation (map key_of found) kept key (IsPermutation-sym kept (map key_of found) same) there),
        λ passes. Contains-permutation kept (map key_of found) key same (contains-kept test keys key (all key passes) passes),
      );
      once = IsDistinct-IsPermutation same_key same_key-laws.symm kept (map key_of found) same (distinct-kept test keys once);
    }

-- both tests begin with the key being pending
pending-first : (pending sure numbered : Bool) → ((pending && sure) && numbered) ≡ true → pending ≡ true
pending-first pending sure numbered is = (and_parts pending sure (and_parts (pending && sure) numbered is).0).0

module _ (ledger : Ledger) (steps : List Step) (found : List Pending) (h : IsLedgerOf ledger steps) (once : IsDistinct same_key (keys_of ledger.lives.by_key.entries)) where
  pub are-hangs : IsPermutation (filter (is_reported steps) (keys_of ledger.lives.by_key.entries)) (map key_of found) → AreHangs steps found
  are-hangs same =
      are-listed (is_reported steps) (keys_of ledger.lives.by_key.entries) found (λ key is. is-alive ledger steps h key (pending-first (is_pending_in steps key) (is_sure steps key) (not (is_unnumbered steps key)) is)) once same

  pub are-unknown : IsPermutation (filter (may_be_signalled steps) (keys_of ledger.lives.by_key.entries)) (map key_of found) → AreUnknown steps found
  are-unknown same =
      are-listed (may_be_signalled steps) (keys_of ledger.lives.by_key.entries) found (λ key is. is-alive ledger steps h key (pending-first (is_pending_in steps key) (not (is_sure steps key)) (not (is_unnumbered steps key)) is)) once same
