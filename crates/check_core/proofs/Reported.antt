-- Files that are updated one after another.
use Rattle.std.proofs.Common.{◌≡◌, ℕ, zero, suc, ◌+◌, ◌<◌, ap, List, [], ◌∷◌, ◌++◌, length, take, get_or, Option, sym, ◌∙◌, subst, append_assoc, append-nil, arith}
use Rattle.std.specs.Io.KnownBytes.{Appends}
use Rattle.std.proofs.KnownBytes.{Appends-trans}
use Rattle.std.specs.Prelude.{All}
use Rattle.std.proofs.lemmas.List.{length_push, take_more}
use Rattle.std.proofs.lemmas.List.Elements.{All-push}
use Rattle.check_core.specs.declared.updates.Update.{Update}
use Rattle.check_core.specs.Update.{one_if_written, update_text, updates_text, written_count}

updates_text-push : {N : Type 0} (text_of : N → List ℕ) (ns : List N) (us : List Update) (n : N) (u : Update) → length us ≡ length ns → updates_text text_of (ns ++ n ∷ []) (us ++ u ∷ []) ≡ updates_text text_of ns us ++ update_text (text_of n) u
updates_text-push text_of [] [] n u same = append-nil (update_text (text_of n) u)
updates_text-push text_of [] (v ∷ us) n u same = absurd (omega (arith, same))
updates_text-push text_of (m ∷ ns) [] n u same = absurd (omega (arith, same))
updates_text-push text_of (m ∷ ns) (v ∷ us) n u same =
    ap (λ text. update_text (text_of m) v ++ text) (updates_text-push text_of ns us n u (omega (arith, same)))
    ∙ sym (append_assoc (update_text (text_of m) v) (updates_text text_of ns us) (update_text (text_of n) u))

length-take : {N : Type 0} (ns : List N) (index : ℕ) → index < length ns → length (take index ns) ≡ index
length-take [] index low = absurd (omega (arith, low))
length-take (n ∷ ns) zero low = omega arith
length-take (n ∷ ns) (suc index) low = ap suc (length-take ns index (omega (arith, low)))

-- one file more was updated
pub each-next : (P : Update → Type 0) (us more : List Update) (u : Update) → All P us → P u → more ≡ us ++ u ∷ [] → All P more
each-next P us more u each is pushed = subst (All P) (sym pushed) (All-push P us u each is)

-- one file more was reported
pub reported-next : {N : Type 0} (text_of : N → List ℕ) (names : List N) (index : ℕ) (name : N) (us more : List Update) (u : Update) (before middle after : Option (List ℕ)) → index < length names → name ≡ get_or names index name → length us ≡ index → Appends before middle (updates_text text_of (take index names) us) → Appends middle after (update_text (text_of name) u) → more ≡ us ++ u ∷ [] → (length more ≡ index + 1) × Appends before after (updates_text text_of (take (index + 1) names) more)
reported-next text_of names index name us more u before middle after low at count reported written pushed =
    let first = take index names in
    let names-are : take (index + 1) names ≡ first ++ name ∷ [] = take_more names index name low ∙ ap (λ n. first ++ n ∷ []) (sym at) in
    let even : length us ≡ length first = count ∙ sym (length-take names index low) in
    let text : updates_text text_of (take (index + 1) names) more ≡ updates_text text_of first us ++ update_text (text_of name) u =
    ap (λ ns. updates_text text_of ns more) names-are ∙ ap (updates_text text_of (first ++ name ∷ [])) pushed ∙ updates_text-push text_of first us name u even in (
      ap length pushed ∙ length_push us u ∙ ap (λ n. n + 1) count,
      subst (Appends before after) (sym text) (Appends-trans before middle after (updates_text text_of first us) (update_text (text_of name) u) reported written),
    )

written_count-push : (us : List Update) (u : Update) → written_count (us ++ u ∷ []) ≡ written_count us + one_if_written u
written_count-push [] u = omega arith
written_count-push (v ∷ us) u = omega (arith, written_count-push us u)

-- one file more was counted
pub written-next : (us : List Update) (index written added : ℕ) (d : Update) → index < length us → written ≡ written_count (take index us) → added ≡ one_if_written (get_or us index d) → written + added ≡ written_count (take (index + 1) us)
written-next us index written added d low was is =
    let next = ap written_count (take_more us index d low) ∙ written_count-push (take index us) (get_or us index d) in
    ap (λ n. n + added) was ∙ ap (λ n. written_count (take index us) + n) is ∙ sym next
