-- Entries that are put into a buffer, exported from it and imported into it, above a reach.
use Rattle.std.proofs.Common.{◌≡◌, ℕ, ◌↔◌, Bool, true, ◌&&◌, ◌==◌, nat_le, refl, sym, ap, ◌∙◌, List, [], ◌∷◌, ◌++◌, map, filter, if◌then◌else◌, Option, None, arith, inl, inr}
use Rattle.std.proofs.lemmas.Bool.{cases_Bool, le-leb}
use Rattle.point_core.specs.declared.entry.Entry.{Entry}
use Rattle.point_core.specs.declared.entry.Usage.{Usage}
use Rattle.point_core.specs.declared.entry.Usage.TheVariants.{Kernel, Write, Read, Bookkeep}
use Rattle.point_core.specs.Usage.{usage_number}
use Rattle.point_core.specs.Reach.{value_at, is_reached, IsAtLeast}
use Rattle.point_core.specs.Agreement.{later, top, pending, pending_top, AgreesAbove, as_entries, listing, HasContexts, IsReached, all_reached}
use Rattle.point_core.proofs.Agreement.{AgreesAbove-trans, AgreesAbove-append, AgreesAbove-refl, AgreesAbove-later, listing-AgreesAbove, listing-same, pending_top-listing}
use Rattle.point_core.proofs.Reached.{all_reached-IsReached}
use Rattle.point_core.proofs.Values.{IsAtLeast-refl}
use Rattle.dmabuf_core.specs.Flags.{export_usage, import_usage, is_within, at_strongest, with_usage, exported, imported}

-- a table that agrees with the entries so far agrees with them and the added ones
pub AgreesAbove-added : {reach : List ℕ} (before after put added : List Entry) → AgreesAbove reach before put → AgreesAbove reach after (before ++ added) → AgreesAbove reach after (put ++ added)
AgreesAbove-added {reach} before after put added kept more = AgreesAbove-trans more (AgreesAbove-append kept (AgreesAbove-refl reach added))

-- each usage is the weakest or a stronger one
usage-within : (usage : Usage) → nat_le (usage_number usage) 3 ≡ true
usage-within Kernel = refl
usage-within Write = refl
usage-within Read = refl
usage-within Bookkeep = refl

-- the latest of entries that all get one usage: the latest of all, at that usage and the weaker ones
top_if : Bool → List Entry → ℕ → Option ℕ
top_if at es ctx = if at then top es 3 ctx else None

top-with_usage : (usage : Usage) (es : List Entry) (level ctx : ℕ) → top (map (with_usage usage) es) level ctx ≡ top_if (nat_le (usage_number usage) level) es ctx
unfolding top_if
top-with_usage usage [] level ctx = elim (cases_Bool (nat_le (usage_number usage) level)) [
  | inl is ↦ rw is refl
  | inr not ↦ rw not refl
]
top-with_usage usage (e ∷ es) level ctx =
    let rest = top-with_usage usage es level ctx in
    elim (cases_Bool (nat_le (usage_number usage) level)) [
      | inl is ↦
          rw (is, usage-within e.usage)
          (let tail : top (map (with_usage usage) es) level ctx ≡ top es 3 ctx = rest ∙ ap (λ b. top_if b es ctx) is in
          ap (λ t. if (e.point.ctx == ctx) then later e.point.value t else t) tail)
      | inr not ↦
          rw not
          (let tail : top (map (with_usage usage) es) level ctx ≡ None = rest ∙ ap (λ b. top_if b es ctx) not in tail)
    ]

-- entries that agree also agree when all get one usage
pub AgreesAbove-with_usage : {reach : List ℕ} {es fs : List Entry} (usage : Usage) → AgreesAbove reach es fs → AgreesAbove reach (map (with_usage usage) es) (map (with_usage usage) fs)
unfolding top_if
AgreesAbove-with_usage {reach} {es} {fs} usage h = record {
  tops = λ level ctx.
      ap (pending (value_at reach ctx)) (top-with_usage usage es level ctx)
      ∙ elim (cases_Bool (nat_le (usage_number usage) level)) [
        | inl is ↦ rw is (h.tops 3 ctx)
        | inr not ↦ rw not refl
      ]
      ∙ ap (pending (value_at reach ctx)) (sym (top-with_usage usage fs level ctx));
}

pub AgreesAbove-imported : {reach : List ℕ} {es fs : List Entry} (flags : ℕ) → AgreesAbove reach es fs → AgreesAbove reach (imported flags es) (imported flags fs)
AgreesAbove-imported flags h = AgreesAbove-with_usage (import_usage flags) h

-- and above a later reach
pub AgreesAbove-imported_later : {floor reach : List ℕ} {es put : List Entry} (flags : ℕ) → AgreesAbove floor es put → IsAtLeast reach floor → AgreesAbove reach (imported flags es) (imported flags put)
AgreesAbove-imported_later flags h high = AgreesAbove-imported flags (AgreesAbove-later high h)

-- the latest exported point is the latest at the usage and the stronger ones
top_more : Bool → ℕ → Option ℕ → Option ℕ
top_more at p t = if at then later p t else t

top-within : (usage : Usage) (es : List Entry) (level ctx : ℕ) → top (map at_strongest (filter (is_within usage) es)) level ctx ≡ top es (usage_number usage) ctx
unfolding top_more
top-within usage [] level ctx = refl
top-within usage (e ∷ es) level ctx =
    let rest = top-within usage es level ctx in
    elim (cases_Bool (is_within usage e)) [
      | inl is ↦ rw (is, le-leb 0 level (omega arith)) (ap (top_more (e.point.ctx == ctx) e.point.value) rest)
      | inr not ↦ rw not rest
    ]

-- an export lists the entries at the usage and the stronger ones
pub listing-exported : {reach : List ℕ} {es put : List Entry} (flags : ℕ) → AgreesAbove reach es put → listing es (usage_number (export_usage flags)) reach ≡ listing (exported flags put) 0 reach
listing-exported {reach} {es} {put} flags h =
    listing-AgreesAbove (usage_number (export_usage flags)) h
    ∙ listing-same put (exported flags put) (usage_number (export_usage flags)) 0 reach reach (λ ctx low high. ap (pending (value_at reach ctx)) (sym (top-within (export_usage flags) put 0 ctx)))

-- and its points agree with them
pub AgreesAbove-exported : {reach : List ℕ} {es put : List Entry} (flags : ℕ) → HasContexts put → AgreesAbove reach es put → AgreesAbove reach (as_entries (listing es (usage_number (export_usage flags)) reach)) (exported flags put)
AgreesAbove-exported {reach} {es} {put} flags within h = record {
  tops = λ level ctx.
      ap (λ ps. pending_top reach (as_entries ps) level ctx) (listing-AgreesAbove (usage_number (export_usage flags)) h)
      ∙ pending_top-listing put (usage_number (export_usage flags)) level ctx within (IsAtLeast-refl reach)
      ∙ ap (pending (value_at reach ctx)) (sym (top-within (export_usage flags) put level ctx));
}

all_reached-within : (usage : Usage) (reach : List ℕ) (es : List Entry) → all_reached reach 0 (map at_strongest (filter (is_within usage) es)) ≡ all_reached reach (usage_number usage) es
all_reached-within usage reach [] = refl
all_reached-within usage reach (e ∷ es) = elim (cases_Bool (is_within usage e)) [
  | inl is ↦ rw is (ap (λ b. is_reached reach e.point && b) (all_reached-within usage reach es))
  | inr not ↦ rw not (all_reached-within usage reach es)
]

-- all exported points are reached exactly if all entries at the usage and the stronger ones are
pub IsReached-exported : (reach : List ℕ) (put : List Entry) (flags : ℕ) → (IsReached (exported flags put) 0 reach ↔ IsReached put (usage_number (export_usage flags)) reach)
IsReached-exported reach put flags =
    let file = all_reached-IsReached reach 0 (exported flags put) in
    let buffer = all_reached-IsReached reach (usage_number (export_usage flags)) put in
    let same = all_reached-within (export_usage flags) reach put in
    (λ h. buffer.0 (sym same ∙ file.1 h), λ h. file.0 (same ∙ buffer.1 h))
