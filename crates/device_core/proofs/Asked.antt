-- The point that a new fence puts into its file.
use Rattle.std.proofs.Common.{◌≡◌, ℕ, ◌+◌, sym, ap, ◌∙◌, List, [], ◌∷◌, ◌++◌, length, None, Some, is_some, cond}
use Rattle.point_core.specs.declared.entry.Entry.{Entry}
use Rattle.point_core.specs.Agreement.{as_entry, point_of}
use Rattle.device_core.specs.declared.request.Request.{Request}
use Rattle.device_core.specs.declared.request.Request.TheVariants as request
use Rattle.device_core.specs.theorem.Wrapping.{unwrapped}
use Rattle.device_core.specs.theorem.State.{missing_timeline}
use Rattle.device_core.specs.theorem.Request.{cause_of, overflow, value_in, with_at}
use Rattle.device_core.specs.theorem.History.{AreAccepted, World, asked, empty_world, sum_of, world_after, world_from, world_of}
use Rattle.device_core.specs.theorem.Put.{put_into}
use Rattle.device_core.specs.theorem.Requests.{kinds}
use Rattle.device_core.proofs.Histories.{world_from-push}
use Rattle.device_core.proofs.OpenKinds.{HasKinds-history}
use Rattle.device_core.proofs.Reporting.{HasSums-history}
use Rattle.device_core.proofs.Said.{put-said}
use Rattle.device_core.proofs.Sound.{with_at-same}
use Rattle.device_core.proofs.Stepping.{no_cause, numbered}

AreAccepted-last : (history : List Request) (w : World) (r : Request) → AreAccepted w (history ++ r ∷ []) → AreAccepted w history × (cause_of (world_from w history).objects r ≡ None)
AreAccepted-last [] w r accepted = (tt, accepted.0)
AreAccepted-last (x ∷ rest) w r accepted =
    let last = AreAccepted-last rest (world_after w x) r accepted.1 in
    ((accepted.0, last.0), last.1)

pub put_into-fence : (history : List Request) (timeline point now : ℕ) → AreAccepted empty_world (history ++ request.Fence timeline point now ∷ []) → put_into (history ++ request.Fence timeline point now ∷ []) (length (kinds history) + 1) ≡ as_entry (point_of timeline (unwrapped (sum_of timeline history) point)) ∷ []
put_into-fence history timeline point now accepted =
    let w = world_of history in
    let r = request.Fence timeline point now in
    let last = AreAccepted-last history empty_world r accepted in
    let o = w.objects.timelines timeline in
    let cause = overflow (unwrapped (value_in o) point) in
    let missing = missing_timeline w.objects timeline in
    let there = no_cause o cause missing (numbered w.objects (cond (is_some o) cause (Some missing)) last.1) in
    let sum : value_in o ≡ sum_of timeline history = ap value_in there.1 ∙ (HasSums-history history last.0).values timeline there.0 there.1 in
    let put = with_at w.put w.objects.next (asked timeline (value_in o) point) in
    sym (ap (λ (all : ℕ → List Entry). all (length (kinds history) + 1)) (put-said (history ++ r ∷ []) accepted))
    ∙ ap (λ (v : World). v.put (length (kinds history) + 1)) (world_from-push history empty_world r)
    ∙ ap put (sym (HasKinds-history history last.0).next)
    ∙ with_at-same w.put w.objects.next (asked timeline (value_in o) point)
    ∙ ap (λ v. as_entry (point_of timeline (unwrapped v point)) ∷ []) sum
