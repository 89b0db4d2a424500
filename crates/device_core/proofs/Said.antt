-- The world of a history has the reach, the put sets, the times and the names that are said from its requests.
use Rattle.std.proofs.Common.{◌≡◌, ◌↔◌, ℕ, ◌+◌, ◌-◌, true, ◌&&◌, cond, refl, sym, ap, ◌∙◌, subst, List, [], ◌∷◌, ◌++◌, length, map, Option, None, Some, is_some, option_map, All, Contains, arith}
use Rattle.std.specs.List.{range_with_len}
use Rattle.std.proofs.lemmas.List.Elements.{All-weaker}
use Rattle.point_core.specs.declared.entry.Entry.{Entry}
use Rattle.point_core.specs.declared.entry.Point.{Point}
use Rattle.point_core.specs.declared.status.Status.TheVariants.{Signalled}
use Rattle.point_core.specs.Usage.{usage_number}
use Rattle.point_core.specs.Agreement.{AgreesAbove, IsReached, as_entry}
use Rattle.point_core.specs.Reach.{GREATEST, is_reached}
use Rattle.point_core.proofs.Agreement.{AgreesAbove-sym, AgreesAbove-trans, AgreesAbove-same_entries}
use Rattle.device_core.specs.declared.fence.Fence.{Fence}
use Rattle.device_core.specs.declared.fence.Signal.{Signal}
use Rattle.device_core.specs.declared.fence.Timeline.{Timeline}
use Rattle.device_core.specs.declared.request.Request.{Request}
use Rattle.device_core.specs.declared.request.Request.TheVariants as request
use Rattle.device_core.specs.theorem.Wrapping.{unwrapped}
use Rattle.device_core.specs.theorem.Fences.{are_signalled, entries_in, pending_of, point_in, status_before}
use Rattle.device_core.specs.theorem.State.{FileState, DeviceState, Objects, file_at, timeline_at, buffer_at, missing_timeline}
use Rattle.device_core.specs.theorem.Request.{value_in, overflow, cause_of, with_at}
use Rattle.device_core.specs.theorem.History.{World, asked, world_after, world_from, world_of, empty_world, AreAccepted, HasHistory, put_after, put_by_export, put_by_import, reach_of, reached_by, sum_of}
use Rattle.device_core.specs.theorem.Buffers.{BufferState, at_usage, entries_of, export_usage, exported, import_usage, none_waits}
use Rattle.device_core.specs.theorem.BufferWorld.{AreBufferFences}
use Rattle.device_core.specs.theorem.Listing.{pending_points}
use Rattle.device_core.specs.theorem.Requests.{is_file, is_timeline, kinds, open_kind}
use Rattle.device_core.specs.theorem.Put.{put_into, puts_from, reach_after, timeline_reach}
use Rattle.device_core.specs.theorem.Signals.{first_name, has_reached, name_in, opened_as, point_status, reached_from, time_in}
use Rattle.device_core.specs.theorem.Headline.{ReportsWhatWasPut, ReportsBuffers, ReportsFences}
use Rattle.device_core.specs.Sound.{IsSound}
use Rattle.device_core.proofs.Exports.{AgreesAbove-at_usage}
use Rattle.device_core.proofs.BufferSteps.{export-step, test-step}
use Rattle.device_core.proofs.Listed.{HasListed-history}
use Rattle.device_core.proofs.Pending.{export-pending, file-pending}
use Rattle.device_core.proofs.Stepping.{no_cause, numbered, given_timelines, IsSound-after, IsSound-empty, IsSound-history}
use Rattle.device_core.proofs.Reporting.{HasSums, HasSums-after, HasSums-empty, HasSums-history, signalled-world}
use Rattle.device_core.proofs.OpenKinds.{HasKinds, HasKinds-after, HasKinds-empty, HasKinds-history}
use Rattle.device_core.proofs.Named.{names-history, opened_in}
use Rattle.device_core.proofs.Signals.{file-status, has_reached_in, reached_in, signals-history}

-- a world whose open objects and values are those of a history
pub record IsSaidBy (w : World) (h : List Request) : Type 0 where
  pub sound : IsSound w
  pub objects : HasKinds w.objects h
  pub sums : HasSums w h

IsSaidBy-after : (w : World) (h : List Request) (r : Request) → IsSaidBy w h → cause_of w.objects r ≡ None → IsSaidBy (world_after w r) (h ++ r ∷ [])
IsSaidBy-after w h r is none = record {
  sound = IsSound-after w r is.sound none;
  objects = HasKinds-after w h r is.sound none is.objects;
  sums = HasSums-after w h r is.sound none is.sums;
}

IsSaidBy-empty : IsSaidBy empty_world []
IsSaidBy-empty = record { sound = IsSound-empty; objects = HasKinds-empty; sums = HasSums-empty }

-- what the timelines have reached
reached-is : (w : World) (h : List Request) → IsSaidBy w h → (n : ℕ) → reached_by (w.objects.timelines n) ≡ timeline_reach h n
reached-is w h is n = go (w.objects.timelines n) refl
  where
    kind : is_some (w.objects.timelines n) ≡ is_timeline (open_kind h n)
    kind = (is.objects.each n).timeline

    go : (o : Option Timeline) → w.objects.timelines n ≡ o → reached_by o ≡ timeline_reach h n
    go None gone = ap (λ b. cond b (sum_of n h) GREATEST) (sym (ap is_some gone) ∙ kind)
    go (Some t) there = is.sums.values n t there ∙ ap (λ b. cond b (sum_of n h) GREATEST) (sym (ap is_some there) ∙ kind)

reach-is : (w : World) (h : List Request) → IsSaidBy w h → reach_of w.objects ≡ reach_after h
reach-is w h is =
    let next = is.objects.next in
    let many : w.objects.next - 1 ≡ length (kinds h) = omega arith in
    (λ i. map (λ n. reached-is w h is n i) (range_with_len 1 (w.objects.next - 1)))
    ∙ ap (λ k. map (timeline_reach h) (range_with_len 1 k)) many

-- what was put into each object
put-step : (w : World) (h : List Request) (put : ℕ → List Entry) (r : Request) → w.put ≡ put → IsSaidBy w h → cause_of w.objects r ≡ None
    → put_after w.put w.objects.next (λ t. value_in (w.objects.timelines t)) r ≡ put_after put (length (kinds h) + 1) (λ t. sum_of t h) r
put-step w h put (request.Open name) same is none = same
put-step w h put (request.Fence t point now) same is none =
    let o = w.objects.timelines t in
    let next = w.objects.next in
    let missing = missing_timeline w.objects t in
    let cause = overflow (unwrapped (value_in o) point) in
    let there = no_cause o cause missing (numbered w.objects (cond (is_some o) cause (Some missing)) none) in
    let sum : value_in o ≡ sum_of t h = ap value_in there.1 ∙ is.sums.values t there.0 there.1 in
    ap (λ p. with_at p next (asked t (value_in o) point)) same
    ∙ ap (λ n. with_at put n (asked t (value_in o) point)) is.objects.next
    ∙ ap (λ v. with_at put (length (kinds h) + 1) (asked t v point)) sum
put-step w h put (request.Inc t n now) same is none = same
put-step w h put (request.Merge a b name) same is none =
    ap (λ (p : ℕ → List Entry). with_at p w.objects.next (p a ++ p b)) same ∙ ap (λ n. with_at put n (put a ++ put b)) is.objects.next
put-step w h put (request.Status file) same is none = same
put-step w h put (request.IsSignalled file) same is none = same
put-step w h put (request.Info file) same is none = same
put-step w h put (request.Close number now) same is none = same
put-step w h put (request.Buffer now) same is none = ap (λ p. with_at p w.objects.next []) same ∙ ap (λ n. with_at put n []) is.objects.next
put-step w h put (request.Export buffer flags) same is none =
    ap (λ (p : ℕ → List Entry). with_at p w.objects.next (put_by_export (export_usage flags) (p buffer))) same
    ∙ ap (λ n. with_at put n (put_by_export (export_usage flags) (put buffer))) is.objects.next
put-step w h put (request.Import buffer file flags) same is none =
    ap (λ (p : ℕ → List Entry). with_at p buffer (put_by_import (import_usage flags) (p buffer) (p file))) same
put-step w h put (request.Test buffer usage) same is none = same

put-from : (rs : List Request) (w : World) (h : List Request) (put : ℕ → List Entry) → w.put ≡ put → IsSaidBy w h → AreAccepted w rs → (world_from w rs).put ≡ puts_from put h rs
put-from [] w h put same is accepted = same
put-from (r ∷ rs) w h put same is accepted =
    put-from rs (world_after w r) (h ++ r ∷ []) (put_after put (length (kinds h) + 1) (λ t. sum_of t h) r) (put-step w h put r same is accepted.0)
    (IsSaidBy-after w h r is accepted.0) accepted.1

pub reach-said : (h : List Request) → AreAccepted empty_world h → reach_of (world_of h).objects ≡ reach_after h
reach-said h accepted =
    reach-is (world_of h) h (record { sound = IsSound-history h accepted; objects = HasKinds-history h accepted; sums = HasSums-history h accepted })

pub put-said : (h : List Request) → AreAccepted empty_world h → (world_of h).put ≡ put_into h
put-said h accepted = put-from h empty_world [] (λ _. []) refl IsSaidBy-empty accepted

-- what is so of the reach and the put sets of the world
pub said : (h : List Request) → AreAccepted empty_world h → (P : List ℕ → (ℕ → List Entry) → Type 0) → P (reach_of (world_of h).objects) (world_of h).put → P (reach_after h) (put_into h)
said h accepted P is =
    subst (λ put. P (reach_after h) put) (put-said h accepted) (subst (λ reach. P reach (world_of h).put) (reach-said h accepted) is)

-- the time at which a file was there and a point reached
has_reached-is : (w : World) (h : List Request) (file : ℕ) (p : Point) → IsSaidBy w h → has_reached_in file p w ≡ has_reached file p h
has_reached-is w h file p is =
    ap (λ b. b && is_reached (reach_of w.objects) p) (is.objects.each file).file
    ∙ ap (λ reach. is_file (open_kind h file) && is_reached reach p) (reach-is w h is)

reached-from : (rs : List Request) (w : World) (h : List Request) (file : ℕ) (p : Point) → IsSaidBy w h → AreAccepted w rs → reached_in file p w rs ≡ reached_from file p h rs
reached-from [] w h file p is accepted = refl
reached-from (r ∷ rs) w h file p is accepted =
    let v = world_after w r in
    let g = h ++ r ∷ [] in
    let after = IsSaidBy-after w h r is accepted.0 in
    ap (λ b. cond b (Some (time_in r)) (reached_in file p v rs)) (has_reached-is v g file p after)
    ∙ ap (λ o. cond (has_reached file p g) (Some (time_in r)) o) (reached-from rs v g file p after accepted.1)

pub reached-said : (h : List Request) → AreAccepted empty_world h → (file : ℕ) (p : Point) → reached_in file p empty_world h ≡ reached_from file p [] h
reached-said h accepted file p = reached-from h empty_world [] file p IsSaidBy-empty accepted

-- the name of a timeline
opened-from : (rs : List Request) (w : World) (h : List Request) (t : ℕ) → IsSaidBy w h → AreAccepted w rs → opened_in t w rs ≡ opened_as t h rs
opened-from [] w h t is accepted = refl
opened-from (r ∷ rs) w h t is accepted =
    let v = world_after w r in
    let g = h ++ r ∷ [] in
    ap (λ n. first_name (name_in t n r) (opened_in t v rs)) is.objects.next
    ∙ ap (first_name (name_in t (length (kinds h) + 1) r)) (opened-from rs v g t (IsSaidBy-after w h r is accepted.0) accepted.1)

pub opened-said : (h : List Request) → AreAccepted empty_world h → (t : ℕ) → opened_in t empty_world h ≡ opened_as t [] h
opened-said h accepted t = opened-from h empty_world [] t IsSaidBy-empty accepted

-- the times and names of the fences of a file
pub times-said : (h : List Request) → AreAccepted empty_world h → (n : ℕ) (f : FileState) → (world_of h).objects.files n ≡ Some f → All (λ (g : Fence). option_map (λ (s : Signal). s.at) g.signal ≡ reached_from n (point_in g) [] h) f.fences
times-said h accepted n f there =
    All-weaker (λ (g : Fence). option_map (λ (s : Signal). s.at) g.signal ≡ reached_in n (point_in g) empty_world h) (λ (g : Fence). option_map (λ (s : Signal). s.at) g.signal ≡ reached_from n (point_in g) [] h)
    (λ g is. is ∙ reached-said h accepted n (point_in g)) f.fences (signals-history h accepted n f there).times

pub names-said : (h : List Request) → AreAccepted empty_world h → (n : ℕ) (f : FileState) → (world_of h).objects.files n ≡ Some f → All (λ (g : Fence). opened_as g.timeline [] h ≡ Some g.name) f.fences
names-said h accepted n f there =
    All-weaker (λ (g : Fence). opened_in g.timeline empty_world h ≡ Some g.name) (λ (g : Fence). opened_as g.timeline [] h ≡ Some g.name)
    (λ g is. sym (opened-said h accepted g.timeline) ∙ is) f.fences (names-history h n f there)

-- the headline
pub ReportsWhatWasPut-stands : (d : DeviceState) (history : List Request) → HasHistory d history → ReportsWhatWasPut d history
ReportsWhatWasPut-stands d history had =
    let w = world_of history in
    let sound = IsSound-history history had.accepted in
    let reach = reach_after history in
    let put = put_into history in
    let there : (n : ℕ) (f : FileState) → file_at d n ≡ Some f → w.objects.files n ≡ Some f = λ n f is. sym (ap (λ (o : Objects). o.files n) had.is) ∙ is in
    let agrees : (n : ℕ) (f : FileState) → file_at d n ≡ Some f → AgreesAbove reach (entries_in f.fences) (put n) = λ n f is.
    said history had.accepted (λ high all. AgreesAbove high (entries_in f.fences) (all n)) (sound.agrees n f (there n f is)) in
    record {
      agrees = agrees;
      same_put = λ a b f g left right same.
          AgreesAbove-trans (agrees a f left) (AgreesAbove-trans (AgreesAbove-same_entries reach (put a) (put b) same.there same.back) (AgreesAbove-sym (agrees b g right)));
      signalled = λ n f is. said history had.accepted (λ high all. (are_signalled f.fences ≡ true) ↔ IsReached (all n) 0 high) (signalled-world w sound n f (there n f is));
      pending = λ n f is.
          said history had.accepted (λ high all. map point_in (pending_of f.fences) ≡ pending_points high (all n) 0)
          (file-pending w.objects f.fences (w.put n) sound.first (sound.fences n f (there n f is)) (sound.agrees n f (there n f is)));
      listed = λ n f is.
          said history had.accepted (λ high all. All (λ (g : Fence). Contains (all n) (as_entry (point_in g))) f.fences)
          ((HasListed-history history had.accepted).files n f (there n f is));
      rising = λ n f is. (sound.fences n f (there n f is)).rising;
    }

pub ReportsBuffers-stands : (d : DeviceState) (history : List Request) → HasHistory d history → ReportsBuffers d history
ReportsBuffers-stands d history had =
    let w = world_of history in
    let sound = IsSound-history history had.accepted in
    let reach = reach_after history in
    let put = put_into history in
    let timelines : timeline_at d ≡ w.objects.timelines = ap (λ (o : Objects). o.timelines) had.is in
    let there : (n : ℕ) (b : BufferState) → buffer_at d n ≡ Some b → w.objects.buffers n ≡ Some b = λ n b is. sym (ap (λ (o : Objects). o.buffers n) had.is) ∙ is in
    let in_world : (n : ℕ) (b : BufferState) → buffer_at d n ≡ Some b → AgreesAbove (reach_of w.objects) (entries_of b.fences) (w.put n) = λ n b is. sound.buffer_agrees n b (there n b is) in
    let agrees : (n : ℕ) (b : BufferState) → buffer_at d n ≡ Some b → AgreesAbove reach (entries_of b.fences) (put n) = λ n b is.
    said history had.accepted (λ high all. AgreesAbove high (entries_of b.fences) (all n)) (in_world n b is) in
    let kept : (n : ℕ) (b : BufferState) → buffer_at d n ≡ Some b → AreBufferFences w.objects b.fences = λ n b is. sound.buffer_fences n b (there n b is) in
    record {
      agrees = agrees;
      same_put = λ m n a b left right same.
          AgreesAbove-trans (agrees m a left) (AgreesAbove-trans (AgreesAbove-same_entries reach (put m) (put n) same.there same.back) (AgreesAbove-sym (agrees n b right)));
      same_as_file = λ m n f b usage left right same.
          AgreesAbove-trans (said history had.accepted (λ high all. AgreesAbove high (entries_in f.fences) (all m)) (sound.agrees m f (sym (ap (λ (o : Objects). o.files m) had.is) ∙ left)))
          (AgreesAbove-trans (AgreesAbove-same_entries reach (put m) (at_usage usage (put n)) same.there same.back)
          (AgreesAbove-sym (AgreesAbove-at_usage reach usage (entries_of b.fences) (put n) (agrees n b right))));
      signalled = λ n b usage is.
          said history had.accepted (λ high all. (none_waits (timeline_at d) usage b.fences ≡ true) ↔ IsReached (all n) (usage_number usage) high)
          (subst (λ ts. (none_waits ts usage b.fences ≡ true) ↔ IsReached (w.put n) (usage_number usage) (reach_of w.objects)) (sym timelines)
          (test-step w.objects usage b.fences (w.put n) (given_timelines w sound) (kept n b is) (in_world n b is)));
      lists = λ n b usage is.
          said history had.accepted (λ high all. map point_in (exported (timeline_at d) usage b.fences) ≡ pending_points high (all n) (usage_number usage))
          (subst (λ ts. map point_in (exported ts usage b.fences) ≡ pending_points (reach_of w.objects) (w.put n) (usage_number usage)) (sym timelines)
          (export-pending w.objects usage b.fences (w.put n) sound.first (given_timelines w sound) (kept n b is)
          (export-step w.objects usage b.fences (w.put n) (given_timelines w sound) (kept n b is) (in_world n b is))));
      exports = λ n b usage is.
          said history had.accepted (λ high all. AgreesAbove high (entries_in (exported (timeline_at d) usage b.fences)) (at_usage usage (all n)))
          (subst (λ ts. AgreesAbove (reach_of w.objects) (entries_in (exported ts usage b.fences)) (at_usage usage (w.put n))) (sym timelines)
          (export-step w.objects usage b.fences (w.put n) (given_timelines w sound) (kept n b is) (in_world n b is)));
    }

pub ReportsFences-stands : (d : DeviceState) (history : List Request) → HasHistory d history → ReportsFences d history
ReportsFences-stands d history had =
    let w = world_of history in
    let timelines : w.objects.timelines ≡ timeline_at d = ap (λ (o : Objects). o.timelines) (sym had.is) in
    let there : (n : ℕ) (f : FileState) → file_at d n ≡ Some f → w.objects.files n ≡ Some f = λ n f is. sym (ap (λ (o : Objects). o.files n) had.is) ∙ is in
    let fences : (n : ℕ) (f : FileState) → file_at d n ≡ Some f → All (λ (g : Fence). status_before g.signal Signalled ≡ point_status (timeline_at d) history (point_in g)) f.fences = λ n f is.
    subst (λ ts. All (λ (g : Fence). status_before g.signal Signalled ≡ point_status ts history (point_in g)) f.fences) timelines
    (signals-history history had.accepted n f (there n f is)).statuses in
    record {
      fences = fences;
      files = λ n f is. file-status (λ (g : Fence). point_status (timeline_at d) history (point_in g)) f.fences (fences n f is);
      times = λ n f is. times-said history had.accepted n f (there n f is);
      names = λ n f is. names-said history had.accepted n f (there n f is);
    }
