-- A value is the sum of the accepted increments of its name.
use Rattle.std.proofs.Common.{◌≡◌, ℕ, ◌+◌, Bool, true, false, not, ◌||◌, refl, sym, ap, subst, ◌∙◌, List, [], ◌∷◌, ◌++◌, length, None, Some, arith, nat_eq, append_assoc, append-nil, inl, inr}
use Rattle.std.specs.Prelude.{if◌then◌else◌, nat_le, ◌^◌}
use Rattle.std.specs.List.{list_any}
use Rattle.std.specs.Cmp.Lexicographic.{same_text}
use Rattle.std.proofs.lemmas.List.Sums.{sum_by-append}
use Rattle.std.proofs.lemmas.Grind.{flat_map-append}
use Rattle.std.proofs.lemmas.List.Elements.{All-nil, All-push, All-weaker, All-map}
use Rattle.point_core.specs.declared.context.TheConstants.{CONTEXTS}
use Rattle.point_core.specs.declared.refusal.Refusal.TheVariants.{NoEntry, Exists, Overflow, Limit, Cancelled as AlreadyClosed}
use Rattle.point_core.specs.declared.refusal.LimitKind.TheVariants.{Timelines}
use Rattle.timeline_core.specs.Timeline.{Timeline, new_timeline, has_timeline, timeline_of, clock_named, value_of, is_closed, raised, shut, is_named, raised_by, closed_timeline}
use Rattle.timeline_core.specs.Sums.{Increment, incremented, AreSums}
use Rattle.timeline_core.proofs.Lookups.{has_timeline-names_of}
use Rattle.timeline_core.proofs.Places.{timeline_at-clock_named}
use Rattle.timeline_core.proofs.Raising.{names_of-raised, names_of-shut}
use Rattle.command_core.specs.declared.answer.Answer.TheVariants as answer
use Rattle.command_core.specs.declared.command.Command.{Command}
use Rattle.command_core.specs.declared.command.Command.TheVariants as command
use Rattle.desk_core.specs.theorem.World.{World, empty_world, after, fired_watches, shut_watches, cookies_of, increment_in}
use Rattle.point_core.specs.Named.{same_name}
use Rattle.point_core.proofs.Named.{find-All}
use Rattle.desk_core.specs.theorem.Answer.{first_of, cause, causes, refused_or}
use Rattle.desk_core.specs.theorem.History.{world_from, world_of, AreAccepted, IsHistory, increments_in}
use Rattle.desk_core.specs.theorem.Desk.{DeskState, HasHistory}
use Rattle.desk_core.specs.theorem.Headline.{ReportsSums}
use Rattle.desk_core.proofs.Sound.{first_of-none, causes-accepted, not-false}
use lib.Pointwise.{pointwise}

increments_in-push : (done : List Command) (c : Command) → increments_in (done ++ c ∷ []) ≡ increments_in done ++ increment_in c
increments_in-push done c = flat_map-append increment_in done (c ∷ []) ∙ ap (λ is. increments_in done ++ is) (append-nil (increment_in c))

part_of : List ℕ → Increment → ℕ
part_of name i = if same_name name i.name then i.by else 0

incremented-push : (done : List Command) (c : Command) (name : List ℕ) → incremented (increments_in (done ++ c ∷ [])) name ≡ incremented (increments_in done) name + incremented (increment_in c) name
unfolding part_of
incremented-push done c name =
    ap (λ is. incremented is name) (increments_in-push done c)
    ∙ sum_by-append (part_of name) (increments_in done) (increment_in c)

incremented-inc : (done : List Command) (t : List ℕ) (n : ℕ) (name : List ℕ) → incremented (increments_in (done ++ command.Inc t n ∷ [])) name ≡ incremented (increments_in done) name + (if same_name name t then n else 0)
incremented-inc done t n name = incremented-push done (command.Inc t n) name ∙ omega arith

-- each value is the sum, and a name that means nothing has no increments
record Sums (w : World) (done : List Command) : Type 0 where
  kept : AreSums w.timelines (increments_in done)
  missing : (name : List ℕ) → has_timeline w.timelines name ≡ false → incremented (increments_in done) name ≡ 0

-- a command that adds nothing
Sums-same : (w : World) (done : List Command) (c : Command) → ((name : List ℕ) → incremented (increment_in c) name ≡ 0) → Sums w done → Sums w (done ++ c ∷ [])
Sums-same w done c none s = record {
  kept = All-weaker (λ (t : Timeline). t.value ≡ incremented (increments_in done) t.name) (λ (t : Timeline). t.value ≡ incremented (increments_in (done ++ c ∷ [])) t.name) (λ t is. omega (arith, incremented-push done c t.name, none t.name)) w.timelines s.kept;
  missing = λ name is. omega (arith, s.missing name is, incremented-push done c name, none name);
}

or-false : (b rest rest' : Bool) → (rest ≡ false → rest' ≡ false) → (b || rest) ≡ false → (b || rest') ≡ false
or-false true rest rest' h is = absurd (cc)
or-false false rest rest' h is = h is

has_timeline-append : (ts : List Timeline) (t : Timeline) (name : List ℕ) → has_timeline (ts ++ t ∷ []) name ≡ false → has_timeline ts name ≡ false
has_timeline-append [] t name is = refl
has_timeline-append (u ∷ ts) t name is = or-false (is_named name u) (has_timeline (ts ++ t ∷ []) name) (has_timeline ts name) (λ h. has_timeline-append ts t name h) is

has_timeline-raised : (ts : List Timeline) (t : List ℕ) (n : ℕ) (name : List ℕ) → has_timeline (raised ts t n) name ≡ has_timeline ts name
has_timeline-raised ts t n name =
    sym (has_timeline-names_of (raised ts t n) name)
    ∙ ap (λ ns. list_any (pointwise nat_eq name) ns) (names_of-raised ts t n)
    ∙ has_timeline-names_of ts name

raised-sum : (b : Bool) (n : ℕ) (u : Timeline) (total : List ℕ → ℕ) (total' : List ℕ → ℕ) → u.value ≡ total u.name → total' u.name ≡ total u.name + (if b then n else 0) → (if b then raised_by n u else u).value ≡ total' (if b then raised_by n u else u).name
raised-sum true n u total total' is more = omega arith
raised-sum false n u total total' is more = omega arith

has_timeline-shut : (ts : List Timeline) (t name : List ℕ) → has_timeline (shut ts t) name ≡ has_timeline ts name
has_timeline-shut ts t name =
    sym (has_timeline-names_of (shut ts t) name)
    ∙ ap (λ ns. list_any (pointwise nat_eq name) ns) (names_of-shut ts t)
    ∙ has_timeline-names_of ts name

closed-sum : (b : Bool) (u : Timeline) (total : List ℕ → ℕ) → u.value ≡ total u.name → (if b then closed_timeline u else u).value ≡ total (if b then closed_timeline u else u).name
closed-sum true u total is = is
closed-sum false u total is = is

added_none : (b : Bool) (n : ℕ) → (b ≡ true → ⊥) → (if b then n else 0) ≡ 0
added_none true n h = absurd (h refl)
added_none false n h = refl

Sums-inc : (w : World) (done : List Command) (t : List ℕ) (n : ℕ) → has_timeline w.timelines t ≡ true → Sums w done → Sums (after w (command.Inc t n)) (done ++ command.Inc t n ∷ [])
Sums-inc w done t n has s =
    let done' : List Command = done ++ command.Inc t n ∷ [] in
    let P : Timeline → Type 0 = λ u. u.value ≡ incremented (increments_in done') u.name in
    record {
      kept = All-map P (λ u. if is_named t u then raised_by n u else u) w.timelines
          (All-weaker (λ (u : Timeline). u.value ≡ incremented (increments_in done) u.name) (λ (u : Timeline). P (if is_named t u then raised_by n u else u))
          (λ u is. raised-sum (is_named t u) n u (incremented (increments_in done)) (incremented (increments_in done')) is (incremented-inc done t n u.name)) w.timelines s.kept);
      missing = λ name is.
          let absent : has_timeline w.timelines name ≡ false = sym (has_timeline-raised w.timelines t n name) ∙ is in
          let none = added_none (same_name name t) n (λ same. let is' = same_text name t (sym same) in absurd (cc)) in
          omega (arith, s.missing name absent, incremented-inc done t n name, none);
    }

-- a closing adds nothing
Sums-shut : (w : World) (done : List Command) (t : List ℕ) → Sums w done → Sums (after w (command.Shut t)) (done ++ command.Shut t ∷ [])
Sums-shut w done t s =
    let same = Sums-same w done (command.Shut t) (λ name. refl) s in
    let total : List ℕ → ℕ = incremented (increments_in (done ++ command.Shut t ∷ [])) in
    let P : Timeline → Type 0 = λ u. u.value ≡ total u.name in
    record {
      kept = All-map P (λ u. if is_named t u then closed_timeline u else u) w.timelines
          (All-weaker P (λ (u : Timeline). P (if is_named t u then closed_timeline u else u)) (λ u is. closed-sum (is_named t u) u total is) w.timelines same.kept);
      missing = λ name is. same.missing name (sym (has_timeline-shut w.timelines t name) ∙ is);
    }

Sums-after : (w : World) (done : List Command) (c : Command) → Sums w done → first_of (causes w c) ≡ None → Sums (after w c) (done ++ c ∷ [])
Sums-after w done (command.Timeline t) s is =
    let absent = (first_of-none (has_timeline w.timelines t) Exists (cause (nat_le CONTEXTS (length w.timelines)) (Limit Timelines) ∷ []) is).0 in
    let same = Sums-same w done (command.Timeline t) (λ name. refl) s in
    record {
      kept = All-push (λ (u : Timeline). u.value ≡ incremented (increments_in (done ++ command.Timeline t ∷ [])) u.name) w.timelines (new_timeline t) same.kept (sym (same.missing t absent));
      missing = λ name is'. same.missing name (has_timeline-append w.timelines (new_timeline t) name is');
    }
Sums-after w done (command.Inc t n) s is = Sums-inc w done t n (not-false (has_timeline w.timelines t) (first_of-none (not (has_timeline w.timelines t)) NoEntry (cause (is_closed w.timelines t) AlreadyClosed ∷ cause (nat_le (2 ^ 64) (value_of w.timelines t + n)) Overflow ∷ []) is).0) s
Sums-after w done (command.Shut t) s is = Sums-shut w done t s
Sums-after w done c s is = let h = Sums-same w done c (λ name. refl) s in record { kept = h.kept; missing = h.missing }

AreSums-from : (w : World) (done history : List Command) → Sums w done → AreAccepted w history → AreSums (world_from w history).timelines (increments_in (done ++ history))
AreSums-from w done [] s accepted = rw (append-nil done) s.kept
AreSums-from w done (c ∷ history) s accepted =
    let P : List Command → Type 0 = λ all. AreSums (world_from w (c ∷ history)).timelines (increments_in all) in
    subst P (append_assoc done (c ∷ []) history)
    (AreSums-from (after w c) (done ++ c ∷ []) history (Sums-after w done c s (causes-accepted w c accepted.0)) accepted.1)

pub AreSums-history : (history : List Command) → IsHistory history → AreSums (world_of history).timelines (increments_in history)
AreSums-history history accepted = AreSums-from empty_world [] history (record { kept = All-nil (λ (t : Timeline). t.value ≡ 0); missing = λ name is. refl }) accepted

-- what is reported

-- the value of a name is its sum
value_of-sum : (ts : List Timeline) (history : List Command) (name : List ℕ) → AreSums ts (increments_in history) → has_timeline ts name ≡ true → value_of ts name ≡ incremented (increments_in history) name
value_of-sum ts history name sums has = find-All (λ (t : Timeline). t.value ≡ incremented (increments_in history) t.name) (is_named name) ts (timeline_of name (clock_named ts name)) sums (timeline_at-clock_named ts name has)

reported_value : (b : Bool) (value v : ℕ) → answer.Value value ≡ refused_or (if not b then Some NoEntry else None) (answer.Value v) → (b ≡ true) × (value ≡ v)
reported_value true value v is = (refl, cc)
reported_value false value v is = absurd (cc)

pub reported_raised : (b closed past : Bool) (value v : ℕ) (fired rest : List ℕ) → answer.Raised value fired ≡ refused_or (if not b then Some NoEntry else (if closed then Some AlreadyClosed else (if past then Some Overflow else None))) (answer.Raised v rest) → (b ≡ true) × (value ≡ v) × (fired ≡ rest)
reported_raised true true past value v fired rest is = absurd (cc)
reported_raised true false true value v fired rest is = absurd (cc)
reported_raised true false false value v fired rest is = (refl, cc, cc)
reported_raised false closed past value v fired rest is = absurd (cc)

pub reported_closed : (b closed : Bool) (value v : ℕ) (fired rest : List ℕ) → answer.Raised value fired ≡ refused_or (if not b then Some NoEntry else (if closed then Some AlreadyClosed else None)) (answer.Raised v rest) → (b ≡ true) × (value ≡ v) × (fired ≡ rest)
reported_closed true true value v fired rest is = absurd (cc)
reported_closed true false value v fired rest is = (refl, cc, cc)
reported_closed false closed value v fired rest is = absurd (cc)

pub ReportsSums-stands : (desk : DeskState) (history : List Command) → HasHistory desk history → ReportsSums desk history
ReportsSums-stands desk history stands =
    let sums = AreSums-history history stands.accepted in
    record {
      kept = rw (stands.holds.timelines) sums;
      reported = λ name value given. elim ((given history stands).reported) [
        | inl is ↦ let h = reported_value (has_timeline (world_of history).timelines name) value (value_of (world_of history).timelines name) is in h.1 ∙ value_of-sum (world_of history).timelines history name sums h.0
        | inr none ↦ absurd (cc (none.0))
      ];
      raised = λ name n value fired given. elim ((given history stands).reported) [
        | inl is ↦ let h = reported_raised (has_timeline (world_of history).timelines name) (is_closed (world_of history).timelines name) (nat_le (2 ^ 64) (value_of (world_of history).timelines name + n)) value (value_of (world_of history).timelines name + n) fired (cookies_of (fired_watches (world_of history) name n)) is in h.1 ∙ ap (λ v. v + n) (value_of-sum (world_of history).timelines history name sums h.0)
        | inr none ↦ absurd (cc (none.0))
      ];
      shut = λ name value fired given. elim ((given history stands).reported) [
        | inl is ↦ let h = reported_closed (has_timeline (world_of history).timelines name) (is_closed (world_of history).timelines name) value (value_of (world_of history).timelines name) fired (cookies_of (shut_watches (world_of history) name)) is in h.1 ∙ value_of-sum (world_of history).timelines history name sums h.0
        | inr none ↦ absurd (cc (none.0))
      ];
    }
