-- Which watches fire along a history.
use Rattle.std.proofs.Common.{◌≡◌, ◌≢◌, ℕ, ◌+◌, ◌≤◌, nat_eq, nat_le, Bool, true, false, not, cond, ◌↔◌, IfSome, refl, sym, ap, subst, List, [], ◌∷◌, ◌++◌, map, filter, Contains, arith, inl, inr}
use Rattle.std.specs.List.{count_by, sum_by}
use Rattle.std.proofs.lemmas.Bool.{leb-true, leb-false, eqb-true}
use Rattle.std.proofs.lemmas.List.Sums.{sum_by-append}
use Rattle.std.proofs.lemmas.List.Filters.{sum_by-filter_both}
use Rattle.point_core.specs.Agreement.{IsReached}
use Rattle.point_core.proofs.Reached.{all_reached-IsReached}
use Rattle.timeline_core.specs.Timeline.{has_timeline, value_of, is_closed}
use Rattle.command_core.specs.declared.command.Command.{Command}
use Rattle.command_core.specs.declared.command.Command.TheVariants as command
use Rattle.desk_core.specs.theorem.World.{World, MadeWatch, empty_world, put_set, after, is_due, reach_by, raised_reach, shut_reach, due_watches, other_watches, fired_watches, shut_watches, watch_made}
use Rattle.std.proofs.Common.{◌^◌}
use Rattle.timeline_core.specs.Timeline.{reach_of}
use Rattle.fence_core.proofs.Once.{Contains-filter, Contains-filtered}
use Rattle.desk_core.specs.theorem.Desk.{DeskState, HasHistory}
use Rattle.desk_core.specs.theorem.Headline.{ReportsWhatFires, put_into_file}
use Rattle.desk_core.specs.theorem.History.{world_of}
use Rattle.desk_core.specs.theorem.World.{cookies_of}
use Rattle.desk_core.proofs.Answering.{world_from-push}
use Rattle.desk_core.proofs.Sums.{reported_raised, reported_closed}
use Rattle.desk_core.specs.theorem.Fired.{fired_from, fired_along, pending_after}
use Rattle.std.proofs.lemmas.Bool.{ne_eqb}
use Rattle.std.proofs.lemmas.List.Elements.{Contains-append_left}

abbrev numbers_of : List MadeWatch → List ℕ
numbers_of xs = map (λ (x : MadeWatch). x.number) xs

-- how many of the watches are that registration
abbrev times_pending : ℕ → List MadeWatch → ℕ
times_pending number xs = sum_by (λ (x : MadeWatch). cond (nat_eq number x.number) 1 0) xs

-- 1 if that registration is still to come
abbrev times_to_come : ℕ → ℕ → ℕ
times_to_come number made = cond (nat_le made number) 1 0

times-numbers : (number : ℕ) (xs : List MadeWatch) → count_by (nat_eq number) (numbers_of xs) ≡ times_pending number xs
times-numbers number [] = refl
times-numbers number (x ∷ xs) =
    let here = sum_by-append (λ (k : ℕ). cond (nat_eq number k) 1 0) (x.number ∷ []) (numbers_of xs) in
    let there = sum_by-append (λ (y : MadeWatch). cond (nat_eq number y.number) 1 0) (x ∷ []) xs in
    omega (arith, here, there, times-numbers number xs)

times-parts : (number : ℕ) (w : World) (reach : List ℕ) → times_pending number (due_watches w reach) + times_pending number (other_watches w reach) ≡ times_pending number w.watches
times-parts number w reach = sum_by-filter_both (is_due reach) (λ x. not (is_due reach x)) (λ x. refl) (λ (x : MadeWatch). cond (nat_eq number x.number) 1 0) w.watches

times-filter : (number : ℕ) (p : MadeWatch → Bool) (xs : List MadeWatch) → times_pending number (filter p xs) ≤ times_pending number xs
times-filter number p xs =
    let both = sum_by-filter_both p (λ x. not (p x)) (λ x. refl) (λ (x : MadeWatch). cond (nat_eq number x.number) 1 0) xs in
    omega arith

times_to_come-next : (number made : ℕ) → cond (nat_eq number made) 1 0 + times_to_come number (made + 1) ≤ times_to_come number made
times_to_come-next number made = by (nat_eq number made) (nat_le (made + 1) number) (nat_le made number) refl refl refl
  where
    by : (same above here : Bool) → nat_eq number made ≡ same → nat_le (made + 1) number ≡ above → nat_le made number ≡ here → cond same 1 0 + cond above 1 0 ≤ cond here 1 0
    by true true here e f g = let is = eqb-true number made e in let low = leb-true (made + 1) number f in absurd (omega arith)
    by true false true e f g = omega arith
    by true false false e f g = let is = eqb-true number made e in let low = leb-false made number g in absurd (omega arith)
    by false true true e f g = omega arith
    by false true false e f g = let low = leb-true (made + 1) number f in let high = leb-false made number g in absurd (omega arith)
    by false false here e f g = omega arith

-- a registration fires as often as it is pending or still to come, at most
Fired-from : (number : ℕ) (w : World) (cs : List Command) → count_by (nat_eq number) (fired_from w cs) ≤ times_pending number w.watches + times_to_come number w.watches_made
Fired-from number w [] = omega arith
Fired-from number w (command.Inc t n ∷ cs) =
    let rest = Fired-from number (after w (command.Inc t n)) cs in
    let here = times-numbers number (fired_watches w t n) in
    let both = sum_by-append (λ (k : ℕ). cond (nat_eq number k) 1 0) (numbers_of (fired_watches w t n)) (fired_from (after w (command.Inc t n)) cs) in
    omega (arith, rest, here, both, times-parts number w (raised_reach w t n))
Fired-from number w (command.Shut t ∷ cs) =
    let rest = Fired-from number (after w (command.Shut t)) cs in
    let here = times-numbers number (shut_watches w t) in
    let both = sum_by-append (λ (k : ℕ). cond (nat_eq number k) 1 0) (numbers_of (shut_watches w t)) (fired_from (after w (command.Shut t)) cs) in
    omega (arith, rest, here, both, times-parts number w (shut_reach w t))
Fired-from number w (command.Watch f cookie ∷ cs) =
    let rest = Fired-from number (after w (command.Watch f cookie)) cs in
    let more = sum_by-append (λ (x : MadeWatch). cond (nat_eq number x.number) 1 0) w.watches (watch_made cookie (put_set w.files f) w.watches_made ∷ []) in
    omega (arith, rest, more, times_to_come-next number w.watches_made)
Fired-from number w (command.Unwatch cookie ∷ cs) =
    let rest = Fired-from number (after w (command.Unwatch cookie)) cs in
    omega (arith, rest, times-filter number (λ (x : MadeWatch). not (nat_eq x.cookie cookie)) w.watches)
Fired-from number w (c ∷ cs) = Fired-from number (after w c) cs

at_most_one : (b : Bool) → cond b 1 0 ≤ 1
at_most_one true = omega arith
at_most_one false = omega arith

-- along a history each registration fires once, at most
pub fired_along-once : (number : ℕ) (history : List Command) → count_by (nat_eq number) (fired_along history) ≤ 1
fired_along-once number history = omega (arith, Fired-from number empty_world history, at_most_one (nat_le 0 number))

-- what an increment or a closing fires

pub Contains-due : (w : World) (reach : List ℕ) (x : MadeWatch) → Contains (due_watches w reach) x ↔ (Contains w.watches x × IsReached x.put 0 reach)
Contains-due w reach x =
    let reported = all_reached-IsReached reach 0 x.put in (
      λ fired. let both = Contains-filtered (is_due reach) w.watches x fired in (both.0, reported.0 both.1),
      λ due. Contains-filter (is_due reach) w.watches x due.0 (reported.1 due.1),
    )

pub ReportsWhatFires-stands : (desk : DeskState) (history : List Command) → HasHistory desk history → ReportsWhatFires desk history
ReportsWhatFires-stands desk history stands =
    let world : World = world_of history in
    record {
      reported = λ name n value fired given. elim ((given history stands).reported) [
        | inl is ↦ (reported_raised (has_timeline world.timelines name) (is_closed world.timelines name) (nat_le (2 ^ 64) (value_of world.timelines name + n)) value (value_of world.timelines name + n) fired (cookies_of (fired_watches world name n)) is).2
        | inr none ↦ absurd (cc (none.0))
      ];
      due = λ name n x.
          let P : World → Type 0 = λ w. Contains (fired_watches world name n) x ↔ (Contains world.watches x × IsReached x.put 0 (reach_of w.timelines)) in
          subst P (sym (world_from-push empty_world history (command.Inc name n))) (Contains-due world (raised_reach world name n) x);
      reported_shut = λ name value fired given. elim ((given history stands).reported) [
        | inl is ↦ (reported_closed (has_timeline world.timelines name) (is_closed world.timelines name) value (value_of world.timelines name) fired (cookies_of (shut_watches world name)) is).2
        | inr none ↦ absurd (cc (none.0))
      ];
      due_shut = λ name x.
          let P : World → Type 0 = λ w. Contains (shut_watches world name) x ↔ (Contains world.watches x × IsReached x.put 0 (reach_of w.timelines)) in
          subst P (sym (world_from-push empty_world history (command.Shut name))) (Contains-due world (shut_reach world name) x);
      once = λ number. fired_along-once number history;
    }

-- what stays pending

-- the command doesn't remove the watch, and doesn't reach all that was put into its file
abbrev IsLeftBy : World → MadeWatch → Command → Type 0
IsLeftBy w x c = (c ≢ command.Unwatch x.cookie) × IfSome (reach_by w.timelines c) (λ reach. is_due reach x ≡ false)

Contains-after : (w : World) (x : MadeWatch) (c : Command) → Contains w.watches x → IsLeftBy w x c → Contains (after w c).watches x
Contains-after w x (command.Inc t n) h left = Contains-filter (λ (y : MadeWatch). not (is_due (raised_reach w t n) y)) w.watches x h (ap not left.1)
Contains-after w x (command.Shut t) h left = Contains-filter (λ (y : MadeWatch). not (is_due (shut_reach w t) y)) w.watches x h (ap not left.1)
Contains-after w x (command.Unwatch cookie) h left = Contains-filter (λ (y : MadeWatch). not (nat_eq y.cookie cookie)) w.watches x h (ap not (ne_eqb x.cookie cookie (λ same. left.0 (ap command.Unwatch (sym same)))))
Contains-after w x (command.Watch f cookie) h left = Contains-append_left w.watches (watch_made cookie (put_set w.files f) w.watches_made ∷ []) x h
Contains-after w x _ h left = h

-- a watch stays as it was registered, until it is removed or fires
pub pending_after-left : (history : List Command) (c : Command) (x : MadeWatch) → Contains (pending_after history) x → c ≢ command.Unwatch x.cookie → IfSome (reach_by (world_of history).timelines c) (λ reach. is_due reach x ≡ false) → Contains (pending_after (history ++ c ∷ [])) x
pending_after-left history c x h stays pending =
    let P : World → Type 0 = λ w. Contains w.watches x in
    subst P (sym (world_from-push empty_world history c)) (Contains-after (world_of history) x c h (stays, pending))

pub pending_after-watch : (history : List Command) (f : List ℕ) (cookie : ℕ) → pending_after (history ++ command.Watch f cookie ∷ []) ≡ pending_after history ++ watch_made cookie (put_into_file history f) ((world_of history).watches_made) ∷ []
pending_after-watch history f cookie = ap (λ (w : World). w.watches) (world_from-push empty_world history (command.Watch f cookie))
