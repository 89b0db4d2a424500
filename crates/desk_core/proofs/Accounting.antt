-- Over a run, each watch that was registered has fired, was removed or is pending.
use Rattle.std.proofs.Common.{◌≡◌, ℕ, ◌+◌, ◌≤◌, nat_eq, Bool, true, false, not, ◌&&◌, ◌||◌, cond, refl, sym, ap, subst, ◌∙◌, List, [], ◌∷◌, ◌++◌, filter, Option, None, Some, arith, inl, inr}
use Rattle.std.specs.Prelude.{if◌then◌else◌}
use Rattle.std.specs.List.{count_by, sum_by, flat_map, zip, AllZip}
use Rattle.std.proofs.Math.Bool.{and-false}
use Rattle.std.proofs.lemmas.Bool.{eqb-true}
use Rattle.std.proofs.lemmas.List.Sums.{sum_by-cons, sum_by-append, sum_by_push}
use Rattle.std.proofs.lemmas.List.Filters.{sum_by-filter_both}
use Rattle.point_core.specs.declared.refusal.Refusal.{Refusal}
use Rattle.point_core.specs.declared.refusal.Refusal.TheVariants.{NoEntry, Exists, Limit, Memory, Signalled as AlreadySignalled}
use Rattle.point_core.specs.declared.refusal.LimitKind.TheVariants.{Watches}
use Rattle.command_core.specs.declared.command.Command.{Command}
use Rattle.command_core.specs.declared.command.Command.TheVariants as command
use Rattle.command_core.specs.declared.answer.Answer.{Answer}
use Rattle.command_core.specs.declared.answer.Answer.TheVariants as answer
use Rattle.fence_core.specs.Watch.{Watch, IsWatchOf, cookies_of as kept_cookies}
use Rattle.timeline_core.specs.Timeline.{reach_of}
use Rattle.desk_core.specs.theorem.World.{World, MadeFile, MadeWatch, empty_world, after, file_named, has_file, put_set, has_made_watch, watches_without, watch_made, is_due, raised_reach, shut_reach, other_watches, fired_watches, shut_watches, cookies_of}
use Rattle.desk_core.specs.theorem.Answer.{first_of, causes, reported, info_reported, answer_to, refused_or, is_refused, is_full, is_signalled, number_if}
use Rattle.desk_core.specs.theorem.History.{world_from, world_of, AreAccepted, IsHistory, IsAnswer, history_after, history_of, AreAnswers}
use Rattle.desk_core.specs.theorem.Desk.{DeskState, HasHistory}
use Rattle.desk_core.specs.theorem.Times.{is_unwatch_of, reports_one, fired_reported, registers, removes, times_registered, times_removed, times_fired, times_pending}
use Rattle.desk_core.specs.theorem.Headline.{ReportsEachWatch}
use Rattle.desk_core.proofs.Answering.{world_from-push, is_refused-reported, AreAccepted-push}
use Rattle.desk_core.proofs.Watching.{cookie_of, put_of}

abbrev one_if : Bool → ℕ
one_if b = cond b 1 0

-- 1 for a watch of the cookie
abbrev one_of : ℕ → MadeWatch → ℕ
one_of cookie x = cond (nat_eq x.cookie cookie) 1 0

-- how many of the watches have the cookie
abbrev pending : ℕ → List MadeWatch → ℕ
pending cookie xs = sum_by (one_of cookie) xs

-- how many of the cookies are that one
abbrev times : ℕ → List ℕ → ℕ
times cookie ks = count_by (λ k. nat_eq k cookie) ks

times-cookies : (cookie : ℕ) (xs : List MadeWatch) → times cookie (cookies_of xs) ≡ pending cookie xs
times-cookies cookie [] = refl
times-cookies cookie (x ∷ xs) =
    let here = sum_by-cons (λ (k : ℕ). cond (nat_eq k cookie) 1 0) x.cookie (cookies_of xs) in
    let there = sum_by-cons (one_of cookie) x xs in
    omega (arith, here, there, times-cookies cookie xs)

pending-filter : (cookie : ℕ) (p : MadeWatch → Bool) (xs : List MadeWatch) → pending cookie (filter p xs) ≤ pending cookie xs
pending-filter cookie p xs =
    let both = sum_by-filter_both p (λ x. not (p x)) (λ x. refl) (one_of cookie) xs in
    omega (arith, both)

-- if no watch has the cookie, and if one has

none_by : (b rest : Bool) (n all : ℕ) → (b || rest) ≡ false → all ≡ cond b 1 0 + n → (rest ≡ false → n ≡ 0) → all ≡ 0
none_by true rest n all is sum less = absurd (cc)
none_by false rest n all is sum less = let none : n ≡ 0 = less is in let whole : all ≡ 0 + n = sum in omega arith

none-pending : (cookie : ℕ) (xs : List MadeWatch) → has_made_watch xs cookie ≡ false → pending cookie xs ≡ 0
none-pending cookie [] is = refl
none-pending cookie (x ∷ xs) is = none_by (nat_eq x.cookie cookie) (has_made_watch xs cookie) (pending cookie xs) (pending cookie (x ∷ xs)) is (sum_by-cons (one_of cookie) x xs) (none-pending cookie xs)

some_by : (b rest : Bool) (n all : ℕ) → (b || rest) ≡ true → all ≡ cond b 1 0 + n → (rest ≡ true → 1 ≤ n) → 1 ≤ all
some_by true rest n all is sum more = let whole : all ≡ 1 + n = sum in omega arith
some_by false rest n all is sum more = let some : 1 ≤ n = more is in let whole : all ≡ 0 + n = sum in omega arith

some-pending : (cookie : ℕ) (xs : List MadeWatch) → has_made_watch xs cookie ≡ true → 1 ≤ pending cookie xs
some-pending cookie [] is = absurd (cc)
some-pending cookie (x ∷ xs) is = some_by (nat_eq x.cookie cookie) (has_made_watch xs cookie) (pending cookie xs) (pending cookie (x ∷ xs)) is (sum_by-cons (one_of cookie) x xs) (some-pending cookie xs)

-- the pending watches after a cookie is removed

out_by : (cookie : ℕ) (x : MadeWatch) (b : Bool) (less : List MadeWatch) → nat_eq x.cookie cookie ≡ b → pending cookie less ≡ 0 → pending cookie (cond (not b) (x ∷ less) less) ≡ 0
out_by cookie x true less is none = none
out_by cookie x false less is none =
    let here : one_of cookie x ≡ 0 = ap (λ b. cond b 1 0) is in
    omega (arith, sum_by-cons (one_of cookie) x less, here, none)

pending-without : (cookie : ℕ) (xs : List MadeWatch) → pending cookie (watches_without xs cookie) ≡ 0
pending-without cookie [] = refl
pending-without cookie (x ∷ xs) = out_by cookie x (nat_eq x.cookie cookie) (watches_without xs cookie) refl (pending-without cookie xs)

other_by : (cookie other : ℕ) (x : MadeWatch) (b : Bool) (less xs : List MadeWatch) → nat_eq x.cookie other ≡ b → nat_eq other cookie ≡ false → pending cookie less ≡ pending cookie xs → pending cookie (cond (not b) (x ∷ less) less) ≡ pending cookie (x ∷ xs)
other_by cookie other x true less xs is apart same =
    let here : one_of cookie x ≡ 0 = ap (λ k. cond (nat_eq k cookie) 1 0) (eqb-true x.cookie other is) ∙ ap (λ b. cond b 1 0) apart in
    let whole = sum_by-cons (one_of cookie) x xs in
    omega (arith, whole, here, same)
other_by cookie other x false less xs is apart same =
    let whole = sum_by-cons (one_of cookie) x xs in
    let part = sum_by-cons (one_of cookie) x less in
    omega (arith, whole, part, same)

pending-others : (cookie other : ℕ) (xs : List MadeWatch) → nat_eq other cookie ≡ false → pending cookie (watches_without xs other) ≡ pending cookie xs
pending-others cookie other [] apart = refl
pending-others cookie other (x ∷ xs) apart = other_by cookie other x (nat_eq x.cookie other) (watches_without xs other) xs refl apart (pending-others cookie other xs apart)

unwatched_by : (cookie other : ℕ) (ws : List MadeWatch) → pending cookie ws ≤ 1 → (b has : Bool) → nat_eq other cookie ≡ b → has_made_watch ws other ≡ has → 0 + pending cookie ws ≡ 0 + cond (b && reports_one (answer.Value (number_if has))) 1 0 + pending cookie (watches_without ws other)
unwatched_by cookie other ws low true true is there =
    let same = eqb-true other cookie is in
    let some = subst (λ k. 1 ≤ pending k ws) same (some-pending other ws there) in
    let none = subst (λ k. pending k (watches_without ws other) ≡ 0) same (pending-without other ws) in
    let whole : 0 + pending cookie ws ≡ 0 + 1 + pending cookie (watches_without ws other) = omega (arith, some, none, low) in
    whole
unwatched_by cookie other ws low true false is absent =
    let same = eqb-true other cookie is in
    let before = subst (λ k. pending k ws ≡ 0) same (none-pending other ws absent) in
    let none = subst (λ k. pending k (watches_without ws other) ≡ 0) same (pending-without other ws) in
    let whole : 0 + pending cookie ws ≡ 0 + 0 + pending cookie (watches_without ws other) = omega (arith, before, none) in
    whole
unwatched_by cookie other ws low false has is there =
    let others = pending-others cookie other ws is in
    let whole : 0 + pending cookie ws ≡ 0 + 0 + pending cookie (watches_without ws other) = omega (arith, others) in
    whole

-- one command

-- what was pending and is registered has fired, is removed or is pending then
abbrev Accounts : ℕ → Command → Answer → ℕ → ℕ → Type 0
Accounts cookie c a before later = cond (registers cookie (c, a)) 1 0 + before ≡ times cookie (fired_reported a) + cond (removes cookie (c, a)) 1 0 + later

still : (n : ℕ) → 0 + n ≡ 0 + 0 + n
still n = omega arith

Accounts-info : (cookie : ℕ) (w : World) (f : List ℕ) (o : Option MadeFile) → Accounts cookie (command.Info f) (info_reported w f o) (pending cookie w.watches) (pending cookie w.watches)
Accounts-info cookie w f None = still (pending cookie w.watches)
Accounts-info cookie w f (Some g) = still (pending cookie w.watches)

Accounts-reported : (cookie : ℕ) (w : World) (c : Command) → pending cookie w.watches ≤ 1 → Accounts cookie c (reported w c) (pending cookie w.watches) (pending cookie (after w c).watches)
Accounts-reported cookie w (command.Inc t n) low =
    let parts = sum_by-filter_both (is_due (raised_reach w t n)) (λ x. not (is_due (raised_reach w t n) x)) (λ x. refl) (one_of cookie) w.watches in
    let fired = times-cookies cookie (fired_watches w t n) in
    let whole : 0 + pending cookie w.watches ≡ times cookie (cookies_of (fired_watches w t n)) + 0 + pending cookie (other_watches w (raised_reach w t n)) = omega (arith, parts, fired) in
    whole
Accounts-reported cookie w (command.Shut t) low =
    let parts = sum_by-filter_both (is_due (shut_reach w t)) (λ x. not (is_due (shut_reach w t) x)) (λ x. refl) (one_of cookie) w.watches in
    let fired = times-cookies cookie (shut_watches w t) in
    let whole : 0 + pending cookie w.watches ≡ times cookie (cookies_of (shut_watches w t)) + 0 + pending cookie (other_watches w (shut_reach w t)) = omega (arith, parts, fired) in
    whole
Accounts-reported cookie w (command.Watch f other) low =
    let x : MadeWatch = watch_made other (put_set w.files f) w.watches_made in
    let more = sum_by_push (one_of cookie) w.watches x in
    let whole : cond (nat_eq other cookie) 1 0 + pending cookie w.watches ≡ 0 + 0 + pending cookie (w.watches ++ x ∷ []) = omega (arith, more) in
    whole
Accounts-reported cookie w (command.Unwatch other) low = unwatched_by cookie other w.watches low (nat_eq other cookie) (has_made_watch w.watches other) refl refl
Accounts-reported cookie w (command.Info f) low = Accounts-info cookie w f (file_named w.files f)
Accounts-reported cookie w _ low = still (pending cookie w.watches)

Accounts-refused : (cookie : ℕ) (c : Command) (r : Refusal) (n : ℕ) → Accounts cookie c (answer.Refused r) n n
Accounts-refused cookie c r n =
    let none : one_if (is_unwatch_of cookie c && false) ≡ 0 = ap one_if (and-false (is_unwatch_of cookie c)) in
    let whole : 0 + n ≡ 0 + one_if (is_unwatch_of cookie c && false) + n = omega (arith, none) in
    whole

-- no cookie is pending twice

free_by : (missing there : Bool) (rest : Option Refusal) (a : Answer) → is_refused (refused_or (if missing then Some NoEntry else (if there then Some Exists else rest)) a) ≡ false → there ≡ false
free_by true there rest a is = absurd (cc)
free_by false true rest a is = absurd (cc)
free_by false false rest a is = refl

once_by : (cookie other : ℕ) (ws : List MadeWatch) (b : Bool) (all : ℕ) → nat_eq other cookie ≡ b → pending other ws ≡ 0 → pending cookie ws ≤ 1 → all ≡ pending cookie ws + cond b 1 0 → all ≤ 1
once_by cookie other ws true all is none low sum =
    let before = subst (λ k. pending k ws ≡ 0) (eqb-true other cookie is) none in
    let whole : all ≡ pending cookie ws + 1 = sum in
    omega (arith, before, whole)
once_by cookie other ws false all is none low sum = let whole : all ≡ pending cookie ws + 0 = sum in omega (arith, low, whole)

once-after : (cookie : ℕ) (w : World) (c : Command) → is_refused (answer_to w c) ≡ false → pending cookie w.watches ≤ 1 → pending cookie (after w c).watches ≤ 1
once-after cookie w (command.Inc t n) accepted low =
    let left = pending-filter cookie (λ x. not (is_due (raised_reach w t n) x)) w.watches in
    omega (arith, left, low)
once-after cookie w (command.Shut t) accepted low =
    let left = pending-filter cookie (λ x. not (is_due (shut_reach w t) x)) w.watches in
    omega (arith, left, low)
once-after cookie w (command.Unwatch other) accepted low =
    let left = pending-filter cookie (λ (x : MadeWatch). not (nat_eq x.cookie other)) w.watches in
    omega (arith, left, low)
once-after cookie w (command.Watch f other) accepted low =
    let x : MadeWatch = watch_made other (put_set w.files f) w.watches_made in
    let free = free_by (not (has_file w.files f)) (has_made_watch w.watches other) (first_of ((is_full w, Limit Watches) ∷ (is_signalled w f, AlreadySignalled) ∷ [])) answer.Done accepted in
    once_by cookie other w.watches (nat_eq other cookie) (pending cookie (w.watches ++ x ∷ [])) refl (none-pending other w.watches free) low (sum_by_push (one_of cookie) w.watches x)
once-after cookie w _ accepted low = low

once-from : (cookie : ℕ) (w : World) (cs : List Command) → AreAccepted w cs → pending cookie w.watches ≤ 1 → pending cookie (world_from w cs).watches ≤ 1
once-from cookie w [] accepted low = low
once-from cookie w (c ∷ cs) accepted low = once-from cookie (after w c) cs accepted.1 (once-after cookie w c accepted.0 low)

once-pending : (cookie : ℕ) (history : List Command) → IsHistory history → pending cookie (world_of history).watches ≤ 1
once-pending cookie history accepted =
    let none : pending cookie [] ≡ 0 = refl in
    once-from cookie empty_world history accepted (omega (arith, none))

-- one answer

-- the history after a command that was answered so, which accounts for each watch
abbrev GoesOn : ℕ → List Command → Command → Answer → Type 0
GoesOn cookie history c a =
    Accounts cookie c a (pending cookie (world_of history).watches) (pending cookie (world_of (history_after history c a)).watches)
    × IsHistory (history_after history c a)

GoesOn-refused : (cookie : ℕ) (history : List Command) (c : Command) (a : Answer) (r : Refusal) → IsHistory history → a ≡ answer.Refused r → GoesOn cookie history c a
GoesOn-refused cookie history c a r accepted is =
    subst (GoesOn cookie history c) (sym is) (Accounts-refused cookie c r (pending cookie (world_of history).watches), accepted)

GoesOn-reported : (cookie : ℕ) (history : List Command) (c : Command) (o : Option Refusal) (a : Answer) → IsHistory history → first_of (causes (world_of history) c) ≡ o → a ≡ refused_or o (reported (world_of history) c) → GoesOn cookie history c a
GoesOn-reported cookie history c (Some r) a accepted caused is = GoesOn-refused cookie history c a r accepted is
GoesOn-reported cookie history c None a accepted uncaused is =
    let w : World = world_of history in
    let kept = is_refused-reported w c in
    let pushed : history_after history c (reported w c) ≡ history ++ c ∷ [] = ap (λ b. if b then history else history ++ c ∷ []) kept in
    let accounts = subst (λ (v : World). Accounts cookie c (reported w c) (pending cookie w.watches) (pending cookie v.watches)) (sym (world_from-push empty_world history c)) (Accounts-reported cookie w c (once-pending cookie history accepted)) in
    let goes = AreAccepted-push empty_world history c accepted (ap (λ o. is_refused (refused_or o (reported w c))) uncaused ∙ kept) in
    subst (GoesOn cookie history c) (sym is)
    (subst (λ h. Accounts cookie c (reported w c) (pending cookie w.watches) (pending cookie (world_of h).watches) × IsHistory h) (sym pushed) (accounts, goes))

GoesOn-answer : (cookie : ℕ) (history : List Command) (c : Command) (a : Answer) → IsHistory history → IsAnswer history c a → GoesOn cookie history c a
GoesOn-answer cookie history c a accepted answered = elim (answered.reported) [
  | inl is ↦ GoesOn-reported cookie history c (first_of (causes (world_of history) c)) a accepted refl is
  | inr none ↦ GoesOn-refused cookie history c a Memory accepted none.0
]

-- a run

accounted : (cookie : ℕ) (history cs : List Command) (given : List Answer) → IsHistory history → AreAnswers history cs given → times_registered cookie cs given + pending cookie (world_of history).watches ≡ times_fired cookie given + times_removed cookie cs given + pending cookie (world_of (history_of history cs given)).watches
accounted cookie history [] [] accepted are = still (pending cookie (world_of history).watches)
accounted cookie history [] (a ∷ given) accepted are = absurd are
accounted cookie history (c ∷ cs) [] accepted are = absurd are
accounted cookie history (c ∷ cs) (a ∷ given) accepted are =
    let step = GoesOn-answer cookie history c a accepted are.0 in
    let rest = accounted cookie (history_after history c a) cs given step.1 are.1 in
    let registered = sum_by-cons (λ both. cond (registers cookie both) 1 0) (c, a) (zip cs given) in
    let removed = sum_by-cons (λ both. cond (removes cookie both) 1 0) (c, a) (zip cs given) in
    let fired = sum_by-append (λ (k : ℕ). cond (nat_eq k cookie) 1 0) (fired_reported a) (flat_map fired_reported given) in
    omega (arith, step.0, rest, registered, removed, fired)

cookies-held : (reach : List ℕ) (ws : List Watch) (xs : List MadeWatch) → AllZip (IsWatchOf cookie_of put_of reach) ws xs → kept_cookies ws ≡ cookies_of xs
cookies-held reach [] [] h = refl
cookies-held reach [] (x ∷ xs) h = absurd h
cookies-held reach (w ∷ ws) [] h = absurd h
cookies-held reach (w ∷ ws) (x ∷ xs) h = ap (λ k. k ∷ kept_cookies ws) h.0.cookie ∙ ap (λ ks. x.cookie ∷ ks) (cookies-held reach ws xs h.1)

times_pending-held : (desk : DeskState) (history : List Command) (cookie : ℕ) → HasHistory desk history → times_pending cookie desk ≡ pending cookie (world_of history).watches
times_pending-held desk history cookie stands =
    ap (times cookie) (cookies-held (reach_of (world_of history).timelines) desk.watches.pending (world_of history).watches stands.holds.watches)
    ∙ times-cookies cookie (world_of history).watches

pub ReportsEachWatch-stands : (desk : DeskState) (commands : List Command) (given : List Answer) → AreAnswers [] commands given → HasHistory desk (history_of [] commands given) → ReportsEachWatch desk commands given
ReportsEachWatch-stands desk commands given answers stands =
    let history : List Command = history_of [] commands given in
    let none : (cookie : ℕ) → pending cookie [] ≡ 0 = λ cookie. refl in
    let all = λ (cookie : ℕ). accounted cookie [] commands given tt answers in
    let held = λ (cookie : ℕ). times_pending-held desk history cookie stands in
    let each : (cookie : ℕ) → times_registered cookie commands given ≡ times_fired cookie given + times_removed cookie commands given + times_pending cookie desk = λ cookie. omega (arith, none cookie, all cookie, held cookie) in
    record {
      each = each;
      fired = λ cookie. omega (arith, each cookie);
      pending = λ cookie. omega (arith, held cookie, once-pending cookie history stands.accepted);
    }
