-- The queue of cookies has room for each pending watch, whatever command is answered.
use Rattle.std.proofs.Common.{◌≡◌, ℕ, suc, ◌+◌, ◌≤◌, nat_eq, Bool, true, false, not, ◌||◌, refl, sym, ap, ◌∙◌, List, [], ◌∷◌, ◌++◌, length, filter, Option, None, Some, arith, inl, inr}
use Rattle.std.specs.Prelude.{nat_le, if◌then◌else◌}
use Rattle.std.specs.List.{AllZip}
use Rattle.std.proofs.lemmas.Bool.{leb-false, or_parts}
use Rattle.std.proofs.lemmas.List.{length-map, length_push}
use Rattle.std.proofs.lemmas.List.Filters.{length-filter_both}
use Rattle.point_core.specs.declared.refusal.Refusal.{Refusal}
use Rattle.point_core.specs.declared.refusal.Refusal.TheVariants.{NoEntry, Exists, Limit, Signalled as AlreadySignalled}
use Rattle.point_core.specs.declared.refusal.LimitKind.TheVariants.{Watches}
use Rattle.command_core.specs.declared.command.Command.{Command}
use Rattle.command_core.specs.declared.command.Command.TheVariants as command
use Rattle.command_core.specs.declared.answer.Answer.{Answer}
use Rattle.command_core.specs.declared.answer.Answer.TheVariants as answer
use Rattle.fence_core.specs.declared.watches.TheConstants.{WATCHES, WATCHES_EVER}
use Rattle.desk_core.specs.theorem.World.{World, MadeFile, MadeWatch, after, file_named, has_file, has_made_watch, put_set, watch_made, is_due, raised_reach, shut_reach, cookies_of as made_cookies}
use Rattle.desk_core.specs.theorem.Answer.{causes, first_of, reported, info_reported, answer_to, refused_or, is_refused, is_full, is_signalled}
use Rattle.desk_core.specs.theorem.History.{world_of, IsAnswer, history_after}
use Rattle.desk_core.specs.theorem.Desk.{DeskState, HasHistory}
use Rattle.desk_core.proofs.Answering.{world_from-push}
use Rattle.desk_core.specs.theorem.World.{empty_world}
use Rattle.c_desk.specs.Service.{cookies_of, IsReadyFor}

same_length : {A B : Type 0} (R : A → B → Type 0) (xs : List A) (ys : List B) → AllZip R xs ys → length xs ≡ length ys
same_length R [] [] all = refl
same_length R [] (y ∷ ys) all = absurd all
same_length R (x ∷ xs) [] all = absurd all
same_length R (x ∷ xs) (y ∷ ys) all = ap suc (same_length R xs ys all.1)

-- a desk has as many watches as are pending
pub pending-held : {desk : DeskState} {history : List Command} → HasHistory desk history → length desk.watches.pending ≡ length (world_of history).watches
pending-held {desk} {history} stands = same_length _ desk.watches.pending (world_of history).watches stands.holds.watches

-- an accepted watch found a free place among the watches
full_by : (a b full : Bool) (x y z : Refusal) (rest : Option Refusal) (given : Answer)
    → is_refused (refused_or (if a then Some x else (if b then Some y else (if full then Some z else rest))) given) ≡ false → full ≡ false
full_by true b full x y z rest given is = absurd (cc)
full_by false true full x y z rest given is = absurd (cc)
full_by false false true x y z rest given is = absurd (cc)
full_by false false false x y z rest given is = refl

less-full : (n made : ℕ) → (nat_le WATCHES n || nat_le WATCHES_EVER made) ≡ false → n + 1 ≤ WATCHES
less-full n made is =
    let less = leb-false WATCHES n (or_parts (nat_le WATCHES n) (nat_le WATCHES_EVER made) is).0 in
    omega (arith, less)

-- the watches that fire leave their room to the cookies
fired-room : (due : MadeWatch → Bool) (ws : List MadeWatch) (len capacity : ℕ) → len + length ws ≤ capacity
    → (len + length (made_cookies (filter due ws))) + length (filter (λ x. not (due x)) ws) ≤ capacity
fired-room due ws len capacity room =
    let both = length-filter_both due (λ x. not (due x)) (λ x. refl) ws in
    let cookies : length (made_cookies (filter due ws)) ≡ length (filter due ws) = length-map (filter due ws) (λ (x : MadeWatch). x.cookie) in
    omega (arith, both, cookies, room)

none-fired : (len n capacity : ℕ) → len + n ≤ capacity → (len + 0) + n ≤ capacity
none-fired len n capacity room = omega (arith, room)

none-reported : (w : World) (name : List ℕ) (o : Option MadeFile) → length (cookies_of (info_reported w name o)) ≡ 0
none-reported w name None = refl
none-reported w name (Some f) = refl

world-room : (w : World) (c : Command) (len capacity : ℕ) → IsReadyFor c len capacity → is_refused (answer_to w c) ≡ false → len + length w.watches ≤ capacity
    → (len + length (cookies_of (reported w c))) + length (after w c).watches ≤ capacity
world-room w (command.Inc t n) len capacity ready accepted room = fired-room (is_due (raised_reach w t n)) w.watches len capacity room
world-room w (command.Shut t) len capacity ready accepted room = fired-room (is_due (shut_reach w t)) w.watches len capacity room
world-room w (command.Watch f cookie) len capacity ready accepted room =
    let free = full_by (not (has_file w.files f)) (has_made_watch w.watches cookie) (is_full w) NoEntry Exists (Limit Watches) (first_of ((is_signalled w f, AlreadySignalled) ∷ [])) answer.Done accepted in
    let less = less-full (length w.watches) w.watches_made free in
    let more = length_push w.watches (watch_made cookie (put_set w.files f) w.watches_made) in
    let all = ready refl in
    omega (arith, all, less, more)
world-room w (command.Unwatch cookie) len capacity ready accepted room =
    let both = length-filter_both (λ (x : MadeWatch). not (nat_eq x.cookie cookie)) (λ (x : MadeWatch). not (not (nat_eq x.cookie cookie))) (λ x. refl) w.watches in
    omega (arith, both, room)
world-room w (command.Info f) len capacity ready accepted room =
    let none = none-reported w f (file_named w.files f) in
    omega (arith, none, room)
world-room w _ len capacity ready accepted room = none-fired len (length w.watches) capacity room

-- the answer of an accepted command is what it reports
reported-accepted : (cause : Option Refusal) (a : Answer) → is_refused (refused_or cause a) ≡ false → refused_or cause a ≡ a
reported-accepted None a is = refl
reported-accepted (Some r) a is = absurd (cc)

no-cookies : (a : Answer) → is_refused a ≡ true → cookies_of a ≡ []
no-cookies (answer.Raised n fired) is = absurd (cc)
no-cookies _ is = refl

module _ (old new : DeskState) (c : Command) (given : Answer) (history : List Command) (len capacity : ℕ) where
  abbrev w : World
  w = world_of history

  refused-room : is_refused given ≡ true → len + length old.watches.pending ≤ capacity → HasHistory old history → HasHistory new history
      → (len + length (cookies_of given)) + length new.watches.pending ≤ capacity
  refused-room is room stands held =
      let none = ap length (no-cookies given is) in
      let before = pending-held stands in
      let after = pending-held held in
      omega (arith, none, before, after, room)

  accepted-room : given ≡ reported w c → is_refused (answer_to w c) ≡ false → IsReadyFor c len capacity → len + length old.watches.pending ≤ capacity → HasHistory old history → HasHistory new (history ++ c ∷ [])
      → (len + length (cookies_of given)) + length new.watches.pending ≤ capacity
  accepted-room is accepted ready room stands held =
      let before = pending-held stands in
      let pending : length new.watches.pending ≡ length (after w c).watches = pending-held held ∙ ap (λ (v : World). length v.watches) (world_from-push empty_world history c) in
      let cookies = ap (λ a. length (cookies_of a)) is in
      let now : (len + length (cookies_of (reported w c))) + length (after w c).watches ≤ capacity = world-room w c len capacity ready accepted (omega (arith, before, room)) in
      omega (arith, pending, cookies, now)

  room-by : (b : Bool) → is_refused given ≡ b → IsAnswer history c given → IsReadyFor c len capacity → len + length old.watches.pending ≤ capacity → HasHistory old history
      → HasHistory new (if b then history else history ++ c ∷ []) → (len + length (cookies_of given)) + length new.watches.pending ≤ capacity
  room-by true is answered ready room stands held = refused-room is room stands held
  room-by false is answered ready room stands held =
      elim answered.reported [
        | inl same ↦
            let accepted : is_refused (answer_to w c) ≡ false = ap is_refused (sym same) ∙ is in
            accepted-room (same ∙ reported-accepted (first_of (causes w c)) (reported w c) accepted) accepted ready room stands held
        | inr memory ↦ let refused : is_refused given ≡ true = ap is_refused memory.0 in absurd (cc)
      ]

  -- after a command the queue has the cookies that it fired, and still room for each pending watch
  pub room-after : IsAnswer history c given → IsReadyFor c len capacity → len + length old.watches.pending ≤ capacity → HasHistory old history
      → HasHistory new (history_after history c given) → (len + length (cookies_of given)) + length new.watches.pending ≤ capacity
  room-after answered ready room stands held = room-by (is_refused given) refl answered ready room stands held
