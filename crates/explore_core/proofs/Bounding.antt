-- Tests of the lines of a plan, one after another.
use Rattle.std.proofs.Common.{◌≡◌, ℕ, zero, suc, ◌+◌, ◌<◌, Bool, true, false, ◌||◌, refl, sym, ap, ◌∙◌, subst, List, [], ◌∷◌, ◌++◌, length, map, take, get_or, Option, Some, slice_get, arith, inl, inr}
use Rattle.std.specs.Prelude.{◌⊎◌, All, IfSome, Vec}
use Rattle.std.specs.Global.{Global}
use Rattle.std.specs.List.{list_any, sum_by}
use Rattle.std.specs.Cmp.Lexicographic.{same_text}
use Rattle.std.proofs.lemmas.Bool.{false≢true, and_parts}
use Rattle.std.proofs.lemmas.List.{length-take-le, take_more}
use Rattle.std.proofs.lemmas.List.Elements.{All-map, All-push}
use Rattle.std.proofs.lemmas.List.Folds.{list_any_more}
use Rattle.std.proofs.lemmas.List.Sums.{sum_by-cons, sum_by_push}
use Rattle.std.proofs.lemmas.Option.{IfSome_then, none-some, same_Some, slice_get_read}
use Rattle.point_core.specs.Named.{same_name}
use Rattle.explore_core.specs.declared.flow.Put.{Put}
use Rattle.explore_core.specs.declared.plan.Step.{Step}
use Rattle.explore_core.specs.Flow.{AllowsAll, has_put, is_put}
use Rattle.explore_core.specs.Room.{LeadForward, files_by, files_by_lines, files_by_plan}
use Rattle.explore_core.specs.Schedule.{Lines}
use Rattle.command_core.specs.declared.command.Command.{Command}
use Rattle.syncfile_core.specs.declared.files.TheConstants.{FILES}

-- one of a list

or-left : (a b : Bool) → a ≡ true → (a || b) ≡ true
or-left true b is = refl
or-left false b is = absurd (false≢true is)

or-right : (a b : Bool) → b ≡ true → (a || b) ≡ true
or-right true b is = refl
or-right false b is = is

or-none : (a b : Bool) → a ≡ false → b ≡ false → (a || b) ≡ false
or-none true b isnt isnt' = isnt
or-none false b isnt isnt' = isnt'

any-there : {X : Type 0} (p : X → Bool) (xs : List X) (i : ℕ) (x : X) → slice_get xs i ≡ Some x → p x ≡ true → list_any p xs ≡ true
any-there p [] i x at is = absurd (none-some x at)
any-there p (y ∷ ys) zero x at is = or-left (p y) (list_any p ys) (ap p (same_Some y x at) ∙ is)
any-there p (y ∷ ys) (suc i) x at is = or-right (p y) (list_any p ys) (any-there p ys i x at is)

pub any-at : {X : Type 0} (p : X → Bool) (xs : List X) (i : ℕ) (x : X) → i < length xs → x ≡ get_or xs i x → p x ≡ true → list_any p xs ≡ true
any-at p xs i x low at is = any-there p xs i x (slice_get_read xs (length xs) i x refl low at) is

pub none-next : {X : Type 0} (p : X → Bool) (xs : List X) (i : ℕ) (x : X) → i < length xs → x ≡ get_or xs i x → list_any p (take i xs) ≡ false → p x ≡ false → list_any p (take (i + 1) xs) ≡ false
none-next p xs i x low at before here =
    list_any_more p xs i x low ∙ or-none (list_any p (take i xs)) (p (get_or xs i x)) before (ap p (sym at) ∙ here)

-- the next of a list

next-is : {X : Type 0} (xs : List X) (i : ℕ) (x : X) → i < length xs → x ≡ get_or xs i x → take (i + 1) xs ≡ take i xs ++ x ∷ []
next-is xs i x low at = take_more xs i x low ∙ ap (λ d. take i xs ++ d ∷ []) (sym at)

pub all-next : {X : Type 0} (P : X → Type 0) (xs : List X) (i : ℕ) (x : X) → i < length xs → x ≡ get_or xs i x → All P (take i xs) → P x → All P (take (i + 1) xs)
all-next P xs i x low at before here = subst (All P) (sym (next-is xs i x low at)) (All-push P (take i xs) x before here)

pub sum-next : {X : Type 0} (f : X → ℕ) (xs : List X) (i : ℕ) (x : X) → i < length xs → x ≡ get_or xs i x → sum_by f (take (i + 1) xs) ≡ sum_by f (take i xs) + f x
sum-next f xs i x low at = ap (sum_by f) (next-is xs i x low at) ∙ sum_by_push f (take i xs) x

push-at : {X : Type 0} (xs : List X) (x : X) (place : ℕ) (y : X) → slice_get (xs ++ x ∷ []) place ≡ Some y → (slice_get xs place ≡ Some y) ⊎ ((place ≡ length xs) × (x ≡ y))
push-at [] x zero y at = inr (refl, same_Some x y at)
push-at [] x (suc place) y at = absurd (none-some y at)
push-at (z ∷ xs) x zero y at = inl at
push-at (z ∷ xs) x (suc place) y at = elim (push-at xs x place y at) [
  | inl before ↦ inl before
  | inr here ↦ inr (ap suc here.0, here.1)
]

pub places-next : {X : Type 0} (P : ℕ → X → Type 0) (xs : List X) (i : ℕ) (x : X) → i < length xs → x ≡ get_or xs i x → ((place : ℕ) (y : X) → slice_get (take i xs) place ≡ Some y → P place y) → P i x
    → (place : ℕ) (y : X) → slice_get (take (i + 1) xs) place ≡ Some y → P place y
places-next P xs i x low at before here = λ place y is. elim (push-at (take i xs) x place y (ap (λ ys. slice_get ys place) (sym (next-is xs i x low at)) ∙ is)) [
  | inl earlier ↦ before place y earlier
  | inr last ↦ subst (λ z. P place z) last.1 (subst (λ k. P k x) (sym (last.0 ∙ length-take-le i xs (omega (arith, low)))) here)
]

-- the whole plan

sum-map : {X Y : Type 0} (f : Y → ℕ) (g : X → Y) (xs : List X) → sum_by f (map g xs) ≡ sum_by (λ x. f (g x)) xs
sum-map f g [] = refl
sum-map f g (x ∷ xs) = sum_by-cons f (g x) (map g xs) ∙ ap (λ n. f (g x) + n) (sum-map f g xs) ∙ sym (sum_by-cons (λ y. f (g y)) x xs)

module _ (plan : Lines) (first : List Command) (clients : List (Vec Step Global)) (first-is : first ≡ plan.first) (clients-are : map (λ (lines : Vec Step Global). lines.items) clients ≡ plan.clients) where
  pub room-left : (room : ℕ) (o : Option ℕ) → room + sum_by files_by first + 2 ≡ FILES → IfSome o (λ left. left + sum_by (λ (lines : Vec Step Global). files_by_lines lines.items) clients ≡ room) → IfSome o (λ left. left + files_by_plan plan + 2 ≡ FILES)
  room-left room o before after = IfSome_then o after (λ left is.
      let firsts : sum_by files_by first ≡ sum_by files_by plan.first = ap (sum_by files_by) first-is in
      let lines : sum_by (λ (lines : Vec Step Global). files_by_lines lines.items) clients ≡ sum_by files_by_lines plan.clients =
      sym (sum-map files_by_lines (λ (lines : Vec Step Global). lines.items) clients) ∙ ap (sum_by files_by_lines) clients-are in
      omega (arith, firsts, lines, before, is))

pub lead-forward : (plan : Lines) (clients : List (Vec Step Global)) → map (λ (lines : Vec Step Global). lines.items) clients ≡ plan.clients
    → All (λ (lines : Vec Step Global). LeadForward lines.items) clients → All LeadForward plan.clients
lead-forward plan clients are forward = subst (All LeadForward) are (All-map LeadForward (λ (lines : Vec Step Global). lines.items) clients forward)

-- what a file or a buffer allows

allows-either : (a b : Bool) (P : Type 0) → (a || b) ≡ true → (a ≡ true → P) → (b ≡ true → P) → P
allows-either true b P is first second = first refl
allows-either false b P is first second = second is

pub allows-next : (p : List ℕ → Put → Bool) (other : List ℕ → Bool) (puts : List Put) (i : ℕ) (put : Put) → i < length puts → put ≡ get_or puts i put
    → AllowsAll (λ timeline. list_any (p timeline) (take i puts)) other → AllowsAll (λ timeline. p timeline put) other → AllowsAll (λ timeline. list_any (p timeline) (take (i + 1) puts)) other
allows-next p other puts i put low at before here = λ timeline is.
    allows-either (list_any (p timeline) (take i puts)) (p timeline put) (other timeline ≡ true)
    (ap (λ x. list_any (p timeline) (take i puts) || p timeline x) at ∙ sym (list_any_more (p timeline) puts i put low) ∙ is) (before timeline) (here timeline)

pub put-allowed : (put : Put) (from into : List ℕ) (others : List Put) → has_put others into put.timeline ≡ true → AllowsAll (λ timeline. is_put from timeline put) (has_put others into)
put-allowed put from into others has = λ timeline is.
    ap (has_put others into) (sym (same_text put.timeline timeline (sym (and_parts (same_name put.into from) (same_name put.timeline timeline) is).1))) ∙ has

pub put-elsewhere : (put : Put) (from : List ℕ) (other : List ℕ → Bool) → same_name put.into from ≡ false → AllowsAll (λ timeline. is_put from timeline put) other
put-elsewhere put from other isnt = λ timeline is. absurd (false≢true (sym isnt ∙ (and_parts (same_name put.into from) (same_name put.timeline timeline) is).0))
