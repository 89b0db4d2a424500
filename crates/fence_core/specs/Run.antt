-- Calls on watches, one after another.
use Rattle.std.specs.Prelude.{◌≡◌, ◌≢◌, ℕ, false, List, [], ◌∷◌, ◌++◌, None, ⊤}
use Rattle.point_core.specs.declared.entry.Point.{Point}
use Rattle.fence_core.specs.Fence.{are_reached}
use Rattle.fence_core.specs.Watch.{Registry}
use Rattle.fence_core.specs.Watches.{with_watch, without_watch, after_rise_to, fired_by, cause_to_refuse_watch}

-- a call that was not refused, with what was handed in
pub data Call : Type 0 where
  Add : ℕ → List Point → List ℕ → Call
  Remove : ℕ → Call
  Rise : List ℕ → Call

-- what it leaves
abbrev pub after_call : Registry → Call → Registry
after_call ws (Add cookie points reach) = with_watch ws cookie points reach
after_call ws (Remove cookie) = without_watch ws cookie
after_call ws (Rise reach) = after_rise_to ws reach

-- the cookies that it fires
abbrev pub fired_in : Registry → Call → List ℕ
fired_in ws (Add cookie points reach) = []
fired_in ws (Remove cookie) = []
fired_in ws (Rise reach) = fired_by ws reach

-- there was no cause to refuse it
abbrev pub IsAccepted : Registry → Call → Type 0
IsAccepted ws (Add cookie points reach) = cause_to_refuse_watch ws cookie points reach ≡ None
IsAccepted ws (Remove cookie) = ⊤
IsAccepted ws (Rise reach) = ⊤

abbrev pub AreAccepted : Registry → List Call → Type 0
AreAccepted ws [] = ⊤
AreAccepted ws (call ∷ calls) = IsAccepted ws call × AreAccepted (after_call ws call) calls

abbrev pub after_calls : Registry → List Call → Registry
after_calls ws [] = ws
after_calls ws (call ∷ calls) = after_calls (after_call ws call) calls

-- all the cookies that were fired, in order
abbrev pub fired_along : Registry → List Call → List ℕ
fired_along ws [] = []
fired_along ws (call ∷ calls) = fired_in ws call ++ fired_along (after_call ws call) calls

-- the call neither removes the cookie nor raises the reach to all of the points
abbrev pub IsLeftBy : ℕ → List Point → Call → Type 0
IsLeftBy cookie points (Add other ps reach) = ⊤
IsLeftBy cookie points (Remove other) = cookie ≢ other
IsLeftBy cookie points (Rise reach) = are_reached reach points ≡ false

abbrev pub IsLeftByAll : ℕ → List Point → List Call → Type 0
IsLeftByAll cookie points [] = ⊤
IsLeftByAll cookie points (call ∷ calls) = IsLeftBy cookie points call × IsLeftByAll cookie points calls

-- the call does not register the cookie
abbrev pub IsNoAddOf : ℕ → Call → Type 0
IsNoAddOf cookie (Add other ps reach) = cookie ≢ other
IsNoAddOf cookie (Remove other) = ⊤
IsNoAddOf cookie (Rise reach) = ⊤

abbrev pub AreNoAddsOf : ℕ → List Call → Type 0
AreNoAddsOf cookie [] = ⊤
AreNoAddsOf cookie (call ∷ calls) = IsNoAddOf cookie call × AreNoAddsOf cookie calls
