-- The callbacks of one fence.
use Rattle.std.specs.Prelude.{◌≡◌, ℕ, ◌≤◌, nat_lt, nat_eq, Bool, true, false, if◌then◌else◌, List, [], ◌∷◌, ◌++◌, length, Option, None, Some}
use Rattle.std.specs.List.{list_any, IsDistinct}
use Rattle.point_core.specs.declared.refusal.Refusal.{Refusal}
use Rattle.point_core.specs.declared.refusal.Refusal.TheVariants.{Exists, Limit, Signalled}
use Rattle.point_core.specs.declared.refusal.LimitKind.TheVariants.{Watches as WatchesKind}
use Rattle.fence_core.specs.declared.callback_list.TheConstants.{CALLBACKS}

-- held with the cookies by registration, or taken
pub data Callbacks : Type 0 where
  Held : List ℕ → Callbacks
  Taken : Callbacks

abbrev pub callbacks_of : Bool → List ℕ → Callbacks
callbacks_of true cookies = Taken
callbacks_of false cookies = Held cookies

-- the cookies that are held
abbrev pub cookies_in : Callbacks → List ℕ
cookies_in (Held cookies) = cookies
cookies_in Taken = []

-- with one more cookie, the last
abbrev pub with_callback : Callbacks → ℕ → Callbacks
with_callback (Held cookies) cookie = Held (cookies ++ cookie ∷ [])
with_callback Taken cookie = Taken

-- why the cookie may not be added
abbrev pub cause_to_refuse_callback : Callbacks → ℕ → Option Refusal
cause_to_refuse_callback (Held cookies) cookie =
    if list_any (nat_eq cookie) cookies then Some Exists
    else if nat_lt (length cookies) CALLBACKS then None else Some (Limit WatchesKind)
cause_to_refuse_callback Taken cookie = Some Signalled

-- no cookie is there twice, there are no more than there can be, and a taken list holds none
pub record AreCallbacks (taken : Bool) (cookies : List ℕ) : Type 0 where
  pub distinct : IsDistinct nat_eq cookies
  pub room : length cookies ≤ CALLBACKS
  pub none : taken ≡ true → cookies ≡ []
