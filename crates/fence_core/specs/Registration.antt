-- Registrations: a number and a cookie as one number.
use Rattle.std.specs.Prelude.{ℕ, ◌+◌, ◌*◌, ◌%◌}
use Rattle.fence_core.specs.declared.watches.registration.TheConstants.{COOKIES}

-- the registration of a cookie, after this many others
abbrev pub numbered : ℕ → ℕ → ℕ
numbered made cookie = made * COOKIES + cookie

-- the cookie of a registration
abbrev pub cookie_of : ℕ → ℕ
cookie_of registration = registration % COOKIES
