-- Points of 32 bits, and the 64-bit points that they represent.
use Rattle.std.specs.Prelude.{ℕ, ◌+◌, ◌-◌, ◌%◌, ◌^◌, Bool, nat_lt, ◌&&◌, if◌then◌else◌}

-- how far the point is ahead of the value in 32 bits, as an unsigned difference
abbrev pub ahead_of : ℕ → ℕ → ℕ
ahead_of value point = (point + 2 ^ 32 - value % 2 ^ 32) % 2 ^ 32

-- the kernel's condition: the signed difference in 32 bits is above 0
abbrev pub is_later : ℕ → ℕ → Bool
is_later value point = nat_lt 0 (ahead_of value point) && nat_lt (ahead_of value point) (2 ^ 31)

-- the 64-bit point that it represents: the nearest to the value, or 0 if that would be below it
abbrev pub unwrapped : ℕ → ℕ → ℕ
unwrapped value point =
    if nat_lt (ahead_of value point) (2 ^ 31)
    then value + ahead_of value point
    else value - (2 ^ 32 - ahead_of value point)
