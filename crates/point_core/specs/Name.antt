use Rattle.std.specs.Prelude.{◌≡◌, ℕ, ◌+◌, ◌-◌, ◌≤◌, Bool, true, nat_le, ◌&&◌, ◌||◌, ◌==◌, List, ◌++◌, length, take, replicate, get_or, slice_set}
use Rattle.std.specs.List.{list_all}
use Rattle.point_core.specs.declared.name.TheConstants.{NAME_BYTES}

-- both ends belong to the range
abbrev pub between : ℕ → ℕ → ℕ → Bool
between low high b = nat_le low b && nat_le b high

-- a letter, a digit, `_`, `.` or `-`
abbrev pub is_name_byte : ℕ → Bool
is_name_byte b = between 65 90 b || between 97 122 b || between 48 57 b || (b == 95) || (b == 46) || (b == 45)

-- 1 to `NAME_BYTES` such bytes
abbrev pub IsName : List ℕ → Type 0
IsName bytes = (1 ≤ length bytes) × (length bytes ≤ NAME_BYTES) × (list_all is_name_byte bytes ≡ true)

-- the bytes of a name, and zeros after them
abbrev pub padded : List ℕ → List ℕ
padded bytes = bytes ++ replicate (NAME_BYTES + 1 - length bytes) 0

-- how a name is stored: its bytes, zeros after them, and its length last
abbrev pub stored_of : List ℕ → List ℕ
stored_of bytes = slice_set (padded bytes) NAME_BYTES (length bytes)

-- the first bytes, as many as the last one says
abbrev pub bytes_of : List ℕ → List ℕ
bytes_of stored = take (get_or stored NAME_BYTES 0) stored

-- a name is stored so
abbrev pub IsStored : List ℕ → Type 0
IsStored stored = IsName (bytes_of stored) × (stored_of (bytes_of stored) ≡ stored)
