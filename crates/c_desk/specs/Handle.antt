-- Whether a handle is open.
use Rattle.std.specs.Prelude.{Bool}
use Rattle.c_handle.specs.Owning.{is_block}
use Rattle.c_desk.specs.declared.handle.DeskHandle.{DeskHandle}

-- a handle is closed while its pointer is null
abbrev pub is_open : DeskHandle → Bool
is_open h = is_block h.at
