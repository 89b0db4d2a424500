-- Words of a line that name usages and sync flags.
use Rattle.std.specs.Prelude.{ℕ, if◌then◌else◌, List, Option, None, Some, codes}
use Rattle.std.specs.Str.{bytes_eq}
use Rattle.point_core.specs.declared.entry.Usage.{Usage}
use Rattle.point_core.specs.declared.entry.Usage.TheVariants.{Kernel, Write, Read, Bookkeep}

abbrev pub usage_of : List ℕ → Option Usage
usage_of word =
    if bytes_eq word (codes "kernel") then Some Kernel
    else if bytes_eq word (codes "write") then Some Write
    else if bytes_eq word (codes "read") then Some Read
    else if bytes_eq word (codes "bookkeep") then Some Bookkeep
    else None

-- the numbers are those of Linux's `DMA_BUF_SYNC_READ`, `DMA_BUF_SYNC_WRITE` and `DMA_BUF_SYNC_RW`
abbrev pub flags_of : List ℕ → Option ℕ
flags_of word =
    if bytes_eq word (codes "read") then Some 1
    else if bytes_eq word (codes "write") then Some 2
    else if bytes_eq word (codes "rw") then Some 3
    else None
