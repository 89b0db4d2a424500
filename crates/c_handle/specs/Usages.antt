-- Usages by the numbers of Linux's enum dma_resv_usage.
use Rattle.std.specs.Prelude.{◌≡◌, ◌⊎◌, zero, suc, ℤ, pos, negsuc, Option, None, Some}
use Rattle.point_core.specs.declared.entry.Usage.{Usage}
use Rattle.point_core.specs.declared.entry.Usage.TheVariants.{Kernel, Write, Read, Bookkeep}

-- the usage with this number, if there is one
abbrev pub usage_of : ℤ → Option Usage
usage_of (pos zero) = Some Kernel
usage_of (pos (suc zero)) = Some Write
usage_of (pos (suc (suc zero))) = Some Read
usage_of (pos (suc (suc (suc zero)))) = Some Bookkeep
usage_of (pos (suc (suc (suc (suc n))))) = None
usage_of (negsuc n) = None

-- it is the number of a usage
abbrev pub IsUsage : ℤ → Type 0
IsUsage number = (number ≡ pos 0) ⊎ (number ≡ pos 1) ⊎ (number ≡ pos 2) ⊎ (number ≡ pos 3)
