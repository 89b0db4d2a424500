-- The names of a file and of its fences as the kernel reports them, to the byte.
use Rattle.std.specs.Prelude.{ℕ, ◌==◌, ◌-◌, if◌then◌else◌, List, [], ◌∷◌, ◌++◌, length, take, replicate, codes, decimal}
use Rattle.device_core.specs.declared.text.Text.{Text}
use Rattle.device_core.specs.declared.fence.Fence.{Fence}
use Rattle.device_core.specs.declared.text.TheConstants.{TEXT_BYTES}
use Rattle.device_core.specs.theorem.State.{FileState}

-- the bytes up to the first 0
abbrev pub up_to_zero : List ℕ → List ℕ
up_to_zero [] = []
up_to_zero (b ∷ bs) = if b == 0 then [] else b ∷ up_to_zero bs

abbrev pub text_of : Text → List ℕ
text_of t = up_to_zero t.bytes

-- as many bytes as fit before the 0 that ends a text
abbrev pub cut : List ℕ → List ℕ
cut bytes = take (TEXT_BYTES - 1) bytes

abbrev pub padded : List ℕ → List ℕ
padded bytes = bytes ++ replicate (TEXT_BYTES - length bytes) 0

-- the bytes, cut and padded with zeros
abbrev pub as_text : List ℕ → Text
as_text bytes = record { bytes = padded (cut bytes) }

-- the kernel's "%s-%s%llu-%lld": a driver, the name of a timeline with its number, and a point
abbrev pub kernel_name : List ℕ → List ℕ → ℕ → ℕ → List ℕ
kernel_name driver timeline context point =
    driver ++ codes "-" ++ timeline ++ decimal context ++ codes "-" ++ decimal point

-- the name of a fence: its point is the 32-bit one that was asked for
abbrev pub fence_name : Fence → List ℕ
fence_name f = kernel_name (codes "sw_sync") (text_of f.name) f.timeline f.point

-- the name of several fences, which are an array with a context of its own
abbrev pub array_name : ℕ → List ℕ
array_name context = kernel_name (codes "dma_fence_array") (codes "unbound") context 1

abbrev pub stub_name : List ℕ
stub_name = kernel_name (codes "stub") (codes "stub") 0 0

-- the name of a file by its fence. The context of an array is the number of the file
abbrev pub fences_name : ℕ → List Fence → List ℕ
fences_name number [] = stub_name
fences_name number (f ∷ []) = fence_name f
fences_name number (f ∷ g ∷ fs) = array_name number

-- the name that was given, or if that is empty the fences'
abbrev pub file_name : ℕ → FileState → List ℕ
file_name number f = if length (text_of f.name) == 0 then fences_name number f.fences else text_of f.name
