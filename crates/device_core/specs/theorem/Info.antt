-- Information on the fences of a file.
use Rattle.std.specs.Prelude.{◌≡◌, ℕ, ◌==◌, if◌then◌else◌, List, [], ◌∷◌, length, map, codes}
use Rattle.point_core.specs.declared.status.Status.TheVariants.{Signalled}
use Rattle.device_core.specs.declared.fence.Fence.{Fence}
use Rattle.device_core.specs.declared.info.FenceDriver.{FenceDriver}
use Rattle.device_core.specs.declared.info.FenceDriver.TheVariants.{SwSync, Stub}
use Rattle.device_core.specs.declared.info.FenceInfo.{FenceInfo}
use Rattle.device_core.specs.declared.info.FileInfo.{FileInfo}
use Rattle.device_core.specs.theorem.Fences.{status_before, status_of, time_of}
use Rattle.device_core.specs.theorem.Names.{as_text, file_name}
use Rattle.device_core.specs.theorem.State.{FileState}

-- the kernel's name of a driver
abbrev pub driver_name : FenceDriver → List ℕ
driver_name SwSync = codes "sw_sync"
driver_name Stub = codes "stub"

-- information on a fence: its timeline's name, its own status, and when it signalled, or 0
abbrev pub fence_info : Fence → FenceInfo
fence_info f =
    record { timeline = f.name; driver = SwSync; status = status_before f.signal Signalled; at = time_of f.signal }

-- information on the stub, which has signalled
abbrev pub stub_info : ℕ → FenceInfo
stub_info at = record { timeline = as_text (codes "stub"); driver = Stub; status = Signalled; at = at }

-- information on each fence in order, or on the stub if there is none
abbrev pub fence_infos : FileState → List FenceInfo
fence_infos f = if length f.fences == 0 then stub_info f.stub_at ∷ [] else map fence_info f.fences

-- the information on the file with this number
pub record IsInfo (number : ℕ) (f : FileState) (info : FileInfo) : Type 0 where
  pub name : info.name ≡ as_text (file_name number f)
  pub status : info.status ≡ status_of f.fences
  pub fences : info.fences.items ≡ fence_infos f
