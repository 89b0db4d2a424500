-- The out-parameters of an answer.
use Rattle.std.specs.Prelude.{◌≡◌, ℕ, ℤ, pos, ◌-◌, if◌then◌else◌, List, ◌++◌, length, map, replicate, None, Some, Ok, Err}
use Rattle.point_core.specs.Status.{status_number}
use Rattle.device_core.specs.declared.request.Reply.{Reply}
use Rattle.device_core.specs.declared.request.Reply.TheVariants as answer
use Rattle.device_core.specs.declared.info.FenceDriver.{FenceDriver}
use Rattle.device_core.specs.declared.info.FenceInfo.{FenceInfo}
use Rattle.device_core.specs.declared.info.FileInfo.{FileInfo}
use Rattle.device_core.specs.theorem.Info.{driver_name}
use Rattle.c_device.specs.declared.rows.TheConstants.{DRIVER_TEXT_BYTES}
use Rattle.c_device.specs.declared.rows.CFenceInfo.{CFenceInfo}
use Rattle.c_device.specs.declared.rows.CFileInfo.{CFileInfo}
use Rattle.c_device.specs.Call.{CallReply}
use Rattle.c_handle.specs.Rows.{over}

-- the value that an answer gives for the old one; a refusal keeps the old one
abbrev said_or : {A : Type 0} → (Reply → A → A) → CallReply → A → A
said_or said None old = old
said_or said (Some (Ok given)) old = said given old
said_or said (Some (Err refusal)) old = old

abbrev number_in : Reply → ℕ → ℕ
number_in (answer.Number n) old = n
number_in (answer.Woken woken) old = old
number_in (answer.Status status) old = old
number_in (answer.Signalled signalled) old = old
number_in (answer.Info info) old = old
number_in answer.Done old = old

-- the number of the new object, or the old value
abbrev pub number_or : CallReply → ℕ → ℕ
number_or given old = said_or number_in given old

abbrev status_in : Reply → ℤ → ℤ
status_in (answer.Number n) old = old
status_in (answer.Woken woken) old = old
status_in (answer.Status status) old = status_number status
status_in (answer.Signalled signalled) old = old
status_in (answer.Info info) old = old
status_in answer.Done old = old

-- the status of a file, or the old value
abbrev pub status_or : CallReply → ℤ → ℤ
status_or given old = said_or status_in given old

abbrev yes_in : Reply → ℤ → ℤ
yes_in (answer.Number n) old = old
yes_in (answer.Woken woken) old = old
yes_in (answer.Status status) old = old
yes_in (answer.Signalled signalled) old = if signalled then pos 1 else pos 0
yes_in (answer.Info info) old = old
yes_in answer.Done old = old

-- 1 for an answer of yes, 0 for one of no, or the old value
abbrev pub yes_or : CallReply → ℤ → ℤ
yes_or given old = said_or yes_in given old

-- the name of a driver, padded with zeros
abbrev pub driver_text : FenceDriver → List ℕ
driver_text driver = driver_name driver ++ replicate (DRIVER_TEXT_BYTES - length (driver_name driver)) 0

abbrev pub c_fence_info : FenceInfo → CFenceInfo
c_fence_info f = record {
  timeline = f.timeline.bytes;
  at = f.at;
  driver = driver_text f.driver;
  status = status_number f.status;
}

-- the number of a file's fences counts all of them, however many there is room for
abbrev pub c_file_info : FileInfo → CFileInfo
c_file_info i = record { name = i.name.bytes; fences = length i.fences.items; status = status_number i.status }

abbrev info_in : {A : Type 0} → (FileInfo → A → A) → Reply → A → A
info_in said (answer.Number n) old = old
info_in said (answer.Woken woken) old = old
info_in said (answer.Status status) old = old
info_in said (answer.Signalled signalled) old = old
info_in said (answer.Info info) old = said info old
info_in said answer.Done old = old

-- the information on a file and on as many of its fences as there is room for, or the old values
pub record StoresInfo (given : CallReply) (old_info new_info : CFileInfo) (old_rows new_rows : List CFenceInfo) : Type 0 where
  pub info : new_info ≡ said_or (info_in (λ i old. c_file_info i)) given old_info
  pub rows : new_rows ≡ said_or (info_in (λ i old. over (map c_fence_info i.fences.items) old)) given old_rows
