use denote.Struct.Struct.{exits_of}
use denote.Struct.Owning.{shape, fields, to}
use denote.Param.Send.{IsSend, AllSend, owning_send, struct_send, sendable}
use Rattle.std_alloc.proofs.SendSync.{quiet}
use Rattle.std_heap.proofs.Global.TheSendSync as handle
use Rattle.c_handle.proofs.Sending.{keyless}
use Rattle.c_desk.specs.contracts.service.Service.{the_row as service_row}
use Rattle.c_desk.proofs.service.Service.TheSendSync.{the_send as service}
use Rattle.c_desk.specs.contracts.handle.DeskHandle.{the_row, the_type}

pub send : IsSend the_row
send =
    let all : AllSend (fields the_type) = (search sendable, (handle.the_field_send, tt)) in
    owning_send the_type all (λ h. keyless service_row service h.alloc h.at h.service)
    (λ k. quiet (to the_type) (exits_of k (fields the_type)) ((struct_send (shape the_type) all).leaving k))
