-- What a slot owns says the same to every thread.
use mir.Raw.{raw}
use base.Shift.{Keyless}
use denote.RawPtr.{Ptr}
use denote.Memory.{lone}
use denote.Struct.Struct.{exits_of}
use denote.Struct.Owning.{shape, fields, to}
use denote.Param.Send.{IsSend, AllSend, owning_send, struct_send, sendable}
use Rattle.std.proofs.Crossing as heap
use Rattle.std.proofs.Common.{Option, Some, None}
use Rattle.std_alloc.proofs.SendSync.{quiet, lies}
use Rattle.std_heap.proofs.Global.TheSendSync as handle
use Rattle.std_heap.specs.declared.Global.{Global}
use Rattle.qsession.specs.contracts.kept.Kept as Inner
use Rattle.qsession.proofs.kept.Kept.TheSendSync.{the_send as inner}
use Rattle.qsession.specs.Slots.{slot_owns}
use Rattle.qsession.specs.contracts.slot.Slot.{the_row, the_type}

owned : (a : Global) (p : Ptr) (x : Option Inner.the_row.Denot) → Keyless (slot_owns a p x)
unfolding slot_owns
owned a p (Some x) = (lies Inner.the_row inner p x, heap.frees.frees a (raw (lone Inner.the_row.mir)) p)
owned a p None = tt

pub send : IsSend the_row
send =
    let all : AllSend (fields the_type) = (search sendable, (handle.the_field_send, tt)) in
    owning_send the_type all (λ d. owned d.alloc d.at d.kept)
    (λ k. quiet (to the_type) (exits_of k (fields the_type)) ((struct_send (shape the_type) all).leaving k))
