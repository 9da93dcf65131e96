-- What a slot owns. No public clause cites this module.
use Rattle.std.specs.Prelude.{Option, Some, None}
use base.Fml.{Fml, ftrue}
use denote.RawPtr.{Ptr}
use Rattle.std_alloc.specs.Box.Ownership.{box_owns}
use Rattle.std_heap.specs.declared.Global.{Global}
use Rattle.std_heap.specs.contracts.GlobalAllocator.TheImpl.{ghosts}
use Rattle.qsession.specs.declared.kept.Kept.{Kept}
use Rattle.qsession.specs.contracts.kept.Kept.{the_row}

-- what is behind the pointer of a slot: a box of what is kept, or nothing
unfoldable pub slot_owns : Global → Ptr → Option Kept → Fml
slot_owns alloc at (Some kept) = box_owns (ghosts.dealloc_token alloc) the_row at kept
slot_owns alloc at None = ftrue
