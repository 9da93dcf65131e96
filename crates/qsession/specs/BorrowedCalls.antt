-- What calls stand for whose paths and bytes are borrowed.
use Rattle.std.specs.Prelude.{ℕ, List}
use Rattle.qblocks.specs.Input.{input_bytes}
use Rattle.qplain.specs.declared.call.Call.{Call}
use Rattle.qplain.specs.declared.call.Call.TheVariants.{Create as CreateCall, Mkdir as MkdirCall, Write as WriteCall}
use Rattle.qplain.specs.declared.call.Call.TheVariants.{Read as ReadCall, Stat as StatCall}
use Rattle.qsession.specs.declared.borrowed_call.Action.{Action}
use Rattle.qsession.specs.declared.borrowed_call.Action.TheVariants.{Create, Mkdir, Write, Stat}
use Rattle.qsession.specs.declared.borrowed_call.BorrowedCall.{BorrowedCall}
use Rattle.qsession.specs.declared.borrowed_call.ReadFrom.{ReadFrom}

-- the call that does this at a path
abbrev pub call_at : List ℕ → Action → Call
call_at path Create = CreateCall path
call_at path Mkdir = MkdirCall path
call_at path (Write off bytes) = WriteCall path off (input_bytes bytes)
call_at path Stat = StatCall path

-- the same call
abbrev pub call_of : BorrowedCall → Call
call_of c = call_at c.path.text.now c.action

-- the call that reads so many bytes from there on
abbrev pub read_of : ReadFrom → ℕ → Call
read_of from len = ReadCall from.path.text.now from.off len
