use Rattle.std.proofs.Common.{sym}
use Rattle.qblocks.proofs.Fills.{equals_fill, fill_equals}
use Rattle.qblocks.proofs.data.DataPartialEq.eq.Goals as goal

pub returns-in-Bytes-Fill : goal.returns-in-Bytes-Fill
returns-in-Bytes-Fill c =
    let arm = c.in-Bytes-Fill in
    rw (← c.self.view_is, ← c.other.view_is, arm.is-0, arm.is-1, c.is_fill.ensures, c.as_slice.ensures)
    (sym (equals_fill arm.count arm.byte arm.bytes))

pub returns-in-Fill-Bytes : goal.returns-in-Fill-Bytes
returns-in-Fill-Bytes c =
    let arm = c.in-Fill-Bytes in
    rw (
      ← c.self.view_is,
      ← c.other.view_is,
      arm.is-0,
      arm.is-1,
      c.is_fill-in-Fill-Bytes.ensures,
      c.as_slice-in-Fill-Bytes.ensures,
    ) (sym (fill_equals arm.count arm.byte arm.bytes))
