use Rattle.std.proofs.Common.{Ok, Err, refl}
use Rattle.qtext_client.proofs.OneLine.{said_as}
use Rattle.qtext_client.proofs.Spending.{refused_in}
use Rattle.qtext_client.proofs.stream_client.heard_in.Goals as goal

pub returns-in-None : goal.returns-in-None
returns-in-None g c =
    let line = c.in-Ok.line in (
      c.in-Ok-read_line.line,
      said_as c.args.text.now line.bytes.now line.after.now line.whole (Ok c.in-Ok-read_line.line) c.requires (c.in-Ok.ensures.first 1)
          c.in-Ok-read_line.ensures.exact,
      c.in-None.ensures.may refl,
      c.timed.ensures,
    )

pub returns-in-Ok-read_line : goal.returns-in-Ok-read_line
returns-in-Ok-read_line g c =
    let line = c.in-Ok.line in
    refused_in _ c.in-Ok-read_line.line _ c.in-Some.fault c.in-Some.ensures.fault
    (said_as c.args.text.now line.bytes.now line.after.now line.whole (Ok c.in-Ok-read_line.line) c.requires (c.in-Ok.ensures.first 1)
    c.in-Ok-read_line.ensures.exact)

pub returns : goal.returns
returns g c =
    let line = c.in-Ok.line in
    said_as c.args.text.now line.bytes.now line.after.now line.whole (Err c.in-Err-Fault.kind) c.requires (c.in-Ok.ensures.first 1)
    (rw c.in-Err-Fault.field-0-is at c.in-Err-Fault.ensures.exact)
