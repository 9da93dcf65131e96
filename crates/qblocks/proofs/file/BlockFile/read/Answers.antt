use Rattle.std.proofs.Common.{ap, arith, sym, ◌∙◌, ◌-◌, ◌++◌, map}
use Rattle.std.specs.List.{range_with_len}
use Rattle.qblocks.specs.Rows.{byte_at}
use Rattle.qblocks.specs.File.{read_at}
use Rattle.qblocks.proofs.View.{read_bytes, read_none}
use Rattle.qblocks.proofs.file.BlockFile.read.Goals as goal

pub returns-then-end-off : goal.returns-then-end-off
returns-then-end-off c =
    c.new.ensures.items ∙ sym (read_none c.self.inside.rows c.self.inside.size c.args.off c.args.len (omega (arith, c.saturating_add.ensures)))
    ∙ ap (λ f. read_at f.file c.args.off c.args.len) c.self.view_is

pub returns : goal.returns
returns c =
    c.in_ok-read.ensures ∙ ap
    (λ xs. xs ++ map (byte_at c.self.inside.rows)
    (range_with_len c.args.off (c.min-end.result - c.args.off))) c.in_ok-bytes.ensures.items
    ∙ read_bytes c.self.inside.rows c.self.inside.size c.args.off c.args.len (c.min-end.result - c.args.off) (omega (arith, c.saturating_add.ensures))
    ∙ ap (λ f. read_at f.file c.args.off c.args.len) c.self.view_is
