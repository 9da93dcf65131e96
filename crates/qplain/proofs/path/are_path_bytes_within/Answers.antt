use Rattle.std.proofs.Common.{◌-◌, nat_le, drop, length-drop, ap, ◌∙◌, arith}
use Rattle.std.specs.List.{prefix_len}
use Rattle.qplain.specs.Paths.{is_path_byte}
use Rattle.qplain.proofs.Prefixes.{le_behind, passes_up_to}
use Rattle.qplain.proofs.path.are_path_bytes_within.Goals as goal

pub returns : goal.returns
returns c =
    let from = c.args.from in
    let to = c.args.to in
    let rest = drop from c.args.bytes.now in
    ap (nat_le to) c.printing_end.ensures.end ∙ le_behind from to (prefix_len is_path_byte rest) (omega arith)
    ∙ passes_up_to is_path_byte (to - from) rest (omega (arith, length-drop from c.args.bytes.now))
