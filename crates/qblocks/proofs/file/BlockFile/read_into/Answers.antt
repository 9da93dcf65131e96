use Rattle.std.proofs.Common.{ℕ, ap, arith, sym, ◌∙◌, ◌-◌, length, drop, map, length-take-le, take_at}
use Rattle.std.proofs.lemmas.List.FromFn.{length-map-range_with_len}
use Rattle.std.specs.List.{range_with_len}
use Rattle.qblocks.specs.Rows.{byte_at}
use Rattle.qblocks.specs.File.{read_at}
use Rattle.qblocks.proofs.View.{read_bytes, read_none}
use Rattle.qblocks.proofs.file.BlockFile.read_into.Goals as goal

pub returns-then-end-off-clause-bytes : goal.returns-then-end-off-clause-bytes
returns-then-end-off-clause-bytes c =
    let asked = length c.args.buffer.now in
    sym (read_none c.self.inside.rows c.self.inside.size c.args.off asked (omega (arith, c.saturating_add.ensures)))
    ∙ ap (λ f. read_at f.file c.args.off asked) c.self.view_is

pub returns-then-end-off-clause-count : goal.returns-then-end-off-clause-count
returns-then-end-off-clause-count c =
    let asked = length c.args.buffer.now in
    ap {B = ℕ} length (sym (read_none c.self.inside.rows c.self.inside.size c.args.off asked (omega (arith, c.saturating_add.ensures)))
    ∙ ap (λ f. read_at f.file c.args.off asked) c.self.view_is)

pub returns-clause-bytes : goal.returns-clause-bytes
returns-clause-bytes c =
    let asked = length c.args.buffer.now in
    let m = c.self.inside.rows in
    let n = c.min-end.result - c.args.off in
    let count = length-take-le n c.args.buffer.now (omega (arith, c.saturating_add.ensures)) in
    let part = c.read_into.ensures ∙ ap (λ (x : ℕ). map (byte_at m) (range_with_len c.args.off x)) count in
    take_at c.read_into.new.out (drop n c.args.buffer.now) n
    (ap length part ∙ length-map-range_with_len (byte_at m) c.args.off n)
    ∙ part ∙ read_bytes m c.self.inside.size c.args.off asked n (omega (arith, c.saturating_add.ensures))
    ∙ ap (λ f. read_at f.file c.args.off asked) c.self.view_is

pub returns-clause-count : goal.returns-clause-count
returns-clause-count c =
    let asked = length c.args.buffer.now in
    let m = c.self.inside.rows in
    let n = c.min-end.result - c.args.off in
    sym (length-map-range_with_len (byte_at m) c.args.off n)
    ∙ ap {B = ℕ} length (read_bytes m c.self.inside.size c.args.off asked n (omega (arith, c.saturating_add.ensures))
    ∙ ap (λ f. read_at f.file c.args.off asked) c.self.view_is)
