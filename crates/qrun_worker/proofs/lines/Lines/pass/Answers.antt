use Rattle.std.proofs.Common.{◌≡◌, ℕ, ◌+◌, ◌-◌, ◌<◌, ◌≤◌, drop, length, reverse, take, ap, sym, ◌∙◌, arith}
use Rattle.std.proofs.lemmas.List.{length-reverse, length-take-le}
use Rattle.std.specs.Vec.{vec_len}
use Rattle.qrun_worker.proofs.LinesLeft.{one_dropped}
use Rattle.qrun_worker.proofs.lines.Lines.pass.Goals as goal

pub returns : goal.returns
returns c =
    let left = c.self.inside.left in
    let played = c.self.inside.played in
    let many : ℕ = vec_len left - played in
    let n : ℕ = vec_len left - (played + 1) in
    let all = c.self.view_is in
    let long : many ≤ length left.items = omega (arith, left.ok.0) in
    let some : 0 < many =
    omega (arith, length-reverse (take many left.items), length-take-le many left.items long, ap length all, c.requires) in
    let less : n < length left.items = omega (arith, some, left.ok.0) in
    let one : n + 1 ≡ many = omega (arith, some) in
    sym (one_dropped left.items n less) ∙ ap (λ k. drop 1 (reverse (take k left.items))) one ∙ ap (drop 1) all
