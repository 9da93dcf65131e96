use Rattle.std.proofs.Common.{◌-◌, length, refl, ap, arith}
use lib.Lanes.{chunk}
use Rattle.qlanes.proofs.SameBytes.{same_from_both}
use Rattle.qlanes.proofs.same_bytes.are_same_bytes.Goals as goal

pub returns-then-are_4_same : goal.returns-then-are_4_same
returns-then-are_4_same c =
    let one = c.args.one.now in
    let last = length one - 4 in (
      λ is. same_from_both one c.args.other.now (length one) 4 refl (omega arith) (omega arith) (omega arith)
          (c.are_4_same.ensures.0 c.if-are_4_same.true) (c.are_4_same-then-are_4_same.ensures.0 is),
      λ same. c.are_4_same-then-are_4_same.ensures.1 (ap (chunk last 4) same),
    )

pub returns-then-are_8_same : goal.returns-then-are_8_same
returns-then-are_8_same c =
    let one = c.args.one.now in
    let last = length one - 8 in (
      λ is. same_from_both one c.args.other.now (length one) 8 refl (omega arith) (omega arith) (omega arith)
          (c.are_8_same.ensures.0 c.if-are_8_same.true) (c.are_8_same-then-are_8_same.ensures.0 is),
      λ same. c.are_8_same-then-are_8_same.ensures.1 (ap (chunk last 8) same),
    )
