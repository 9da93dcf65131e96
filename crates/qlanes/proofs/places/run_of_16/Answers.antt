use Rattle.std.proofs.Common.{eqb, arith, w8}
use Rattle.std.proofs.lemmas.Simd.{bitmask_splat, length-chunk}
use lib.Lanes.{chunk}
use Rattle.qlanes.proofs.FirstPlaces.{none_hit, first_hit}
use Rattle.qlanes.proofs.places.run_of_16.Goals as goal

pub returns-then-hits-eq0 : goal.returns-then-hits-eq0
returns-then-hits-eq0 c =
    let v = chunk c.args.at 16 c.args.bytes.now in
    let long = length-chunk c.args.at 16 c.args.bytes.now c.requires in
    none_hit (λ b. eqb b c.args.byte) v 16 _ long (omega arith) (bitmask_splat w8 eqb v 16 c.args.byte long (omega arith)) c.if-hits-eq0.true

pub returns-else-hits-eq0 : goal.returns-else-hits-eq0
returns-else-hits-eq0 c =
    let v = chunk c.args.at 16 c.args.bytes.now in
    let long = length-chunk c.args.at 16 c.args.bytes.now c.requires in
    first_hit (λ b. eqb b c.args.byte) v 16 _ long (omega arith) (bitmask_splat w8 eqb v 16 c.args.byte long (omega arith)) (omega arith)
