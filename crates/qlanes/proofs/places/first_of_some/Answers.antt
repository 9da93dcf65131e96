use Rattle.std.proofs.Common.{ℕ, ◌-◌, Bool, eqb, length, arith}
use Rattle.qlanes.proofs.FirstPlaces.{passes_on, stands}
use Rattle.qlanes.proofs.places.first_of_some.Goals as goal

pub returns-then-run-lt8 : goal.returns-then-run-lt8
returns-then-run-lt8 c =
    let is_hit : ℕ → Bool = λ b. eqb b c.args.byte in
    let run = c.run_of_8-run in
    let at = stands is_hit c.args.bytes.now 0 8 run.result (omega arith) run.ensures (λ k low. absurd (omega (arith, low))) (λ _. c.if-run-lt8.true) in
    omega (arith, at)

pub returns : goal.returns
returns c =
    let is_hit : ℕ → Bool = λ b. eqb b c.args.byte in
    let bytes = c.args.bytes.now in
    let last = length bytes - 8 in
    let run = c.run_of_8-run in
    let front = passes_on is_hit bytes 0 8 run.result (omega arith) run.ensures (λ k low. absurd (omega (arith, low))) (omega arith) in
    stands is_hit bytes last 8 c.run_of_8.result (omega arith) c.run_of_8.ensures (λ k low. front k (omega (arith, low))) (λ inside. omega (arith, inside))
