use Rattle.std.proofs.Common.{◌≡◌, map, take, string_bytes}
use Rattle.qtext_job.proofs.job.copies.Given as goal

abbrev pub invariant-loop-name : goal.invariant-loop-name
invariant-loop-name l = map (λ s. string_bytes s) l.copies.items ≡ map (λ s. s.now) (take l.name-index l.names)
