use Rattle.std.proofs.Common.{◌≡◌, flat_map, length, take}
use Rattle.qsession.specs.Names.{bytes_of}
use Rattle.qsession.proofs.names.text_len.Given as goal

-- the bytes so far are counted
abbrev pub invariant-loop-name : goal.invariant-loop-name
invariant-loop-name l = l.len ≡ length (flat_map bytes_of (take l.name-index l.names))
