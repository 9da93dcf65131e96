use Rattle.std.proofs.Common.{◌≡◌, length, nat_lt, refl, rules, sym, ap, subst}
use Rattle.qblocks.specs.File.{read_at}
use Rattle.qplain.specs.declared.bounds.TheConstants.{MAX_DATA}
use Rattle.qplain.specs.declared.call.Call.TheVariants.{Read}
use Rattle.qplain.specs.declared.reply.Reply.TheVariants.{Bytes, Refused}
use Rattle.qplain.specs.Attempt.{Answer, Refuse, at_path}
use Rattle.qplain.specs.Files.{read_from}
use Rattle.qplain.specs.Step.{settle}
use Rattle.qstore.specs.Requests.{IsWritten}
use Rattle.qstore.specs.Stored.{Stored}
use Rattle.qstore.proofs.Applied.{answered-now, step-refused}
use Rattle.qstore.proofs.Reading.{read-answered, read-refused}
use Rattle.qstore.proofs.store.Store.read_into.Goals as goal

pub returns-in_err-check-clause-read : goal.returns-in_err-check-clause-read
returns-in_err-check-clause-read c =
    let x = c.args in
    let s = x.self.now in
    let call = Read x.path.now x.off (length x.buffer.now) in
    let bad = nat_lt MAX_DATA (length x.buffer.now) in
    let written : IsWritten s.state bad c.path_fault.result call = record { numbers = refl; paths = sym c.path_fault.ensures } in
    let refusal = c.in_err-check.field-0.0 in
    read-refused s.state x.cred.now x.moment x.path.now x.off x.buffer.now refusal c.from_residual.result (search rules)
    (sym (step-refused s.state x.cred.now x.moment call refusal (c.in_err-check.ensures.refused call written)))

pub returns-in_err-file-clause-read : goal.returns-in_err-file-clause-read
returns-in_err-file-clause-read c =
    let x = c.args in
    let s = x.self.now in
    let len = length x.buffer.now in
    let call = Read x.path.now x.off len in
    let bad = nat_lt MAX_DATA len in
    let written : IsWritten s.state bad c.path_fault.result call = record { numbers = refl; paths = sym c.path_fault.ensures } in
    let q = c.in_ok-check.field-0 in
    let refusal = c.in_err-file.field-0.0 in
    let refused : at_path s.state (read_from x.off len) x.path.now ≡ Refuse refusal =
    subst (λ (v : Stored). at_path v.state (read_from x.off len) x.path.now ≡ Refuse refusal) c.check.ensures.same
    (c.in_err-file.ensures.fault x.off len) in
    read-refused s.state x.cred.now x.moment x.path.now x.off x.buffer.now refusal c.from_residual-in_err-file.result (search rules)
    ((answered-now s x.cred.now x.moment bad c.path_fault.result q c.in_ok-check.ensures.checked call written s s refl (Refused refusal)
    (ap (settle s.state q.cred.now q.moment) refused)).ok)

pub returns-clause-read : goal.returns-clause-read
returns-clause-read c =
    let x = c.args in
    let s = x.self.now in
    let len = length x.buffer.now in
    let call = Read x.path.now x.off len in
    let bad = nat_lt MAX_DATA len in
    let written : IsWritten s.state bad c.path_fault.result call = record { numbers = refl; paths = sym c.path_fault.ensures } in
    let q = c.in_ok-check.field-0 in
    let file = c.in_ok-file.field-0.now.file in
    let bytes = read_at file x.off len in
    let found : at_path s.state (read_from x.off len) x.path.now ≡ Answer (Bytes bytes) =
    subst (λ (v : Stored). at_path v.state (read_from x.off len) x.path.now ≡ Answer (Bytes bytes)) c.check.ensures.same
    (c.in_ok-file.ensures.found x.off len) in
    read-answered s.state x.cred.now x.moment x.path.now x.off x.buffer.now file c.read_into.new.buffer c.read_into.result
    c.read_into.ensures.bytes c.read_into.ensures.count c.read_into.ensures.behind
    ((answered-now s x.cred.now x.moment bad c.path_fault.result q c.in_ok-check.ensures.checked call written s s refl (Bytes bytes)
    (ap (settle s.state q.cred.now q.moment) found)).ok)
