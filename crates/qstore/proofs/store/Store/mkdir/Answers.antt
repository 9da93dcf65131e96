use Rattle.std.proofs.Common.{false, refl, sym}
use Rattle.qplain.specs.declared.call.Call.TheVariants.{Mkdir}
use Rattle.qstore.specs.Requests.{IsWritten}
use Rattle.qstore.proofs.Applied.{applied-now, applied-refused, can-now, ready-now, unapplied-now}
use Rattle.qstore.proofs.store.Store.mkdir.Goals as goal

pub returns-in-Err : goal.returns-in-Err
returns-in-Err c =
    let x = c.args in
    let call = Mkdir x.path.now in
    let written : IsWritten x.self.now.state false c.path_fault.result call = record { numbers = refl; paths = sym c.path_fault.ensures } in
    applied-refused x.self.now c.check.new.self c.check.ensures.same x.cred.now x.moment call c.in-Err.refusal
    (c.in-Err.ensures.refused call written)

pub decide_mkdir-requires : goal.decide_mkdir-requires
decide_mkdir-requires c =
    let x = c.args in
    can-now x.self.now c.check.new.self c.check.ensures.same x.cred.now x.moment false c.path_fault.result c.in-Ok.request c.in-Ok.ensures.checked

pub returns-in_err-reply : goal.returns-in_err-reply
returns-in_err-reply c =
    let x = c.args in
    let call = Mkdir x.path.now in
    let written : IsWritten x.self.now.state false c.path_fault.result call = record { numbers = refl; paths = sym c.path_fault.ensures } in
    unapplied-now x.self.now x.cred.now x.moment false c.path_fault.result c.in-Ok.request c.in-Ok.ensures.checked call written
    c.check.new.self c.decide_mkdir.new.self c.check.ensures.same _ _ _ refl c.from_residual.ensures.0 c.in_err-reply.ensures

pub commit-requires : goal.commit-requires
commit-requires c =
    let x = c.args in
    let call = Mkdir x.path.now in
    let written : IsWritten x.self.now.state false c.path_fault.result call = record { numbers = refl; paths = sym c.path_fault.ensures } in
    ready-now x.self.now x.cred.now x.moment false c.path_fault.result c.in-Ok.request c.in-Ok.ensures.checked call written
    c.check.new.self c.decide_mkdir.new.self c.check.ensures.same c.in_ok-reply.reply c.in_ok-reply.ensures

pub returns : goal.returns
returns c =
    let x = c.args in
    let call = Mkdir x.path.now in
    let written : IsWritten x.self.now.state false c.path_fault.result call = record { numbers = refl; paths = sym c.path_fault.ensures } in
    applied-now x.self.now x.cred.now x.moment false c.path_fault.result c.in-Ok.request c.in-Ok.ensures.checked call written
    c.check.new.self c.decide_mkdir.new.self c.check.ensures.same c.decide_mkdir.new.self.plan c.in_ok-reply.reply c.in_ok-reply.ensures
    c.commit.new.self.state c.commit.ensures
