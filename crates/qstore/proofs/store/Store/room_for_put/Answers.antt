use Rattle.std.proofs.Common.{ℕ, Result, Ok, Err, refl, sym, ap, subst, ◌∙◌, arith}
use Rattle.std.specs.Option.{IfSome}
use Rattle.std.specs.Result.{IsErr}
use Rattle.std.specs.declared.alloc.AllocError.{AllocError}
use Rattle.qblocks.specs.File.{after_write}
use Rattle.qblocks.specs.Input.{input_bytes}
use Rattle.qblocks.specs.WriteRoom.{IsReadyToPut}
use Rattle.qplain.specs.declared.refusal.Refusal.{Refusal}
use Rattle.qplain.specs.Files.{with_file}
use Rattle.qplain.specs.State.{State, inode_at}
use Rattle.qstore_tree.specs.Tree.{file_room}
use Rattle.qstore_change.specs.declared.tree_change.TreeChange.TheVariants.{Write}
use Rattle.qstore.specs.declared.store.write.Target.{Target}
use Rattle.qstore.specs.Decided.{IsBilled}
use Rattle.qstore.specs.Kept.{stored_of}
use Rattle.qstore.specs.Stored.{Stored}
use Rattle.qstore.specs.Targets.{put_reply}
use Rattle.qstore.proofs.Calls.{altered-there, same-with_room, target-asked}
use Rattle.qstore.proofs.Deciding.{decision-billed, decision-unbilled, decision-unmade}
use Rattle.qstore.proofs.store.Store.room_for_put.Goals as goal

unmade : (target : Target) (result : Result (Result ℕ Refusal) AllocError) → IsErr result → IsErr (put_reply target result)
unmade target (Ok made) wanting = cc
unmade target (Err lack) wanting = refl

pub admit-requires-clause-asked : goal.admit-requires-clause-asked
admit-requires-clause-asked c =
    let x = c.args in
    let bytes = input_bytes x.bytes in
    let t = c.requires.target in (
      with_file x.self.now.state x.target.now.number t.inode (after_write t.inode.file x.off bytes),
      target-asked x.self.now c.requires.can.whole x.request.now.cred.now x.path.now x.off bytes x.target.now t,
    )

pub returns-in-Err : goal.returns-in-Err
returns-in-Err c =
    let x = c.args in
    let s = x.self.now in
    let t = c.requires.target in
    let asked = target-asked s c.requires.can.whole x.request.now.cred.now x.path.now x.off (input_bytes x.bytes) x.target.now t in
    decision-unbilled s c.admit.new.self c.admit.ensures.same x.request.now _ x.target.now.number 0 _ _ asked t.becomes _
    c.in-Err.refusal c.in-Err.ensures.refused refl

pub returns-in_err-spare : goal.returns-in_err-spare
returns-in_err-spare c =
    let x = c.args in
    let s = x.self.now in
    let t = c.requires.target in
    let asked = target-asked s c.requires.can.whole x.request.now.cred.now x.path.now x.off (input_bytes x.bytes) x.target.now t in
    let same = same-with_room s c.admit.new.self c.self.inside c.ready_write.new.self c.admit.ensures.same c.self.view_is c.ready_write.ensures.same in
    decision-unmade s _ same x.request.now _ x.target.now.number 0 _ _ asked t.becomes _ _ c.in-Ok.ensures.granted
    (unmade x.target.now _ c.from_residual.ensures.0)

pub returns : goal.returns
returns c =
    let x = c.args in
    let s = x.self.now in
    let a = c.self.inside in
    let q = x.request.now in
    let t = c.requires.target in
    let bytes = input_bytes x.bytes in
    let number = x.target.now.number in
    let asked = target-asked s c.requires.can.whole q.cred.now x.path.now x.off bytes x.target.now t in
    let exchange = x.target.now.exchange in
    let tree = c.ready_write.new.self in
    let same = same-with_room s c.admit.new.self a tree c.admit.ensures.same c.self.view_is c.ready_write.ensures.same in
    let limit = t.bound in
    let low = c.requires.can.whole.sound.file_bound in
    let Fits : ℕ → Type 0 = λ n. IfSome (file_room tree.room number) (λ f. IsReadyToPut f x.off n c.in_ok-spare.spare) in
    decision-billed s (stored_of (record a { tree = tree })) same q _ number 0 exchange _ asked t.becomes (Write number x.off bytes c.in_ok-spare.spare) _
    (subst (λ (v : Stored). IsBilled s v.bill q exchange 0) (sym c.self.view_is) c.in-Ok.ensures.granted)
    (altered-there s.state number (λ inode. record inode { file = after_write inode.file x.off bytes }) t.inode t.there)
    (record {
      inode = t.inode;
      there = ap (λ (S : State). inode_at S number) same.state ∙ t.there;
      bound = omega (arith, limit, low);
      file = record { there = c.ready_write.ensures.there; ready = subst Fits c.len.ensures c.in_ok-spare.ensures.room };
    })
    refl
