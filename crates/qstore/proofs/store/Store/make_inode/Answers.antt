use Rattle.std.proofs.Common.{rules, ◌≡◌, string_bytes, None, Some, refl, sym, ap, subst, ◌∙◌}
use Rattle.qplain.specs.declared.reply.Reply.TheVariants.{Done}
use Rattle.qplain.specs.Names.{created, owners_by}
use Rattle.qplain.specs.State.{State, is_directory, named}
use Rattle.qstore.specs.declared.request.Exchange.{Exchange}
use Rattle.qstore.specs.Decided.{IsBilled}
use Rattle.qstore_walk.specs.Owners.{caller_owners}
use Rattle.qstore.specs.Requests.{are_declared}
use Rattle.qstore_change.specs.FileTypes.{inode_new}
use Rattle.qstore.specs.Kept.{stored_of}
use Rattle.qstore.specs.Stored.{Stored}
use Rattle.qstore.specs.Told.{total_change}
use Rattle.qstore.proofs.Calls.{created-asked, made-declared, same-with_room}
use Rattle.qstore.proofs.Deciding.{decision-billed, decision-unbilled, decision-unmade, kept}
use Rattle.qstore.proofs.store.Store.make_inode.Goals as goal

pub admit-requires-clause-asked : goal.admit-requires-clause-asked
admit-requires-clause-asked c =
    let x = c.args in
    let q = x.request.now in
    let cred = q.cred.now in (
      created x.self.now.state (inode_new x.sort (owners_by x.self.now.state cred x.dir)) x.dir x.name.now,
      created-asked x.self.now c.requires.can.whole cred x.dir x.name.now x.sort c.caller_owners-owners.result
          (c.caller_owners-owners.ensures ∙ ap (caller_owners cred) c.project_of.ensures) c.claim.result c.claim.ensures.claimed,
    )

pub claim-requires-clause-declared : goal.claim-requires-clause-declared
claim-requires-clause-declared c =
    let x = c.args in
    let S = x.self.now.state in
    let cred = x.request.now.cred.now in
    let can = c.requires.can in
    ap (are_declared S) (c.caller_owners-owners.ensures ∙ ap (caller_owners cred) c.project_of.ensures)
    ∙ made-declared S cred x.dir can.whole.sound.lawful.parts can.known c.requires.free.directory

pub returns-in-Err : goal.returns-in-Err
returns-in-Err c =
    let x = c.args in
    let s = x.self.now in
    let q = x.request.now in
    let cred = q.cred.now in
    let can = c.requires.can in
    let own = c.caller_owners-owners.ensures ∙ ap (caller_owners cred) c.project_of.ensures in
    let asked = created-asked s can.whole cred x.dir x.name.now x.sort _ own c.claim.result c.claim.ensures.claimed in
    kept _ _ c.refused.ensures.plan
    (decision-unbilled s c.admit.new.self c.admit.ensures.same q _ s.state.next 1 _ _ asked refl c.refused.result c.in-Err.refusal
    c.in-Err.ensures.refused c.refused.ensures.reply)

pub returns-in_err-name : goal.returns-in_err-name
returns-in_err-name c =
    let x = c.args in
    let s = x.self.now in
    let q = x.request.now in
    let cred = q.cred.now in
    let can = c.requires.can in
    let own = c.caller_owners-owners.ensures ∙ ap (caller_owners cred) c.project_of.ensures in
    let asked = created-asked s can.whole cred x.dir x.name.now x.sort _ own c.claim.result c.claim.ensures.claimed in
    decision-unmade s c.admit.new.self c.admit.ensures.same q _ s.state.next 1 _ _ asked refl _ _ c.in-Ok.ensures.granted c.from_residual.ensures.0

pub returns-in_err-make_room : goal.returns-in_err-make_room
returns-in_err-make_room c =
    let x = c.args in
    let s = x.self.now in
    let q = x.request.now in
    let cred = q.cred.now in
    let can = c.requires.can in
    let own = c.caller_owners-owners.ensures ∙ ap (caller_owners cred) c.project_of.ensures in
    let asked = created-asked s can.whole cred x.dir x.name.now x.sort _ own c.claim.result c.claim.ensures.claimed in
    let same = same-with_room s c.admit.new.self c.self.inside c.make_room.new.self c.admit.ensures.same c.self.view_is c.make_room.ensures.same in
    decision-unmade s _ same q _ s.state.next 1 _ _ asked refl _ _ c.in-Ok.ensures.granted c.from_residual-in_err-make_room.ensures.0

pub returns : goal.returns
returns c =
    let x = c.args in
    let s = x.self.now in
    let a = c.self.inside in
    let q = x.request.now in
    let cred = q.cred.now in
    let can = c.requires.can in
    let own = c.caller_owners-owners.ensures ∙ ap (caller_owners cred) c.project_of.ensures in
    let asked = created-asked s can.whole cred x.dir x.name.now x.sort _ own c.claim.result c.claim.ensures.claimed in
    let exchange : Exchange = record { from = None; to = Some c.claim.result } in
    let tree = c.make_room.new.self in
    let same = same-with_room s c.admit.new.self a tree c.admit.ensures.same c.self.view_is c.make_room.ensures.same in
    let name : string_bytes c.in_ok-name.name ≡ x.name.now = search rules in
    let room = c.in_ok-make_room.ensures.room in
    let number = ap (λ (v : Stored). v.state.next) c.self.view_is ∙ ap (λ (S : State). S.next) c.admit.ensures.same.state in
    kept _ _ c.granted.ensures.plan
    (decision-billed s (stored_of (record a { tree = tree })) same q _ s.state.next 1 exchange _ asked refl _ c.granted.result
    (subst (λ (v : Stored). IsBilled s v.bill q exchange 1) (sym c.self.view_is) c.in-Ok.ensures.granted)
    (c.creation-change.ensures.made s.state
    ∙ (λ i. created s.state (inode_new x.sort (own i)) x.dir (name i)))
    (c.creation-change.ensures.can (stored_of (record a { tree = tree })).state tree.room (record {
      directory = ap (λ (S : State). is_directory S x.dir) same.state ∙ c.requires.free.directory;
      absent = (λ i. named (same.state i) x.dir (name i)) ∙ c.requires.free.absent;
      inode_room = room.inode;
      name_room = room.name;
    }))
    (c.granted.ensures.reply ∙ ap (λ n. Done n (total_change exchange)) number))
