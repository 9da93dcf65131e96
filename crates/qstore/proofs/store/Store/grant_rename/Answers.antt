use Rattle.std.proofs.Common.{rules, ◌≡◌, string_bytes, refl, sym, ap, subst}
use Rattle.qplain.specs.Renames.{renamed}
use Rattle.qplain.specs.State.{State}
use Rattle.qstore_walk.specs.Paths.{name_in}
use Rattle.qstore_change.specs.Changes.{CanRename}
use Rattle.qstore.specs.Decided.{IsBilled}
use Rattle.qstore.specs.Kept.{stored_of}
use Rattle.qstore.specs.Renamings.{with_new_name}
use Rattle.qstore.specs.Stored.{Stored}
use Rattle.qstore.proofs.Calls.{same-with_room}
use Rattle.qstore.proofs.Deciding.{decision-billed, decision-unbilled, decision-unmade, kept}
use Rattle.qstore.proofs.store.Store.grant_rename.Goals as goal

pub admit-requires-clause-asked : goal.admit-requires-clause-asked
admit-requires-clause-asked c = (with_new_name c.args.self.now.state (name_in c.args.from.now) c.args.new.now, c.requires.asked)

pub returns-in-Err : goal.returns-in-Err
returns-in-Err c =
    let x = c.args in
    kept _ _ c.refused.ensures.plan
    (decision-unbilled x.self.now c.admit.new.self c.admit.ensures.same x.request.now _ x.new.now.number 0 _ _ c.requires.asked refl c.refused.result
    c.in-Err.refusal c.in-Err.ensures.refused c.refused.ensures.reply)

pub returns-in_err-to_name : goal.returns-in_err-to_name
returns-in_err-to_name c =
    let x = c.args in
    decision-unmade x.self.now c.admit.new.self c.admit.ensures.same x.request.now _ x.new.now.number 0 _ _ c.requires.asked refl _ _
    c.in-Ok.ensures.granted c.from_residual.ensures.0

pub returns-in_err-path : goal.returns-in_err-path
returns-in_err-path c =
    let x = c.args in
    decision-unmade x.self.now c.admit.new.self c.admit.ensures.same x.request.now _ x.new.now.number 0 _ _ c.requires.asked refl _ _
    c.in-Ok.ensures.granted c.from_residual-in_err-path.ensures.0

pub returns-in_err-make_name_room : goal.returns-in_err-make_name_room
returns-in_err-make_name_room c =
    let x = c.args in
    let same = same-with_room x.self.now c.admit.new.self c.self.inside c.make_name_room.new.self c.admit.ensures.same c.self.view_is
    c.make_name_room.ensures.same in
    decision-unmade x.self.now _ same x.request.now _ x.new.now.number 0 _ _ c.requires.asked refl _ _
    c.in-Ok.ensures.granted c.from_residual-in_err-make_name_room.ensures.0

pub returns : goal.returns
returns c =
    let x = c.args in
    let s = x.self.now in
    let a = c.self.inside in
    let new = x.new.now in
    let tree = c.make_name_room.new.self in
    let same = same-with_room s c.admit.new.self a tree c.admit.ensures.same c.self.view_is c.make_name_room.ensures.same in
    let to_name : string_bytes c.in_ok-to_name.to_name ≡ new.to.name.now = search rules in
    let name = ap name_in c.in_ok-path.ensures in
    kept _ _ c.granted.ensures.plan
    (decision-billed s (stored_of (record a { tree = tree })) same x.request.now _ new.number 0 x.exchange.now _ c.requires.asked refl _
    c.granted.result
    (subst (λ (v : Stored). IsBilled s v.bill x.request.now x.exchange.now 0) (sym c.self.view_is) c.in-Ok.ensures.granted)
    (λ i. renamed s.state new.dir (name i) new.to.dir (to_name i) new.number)
    (let can = c.requires.can tree.room c.in_ok-make_name_room.ensures.room in
    let copied = string_bytes c.in_ok-to_name.to_name in
    (λ (S : State) (same_state : S ≡ s.state).
    subst (λ (T : State). CanRename T tree.room new.dir (name_in c.in_ok-path.path) new.to.dir copied new.number) (sym same_state)
    (subst (λ n. CanRename s.state tree.room new.dir n new.to.dir copied new.number) (sym name)
    (subst (λ n. CanRename s.state tree.room new.dir (name_in x.from.now) new.to.dir n new.number) (sym to_name) can))) _ same.state)
    c.granted.ensures.reply)
