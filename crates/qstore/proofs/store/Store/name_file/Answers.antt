use Rattle.std.proofs.Common.{rules, ◌≡◌, string_bytes, refl, None, sym, ap, subst, ◌∙◌}
use Rattle.qplain.specs.Names.{with_name}
use Rattle.qplain.specs.State.{State, is_directory, named}
use Rattle.qstore_tree.specs.TreeOf.{IsFile}
use Rattle.qstore.specs.declared.request.Exchange.{Exchange}
use Rattle.qstore.specs.Decided.{IsBilled}
use Rattle.qstore.specs.Kept.{stored_of}
use Rattle.qstore.specs.Stored.{Stored}
use Rattle.qstore.proofs.Calls.{same-with_room}
use Rattle.qstore.proofs.Deciding.{decision-billed, decision-unbilled, decision-unmade, kept}
use Rattle.qstore.proofs.FurtherNames.{linked-asked}
use Rattle.qstore.proofs.store.Store.name_file.Goals as goal

pub admit-requires-clause-asked : goal.admit-requires-clause-asked
admit-requires-clause-asked c =
    let s = c.args.self.now in
    let new = c.args.new.now in
    (with_name s.state new.dir new.name.now new.number, linked-asked s c.requires.can.whole new.dir new.name.now new.number)

pub returns-in-Err : goal.returns-in-Err
returns-in-Err c =
    let s = c.args.self.now in
    let new = c.args.new.now in
    let asked = linked-asked s c.requires.can.whole new.dir new.name.now new.number in
    kept _ _ c.refused.ensures.plan
    (decision-unbilled s c.admit.new.self c.admit.ensures.same c.args.request.now _ new.number 0 _ _ asked refl c.refused.result c.in-Err.refusal
    c.in-Err.ensures.refused c.refused.ensures.reply)

pub returns-in_err-name : goal.returns-in_err-name
returns-in_err-name c =
    let s = c.args.self.now in
    let new = c.args.new.now in
    let asked = linked-asked s c.requires.can.whole new.dir new.name.now new.number in
    decision-unmade s c.admit.new.self c.admit.ensures.same c.args.request.now _ new.number 0 _ _ asked refl _ _ c.in-Ok.ensures.granted
    c.from_residual.ensures.0

pub returns-in_err-make_name_room : goal.returns-in_err-make_name_room
returns-in_err-make_name_room c =
    let s = c.args.self.now in
    let new = c.args.new.now in
    let asked = linked-asked s c.requires.can.whole new.dir new.name.now new.number in
    let same = same-with_room s c.admit.new.self c.self.inside c.make_name_room.new.self c.admit.ensures.same c.self.view_is
    c.make_name_room.ensures.same in
    decision-unmade s _ same c.args.request.now _ new.number 0 _ _ asked refl _ _ c.in-Ok.ensures.granted c.from_residual-in_err-make_name_room.ensures.0

pub returns : goal.returns
returns c =
    let x = c.args in
    let s = x.self.now in
    let a = c.self.inside in
    let new = x.new.now in
    let exchange : Exchange = record { from = None; to = None } in
    let tree = c.make_name_room.new.self in
    let same = same-with_room s c.admit.new.self a tree c.admit.ensures.same c.self.view_is c.make_name_room.ensures.same in
    let name : string_bytes c.in_ok-name.name ≡ new.name.now = search rules in
    kept _ _ c.granted.ensures.plan
    (decision-billed s (stored_of (record a { tree = tree })) same x.request.now _ new.number 0 exchange _
    (linked-asked s c.requires.can.whole new.dir new.name.now new.number) refl _ c.granted.result
    (subst (λ (v : Stored). IsBilled s v.bill x.request.now exchange 0) (sym c.self.view_is) c.in-Ok.ensures.granted)
    (λ i. with_name s.state new.dir (name i) new.number)
    (record {
      file = subst (λ (S : State). IsFile S new.number) (sym same.state) c.requires.file;
      directory = ap (λ (S : State). is_directory S new.dir) same.state ∙ c.requires.free.directory;
      absent = (λ i. named (same.state i) new.dir (name i)) ∙ c.requires.free.absent;
      name_room = c.in_ok-make_name_room.ensures.room;
    })
    c.granted.ensures.reply)
