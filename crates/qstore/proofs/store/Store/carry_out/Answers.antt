use Rattle.std.proofs.Common.{◌≡◌, ap, refl, subst, sym, ◌∙◌}
use Rattle.qplain_laws.specs.Laws.{IsLawful}
use Rattle.qstore_tree.specs.Room.{Room}
use Rattle.qstore_change.specs.Changes.{CanChange, changed}
use Rattle.qstore.specs.declared.plan.Plan.{Plan}
use Rattle.qstore.specs.declared.plan.Plan.TheVariants.{Change, Limits}
use Rattle.qstore.specs.declared.store.Store.TheInside.{Inside}
use Rattle.qstore.specs.Kept.{stored_of}
use Rattle.qstore.specs.Ready.{CanCarryOut, IsReady, committed, effect}
use Rattle.qstore.specs.Stored.{IsStorable, Stored}
use Rattle.qstore.proofs.Settling.{bounds-changed, bounds-same, counted-billed, tree-kept}
use Rattle.qstore.proofs.store.Store.carry_out.Goals as goal

-- the plan that a store keeps is that of its fields
module _ (s : Stored) (a : Inside) (view : stored_of a ≡ s) (ready : IsReady s) (plan : Plan) (is : a.plan ≡ plan) where
  plan_is : s.plan ≡ plan
  plan_is = ap (λ (v : Stored). v.plan) (sym view) ∙ is

  -- so the store can carry it out
  can : CanCarryOut s plan
  can = subst (CanCarryOut s) plan_is ready.can

  sound : IsStorable (effect s plan)
  sound = subst (λ (p : Plan). IsStorable (effect s p)) plan_is ready.sound

  leaves : effect s plan ≡ committed s
  leaves = ap (effect s) (sym plan_is)

pub invariant_of-self-in-Change : goal.invariant_of-self-in-Change
invariant_of-self-in-Change c =
    let s = c.args.self.now in
    let a = c.self.inside in
    let view = sym c.self.view_is in
    let change = c.in-Change.change in
    let made = c.make-self-inside in
    let new : Inside = record a { accounts = c.settle.new.self; tree = made.new.tree; next = made.result; plan = Change made.new.change } in
    let next = ap (λ (t : Stored). t.state.next) view in
    let able = can s a c.self.view_is c.requires (Change change) c.in-Change.is in
    let lawful = subst (λ (t : Stored). IsLawful t.state) c.self.view_is c.self.invariant.sound.lawful in
    let roomy = subst (λ (r : Room). CanChange s.state r change) (ap (λ (t : Stored). t.room) view) able.0 in
    let tree = made.ensures.tree s.state (tree-kept s a view c.self.invariant) next lawful roomy in
    counted-billed s a new (changed s.state change) view (bounds-changed s.state change)
    c.self.invariant refl c.settle.ensures tree (made.ensures.next s.state next roomy) able.1
    (sound s a c.self.view_is c.requires (Change change) c.in-Change.is)

pub invariant_of-self-in-Limits : goal.invariant_of-self-in-Limits
invariant_of-self-in-Limits c =
    let s = c.args.self.now in
    let a = c.self.inside in
    let view = sym c.self.view_is in
    let new : Inside = record a { accounts = c.settle-in-Limits.new.self } in
    counted-billed s a new s.state view (bounds-same s.state)
    c.self.invariant refl c.settle-in-Limits.ensures (tree-kept s a view c.self.invariant) (ap (λ (t : Stored). t.state.next) view)
    (can s a c.self.view_is c.requires Limits c.in-Limits.is)
    (sound s a c.self.view_is c.requires Limits c.in-Limits.is)
