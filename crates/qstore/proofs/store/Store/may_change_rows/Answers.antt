use Rattle.std.proofs.Common.{◌≡◌, ◌⊎◌, inl, inr, ap, subst}
use Rattle.qrules.specs.declared.graces.Graces.{Graces}
use Rattle.qplain.specs.Journal.{board_of}
use Rattle.qstore.specs.declared.plan.Plan.{Plan}
use Rattle.qstore.specs.declared.plan.Plan.TheVariants.{Nothing, SetGraces}
use Rattle.qstore.specs.Ready.{effect}
use Rattle.qstore.specs.Stored.{Stored}
use Rattle.qstore.proofs.store.Store.may_change_rows.Goals as goal

-- a plan that changes no record changes no row
no-row : (s : Stored) (plan : Plan) → (plan ≡ Nothing) ⊎ ((graces : Graces) × plan ≡ SetGraces graces)
    → (board_of (effect s plan) 0).rows ≡ (board_of s.state 0).rows
no-row s plan (inl same) = ap (λ (p : Plan). (board_of (effect s p) 0).rows) same
no-row s plan (inr (graces, same)) = ap (λ (p : Plan). (board_of (effect s p) 0).rows) same

pub returns-in-Nothing : goal.returns-in-Nothing
returns-in-Nothing c told =
    no-row c.args.self.now c.args.self.now.plan
    (subst (λ (p : Plan). (p ≡ Nothing) ⊎ ((graces : Graces) × p ≡ SetGraces graces)) (ap (λ (v : Stored). v.plan) c.self.view_is) c.in-Nothing.is)
