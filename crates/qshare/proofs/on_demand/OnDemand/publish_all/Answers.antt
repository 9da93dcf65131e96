use Rattle.std.proofs.Common.{length, refl, ap, subst, ◌∙◌}
use Rattle.qrules.specs.Sort.{Blocks, Inodes}
use Rattle.qplain.specs.Boards.{rows_of}
use Rattle.qplain.specs.Use.{total_of}
use Rattle.qshare.specs.Waiting.{Replaces}
use Rattle.qshare.proofs.Leading.{all_lead, brings_on}
use Rattle.qshare.proofs.on_demand.OnDemand.publish_all.Goals as goal

pub publish-requires : goal.publish-requires
publish-requires g c =
    let id = g.S.StoreId.id in
    let store = c.args.store.now in
    let shown = c.args.self.now.publisher in
    let rows = c.in-Ok.rows.items in
    let is = c.store-kept.ensures.store in
    let replaces : Replaces rows (rows_of store.stored.state) = subst (λ s. Replaces rows (rows_of s.state)) is c.in-Ok.ensures in
    brings_on id store shown shown rows _ c.args.history c.requires.store
    (all_lead id.setting id.begun store shown rows c.requires.store replaces) c.requires.begins c.requires.history
    (ap length c.entries.ensures.entries) refl (c.blocks-2.ensures ∙ ap (λ s. total_of s.state Blocks) is)
    (c.inodes.ensures ∙ ap (λ s. total_of s.state Inodes) is)
