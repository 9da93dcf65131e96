use Rattle.std.proofs.Common.{ap, sym, ◌∙◌}
use Rattle.std.specs.Map.{keys_of}
use Rattle.std.specs.Option.{option_map}
use Rattle.qplain.specs.State.{name_key_cmp}
use Rattle.qplain_laws.proofs.Tables.{name_key_total}
use Rattle.qtext_image.specs.NextFaults.{is_behind}
use Rattle.qstore_open.specs.Kept.{key_of}
use Rattle.qstore_open.proofs.Lasts.{is_behind_last, kept-behind}
use Rattle.qstore_open.proofs.opening.Opening.is_name_behind.Goals as goal

pub returns-in-Some : goal.returns-in-Some
returns-in-Some c =
    c.stands_before.ensures ∙ ap (λ o. is_behind_last name_key_cmp (option_map key_of o) (c.args.dir, c.args.name.now)) (sym c.in-Some.is)
    ∙ sym (kept-behind name_key_cmp name_key_total (keys_of c.self.inside.tree.names) (option_map key_of c.self.inside.last_name) (c.args.dir, c.args.name.now)
    c.self.invariant.keys)
    ∙ ap (λ t. is_behind name_key_cmp (keys_of t.state.names) (c.args.dir, c.args.name.now)) c.self.view_is

pub returns-in-None : goal.returns-in-None
returns-in-None c =
    ap (λ o. is_behind_last name_key_cmp (option_map key_of o) (c.args.dir, c.args.name.now)) (sym c.in-None.is)
    ∙ sym (kept-behind name_key_cmp name_key_total (keys_of c.self.inside.tree.names) (option_map key_of c.self.inside.last_name) (c.args.dir, c.args.name.now)
    c.self.invariant.keys)
    ∙ ap (λ t. is_behind name_key_cmp (keys_of t.state.names) (c.args.dir, c.args.name.now)) c.self.view_is
