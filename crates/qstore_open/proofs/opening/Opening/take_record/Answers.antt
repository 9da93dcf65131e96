use Rattle.std.proofs.Common.{◌∙◌}
use Rattle.qstore_open.specs.Told.{part_in}
use Rattle.qstore_open.proofs.FineRecords.{name-prints, told-record}
use Rattle.qstore_open.proofs.opening.Opening.take_record.Goals as goal

pub text_of-requires : goal.text_of-requires
text_of-requires c = name-prints c.args.self.now.state (part_in c.args.record.now).holder c.in_default.ensures

pub returns-clause-ok : goal.returns-clause-ok
returns-clause-ok c =
    let r = c.args.record.now in
    let name = c.new.ensures ∙ c.in_ok-name.ensures.ok ∙ c.text_of.ensures in
    told-record c.self.inside c.args.self.now c.self.view_is (part_in c.args.record.now) _ c.push.new.self c.in_ok-push.ensures
    (λ i. record (part_in r) { holder = record ((part_in r).holder) { name = name i } }) c.in_default.ensures
