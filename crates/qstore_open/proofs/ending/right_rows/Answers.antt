use Rattle.std.proofs.Common.{rules, ◌≡◌, ap, sym, ◌∙◌, Err, None}
use Rattle.qaudit.specs.declared.counts.Counts.{Counts}
use Rattle.qstore_open.specs.declared.records.ToldRecords.{ToldRecords}
use Rattle.qstore_open.specs.Counting.{goes_on}
use Rattle.qstore_open.proofs.Counted.{groups-told, projects-told, rows-line, users-told}
use Rattle.qstore_open.proofs.ending.right_rows.Goals as goal

pub returns-in_err-groups : goal.returns-in_err-groups
returns-in_err-groups c = λ S are finds.
    let out : c.from_residual.result ≡ Err c.in_err-groups.field-0.0 = search rules in
    users-told S c.args.records.now c.args.counts.now c.args.inodes.now are 4 c.right_records.ensures.lines c.as_slice.ensures c.deref.ensures.value
    c.in_err-groups.was
    ∙ ap (goes_on (λ behind. None)) (sym out)

pub returns-in_err-projects : goal.returns-in_err-projects
returns-in_err-projects c = λ S are finds.
    let R : ToldRecords = c.args.records.now in
    let counts : Counts = c.args.counts.now in
    let out : c.from_residual-in_err-projects.result ≡ Err c.in_err-projects.field-0.0 = search rules in
    users-told S R counts c.args.inodes.now are 4 c.right_records.ensures.lines c.as_slice.ensures c.deref.ensures.value c.in_ok-groups.was
    ∙ groups-told S R counts c.args.inodes.now are c.in_ok-groups.groups c.right_records-2.ensures.lines c.as_slice-2.ensures c.deref-2.ensures.value
    c.in_err-projects.was
    ∙ ap (goes_on (λ behind. None)) (sym out)

pub returns-in_err-behind : goal.returns-in_err-behind
returns-in_err-behind c = λ S are finds.
    let R : ToldRecords = c.args.records.now in
    let counts : Counts = c.args.counts.now in
    let out : c.from_residual-in_err-behind.result ≡ Err c.in_err-behind.field-0.0 = search rules in
    users-told S R counts c.args.inodes.now are 4 c.right_records.ensures.lines c.as_slice.ensures c.deref.ensures.value c.in_ok-groups.was
    ∙ groups-told S R counts c.args.inodes.now are c.in_ok-groups.groups c.right_records-2.ensures.lines c.as_slice-2.ensures c.deref-2.ensures.value
    c.in_ok-projects.was
    ∙ projects-told S R counts c.args.inodes.now are c.in_ok-projects.projects c.right_records-3.ensures.lines c.as_slice-3.ensures
    c.deref-3.ensures.value c.in_err-behind.was
    ∙ ap (goes_on (λ behind. None)) (sym out)

pub returns : goal.returns
returns c = λ S are finds.
    let R : ToldRecords = c.args.records.now in
    let counts : Counts = c.args.counts.now in
    users-told S R counts c.args.inodes.now are 4 c.right_records.ensures.lines c.as_slice.ensures c.deref.ensures.value c.in_ok-groups.was
    ∙ groups-told S R counts c.args.inodes.now are c.in_ok-groups.groups c.right_records-2.ensures.lines c.as_slice-2.ensures c.deref-2.ensures.value
    c.in_ok-projects.was
    ∙ projects-told S R counts c.args.inodes.now are c.in_ok-projects.projects c.right_records-3.ensures.lines c.as_slice-3.ensures
    c.deref-3.ensures.value c.in_ok-behind.was
    ∙ sym (rows-line S counts c.args.inodes.now c.args.reach.now c.in_ok-behind.behind are finds)
    ∙ c.right_inodes.ensures
