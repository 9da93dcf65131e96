use Rattle.std.proofs.Common.{rules}
use Rattle.qstore_walk.proofs.renames.rename_fault.Goals as goal

pub returns-then-is_kept : goal.returns-then-is_kept
returns-then-is_kept c = λ S is there stands.
    let below = c.comes_below.ensures S is in
    let onto_file = c.is_onto_file.ensures S is in
    let onto_directory = c.is_onto_directory.ensures S is in
    let may = c.may_remove.ensures S is there in
    let kept = c.is_kept.ensures S is in
    search (rules, below, onto_file, onto_directory, may, kept)

pub returns-then-leads_to_names : goal.returns-then-leads_to_names
returns-then-leads_to_names c = λ S is there stands.
    let below = c.comes_below.ensures S is in
    let onto_file = c.is_onto_file.ensures S is in
    let onto_directory = c.is_onto_directory.ensures S is in
    let may = c.may_remove.ensures S is there in
    let kept = c.is_kept.ensures S is in
    let full = c.leads_to_names.ensures S is in
    search (rules, below, onto_file, onto_directory, may, kept, full)

pub returns-else-adds_too_many : goal.returns-else-adds_too_many
returns-else-adds_too_many c = λ S is there stands.
    let below = c.comes_below.ensures S is in
    let onto_file = c.is_onto_file.ensures S is in
    let onto_directory = c.is_onto_directory.ensures S is in
    let may = c.may_remove.ensures S is there in
    let kept = c.is_kept.ensures S is in
    let full = c.leads_to_names.ensures S is in
    let many = c.adds_too_many.ensures S is stands in
    search (rules, below, onto_file, onto_directory, may, kept, full, many)
