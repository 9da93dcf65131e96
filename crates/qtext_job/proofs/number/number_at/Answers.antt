use Rattle.std.proofs.Common.{◌≡◌, ◌<◌, ◌∙◌, None, Some, sym, arith}
use Rattle.clap.specs.Words.{found_of}
use Rattle.qtext_job.proofs.JobLaws.{no_number, number_read}
use Rattle.qtext_job.proofs.number.number_at.Goals as goal

pub returns-in-Some-clause-some : goal.returns-in-Some-clause-some
returns-in-Some-clause-some c =
    number_read (found_of c.args.matches.now) c.args.id.now c.args.least c.args.most c.get_one.result c.in-Some.number
    c.get_one.ensures.none c.get_one.ensures.value c.in-Some.is c.if-least-number.true c.if-number-most.true

pub returns-in_default-clause-none : goal.returns-in_default-clause-none
returns-in_default-clause-none c _ = no_number (found_of c.args.matches.now) c.args.id.now c.args.least c.args.most
    c.get_one.result c.get_one.ensures.value (omega arith) (λ n is enough small.
    let same : Some c.in-Some.number ≡ Some n = sym c.in-Some.is ∙ is in
    let number : c.in-Some.number ≡ n = cc in
    let over : c.args.most < c.in-Some.number = c.if-number-most.false in
    omega arith)

pub returns-in_default-2-clause-none : goal.returns-in_default-2-clause-none
returns-in_default-2-clause-none c _ = no_number (found_of c.args.matches.now) c.args.id.now c.args.least c.args.most
    c.get_one.result c.get_one.ensures.value (omega arith) (λ n is enough small.
    let same : Some c.in-Some.number ≡ Some n = sym c.in-Some.is ∙ is in
    let number : c.in-Some.number ≡ n = cc in
    let under : c.in-Some.number < c.args.least = c.if-least-number.false in
    omega arith)

pub returns-in_default-3-clause-none : goal.returns-in_default-3-clause-none
returns-in_default-3-clause-none c _ = no_number (found_of c.args.matches.now) c.args.id.now c.args.least c.args.most
    c.get_one.result c.get_one.ensures.value (omega arith) (λ n is enough small.
    let none : None ≡ Some n = sym c.in_default.is ∙ is in absurd cc)
