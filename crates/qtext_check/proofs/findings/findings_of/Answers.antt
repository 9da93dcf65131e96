use Rattle.std.proofs.Common.{◌+◌, List, ℕ, refl, arith, rules}
use Rattle.std.specs.Option.{option_map}
use Rattle.qtext_files.specs.RawLines.{RawLine}
use Rattle.qtext_check.specs.declared.fault.FaultyLine.{FaultyLine}
use Rattle.qtext_check.specs.Faults.{fault_in, checked_line, listed}
use Rattle.qtext_check.proofs.Gathered.{first_told_of, goes_on, is_done, looks_on, none_left}
use Rattle.qtext_check.proofs.findings.findings_of.Goals as goal

pub loop-rest-preserved : goal.loop-rest-preserved
loop-rest-preserved c =
    let faults : RawLine → List FaultyLine = λ l. listed (fault_in (option_map (λ s. s.now) c.args.setup) l) in
    let lines : RawLine → List (List ℕ) = λ l. listed (checked_line (option_map (λ s. s.now) c.args.setup) l) in
    let line = c.in_ok-line.line in
    let first = looks_on (c.loop-rest.number + 1) line.bytes.now line.whole c.loop-rest.rest.now line.after.now _
    (c.in_ok-line.ensures.first (c.loop-rest.number + 1)) c.left_behind-rest.ensures.left in
    record {
      count = omega (arith, c.in_ok-line.ensures.shorter, c.left_behind-rest.ensures.short, c.loop-rest.invariant.count);
      faults = rw (c.in_ok-put_found.ensures.fault, c.in_ok-found.ensures.wrong) (goes_on faults _ _ _ _ _ _ refl first c.loop-rest.invariant.faults);
      lines = rw (c.in_ok-put_found.ensures.bytes, c.in_ok-found.ensures.wrong) (goes_on lines _ _ _ _ _ _ refl first c.loop-rest.invariant.lines);
      words = c.in_ok-put_found.ensures.word c.loop-rest.invariant.words c.in_ok-found.ensures.word;
    }

pub returns-clause-all : goal.returns-clause-all
returns-clause-all c =
    let faults : RawLine → List FaultyLine = λ l. listed (fault_in (option_map (λ s. s.now) c.args.setup) l) in
    is_done faults _ _ _ (none_left (c.loop-rest.number + 1) c.loop-rest.rest.now (search rules)) c.loop-rest.invariant.faults

pub returns-clause-lines : goal.returns-clause-lines
returns-clause-lines c =
    let lines : RawLine → List (List ℕ) = λ l. listed (checked_line (option_map (λ s. s.now) c.args.setup) l) in
    is_done lines _ _ _ (none_left (c.loop-rest.number + 1) c.loop-rest.rest.now (search rules)) c.loop-rest.invariant.lines

pub returns-clause-first : goal.returns-clause-first
returns-clause-first c =
    let faults : RawLine → List FaultyLine = λ l. listed (fault_in (option_map (λ s. s.now) c.args.setup) l) in
    first_told_of (option_map (λ s. s.now) c.args.setup) c.args.text.now _
    (is_done faults _ _ _ (none_left (c.loop-rest.number + 1) c.loop-rest.rest.now (search rules)) c.loop-rest.invariant.faults)
