use Rattle.qsession_text.specs.Openings.{config_in}
use Rattle.qsession_text.proofs.Reading.{ends-text, reads-bytes, reads-err, reads-ok}
use Rattle.qsession_text.proofs.opening.config_of.Goals as goal

pub returns-in-Ok-clause-ok : goal.returns-in-Ok-clause-ok
returns-in-Ok-clause-ok c =
    let bytes = c.args.text.now in
    let text = c.in-Ok.text.now in
    let utf8 = c.in-Ok.ensures.cases in
    reads-ok (λ config. config.setup) c.read.result (config_in bytes)
    (reads-bytes (λ config. config.setup) c.read.result bytes text utf8.1 utf8.0 c.read.ensures.exact)

pub returns-in-Ok-clause-err : goal.returns-in-Ok-clause-err
returns-in-Ok-clause-err c =
    let bytes = c.args.text.now in
    let text = c.in-Ok.text.now in
    let utf8 = c.in-Ok.ensures.cases in
    reads-err (λ config. config.setup) c.read.result (config_in bytes)
    (reads-bytes (λ config. config.setup) c.read.result bytes text utf8.1 utf8.0 c.read.ensures.exact)

pub returns-in-Err-clause-err : goal.returns-in-Err-clause-err
returns-in-Err-clause-err c = ends-text c.args.text.now c.in-Err.ensures.cases.0
