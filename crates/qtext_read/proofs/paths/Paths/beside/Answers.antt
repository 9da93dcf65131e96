use Rattle.qtext_read.proofs.ArgumentsAgain.{path_again}
use Rattle.qtext_read.proofs.paths.Paths.beside.Goals as goal

pub invariant_of-kept : goal.invariant_of-kept
invariant_of-kept c =
    record { same = rw (c.in_ok-path.ensures, ← c.bytes-word.ensures.bytes) (path_again c.bytes-word.result.now c.bytes-word.ensures.form) }
