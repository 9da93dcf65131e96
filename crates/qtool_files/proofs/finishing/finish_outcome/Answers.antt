use Rattle.std.proofs.Common.{rules}
use Rattle.qtool_files.proofs.finishing.finish_outcome.Goals as goal

pub returns-clause-saved : goal.returns-clause-saved
returns-clause-saved g c =
    record { between = g.F.Files.held c.save_journal.new.files; journal_is = search rules; image_is = search rules }
