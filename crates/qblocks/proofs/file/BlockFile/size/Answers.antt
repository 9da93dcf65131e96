use Rattle.std.proofs.Common.{ap, ◌∙◌, sym}
use Rattle.qblocks.specs.File.{size_of}
use Rattle.qblocks.proofs.View.{length-bytes_of}
use Rattle.qblocks.proofs.file.BlockFile.size.Goals as goal

pub returns-clause-value : goal.returns-clause-value
returns-clause-value c =
    sym (ap (λ f. size_of f.file) (sym c.self.view_is) ∙ length-bytes_of c.self.inside.rows c.self.inside.size)
