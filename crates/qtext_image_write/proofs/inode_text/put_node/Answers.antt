use Rattle.std.proofs.lemmas.List.Elements.{All-nil}
use Rattle.qtext_image_write.proofs.Joined.{file_lines}
use Rattle.qtext_image_write.proofs.Typing.{always}
use Rattle.qtext_image_write.proofs.inode_text.put_node.Goals as goal

pub returns-in-File-clause-writes : goal.returns-in-File-clause-writes
returns-in-File-clause-writes g c =
    let numbered = c.args.numbered.now in
    rw (c.in-File.is, file_lines numbered.0 numbered.1.now.owners c.in-File.file.file) c.put_file.ensures.writes

pub returns-in-Directory-clause-held : goal.returns-in-Directory-clause-held
returns-in-Directory-clause-held g c = rw c.in-Directory.is (always c.put_directory.result _ (All-nil _))

pub returns-in-File-clause-held : goal.returns-in-File-clause-held
returns-in-File-clause-held g c = rw c.in-File.is c.put_file.ensures.held
