use Rattle.std.proofs.Common.{refl}
use Rattle.qblocks.specs.File.{after_write, written, resized, with_touched, with_index}
use Rattle.hex.specs.Hex.{decode_pairs, encode_with}
use Rattle.std.specs.Fmt.{digits}
use Rattle.qtext.specs.Data.{data_of}
use Rattle.qtext.specs.Words.{numeral}
use Rattle.qtext_read.specs.Arguments.{owner_of, path_of}
use Rattle.qtext_read.specs.RepliesRead.{end_of, limits_of}
use Rattle.qtext_files.specs.Journals.{edition_of, head_keyword}
use Rattle.qtext_files.specs.RawLines.{raw_lines_from}
use Rattle.qtext_image.specs.Images.{head_in, image_in, is_end, rows_at_end, rows_up_to_end, words_of}
use Rattle.qtext_image.specs.RowsRead.{block_row_in, bounds_in, directory_in, file_in, graces_in, lower_data_of, name_in, owners_of, record_in, row_by, row_in}
use Rattle.qtext_image.proofs.laws.worked_faults.Goals as goal

pub returns : goal.returns
unfolding decode_pairs after_write written resized with_touched with_index digits encode_with data_of numeral owner_of
    path_of end_of limits_of edition_of head_keyword raw_lines_from head_in image_in is_end rows_at_end rows_up_to_end
    words_of block_row_in bounds_in directory_in file_in graces_in lower_data_of name_in owners_of record_in row_by row_in
returns c = record {
  text = (refl, refl, refl, refl, refl, refl, refl, refl, refl, refl);
  order = (refl, refl, refl, refl, refl, refl, refl, refl, refl);
  names = (refl, refl, refl, refl, refl, refl, refl, refl, refl);
  counts = (refl, refl, refl, refl, refl, refl);
}
