use Rattle.std.proofs.Common.{◌≡◌, ◌<◌, ℕ, true, tests, arith}
use Rattle.std.proofs.lemmas.List.Sums.{AllPass-from_list_all}
use Rattle.std.proofs.lemmas.Str.{IsUtf8-from_ascii}
use Rattle.std.proofs.lemmas.Str.Ascii.{IsAscii-from_all}
use Rattle.qplain.specs.Paths.{is_path_byte}
use Rattle.qplain.proofs.path.Path.text.Goals as goal

below : (byte : ℕ) → is_path_byte byte ≡ true → byte < 128
below byte is = grind (arith, tests, is)

pub from_utf8_unchecked-requires : goal.from_utf8_unchecked-requires
from_utf8_unchecked-requires c =
    let bytes = c.bytes.result.now in
    let each = AllPass-from_list_all is_path_byte bytes c.bytes.ensures.form.each in
    IsUtf8-from_ascii bytes (IsAscii-from_all bytes (λ k d lt. below _ (each k d lt)))
