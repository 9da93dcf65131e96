-- How words and names are shown, whatever bytes they have.
use Rattle.std.specs.Prelude.{ℕ, nat_lt, ◌==◌, ◌||◌, if◌then◌else◌, List, [], ◌∷◌, ◌++◌, codes, length, take}
use Rattle.std.specs.List.{flat_map}
use Rattle.qtext.specs.Pieces.{piece_text}
use Rattle.qtext.specs.declared.piece.Piece.TheVariants.{Byte}
use Rattle.qtext.specs.Words.{is_text_byte}

-- a byte, or a question mark for one that is no text
abbrev pub shown_byte : ℕ → List ℕ
shown_byte byte = if is_text_byte byte then byte ∷ [] else codes "?"

-- a word, of a long one 60 bytes and two dots
abbrev pub shown_word : List ℕ → List ℕ
shown_word word =
    if nat_lt 60 (length word) then flat_map shown_byte (take 60 word) ++ codes ".."
    else flat_map shown_byte word

-- a byte of a name, a control byte as TOML escapes it
abbrev pub escaped_byte : ℕ → List ℕ
escaped_byte byte =
    if byte == 0x08 then codes "\\b" else if byte == 0x09 then codes "\\t" else if byte == 0x0a then codes "\\n"
    else if byte == 0x0c then codes "\\f" else if byte == 0x0d then codes "\\r"
    else if nat_lt byte 0x20 || byte == 0x7f then codes "\\u00" ++ piece_text (Byte byte) else byte ∷ []
