-- The text of a line's pieces.
use Rattle.std.specs.Prelude.{ℕ, ◌-◌, ◌||◌, Bool, nat_lt, nat_le, List, [], ◌∷◌, ◌++◌, length, replicate, decimal}
use Rattle.std.specs.List.{filter, flat_map}
use Rattle.hex.specs.Hex.{encode_lower}
use Rattle.qtext.specs.declared.piece.Piece.{Piece}
use Rattle.qtext.specs.declared.piece.Piece.TheVariants.{Text, Number, Byte, Left, Right, RightNumber}

-- so many spaces
abbrev pub spaces : ℕ → List ℕ
spaces n = replicate n 32

-- a byte with which a character of UTF-8 begins
abbrev pub begins_character : ℕ → Bool
begins_character byte = nat_lt byte 0x80 || nat_le 0xc0 byte

-- how many characters a text has
abbrev pub characters_in : List ℕ → ℕ
characters_in text = length (filter begins_character text)

-- a text at the left of N places, a character each; a longer one stands whole
abbrev pub left_in : ℕ → List ℕ → List ℕ
left_in places text = text ++ spaces (places - characters_in text)

-- a text at the right of N places, a character each; a longer one stands whole
abbrev pub right_in : ℕ → List ℕ → List ℕ
right_in places text = spaces (places - characters_in text) ++ text

-- bytes as lower case hexadecimal digits, and none as a dash
abbrev pub data_text : List ℕ → List ℕ
data_text [] = 45 ∷ []
data_text (b ∷ bs) = encode_lower (b ∷ bs)

-- the text of a piece
abbrev pub piece_text : Piece → List ℕ
piece_text (Text t) = t.now
piece_text (Number n) = decimal n
piece_text (Byte b) = encode_lower (b ∷ [])
piece_text (Left t places) = left_in places t.now
piece_text (Right t places) = right_in places t.now
piece_text (RightNumber n places) = right_in places (decimal n)

-- the text of the pieces, one after the other
abbrev pub pieces_text : List Piece → List ℕ
pieces_text ps = flat_map piece_text ps
