-- The numbers and the words under which faults of texts are known.
use Rattle.std.specs.Prelude.{ℕ, List, codes}
use Rattle.qtext.specs.declared.text_fault.TextKind.{TextKind}
use Rattle.qtext.specs.declared.text_fault.TextFault.{TextFault}
use Rattle.qtext.specs.declared.text_fault.TextKind.TheVariants.{Cut, BadByte, BadNumber, BadCred, BadVerb, WordCount}
use Rattle.qtext.specs.declared.text_fault.TextKind.TheVariants.{BadWord, BadHex, TooMany, Memory, BadHead, BadReply}

-- the number of a fault
abbrev pub text_kind_number : TextKind → ℕ
text_kind_number Cut = 31
text_kind_number BadByte = 32
text_kind_number BadNumber = 33
text_kind_number BadCred = 34
text_kind_number BadVerb = 35
text_kind_number WordCount = 36
text_kind_number BadWord = 37
text_kind_number BadHex = 38
text_kind_number TooMany = 39
text_kind_number Memory = 40
text_kind_number BadHead = 44
text_kind_number BadReply = 45

-- the words that name a fault
abbrev pub text_kind_words : TextKind → List ℕ
text_kind_words Cut = codes "cut"
text_kind_words BadByte = codes "bad byte"
text_kind_words BadNumber = codes "bad number"
text_kind_words BadCred = codes "bad caller"
text_kind_words BadVerb = codes "bad verb"
text_kind_words WordCount = codes "word count"
text_kind_words BadWord = codes "bad word"
text_kind_words BadHex = codes "bad hex"
text_kind_words TooMany = codes "too many lines"
text_kind_words Memory = codes "memory"
text_kind_words BadHead = codes "bad head"
text_kind_words BadReply = codes "bad reply"

-- the one fault that no text has
abbrev pub want_of_memory : TextFault
want_of_memory = record { line = 0; kind = Memory }
