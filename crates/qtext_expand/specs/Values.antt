-- Numbers, which may have a unit behind them.
use Rattle.std.specs.Prelude.{ℕ, ◌-◌, ◌*◌, ◌/◌, ◌^◌, ◌==◌, ◌||◌, nat_lt, List, length, take, slice_index, decimal}
use Rattle.std.specs.Prelude.{Option, Some, None, Result, Ok, Err, if◌then◌else◌}
use Rattle.std.specs.Option.{option_map, option_or}
use Rattle.qtext.specs.declared.text_fault.TextKind.{TextKind}
use Rattle.qtext.specs.Words.{number}
use Rattle.qtext_expand.specs.declared.value.Measure.{Measure}
use Rattle.qtext_expand.specs.declared.value.Measure.TheVariants.{Bytes, Kibibytes, Seconds}

-- how many bytes a letter stands for, in either case
unfoldable pub size_factor : ℕ → Option ℕ
size_factor letter =
    if letter == 107 || letter == 75 then Some (2 ^ 10)
    else if letter == 109 || letter == 77 then Some (2 ^ 20)
    else if letter == 103 || letter == 71 then Some (2 ^ 30)
    else if letter == 116 || letter == 84 then Some (2 ^ 40)
    else None

-- how many seconds a letter stands for
unfoldable pub span_factor : ℕ → Option ℕ
span_factor letter =
    if letter == 115 then Some 1
    else if letter == 109 then Some 60
    else if letter == 104 then Some 3600
    else if letter == 100 then Some 86400
    else if letter == 119 then Some 604800
    else None

-- how many of a measure a letter stands for
unfoldable pub factor : Measure → ℕ → Option ℕ
factor Bytes letter = size_factor letter
factor Kibibytes letter = option_map (λ n. n / 1024) (size_factor letter)
factor Seconds letter = span_factor letter

-- what was read, if anything was
abbrev pub value_read : Result ℕ TextKind → Option ℕ
value_read (Ok n) = Some n
value_read (Err kind) = None

-- a number of 64 bits
abbrev pub fits : ℕ → Option ℕ
fits n = if nat_lt n (2 ^ 64) then Some n else None

-- so many of a unit
abbrev pub scaled : Option ℕ → Option ℕ → Option ℕ
scaled None unit = None
scaled (Some n) None = None
scaled (Some n) (Some unit) = fits (n * unit)

-- what a number with a letter behind it comes to
abbrev pub with_unit : Measure → List ℕ → Option ℕ
with_unit measure word =
    if length word == 0 then None
    else scaled (value_read (number (take (length word - 1) word)))
    (factor measure (slice_index word (length word - 1)))

-- what a number comes to, with a letter behind it or none
unfoldable pub value : Measure → List ℕ → Option ℕ
value measure word = option_or (value_read (number word)) (with_unit measure word)

-- a number in decimal digits, or else the word as it stands
abbrev pub decimal_or : List ℕ → Option ℕ → List ℕ
decimal_or word None = word
decimal_or word (Some n) = decimal n

-- a number with its unit worked out; any other word stays
abbrev pub measured_text : Measure → List ℕ → List ℕ
measured_text measure word = decimal_or word (value measure word)
