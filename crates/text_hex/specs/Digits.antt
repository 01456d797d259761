-- Hexadecimal digits, and the numbers that they stand for.
use Rattle.std.specs.Prelude.{Bool, cond, ◌&&◌, List, [], ◌∷◌, ◌++◌, ℕ, zero, suc, ◌+◌, ◌-◌, ◌*◌, ◌/◌, ◌%◌, leb, ltb}
use Rattle.std.specs.List.{list_all}

-- the byte lies between two others, both included
abbrev pub between : ℕ → ℕ → ℕ → Bool
between low high byte = leb low byte && leb byte high

-- what stands for the value of a byte that is no digit
abbrev pub no_digit : ℕ
no_digit = 255

-- the value of a digit by its byte: 0 to 9, A to F or a to f
unfoldable pub value_of : ℕ → ℕ
value_of byte =
    cond (between 48 57 byte) (byte - 48)
    (cond (between 65 70 byte) (byte - 55)
    (cond (between 97 102 byte) (byte - 87) no_digit))

-- the byte of a digit by its value, in upper case
unfoldable pub digit_of : ℕ → ℕ
digit_of value = cond (ltb value 10) (48 + value) (55 + value)

-- every byte is a digit
abbrev pub all_digits : List ℕ → Bool
all_digits bytes = list_all (λ byte. ltb (value_of byte) 16) bytes

-- the number that digits stand for after those of `above`
abbrev pub number_after : ℕ → List ℕ → ℕ
number_after above [] = above
number_after above (byte ∷ bytes) = number_after (above * 16 + value_of byte) bytes

-- the number that digits stand for, the highest first
abbrev pub number_of_digits : List ℕ → ℕ
number_of_digits bytes = number_after 0 bytes

-- the last so many digits of a number, the highest first
unfoldable pub digits_of : ℕ → ℕ → List ℕ
digits_of zero number = []
digits_of (suc many) number = digits_of many (number / 16) ++ (digit_of (number % 16) ∷ [])
