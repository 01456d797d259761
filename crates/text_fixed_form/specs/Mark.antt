-- The mark of a fixed-form line of Fortran (RULES, Marks of a line). A line is a list of bytes; columns count from 1.
use Rattle.std.specs.Prelude.{Bool, true, false, cond, not, ◌&&◌, ◌||◌, List, [], ◌∷◌, map, ℕ, ◌+◌, ◌-◌, leb, ltb, eqb, get_or, take, drop}
use Rattle.std.specs.List.{list_all, list_any, filter}
use Rattle.text_fixed_form.specs.declared.LineMark.{LineMark}
use Rattle.text_fixed_form.specs.declared.LineMark.TheVariants.{Other, Comment, Continuation, StorageShared, Common, Outside}
use Rattle.geometry.specs.Limits.{last_column, continuation_column}

-- The marks.

-- a line with a byte that no line may have
abbrev pub outside : ℕ
outside = 15

-- a comment
abbrev pub comment : ℕ
comment = 1

-- the continuation of the line before
abbrev pub continuation : ℕ
continuation = 2

-- a statement that lets names share storage
abbrev pub storage_shared : ℕ
storage_shared = 3

-- a statement of common storage
abbrev pub common : ℕ
common = 4

-- any other line
abbrev pub other : ℕ
other = 0

-- the number that stands for what a line is
abbrev pub symbol_of : LineMark → ℕ
symbol_of Other = other
symbol_of Comment = comment
symbol_of Continuation = continuation
symbol_of StorageShared = storage_shared
symbol_of Common = common
symbol_of Outside = outside

-- Columns.

-- the byte of a blank
abbrev pub blank : ℕ
blank = 32

-- the columns of a line that are read
abbrev pub card : List ℕ → List ℕ
card line = take last_column line

-- the byte in a column; a missing column is blank
abbrev pub column : ℕ → List ℕ → ℕ
column number columns = get_or columns (number - 1) blank

-- every column is blank or missing
unfoldable pub all_blank : List ℕ → Bool
all_blank columns = list_all (λ byte. eqb byte blank) columns

-- Bytes outside 32 to 126.

-- the byte is outside
abbrev pub is_outside : ℕ → Bool
is_outside byte = ltb byte 32 || ltb 126 byte

-- some column's byte is outside
unfoldable pub any_outside : List ℕ → Bool
any_outside columns = list_any is_outside columns

-- Comments.

-- in column 1 the byte makes the line a comment: C, c or *
abbrev pub opens_comment : ℕ → Bool
opens_comment byte = eqb byte 67 || (eqb byte 99 || eqb byte 42)

-- a comment: every column is blank or missing, or column 1 makes it one
abbrev pub is_comment : List ℕ → Bool
is_comment columns = all_blank columns || opens_comment (column 1 columns)

-- Continuations.

-- in the continuation column the byte makes the line a continuation: it isn't blank
abbrev pub continues : ℕ → Bool
continues byte = not (eqb byte blank)

-- a continuation: the columns before the continuation column are blank, and that column makes it one
abbrev pub is_continuation : List ℕ → Bool
is_continuation columns =
    all_blank (take (continuation_column - 1) columns) && continues (column continuation_column columns)

-- Statements.

-- the columns with their blanks taken out
unfoldable pub without_blanks : List ℕ → List ℕ
without_blanks columns = filter (λ byte. not (eqb byte blank)) columns

-- a letter a to z (97 to 122) as A to Z (65 to 90); any other byte as it is
abbrev pub upper_case : ℕ → ℕ
upper_case byte = cond (leb 97 byte && leb byte 122) (byte - 97 + 65) byte

-- some columns as text: no blanks, and no small letters
abbrev pub text : List ℕ → List ℕ
text columns = map upper_case (without_blanks columns)

-- the text of the columns after the continuation column
abbrev pub statement : List ℕ → List ℕ
statement columns = text (drop continuation_column columns)

-- the text starts with the word
unfoldable pub begins : List ℕ → List ℕ → Bool
begins [] rest = true
begins (letter ∷ word) [] = false
begins (letter ∷ word) (byte ∷ rest) = eqb byte letter && begins word rest

-- EQUIVALENCE(
abbrev pub equivalence_word : List ℕ
equivalence_word = 69 ∷ 81 ∷ 85 ∷ 73 ∷ 86 ∷ 65 ∷ 76 ∷ 69 ∷ 78 ∷ 67 ∷ 69 ∷ 40 ∷ []

-- COMMON
abbrev pub common_word : List ℕ
common_word = 67 ∷ 79 ∷ 77 ∷ 77 ∷ 79 ∷ 78 ∷ []

-- The rules.

-- the mark of the first rule whose test holds
abbrev pub first_that_fits : List (Bool × ℕ) → ℕ
first_that_fits [] = other
first_that_fits (rule ∷ rules) = cond rule.0 rule.1 (first_that_fits rules)

-- each rule's test and its mark, in the order of RULES, Marks of a line
abbrev pub rules : List ℕ → List (Bool × ℕ)
rules columns =
    (any_outside columns, outside) ∷
    (is_comment columns, comment) ∷
    (is_continuation columns, continuation) ∷
    (begins equivalence_word (statement columns), storage_shared) ∷
    (begins common_word (statement columns), common) ∷
    []

-- the mark of a line
unfoldable pub mark_of : List ℕ → ℕ
mark_of line = first_that_fits (rules (card line))
