-- The table of commands, row by row as in RULES, Commands: code, which fields are used, which numbers are places, and what is answered.
use Rattle.std.specs.Prelude.{Bool, true, false, cond, ◌&&◌, ◌||◌, List, [], ◌∷◌, map, ℕ, ◌+◌, ◌-◌, eqb, leb, length}
use Rattle.sequence.specs.Definition1.{access, rank, select}
use Rattle.protocol.specs.State.{Store, Part, lists, closed, opened, marks_of}
use Rattle.protocol.specs.declared.Command.{Command}

-- The codes.
abbrev pub open_code : ℕ
open_code = 0x01

abbrev pub close_code : ℕ
close_code = 0x02

abbrev pub insert_code : ℕ
insert_code = 0x03

abbrev pub delete_code : ℕ
delete_code = 0x04

abbrev pub access_code : ℕ
access_code = 0x05

abbrev pub rank_code : ℕ
rank_code = 0x06

abbrev pub select_code : ℕ
select_code = 0x07

abbrev pub length_code : ℕ
length_code = 0x08

abbrev pub unpromised_code : ℕ
unpromised_code = 0x09

-- a number that is no place
abbrev pub any_number : ℕ → ℕ → Bool
any_number n number = true

-- the number is a place from low to the highest of a name of n marks
abbrev pub place_from : ℕ → (ℕ → ℕ) → ℕ → ℕ → Bool
place_from low highest n place = leb low place && leb place (highest n)

-- what a command that isn't refused answers, and its name's part after it
pub record Effect (A : Type 0) : Type 0 where
  pub symbol : ℕ
  pub depth : ℕ
  pub value : ℕ
  pub part : Part A

-- a row of the table. Whether a number is in range goes by the name's length n; the effect by the unpromised shares, the name's part
-- and the command
pub record Row (A : Type 0) : Type 0 where
  pub code : ℕ
  pub uses_symbol : Bool
  pub uses_number : Bool
  pub in_range : ℕ → ℕ → Bool
  pub effect : ℕ → Part A → Command → Effect A

module _ {A : Type 0} where
  -- a value is answered and nothing else
  abbrev pub answers_value : ℕ → Part A → Effect A
  answers_value value part = record { symbol = 0; depth = 0; value = value; part = part }

  -- an open name's marks after an edit
  abbrev pub edited : (A → A) → Part A → Part A
  edited edit closed = closed
  edited edit (opened alphabet q kept) = opened alphabet q (edit kept)

  -- a row, from its code to its effect
  abbrev pub row : ℕ → Bool → Bool → (ℕ → ℕ → Bool) → (ℕ → Part A → Command → Effect A) → Row A
  row code symbol number range effect =
      record { code = code; uses_symbol = symbol; uses_number = number; in_range = range; effect = effect }

  -- the code is in the table
  abbrev pub is_listed : ℕ → List (Row A) → Bool
  is_listed code [] = false
  is_listed code (r ∷ rs) = eqb code r.code || is_listed code rs

  -- the row of a code; one that changes nothing where the table has none
  abbrev pub row_of : ℕ → List (Row A) → Row A
  row_of code [] = row code true true any_number (λ free part c. answers_value 0 part)
  row_of code (r ∷ rs) = cond (eqb code r.code) r (row_of code rs)

module _ {A : Type 0} (store : Store A) where
  -- how deep a place stands
  abbrev pub depth_of : Part A → ℕ → ℕ
  depth_of closed place = 0
  depth_of (opened alphabet q kept) place = store.depth place kept

  -- What each command answers and leaves.
  abbrev pub opens : ℕ → Part A → Command → Effect A
  opens free part c = answers_value 0 (opened c.symbol c.number store.empty)

  abbrev pub closes : ℕ → Part A → Command → Effect A
  closes free part c = answers_value 0 closed

  abbrev pub inserts : ℕ → Part A → Command → Effect A
  inserts free part c = answers_value (length (marks_of store part) + 1) (edited (store.insert c.symbol c.number) part)

  abbrev pub deletes : ℕ → Part A → Command → Effect A
  deletes free part c =
      record {
        symbol = access (marks_of store part) c.number;
        depth = 0;
        value = length (marks_of store part) - 1;
        part = edited (store.delete c.number) part;
      }

  abbrev pub accesses : ℕ → Part A → Command → Effect A
  accesses free part c =
      record { symbol = access (marks_of store part) c.number; depth = depth_of part c.number; value = 0; part = part }

  abbrev pub ranks : ℕ → Part A → Command → Effect A
  ranks free part c = answers_value (rank c.symbol (marks_of store part) c.number) part

  abbrev pub selects : ℕ → Part A → Command → Effect A
  selects free part c = answers_value (select c.symbol (marks_of store part) c.number) part

  abbrev pub tells : ℕ → Part A → Command → Effect A
  tells free part c = answers_value (length (marks_of store part)) part

  abbrev pub tells_unpromised : ℕ → Part A → Command → Effect A
  tells_unpromised free part c = answers_value free part

  -- the table: code, whether the symbol is used, whether the number is, which numbers are in range, the effect
  unfoldable pub rows : List (Row A)
  rows =
      row open_code true true any_number opens
      ∷ row close_code false false any_number closes
      ∷ row insert_code true true (place_from 1 (λ n. n + 1)) inserts
      ∷ row delete_code false true (place_from 1 (λ n. n)) deletes
      ∷ row access_code false true (place_from 1 (λ n. n)) accesses
      ∷ row rank_code true true (place_from 0 (λ n. n)) ranks
      ∷ row select_code true true any_number selects
      ∷ row length_code false false any_number tells
      ∷ row unpromised_code false false any_number tells_unpromised
      ∷ []

  -- the row of a command
  abbrev pub row_for : Command → Row A
  row_for c = row_of c.code rows

-- the codes, in the table's order
abbrev pub all_codes : List ℕ
all_codes = map (λ r. r.code) (rows lists)
