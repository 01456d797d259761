-- The table of statuses of a frame, row by row as in RULES, Statuses. The order of the rows decides.
use Rattle.std.specs.Prelude.{Bool, true, false, cond, not, ◌&&◌, ◌||◌, List, [], ◌∷◌, map}
use Rattle.std.specs.Prelude.{◌⊎◌, ◌≢◌, ◌≡◌, ℕ, ◌*◌, ◌≤◌, eqb, leb, ltb, length}
use Rattle.geometry.specs.Limits.{names, least_alphabet, most_alphabet, marks_per_share}
use Rattle.sequence.specs.Definition1.{count}
use Rattle.protocol.specs.State.{Store, Part, lists, is_open, alphabet_of, shares_of, marks_of}
use Rattle.protocol.specs.Commands.{
  rows,
  row_for,
  is_listed,
  open_code,
  close_code,
  insert_code,
  rank_code,
  select_code,
  length_code,
  unpromised_code,
}
use Rattle.protocol.specs.declared.Command.{Command}

-- a row of the table: the status, the codes of the commands that are tested, and when it applies, by the unpromised shares, the name's
-- part and the command
pub record Refusal (A : Type 0) : Type 0 where
  pub status : ℕ
  pub commands : ℕ → Bool
  pub test : ℕ → Part A → Command → Bool

-- every command, of a known code or not
abbrev pub all : ℕ → Bool
all code = true

-- the commands from one code to another
abbrev pub codes_between : ℕ → ℕ → ℕ → Bool
codes_between first last code = leb first code && leb code last

-- one command
abbrev pub only : ℕ → ℕ → Bool
only one code = eqb code one

-- one of three commands
abbrev pub one_of : ℕ → ℕ → ℕ → ℕ → Bool
one_of first second third code = eqb code first || (eqb code second || eqb code third)

-- the name byte of code 09
abbrev pub no_name : ℕ
no_name = 255

-- the name byte is allowed for the code: 255 for 09, else a name
abbrev pub is_name_allowed : Command → Bool
is_name_allowed c = cond (eqb c.code unpromised_code) (eqb c.name no_name) (ltb c.name names)

module _ {A : Type 0} where
  -- a row, from its status to its test
  abbrev pub refusal : ℕ → (ℕ → Bool) → (ℕ → Part A → Command → Bool) → Refusal A
  refusal status commands test = record { status = status; commands = commands; test = test }

  -- the row applies to the command
  abbrev pub applies : Refusal A → ℕ → Part A → Command → Bool
  applies r free part c = r.commands c.code && r.test free part c

  -- the status of the first row that applies, and 0 where none does
  abbrev pub first_of : List (Refusal A) → ℕ → Part A → Command → ℕ
  first_of [] free part c = 0
  first_of (r ∷ rs) free part c = cond (applies r free part c) r.status (first_of rs free part c)

  -- no row applies
  abbrev pub NoneApplies : List (Refusal A) → ℕ → Part A → Command → Type 0
  NoneApplies [] free part c = Unit {0}
  NoneApplies (r ∷ rs) free part c = (applies r free part c ≡ false) × NoneApplies rs free part c

  -- a row of this number applies
  abbrev pub SomeApplies : List (Refusal A) → ℕ → Part A → Command → ℕ → Type 0
  SomeApplies [] free part c status = ⊥
  SomeApplies (r ∷ rs) free part c status =
      ((r.status ≡ status) × (applies r free part c ≡ true)) ⊎ SomeApplies rs free part c status

  -- the lowest number that applies, and 0 exactly when none applies
  pub record Lowest (rs : List (Refusal A)) (free : ℕ) (part : Part A) (c : Command) (status : ℕ) : Type 0 where
    pub given : status ≢ 0 → SomeApplies rs free part c status
    pub lowest : (other : ℕ) → SomeApplies rs free part c other → status ≤ other
    pub none : status ≡ 0 → NoneApplies rs free part c
    pub zero : NoneApplies rs free part c → status ≡ 0

module _ {A : Type 0} (store : Store A) where
  -- the commands of the table
  abbrev pub listed : ℕ → Bool
  listed code = is_listed code (rows store)

  -- the fourth byte and every field that the command doesn't use are zero
  abbrev pub is_unused_zero : Command → Bool
  is_unused_zero c =
      eqb c.fourth 0
      && (((row_for store c).uses_symbol || eqb c.symbol 0)
      && ((row_for store c).uses_number || eqb c.number 0))

  -- the place is in the range of the command's row
  abbrev pub is_in_range : Part A → Command → Bool
  is_in_range part c = (row_for store c).in_range (length (marks_of store part)) c.number

  -- the table: status, commands, when. A command or a refusal that is added later is one row more
  unfoldable pub refusals : List (Refusal A)
  refusals =
      refusal 1 all (λ free part c. not (listed c.code))
      ∷ refusal 2 listed (λ free part c. not (is_name_allowed c))
      ∷ refusal 3 listed (λ free part c. not (is_unused_zero c))
      ∷ refusal 4 (only open_code) (λ free part c. is_open part)
      ∷ refusal 5 (codes_between close_code length_code) (λ free part c. not (is_open part))
      ∷ refusal 6 (only open_code) (λ free part c. not (leb least_alphabet c.symbol && leb c.symbol most_alphabet))
      ∷ refusal 7 (only open_code) (λ free part c. eqb c.number 0)
      ∷ refusal 8 (one_of insert_code rank_code select_code) (λ free part c. leb (alphabet_of part) c.symbol)
      ∷ refusal 9 (codes_between insert_code rank_code) (λ free part c. not (is_in_range part c))
      ∷ refusal 10 (only select_code) (λ free part c. eqb c.number 0 || ltb (count c.symbol (marks_of store part)) c.number)
      ∷ refusal 11 (only insert_code) (λ free part c. eqb (length (marks_of store part)) (marks_per_share * shares_of part))
      ∷ refusal 12 (only open_code) (λ free part c. ltb free c.number)
      ∷ []

  -- the status of a command
  unfoldable pub status_of : ℕ → Part A → Command → ℕ
  status_of free part c = first_of refusals free part c

-- the statuses, in the table's order
abbrev pub all_statuses : List ℕ
all_statuses = map (λ r. r.status) (refusals lists)
