-- The edges that are facts about the definitions (RULES, Edges): what is answered to a command after a history on a fresh pool.
use Rattle.std.specs.Prelude.{List, [], ◌∷◌, ◌++◌, ℕ, replicate}
use Rattle.protocol.specs.Commands.{open_code, insert_code, delete_code, access_code, rank_code, select_code, length_code, unpromised_code}
use Rattle.protocol.specs.Respond.{respond, state_after}
use Rattle.protocol.specs.State.{fresh_state, lists}
use Rattle.protocol.specs.declared.Answer.{Answer}
use Rattle.protocol.specs.declared.Command.{Command}

-- a row of the table: the pool's shares, the commands before, the command, and the answer that it must get
pub record Edge : Type 0 where
  pub shares : ℕ
  pub history : List Command
  pub command : Command
  pub expected : Answer

-- a row, from its shares to its answer
abbrev pub edge : ℕ → List Command → Command → Answer → Edge
edge shares history command expected = record { shares = shares; history = history; command = command; expected = expected }

-- the answer that the definitions give
unfoldable pub answered : Edge → Answer
answered e = (respond lists (state_after lists (fresh_state e.shares) e.history) e.command).answer

-- a command with a zero fourth byte: code, name, symbol, number
abbrev pub command : ℕ → ℕ → ℕ → ℕ → Command
command code name symbol number = record { code = code; name = name; symbol = symbol; fourth = 0; number = number }

-- a command to name 0: code, symbol, number
abbrev pub to_first : ℕ → ℕ → ℕ → Command
to_first code symbol number = command code 0 symbol number

-- a name byte's answer with status 0, no symbol and this value
abbrev pub gives : ℕ → ℕ → Answer
gives name value = record { status = 0; name = name; symbol = 0; depth = 0; value = value }

-- a name byte's answer with this status
abbrev pub refuses : ℕ → ℕ → Answer
refuses name status = record { status = status; name = name; symbol = 0; depth = 0; value = 0 }

-- name 0 is opened with alphabet 4 and q = 1
abbrev pub opened_four : List Command
opened_four = to_first open_code 4 1 ∷ []

-- and holds the marks 1, 2, 2
abbrev pub one_two_two : List Command
one_two_two = opened_four ++ (to_first insert_code 1 1 ∷ to_first insert_code 2 2 ∷ to_first insert_code 2 3 ∷ [])

-- or so many marks
abbrev pub filled : ℕ → List Command
filled many = opened_four ++ replicate many (to_first insert_code 3 1)

-- the table; the groups marked P have those of RULES, Edges
unfoldable pub edges : List Edge
edges =
    -- P: an empty open name
    edge 1 opened_four (to_first length_code 0 0) (gives 0 0)
    ∷ edge 1 opened_four (to_first rank_code 2 0) (gives 0 0)
    ∷ edge 1 opened_four (to_first rank_code 2 1) (refuses 0 9)
    ∷ edge 1 opened_four (to_first access_code 0 1) (refuses 0 9)
    ∷ edge 1 opened_four (to_first delete_code 0 1) (refuses 0 9)
    ∷ edge 1 opened_four (to_first select_code 2 1) (refuses 0 10)
    -- P: 1, 2, 2 in alphabet 4
    ∷ edge 1 one_two_two (to_first rank_code 2 3) (gives 0 2)
    ∷ edge 1 one_two_two (to_first select_code 2 2) (gives 0 3)
    ∷ edge 1 one_two_two (to_first select_code 2 3) (refuses 0 10)
    ∷ edge 1 one_two_two (to_first insert_code 2 4) (gives 0 4)
    ∷ edge 1 one_two_two (to_first insert_code 2 5) (refuses 0 9)
    -- P: a name's room
    ∷ edge 1 (filled 23) (to_first insert_code 3 24) (gives 0 24)
    ∷ edge 1 (filled 24) (to_first insert_code 3 25) (refuses 0 11)
    ∷ edge 1 (filled 24) (to_first insert_code 3 26) (refuses 0 9)
    ∷ edge 1 (filled 24) (to_first insert_code 3 0) (refuses 0 9)
    ∷ edge 1 (filled 24) (to_first insert_code 4 26) (refuses 0 8)
    -- P: the pool's shares
    ∷ edge 1 [] (to_first open_code 4 1) (gives 0 0)
    ∷ edge 1 [] (to_first open_code 4 2) (refuses 0 12)
    -- alphabet sizes, also where q is too large or 0
    ∷ edge 1 [] (to_first open_code 1 2) (refuses 0 6)
    ∷ edge 1 [] (to_first open_code 2 1) (gives 0 0)
    ∷ edge 1 [] (to_first open_code 16 1) (gives 0 0)
    ∷ edge 1 [] (to_first open_code 17 0) (refuses 0 6)
    -- a symbol outside the alphabet, a name byte that isn't allowed, an unknown code
    ∷ edge 1 opened_four (to_first insert_code 4 0) (refuses 0 8)
    ∷ edge 1 [] (command unpromised_code 0 0 0) (refuses 0 2)
    ∷ edge 1 [] (command unpromised_code 255 0 0) (gives 255 1)
    ∷ edge 1 [] (command 0x00 99 0 0) (refuses 99 1)
    ∷ []
