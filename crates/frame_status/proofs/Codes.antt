-- The nine operations, one by one: their codes are in the table, and which fields their commands use.
use mathlib.Core.Bool.{true, false}
use mathlib.Core.Logic.{◌⊎◌, ◌≢◌, inl, inr}
use mathlib.Core.Path.{◌≡◌, refl, sym, subst}
use Prim.Native.Nat.{ℕ, ◌≤◌}
use native.Mathlib.Omega.{arith}
use Rattle.machine.specs.Machine.{trees}
use Rattle.protocol.specs.Commands.{open_code, close_code, length_code, unpromised_code}
use Rattle.protocol.specs.Commands.{rows, row_of}
use Rattle.protocol.specs.Numbers.{code_of}
use Rattle.protocol.specs.Refusals.{listed}
use Rattle.protocol.specs.declared.numbers.Operation.{Operation}
use Rattle.protocol.specs.declared.numbers.Operation.TheVariants.{Open, Close, Insert, Delete, Access, Rank, Select, Length, Unpromised}

-- a command that isn't an opening and names a name asks for one of the operations on open names
pub code-of-open : (op : Operation) (code : ℕ) → code_of op ≡ code → code ≢ open_code → code ≢ unpromised_code
    → (close_code ≤ code) × (code ≤ length_code)
code-of-open Open code is o u = absurd (o (sym is))
code-of-open Close code is o u = (omega arith, omega arith)
code-of-open Insert code is o u = (omega arith, omega arith)
code-of-open Delete code is o u = (omega arith, omega arith)
code-of-open Access code is o u = (omega arith, omega arith)
code-of-open Rank code is o u = (omega arith, omega arith)
code-of-open Select code is o u = (omega arith, omega arith)
code-of-open Length code is o u = (omega arith, omega arith)
code-of-open Unpromised code is o u = absurd (u (sym is))

-- every operation's code is in the table
pub operation-listed : (op : Operation) (code : ℕ) → code_of op ≡ code → listed trees code ≡ true
unfolding rows
operation-listed op code is = subst (λ x. listed trees x ≡ true) is (each op)
  where
    each : (o : Operation) → listed trees (code_of o) ≡ true
    each Open = refl
    each Close = refl
    each Insert = refl
    each Delete = refl
    each Access = refl
    each Rank = refl
    each Select = refl
    each Length = refl
    each Unpromised = refl

-- the operations that use their symbol
pub symbol-used : (op : Operation) → (op ≡ Open) ⊎ (op ≡ Insert) ⊎ (op ≡ Rank) ⊎ (op ≡ Select)
    → true ≡ (row_of (code_of op) (rows trees)).uses_symbol
unfolding rows
symbol-used op (inl is) = rw is
symbol-used op (inr (inl is)) = rw is
symbol-used op (inr (inr (inl is))) = rw is
symbol-used op (inr (inr (inr is))) = rw is

pub symbol-unused : (op : Operation) → (op ≡ Open → ⊥) → (op ≡ Insert → ⊥) → (op ≡ Rank → ⊥) → (op ≡ Select → ⊥)
    → false ≡ (row_of (code_of op) (rows trees)).uses_symbol
unfolding rows
symbol-unused Open o i r s = absurd (o refl)
symbol-unused Close o i r s = refl
symbol-unused Insert o i r s = absurd (i refl)
symbol-unused Delete o i r s = refl
symbol-unused Access o i r s = refl
symbol-unused Rank o i r s = absurd (r refl)
symbol-unused Select o i r s = absurd (s refl)
symbol-unused Length o i r s = refl
symbol-unused Unpromised o i r s = refl

-- and those that don't use their number
pub number-unused : (op : Operation) → (op ≡ Close) ⊎ (op ≡ Length) ⊎ (op ≡ Unpromised) → false ≡ (row_of (code_of op) (rows trees)).uses_number
unfolding rows
number-unused op (inl is) = rw is
number-unused op (inr (inl is)) = rw is
number-unused op (inr (inr is)) = rw is

pub number-used : (op : Operation) → (op ≡ Close → ⊥) → (op ≡ Length → ⊥) → (op ≡ Unpromised → ⊥)
    → true ≡ (row_of (code_of op) (rows trees)).uses_number
unfolding rows
number-used Open c l u = refl
number-used Close c l u = absurd (c refl)
number-used Insert c l u = refl
number-used Delete c l u = refl
number-used Access c l u = refl
number-used Rank c l u = refl
number-used Select c l u = refl
number-used Length c l u = absurd (l refl)
number-used Unpromised c l u = absurd (u refl)
