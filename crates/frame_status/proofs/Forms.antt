-- The statuses 1 to 3: which of them a command gets, and what is left to test where it gets none.
use mathlib.Core.Bool.{Bool, true, false}
use mathlib.Core.List.{List}
use mathlib.Core.Path.{◌≡◌, sym, ap, ◌∙◌}
use Prim.Native.Nat.{ℕ, ◌<◌}
use borrow.Author.Tests.{ne_eqb, ltb-true}
use lib.ListN.{drop}
use Rattle.geometry.specs.Limits.{names}
use Rattle.machine.specs.Machine.{trees}
use Rattle.protocol.specs.Commands.{unpromised_code}
use Rattle.protocol.specs.Refusals.{refusals, first_of, status_of, listed, is_name_allowed, is_unused_zero}
use Rattle.protocol.specs.State.{Part, lists}
use Rattle.protocol.specs.declared.Command.{Command}
use Rattle.protocol.specs.declared.numbers.Operation.{Operation}
use Rattle.protocol.specs.declared.numbers.Reason.{Reason}
use Rattle.protocol.specs.declared.numbers.Reason.TheVariants.{UnknownCode}
use Rattle.protocol.specs.Numbers.{code_of, number_of_reason}
use Rattle.protocol.proofs.Agreement.{same-listed}
use Rattle.frame_status.proofs.Codes.{operation-listed}
use Rattle.shape.specs.Trees.{Tree}
use Rattle.frame_status.specs.Statuses.{status_in, WellFormed}

-- the table from status 4 on
abbrev pub later_status : ℕ → Part Tree → Command → ℕ
later_status free part c = first_of (drop 3 (refusals trees)) free part c

module _ (c : Command) where
  pub name_below : WellFormed c → (c.code ≡ unpromised_code → ⊥) → c.name < names
  name_below formed other = ltb-true c.name names (rw (ne_eqb c.code unpromised_code other) at formed.name)

module _ (free : ℕ) (part : Part Tree) (c : Command) where
  pub unknown-code : listed trees c.code ≡ false → status_of trees free part c ≡ 1
  unfolding status_of refusals
  unknown-code unknown = rw unknown

  pub name-refused : listed trees c.code ≡ true → is_name_allowed c ≡ false → status_of trees free part c ≡ 2
  unfolding status_of refusals
  name-refused known refused = rw (known, refused)

  pub unused-refused : listed trees c.code ≡ true → is_name_allowed c ≡ true → is_unused_zero trees c ≡ false → status_of trees free part c ≡ 3
  unfolding status_of refusals
  unused-refused known allowed refused = rw (known, allowed, refused)

  pub later-tests : WellFormed c → status_of trees free part c ≡ later_status free part c
  unfolding status_of refusals
  later-tests formed = rw (formed.known, formed.name, formed.unused)

-- The status of its form, by the code's own answers, on every pool.
module _ (p : List ℕ) (c : Command) where
  pub form-unknown : (reason : Reason) → reason ≡ UnknownCode → listed lists c.code ≡ false → number_of_reason reason ≡ status_in p c
  form-unknown reason is unknown = ap number_of_reason is ∙ sym (unknown-code _ _ c (sym (same-listed trees c.code) ∙ unknown))

  module _ (op : Operation) (is : code_of op ≡ c.code) (n : Bool) (n-is : n ≡ is_name_allowed c) where
    pub form-name : n ≡ false → 2 ≡ status_in p c
    form-name refused = sym (name-refused _ _ c (operation-listed op c.code is) (sym n-is ∙ refused))

    module _ (allowed : n ≡ true) (u : Bool) (u-is : u ≡ is_unused_zero trees c) where
      pub form-unused : u ≡ false → 3 ≡ status_in p c
      form-unused refused = sym (unused-refused _ _ c (operation-listed op c.code is) (sym n-is ∙ allowed) (sym u-is ∙ refused))

-- or it is well formed
pub form-passed : (c : Command) (op : Operation) → code_of op ≡ c.code → (n : Bool) → n ≡ is_name_allowed c → n ≡ true
    → (u : Bool) → u ≡ is_unused_zero trees c → u ≡ true
    → WellFormed c
form-passed c op is n n-is allowed u u-is zero =
    record { known = operation-listed op c.code is; name = sym n-is ∙ allowed; unused = sym u-is ∙ zero }
