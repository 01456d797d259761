-- A name's part, by its record: whether it is open, and what it then holds.
use mathlib.Core.Bool.{true, false, true≢false, false≢true}
use mathlib.Core.List.{List}
use mathlib.Core.Logic.{⊎_elim}
use mathlib.Core.Path.{◌≡◌, sym, ap, ◌∙◌}
use Prim.Native.Nat.{ℕ, ◌<◌}
use native.Mathlib.Omega.{arith}
use Rattle.geometry.specs.Layout.{kind_closed}
use Rattle.geometry.specs.Limits.{names}
use Rattle.geometry.specs.declared.Record.{Record}
use Rattle.pool.specs.Meaning.{meaning_of, meaning}
use Rattle.pool.specs.Names.{record_of, tree_of}
use Rattle.pool.specs.Sound.{ClosedName, OpenName, Sound}
use Rattle.protocol.specs.State.{closed, opened, is_open, part_of}
use Rattle.protocol.specs.State.{closed, opened, is_open, part_of}
use Rattle.pool.proofs.Meaning.{closed-meaning, open-meaning, part-meaning}

module _ (p : List ℕ) (name : ℕ) where
  module _ (sound : Sound p) (low : name < names) where
    pub is_open_lem : is_open (meaning_of p name) ≡ true → OpenName p name
    is_open_lem holds =
        ⊎_elim (λ c. absurd (false≢true (sym (ap is_open (closed-meaning p name c)) ∙ holds))) (λ o. o) (sound.each name low)

    pub is-closed : is_open (meaning_of p name) ≡ false → ClosedName p name
    is-closed fails =
        ⊎_elim (λ c. c) (λ o. absurd (true≢false (sym (ap is_open (open-meaning p name o)) ∙ fails))) (sound.each name low)

    -- the kind of a closed one
    pub closed-by-kind : (found : Record) → found ≡ record_of p name → found.kind ≡ kind_closed → ClosedName p name
    closed-by-kind found read is =
        ⊎_elim (λ c. c) (λ o. absurd (omega (arith, ap (λ (r : Record). r.kind) read, o.entry.kind))) (sound.each name low)

    pub closed-part : ClosedName p name → part_of (meaning p) name ≡ closed
    closed-part c = part-meaning p name low ∙ closed-meaning p name c

    pub opened-part : OpenName p name → part_of (meaning p) name ≡ opened (record_of p name).alphabet (record_of p name).q (tree_of p name)
    opened-part o = part-meaning p name low ∙ open-meaning p name o
