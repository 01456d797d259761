-- The two records that a name starts from.
use Rattle.std.specs.Prelude.{ℕ}
use Rattle.geometry.specs.Layout.{kind_closed, kind_marks}
use Rattle.geometry.specs.declared.Record.{Record}

-- a closed name: all zeros
abbrev pub closed_record : Record
closed_record = record { kind = kind_closed; alphabet = 0; height = 0; q = 0; root = 0; length = 0 }

-- a name just opened: one empty leaf at the block root
abbrev pub opened_record : ℕ → ℕ → ℕ → Record
opened_record alphabet q root = record { kind = kind_marks; alphabet = alphabet; height = 0; q = q; root = root; length = 0 }
