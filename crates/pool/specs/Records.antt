-- What a store of a name's record leaves.
use Rattle.std.specs.Prelude.{◌≡◌, List, ℕ, ◌+◌, ◌≤◌, ◌<◌}
use Rattle.geometry.specs.Layout.{record_size, kind_at, alphabet_at, height_at, zero_at, q_at, root_at, length_at, spare_at}
use Rattle.geometry.specs.declared.Record.{Record}
use Rattle.pool.specs.Bytes.{byte, word, record_at}
use Rattle.pool.specs.Changes.{Outside}
use Rattle.pool.specs.Names.{record_of}

-- the record at an address has these fields, and the bytes outside them are as before
pub record PutFields (at : ℕ) (put : Record) (before after : List ℕ) : Type 0 where
  pub same : Outside at spare_at before after
  pub kind : byte after (at + kind_at) ≡ put.kind
  pub alphabet : byte after (at + alphabet_at) ≡ put.alphabet
  pub height : byte after (at + height_at) ≡ put.height
  pub zero_byte : byte after (at + zero_at) ≡ byte before (at + zero_at)
  pub q : word after (at + q_at) ≡ put.q
  pub root : word after (at + root_at) ≡ put.root
  pub length : word after (at + length_at) ≡ put.length

-- the name has this record, with zeros in its unused bytes, and the bytes outside the record are as before
pub record PutRecord (name : ℕ) (put : Record) (before after : List ℕ) : Type 0 where
  pub same : Outside (record_at name) record_size before after
  pub is : record_of after name ≡ put
  pub zero_byte : byte after (record_at name + zero_at) ≡ 0
  pub spare : (j : ℕ) → spare_at ≤ j → j < record_size → byte after (record_at name + j) ≡ 0
