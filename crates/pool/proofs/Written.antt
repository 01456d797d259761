-- Records of names: what the stores of one leave, and what leaves one alone.
use mathlib.Core.Path.{◌≡◌, ap, ◌∙◌}
use mathlib.Core.List.{List}
use Prim.Native.Nat.{ℕ, zero, suc, ◌+◌, ◌-◌, ◌≤◌, ◌<◌}
use native.Mathlib.Omega.{arith}
use Rattle.geometry.specs.Layout.{record_size, kind_at, alphabet_at, height_at, zero_at, q_at, root_at, length_at, spare_at, word_size}
use Rattle.geometry.specs.Records.{closed_record}
use Rattle.geometry.specs.declared.Record.{Record}
use Rattle.pool.specs.Bytes.{byte, word, record_at}
use Rattle.pool.specs.Names.{record_of}
use Rattle.pool.specs.Changes.{Outside}
use Rattle.pool.specs.Records.{PutFields, PutRecord}
use Rattle.pool.specs.Sound.{ClosedName}
use Rattle.pool.specs.Words.{PutByte, PutWord}
use Rattle.pool.proofs.Words.{word-zero, low-zero, high_zero, word-in-stretch}
use Rattle.pool.proofs.Changes.{outside-then, outside_wider, word-before}

-- a record by what its bytes and words are
pub record_is : (p : List ℕ) (name : ℕ) (put : Record)
    → byte p (record_at name + kind_at) ≡ put.kind → byte p (record_at name + alphabet_at) ≡ put.alphabet → byte p (record_at name + height_at) ≡ put.height
    → word p (record_at name + q_at) ≡ put.q → word p (record_at name + root_at) ≡ put.root → word p (record_at name + length_at) ≡ put.length
    → record_of p name ≡ put
unfolding record_of
record_is p name put kind alphabet height q root length = rw (kind, alphabet, height, q, root, length)

-- a change of the bytes at an offset, and then changes of those behind it, up to the spare ones
change-then : (at i many j : ℕ) {p q r : List ℕ} → i ≤ j → i + many ≤ spare_at → j ≤ spare_at
    → Outside (at + i) many p q → Outside (at + j) (spare_at - j) q r → Outside (at + i) (spare_at - i) p r
change-then at i many j order fits fits' f g =
    outside-then (outside_wider (at + i) (spare_at - i) (omega arith) (omega arith) f)
    (outside_wider (at + i) (spare_at - i) (omega arith) (omega arith) g)

-- the stores of the fields in turn: each is left alone by those behind it
module _ (at : ℕ) (put : Record) (p p₁ p₂ p₃ p₄ p₅ p₆ : List ℕ)
    (kind : PutByte (at + kind_at) put.kind p p₁) (alphabet : PutByte (at + alphabet_at) put.alphabet p₁ p₂)
    (height : PutByte (at + height_at) put.height p₂ p₃) (q : PutWord (at + q_at) put.q p₃ p₄)
    (root : PutWord (at + root_at) put.root p₄ p₅) (length : PutWord (at + length_at) put.length p₅ p₆) where
  pub fields-put : PutFields at put p p₆
  fields-put =
      let behind_q = change-then at root_at word_size length_at (omega arith) (omega arith) (omega arith) root.same length.same in
      let behind_height = change-then at q_at word_size root_at (omega arith) (omega arith) (omega arith) q.same behind_q in
      let behind_alphabet = change-then at height_at 1 q_at (omega arith) (omega arith) (omega arith) height.same behind_height in
      let behind_kind = change-then at alphabet_at 1 height_at (omega arith) (omega arith) (omega arith) alphabet.same behind_alphabet in
      let all = change-then at kind_at 1 alphabet_at (omega arith) (omega arith) (omega arith) kind.same behind_kind in
      record {
        same = outside_wider at spare_at (omega arith) (omega arith) all;
        kind = behind_kind.low (at + kind_at) (omega arith) ∙ kind.put;
        alphabet = behind_alphabet.low (at + alphabet_at) (omega arith) ∙ alphabet.put;
        height = behind_height.low (at + height_at) (omega arith) ∙ height.put;
        zero_byte =
            behind_height.low (at + zero_at) (omega arith) ∙ height.same.high (at + zero_at) (omega arith)
            ∙ alphabet.same.high (at + zero_at) (omega arith) ∙ kind.same.high (at + zero_at) (omega arith);
        q = word-before behind_q (at + q_at) (omega arith) ∙ q.put;
        root = word-before length.same (at + root_at) (omega arith) ∙ root.put;
        length = length.put;
      }

-- the record of a closed name, written, is zeros
pub closed-put : (name : ℕ) (p q : List ℕ) → PutRecord name closed_record p q → ClosedName q name
unfolding record_of
closed-put name p q put zero h = ap (λ r. r.kind) put.is
closed-put name p q put (suc zero) h = ap (λ r. r.alphabet) put.is
closed-put name p q put (suc (suc zero)) h = ap (λ r. r.height) put.is
closed-put name p q put (suc (suc (suc zero))) h = put.zero_byte
closed-put name p q put (suc (suc (suc (suc zero)))) h = low-zero q (record_at name) q_at (ap (λ r. r.q) put.is)
closed-put name p q put (suc (suc (suc (suc (suc zero))))) h = high_zero q (record_at name) q_at (ap (λ r. r.q) put.is)
closed-put name p q put (suc (suc (suc (suc (suc (suc zero)))))) h = low-zero q (record_at name) root_at (ap (λ r. r.root) put.is)
closed-put name p q put (suc (suc (suc (suc (suc (suc (suc zero))))))) h = high_zero q (record_at name) root_at (ap (λ r. r.root) put.is)
closed-put name p q put (suc (suc (suc (suc (suc (suc (suc (suc zero)))))))) h =
    low-zero q (record_at name) length_at (ap (λ r. r.length) put.is)
closed-put name p q put (suc (suc (suc (suc (suc (suc (suc (suc (suc zero))))))))) h =
    high_zero q (record_at name) length_at (ap (λ r. r.length) put.is)
closed-put name p q put (suc (suc (suc (suc (suc (suc (suc (suc (suc (suc j)))))))))) h =
    put.spare (suc (suc (suc (suc (suc (suc (suc (suc (suc (suc j)))))))))) (omega arith) h

-- and zeros are the record of a closed name
pub closed-record : (p : List ℕ) (name : ℕ) → ClosedName p name → record_of p name ≡ closed_record
closed-record p name zeros =
    record_is p name closed_record (zeros kind_at (omega arith)) (zeros alphabet_at (omega arith)) (zeros height_at (omega arith))
    (word-zero p (record_at name) q_at (zeros q_at (omega arith)) (zeros (q_at + 1) (omega arith)))
    (word-zero p (record_at name) root_at (zeros root_at (omega arith)) (zeros (root_at + 1) (omega arith)))
    (word-zero p (record_at name) length_at (zeros length_at (omega arith)) (zeros (length_at + 1) (omega arith)))

-- what leaves a record alone
pub record_same : (p q : List ℕ) (name : ℕ) → ((j : ℕ) → j < record_size → byte q (record_at name + j) ≡ byte p (record_at name + j))
    → record_of q name ≡ record_of p name
unfolding record_of
record_same p q name same =
    record_is q name (record_of p name) (same kind_at (omega arith)) (same alphabet_at (omega arith)) (same height_at (omega arith))
    (word-in-stretch p q (record_at name) record_size q_at same (omega arith))
    (word-in-stretch p q (record_at name) record_size root_at same (omega arith))
    (word-in-stretch p q (record_at name) record_size length_at same (omega arith))
