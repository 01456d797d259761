-- A name closed: its record says so, and just the blocks that it held are free in the map.
use mathlib.Core.Path.{◌≡◌, ap, ◌∙◌}
use mathlib.Core.List.{List}
use mathlib.Core.Logic.{inl, inr, ⊎_elim}
use Prim.Native.Nat.{ℕ, ◌+◌, ◌<◌}
use native.Mathlib.Nat.{eq-zero-or-pos}
use native.Mathlib.Omega.{arith}
use lib.ListN.{length, get_or}
use Rattle.geometry.specs.Limits.{names}
use Rattle.geometry.specs.Records.{closed_record}
use Rattle.geometry.specs.declared.Record.{Record}
use Rattle.sequence.specs.Definition1.{count}
use Rattle.sequence.proofs.Counts.{is_mark-cases}
use Rattle.protocol.specs.State.{closed}
use Rattle.pool.specs.Names.{record_of, blocks_of}
use Rattle.pool.specs.Records.{PutRecord}
use Rattle.pool.specs.Sound.{ClosedName}
use Rattle.pool.specs.Untouched.{Untouched}
use Rattle.pool.proofs.SoundNames.{closed-blocks}
use Rattle.pool.proofs.Changes.{only_none}
use Rattle.pool.proofs.Meaning.{closed-meaning}
use Rattle.pool.proofs.Written.{closed-put}
use Rattle.pool_holders.specs.Maps.{holder_of, is_free, HolderFreed}
use Rattle.name_open_close.specs.Updates.{CloseReady, Updated}
use Rattle.name_open_close.proofs.ExactMaps.{Turns, zero-is_free, held-is_free, same-free, held-has-byte, marked-held, block-byte, name-agrees}
use Rattle.name_open_close.proofs.NameChanges.{others-untouched, header-kept, updated}

module _ (p p' m n : List ℕ) (name : ℕ) (ready : CloseReady p m name) (put : Record) (is : put ≡ closed_record) (written : PutRecord name put p p')
    (holder : ℕ) (held : holder ≡ holder_of name) (gone : HolderFreed holder m n) where
  freed : HolderFreed (holder_of name) m n
  freed = rw held at gone

  closed-now : ClosedName p' name
  closed-now = closed-put name p p' (rw is at written)

  blocks-freed : (x : ℕ) → count x (blocks_of p' name) + is_free n x ≡ count x (blocks_of p name) + is_free m x
  unfolding count
  blocks-freed x =
      let none : count x (blocks_of p' name) ≡ 0 = ap (count x) (closed-blocks p' name closed-now) in
      let low : name < names = ready.within.low in
      ⊎_elim
      (λ w.
      let held : is_free m x ≡ 0 = held-is_free m x name w.0 in
      let inside : x < length m = held-has-byte m x held in
      omega (
        arith,
        zero-is_free n x (freed.freed x w.0),
        marked-held p m ready.within.map x (omega (arith, ready.within.map.blocks)) name low w.0,
        name-agrees p m ready.within.map ready.within.sound name low x,
      ))
      (λ w.
      let same : is_free n x ≡ is_free m x = same-free m x n (freed.others x w.0) in
      ⊎_elim (λ (gone : count x (blocks_of p name) ≡ 0). omega arith)
      (λ (here : 0 < count x (blocks_of p name)). absurd (w.0 (block-byte p m ready.within.map ready.within.sound x name low here)))
      (eq-zero-or-pos (count x (blocks_of p name))))
      (is_mark-cases (holder_of name) (get_or m x 0))

  turns : (x : ℕ) → Turns (holder_of name) (get_or m x 0) (get_or n x 0)
  turns x = ⊎_elim (λ w. inr (inr (freed.freed x w.0))) (λ w. inl (freed.others x w.0)) (is_mark-cases (holder_of name) (get_or m x 0))

  pub closed-updated : Updated name closed p p' n
  closed-updated =
      let low : name < names = ready.within.low in
      let others : (y : ℕ) → y < names → (y ≡ name → ⊥) → Untouched y p p'
      = others-untouched p p p' name low (λ b. ⊥) (λ b never. absurd never) (only_none (λ b. ⊥) p) put written in
      let none : (record_of p' name).q ≡ 0 = ap (λ (r : Record). r.q) (written.is ∙ is) in
      updated p p' m n name low ready.within.sound ready.within.map blocks-freed others written.same.long freed.long turns
      (header-kept p p p' name low (λ b. ⊥) (λ b never. absurd never) (only_none (λ b. ⊥) p) put written)
      (inl closed-now) (omega arith) closed (closed-meaning p' name closed-now)
