-- A name opened: the block taken is its root, an empty leaf that nobody held, and the map has it as the name's.
use mathlib.Core.Path.{◌≡◌, ap, ◌∙◌}
use mathlib.Core.List.{List, [], ◌∷◌}
use mathlib.Core.Logic.{inr}
use Prim.Native.Nat.{ℕ, ◌+◌, ◌≤◌, ◌<◌}
use native.Mathlib.Omega.{arith}
use lib.ListN.{length, drop, take}
use Rattle.geometry.specs.Layout.{count_at, form_at, form_marks}
use Rattle.geometry.specs.Limits.{names}
use Rattle.geometry.specs.Records.{opened_record}
use Rattle.geometry.specs.declared.Record.{Record}
use Rattle.sequence.specs.Definition1.{count}
use Rattle.sequence.proofs.Counts.{count-one}
use Rattle.protocol.specs.State.{opened}
use Rattle.shape.specs.Trees.{empty_t}
use Rattle.pool.specs.Blocks.{form_of, entries, leaf_marks}
use Rattle.pool.specs.Bytes.{shares, block_at}
use Rattle.pool.specs.Names.{record_of, blocks_of, held_blocks}
use Rattle.pool.specs.Records.{PutRecord}
use Rattle.pool.specs.Sound.{OpenName}
use Rattle.pool.specs.Trees.{shape_at, blocks_at}
use Rattle.pool.specs.Untouched.{Untouched}
use Rattle.pool.proofs.SoundNames.{closed-blocks, open_blocks, unpromised-free}
use Rattle.pool.proofs.Changes.{directory-blocks, word-in-block}
use Rattle.pool.proofs.Meaning.{open-meaning}
use Rattle.pool_blocks.specs.Moves.{Emptied}
use Rattle.pool_holders.specs.Maps.{holder_of, is_free, free_in, BlockTaken}
use Rattle.pool_holders.proofs.Takes.{taken-long, taken-blocks, taken-entered}
use Rattle.name_open_close.specs.Updates.{OpenReady, Updated}
use Rattle.name_open_close.proofs.ExactMaps.{zeros-are-free, zero-count, entered-turns}
use Rattle.name_open_close.proofs.NameChanges.{others-untouched, header-kept, updated}

-- there is a free block, since q shares are promised to none
pub block-there : (p m : List ℕ) (name alphabet q : ℕ) → OpenReady p m name alphabet q → 1 ≤ free_in m
block-there p m name alphabet q ready =
    omega (arith, ready.some, ready.room, unpromised-free p ready.within.sound, zeros-are-free p m ready.within.map)

module _ (p q r m n : List ℕ) (name alphabet promise root holder : ℕ) (ready : OpenReady p m name alphabet promise) (held : holder ≡ holder_of name) (took : BlockTaken holder root m n)
    (empty : Emptied root p q) (put : Record) (is : put ≡ opened_record alphabet promise root) (written : PutRecord name put q r) where
  taken : BlockTaken (holder_of name) root m n
  taken = rw held at took

  low : name < names
  low = ready.within.low

  record-now : record_of r name ≡ opened_record alphabet promise root
  record-now = written.is ∙ is

  entries-now : entries r root ≡ 0
  entries-now = word-in-block q r root count_at (directory-blocks written.same (omega arith) root) (omega arith) ∙ empty.many

  form-now : form_of r root ≡ form_marks
  form-now = directory-blocks written.same (omega arith) root form_at (omega arith) ∙ empty.form

  marks-now : leaf_marks r root ≡ []
  unfolding leaf_marks
  marks-now = ap (λ k. take k (drop (block_at root) r)) entries-now

  long : length r ≡ length p
  long = written.same.long ∙ empty.only.long

  inside : root < shares r
  inside = omega (arith, taken.inside, ready.within.map.blocks, long)

  opened-now : OpenName r name
  opened-now = record {
    entry = record {
      kind = ap (λ (x : Record). x.kind) record-now;
      alphabet_least = rw record-now ready.least;
      alphabet_most = rw record-now ready.most;
      promise = rw record-now ready.some;
      height = rw record-now (omega arith);
      zero_byte = written.zero_byte;
      spare = written.spare;
      room = rw record-now (omega arith);
    };
    root = rw record-now (record { inside = inside; form = form-now; enough = omega arith; fits = omega (arith, entries-now) });
    below = rw (record-now, marks-now) tt;
    length = rw (record-now, marks-now);
  }

  blocks-now : blocks_of r name ≡ root ∷ []
  blocks-now = open_blocks r name opened-now ∙ ap (λ (x : Record). blocks_at r x.height x.root) record-now

  block-entered : (x : ℕ) → count x (blocks_of r name) + is_free n x ≡ count x (blocks_of p name) + is_free m x
  unfolding count
  block-entered x =
      omega (
        arith,
        ap (count x) blocks-now,
        count-one x root,
        ap (count x) (closed-blocks p name ready.closed),
        taken-blocks (holder_of name) root m n (omega arith) taken x,
      )

  -- nobody held it
  unheld : (b : ℕ) → b ≡ root → count b (held_blocks p) ≤ count b (blocks_of p name)
  unheld b e = rw e (omega (arith, zero-count p m ready.within.map root (omega (arith, taken.inside, ready.within.map.blocks)) taken.free))

  others-now : (y : ℕ) → y < names → (y ≡ name → ⊥) → Untouched y p r
  others-now = others-untouched p q r name low (λ b. b ≡ root) unheld empty.only put written

  pub opened-updated : Updated name (opened alphabet promise empty_t) p r n
  opened-updated =
      updated p r m n name low ready.within.sound ready.within.map block-entered others-now long
      (taken-long (holder_of name) root m n (omega arith) taken)
      (entered-turns (holder_of name) m n (taken-entered (holder_of name) root m n (omega arith) taken))
      (header-kept p q r name low (λ b. b ≡ root) unheld empty.only put written)
      (inr opened-now) (rw record-now (omega (arith, ready.room))) (opened alphabet promise empty_t)
      (open-meaning r name opened-now
      ∙ ap (λ (x : Record). opened x.alphabet x.q (record { height = x.height; root = shape_at r x.height x.root })) record-now
      ∙ ap (λ (marks : List ℕ). opened alphabet promise (record { height = 0; root = marks })) marks-now)
