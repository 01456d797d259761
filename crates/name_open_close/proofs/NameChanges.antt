-- A change of one name: blocks that are its own or free, and its record. No other name is touched, and the header stays;
-- so the pool is sound again where the name is, and the map exact.
use mathlib.Core.Path.{◌≡◌, sym, ◌∙◌}
use mathlib.Core.List.{List}
use mathlib.Core.Logic.{◌⊎◌, ⊎_elim}
use Prim.Native.Nat.{ℕ, ◌+◌, ◌-◌, ◌≤◌, ◌<◌}
use native.Mathlib.Nat.{eq-zero-or-pos, eq-or-lt_of_le}
use native.Mathlib.Omega.{arith}
use lib.ListN.{length, get_or}
use Rattle.geometry.specs.Layout.{header_size}
use Rattle.geometry.specs.Limits.{names}
use Rattle.geometry.specs.declared.Record.{Record}
use Rattle.lists.proofs.Items.{all_map}
use Rattle.sequence.specs.Definition1.{count}
use Rattle.sequence.proofs.Counts.{standing-all}
use Rattle.protocol.specs.State.{Part}
use Rattle.shape.specs.Trees.{Tree}
use Rattle.pool.specs.Bytes.{byte, record_at}
use Rattle.pool.specs.Changes.{Only, SameBlock}
use Rattle.pool.specs.Meaning.{meaning_of}
use Rattle.pool.specs.Names.{record_of, blocks_of, held_blocks}
use Rattle.pool.specs.Records.{PutRecord}
use Rattle.pool.specs.Shares.{unpromised_shares}
use Rattle.pool.specs.Sound.{ClosedName, OpenName, Sound}
use Rattle.pool.specs.Untouched.{SameRecord, Untouched}
use Rattle.pool.proofs.SoundAfter.{sound-after}
use Rattle.pool_holders.specs.Maps.{Exact, is_free}
use Rattle.name_open_close.specs.Updates.{Updated}
use Rattle.pool.proofs.Changes.{directory-blocks}
use Rattle.pool.proofs.Untouched.{only-untouched}
use Rattle.pool_holders.specs.Maps.{is_free}
use Rattle.name_open_close.specs.Updates.{Updated}
use Rattle.name_open_close.proofs.ExactMaps.{Turns, held_two, name-distinct-after, own-after, exact-after}

-- Blocks changed, and then the name's record: p the pool before, q with the blocks, r with the record.
module _ (p q r : List ℕ) (name : ℕ) (low : name < names) (These : ℕ → Type 0)
    (own : (b : ℕ) → These b → count b (held_blocks p) ≤ count b (blocks_of p name)) (only : Only These p q)
    (put : Record) (written : PutRecord name put q r) where
  record-elsewhere : (y : ℕ) → (y ≡ name → ⊥) → SameRecord y q r
  record-elsewhere y other j l =
      ⊎_elim
      (λ (behind : name - y ≡ 0).
      ⊎_elim (λ e. absurd (other (sym e))) (λ (more : name < y). written.same.high (record_at y + j) (omega arith))
      (eq-or-lt_of_le {n = name} {m = y} (omega arith)))
      (λ (before : 0 < name - y). written.same.low (record_at y + j) (omega arith)) (eq-zero-or-pos (name - y))

  pub others-untouched : (y : ℕ) → y < names → (y ≡ name → ⊥) → Untouched y p r
  others-untouched y ly other =
      let blocks : Untouched y p q
      = only-untouched These y p q ly only
      (standing-all (λ b. These b → ⊥) (blocks_of p y)
      (λ b here changed. omega (arith, own b changed, held_two p b y name ly low other))) in
      record {
        long = written.same.long ∙ only.long;
        entry = λ j l. record-elsewhere y other j l ∙ blocks.entry j l;
        held = all_map (λ b. SameBlock b p q) (λ b. SameBlock b p r) (λ b same j l. directory-blocks written.same (omega arith) b j l ∙ same j l) (blocks_of p y) blocks.held;
      }

  pub header-kept : (j : ℕ) → j < header_size → byte r j ≡ byte p j
  header-kept j l = written.same.low j (omega arith) ∙ only.directory j (omega arith)

  pub pool-long : length r ≡ length p
  pool-long = written.same.long ∙ only.long

-- The name with its new blocks: what an update leaves.
module _ (p p' m n : List ℕ) (name : ℕ) (low : name < names) (sound : Sound p) (exact : Exact p m)
    (kept : (x : ℕ) → count x (blocks_of p' name) + is_free n x ≡ count x (blocks_of p name) + is_free m x)
    (others : (y : ℕ) → y < names → (y ≡ name → ⊥) → Untouched y p p') (pool-long : length p' ≡ length p)
    (map-long : length n ≡ length m) (each : (x : ℕ) → Turns (name + 1) (get_or m x 0) (get_or n x 0)) where
  pub updated : ((j : ℕ) → j < header_size → byte p' j ≡ byte p j) → ClosedName p' name ⊎ OpenName p' name
      → (record_of p' name).q ≤ unpromised_shares p + (record_of p name).q
      → (part : Part Tree) → meaning_of p' name ≡ part → Updated name part p p' n
  updated header again room part means = record {
    long = pool-long;
    sound =
        sound-after p p' name low sound others pool-long header again
        (name-distinct-after p p' m n name low sound exact kept)
        (own-after p p' m n name low sound exact kept) room;
    means = means;
    others = others;
    map = exact-after p p' m n name low sound exact kept others pool-long map-long each;
  }
