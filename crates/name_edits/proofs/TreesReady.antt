-- An open name's tree is ready for an edit: a name's own soundness is its tree's, its alphabet is no larger than any, the exact map has
-- its blocks as held, and what it was promised and hasn't taken is free.
use mathlib.Core.List.{List}
use Prim.Native.Nat.{ℕ, ◌+◌, ◌*◌, ◌≤◌, ◌<◌}
use native.Mathlib.Omega.{arith}
use Rattle.geometry.specs.Limits.{names, most_alphabet, marks_per_share, most_marks}
use Rattle.lists.proofs.Sums.{sum_below-one}
use Rattle.shape.specs.Blocks.{splits_t}
use Rattle.shape.specs.Sizes.{one_to_a_byte}
use Rattle.pool.proofs.SoundNames.{insert-room}
use Rattle.pool.specs.Names.{record_of, tree_of}
use Rattle.pool.specs.Shares.{promised_shares}
use Rattle.pool.specs.Sound.{OpenName, Sound, SoundBelow}
use Rattle.pool_holders.specs.Maps.{free_in}
use Rattle.tree_insert.proofs.Outcomes.{sound-wider}
use Rattle.tree_insert.specs.Trees.{TreeReady}
use Rattle.name_open_close.proofs.ExactMaps.{zeros-are-free, open-agrees}
use Rattle.tree_delete.specs.Removals.{DeleteReady}
use Rattle.name_edits.specs.Edits.{InsertAt, DeleteAt}

-- a name's promise is within the largest pool's
pub promise-most : (p : List ℕ) (name : ℕ) → name < names → Sound p → marks_per_share * (record_of p name).q ≤ most_marks
unfolding promised_shares
promise-most p name low sound = omega (arith, sum_below-one names (λ y. (record_of p y).q) name low, sound.promised, sound.allowed.longest)

below-any : (p : List ℕ) (name : ℕ) → OpenName p name → SoundBelow p most_alphabet (record_of p name).height (record_of p name).root
below-any p name opened =
    sound-wider p (record_of p name).alphabet most_alphabet opened.entry.alphabet_most (record_of p name).height (record_of p name).root opened.below

pub insert-ready : (p m : List ℕ) (name i c : ℕ) → InsertAt p m name i c → TreeReady p m (record_of p name).height (record_of p name).root i c (name + 1)
insert-ready p m name i c at =
    let sound : Sound p = at.within.sound in
    let room : splits_t one_to_a_byte i (tree_of p name) ≤ free_in m =
    omega (arith, insert-room p sound name i at.within.low at.opened at.room, zeros-are-free p m at.within.map) in
    record {
      node =
          record {
            map = record { blocks = at.within.map.blocks; longest = sound.allowed.longest };
            named = omega arith;
            block = at.opened.root;
            below = below-any p name at.opened;
            agrees = open-agrees p m at.within.map sound name at.within.low at.opened;
            first = at.first;
            last = omega (arith, at.last, at.opened.length);
            symbol = omega (arith, at.symbol, at.opened.entry.alphabet_most);
            short = omega (arith, at.room, at.opened.length, promise-most p name at.within.low sound);
            room = omega (arith, room);
          };
      height = at.opened.entry.height;
      room = room;
    }

pub delete-ready : (p m : List ℕ) (name i : ℕ) → DeleteAt p m name i → DeleteReady p m (record_of p name).height (record_of p name).root i
delete-ready p m name i at =
    let sound : Sound p = at.within.sound in
    record {
      map = record { blocks = at.within.map.blocks; longest = sound.allowed.longest };
      block = at.opened.root;
      below = below-any p name at.opened;
      agrees = open-agrees p m at.within.map sound name at.within.low at.opened;
      first = at.first;
      last = omega (arith, at.last, at.opened.length);
      short = omega (arith, at.opened.entry.room, at.opened.length, promise-most p name at.within.low sound);
    }
