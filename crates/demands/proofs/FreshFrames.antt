-- One frame run on a formatted pool, as a session of one call: a query, an opening that is refused, and one that succeeds. The last leaves
-- the formatted pool with three bytes set in the first record: its kind, its alphabet and its shares.
use mathlib.Core.Path.{◌≡◌, refl, sym, ap, ◌∙◌}
use mathlib.Core.List.{List, [], ◌∷◌}
use mathlib.Core.Logic.{inr}
use Prim.Native.Nat.{ℕ, ◌+◌, ◌<◌}
use native.Mathlib.Omega.{arith}
use lib.ListN.{get_or, replicate, set, length-set, length-replicate, get_or-replicate}
use lib.Seq.{get_or-set_other}
use Rattle.geometry.specs.Layout.{kind_at, alphabet_at, q_at, kind_marks}
use Rattle.geometry.specs.Records.{opened_record}
use Rattle.lists.specs.Froms.{from}
use Rattle.pool.proofs.Formatted.{length-formatted, rest-zero, all_closed, formatted-sound}
use Rattle.call_run.specs.Runs.{commands_in, eights}
use Rattle.frame_execute.specs.Steps.{Step, Ready}
use Rattle.name_open_close.proofs.OpenedNames.{opened-updated}
use Rattle.name_open_close.specs.Updates.{OpenReady, Updated}
use Rattle.pool.proofs.SoundNames.{closed-blocks}
use Rattle.pool.specs.Bytes.{byte, word, shares, record_at}
use Rattle.pool.specs.Formatted.{formatted}
use Rattle.pool.specs.Names.{record_of}
use Rattle.pool.specs.Records.{PutRecord}
use Rattle.pool.specs.Sound.{LengthAllowed, Sound}
use Rattle.pool_blocks.specs.Moves.{Emptied}
use Rattle.protocol.specs.Frames.{command_of, bytes_of_answer}
use Rattle.protocol.specs.State.{opened}
use Rattle.protocol.specs.declared.Answer.{Answer}
use Rattle.sequence.specs.Definition1.{count}
use Rattle.shape.specs.Trees.{empty_t}
use Rattle.demands.specs.Accepted.{Fresh, Call, Session}

-- A call of one frame.

-- the call: eight bytes of commands, answered in as many
abbrev pub one_frame : List ℕ → Answer → Call
one_frame bytes a = record { commands = bytes; room = bytes; outcome = record { status = 0; count = 1 }; filled = bytes_of_answer a }

-- the session of this call alone
pub one-frame-session : (x0 x1 x2 x3 x4 x5 x6 x7 : ℕ) (p : List ℕ) (a : Answer) (q : List ℕ) → Sound p
    → Step p (command_of (x0 ∷ x1 ∷ x2 ∷ x3 ∷ x4 ∷ x5 ∷ x6 ∷ x7 ∷ [])) a q
    → Session p (one_frame (x0 ∷ x1 ∷ x2 ∷ x3 ∷ x4 ∷ x5 ∷ x6 ∷ x7 ∷ []) a ∷ []) q
unfolding commands_in eights from bytes_of_answer
one-frame-session x0 x1 x2 x3 x4 x5 x6 x7 p a q sound step =
    let bytes : List ℕ = x0 ∷ x1 ∷ x2 ∷ x3 ∷ x4 ∷ x5 ∷ x6 ∷ x7 ∷ [] in
    record {
      middle = q;
      ran =
          record {
            status = inr (inr (inr (inr (refl, sound.allowed, record { whole = refl; most = omega arith }, omega arith, sound))));
            refused = λ some. absurd (some refl);
            accepted = λ zero.
                record {
                  answers = a ∷ [];
                  runs = record { middle = q; answer = a; behind = []; whole = refl; step = step; rest = (refl, refl) };
                  many = refl;
                  front = refl;
                };
          };
      accepted = refl;
      rest = refl;
    }

-- A formatted pool and its map, in which every block is free.
module _ (bytes : ℕ) (allowed : LengthAllowed bytes) where
  pub is-fresh : Fresh (formatted bytes)
  is-fresh =
      record {
        before = formatted bytes;
        formats =
            record {
              allowed = λ _. (refl, ap formatted (sym (length-formatted bytes allowed)));
              refused = λ not. absurd (not (formatted-sound bytes allowed).allowed);
            };
      }

  -- 0 for each block
  abbrev pub free_map : List ℕ
  free_map = replicate (shares (formatted bytes)) 0

  free-at : (b : ℕ) → b < shares (formatted bytes) → get_or free_map b 0 ≡ 0
  free-at b low = get_or-replicate (shares (formatted bytes)) b 0 0 low

  pub fresh-ready : Ready (formatted bytes) free_map
  unfolding count
  fresh-ready =
      record {
        sound = formatted-sound bytes allowed;
        map =
            record {
              blocks = length-replicate (shares (formatted bytes)) 0;
              holders =
                  record {
                    free = λ b low _. free-at b low;
                    held = λ b name low below some. absurd (omega (arith, some, ap (count b) (closed-blocks (formatted bytes) name (all_closed bytes allowed name))));
                  };
            };
      }

-- A pool of two shares, and the same with name 0 open for four symbols and with both shares.
abbrev pub two : List ℕ
two = formatted 768

pub two-allowed : LengthAllowed 768
two-allowed = record { whole = refl; shortest = omega arith; longest = omega arith }

abbrev pub two_opened : List ℕ
two_opened = set (set (set two (record_at 0 + kind_at) kind_marks) (record_at 0 + alphabet_at) 4) (record_at 0 + q_at) 2

-- other bytes are as they were
other_byte : (j : ℕ) → (j ≡ record_at 0 + kind_at → ⊥) → (j ≡ record_at 0 + alphabet_at → ⊥) → (j ≡ record_at 0 + q_at → ⊥) → byte two_opened j ≡ byte two j
other_byte j one another third =
    get_or-set_other (set (set two (record_at 0 + kind_at) kind_marks) (record_at 0 + alphabet_at) 4) (record_at 0 + q_at) j 2 0 third
    ∙ get_or-set_other (set two (record_at 0 + kind_at) kind_marks) (record_at 0 + alphabet_at) j 4 0 another
    ∙ get_or-set_other two (record_at 0 + kind_at) j kind_marks 0 one

first-put : PutRecord 0 (opened_record 4 2 0) two two_opened
unfolding record_of word formatted
first-put =
    record {
      same =
          record {
            long =
                length-set (set (set two (record_at 0 + kind_at) kind_marks) (record_at 0 + alphabet_at) 4) (record_at 0 + q_at) 2
                ∙ length-set (set two (record_at 0 + kind_at) kind_marks) (record_at 0 + alphabet_at) 4
                ∙ length-set two (record_at 0 + kind_at) kind_marks;
            low = λ j l. other_byte j (λ e. omega arith) (λ e. omega arith) (λ e. omega arith);
            high = λ j l. other_byte j (λ e. omega arith) (λ e. omega arith) (λ e. omega arith);
          };
      is = refl;
      zero_byte = refl;
      spare = λ j low high.
          other_byte (record_at 0 + j) (λ e. omega arith) (λ e. omega arith) (λ e. omega arith) ∙ rest-zero 768 two-allowed (record_at 0 + j) (omega arith);
    }

first-empty : Emptied 0 two two
unfolding word formatted
first-empty =
    record { only = record { long = refl; directory = λ j l. refl; others = λ b other j l. refl }; form = refl; many = refl }

pub two-opened : OpenReady two (free_map 768 two-allowed) 0 4 2 → Updated 0 (opened 4 2 empty_t) two two_opened (set (free_map 768 two-allowed) 0 1)
unfolding formatted
two-opened ready =
    opened-updated two two two_opened (free_map 768 two-allowed) (set (free_map 768 two-allowed) 0 1) 0 4 2 0 1 ready refl
    (record { inside = omega arith; free = refl; entered = refl }) first-empty (opened_record 4 2 0) refl first-put
