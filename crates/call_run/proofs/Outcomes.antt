-- Two outcomes of the same call: the status is the first reason that applies, so there is one; the answers are the machine's, and so is
-- what the pool then means.
use mathlib.Core.Path.{◌≡◌, sym, ap, ◌∙◌}
use mathlib.Core.List.{List, ◌++◌}
use mathlib.Core.Logic.{◌⊎◌, ⊎_elim, inl, inr}
use Prim.Native.Nat.{ℕ, ◌+◌, ◌-◌, ◌%◌, ◌≤◌, ◌<◌}
use native.Mathlib.Nat.{eq-zero-or-pos}
use native.Mathlib.Omega.{arith}
use lib.ListN.{length, drop}
use Rattle.lists.specs.Joins.{joined}
use Rattle.call_tests.specs.Tests.{CommandsAllowed, StatusOfCall}
use Rattle.call_tests.specs.Outcomes.{Outcome}
use Rattle.geometry.specs.Limits.{block_size, shortest_pool, longest_pool}
use Rattle.machine.specs.Machine.{trees}
use Rattle.pool.specs.Meaning.{meaning}
use Rattle.pool.specs.Sound.{LengthAllowed, Sound}
use Rattle.protocol.specs.Frames.{bytes_of_answer}
use Rattle.protocol.specs.Respond.{answers_to, state_after}
use Rattle.call_run.specs.Alike.{SameOutcome}
use Rattle.call_run.specs.Calls.{Formats, Answered, Ran}
use Rattle.call_run.specs.Runs.{commands_in}
use Rattle.call_run.proofs.Runs.{runs-answers, runs-meaning}

-- one test: its number where it fails, and else what the tests behind it give
abbrev Test : ℕ → Type 0 → (ℕ → Type 0) → ℕ → Type 0
Test n A Behind s = ((s ≡ n) × (A → ⊥)) ⊎ (A × Behind s)

test-gives-one : (n : ℕ) (A : Type 0) (Behind : ℕ → Type 0) → ((s t : ℕ) → Behind s → Behind t → s ≡ t)
    → (s t : ℕ) → Test n A Behind s → Test n A Behind t → s ≡ t
test-gives-one n A Behind one s t (inl x) (inl y) = x.0 ∙ sym y.0
test-gives-one n A Behind one s t (inl x) (inr y) = absurd (x.1 y.0)
test-gives-one n A Behind one s t (inr x) (inl y) = absurd (y.1 x.0)
test-gives-one n A Behind one s t (inr x) (inr y) = one s t x.1 y.1

-- a length is allowed or not
pub length-cases : (bytes : ℕ) → LengthAllowed bytes ⊎ (LengthAllowed bytes → ⊥)
length-cases bytes =
    ⊎_elim (λ (e : bytes % block_size + (shortest_pool - bytes) + (bytes - longest_pool) ≡ 0). inl (record { whole = omega arith; shortest = omega arith; longest = omega arith }))
    (λ (l : 0 < bytes % block_size + (shortest_pool - bytes) + (bytes - longest_pool)). inr (λ a. omega arith))
    (eq-zero-or-pos (bytes % block_size + (shortest_pool - bytes) + (bytes - longest_pool)))

-- what a call that nothing refuses has passed
pub record TestsPassed (p commands room : List ℕ) : Type 0 where
  pub allowed : LengthAllowed (length p)
  pub frames : CommandsAllowed (length commands)
  pub fits : length commands ≤ length room
  pub sound : Sound p

pub all-passed : (p commands room : List ℕ) (s : ℕ) → s ≡ 0 → StatusOfCall p commands room s → TestsPassed p commands room
all-passed p commands room s e (inl x) = absurd (omega arith)
all-passed p commands room s e (inr (inl x)) = absurd (omega arith)
all-passed p commands room s e (inr (inr (inl x))) = absurd (omega arith)
all-passed p commands room s e (inr (inr (inr (inl x)))) = absurd (omega arith)
all-passed p commands room s e (inr (inr (inr (inr x)))) = record { allowed = x.1; frames = x.2; fits = x.3; sound = x.4 }

-- two outcomes of a format are the same, byte for byte
pub same_format : (p : List ℕ) (r : ℕ) (q : List ℕ) (r' : ℕ) (q' : List ℕ) → Formats p r q → Formats p r' q' → (r ≡ r') × (q ≡ q')
same_format p r q r' q' x y =
    ⊎_elim (λ a. ((x.allowed a).0 ∙ sym (y.allowed a).0, (x.allowed a).1 ∙ sym (y.allowed a).1))
    (λ n. ((x.refused n).0 ∙ sym (y.refused n).0, (x.refused n).1 ∙ sym (y.refused n).1)) (length-cases (length p))

module _ (p commands room : List ℕ) where
  -- the table as one test behind the other
  abbrev Tests : ℕ → Type 0
  Tests =
      Test 101 (LengthAllowed (length p))
      (Test 102 (CommandsAllowed (length commands)) (Test 103 (length commands ≤ length room) (Test 104 (Sound p) (λ s. s ≡ 0))))

  in-turn : (s : ℕ) → StatusOfCall p commands room s → Tests s
  in-turn s (inl x) = inl x
  in-turn s (inr (inl x)) = inr (x.1, inl (x.0, x.2))
  in-turn s (inr (inr (inl x))) = inr (x.1, inr (x.2, inl (x.0, x.3)))
  in-turn s (inr (inr (inr (inl x)))) = inr (x.1, inr (x.2, inr (x.3, inl (x.0, x.4))))
  in-turn s (inr (inr (inr (inr x)))) = inr (x.1, inr (x.2, inr (x.3, inr (x.4, x.0))))

  -- a call has one status
  pub one-status : (s t : ℕ) → StatusOfCall p commands room s → StatusOfCall p commands room t → s ≡ t
  one-status s t x y =
      test-gives-one 101 _ _ (test-gives-one 102 _ _ (test-gives-one 103 _ _ (test-gives-one 104 _ (λ n. n ≡ 0) (λ a b e f. e ∙ sym f)))) s t
      (in-turn s x) (in-turn t y)

  module _ (q filled : List ℕ) (count : ℕ) (done : Answered p commands room q filled count) where
    -- the answers to the commands are the machine's
    pub answered-by-machine : done.answers ≡ answers_to trees (meaning p) (commands_in commands)
    answered-by-machine = runs-answers (commands_in commands) p q done.answers done.runs

    pub count-by-machine : count ≡ length (answers_to trees (meaning p) (commands_in commands))
    count-by-machine = done.many ∙ ap length answered-by-machine

    pub room-by-machine : filled ≡ joined bytes_of_answer (answers_to trees (meaning p) (commands_in commands)) ++ drop (length commands) room
    room-by-machine = done.front ∙ ap (λ l. joined bytes_of_answer l ++ drop (length commands) room) answered-by-machine

    pub meaning-by-machine : meaning q ≡ state_after trees (meaning p) (commands_in commands)
    meaning-by-machine = runs-meaning (commands_in commands) p q done.answers done.runs

  -- two outcomes that the contract allows are the same, but for the bytes of pools that mean the same
  pub same_outcome : (r : Outcome) (q filled : List ℕ) (r' : Outcome) (q' filled' : List ℕ) → Ran p commands room r q filled
      → Ran p commands room r' q' filled' → SameOutcome r q filled r' q' filled'
  same_outcome r q filled r' q' filled' x y = ⊎_elim accepted refused (eq-zero-or-pos r.status)
    where
      same : r.status ≡ r'.status
      same = one-status r.status r'.status x.status y.status

      accepted : r.status ≡ 0 → SameOutcome r q filled r' q' filled'
      accepted e =
          let one = x.accepted e in
          let two = y.accepted (sym same ∙ e) in
          record {
            status = same;
            count = count-by-machine q filled r.count one ∙ sym (count-by-machine q' filled' r'.count two);
            room = room-by-machine q filled r.count one ∙ sym (room-by-machine q' filled' r'.count two);
            means = meaning-by-machine q filled r.count one ∙ sym (meaning-by-machine q' filled' r'.count two);
          }

      refused : 0 < r.status → SameOutcome r q filled r' q' filled'
      refused l =
          let one = x.refused (λ e. omega arith) in
          let two = y.refused (λ e. omega (arith, same)) in
          record {
            status = same;
            count = one.0 ∙ sym two.0;
            room = one.2 ∙ sym two.2;
            means = ap meaning (one.1 ∙ sym two.1);
          }
