-- What frames in order come to: go down the commands, one `Step` at a time.
use mathlib.Core.Path.{◌≡◌, refl, ap, ap₂, ◌∙◌}
use mathlib.Core.List.{List, [], ◌∷◌, ◌++◌}
use Prim.Native.Nat.{ℕ, suc}
use lib.ListN.{length}
use Rattle.frame_execute.specs.Steps.{Step}
use Rattle.machine.specs.Machine.{trees}
use Rattle.pool.specs.Meaning.{meaning}
use Rattle.pool.specs.Sound.{Sound}
use Rattle.protocol.specs.Respond.{answers_to, state_after}
use Rattle.protocol.specs.declared.Answer.{Answer}
use Rattle.protocol.specs.declared.Command.{Command}
use Rattle.call_run.specs.Runs.{Runs}

-- the answers are the machine's
pub runs-answers : (cs : List Command) (p q : List ℕ) (answers : List Answer) → Runs p cs answers q → answers ≡ answers_to trees (meaning p) cs
unfolding answers_to
runs-answers [] p q answers r = r.0
runs-answers (c ∷ cs) p q answers r =
    r.whole
    ∙ ap₂ (λ a rest. a ∷ rest) r.step.answer
    (runs-answers cs r.middle q r.behind r.rest ∙ ap (λ s. answers_to trees s cs) r.step.next)

-- and so is what the pool then means
pub runs-meaning : (cs : List Command) (p q : List ℕ) (answers : List Answer) → Runs p cs answers q → meaning q ≡ state_after trees (meaning p) cs
unfolding state_after
runs-meaning [] p q answers r = ap meaning r.1
runs-meaning (c ∷ cs) p q answers r =
    runs-meaning cs r.middle q r.behind r.rest ∙ ap (λ s. state_after trees s cs) r.step.next

-- one answer to each command
pub runs-many : (cs : List Command) (p q : List ℕ) (answers : List Answer) → Runs p cs answers q → length answers ≡ length cs
runs-many [] p q answers r = ap length r.0
runs-many (c ∷ cs) p q answers r = ap length r.whole ∙ ap suc (runs-many cs r.middle q r.behind r.rest)

-- from a sound pool to a sound pool
pub runs-sound : (cs : List Command) (p q : List ℕ) (answers : List Answer) → Sound p → Runs p cs answers q → Sound q
runs-sound [] p q answers sound r = rw r.1 sound
runs-sound (c ∷ cs) p q answers sound r = runs-sound cs r.middle q r.behind r.step.sound r.rest

-- of the same length
pub runs-long : (cs : List Command) (p q : List ℕ) (answers : List Answer) → Runs p cs answers q → length q ≡ length p
runs-long [] p q answers r = ap length r.1
runs-long (c ∷ cs) p q answers r = runs-long cs r.middle q r.behind r.rest ∙ r.step.long

-- commands in two lists, one after the other
pub runs_append : (cs ds : List Command) (p m q : List ℕ) (answers later : List Answer) → Runs p cs answers m → Runs m ds later q
    → Runs p (cs ++ ds) (answers ++ later) q
runs_append [] ds p m q answers later r s =
    let e : m ≡ p = r.1 in
    rw r.0 (rw e at s)
runs_append (c ∷ cs) ds p m q answers later r s =
    record {
      middle = r.middle;
      answer = r.answer;
      behind = r.behind ++ later;
      whole = ap (λ l. l ++ later) r.whole;
      step = r.step;
      rest = runs_append cs ds r.middle m q r.behind later r.rest s;
    }

-- one command more
pub runs-snoc : (cs : List Command) (c : Command) (p m q : List ℕ) (answers : List Answer) (a : Answer) → Runs p cs answers m → Step m c a q
    → Runs p (cs ++ c ∷ []) (answers ++ a ∷ []) q
runs-snoc cs c p m q answers a r s =
    runs_append cs (c ∷ []) p m q answers (a ∷ []) r
    (record { middle = q; answer = a; behind = []; whole = refl; step = s; rest = (refl, refl) })
