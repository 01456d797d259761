-- The frames of a run: their commands, their answers, and what holds of each since each is a step from a sound pool.
use mathlib.Core.Path.{◌≡◌, refl, sym, ap, ◌∙◌}
use mathlib.Core.List.{List, [], ◌∷◌, map}
use Prim.Native.Nat.{ℕ}
use Rattle.lists.specs.Items.{All}
use Rattle.frame_execute.specs.Steps.{Step}
use Rattle.call_run.specs.Runs.{Runs}
use Rattle.pool.specs.Sound.{Sound}
use Rattle.protocol.specs.declared.Answer.{Answer}
use Rattle.protocol.specs.declared.Command.{Command}
use Rattle.demands.specs.Accepted.{Frame, InTurn, frames_of}

pub frames-commands : (cs : List Command) (p q : List ℕ) (answers : List Answer) (runs : Runs p cs answers q)
    → map (λ f. f.command) (frames_of p cs answers q runs) ≡ cs
frames-commands [] p q answers runs = refl
frames-commands (c ∷ cs) p q answers runs = ap (λ l. c ∷ l) (frames-commands cs runs.middle q runs.behind runs.rest)

pub frames-answers : (cs : List Command) (p q : List ℕ) (answers : List Answer) (runs : Runs p cs answers q)
    → map (λ f. f.answer) (frames_of p cs answers q runs) ≡ answers
frames-answers [] p q answers runs = sym runs.0
frames-answers (c ∷ cs) p q answers runs =
    ap (λ l. runs.answer ∷ l) (frames-answers cs runs.middle q runs.behind runs.rest) ∙ sym runs.whole

pub frames-in-turn : (cs : List Command) (p q : List ℕ) (answers : List Answer) (runs : Runs p cs answers q)
    → InTurn p (frames_of p cs answers q runs) q
frames-in-turn [] p q answers runs = runs.1
frames-in-turn (c ∷ cs) p q answers runs = (refl, frames-in-turn cs runs.middle q runs.behind runs.rest)

-- a frame is a step from the pool before it to the pool after it
abbrev pub IsStep : Frame → Type 0
IsStep f = Step f.before f.command f.answer f.after

pub each-frame : (P : Frame → Type 0) → ((f : Frame) → Sound f.before → IsStep f → P f)
    → (cs : List Command) (p q : List ℕ) (answers : List Answer) → Sound p → (runs : Runs p cs answers q) → All P (frames_of p cs answers q runs)
each-frame P one [] p q answers sound runs = tt
each-frame P one (c ∷ cs) p q answers sound runs = (
  one (record { before = p; command = c; answer = runs.answer; after = runs.middle }) sound runs.step,
  each-frame P one cs runs.middle q runs.behind runs.step.sound runs.rest,
)
