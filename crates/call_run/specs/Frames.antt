-- What the frames of an accepted call find and leave.
use Rattle.std.specs.Prelude.{List, ℕ, ◌/◌, ◌≤◌, length}
use Rattle.call_tests.specs.Tests.{CommandsAllowed}
use Rattle.frame_execute.specs.Steps.{Ready}
use Rattle.geometry.specs.Limits.{frame_size}
use Rattle.call_run.specs.Calls.{Answered}

-- a sound pool with its map, commands that are whole frames, and room for an answer to each
pub record FramesReady (p m commands room : List ℕ) : Type 0 where
  pub ready : Ready p m
  pub allowed : CommandsAllowed (length commands)
  pub fits : length commands ≤ length room

-- all frames were run and answered
abbrev pub FramesRun : List ℕ → List ℕ → List ℕ → List ℕ → List ℕ → Type 0
FramesRun p commands room q filled = Answered p commands room q filled (length commands / frame_size)
