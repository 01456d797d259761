-- Frames that are written leave the output: what follows an input with frames in the output follows it with these frames written.
use mathlib.Core.Path.{sym, ◌∙◌}
use mathlib.Core.List.{List, [], ◌++◌, append-nil}
use Prim.Native.Nat.{ℕ}
use native.Mathlib.Omega.{arith}
use lib.ListN.{take}
use Rattle.program_insertions.specs.Stream.{FileFollows, GoesOn}
use Rattle.program_insertions.specs.declared.Progress.{Progress}
use Rattle.program_streams.specs.declared.Taken.{Taken}

-- a step into any output, from frames that have all been written to frames that have
pub frames-written : (chunk : List ℕ) (before after : Progress) (keep keep' out out' : List ℕ) (result : Taken)
    → GoesOn chunk before after keep keep' out out' 0 result → (input written : List ℕ) → FileFollows input written before keep [] 0
    → FileFollows (input ++ take result.taken chunk) (written ++ take result.filled out') after keep' [] 0
frames-written chunk before after keep keep' out out' result on input written f =
    let none : FileFollows input written before keep out 0 =
    record { line = f.line; columns = f.columns; lines = f.lines; room = omega arith; frames = f.frames }
    in
    let next = on.takes.follows input written none in
    record {
      line = next.line;
      columns = next.columns;
      lines = next.lines;
      room = omega arith;
      frames = next.frames ∙ sym (append-nil (written ++ take result.filled out'));
    }
