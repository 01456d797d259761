-- The commands of a batch: what digits spell fits the bytes of a frame, and each frame has eight.
use mathlib.Core.Bool.{Bool, true, false, cond}
use mathlib.Core.Path.{◌≡◌, refl}
use mathlib.Core.List.{List, [], ◌∷◌, map}
use Prim.Native.Nat.{ℕ, ◌*◌, ◌^◌, ◌<◌}
use native.Mathlib.Omega.{arith}
use lib.Dec.{eqb}
use lib.ListN.{length, take, drop, length-append, length-take}
use Rattle.std.proofs.lemmas.Bool.{and_parts}
use Rattle.std.proofs.Common.{Ok, Err}
use Rattle.geometry.specs.Limits.{frame_size}
use Rattle.lists.specs.Joins.{joined}
use Rattle.text_hex.specs.Digits.{all_digits, number_of_digits}
use Rattle.text_hex.specs.Lines.{Reading, no_frame, frame_of, spelled, line_digits, is_frame}
use Rattle.text_hex.proofs.Lines.{all-digits-part}
use Rattle.text_hex.proofs.Digits.{number_fits}
use Rattle.protocol.specs.Frames.{bytes_of_frame, command_in, Fitting}
use Rattle.protocol.specs.declared.Command.{Command}
use Rattle.program_batches.specs.Batch.{bytes_of}

-- the commands of the lines that are frames
abbrev pub commands_read : List Reading → List Command
commands_read [] = []
commands_read (Ok frame ∷ rs) = command_in frame ∷ commands_read rs
commands_read (Err bad ∷ rs) = commands_read rs

-- a frame's numbers fit their bytes
abbrev pub Fits : Reading → Type 0
Fits (Ok frame) = Fitting (command_in frame)
Fits (Err bad) = Unit {0}

abbrev pub AllFit : List Reading → Type 0
AllFit [] = Unit {0}
AllFit (r ∷ rs) = Fits r × AllFit rs

fits-spelled : (line : List ℕ) → all_digits line ≡ true → Fits (Ok (spelled line))
unfolding spelled
fits-spelled line digits =
    record {
      code = part 0 2;
      name = part 2 2;
      symbol = part 4 2;
      fourth = part 6 2;
      number = part 8 8;
    }
  where
    part : (at many : ℕ) → number_of_digits (take many (drop at line)) < 16 ^ many
    part at many =
        number_fits (take many (drop at line)) many (omega (arith, length-take many (drop at line))) (all-digits-part at many line digits)

-- what a line spells fits
pub fits_line : (line : List ℕ) → Fits (frame_of line)
unfolding frame_of
fits_line line = go (is_frame line) (λ is. (and_parts (eqb (length line) line_digits) (all_digits line) is).1)
  where
    go : (is : Bool) → (is ≡ true → all_digits line ≡ true) → Fits (cond is (Ok (spelled line)) no_frame)
    go true digits = fits-spelled line (digits refl)
    go false digits = tt

pub fits-lines : (lines : List (List ℕ)) → AllFit (map frame_of lines)
fits-lines [] = tt
fits-lines (line ∷ lines) = (fits_line line, fits-lines lines)

-- eight bytes for each command
pub length-of-batch : (rs : List Reading) → length (joined bytes_of rs) ≡ frame_size * length (commands_read rs)
length-of-batch [] = refl
length-of-batch (Ok frame ∷ rs) = omega (arith, length-of-batch rs, length-append (bytes_of_frame frame) (joined bytes_of rs))
length-of-batch (Err bad ∷ rs) = length-of-batch rs
