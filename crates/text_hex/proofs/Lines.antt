-- What a line holds, test by test, and that reading a written line gives its numbers back: each field's digits are a part of the
-- line, and a number is read back from its digits.
use mathlib.Core.Path.{◌≡◌, refl, sym, ap, ◌∙◌}
use mathlib.Core.Bool.{Bool, true, false, not}
use mathlib.Core.List.{List, [], ◌∷◌, ◌++◌}
use Prim.Native.Nat.{ℕ, zero, suc, ◌+◌, ◌-◌, ◌^◌, ◌≤◌, ◌<◌}
use native.Mathlib.Omega.{arith}
use borrow.Author.Tests.{eq-eqb, ne_eqb, not-false}
use lib.Dec.{ltb}
use lib.ListN.{length, take, drop, length-take}
use lib.Seq.{take_at, drop_at, take_all, drop-drop}
use mir.Syntax.{w8}
use mir.Val.{Fits}
use Rattle.std.proofs.Common.{Ok}
use Rattle.std.proofs.lemmas.Bool.{and_parts}
use Rattle.std.proofs.lemmas.List.Folds.{list_all-append}
use Rattle.text_hex.specs.Digits.{value_of, all_digits, number_of_digits, digits_of}
use Rattle.text_hex.specs.Lines.{line_digits, spelled, no_frame, frame_of, numbers_of, digits_of_frame}
use Rattle.protocol.specs.declared.Frame.{Frame}
use Rattle.text_hex.proofs.Written.{length-of-frame}
use Rattle.text_hex.proofs.Digits.{digits-are-digits, length-of-digits, number_fits, number-of-digits}

-- digits stay digits in a part of the line
all-digits-drop : (many : ℕ) (bytes : List ℕ) → all_digits bytes ≡ true → all_digits (drop many bytes) ≡ true
all-digits-drop zero bytes digits = digits
all-digits-drop (suc many) [] digits = refl
all-digits-drop (suc many) (byte ∷ bytes) digits = all-digits-drop many bytes (and_parts (ltb (value_of byte) 16) (all_digits bytes) digits).1

all-digits-take : (many : ℕ) (bytes : List ℕ) → all_digits bytes ≡ true → all_digits (take many bytes) ≡ true
all-digits-take zero bytes digits = refl
all-digits-take (suc many) [] digits = refl
all-digits-take (suc many) (byte ∷ bytes) digits =
    rw (and_parts (ltb (value_of byte) 16) (all_digits bytes) digits).0
    (all-digits-take many bytes (and_parts (ltb (value_of byte) 16) (all_digits bytes) digits).1)

pub all-digits-part : (from many : ℕ) (bytes : List ℕ) → all_digits bytes ≡ true → all_digits (take many (drop from bytes)) ≡ true
all-digits-part from many bytes digits = all-digits-take many (drop from bytes) (all-digits-drop from bytes digits)

-- the part of a line that code reads from a place on, its length, and the byte that two digits stand for
pub part-is : (at many : ℕ) (line : List ℕ) → take (at + many - at) (drop at line) ≡ take many (drop at line)
part-is at many line = let same : at + many - at ≡ many = omega arith in rw same

pub part-short : (many : ℕ) (bytes : List ℕ) → length (take many bytes) ≤ many
part-short many bytes = simp length-take (omega arith)

pub byte_fits : (line : List ℕ) (at byte : ℕ) → byte ≡ number_of_digits (take (at + 2 - at) (drop at line)) → all_digits line ≡ true → Fits w8 byte
byte_fits line at byte is digits =
    record {
      fits =
          rw (is, part-is at 2 line)
          (number_fits (take 2 (drop at line)) 2 (part-short 2 (drop at line)) (all-digits-part at 2 line digits));
    }

-- What a line holds, by the two tests.
pub frame-of-other-length : (line : List ℕ) → (length line ≡ line_digits → ⊥) → no_frame ≡ frame_of line
unfolding frame_of
frame-of-other-length line other = rw (ne_eqb (length line) line_digits other)

pub frame-of-no-digits : (line : List ℕ) → length line ≡ line_digits → all_digits line ≡ false → no_frame ≡ frame_of line
unfolding frame_of
frame-of-no-digits line long none = rw (eq-eqb (length line) line_digits long, none)

pub frame-of-digits : (line : List ℕ) → length line ≡ line_digits → all_digits line ≡ true → Ok (spelled line) ≡ frame_of line
unfolding frame_of
frame-of-digits line long digits = rw (eq-eqb (length line) line_digits long, digits)

-- every byte is a digit where the test for one that is none failed
pub digits-told : (line : List ℕ) (answer : Bool) → answer ≡ all_digits line → not answer ≡ false → all_digits line ≡ true
digits-told line answer is none = sym is ∙ not-false answer none

-- the numbers that were read, each of its digits, are the frame
abbrev frame-with : ℕ → ℕ → ℕ → ℕ → ℕ → Frame
frame-with first second third fourth number = record { first = first; second = second; third = third; fourth = fourth; number = number }

pub frame-read : (line : List ℕ) (answer : Bool) (first second third fourth number : ℕ) → length line ≡ line_digits → answer ≡ all_digits line → not answer ≡ false
    → first ≡ number_of_digits (take 2 line) → second ≡ number_of_digits (take 2 (drop 2 line)) → third ≡ number_of_digits (take 2 (drop 4 line))
    → fourth ≡ number_of_digits (take 2 (drop 6 line)) → number ≡ number_of_digits (take 8 (drop 8 line))
    → Ok (frame-with first second third fourth number) ≡ frame_of line
unfolding spelled
frame-read line answer first second third fourth number long is none a b c d n =
    rw (a, b, c, d, n) (frame-of-digits line long (digits-told line answer is none))

-- digits in front of others are read back, and the others stand behind them
read-in-front : (many number : ℕ) (rest : List ℕ) → number < 16 ^ many → number_of_digits (take many (digits_of many number ++ rest)) ≡ number
read-in-front many number rest below = rw (take_at (digits_of many number) rest many (length-of-digits many number)) (number-of-digits many number below)

drop-in-front : (many number : ℕ) (rest : List ℕ) → drop many (digits_of many number ++ rest) ≡ rest
drop-in-front many number rest = drop_at (digits_of many number) rest many (length-of-digits many number)

drop-two-more : (many : ℕ) (line number-rest : List ℕ) (number : ℕ) → drop many line ≡ digits_of 2 number ++ number-rest → drop (many + 2) line ≡ number-rest
drop-two-more many line rest number is = sym (drop-drop 2 many line) ∙ ap (drop 2) is ∙ drop-in-front 2 number rest

-- a frame whose fields fit its bytes
module _ (frame : Frame) (a : frame.first < 256) (b : frame.second < 256) (c : frame.third < 256) (d : frame.fourth < 256) (n : frame.number < 2 ^ 32) where
  spelled-again : spelled (digits_of_frame frame) ≡ frame
  unfolding spelled digits_of_frame
  spelled-again =
      let line = digits_of_frame frame in
      let number_at : List ℕ = digits_of 8 frame.number in
      let fourth_at : List ℕ = digits_of 2 frame.fourth ++ number_at in
      let third_at : List ℕ = digits_of 2 frame.third ++ fourth_at in
      let second_at : List ℕ = digits_of 2 frame.second ++ third_at in
      let two : drop 2 line ≡ second_at = drop-in-front 2 frame.first second_at in
      let four : drop 4 line ≡ third_at = drop-two-more 2 line third_at frame.second two in
      let six : drop 6 line ≡ fourth_at = drop-two-more 4 line fourth_at frame.third four in
      let eight : drop 8 line ≡ number_at = drop-two-more 6 line number_at frame.fourth six in
      rw (
        two,
        four,
        six,
        eight,
        read-in-front 2 frame.first second_at a,
        read-in-front 2 frame.second third_at b,
        read-in-front 2 frame.third fourth_at c,
        read-in-front 2 frame.fourth number_at d,
        take_all 8 number_at (omega (arith, length-of-digits 8 frame.number)),
        number-of-digits 8 frame.number n,
      )

  all-digits-of-frame : all_digits (digits_of_frame frame) ≡ true
  unfolding digits_of_frame
  all-digits-of-frame = simp (list_all-append, digits-are-digits)

  -- reading what was written gives the frame back
  pub frame-of-written : frame_of (digits_of_frame frame) ≡ Ok frame
  frame-of-written =
      sym (frame-of-digits (digits_of_frame frame) (length-of-frame frame) all-digits-of-frame) ∙ ap Ok spelled-again

  -- and so its numbers
  pub numbers-of-written : numbers_of (frame_of (digits_of_frame frame)) ≡ frame.first ∷ frame.second ∷ frame.third ∷ frame.fourth ∷ frame.number ∷ []
  numbers-of-written = ap numbers_of frame-of-written
