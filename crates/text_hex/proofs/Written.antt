-- What the writer leaves in the buffer. Its loop puts the last digit first: the digits still to come, and the buffer from there on,
-- are always the whole number's digits and the buffer behind them.
use mathlib.Core.Path.{◌≡◌, sym, ap, ap₂, ◌∙◌}
use mathlib.Core.List.{List, [], ◌∷◌, ◌++◌, append_assoc}
use Prim.Native.Nat.{ℕ, zero, suc, ◌+◌, ◌-◌, ◌*◌, ◌/◌, ◌%◌, ◌^◌, ◌≤◌, ◌<◌}
use native.Mathlib.Nat.{add-suc, add-zero}
use native.Mathlib.Omega.{arith}
use native.Mathlib.Numerals.{sub-one}
use lib.ListN.{length, take, drop, set, length-set, length-append, take-append-drop}
use lib.Seq.{drop-cons, take-take, take-set-le, drop-set-lt, get_or-set_same, take_all, paste, paste-suc, take-append-le, append_snoc, get_or-append_seam}
use Rattle.protocol.specs.declared.Frame.{Frame}
use Rattle.text_hex.specs.Digits.{digit_of, digits_of}
use Rattle.text_hex.specs.Lines.{digits_of_frame, line_digits, line_of, line_size}
use Rattle.text_hex.proofs.Digits.{length-of-digits, digits-of-both}

-- with `left` digits of `rest` still to be put, out is what it was before them, and its end is what the whole number leaves
pub record Putting (many : ℕ) (before : List ℕ) (at number : ℕ) (out : List ℕ) (left rest : ℕ) : Type 0 where
  pub few : left ≤ many
  pub long : length out ≡ length before
  pub front : take (at + left) out ≡ take (at + left) before
  pub back : digits_of left rest ++ drop (at + left) out ≡ digits_of many number ++ drop (at + many) before

module _ (many : ℕ) (before : List ℕ) (at number : ℕ) (room : at + many ≤ length before) where
  put-at : (out : List ℕ) (k rest digit : ℕ) → digit ≡ digit_of (rest % 16) → at + k < length out
      → digits_of k (rest / 16) ++ drop (at + k) (set out (at + k) digit) ≡ digits_of (suc k) rest ++ drop (suc (at + k)) out
  unfolding digits_of
  put-at out k rest digit is below =
      ap (λ l. digits_of k (rest / 16) ++ l)
      (drop-cons (set out (at + k) digit) (at + k) 0 (simp length-set below) ∙
      rw (get_or-set_same out (at + k) digit 0 below, drop-set-lt (suc (at + k)) out (at + k) digit (omega arith), is))
      ∙ sym (append_snoc (digits_of k (rest / 16)) (digit_of (rest % 16)) (drop (suc (at + k)) out))

  pub putting-more : (out : List ℕ) (left rest digit : ℕ) → Putting many before at number out left rest → 0 < left → digit ≡ digit_of (rest % 16)
      → Putting many before at number (set out (at + (left - 1)) digit) (left - 1) (rest / 16)
  putting-more out zero rest digit p some is = absurd (omega arith)
  putting-more out (suc k) rest digit p some is =
      rw sub-one
      record {
        few = omega arith;
        long = length-set out (at + k) digit ∙ p.long;
        front =
            take-set-le (at + k) out (at + k) digit (omega arith)
            ∙ sym (take-take (at + k) (at + suc k) out (omega arith))
            ∙ ap (take (at + k)) p.front
            ∙ take-take (at + k) (at + suc k) before (omega arith);
        back = put-at out k rest digit is (omega arith) ∙ (rw add-suc at p.back);
      }

  pub put_all : (out : List ℕ) (left rest : ℕ) → Putting many before at number out left rest → left ≤ 0
      → out ≡ paste before at (digits_of many number) many
  unfolding digits_of
  put_all out zero rest p none =
      sym (take-append-drop at out)
      ∙ ap (λ l. l ++ drop at out) (rw add-zero at p.front)
      ∙ ap (λ l. take at before ++ l) (rw add-zero at p.back)
      ∙ sym (append_assoc (take at before) (digits_of many number) (drop (at + many) before))
      ∙ ap (λ l. take at before ++ l ++ drop (at + many) before) (sym (take_all many (digits_of many number) (omega (arith, length-of-digits many number))))
  put_all out (suc left) rest p none = absurd (omega arith)

-- one byte more behind what was put
pub put-after : (before : List ℕ) (at : ℕ) (put : List ℕ) (byte : ℕ) → at + length put < length before
    → set (paste before at put (length put)) (at + length put) byte ≡ paste before at (put ++ (byte ∷ [])) (suc (length put))
put-after before at put byte room =
    ap₂ (λ l b. set (take at before ++ l ++ drop (at + length put) before) (at + length put) b)
    (sym (take-append-le (length put) put (byte ∷ []) (omega arith)))
    (sym (get_or-append_seam put byte [] 0))
    ∙ paste-suc before at (put ++ (byte ∷ [])) (length put) 0 room (simp length-append (omega arith))

-- a frame as one number, its four bytes in front of its own number
abbrev pub one-number : Frame → ℕ
one-number frame = (((frame.first * 256 + frame.second) * 256 + frame.third) * 256 + frame.fourth) * 4294967296 + frame.number

-- that number has the frame's digits
pub digits-of-frame : (frame : Frame) → frame.second < 256 → frame.third < 256 → frame.fourth < 256 → frame.number < 16 ^ 8
    → digits_of line_digits (one-number frame) ≡ digits_of_frame frame
unfolding digits_of_frame
digits-of-frame frame b c d n =
    digits-of-both 8 8 (((frame.first * 256 + frame.second) * 256 + frame.third) * 256 + frame.fourth) frame.number n
    ∙ ap (λ l. l ++ digits_of 8 frame.number)
    (digits-of-both 6 2 ((frame.first * 256 + frame.second) * 256 + frame.third) frame.fourth d
    ∙ ap (λ l. l ++ digits_of 2 frame.fourth)
    (digits-of-both 4 2 (frame.first * 256 + frame.second) frame.third c
    ∙ ap (λ l. l ++ digits_of 2 frame.third) (digits-of-both 2 2 frame.first frame.second b)))
    ∙ simp append_assoc

pub length-of-frame : (frame : Frame) → length (digits_of_frame frame) ≡ line_digits
unfolding digits_of_frame
length-of-frame frame = simp (length-append, length-of-digits)

-- the digits of the one number and a line feed behind them are the line
pub line-put : (before : List ℕ) (at number : ℕ) (frame : Frame) (out : List ℕ) → frame.second < 256 → frame.third < 256 → frame.fourth < 256 → frame.number < 16 ^ 8
    → at + line_size ≤ length before → number ≡ one-number frame → out ≡ paste before at (digits_of line_digits number) line_digits
    → set out (at + line_digits) 10 ≡ paste before at (line_of frame) line_size
unfolding line_of
line-put before at number frame out b c d n room is digits =
    let put-digits = digits_of_frame frame in
    let long : length put-digits ≡ line_digits = length-of-frame frame in
    let put : set (paste before at put-digits (length put-digits)) (at + length put-digits) 10 ≡ paste before at (put-digits ++ (10 ∷ [])) (suc (length put-digits)) =
    put-after before at put-digits 10 (omega arith)
    in
    rw (digits, is, digits-of-frame frame b c d n) (rw long at put)

pub length-of-line : (frame : Frame) → length (line_of frame) ≡ line_size
unfolding line_of
length-of-line frame = length-append (digits_of_frame frame) (10 ∷ []) ∙ omega (arith, length-of-frame frame)
