-- Frames and their eight bytes: reading gives back what was written and writing what was read.
use mathlib.Core.Path.{◌≡◌, refl, sym, ap, ◌∙◌}
use mathlib.Core.List.{List, [], ◌∷◌}
use Prim.Native.Nat.{ℕ, zero, suc, ◌+◌, ◌≤◌, ◌/◌, ◌%◌, ◌^◌, ◌<◌}
use native.Mathlib.Nat.{div-add-mod'}
use native.Mathlib.Numerals.{add-one, add-two, add-three, add-four, add_five, add_six, add_seven}
use native.Mathlib.Omega.{arith}
use lib.Dec.{lit<}
use lib.ListN.{set, length, get_or, drop, drop_of_length-le}
use lib.Seq.{drop-cons, sets-eq, paste}
use Rattle.geometry.specs.Limits.{frame_size}
use Rattle.protocol.specs.Frames.{number_of, command_of, bytes_of_command, bytes_of_answer, Fitting}
use Rattle.lists.specs.Items.{AllBelow}
use Rattle.protocol.specs.Frames.{number_of, command_of, bytes_of_command, bytes_of_answer, Fitting}
use Rattle.protocol.specs.declared.Answer.{Answer}
use Rattle.protocol.specs.declared.Command.{Command}

-- a number is read back from its four bytes
pub number-of-bytes : (n : ℕ) → n < 2 ^ 32 → number_of (n / 16777216 % 256) (n / 65536 % 256) (n / 256 % 256) (n % 256) ≡ n
number-of-bytes n below =
    let higher : n / 65536 ≡ n / 256 / 256 = omega arith in
    let highest : n / 16777216 ≡ n / 256 / 256 / 256 = omega arith in
    let top : n / 256 / 256 / 256 % 256 ≡ n / 256 / 256 / 256 = omega arith in
    rw (higher, highest, top, div-add-mod' (n / 256 / 256) 256, div-add-mod' (n / 256) 256, div-add-mod' n 256)

-- reading what was written gives the command back
pub command-of-bytes : (c : Command) → Fitting c → command_of (bytes_of_command c) ≡ c
unfolding command_of bytes_of_command
command-of-bytes c fits =
    ap
    (λ n. record { code = c.code; name = c.name; symbol = c.symbol; fourth = c.fourth; number = n })
    (number-of-bytes c.number fits.number)

-- an answer has eight bytes
pub length-of-answer : (a : Answer) → length (bytes_of_answer a) ≡ frame_size
unfolding bytes_of_answer
length-of-answer a = refl

-- what stands in such a list is below the limit
pub below_at : (limit : ℕ) (numbers : List ℕ) (i : ℕ) → 0 < limit → AllBelow limit numbers → get_or numbers i 0 < limit
below_at limit [] i some below = some
below_at limit (n ∷ ns) zero some below = below.0
below_at limit (n ∷ ns) (suc i) some below = below_at limit ns i some below.1

-- eight bytes, one by one
eight : (bytes : List ℕ) → length bytes ≡ frame_size
    → bytes
    ≡ get_or bytes 0 0 ∷ get_or bytes 1 0 ∷ get_or bytes 2 0 ∷ get_or bytes 3 0 ∷ get_or bytes 4 0 ∷ get_or bytes 5 0 ∷ get_or bytes 6 0 ∷ get_or bytes 7 0 ∷ []
eight bytes long =
    let at : (i : ℕ) → i < frame_size → drop i bytes ≡ get_or bytes i 0 ∷ drop (suc i) bytes = λ i below. drop-cons bytes i 0 (omega arith) in
    at 0 (lit< tt)
    ∙ rw (
      at 1 (lit< tt),
      at 2 (lit< tt),
      at 3 (lit< tt),
      at 4 (lit< tt),
      at 5 (lit< tt),
      at 6 (lit< tt),
      at 7 (lit< tt),
      drop_of_length-le bytes {i = 8} (omega arith),
    )

-- writing what was read gives the bytes back
pub bytes-of-command : (bytes : List ℕ) → length bytes ≡ frame_size → AllBelow 256 bytes → bytes_of_command (command_of bytes) ≡ bytes
unfolding command_of bytes_of_command
bytes-of-command bytes long below =
    let small : (i : ℕ) → get_or bytes i 0 < 256 = λ i. below_at 256 bytes i (lit< tt) below in
    let a = get_or bytes 4 0 in
    let b = get_or bytes 5 0 in
    let c = get_or bytes 6 0 in
    let d = get_or bytes 7 0 in
    let first : number_of a b c d / 16777216 % 256 ≡ a = omega (arith, small 4, small 5, small 6, small 7) in
    let second : number_of a b c d / 65536 % 256 ≡ b = omega (arith, small 4, small 5, small 6, small 7) in
    let third : number_of a b c d / 256 % 256 ≡ c = omega (arith, small 4, small 5, small 6, small 7) in
    let last : number_of a b c d % 256 ≡ d = omega (arith, small 4, small 5, small 6, small 7) in
    rw (first, second, third, last) (sym (eight bytes long))

-- what the code puts, byte after byte, is the eight bytes from `at` on
pub eight-put : (out : List ℕ) (at a b c d e f g h : ℕ) → at + frame_size ≤ length out
    → set (set (set (set (set (set (set (set out at a) (at + 1) b) (at + 2) c) (at + 3) d) (at + 4) e) (at + 5) f) (at + 6) g) (at + 7) h
    ≡ paste out at (a ∷ b ∷ c ∷ d ∷ e ∷ f ∷ g ∷ h ∷ []) frame_size
eight-put out at a b c d e f g h room =
    rw (add-one at, add-two at, add-three at, add-four at, add_five at, add_six at, add_seven at)
    (sets-eq (a ∷ b ∷ c ∷ d ∷ e ∷ f ∷ g ∷ h ∷ []) out at room)
