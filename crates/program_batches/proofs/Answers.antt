-- An answer's eight bytes have its digits: eight digits tell a number up to 2^32, and so do four bytes.
use mathlib.Core.Path.{◌≡◌, sym, ap, ◌∙◌}
use mathlib.Core.List.{[], ◌∷◌, ◌++◌}
use Prim.Native.Nat.{ℕ, ◌+◌, ◌*◌, ◌/◌, ◌%◌, ◌^◌}
use native.Mathlib.Omega.{arith}
use Rattle.text_hex.specs.Digits.{digits_of}
use Rattle.text_hex.specs.Lines.{line_of, digits_of_frame}
use Rattle.text_hex.proofs.Digits.{digits-of-both}
use Rattle.protocol.specs.Frames.{number_of, answer_of_bytes, bytes_of_answer}
use Rattle.protocol.specs.declared.Answer.{Answer}
use Rattle.protocol.proofs.Frames.{number-of-bytes}
use Rattle.program_batches.specs.Answers.{line_of_answer, line_of_bytes}

-- eight digits go by the number below 2^32
low-digits : (n : ℕ) → digits_of 8 (n % 2 ^ 32) ≡ digits_of 8 n
unfolding digits_of
low-digits n =
    let whole : n / 2 ^ 32 * 16 ^ 8 + n % 2 ^ 32 ≡ n = omega arith in
    sym (digits-of-both 0 8 (n / 2 ^ 32) (n % 2 ^ 32) (omega arith)) ∙ ap (digits_of 8) whole

-- and so do four bytes
four_bytes : (n : ℕ) → number_of (n / 16777216 % 256) (n / 65536 % 256) (n / 256 % 256) (n % 256) ≡ n % 2 ^ 32
four_bytes n =
    let low : ℕ = n % 2 ^ 32 in
    let a : n / 16777216 % 256 ≡ low / 16777216 % 256 = omega arith in
    let b : n / 65536 % 256 ≡ low / 65536 % 256 = omega arith in
    let c : n / 256 % 256 ≡ low / 256 % 256 = omega arith in
    let d : n % 256 ≡ low % 256 = omega arith in
    rw (a, b, c, d) (number-of-bytes low (omega arith))

pub line-of-bytes : (a : Answer) → line_of_bytes (bytes_of_answer a) ≡ line_of_answer a
unfolding line_of_bytes bytes_of_answer answer_of_bytes line_of digits_of_frame
line-of-bytes a =
    ap (λ digits. (digits_of 2 a.status ++ (digits_of 2 a.name ++ (digits_of 2 a.symbol ++ (digits_of 2 a.depth ++ digits)))) ++ (10 ∷ []))
    (ap (digits_of 8) (four_bytes a.value) ∙ low-digits a.value)
