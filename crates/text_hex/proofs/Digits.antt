-- Numbers and their digits: one law for every number of digits. A number is read back from its digits by induction on how many
-- there are, the last one first; what fits goes by the powers of sixteen.
use mathlib.Core.Path.{◌≡◌, refl, ap, sym, ◌∙◌}
use mathlib.Core.Bool.{true}
use mathlib.Core.List.{List, [], ◌∷◌, ◌++◌, append-nil, append_assoc}
use Prim.Native.Nat.{ℕ, zero, suc, ◌+◌, ◌*◌, ◌/◌, ◌%◌, ◌^◌, ◌≤◌, ◌<◌}
use native.Mathlib.Nat.{pow-succ', pow-le-pow_right, mul-le-mul_right, mul_left_comm, mul_assoc, add-suc, add-zero, mul-one}
use native.Mathlib.Numerals.{add-one}
use native.Mathlib.Omega.{arith}
use lib.Dec.{ltb}
use lib.ListN.{length, get_or, drop, length-append}
use lib.Seq.{drop-cons}
use borrow.Author.Tests.{lt-ltb, ltb-true}
use Rattle.std.proofs.lemmas.Bool.{and_parts}
use Rattle.std.proofs.lemmas.List.Folds.{list_all-append}
use Rattle.text_hex.specs.Digits.{value_of, digit_of, digits_of, all_digits, number_after, number_of_digits}
use Rattle.text_hex.proofs.Rules.{values-at}

-- a digit's value is the value that it was written for
pub value-of-digit : (value : ℕ) → value < 16 → value_of (digit_of value) ≡ value
unfolding value_of digit_of
value-of-digit value below = sym (values-at (λ d. value_of (digit_of d)) 16 value below) ∙ values-at (λ d. d) 16 value below

-- one more byte is read
pub number-from : (above : ℕ) (bytes : List ℕ) (i : ℕ) → i < length bytes
    → number_after above (drop i bytes) ≡ number_after (above * 16 + value_of (get_or bytes i 0)) (drop (i + 1) bytes)
number-from above bytes i below = rw (add-one, drop-cons bytes i 0)

-- reading on never makes a number smaller
pub number-grows : (above : ℕ) (bytes : List ℕ) → above ≤ number_after above bytes
number-grows above [] = omega arith
number-grows above (byte ∷ bytes) = omega (arith, number-grows (above * 16 + value_of byte) bytes)

pub number-after-fits : (above : ℕ) (bytes : List ℕ) → all_digits bytes ≡ true → number_after above bytes < (above + 1) * 16 ^ length bytes
number-after-fits above [] digits = omega (arith, mul-one (above + 1))
number-after-fits above (byte ∷ bytes) digits =
    let value : value_of byte < 16 = ltb-true (value_of byte) 16 (and_parts (ltb (value_of byte) 16) (all_digits bytes) digits).0 in
    let rest : number_after (above * 16 + value_of byte) bytes < (above * 16 + value_of byte + 1) * 16 ^ length bytes =
    number-after-fits (above * 16 + value_of byte) bytes (and_parts (ltb (value_of byte) 16) (all_digits bytes) digits).1
    in
    let step : (above * 16 + value_of byte + 1) * 16 ^ length bytes ≤ ((above + 1) * 16) * 16 ^ length bytes =
    mul-le-mul_right (16 ^ length bytes) (omega arith)
    in
    omega (arith, mul_assoc (above + 1) 16 (16 ^ length bytes), ap (λ p. (above + 1) * p) (pow-succ' 16 (length bytes)))

-- so many digits stand for a number below that power of sixteen
pub number_fits : (bytes : List ℕ) (most : ℕ) → length bytes ≤ most → all_digits bytes ≡ true → number_of_digits bytes < 16 ^ most
number_fits bytes most few digits =
    omega (arith, number-after-fits 0 bytes digits, pow-le-pow_right {n = 16} (omega arith) few)

pub length-of-digits : (many number : ℕ) → length (digits_of many number) ≡ many
unfolding digits_of
length-of-digits zero number = refl
length-of-digits (suc many) number =
    length-append (digits_of many (number / 16)) (digit_of (number % 16) ∷ []) ∙ omega (arith, length-of-digits many (number / 16))

number_after_append : (above : ℕ) (xs ys : List ℕ) → number_after above (xs ++ ys) ≡ number_after (number_after above xs) ys
number_after_append above [] ys = refl
number_after_append above (x ∷ xs) ys = number_after_append (above * 16 + value_of x) xs ys

-- reading the digits that were written gives the number back
pub number-of-digits : (many number : ℕ) → number < 16 ^ many → number_of_digits (digits_of many number) ≡ number
unfolding digits_of
number-of-digits zero number below = omega arith
number-of-digits (suc many) number below =
    let above : number_of_digits (digits_of many (number / 16)) ≡ number / 16 =
    number-of-digits many (number / 16) (omega (arith, pow-succ' 16 many))
    in
    number_after_append 0 (digits_of many (number / 16)) (digit_of (number % 16) ∷ []) ∙
    omega (arith, above, value-of-digit (number % 16) (omega arith))

-- digits that were written are digits
pub digits-are-digits : (many number : ℕ) → all_digits (digits_of many number) ≡ true
unfolding digits_of
digits-are-digits zero number = refl
digits-are-digits (suc many) number =
    list_all-append (λ byte. ltb (value_of byte) 16) (digits_of many (number / 16)) (digit_of (number % 16) ∷ []) ∙
    rw (digits-are-digits many (number / 16), value-of-digit (number % 16) (omega arith), lt-ltb (number % 16) 16 (omega arith))

-- two numbers side by side are written one after the other
pub digits-of-both : (many more above number : ℕ) → number < 16 ^ more
    → digits_of (many + more) (above * 16 ^ more + number) ≡ digits_of many above ++ digits_of more number
unfolding digits_of
digits-of-both many zero above number below =
    rw (add-zero many, append-nil) (ap (digits_of many) (omega arith))
digits-of-both many (suc more) above number below =
    let power : above * 16 ^ suc more ≡ 16 * (above * 16 ^ more) =
    ap (λ p. above * p) (pow-succ' 16 more) ∙ mul_left_comm above 16 (16 ^ more)
    in
    let higher : (above * 16 ^ suc more + number) / 16 ≡ above * 16 ^ more + number / 16 = omega arith in
    let last : (above * 16 ^ suc more + number) % 16 ≡ number % 16 = omega arith in
    rw add-suc
    (rw (higher, last, digits-of-both many more above (number / 16) (omega (arith, pow-succ' 16 more)))
    (append_assoc (digits_of many above) (digits_of more (number / 16)) (digit_of (number % 16) ∷ [])))
