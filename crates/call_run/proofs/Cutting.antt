-- Commands that stand one behind the other in bytes: each frame starts where whole frames end, so that cuts of the bytes are cuts of the
-- commands.
use mathlib.Core.Path.{◌≡◌, refl, sym, ap, ap₂, ◌∙◌}
use mathlib.Core.List.{List, [], ◌∷◌, ◌++◌}
use Prim.Native.Nat.{ℕ, zero, suc, ◌+◌, ◌*◌, ◌/◌, ◌%◌, ◌<◌}
use native.Mathlib.Nat.{zero-add}
use native.Mathlib.Omega.{arith}
use lib.ListN.{length, take, drop, length-append, length-drop}
use lib.Seq.{take-append-le, drop-append-le, drop-append-add}
use Rattle.geometry.specs.Limits.{frame_size}
use Rattle.lists.proofs.Froms.{length_from, from-append, from-snoc, from-same, map-from}
use Rattle.lists.specs.Froms.{from}
use Rattle.lists.specs.Joins.{joined}
use Rattle.protocol.specs.Frames.{command_of, bytes_of_answer}
use Rattle.protocol.specs.declared.Answer.{Answer}
use Rattle.protocol.specs.declared.Command.{Command}
use Rattle.call_run.specs.Runs.{eights, commands_in}

-- command k of those that stand in so many bytes
abbrev pub command_at : List ℕ → ℕ → Command
command_at bytes k = command_of (take frame_size (drop (frame_size * k) bytes))

-- the first k of them
abbrev pub first_commands : List ℕ → ℕ → List Command
first_commands bytes k = from (command_at bytes) 0 k

pub no-commands : (bytes : List ℕ) → first_commands bytes 0 ≡ []
unfolding from
no-commands bytes = refl

pub one-command-more : (bytes : List ℕ) (k : ℕ) → first_commands bytes (suc k) ≡ first_commands bytes k ++ command_at bytes k ∷ []
one-command-more bytes k = from-snoc (command_at bytes) 0 k ∙ ap (λ j. first_commands bytes k ++ command_at bytes j ∷ []) (zero-add k)

pub all-commands : (bytes : List ℕ) → first_commands bytes (length bytes / frame_size) ≡ commands_in bytes
unfolding commands_in eights
all-commands bytes = sym (map-from command_of (λ k. take frame_size (drop (frame_size * k) bytes)) 0 (length bytes / frame_size))

-- as many commands as there are whole frames
pub commands-many : (bytes : List ℕ) → length (commands_in bytes) ≡ length bytes / frame_size
commands-many bytes = ap length (sym (all-commands bytes)) ∙ length_from (command_at bytes) 0 (length bytes / frame_size)

-- the numbers moved on by n
from-moved : {A : Type 0} (f : ℕ → A) (n k many : ℕ) → from f (n + k) many ≡ from (λ i. f (n + i)) k many
unfolding from
from-moved f n k zero = refl
from-moved f n k (suc many) =
    let e : suc (n + k) ≡ n + suc k = omega arith in
    ap (λ l. f (n + k) ∷ l) (ap (λ j. from f j many) e ∙ from-moved f n (suc k) many)

-- whole frames in front are commands in front
pub commands-append : (a b : List ℕ) → length a % frame_size ≡ 0 → commands_in (a ++ b) ≡ commands_in a ++ commands_in b
commands-append a b whole =
    sym (all-commands (a ++ b))
    ∙ ap (from (command_at (a ++ b)) 0) many
    ∙ from-append (command_at (a ++ b)) 0 n m
    ∙ ap₂ (λ cs ds. cs ++ ds)
    (from-same (command_at (a ++ b)) (command_at a) 0 n (λ k _ l. ap command_of (in-front k l)) ∙ all-commands a)
    (ap (λ j. from (command_at (a ++ b)) j m) start ∙ from-moved (command_at (a ++ b)) n 0 m
    ∙ from-same (λ k. command_at (a ++ b) (n + k)) (command_at b) 0 m (λ k _ l. ap (λ bytes. command_of (take frame_size bytes)) (behind k))
    ∙ all-commands b)
  where
    n : ℕ
    n = length a / frame_size

    m : ℕ
    m = length b / frame_size

    many : length (a ++ b) / frame_size ≡ n + m
    many = omega (arith, length-append a b)

    start : 0 + n ≡ n + 0
    start = omega arith

    in-front : (k : ℕ) → k < 0 + n → take frame_size (drop (frame_size * k) (a ++ b)) ≡ take frame_size (drop (frame_size * k) a)
    in-front k l =
        ap (take frame_size) (drop-append-le (frame_size * k) a b (omega arith))
        ∙ take-append-le frame_size (drop (frame_size * k) a) b (omega (arith, length-drop (frame_size * k) a))

    behind : (k : ℕ) → drop (frame_size * (n + k)) (a ++ b) ≡ drop (frame_size * k) b
    behind k =
        let e : frame_size * (n + k) ≡ length a + frame_size * k = omega arith in
        ap (λ j. drop j (a ++ b)) e ∙ drop-append-add a b (frame_size * k)

-- each answer has as many bytes as a frame
pub answer-bytes : (answers : List Answer) → length (joined bytes_of_answer answers) ≡ frame_size * length answers
unfolding bytes_of_answer
answer-bytes [] = refl
answer-bytes (a ∷ answers) = omega (arith, length-append (bytes_of_answer a) (joined bytes_of_answer answers), answer-bytes answers)
