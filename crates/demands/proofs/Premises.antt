-- Why demand 3 has its premises: without the one on openings, or for name byte 255, it is false. Each time two sessions of one frame, on
-- formatted pools of one and of two shares, meet what is left of the premises and are answered differently.
use mathlib.Core.Path.{◌≡◌, refl, sym, ap}
use mathlib.Core.List.{List, [], ◌∷◌}
use Prim.Native.Nat.{ℕ, ◌-◌, ◌/◌, ◌<◌}
use native.Mathlib.Omega.{arith}
use lib.ListN.{get_or, set}
use Rattle.geometry.specs.Limits.{names, block_size, directory_size}
use Rattle.lists.specs.Froms.{from}
use Rattle.pool.proofs.Formatted.{formatted-sound, formatted-meaning}
use Rattle.call_run.specs.Runs.{commands_in, eights}
use Rattle.frame_execute.proofs.Steps.{refused-steps, asked-steps, open-ready, open-steps}
use Rattle.frame_execute.specs.Steps.{Step}
use Rattle.frame_status.specs.Statuses.{status_in}
use Rattle.machine.specs.Machine.{trees}
use Rattle.machine.specs.OneName.{beside}
use Rattle.pool.specs.Formatted.{formatted}
use Rattle.pool.specs.Meaning.{meaning}
use Rattle.pool.specs.Sound.{LengthAllowed}
use Rattle.protocol.specs.Commands.{rows}
use Rattle.protocol.specs.Edges.{gives, refuses}
use Rattle.protocol.specs.Frames.{command_of, bytes_of_answer}
use Rattle.protocol.specs.Refusals.{refusals, status_of}
use Rattle.protocol.specs.Respond.{reply, respond}
use Rattle.protocol.specs.State.{fresh_state, part_of, unpromised}
use Rattle.protocol.specs.declared.Answer.{Answer}
use Rattle.protocol.specs.declared.numbers.Reason.TheVariants.{SharesExceeded}
use Rattle.demands.specs.Accepted.{Fresh, Call, Session, commands_of, answers_of}
use Rattle.demands.specs.Demand3.{commands_to, openings_in, AnsweredAlike}
use Rattle.demands.proofs.FreshFrames.{one_frame, one-frame-session, is-fresh, free_map, fresh-ready, two, two-allowed, two_opened, two-opened}

-- demand 3 for these names, with no premise on openings
abbrev WithoutOpenings : Type 0
WithoutOpenings = (x : ℕ) (p p' q q' : List ℕ) (calls calls' : List Call) → Fresh p → Fresh p' → Session p calls q → Session p' calls' q'
    → x < names → commands_to x calls ≡ commands_to x calls' → AnsweredAlike x calls calls' q q'

-- demand 3 for every name byte
abbrev ForEveryByte : Type 0
ForEveryByte = (x : ℕ) (p p' q q' : List ℕ) (calls calls' : List Call) → Fresh p → Fresh p' → Session p calls q → Session p' calls' q'
    → commands_to x calls ≡ commands_to x calls' → openings_in x calls ≡ openings_in x calls' → AnsweredAlike x calls calls' q q'

-- a pool of one share
one-allowed : LengthAllowed 640
one-allowed = record { whole = refl; shortest = omega arith; longest = omega arith }

-- open name 0 for four symbols with two shares
abbrev opening : List ℕ
opening = 1 ∷ 0 ∷ 4 ∷ 0 ∷ 0 ∷ 0 ∷ 0 ∷ 2 ∷ []

status-in-one : status_in (formatted 640) (command_of opening) ≡ 12
unfolding command_of status_of refusals rows
status-in-one = ap (λ s. status_of trees (unpromised s) (part_of s 0) (command_of opening)) (formatted-meaning 640 one-allowed)

status-in-two : status_in two (command_of opening) ≡ 0
unfolding command_of status_of refusals rows
status-in-two = ap (λ s. status_of trees (unpromised s) (part_of s 0) (command_of opening)) (formatted-meaning 768 two-allowed)

refused-in-one : Step (formatted 640) (command_of opening) (refuses 0 12) (formatted 640)
unfolding command_of
refused-in-one = (refused-steps (formatted 640) (free_map 640 one-allowed) (command_of opening) (fresh-ready 640 one-allowed) SharesExceeded (sym status-in-one)).step

opened-in-two : Step two (command_of opening) (gives 0 0) two_opened
unfolding command_of
opened-in-two =
    let ready = fresh-ready 768 two-allowed in
    let may = open-ready two (free_map 768 two-allowed) (command_of opening) ready status-in-two refl in
    (open-steps two (free_map 768 two-allowed) (command_of opening) ready status-in-two refl two_opened (set (free_map 768 two-allowed) 0 1) (gives 0 0) (two-opened may) refl).step

-- an opening that finds room in one pool only: so the statuses of openings are given
pub without-openings-false : WithoutOpenings → ⊥
unfolding command_of commands_of answers_of commands_in eights from beside bytes_of_answer
without-openings-false weaker =
    let alike = weaker 0 (formatted 640) two (formatted 640) two_opened (one_frame opening (refuses 0 12) ∷ []) (one_frame opening (gives 0 0) ∷ [])
    (is-fresh 640 one-allowed) (is-fresh 768 two-allowed)
    (one-frame-session 1 0 4 0 0 0 0 2 (formatted 640) (refuses 0 12) (formatted 640) (formatted-sound 640 one-allowed) refused-in-one)
    (one-frame-session 1 0 4 0 0 0 0 2 two (gives 0 0) two_opened (formatted-sound 768 two-allowed) opened-in-two)
    (omega arith) refl in
    let status : ◌≡◌ {A = ℕ} 12 0 = ap (λ frames. get_or (get_or frames 0 []) 0 0) alike.answers in
    absurd (omega arith)

-- the query for the unpromised shares
abbrev asking : List ℕ
asking = 9 ∷ 255 ∷ 0 ∷ 0 ∷ 0 ∷ 0 ∷ 0 ∷ 0 ∷ []

asked : (bytes : ℕ) (allowed : LengthAllowed bytes) (a : Answer) → a ≡ (respond trees (meaning (formatted bytes)) (command_of asking)).answer
    → Step (formatted bytes) (command_of asking) a (formatted bytes)
unfolding command_of
asked bytes allowed a is = (asked-steps (formatted bytes) (free_map bytes allowed) (command_of asking) (fresh-ready bytes allowed) a is (omega arith)).step

told : (bytes : ℕ) (allowed : LengthAllowed bytes) → (respond trees (meaning (formatted bytes)) (command_of asking)).answer
    ≡ (respond trees (fresh_state ((bytes - directory_size) / block_size)) (command_of asking)).answer
told bytes allowed = ap (λ s. (respond trees s (command_of asking)).answer) (formatted-meaning bytes allowed)

-- name byte 255 asks for the unpromised shares: so the name is one of the sixteen
pub for-every-byte-false : ForEveryByte → ⊥
unfolding command_of commands_of answers_of commands_in eights from beside bytes_of_answer respond reply status_of refusals rows
for-every-byte-false weaker =
    let alike = weaker 255 (formatted 640) two (formatted 640) two (one_frame asking (gives 255 1) ∷ []) (one_frame asking (gives 255 2) ∷ [])
    (is-fresh 640 one-allowed) (is-fresh 768 two-allowed)
    (one-frame-session 9 255 0 0 0 0 0 0 (formatted 640) (gives 255 1) (formatted 640) (formatted-sound 640 one-allowed) (asked 640 one-allowed (gives 255 1) (sym (told 640 one-allowed))))
    (one-frame-session 9 255 0 0 0 0 0 0 two (gives 255 2) two (formatted-sound 768 two-allowed) (asked 768 two-allowed (gives 255 2) (sym (told 768 two-allowed))))
    refl refl in
    let value : ◌≡◌ {A = ℕ} 1 2 = ap (λ frames. get_or (get_or frames 0 []) 7 0) alike.answers in
    absurd (omega arith)
