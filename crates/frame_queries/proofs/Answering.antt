-- The answers to queries: each query can be asked where nothing refuses it, and what it gives is the machine's answer.
use mathlib.Core.List.{List}
use mathlib.Core.Path.{◌≡◌, refl, sym, ap, ◌∙◌}
use Prim.Native.Nat.{ℕ, ◌^◌, ◌≤◌, ◌<◌}
use native.Mathlib.Omega.{arith}
use lib.ListN.{length}
use Rattle.geometry.specs.Limits.{most_alphabet}
use Rattle.geometry.specs.declared.Record.{Record}
use Rattle.machine.specs.Machine.{trees}
use Rattle.pool.specs.Meaning.{meaning}
use Rattle.pool.specs.Shares.{unpromised_shares}
use Rattle.pool.specs.Sound.{Sound}
use Rattle.protocol.proofs.Accepted.{PlaceAccepted, RankAccepted, SelectAccepted, access-accepted, rank-accepted, select-accepted, length-accepted}
use Rattle.protocol.specs.Commands.{access_code, rank_code, select_code, length_code, unpromised_code, rows}
use Rattle.protocol.specs.Numbers.{code_of}
use Rattle.protocol.specs.Respond.{accepted, value_to}
use Rattle.protocol.specs.State.{Part, alphabet_of, marks_of, part_of, unpromised}
use Rattle.protocol.specs.declared.Answer.{Answer}
use Rattle.protocol.specs.declared.Command.{Command}
use Rattle.protocol.specs.declared.numbers.Operation.{Operation}
use Rattle.protocol.specs.declared.numbers.Operation.TheVariants.{Open, Close, Insert, Delete, Access, Rank, Select, Length, Unpromised}
use Rattle.pool.proofs.Meaning.{unpromised-meaning}
use Rattle.tree_query.specs.Answers.{FoundOf}
use Rattle.tree_query.specs.Records.{OfOpenName, tree_by}
use Rattle.tree_query.specs.declared.Found.{Found}
use Rattle.sequence.proofs.Ranks.{rank-le-place}
use Rattle.sequence.proofs.Selects.{select-le-length}
use Rattle.sequence.specs.Definition1.{count, rank, select}
use Rattle.shape.proofs.Height.{depth-height}
use Rattle.shape.specs.Trees.{Tree, marks_t}
use Rattle.frame_status.proofs.Statuses.{unpromised-passes}
use Rattle.frame_status.specs.Statuses.{status_in, WellFormed}
use Rattle.frame_queries.specs.Accepted.{Accepted, answer_of}
use Rattle.frame_queries.proofs.Effects.{ToOpen, accepted-answer, accepted-open, coded-effect, open-answer}

-- Access.
module _ (p : List ℕ) (c : Command) (found : Record) (a : Accepted p c found) (is : c.code ≡ access_code) where
  access-allowed : PlaceAccepted trees (part_of (meaning p) c.name) c
  access-allowed = access-accepted trees (unpromised (meaning p)) (part_of (meaning p) c.name) c is a.status

  access-open : ToOpen p c found
  access-open =
      accepted-open p c a.sound a.status (λ (e : c.code ≡ unpromised_code). omega arith) access-allowed.is_open_lem found a.read

  pub access-record : OfOpenName p found
  access-record = access-open.asked

  pub access-first : 1 ≤ c.number
  access-first = access-allowed.low

  pub access-last : c.number ≤ length (marks_t (tree_by p found))
  access-last = omega (arith, access-allowed.high, ap (λ (part : Part Tree). length (marks_of trees part)) access-open.part)

  module _ (place : Found) (answer : FoundOf p found c.number place) where
    pub depth-fits : place.blocks < 256
    depth-fits = omega (arith, answer.depth, depth-height c.number (tree_by p found), access-open.high)

    pub access-answers : ◌≡◌ {A = Answer} (record { status = 0; name = c.name; symbol = place.mark; depth = place.blocks; value = 0 }) (answer_of p c)
    unfolding rows
    access-answers =
        sym
        (open-answer p c found a access-open access_code is
        ∙ rw (answer.mark, answer.depth))

-- Rank.
module _ (p : List ℕ) (c : Command) (found : Record) (a : Accepted p c found) (is : c.code ≡ rank_code) where
  rank-allowed : RankAccepted trees (part_of (meaning p) c.name) c
  rank-allowed = rank-accepted trees (unpromised (meaning p)) (part_of (meaning p) c.name) c is a.status

  rank-open : ToOpen p c found
  rank-open =
      accepted-open p c a.sound a.status (λ (e : c.code ≡ unpromised_code). omega arith) rank-allowed.is_open_lem found a.read

  pub rank-record : OfOpenName p found
  rank-record = rank-open.asked

  pub rank-symbol : c.symbol < most_alphabet
  rank-symbol = omega (arith, rank-allowed.symbol, ap alphabet_of rank-open.part, rank-open.most)

  pub rank-last : c.number ≤ length (marks_t (tree_by p found))
  rank-last = omega (arith, rank-allowed.high, ap (λ (part : Part Tree). length (marks_of trees part)) rank-open.part)

  module _ (r : ℕ) (ranked : r ≡ rank c.symbol (marks_t (tree_by p found)) c.number) where
    pub rank-fits : r < 2 ^ 32
    rank-fits = omega (arith, ranked, rank-le-place c.symbol (marks_t (tree_by p found)) c.number, rank-last, rank-open.few)

    pub rank-answers : (answer : Answer) → answer ≡ value_to c r → answer ≡ answer_of p c
    unfolding rows
    rank-answers answer told =
        told
        ∙ ap (value_to c) ranked
        ∙ sym
        (open-answer p c found a rank-open rank_code is)

-- Select.
module _ (p : List ℕ) (c : Command) (found : Record) (a : Accepted p c found) (is : c.code ≡ select_code) where
  select-allowed : SelectAccepted trees (part_of (meaning p) c.name) c
  select-allowed = select-accepted trees (unpromised (meaning p)) (part_of (meaning p) c.name) c is a.status

  select-open : ToOpen p c found
  select-open =
      accepted-open p c a.sound a.status (λ (e : c.code ≡ unpromised_code). omega arith) select-allowed.is_open_lem found a.read

  pub select-record : OfOpenName p found
  select-record = select-open.asked

  pub select-symbol : c.symbol < most_alphabet
  select-symbol = omega (arith, select-allowed.symbol, ap alphabet_of select-open.part, select-open.most)

  pub select-first : 1 ≤ c.number
  select-first = select-allowed.low

  pub select-last : c.number ≤ count c.symbol (marks_t (tree_by p found))
  select-last = omega (arith, select-allowed.high, ap (λ (part : Part Tree). count c.symbol (marks_of trees part)) select-open.part)

  module _ (r : ℕ) (selected : r ≡ select c.symbol (marks_t (tree_by p found)) c.number) where
    pub select-fits : r < 2 ^ 32
    select-fits = omega (arith, selected, select-le-length c.symbol (marks_t (tree_by p found)) c.number, select-open.few)

    pub select-answers : (answer : Answer) → answer ≡ value_to c r → answer ≡ answer_of p c
    unfolding rows
    select-answers answer told =
        told
        ∙ ap (value_to c) selected
        ∙ sym
        (open-answer p c found a select-open select_code is)

-- Length, the last code that names a name.
module _ (p : List ℕ) (c : Command) (found : Record) (accept : Accepted p c found) where
  length-is : c.code ≡ length_code → (answer : Answer) → answer ≡ value_to c found.length → answer ≡ answer_of p c
  unfolding rows
  length-is is answer told =
      let named : ToOpen p c found =
      accepted-open p c accept.sound accept.status (λ (e : c.code ≡ unpromised_code). omega arith)
      (length-accepted trees (unpromised (meaning p)) (part_of (meaning p) c.name) c is accept.status) found accept.read in
      told
      ∙ ap (value_to c) named.long
      ∙ sym
      (open-answer p c found accept named length_code is)

  pub length-answers : (op : Operation) → code_of op ≡ c.code → access_code ≤ c.code → (c.code ≡ unpromised_code → ⊥) → (op ≡ Access → ⊥)
      → (op ≡ Rank → ⊥)
      → (op ≡ Select → ⊥)
      → (n : ℕ) → n ≡ found.length
      → (answer : Answer) → answer ≡ value_to c n
      → answer ≡ answer_of p c
  length-answers Open code late named a r s = absurd (omega (arith, late, code))
  length-answers Close code late named a r s = absurd (omega (arith, late, code))
  length-answers Insert code late named a r s = absurd (omega (arith, late, code))
  length-answers Delete code late named a r s = absurd (omega (arith, late, code))
  length-answers Access code late named a r s = absurd (a refl)
  length-answers Rank code late named a r s = absurd (r refl)
  length-answers Select code late named a r s = absurd (s refl)
  length-answers Length code late named a r s = λ n n-is answer told. length-is (sym code) answer (told ∙ ap (value_to c) n-is)
  length-answers Unpromised code late named a r s = absurd (named (sym code))

-- Unpromised shares.
module _ (p : List ℕ) (c : Command) (sound : Sound p) (formed : WellFormed c) (is : c.code ≡ unpromised_code) where
  pub unpromised-answers : (free : ℕ) (answer : Answer) → free ≡ unpromised_shares p → answer ≡ value_to c free → answer ≡ answer_of p c
  unfolding rows
  unpromised-answers free answer read told =
      let status : status_in p c ≡ 0 = sym (unpromised-passes p c formed is) in
      told
      ∙ ap (value_to c) (read ∙ sym (unpromised-meaning p sound))
      ∙ sym (accepted-answer p c sound status ∙ ap (accepted c) (coded-effect _ _ c unpromised_code is))
