-- The status of a command by the tests that the code makes: one law for each way out.
use mathlib.Core.Bool.{Bool, true, false, cond, not, ◌&&◌, ◌||◌}
use mathlib.Core.List.{List}
use mathlib.Core.Logic.{◌⊎◌, ◌≢◌, ⊎_elim}
use mathlib.Core.Path.{◌≡◌, refl, sym, ap, ◌∙◌}
use Prim.Native.Nat.{ℕ, ◌+◌, ◌*◌, ◌≤◌, ◌<◌}
use native.Mathlib.Omega.{arith}
use borrow.Author.Tests.{eq-eqb, ne_eqb, le-leb, lt-leb, lt-ltb, le-ltb}
use lib.Dec.{eqb, leb, ltb}
use lib.ListN.{length}
use Rattle.geometry.specs.Layout.{kind_closed}
use Rattle.geometry.specs.Limits.{names, least_alphabet, most_alphabet, marks_per_share}
use Rattle.geometry.specs.declared.Record.{Record}
use Rattle.pool.specs.Meaning.{meaning}
use Rattle.pool.specs.Meaning.{meaning}
use Rattle.pool.specs.Shares.{unpromised_shares}
use Rattle.pool.specs.Sound.{OpenName}
use Rattle.protocol.specs.Commands.{open_code, insert_code, delete_code, access_code, rank_code, select_code, unpromised_code}
use Rattle.protocol.specs.State.{Part, closed, opened, part_of, unpromised}
use Rattle.protocol.specs.declared.Command.{Command}
use Rattle.protocol.specs.Numbers.{code_of}
use Rattle.protocol.specs.declared.numbers.Operation.{Operation}
use Rattle.protocol.specs.declared.numbers.Operation.TheVariants.{Open, Close, Insert, Delete, Access, Rank, Select, Length, Unpromised}
use Rattle.sequence.specs.Definition1.{count}
use Rattle.shape.specs.Trees.{Tree, marks_t}
use Rattle.tree_query.proofs.Records.{open-by-kind, open-record, record-length}
use Rattle.tree_query.specs.Records.{OfOpenName, tree_by}
use Rattle.frame_status.specs.Statuses.{status_in, WellFormed, Naming, Asking, StatusBy}
use Rattle.pool.proofs.Meaning.{unpromised-meaning}
use Rattle.frame_status.specs.Statuses.{status_in, WellFormed, Naming, Asking}
use Rattle.frame_status.proofs.Codes.{code-of-open}
use Rattle.frame_status.proofs.Forms.{later_status, later-tests, name_below}
use Rattle.frame_status.proofs.Parts.{closed-by-kind, closed-part, opened-part}
use Rattle.frame_status.proofs.Tests.{
  later-unpromised,
  already-open,
  opening-tests,
  not-open,
  insert-tests,
  delete-tests,
  access-tests,
  rank-tests,
  select-tests,
  close-tests,
  length-tests,
}

-- the later tests of a well-formed command, with its name's part at hand
by_part : (p : List ℕ) (c : Command) (part : Part Tree) → WellFormed c → part_of (meaning p) c.name ≡ part
    → status_in p c ≡ later_status (unpromised (meaning p)) part c
by_part p c part formed is =
    later-tests _ _ c formed ∙ ap (λ (x : Part Tree). later_status (unpromised (meaning p)) x c) is

module _ (p : List ℕ) (c : Command) where
  pub unpromised-passes : WellFormed c → c.code ≡ unpromised_code → 0 ≡ status_in p c
  unpromised-passes formed is = sym (later-tests _ _ c formed ∙ later-unpromised _ _ c is)

-- A command that names a name.
module _ (p : List ℕ) (c : Command) (found : Record) (n : Naming p c found) where
  naming-low : c.name < names
  naming-low = name_below c n.formed n.named

  naming-open : (found.kind ≡ kind_closed → ⊥) → OpenName p c.name
  naming-open = open-by-kind p c.name found n.sound naming-low n.read

  -- its later tests where the name is closed
  naming-closed-part : found.kind ≡ kind_closed → status_in p c ≡ later_status (unpromised (meaning p)) closed c
  naming-closed-part is =
      by_part p c closed n.formed
      (closed-part p c.name n.sound naming-low (closed-by-kind p c.name n.sound naming-low found n.read is))

  -- an opening
  module _ (code : c.code ≡ open_code) where
    pub opening-opened : (found.kind ≡ kind_closed → ⊥) → 4 ≡ status_in p c
    opening-opened other =
        sym
        (by_part p c _ n.formed (opened-part p c.name n.sound naming-low (naming-open other)) ∙ already-open _ _ _ _ c code)

    module _ (is : found.kind ≡ kind_closed) where
      opening-closed : status_in p c
          ≡ cond (not (leb least_alphabet c.symbol && leb c.symbol most_alphabet)) 6
          (cond (eqb c.number 0) 7 (cond (ltb (unpromised_shares p) c.number) 12 0))
      opening-closed = naming-closed-part is ∙ opening-tests _ c code ∙ rw (unpromised-meaning p n.sound)

      module _ (size : Bool) (says : size ≡ (leb least_alphabet c.symbol && leb c.symbol most_alphabet)) where
        opening-sized : status_in p c ≡ cond (not size) 6 (cond (eqb c.number 0) 7 (cond (ltb (unpromised_shares p) c.number) 12 0))
        opening-sized = opening-closed ∙ rw says

        pub opening-alphabet : size ≡ false → 6 ≡ status_in p c
        opening-alphabet fails = sym (opening-sized ∙ rw fails)

        module _ (holds : size ≡ true) where
          pub opening-no-shares : c.number ≡ 0 → 7 ≡ status_in p c
          opening-no-shares none = sym (opening-sized ∙ rw (holds, eq-eqb c.number 0 none))

          module _ (free : ℕ) (some : c.number ≡ 0 → ⊥) (told : free ≡ unpromised_shares p) where
            opening-shares : status_in p c ≡ cond (ltb free c.number) 12 0
            opening-shares = opening-sized ∙ rw (holds, ne_eqb c.number 0 some, told)

            pub opening-exceeds : free < c.number → 12 ≡ status_in p c
            opening-exceeds more = sym (opening-shares ∙ rw (lt-ltb free c.number more))

            pub opening-passes : c.number ≤ free → 0 ≡ status_in p c
            opening-passes enough = sym (opening-shares ∙ rw (le-ltb free c.number enough))

  -- a command to a name that must be open
  module _ (other : c.code ≢ open_code) where
    pub naming-closed : (op : Operation) → code_of op ≡ c.code → found.kind ≡ kind_closed → 5 ≡ status_in p c
    naming-closed op code is =
        let within = code-of-open op c.code code other n.named in
        sym (naming-closed-part is ∙ not-open _ c within.0 within.1)

    -- where the name is open, a closing and a length have no test
    module _ (is : found.kind ≡ kind_closed → ⊥) where
      untested : ((free a q : ℕ) (t : Tree) → later_status free (opened a q t) c ≡ 0) → 0 ≡ status_in p c
      untested none = sym (by_part p c _ n.formed (opened-part p c.name n.sound naming-low (naming-open is)) ∙ none _ _ _ _)

      pub naming-passes : (op : Operation) → code_of op ≡ c.code → (op ≡ Insert → ⊥) → (op ≡ Delete → ⊥) → (op ≡ Access → ⊥)
          → (op ≡ Rank → ⊥)
          → (op ≡ Select → ⊥)
          → 0 ≡ status_in p c
      naming-passes Open code i d a r s = absurd (other (sym code))
      naming-passes Close code i d a r s = untested (λ free b q t. close-tests free b q t c (sym code))
      naming-passes Insert code i d a r s = absurd (i refl)
      naming-passes Delete code i d a r s = absurd (d refl)
      naming-passes Access code i d a r s = absurd (a refl)
      naming-passes Rank code i d a r s = absurd (r refl)
      naming-passes Select code i d a r s = absurd (s refl)
      naming-passes Length code i d a r s = untested (λ free b q t. length-tests free b q t c (sym code))
      naming-passes Unpromised code i d a r s = absurd (n.named (sym code))

  module _ (is : found.kind ≡ kind_closed → ⊥) where
    pub naming-asks : Asking p c found
    naming-asks = record { naming = n; opened = naming-open is }

    pub naming-status : (status : ℕ) → StatusBy c found status → status ≡ status_in p c
    naming-status status by = by p naming-asks

-- A command to an open name, by its record.
module _ (p : List ℕ) (c : Command) (found : Record) (k : Asking p c found) where
  asked-part : part_of (meaning p) c.name ≡ opened found.alphabet found.q (tree_by p found)
  asked-part = rw k.naming.read (opened-part p c.name k.naming.sound (naming-low p c found k.naming) k.opened)

  asked : status_in p c ≡ later_status (unpromised (meaning p)) (opened found.alphabet found.q (tree_by p found)) c
  asked = by_part p c _ k.naming.formed asked-part

  -- its tree can be asked
  pub asked-record : OfOpenName p found
  asked-record = open-record p c.name found k.opened k.naming.read

  long : length (marks_t (tree_by p found)) ≡ found.length
  long = sym (record-length p found asked-record)

  -- an insert
  module _ (code : c.code ≡ insert_code) where
    insert-is : status_in p c
        ≡ cond (leb found.alphabet c.symbol) 8
        (cond (not (leb 1 c.number && leb c.number (found.length + 1))) 9 (cond (eqb found.length (marks_per_share * found.q)) 11 0))
    insert-is = asked ∙ insert-tests _ _ _ _ c code ∙ rw long

    pub insert-symbol : found.alphabet ≤ c.symbol → 8 ≡ status_in p c
    insert-symbol outside = sym (insert-is ∙ rw (le-leb found.alphabet c.symbol outside))

    module _ (inside : c.symbol < found.alphabet) (n : ℕ) (n-is : n ≡ found.length) (yes : Bool)
        (says : yes ≡ (leb 1 c.number && leb c.number (n + 1))) where
      insert-placed : status_in p c ≡ cond (not yes) 9 (cond (eqb found.length (marks_per_share * found.q)) 11 0)
      insert-placed = insert-is ∙ rw (lt-leb found.alphabet c.symbol inside, says, n-is)

      pub insert-outside : yes ≡ false → 9 ≡ status_in p c
      insert-outside fails = sym (insert-placed ∙ rw fails)

      module _ (holds : yes ≡ true) (m q : ℕ) where
        insert-roomed : m ≡ found.length → q ≡ found.q → status_in p c ≡ cond (eqb m (marks_per_share * q)) 11 0
        insert-roomed m-is q-is = insert-placed ∙ rw (holds, m-is, q-is)

        pub insert-full : m ≡ marks_per_share * q → m ≡ found.length → q ≡ found.q → 11 ≡ status_in p c
        insert-full full m-is q-is = sym (insert-roomed m-is q-is ∙ rw (eq-eqb m (marks_per_share * q) full))

        pub insert-passes : (m ≡ marks_per_share * q → ⊥) → m ≡ found.length → q ≡ found.q → 0 ≡ status_in p c
        insert-passes room m-is q-is = sym (insert-roomed m-is q-is ∙ rw (ne_eqb m (marks_per_share * q) room))

  -- a delete and an access
  module _ (code : (c.code ≡ delete_code) ⊎ (c.code ≡ access_code)) where
    place_is : status_in p c ≡ cond (not (leb 1 c.number && leb c.number found.length)) 9 0
    place_is = asked ∙ ⊎_elim (λ d. delete-tests _ _ _ _ c d) (λ a. access-tests _ _ _ _ c a) code ∙ rw long

    module _ (n : ℕ) (n-is : n ≡ found.length) (yes : Bool) (says : yes ≡ (leb 1 c.number && leb c.number n)) where
      placed : status_in p c ≡ cond (not yes) 9 0
      placed = place_is ∙ rw (says, n-is)

      pub place-outside : yes ≡ false → 9 ≡ status_in p c
      place-outside fails = sym (placed ∙ rw fails)

      pub place-passes : yes ≡ true → 0 ≡ status_in p c
      place-passes holds = sym (placed ∙ rw holds)

  -- a rank
  module _ (code : c.code ≡ rank_code) where
    rank_is : status_in p c ≡ cond (leb found.alphabet c.symbol) 8 (cond (not (leb 0 c.number && leb c.number found.length)) 9 0)
    rank_is = asked ∙ rank-tests _ _ _ _ c code ∙ rw long

    pub rank-symbol : found.alphabet ≤ c.symbol → 8 ≡ status_in p c
    rank-symbol outside = sym (rank_is ∙ rw (le-leb found.alphabet c.symbol outside))

    module _ (inside : c.symbol < found.alphabet) (n : ℕ) (n-is : n ≡ found.length) where
      rank-placed : status_in p c ≡ cond (not (leb c.number n)) 9 0
      rank-placed = rank_is ∙ rw (lt-leb found.alphabet c.symbol inside, le-leb 0 c.number (omega arith), n-is)

      pub rank-outside : n < c.number → 9 ≡ status_in p c
      rank-outside past = sym (rank-placed ∙ rw (lt-leb c.number n past))

      pub rank-passes : c.number ≤ n → 0 ≡ status_in p c
      rank-passes within = sym (rank-placed ∙ rw (le-leb c.number n within))

  -- a select
  module _ (code : c.code ≡ select_code) where
    select-is : status_in p c
        ≡ cond (leb found.alphabet c.symbol) 8
        (cond (eqb c.number 0 || ltb (count c.symbol (marks_t (tree_by p found))) c.number) 10 0)
    select-is = asked ∙ select-tests _ _ _ _ c code

    pub select-symbol : found.alphabet ≤ c.symbol → 8 ≡ status_in p c
    select-symbol outside = sym (select-is ∙ rw (le-leb found.alphabet c.symbol outside))

    module _ (inside : c.symbol < found.alphabet) where
      -- its symbol can be counted
      pub select-counts : c.symbol < most_alphabet
      select-counts = omega (arith, k.opened.entry.alphabet_most, ap (λ (r : Record). r.alphabet) k.naming.read)

      pub select-zero : c.number ≡ 0 → 10 ≡ status_in p c
      select-zero zero =
          sym (select-is ∙ rw (lt-leb found.alphabet c.symbol inside, eq-eqb c.number 0 zero))

      module _ (many : ℕ) (counted : many ≡ count c.symbol (marks_t (tree_by p found))) (some : c.number ≡ 0 → ⊥) where
        select-counted : status_in p c ≡ cond (ltb many c.number) 10 0
        select-counted = select-is ∙ rw (lt-leb found.alphabet c.symbol inside, ne_eqb c.number 0 some, counted)

        pub select-past : many < c.number → 10 ≡ status_in p c
        select-past past = sym (select-counted ∙ rw (lt-ltb many c.number past))

        pub select-passes : c.number ≤ many → 0 ≡ status_in p c
        select-passes within = sym (select-counted ∙ rw (le-ltb many c.number within))
