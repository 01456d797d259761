-- The steps of a frame. A refusal and a query leave the pool as it is, and so what it means. A change of one name changes that name's part
-- of the meaning, which the machine's effect is, and no other name's record or blocks.
use mathlib.Core.Bool.{true, true≢false}
use mathlib.Core.List.{List, [], ◌∷◌}
use mathlib.Core.Logic.{◌≢◌, ⊎_elim}
use mathlib.Core.Path.{◌≡◌, refl, sym, ap, ap₂, subst, ◌∙◌}
use Prim.Native.Nat.{ℕ, ◌+◌, ◌-◌, ◌*◌, ◌≤◌, ◌<◌}
use native.Mathlib.Omega.{arith}
use lib.ListN.{length, set}
use Rattle.geometry.specs.Limits.{names, marks_per_share}
use Rattle.geometry.specs.declared.Record.{Record}
use Rattle.machine.specs.Machine.{trees}
use Rattle.pool.proofs.Meaning.{part-meaning, unpromised-meaning, meaning-after}
use Rattle.pool.proofs.Untouched.{blocks-of-untouched}
use Rattle.name_open_close.specs.Updates.{NameIn, OpenReady, CloseReady, Updated}
use Rattle.pool.specs.Bytes.{shares}
use Rattle.pool.specs.Meaning.{meaning}
use Rattle.pool.specs.Names.{record_of, blocks_of}
use Rattle.pool.specs.Untouched.{SameBlocks}
use Rattle.protocol.proofs.Accepted.{InsertAccepted, PlaceAccepted, open-accepted, close-accepted, insert-accepted, delete-accepted}
use Rattle.protocol.proofs.Respond.{respond-status, refused-keeps-state, refused-answers-zeros, query-keeps-state}
use Rattle.protocol.specs.Commands.{
  Effect,
  open_code,
  close_code,
  insert_code,
  delete_code,
  access_code,
  unpromised_code,
  rows,
  edited,
}
use Rattle.protocol.specs.Respond.{accepted, value_to, refused, respond}
use Rattle.protocol.specs.Commands.{open_code, close_code, insert_code, delete_code, access_code, unpromised_code}
use Rattle.protocol.specs.Commands.{Effect, edited}
use Rattle.protocol.specs.Respond.{accepted, refused, respond}
use Rattle.protocol.specs.State.{Part, closed, opened, alphabet_of, shares_of, marks_of, part_of, unpromised}
use Rattle.protocol.specs.declared.Answer.{Answer}
use Rattle.protocol.specs.declared.Command.{Command}
use Rattle.protocol.specs.declared.numbers.Operation.{Operation}
use Rattle.protocol.specs.declared.numbers.Operation.TheVariants.{Open, Close, Insert, Delete, Access, Rank, Select, Length, Unpromised}
use Rattle.protocol.specs.declared.numbers.Reason.{Reason}
use Rattle.protocol.specs.Numbers.{code_of, number_of_reason}
use Rattle.protocol.proofs.Reasons.{numbers-from-one}
use Rattle.frame_queries.proofs.Effects.{
  ToOpen,
  effect_in,
  accepted-answer,
  accepted-part,
  accepted-low,
  accepted-closed,
  accepted-open,
  coded-effect,
}
use Rattle.frame_queries.specs.Accepted.{answer_of}
use Rattle.sequence.specs.Definition1.{access}
use Rattle.shape.specs.Sizes.{one_to_a_byte}
use Rattle.shape.specs.Trees.{Tree, empty_t, insert_t, delete_t}
use Rattle.frame_status.specs.declared.request.Request.{Request}
use Rattle.frame_status.specs.Statuses.{status_in}
use Rattle.name_edits.specs.Edits.{InsertAt, DeleteAt, InsertedAt, DeletedAt}
use Rattle.frame_execute.specs.Steps.{is_change, Kept, Stepped, Ready}

-- Nothing changes.
same_blocks : (p bs : List ℕ) → SameBlocks bs p p
same_blocks p [] = tt
same_blocks p (b ∷ bs) = (λ j low. refl, same_blocks p bs)

kept-itself : (name : ℕ) (p : List ℕ) → Kept name p p
kept-itself name p =
    record { bytes = record { long = refl; entry = λ j low. refl; held = same_blocks p (blocks_of p name) }; blocks = refl }

module _ (p m : List ℕ) (c : Command) (ready : Ready p m) where
  stays-itself : (a : Answer) → a ≡ answer_of p c → (respond trees (meaning p) c).state ≡ meaning p → Stepped p c a p m
  stays-itself a is same =
      record {
        step =
            record {
              answer = is;
              next = sym same;
              stays = λ why. refl;
              sound = ready.sound;
              long = refl;
              others = λ name low other. kept-itself name p;
            };
        map = ready.map;
      }

  pub refused-steps : (reason : Reason) → number_of_reason reason ≡ status_in p c → Stepped p c (refused (number_of_reason reason) c) p m
  refused-steps reason is =
      let given : (respond trees (meaning p) c).answer.status ≡ number_of_reason reason = respond-status trees (meaning p) c ∙ sym is in
      let refusal : (respond trees (meaning p) c).answer.status ≢ 0 = λ none. absurd (omega (arith, given, none, numbers-from-one reason)) in
      stays-itself (refused (number_of_reason reason) c)
      (ap (λ s. refused s c) (sym given) ∙ sym (refused-answers-zeros trees (meaning p) c refusal))
      (refused-keeps-state trees (meaning p) c refusal)

  pub asked-steps : (a : Answer) → a ≡ answer_of p c → access_code ≤ c.code → Stepped p c a p m
  asked-steps a is late = stays-itself a is (query-keeps-state trees (meaning p) c late)

  pub unpromised-steps : (request : Request) → request.command ≡ c → request.operation ≡ Unpromised → (a : Answer) → a ≡ answer_of p c
      → Stepped p c a p m
  unpromised-steps request same is a told =
      asked-steps a told (omega (arith, ap code_of is, request.coded, ap (λ (x : Command). x.code) same))

  -- what doesn't change the pool is a query
  pub late-code : (op : Operation) → code_of op ≡ c.code → (op ≡ Open → ⊥) → (op ≡ Close → ⊥) → (op ≡ Insert → ⊥) → (op ≡ Delete → ⊥)
      → access_code ≤ c.code
  late-code Open code o s i d = absurd (o refl)
  late-code Close code o s i d = absurd (s refl)
  late-code Insert code o s i d = absurd (i refl)
  late-code Delete code o s i d = absurd (d refl)
  late-code Access code o s i d = omega (arith, code)
  late-code Rank code o s i d = omega (arith, code)
  late-code Select code o s i d = omega (arith, code)
  late-code Length code o s i d = omega (arith, code)
  late-code Unpromised code o s i d = omega (arith, code)

-- One name changes.
module _ (p m : List ℕ) (c : Command) (ready : Ready p m) (status : status_in p c ≡ 0) where
  update-steps : (q n : List ℕ) (a : Answer) → c.name < names → is_change c.code ≡ true → a ≡ accepted c (effect_in p c)
      → Updated c.name (effect_in p c).part p q n
      → Stepped p c a q n
  unfolding respond
  update-steps q n a low changes is done =
      let told = accepted-answer p c ready.sound status in
      record {
        step =
            record {
              answer = is ∙ sym told;
              next =
                  meaning-after p q c.name low ready.sound done.long done.others
                  ∙ ap (λ (part : Part Tree). record { shares = shares p; parts = set (meaning p).parts c.name part })
                  (done.means ∙ sym (accepted-part p c ready.sound status));
              stays =
                  ⊎_elim
                  (λ (refusal : a.status ≢ 0). absurd (refusal (ap (λ (x : Answer). x.status) is)))
                  (λ query. absurd (true≢false (sym changes ∙ query)));
              sound = done.sound;
              long = done.long;
              others = λ name below other.
                  let kept = done.others name below other in
                  record { bytes = kept; blocks = blocks-of-untouched name p q kept (ready.sound.each name below) };
            };
        map = done.map;
      }

  within : c.name < names → NameIn p m c.name
  within low = record { sound = ready.sound; map = ready.map; low = low }

  -- an opening
  module _ (is : c.code ≡ open_code) where
    open-low : c.name < names
    open-low = accepted-low p c ready.sound status (λ (e : c.code ≡ unpromised_code). omega arith)

    pub open-ready : OpenReady p m c.name c.symbol c.number
    open-ready =
        let allowed = open-accepted trees (unpromised (meaning p)) (part_of (meaning p) c.name) c is status in
        record {
          within = within open-low;
          closed = accepted-closed p c ready.sound status open-low allowed.is-closed;
          least = allowed.least;
          most = allowed.most;
          some = allowed.some;
          room = omega (arith, allowed.unpromised, unpromised-meaning p ready.sound);
        }

    pub open-steps : (q n : List ℕ) (a : Answer) → Updated c.name (opened c.symbol c.number empty_t) p q n → a ≡ value_to c 0
        → Stepped p c a q n
    unfolding rows
    open-steps q n a done told =
        let effect = coded-effect (unpromised (meaning p)) (part_of (meaning p) c.name) c open_code is in
        update-steps q n a open-low (ap is_change is) (told ∙ sym (ap (accepted c) effect))
        (subst (λ (e : Effect Tree). Updated c.name e.part p q n) (sym effect) done)

  -- a closing
  module _ (is : c.code ≡ close_code) where
    close_open : ToOpen p c (record_of p c.name)
    close_open =
        accepted-open p c ready.sound status (λ (e : c.code ≡ unpromised_code). omega arith)
        (close-accepted trees (unpromised (meaning p)) (part_of (meaning p) c.name) c is status) (record_of p c.name) refl

    pub close-ready : CloseReady p m c.name
    close-ready = record { within = within close_open.low; opened = close_open.opened }

    pub close-steps : (q n : List ℕ) (a : Answer) → Updated c.name closed p q n → a ≡ value_to c 0 → Stepped p c a q n
    unfolding rows
    close-steps q n a done told =
        let effect = coded-effect (unpromised (meaning p)) (part_of (meaning p) c.name) c close_code is in
        update-steps q n a close_open.low (ap is_change is) (told ∙ sym (ap (accepted c) effect))
        (subst (λ (e : Effect Tree). Updated c.name e.part p q n) (sym effect) done)

  -- an insert
  module _ (is : c.code ≡ insert_code) where
    insert-allowed : InsertAccepted trees (part_of (meaning p) c.name) c
    insert-allowed = insert-accepted trees (unpromised (meaning p)) (part_of (meaning p) c.name) c is status

    insert-open : ToOpen p c (record_of p c.name)
    insert-open =
        accepted-open p c ready.sound status (λ (e : c.code ≡ unpromised_code). omega arith) insert-allowed.is_open_lem (record_of p c.name) refl

    pub insert-ready : InsertAt p m c.name c.number c.symbol
    insert-ready =
        let marks = ap (λ (part : Part Tree). length (marks_of trees part)) insert-open.part in
        let long = insert-open.opened.length in
        let full : length (marks_of trees (part_of (meaning p) c.name)) ≡ marks_per_share * shares_of (part_of (meaning p) c.name) → ⊥ = insert-allowed.not_full in
        record {
          within = within insert-open.low;
          opened = insert-open.opened;
          first = insert-allowed.low;
          last = omega (arith, insert-allowed.high, marks, long);
          symbol = omega (arith, insert-allowed.symbol, ap alphabet_of insert-open.part);
          room = omega (arith, full, marks, long, ap shares_of insert-open.part, insert-open.opened.entry.room);
        }

    pub insert-steps : (q n : List ℕ) (found : Record) (a : Answer) → found ≡ record_of p c.name → InsertedAt c.name c.number c.symbol p q n
        → a ≡ value_to c (found.length + 1)
        → Stepped p c a q n
    unfolding rows
    insert-steps q n found a read done told =
        let effect = coded-effect (unpromised (meaning p)) (part_of (meaning p) c.name) c insert_code is in
        let marks : found.length ≡ length (marks_of trees (part_of (meaning p) c.name))
        = ap (λ (r : Record). r.length) read
        ∙ insert-open.opened.length
        ∙ sym (ap (λ (part : Part Tree). length (marks_of trees part)) insert-open.part) in
        update-steps q n a insert-open.low (ap is_change is) (told ∙ ap (λ k. value_to c (k + 1)) marks ∙ sym (ap (accepted c) effect))
        (subst (λ (e : Effect Tree). Updated c.name e.part p q n) (sym effect)
        (subst (λ (part : Part Tree). Updated c.name (edited (insert_t one_to_a_byte c.symbol c.number) part) p q n)
        (sym (part-meaning p c.name insert-open.low))
        done))

  -- a delete
  module _ (is : c.code ≡ delete_code) where
    delete-allowed : PlaceAccepted trees (part_of (meaning p) c.name) c
    delete-allowed = delete-accepted trees (unpromised (meaning p)) (part_of (meaning p) c.name) c is status

    delete-open : ToOpen p c (record_of p c.name)
    delete-open =
        accepted-open p c ready.sound status (λ (e : c.code ≡ unpromised_code). omega arith) delete-allowed.is_open_lem (record_of p c.name) refl

    pub delete-ready : DeleteAt p m c.name c.number
    delete-ready =
        record {
          within = within delete-open.low;
          opened = delete-open.opened;
          first = delete-allowed.low;
          last =
              omega (
                arith,
                delete-allowed.high,
                ap (λ (part : Part Tree). length (marks_of trees part)) delete-open.part,
                delete-open.opened.length,
              );
        }

    module _ (found : Record) (read : found ≡ record_of p c.name) where
      pub delete-some : 1 ≤ found.length
      delete-some = omega (arith, ap (λ (r : Record). r.length) read, delete-ready.first, delete-ready.last)

      pub delete-steps : (q n : List ℕ) (mark : ℕ) → DeletedAt c.name c.number mark p q n
          → Stepped p c (record { status = 0; name = c.name; symbol = mark; depth = 0; value = found.length - 1 }) q n
      unfolding rows
      delete-steps q n mark done =
          let effect = coded-effect (unpromised (meaning p)) (part_of (meaning p) c.name) c delete_code is in
          let kept = ap (marks_of trees) delete-open.part in
          let marks : found.length ≡ length (marks_of trees (part_of (meaning p) c.name))
          = ap (λ (r : Record). r.length) read ∙ delete-open.opened.length ∙ sym (ap length kept) in
          let taken : mark ≡ access (marks_of trees (part_of (meaning p) c.name)) c.number
          = done.taken ∙ sym (ap (λ (xs : List ℕ). access xs c.number) kept) in
          update-steps q n _ delete-open.low (ap is_change is)
          (ap₂ {C = Answer} (λ x k. record { status = 0; name = c.name; symbol = x; depth = 0; value = k - 1 }) taken marks
          ∙ sym (ap (accepted c) effect))
          (subst (λ (e : Effect Tree). Updated c.name e.part p q n) (sym effect)
          (subst (λ (part : Part Tree). Updated c.name (edited (delete_t one_to_a_byte c.number) part) p q n)
          (sym (part-meaning p c.name delete-open.low))
          done.updated))
