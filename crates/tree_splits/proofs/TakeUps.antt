-- A branch takes up what an insert made of a child: an entry that says one mark more, or two entries written with the summaries of the pieces.
use mathlib.Core.Path.{◌≡◌, refl, sym, ap, ap₂, ◌∙◌}
use mathlib.Core.List.{List, [], ◌∷◌, ◌++◌}
use mathlib.Core.Logic.{⊎_elim}
use Prim.Native.Nat.{ℕ, zero, suc, ◌+◌, ◌<◌}
use native.Mathlib.Numerals.{add-one}
use native.Mathlib.Omega.{arith}
use lib.ListN.{length, take, drop, length-take}
use Rattle.std.specs.Prelude.{Option, None, Some}
use Rattle.geometry.specs.Layout.{most_branch}
use Rattle.geometry.specs.Limits.{most_alphabet}
use Rattle.sequence.proofs.Counts.{is_mark-same, is_mark-other, is_mark-cases, count-le-length}
use Rattle.sequence.specs.Definition1.{is_mark, count}
use Rattle.shape.specs.Level.{chop}
use Rattle.shape.specs.Nested.{flat, marks_in}
use Rattle.pool.proofs.Summaries.{own-marks, own-count}
use Rattle.pool.specs.Blocks.{entries, marks_below, count_below}
use Rattle.pool.specs.Bytes.{shares}
use Rattle.pool.specs.Trees.{shape_at}
use Rattle.pool.specs.Words.{word_limit}
use Rattle.pool.proofs.Changes.{only_then, only_wider}
use Rattle.pool_entries.proofs.Entries.{entries-kept, form-kept, only-entry}
use Rattle.pool_blocks.proofs.Branches.{entry-link, entry-below, entry-count, entry-written, entries-length}
use Rattle.pool_blocks.specs.Contents.{link_in, entry_bytes, entry_list}
use Rattle.pool_entries.proofs.Summaries.{small-sums}
use Rattle.pool_entries.specs.Entries.{PutEntry, AddMark}
use Rattle.pool_entries.specs.Summaries.{SummaryOf, SmallSums}
use Rattle.pool_entries.specs.declared.Summary.{Summary}
use Rattle.pool_holders.proofs.Maps.{fits_after}
use Rattle.tree_splits.specs.Entries.{put_at, EntryHolds, TrueEntry, SoundChild}
use Rattle.tree_splits.specs.Grafts.{GraftReady, Regrouped, Grafted, TakeUpReady, SplitReady, TakenUp}
use Rattle.tree_splits.proofs.EntryPuts.{entry-holds}
use Rattle.tree_splits.proofs.Grafts.{kept-regrouped}

-- an entry behind the one in the middle
put_at-behind : {A : Type 0} (xs : List A) (y z : A) (ys : List A) (k : ℕ) → length xs ≡ k → put_at (suc k) z (xs ++ y ∷ ys) ≡ xs ++ y ∷ z ∷ ys
put_at-behind [] y z ys zero e = refl
put_at-behind [] y z ys (suc k) e = absurd (omega arith)
put_at-behind (x ∷ xs) y z ys zero e = absurd (omega arith)
put_at-behind (x ∷ xs) y z ys (suc k) e = ap (λ l. x ∷ l) (put_at-behind xs y z ys k (omega arith))

-- what is written with a sound block's summary is true
pub holds-true : (p : List ℕ) (h child : ℕ) (summary : Summary) (e : List ℕ) → EntryHolds child summary e → SummaryOf p h child summary → SoundChild p h child → TrueEntry p h e
holds-true p h child summary e holds of sound =
    record {
      marks = rw holds.link (holds.marks ∙ of.marks ∙ own-marks p most_alphabet _ h child sound.0 sound.1);
      counts = λ c inside. rw holds.link (holds.counts c inside ∙ of.counts c inside ∙ own-count p most_alphabet h child c inside sound.1);
    }

-- what a sound block says of its marks fits words if they are few enough
pub sums-small : (p : List ℕ) (h child : ℕ) → SoundChild p h child → marks_in h (shape_at p h child) < word_limit → SmallSums p h child
sums-small p h child sound few =
    small-sums p h child (flat h (shape_at p h child)) (own-marks p most_alphabet _ h child sound.0 sound.1) (λ c inside. own-count p most_alphabet h child c inside sound.1) few

-- the child stays whole: an entry adjusted by a mark
module _ (p m : List ℕ) (h b k child c holder : ℕ) (ready : TakeUpReady p m h b k child c holder None) where
  place-low : k < most_branch
  place-low = omega (arith, ready.place, ready.branch.fits)

  one-marks : marks_in h (shape_at p h child) ≡ marks_below p b k + 1
  one-marks = omega (arith, ready.marks)

  one-counts : (d : ℕ) → d < most_alphabet → count d (flat h (shape_at p h child)) ≡ count_below p b k d + is_mark d c
  one-counts d inside = omega (arith, ready.counts d inside)

  pub add-ready : ((b < shares p) × (k < most_branch) × (c < most_alphabet)) × ((marks_below p b k + 1 < word_limit) × (count_below p b k c + 1 < word_limit))
  add-ready = (
    (ready.branch.inside, place-low, ready.symbol),
    (ready.short, omega (arith, ready.short, one-marks, one-counts c ready.symbol, is_mark-same c c refl, count-le-length c (flat h (shape_at p h child)))),
  )

  pub taken-up-one : (q : List ℕ) → AddMark b k c p q → TakenUp h b k child holder None None p q m m
  taken-up-one q put =
      let es : List (List ℕ) = entry_list p b in
      let e : List ℕ = entry_bytes q b k in
      let links : link_in e ≡ child = entry-link q b k ∙ put.link ∙ ready.link in
      let list : entry_list q b ≡ take k es ++ e ∷ drop (suc k) es = entry-written p q b k ready.branch ready.place put.same in
      record {
        fresh = e ∷ [];
        links = ap (λ (x : ℕ). x ∷ []) links;
        true = (
          record {
            marks = rw links (entry-below q b k ∙ put.marks ∙ sym one-marks);
            counts = λ d inside.
                rw links
                (entry-count q b k d inside
                ∙ ⊎_elim
                (λ w. rw w.0 (put.count ∙ omega (arith, one-counts c ready.symbol, is_mark-same c c refl)))
                (λ w. put.others d inside w.0 ∙ omega (arith, one-counts d inside, is_mark-other d c (λ s. w.0 (sym s))))
                (is_mark-cases c d));
          },
          tt,
        );
        regrouped =
            kept-regrouped b holder (take k es ++ (e ∷ drop (suc k) es)) p q m ready.branch (only-entry b k put.same place-low)
            (form-kept b k put.same place-low ∙ ready.form) list
            (omega (arith, ap length list, entries-length q b, entries-kept b k put.same place-low, ready.branch.fits));
      }

-- the child was split: two entries written
module _ (p m : List ℕ) (h b k child new holder : ℕ) (split : SplitReady p m h b k child new holder) where
  two-sound : SoundChild p h child × SoundChild p h new
  two-sound = (split.ready.sound.0, split.ready.sound.1.0)

  low : k < most_branch
  low = omega (arith, split.ready.place, split.ready.branch.fits)

  two-marks : marks_in h (shape_at p h child) + marks_in h (shape_at p h new) ≡ marks_below p b k + 1
  two-marks = omega (arith, split.ready.marks)

  pub child-small : SmallSums p h child
  child-small = sums-small p h child two-sound.0 (omega (arith, two-marks, split.ready.short))

  pub new-small : SmallSums p h new
  new-small = sums-small p h new two-sound.1 (omega (arith, two-marks, split.ready.short))

  module _ (left : Summary) (q : List ℕ) (put : PutEntry b k child left p q) where
    many : entries q b ≡ entries p b
    many = entries-kept b k put.same low

    pub graft-ready : GraftReady q m b (k + 1) new holder
    graft-ready =
        record {
          map = fits_after p q m m put.same.long refl split.ready.map;
          named = split.ready.named;
          branch = record { inside = omega (arith, split.ready.branch.inside, put.same.long); fits = omega (arith, many, split.ready.branch.fits) };
          form = form-kept b k put.same low ∙ split.ready.form;
          held = split.ready.held;
          place = omega (arith, many, split.ready.place);
          small = omega (arith, two-sound.1.0.inside, split.ready.map.longest);
          room = omega (arith, many, split.ready.room);
        }

    pub taken-up-two : (right : Summary) → SummaryOf p h child left → SummaryOf p h new right → (r : Option ℕ) (t n : List ℕ)
        → Grafted b (k + 1) new holder right r q t m n → TakenUp h b k child holder (Some new) r p t m n
    taken-up-two right left_of right_of r t n grafted =
        let es : List (List ℕ) = entry_list p b in
        let e : List ℕ = entry_bytes q b k in
        let holds : EntryHolds child left e = entry-holds b k child left p q put in
        let list : entry_list q b ≡ take k es ++ e ∷ drop (suc k) es = entry-written p q b k split.ready.branch split.ready.place put.same in
        let front : length (take k es) ≡ k = omega (arith, length-take k es, entries-length p b, split.ready.place) in
        let all : put_at (k + 1) grafted.entry (entry_list q b) ≡ take k es ++ e ∷ grafted.entry ∷ drop (suc k) es =
        ap₂ (λ (j : ℕ) (xs : List (List ℕ)). put_at j grafted.entry xs) (add-one k) list ∙ put_at-behind (take k es) e grafted.entry (drop (suc k) es) k front in
        let old : Regrouped b holder r (put_at (k + 1) grafted.entry (entry_list q b)) q t m n = grafted.regrouped in
        record {
          fresh = e ∷ grafted.entry ∷ [];
          links = ap₂ (λ (x y : ℕ). x ∷ y ∷ []) holds.link grafted.holds.link;
          true = (
            holds-true p h child left e holds left_of two-sound.0,
            (holds-true p h new right grafted.entry grafted.holds right_of two-sound.1, tt),
          );
          regrouped =
              record {
                lists = old.lists ∙ ap (chop most_branch) all;
                inside = old.inside;
                forms = old.forms;
                only = only_then (only_wider _ (λ x s. omega (arith, is_mark-same x b (sym s))) (only-entry b k put.same low)) old.only;
                blocks = old.blocks;
                entered = old.entered;
                took = old.took;
              };
        }
