-- Two neighbours mended in their parent. What the two became and the entries written for it, one or two, decide all the rest:
-- the other children's trees are as before, and so is what their entries say.
use mathlib.Core.Path.{◌≡◌, refl, sym, ap, ap₂, subst, ◌∙◌}
use mathlib.Core.List.{List, [], ◌++◌, map}
use mathlib.Core.Logic.{◌⊎◌, ⊎_elim}
use Prim.Native.Nat.{ℕ, zero, suc, ◌+◌, ◌-◌, ◌≤◌, ◌<◌}
use native.Mathlib.Omega.{arith}
use lib.ListN.{length, get_or, take, drop, length-append, length-map, length-take, length-drop}
use Rattle.geometry.specs.Layout.{form_marks}
use Rattle.lists.proofs.Cuts.{split-two}
use Rattle.lists.proofs.Items.{all_append, all_both}
use Rattle.lists.proofs.Joins.{joined-append, joined-map}
use Rattle.lists.proofs.Mapped.{all-unmapped, map-append, map-take, map-drop, map-twice}
use Rattle.lists.specs.Items.{All}
use Rattle.lists.specs.Joins.{joined}
use Rattle.sequence.proofs.Counts.{is_mark-same, count-additive}
use Rattle.sequence.specs.Definition1.{is_mark, count}
use Rattle.shape.proofs.Chop.{chop-one-or-two}
use Rattle.shape.specs.Level.{chop}
use Rattle.shape.specs.Nested.{Node}
use Rattle.shape.specs.Sizes.{one_to_a_byte, most}
use Rattle.pool.specs.Blocks.{form_of, entries, link}
use Rattle.pool.specs.Changes.{Only}
use Rattle.pool.specs.Trees.{shape_at, blocks_at}
use Rattle.pool.proofs.Changes.{only_wider, only-either}
use Rattle.pool_blocks.proofs.Branches.{entry-link, entry-at, entries-length}
use Rattle.pool_blocks.specs.Contents.{link_in, entry_list}
use Rattle.pool_holders.specs.Maps.{is_free, Freed}
use Rattle.tree_splits.specs.Entries.{TrueEntry, SoundChild}
use Rattle.tree_splits.proofs.GoodEntries.{GoodEntry, shape_in, blocks_in, good-below, shape-entries, blocks-entries}
use Rattle.tree_delete.specs.Mends.{TwoNodes, NodesMended, PairReady, pair_shape, PairMended}
use Rattle.tree_delete.proofs.KeptTrees.{all-good, kept-entries}

-- a block is the first of its tree
pub own_block : (p : List ℕ) (h b : ℕ) → 1 ≤ count b (blocks_at p h b)
unfolding count
own_block p zero b = omega (arith, is_mark-same b b refl)
own_block p (suc h) b = omega (arith, is_mark-same b b refl)

module _ (p m : List ℕ) (h b k : ℕ) (ready : PairReady p m h b k) where
  abbrev pub left_block : ℕ
  left_block = link p b k

  abbrev pub right_block : ℕ
  right_block = link p b (k + 1)

  abbrev front : List (List ℕ)
  front = take k (entry_list p b)

  abbrev back : List (List ℕ)
  back = drop (suc (suc k)) (entry_list p b)

  abbrev under : ℕ → List (List ℕ) → ℕ
  under x es = count x (joined (blocks_in p h) es)

  place : suc k < entries p b
  place = omega (arith, ready.place)

  -- the branch's blocks: its own, and those below each entry
  pub all_blocks : (x : ℕ) → count x (blocks_at p (suc h) b) ≡ is_mark x b + (under x front + (count x (blocks_at p h left_block) + (count x (blocks_at p h right_block) + under x back)))
  unfolding count
  all_blocks x =
      let es : List (List ℕ) = entry_list p b in
      let e : suc k ≡ k + 1 = omega arith in
      let first : blocks_in p h (get_or es k []) ≡ blocks_at p h left_block =
      ap (blocks_at p h) (ap link_in (entry-at p b k (omega (arith, place))) ∙ entry-link p b k) in
      let second : blocks_in p h (get_or es (suc k) []) ≡ blocks_at p h right_block =
      ap (blocks_at p h) (ap link_in (entry-at p b (suc k) place) ∙ entry-link p b (suc k) ∙ ap (link p b) e) in
      let parts : joined (blocks_in p h) es ≡ joined (blocks_in p h) front ++ (blocks_at p h left_block ++ (blocks_at p h right_block ++ joined (blocks_in p h) back)) =
      ap (joined (blocks_in p h)) (split-two [] es k (omega (arith, entries-length p b, place)))
      ∙ joined-append (blocks_in p h) front _
      ∙ ap₂ (λ (u v : List ℕ). joined (blocks_in p h) front ++ (u ++ (v ++ joined (blocks_in p h) back))) first second in
      omega (
        arith,
        ap (count x) (blocks-entries p h b),
        ap (count x) parts,
        count-additive x (joined (blocks_in p h) front) (blocks_at p h left_block ++ (blocks_at p h right_block ++ joined (blocks_in p h) back)),
        count-additive x (blocks_at p h left_block) (blocks_at p h right_block ++ joined (blocks_in p h) back),
        count-additive x (blocks_at p h right_block) (joined (blocks_in p h) back),
      )

  pub pair-nodes : TwoNodes p h left_block right_block
  pair-nodes = record { first = ready.left; second = ready.right; apart = λ x. omega (arith, ready.agrees x, all_blocks x); enough = ready.enough }

  pub right-held : is_free m right_block ≡ 0
  right-held = omega (arith, ready.agrees right_block, all_blocks right_block, own_block p h right_block)

  -- the two became these, q is the pool then; entries were written for them, r is the pool then
  module _ (roots gone : List ℕ) (q r n : List ℕ) (mended : NodesMended h left_block right_block roots gone p q)
      (fresh : List (List ℕ)) (links : map link_in fresh ≡ roots) (true : All (TrueEntry q h) fresh)
      (only : Only (λ x. x ≡ b) q r) (form : form_of r b ≡ form_of q b) (list : entry_list r b ≡ front ++ (fresh ++ back))
      (free : (x : ℕ) → is_free n x ≡ is_free m x + count x gone) (freed : Freed m n) where
    fresh-blocks : (es : List (List ℕ)) (f : ℕ → List ℕ) → joined (λ e. f (link_in e)) es ≡ joined f (map link_in es)
    fresh-blocks es f = sym (joined-map f link_in es)

    fresh-good : All (GoodEntry q h) fresh
    fresh-good =
        all_both (λ e. SoundChild q h (link_in e)) (TrueEntry q h) (GoodEntry q h) (λ e s t. record { sound = s; true = t }) fresh
        (all-unmapped link_in (SoundChild q h) fresh (subst (All (SoundChild q h)) (sym links) mended.sound)) true

    fresh-under : (x : ℕ) → count x (joined (blocks_in q h) fresh) + count x gone ≡ count x (blocks_at p h left_block) + count x (blocks_at p h right_block)
    fresh-under x =
        ap (λ (bs : List ℕ). count x bs + count x gone) (fresh-blocks fresh (blocks_at q h) ∙ ap (joined (blocks_at q h)) links) ∙ mended.blocks x

    fresh-apart : (x : ℕ) → 1 ≤ count x (joined (blocks_in q h) fresh) → x ≡ b → ⊥
    fresh-apart x among e = omega (arith, fresh-under x, ready.agrees x, all_blocks x, is_mark-same x b (sym e))

    -- all that changed
    abbrev Changed : ℕ → Type 0
    Changed x = ((x ≡ left_block) ⊎ (x ≡ right_block)) ⊎ (x ≡ b)

    changed : Only Changed p r
    changed = only-either mended.only only

    changed-among : (x : ℕ) → Changed x → 1 ≤ is_mark x b + (count x (blocks_at p h left_block) + count x (blocks_at p h right_block))
    changed-among x w =
        ⊎_elim
        (λ v.
        ⊎_elim (λ e. rw e (omega (arith, own_block p h left_block)))
        (λ e. rw e (omega (arith, own_block p h right_block))) v)
        (λ e. omega (arith, is_mark-same x b (sym e))) w

    front-apart : (x : ℕ) → 1 ≤ count x (joined (blocks_in p h) front) → Changed x → ⊥
    front-apart x among w = omega (arith, changed-among x w, ready.agrees x, all_blocks x)

    back-apart : (x : ℕ) → 1 ≤ count x (joined (blocks_in p h) back) → Changed x → ⊥
    back-apart x among w = omega (arith, changed-among x w, ready.agrees x, all_blocks x)

    front-good : All (GoodEntry p h) front
    front-good = all-good p h front ready.before

    back-good : All (GoodEntry p h) back
    back-good = all-good p h back ready.behind

    mended-good : All (GoodEntry r h) (entry_list r b)
    mended-good =
        rw list
        (all_append (GoodEntry r h) front (fresh ++ back) (kept-entries p r changed h front front-good front-apart).good
        (all_append (GoodEntry r h) fresh back (kept-entries q r only h fresh fresh-good fresh-apart).good (kept-entries p r changed h back back-good back-apart).good))

    mended-shape : shape_at r (suc h) b ≡ pair_shape p h b k
    mended-shape =
        shape-entries r h b
        ∙ ap (map (shape_in r h)) list
        ∙ map-append (shape_in r h) front (fresh ++ back)
        ∙ ap₂ (λ (u v : Node (suc h)). u ++ v)
        ((kept-entries p r changed h front front-good front-apart).shapes ∙ map-take (shape_in p h) k (entry_list p b) ∙ ap (take k) (sym (shape-entries p h b)))
        (map-append (shape_in r h) fresh back
        ∙ ap₂ (λ (u v : Node (suc h)). u ++ v)
        ((kept-entries q r only h fresh fresh-good fresh-apart).shapes ∙ sym (map-twice (shape_at q h) link_in fresh) ∙ ap (map (shape_at q h)) links ∙ mended.shapes)
        ((kept-entries p r changed h back back-good back-apart).shapes ∙ map-drop (shape_in p h) (suc (suc k)) (entry_list p b) ∙ ap (drop (suc (suc k))) (sym (shape-entries p h b))))

    mended-blocks : (x : ℕ) → count x (blocks_at r (suc h) b) + is_free n x ≡ count x (blocks_at p (suc h) b) + is_free m x
    unfolding count
    mended-blocks x =
        let parts : joined (blocks_in r h) (entry_list r b) ≡ joined (blocks_in p h) front ++ (joined (blocks_in q h) fresh ++ joined (blocks_in p h) back) =
        ap (joined (blocks_in r h)) list
        ∙ joined-append (blocks_in r h) front (fresh ++ back)
        ∙ ap₂ (λ (u v : List ℕ). u ++ v) (kept-entries p r changed h front front-good front-apart).blocks
        (joined-append (blocks_in r h) fresh back
        ∙ ap₂ (λ (u v : List ℕ). u ++ v) (kept-entries q r only h fresh fresh-good fresh-apart).blocks (kept-entries p r changed h back back-good back-apart).blocks) in
        omega (
          arith,
          ap (count x) (blocks-entries r h b),
          ap (count x) parts,
          count-additive x (joined (blocks_in p h) front) (joined (blocks_in q h) fresh ++ joined (blocks_in p h) back),
          count-additive x (joined (blocks_in q h) fresh) (joined (blocks_in p h) back),
          fresh-under x,
          all_blocks x,
          free x,
        )

    -- how many entries there are
    fresh-many : length fresh ≡ length (chop (most one_to_a_byte h) (shape_at p h left_block ++ shape_at p h right_block))
    fresh-many = omega (arith, length-map fresh link_in, ap length links, length-map roots (shape_at q h), ap length mended.shapes)

    mended-many : entries r b ≡ k + (length fresh + (entries p b - suc (suc k)))
    mended-many =
        omega (
          arith,
          entries-length r b,
          ap length list,
          length-append front (fresh ++ back),
          length-append fresh back,
          length-take k (entry_list p b),
          length-drop (suc (suc k)) (entry_list p b),
          entries-length p b,
          place,
        )

    pub pair-mended : form_of q b ≡ form_marks → PairMended h b k p r m n
    pair-mended marks =
        let long : length r ≡ length p = changed.long in
        let few = chop-one-or-two (most one_to_a_byte h) (shape_at p h left_block ++ shape_at p h right_block) in
        record {
          shape = mended-shape;
          block =
              record {
                inside = omega (arith, ready.block.inside, long);
                form = form ∙ marks;
                enough = omega (arith, mended-many, fresh-many, few, place);
                fits = omega (arith, mended-many, fresh-many, few, place, ready.block.fits);
              };
          below = good-below r h b mended-good;
          blocks = mended-blocks;
          only = only_wider _ (λ x w. omega (arith, changed-among x w, all_blocks x)) changed;
          freed = freed;
        }
