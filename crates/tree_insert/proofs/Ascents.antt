-- One level up: an insert in the child that takes the place, and the branch taking up what it made of it, are the insert in the branch.
use mathlib.Core.Path.{◌≡◌, sym, ap, ap₂, subst, ◌∙◌}
use mathlib.Core.Bool.{cond}
use Rattle.std.specs.Prelude.{Option, None, Some}
use mathlib.Core.List.{List, [], ◌∷◌, ◌++◌, map}
use Prim.Native.Nat.{ℕ, suc, ◌+◌, ◌-◌, ◌≤◌, ◌<◌}
use native.Mathlib.Omega.{arith}
use lib.ListN.{length, get_or, take, drop, length-map, length-append, length-take, length-drop}
use lib.Seq.{split_at}
use Rattle.geometry.specs.Layout.{most_branch}
use Rattle.geometry.specs.Limits.{most_alphabet}
use Rattle.lists.proofs.Items.{all_append, all_take, all_drop, all_both}
use Rattle.lists.proofs.Joins.{joined-append, joined-map}
use Rattle.lists.proofs.Mapped.{all-unmapped, map-append, map-take, map-drop, map-twice}
use Rattle.lists.specs.Items.{All}
use Rattle.lists.specs.Joins.{joined}
use Rattle.sequence.proofs.Counts.{count-additive}
use Rattle.sequence.specs.Definition1.{is_mark, count}
use Rattle.shape.proofs.Instances.{one_to_a_byte-proper}
use Rattle.shape.proofs.Splits.{insert_node-pieces}
use Rattle.shape.proofs.Steps.{insert_node-takes}
use Rattle.shape.specs.Blocks.{divides}
use Rattle.shape.specs.Level.{chop}
use Rattle.shape.specs.Nested.{Node}
use Rattle.shape.specs.Sizes.{one_to_a_byte}
use Rattle.shape.specs.Trees.{insert_node}
use Rattle.pool.proofs.SoundTrees.{sound-filled}
use Rattle.pool.specs.Blocks.{entries, link, marks_below}
use Rattle.pool.specs.Trees.{shape_at, blocks_at, path_at}
use Rattle.pool.proofs.Changes.{only_then, only_wider}
use Rattle.pool.proofs.Trees.{shape-around}
use Rattle.pool_blocks.proofs.Branches.{entry-link, entries-length, entry-at}
use Rattle.pool_blocks.specs.Contents.{link_in, entry_list}
use Rattle.pool_holders.specs.Maps.{is_free}
use Rattle.pool_holders.proofs.Takes.{entered-then, entered-falls}
use Rattle.tree_splits.specs.Entries.{TrueEntry, SoundChild}
use Rattle.tree_splits.specs.Grafts.{TakenUp}
use Rattle.tree_splits.specs.Inserts.{roots, added, InsertReady, Inserted}
use Rattle.tree_splits.proofs.GoodEntries.{GoodEntry, shape_in, blocks_in, below-good, shape-entries, blocks-entries}
use Rattle.tree_splits.proofs.KeptLists.{KeptList, kept-list}
use Rattle.tree_splits.proofs.SameEntries.{same-entry-list}
use Rattle.pool_entries.specs.Seats.{Seated}
use Rattle.pool_entries.specs.declared.Seat.{Seat}
use Rattle.tree_splits.proofs.ChosenChildren.{child-takes, before-total, child-path}
use Rattle.tree_insert.proofs.Descents.{child-splits, child-ready}
use Rattle.tree_insert.proofs.Regroups.{regrouped-shapes, regrouped-blocks, regrouped-sound}
use Rattle.tree_insert.proofs.Siblings.{length-roots, insert-same, insert-sound, branch_same}

added-low : (g : Option ℕ) → added g ≤ 1
added-low None = omega arith
added-low (Some new) = omega arith

-- The blocks of a branch, around child k.
module _ (p : List ℕ) (h b k : ℕ) (inside : k < entries p b) (x : ℕ) where
  blocks-three : count x (blocks_at p (suc h) b)
      ≡ is_mark x b + (count x (joined (blocks_in p h) (take k (entry_list p b))) + (count x (blocks_at p h (link p b k)) + count x (joined (blocks_in p h) (drop (suc k) (entry_list p b)))))
  unfolding count
  blocks-three =
      let es : List (List ℕ) = entry_list p b in
      let e : link_in (get_or es k []) ≡ link p b k = ap link_in (entry-at p b k inside) ∙ entry-link p b k in
      omega (
        arith,
        ap (count x) (blocks-entries p h b),
        ap (λ (l : List (List ℕ)). count x (joined (blocks_in p h) l)) (split_at es k [] (omega (arith, entries-length p b))),
        ap (count x) (joined-append (blocks_in p h) (take k es) (get_or es k [] ∷ drop (suc k) es)),
        count-additive x (joined (blocks_in p h) (take k es)) (joined (blocks_in p h) (get_or es k [] ∷ drop (suc k) es)),
        count-additive x (blocks_in p h (get_or es k [])) (joined (blocks_in p h) (drop (suc k) es)),
        ap (λ (y : ℕ). count x (blocks_at p h y)) e,
      )

module _ (p m : List ℕ) (h b i c holder : ℕ) (ready : InsertReady p m (suc h) b i c holder) (s : Seat) (seated : Seated (marks_below p b) (entries p b) i s)
    (g : Option ℕ) (q l : List ℕ) (ins : Inserted h (link p b s.k) (i - s.before) c holder g p q m l)
    (r : Option ℕ) (t n : List ℕ) (up : TakenUp h b s.k (link p b s.k) holder g r q t l n) where
  long : length q ≡ length p
  long = ins.only.long

  below : InsertReady p m h (link p b s.k) (i - s.before) c holder
  below = child-ready p m h b i c holder ready s seated

  same-es : entry_list q b ≡ entry_list p b
  same-es = same-entry-list p q b (branch_same p m h b i c holder ready s seated g q l ins) long ready.block.fits

  all : List (List ℕ)
  all = take s.k (entry_list q b) ++ (up.fresh ++ drop (suc s.k) (entry_list q b))

  good : All (GoodEntry p h) (entry_list p b)
  good = below-good p h b ready.below

  kept-front : KeptList p q h (take s.k (entry_list p b))
  kept-front =
      kept-list p q long h (take s.k (entry_list p b)) (all_take (GoodEntry p h) s.k (entry_list p b) good)
      (λ x (one : 1 ≤ count x (joined (blocks_in p h) (take s.k (entry_list p b)))).
      insert-same h (link p b s.k) (i - s.before) c holder g p q m l below ins x
      (omega (arith, ready.agrees x, blocks-three p h b s.k seated.inside x)) (omega (arith, ready.agrees x, blocks-three p h b s.k seated.inside x)))

  kept_back : KeptList p q h (drop (suc s.k) (entry_list p b))
  kept_back =
      kept-list p q long h (drop (suc s.k) (entry_list p b)) (all_drop (GoodEntry p h) (suc s.k) (entry_list p b) good)
      (λ x (one : 1 ≤ count x (joined (blocks_in p h) (drop (suc s.k) (entry_list p b)))).
      insert-same h (link p b s.k) (i - s.before) c holder g p q m l below ins x
      (omega (arith, ready.agrees x, blocks-three p h b s.k seated.inside x)) (omega (arith, ready.agrees x, blocks-three p h b s.k seated.inside x)))

  fresh-good : All (GoodEntry q h) up.fresh
  fresh-good =
      all_both (λ e. SoundChild q h (link_in e)) (TrueEntry q h) (GoodEntry q h) (λ e a b. record { sound = a; true = b }) up.fresh
      (all-unmapped link_in (SoundChild q h) up.fresh
      (subst (All (SoundChild q h)) (sym up.links)
      (insert-sound h (link p b s.k) (i - s.before) c holder g p q m l below ins (ready.below s.k seated.inside).0.enough)))
      up.true

  fresh-blocks : joined (blocks_in q h) up.fresh ≡ joined (blocks_at q h) (roots g (link p b s.k))
  fresh-blocks = sym (joined-map (blocks_at q h) link_in up.fresh) ∙ ap (joined (blocks_at q h)) up.links

  fresh-shapes : map (shape_in q h) up.fresh ≡ insert_node one_to_a_byte c h (i - s.before) (shape_at p h (link p b s.k))
  fresh-shapes = sym (map-twice (shape_at q h) link_in up.fresh) ∙ ap (map (shape_at q h)) up.links ∙ ins.shapes

  -- all entries, by those before
  all-is : all ≡ take s.k (entry_list p b) ++ (up.fresh ++ drop (suc s.k) (entry_list p b))
  unfolding all
  all-is = ap (λ (xs : List (List ℕ)). take s.k xs ++ (up.fresh ++ drop (suc s.k) xs)) same-es

  all-good : All (GoodEntry q h) all
  all-good =
      subst (All (GoodEntry q h)) (sym all-is)
      (all_append (GoodEntry q h) (take s.k (entry_list p b)) (up.fresh ++ drop (suc s.k) (entry_list p b)) kept-front.good
      (all_append (GoodEntry q h) up.fresh (drop (suc s.k) (entry_list p b)) fresh-good kept_back.good))

  -- the trees' blocks, the branch and the free blocks are together what they were
  conserved : (x : ℕ) → is_mark x b + count x (joined (blocks_in q h) all) + is_free l x ≡ count x (blocks_at p (suc h) b) + is_free m x
  conserved x =
      let f : List ℕ → List ℕ = blocks_in q h in
      let front : List (List ℕ) = take s.k (entry_list p b) in
      let back : List (List ℕ) = drop (suc s.k) (entry_list p b) in
      omega (
        arith,
        blocks-three p h b s.k seated.inside x,
        ap (λ (xs : List (List ℕ)). count x (joined f xs)) all-is,
        ap (count x) (joined-append f front (up.fresh ++ back)),
        count-additive x (joined f front) (joined f (up.fresh ++ back)),
        ap (count x) (joined-append f up.fresh back),
        count-additive x (joined f up.fresh) (joined f back),
        ap (count x) kept-front.blocks,
        ap (count x) kept_back.blocks,
        ap (count x) fresh-blocks,
        ins.blocks x,
      )

  kept-all : KeptList q t h all
  kept-all =
      kept-list q t up.regrouped.only.long h all all-good
      (λ x (one : 1 ≤ count x (joined (blocks_in q h) all)).
      up.regrouped.only.others x (λ (change : 1 ≤ is_mark x b + (is_free l x - is_free n x)). omega (arith, conserved x, ready.agrees x)))

  all-shapes : map (shape_in q h) all
      ≡ take s.k (shape_at p (suc h) b) ++ (insert_node one_to_a_byte c h (i - s.before) (shape_at p h (link p b s.k)) ++ drop (suc s.k) (shape_at p (suc h) b))
  all-shapes =
      let f : List ℕ → Node h = shape_in q h in
      let front : List (List ℕ) = take s.k (entry_list p b) in
      let back : List (List ℕ) = drop (suc s.k) (entry_list p b) in
      let left : map f front ≡ take s.k (shape_at p (suc h) b) =
      kept-front.shapes ∙ map-take (shape_in p h) s.k (entry_list p b) ∙ ap (take s.k) (sym (shape-entries p h b)) in
      let right : map f back ≡ drop (suc s.k) (shape_at p (suc h) b) =
      kept_back.shapes ∙ map-drop (shape_in p h) (suc s.k) (entry_list p b) ∙ ap (drop (suc s.k)) (sym (shape-entries p h b)) in
      ap (map f) all-is ∙ map-append f front (up.fresh ++ back)
      ∙ ap₂ (λ (x y : List (Node h)). x ++ y) left (map-append f up.fresh back ∙ ap₂ (λ (x y : List (Node h)). x ++ y) fresh-shapes right)

  insert-above : insert_node one_to_a_byte c (suc h) i (shape_at p (suc h) b) ≡ chop most_branch (map (shape_in q h) all)
  insert-above =
      let front : List (Node h) = take s.k (shape_at p (suc h) b) in
      let back : List (Node h) = drop (suc s.k) (shape_at p (suc h) b) in
      let x : Node h = shape_at p h (link p b s.k) in
      ap (insert_node one_to_a_byte c (suc h) i) (shape-around p h b s.k seated.inside)
      ∙ insert_node-takes one_to_a_byte h i front x back (child-takes p h b ready.below i s seated) c
      ∙ ap (λ (k : ℕ). chop most_branch (front ++ (insert_node one_to_a_byte c h (i - k) x ++ back))) (before-total p h b ready.below i s seated)
      ∙ ap (chop most_branch) (sym all-shapes)

  all-length : length all ≡ entries p b + added g
  all-length =
      let front : List (List ℕ) = take s.k (entry_list p b) in
      let back : List (List ℕ) = drop (suc s.k) (entry_list p b) in
      omega (
        arith,
        ap length all-is,
        length-append front (up.fresh ++ back),
        length-append up.fresh back,
        length-take s.k (entry_list p b),
        length-drop (suc s.k) (entry_list p b),
        entries-length p b,
        length-map up.fresh link_in,
        ap length up.links,
        length-roots g (link p b s.k),
        seated.inside,
      )

  shapes-above : map (shape_at t (suc h)) (roots r b) ≡ insert_node one_to_a_byte c (suc h) i (shape_at p (suc h) b)
  unfolding all
  shapes-above = regrouped-shapes h b holder r all q t l n up.regrouped kept-all ∙ sym insert-above

  split-above : added r ≡ cond (divides one_to_a_byte (suc h) i (shape_at p (suc h) b)) 1 0
  split-above =
      omega (
        arith,
        length-roots r b,
        length-map (roots r b) (shape_at t (suc h)),
        ap length shapes-above,
        insert_node-pieces one_to_a_byte one_to_a_byte-proper c (suc h) 2 i (shape_at p (suc h) b) (omega arith) (sound-filled p most_alphabet 2 (suc h) b ready.block ready.below),
      )

  pub inserted_above : Inserted (suc h) b i c holder r p t m n
  unfolding all count
  inserted_above =
      record {
        shapes = shapes-above;
        sound =
            regrouped-sound h b holder r all q t l n up.regrouped kept-all (entries p b) (omega (arith, all-length))
            (omega (arith, all-length, added-low g, ready.block.fits));
        blocks = λ x. omega (arith, regrouped-blocks h b holder r all q t l n up.regrouped kept-all x, up.regrouped.blocks x, conserved x);
        only =
            only_then
            (only_wider _
            (λ x (change : 1 ≤ count x (path_at p h (i - s.before) (link p b s.k)) + (is_free m x - is_free l x)).
            omega (arith, ap (count x) (child-path p h b ready.below i s seated), entered-falls holder l n up.regrouped.entered x)) ins.only)
            (only_wider _
            (λ x (change : 1 ≤ is_mark x b + (is_free l x - is_free n x)).
            omega (arith, ap (count x) (child-path p h b ready.below i s seated), entered-falls holder m l ins.entered x)) up.regrouped.only);
        entered = entered-then holder m l n ins.entered up.regrouped.entered;
        took = omega (arith, ins.took, up.regrouped.took, child-splits p m h b i c holder ready s seated, split-above);
      }
