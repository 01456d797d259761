-- The exact map of a sound pool: its zeros are the free blocks, a byte name + 1 is a block of that name and of no other.
-- After a change of one name's blocks it is exact again, where a block left the name just as it became free, and came to it just as it was taken.
use mathlib.Core.Path.{◌≡◌, sym, ap, ◌∙◌}
use mathlib.Core.Bool.{false, cond}
use mathlib.Core.List.{List}
use mathlib.Core.Logic.{◌⊎◌, inl, inr, ⊎_elim}
use Prim.Native.Nat.{ℕ, zero, suc, ◌+◌, ◌-◌, ◌≤◌, ◌<◌, ◌/◌}
use native.Mathlib.Nat.{eq-zero-or-pos}
use native.Mathlib.Omega.{arith}
use borrow.Author.Tests.{leb-false, lt-leb}
use lib.ListN.{length, get_or, get_or-eq_default}
use Rattle.geometry.specs.Limits.{names, block_size, directory_size}
use Rattle.lists.proofs.Sums.{sum_below-same, sum_below-one, sum_below-two}
use Rattle.lists.specs.Items.{All}
use Rattle.lists.specs.Sums.{sum_below}
use Rattle.sequence.specs.Definition1.{is_mark, count, rank, access}
use Rattle.sequence.proofs.Counts.{is_mark-same, is_mark-other, is_mark-cases, is_mark-le-one, all-standing, standing-all}
use Rattle.sequence.proofs.Ranks.{rank-zero, rank_step, rank-length}
use Rattle.shape.proofs.Choice.{by-leb}
use Rattle.pool.specs.Bytes.{shares}
use Rattle.pool.specs.Names.{record_of, blocks_of, held_blocks}
use Rattle.pool.specs.Shares.{is_held, free_blocks}
use Rattle.pool.specs.Sound.{OpenName, Distinct, Sound}
use Rattle.pool.specs.Trees.{blocks_at}
use Rattle.pool.specs.Untouched.{Untouched}
use Rattle.pool.proofs.SoundAfter.{held_after}
use Rattle.pool.proofs.SoundNames.{open_blocks, name-distinct, held-inside}
use Rattle.pool.proofs.Untouched.{blocks-of-untouched}
use Rattle.pool_check.proofs.Holders.{times-held, name-inside}
use Rattle.pool_check.proofs.Readings.{zero-free, held_by}
use Rattle.pool_holders.specs.Maps.{Exact, is_free, free_in, Agrees, Entered}

-- Counts as sums over places.
rank-sum : (c : ℕ) (xs : List ℕ) (k : ℕ) → k ≤ length xs → rank c xs k ≡ sum_below k (λ i. is_mark c (get_or xs i 0))
unfolding sum_below access
rank-sum c xs zero h = rank-zero c xs
rank-sum c xs (suc k) h =
    let here : is_mark c (access xs (suc k)) ≡ is_mark c (get_or xs k 0) = ap (λ j. is_mark c (get_or xs j 0)) (omega arith) in
    omega (arith, rank_step c xs k (omega arith), rank-sum c xs k (omega arith))

count-sum : (c : ℕ) (xs : List ℕ) → count c xs ≡ sum_below (length xs) (λ i. is_mark c (get_or xs i 0))
count-sum c xs = sym (rank-length c xs) ∙ rank-sum c xs (length xs) (omega arith)

-- a name's blocks are among those held
pub held_one : (p : List ℕ) (b name : ℕ) → name < names → count b (blocks_of p name) ≤ count b (held_blocks p)
held_one p b name low = omega (arith, times-held p b, sum_below-one names (λ y. count b (blocks_of p y)) name low)

pub held_two : (p : List ℕ) (b x y : ℕ) → x < names → y < names → (x ≡ y → ⊥) → count b (blocks_of p x) + count b (blocks_of p y) ≤ count b (held_blocks p)
held_two p b x y lx ly other = omega (arith, times-held p b, sum_below-two names (λ z. count b (blocks_of p z)) x y lx ly other)

module _ (m : List ℕ) (b : ℕ) where
  pub free-zero : 1 ≤ is_free m b → get_or m b 0 ≡ 0
  unfolding is_free
  free-zero free = ⊎_elim (λ w. w.0) (λ w. absurd (omega (arith, w.1))) (is_mark-cases 0 (get_or m b 0))

  pub zero-is_free : get_or m b 0 ≡ 0 → is_free m b ≡ 1
  unfolding is_free
  zero-is_free none = is_mark-same 0 (get_or m b 0) none

  pub held-is_free : (name : ℕ) → get_or m b 0 ≡ name + 1 → is_free m b ≡ 0
  unfolding is_free
  held-is_free name held = is_mark-other 0 (get_or m b 0) (λ (e : get_or m b 0 ≡ 0). omega arith)

  pub is_free-most : is_free m b ≤ 1
  unfolding is_free
  is_free-most = is_mark-le-one 0 (get_or m b 0)

  pub same-free : (n : List ℕ) → get_or n b 0 ≡ get_or m b 0 → is_free n b ≡ is_free m b
  unfolding is_free
  same-free n same = ap (is_mark 0) same

  -- a block that isn't free has a byte in the map
  pub held-has-byte : is_free m b ≡ 0 → b < length m
  held-has-byte held =
      ⊎_elim (λ (past : length m - b ≡ 0). absurd (omega (arith, zero-is_free (get_or-eq_default m 0 (omega arith)))))
      (λ (inside : 0 < length m - b). omega arith) (eq-zero-or-pos (length m - b))

module _ (p m : List ℕ) (exact : Exact p m) where
  -- a block that is free in the map is held by no name
  module _ (b : ℕ) (low : b < shares p) where
    pub zero-unheld : get_or m b 0 ≡ 0 → is_held p b ≡ false
    zero-unheld none = zero-free p m exact.holders b low none

    pub zero-count : get_or m b 0 ≡ 0 → count b (held_blocks p) ≡ 0
    zero-count none = omega (arith, leb-false 1 (count b (held_blocks p)) (zero-unheld none))

    pub unheld-zero : count b (held_blocks p) ≡ 0 → get_or m b 0 ≡ 0
    unheld-zero none = exact.holders.free b low (lt-leb 1 (count b (held_blocks p)) (omega arith))

    -- a block with the byte name + 1 is held by that name
    pub marked-held : (name : ℕ) → name < names → get_or m b 0 ≡ name + 1 → 1 ≤ count b (blocks_of p name)
    marked-held name named marked = held_by p m exact.holders b low name named marked

    missing-free : cond (is_held p b) 0 1 ≡ is_mark 0 (get_or m b 0)
    missing-free =
        by-leb (λ z. z ≡ is_mark 0 (get_or m b 0)) 1 (count b (held_blocks p)) 0 1
        (λ held. sym (is_mark-other 0 (get_or m b 0) (λ (e : get_or m b 0 ≡ 0). omega (arith, zero-count e))))
        (λ free. sym (is_mark-same 0 (get_or m b 0) (unheld-zero (omega arith))))

  -- the map's zeros are the free blocks
  pub zeros-are-free : free_in m ≡ free_blocks p
  unfolding free_blocks
  zeros-are-free =
      count-sum 0 m
      ∙ ap (λ (n : ℕ). sum_below n (λ i. is_mark 0 (get_or m i 0))) exact.blocks
      ∙ sum_below-same (shares p) (λ i. is_mark 0 (get_or m i 0)) (λ b. cond (is_held p b) 0 1) (λ b low. sym (missing-free b low))

  module _ (sound : Sound p) where
    pub block-byte : (b name : ℕ) → name < names → 1 ≤ count b (blocks_of p name) → get_or m b 0 ≡ name + 1
    block-byte b name low here =
        exact.holders.held b name
        (all-standing (λ x. x < shares p) (blocks_of p name) b here (name-inside p name (sound.each name low))) low here

    -- a name's blocks stand there once, and none is free
    pub name-agrees : (name : ℕ) → name < names → Agrees m (blocks_of p name)
    name-agrees name low b =
        ⊎_elim (λ (none : count b (blocks_of p name) ≡ 0). omega (arith, is_free-most m b))
        (λ (some : 0 < count b (blocks_of p name)).
        omega (arith, name-distinct p sound name low b, held-is_free m b name (block-byte b name low some)))
        (eq-zero-or-pos (count b (blocks_of p name)))

    -- nobody else holds a block that is the name's or free in the map
    pub own-or-free-in : (name : ℕ) → name < names → (b : ℕ) → 1 ≤ count b (blocks_of p name) + is_free m b → count b (held_blocks p) ≤ count b (blocks_of p name)
    own-or-free-in name low b either =
        ⊎_elim (λ (none : count b (held_blocks p) ≡ 0). omega arith)
        (λ (held : 0 < count b (held_blocks p)).
        ⊎_elim
        (λ (foreign : count b (blocks_of p name) ≡ 0).
        let inside : b < shares p = all-standing (λ x. x < shares p) (held_blocks p) b held (held-inside p sound) in
        omega (arith, zero-count b inside (free-zero m b (omega arith))))
        (λ (own : 0 < count b (blocks_of p name)). omega (arith, sound.apart b)) (eq-zero-or-pos (count b (blocks_of p name))))
        (eq-zero-or-pos (count b (held_blocks p)))

    pub open-agrees : (name : ℕ) → name < names → OpenName p name → Agrees m (blocks_at p (record_of p name).height (record_of p name).root)
    open-agrees name low opened = rw (open_blocks p name opened) at (name-agrees name low)

-- A change of one name's blocks.

-- what may become of a block's byte: it stays, or a free block is entered for a holder, or it is freed
abbrev pub Turns : ℕ → ℕ → ℕ → Type 0
Turns holder before after = (after ≡ before) ⊎ (((before ≡ 0) × (after ≡ holder)) ⊎ (after ≡ 0))

-- p and m are the pool and the map before, p' and n after
module _ (p p' m n : List ℕ) (name : ℕ) (low : name < names) (sound : Sound p) (exact : Exact p m)
    (kept : (x : ℕ) → count x (blocks_of p' name) + is_free n x ≡ count x (blocks_of p name) + is_free m x) where
  pub name-distinct-after : Distinct (blocks_of p' name)
  name-distinct-after b = omega (arith, kept b, name-agrees p m exact sound name low b)

  -- nobody else holds what the name holds now
  pub own-after : All (λ b. count b (held_blocks p) ≤ count b (blocks_of p name)) (blocks_of p' name)
  own-after =
      standing-all (λ b. count b (held_blocks p) ≤ count b (blocks_of p name)) (blocks_of p' name)
      (λ b here. own-or-free-in p m exact sound name low b (omega (arith, kept b)))

  module _ (others : (y : ℕ) → y < names → (y ≡ name → ⊥) → Untouched y p p') (pool-long : length p' ≡ length p)
      (map-long : length n ≡ length m) (each : (x : ℕ) → Turns (name + 1) (get_or m x 0) (get_or n x 0)) where
    shares-same : shares p' ≡ shares p
    shares-same = ap (λ l. (l - directory_size) / block_size) pool-long

    unheld-after : (b : ℕ) → b < shares p' → is_held p' b ≡ false → get_or n b 0 ≡ 0
    unheld-after b inside none =
        let gone : count b (held_blocks p') ≡ 0 = omega (arith, leb-false 1 (count b (held_blocks p')) none) in
        free-zero n b
        (⊎_elim
        (λ (free : count b (held_blocks p) ≡ 0).
        omega (arith, kept b, held_one p' b name low, zero-is_free m b (unheld-zero p m exact b (omega (arith, shares-same)) free)))
        (λ (held : 0 < count b (held_blocks p)). omega (arith, kept b, held_one p' b name low, held_after p p' name low sound others b))
        (eq-zero-or-pos (count b (held_blocks p))))

    own-byte : (b : ℕ) → 1 ≤ count b (blocks_of p' name) → get_or n b 0 ≡ name + 1
    own-byte b here =
        let taken : is_free n b ≡ 0 = omega (arith, kept b, name-agrees p m exact sound name low b) in
        ⊎_elim
        (λ (same : get_or n b 0 ≡ get_or m b 0).
        same ∙ block-byte p m exact sound b name low (omega (arith, kept b, same-free m b n same)))
        (λ w. ⊎_elim (λ v. v.1) (λ zero. absurd (omega (arith, zero-is_free n b zero))) w) (each b)

    other_byte : (b y : ℕ) → y < names → (y ≡ name → ⊥) → 1 ≤ count b (blocks_of p' y) → get_or n b 0 ≡ y + 1
    other_byte b y ly other here =
        let before : 1 ≤ count b (blocks_of p y) = rw (sym (blocks-of-untouched y p p' (others y ly other) (sound.each y ly))) here in
        let held : get_or m b 0 ≡ y + 1 = block-byte p m exact sound b y ly before in
        let taken : is_free n b ≡ 0
        = omega (arith, kept b, held-is_free m b y held, held_two p b y name ly low other, sound.apart b) in
        ⊎_elim (λ (same : get_or n b 0 ≡ get_or m b 0). same ∙ held)
        (λ w. ⊎_elim (λ v. absurd (omega (arith, v.0))) (λ zero. absurd (omega (arith, zero-is_free n b zero))) w) (each b)

    pub exact-after : Exact p' n
    exact-after = record {
      blocks = map-long ∙ exact.blocks ∙ sym shares-same;
      holders = record {
        free = unheld-after;
        held = λ b y inside ly here.
            ⊎_elim (λ w. rw w.0 (own-byte b (rw w.0 at here))) (λ w. other_byte b y ly w.0 here) (is_mark-cases name y);
      };
    }

-- free blocks entered
pub entered-turns : (holder : ℕ) (m n : List ℕ) → Entered holder m n → (x : ℕ) → Turns holder (get_or m x 0) (get_or n x 0)
entered-turns holder m n entered x = ⊎_elim (λ same. inl same) (λ w. inr (inl w)) (entered.each x)
