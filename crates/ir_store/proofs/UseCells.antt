-- The positions of cells among the operands of live operations.
use Rattle.std.proofs.Common.{◌≡◌, ℕ, zero, suc, ◌+◌, ◌-◌, ◌<◌, ◌≤◌, Bool, true, false, cond, nat_eq, List, [], ◌∷◌, map, take, drop, get_or, refl, ap, sym, ◌∙◌, arith}
use Rattle.std.specs.Prelude.{Option, Some, None, ◌&&◌, nat_le, nat_lt, is_some, slice_get}
use Rattle.std.proofs.lemmas.Bool.{eqb-true, le-leb, leb-true, lt-ltb, ltb-true}
use Rattle.linked_lists.specs.declared.links.Link.{Link}
use Rattle.ir_store.specs.declared.blocks.Block.{Block}
use Rattle.ir_store.specs.declared.operation.UsePosition.{UsePosition}
use Rattle.ir_store.specs.declared.operation.Value.{Value}
use Rattle.linked_lists.specs.Links.{none, is_live_at}
use Rattle.ir_store.specs.Blocks.{AreBlocks, block_at, block_list, position_within}
use Rattle.ir_store.specs.Uses.{use_times, use_some, live_use, use_of, live_cells, with_use, positions_of}

-- ---- what a block has at a position

get-take : (n : ℕ) (xs : List Value) (k : ℕ) → k < n → slice_get (take n xs) k ≡ slice_get xs k
get-take zero xs k h = absurd (omega (arith, h))
get-take (suc n) [] k h = refl
get-take (suc n) (x ∷ xs) zero h = refl
get-take (suc n) (x ∷ xs) (suc k) h = get-take n xs k (omega (arith, h))

get-past : (n : ℕ) (xs : List Value) (k : ℕ) → n ≤ k → slice_get (take n xs) k ≡ None
get-past zero xs k h = refl
get-past (suc n) [] k h = refl
get-past (suc n) (x ∷ xs) zero h = absurd (omega (arith, h))
get-past (suc n) (x ∷ xs) (suc k) h = get-past n xs k (omega (arith, h))

get-drop : (n : ℕ) (xs : List Value) (k m : ℕ) → m ≡ n + k → slice_get (drop n xs) k ≡ slice_get xs m
get-drop zero xs k m e = ap (slice_get xs) (sym (e ∙ (omega arith)))
get-drop (suc n) [] k zero e = absurd (omega (arith, e))
get-drop (suc n) [] k (suc m) e = refl
get-drop (suc n) (x ∷ xs) k zero e = absurd (omega (arith, e))
get-drop (suc n) (x ∷ xs) k (suc m) e = get-drop n xs k m (omega (arith, e))

pub block_get : (xs : List Value) (b : Block) (k : ℕ) → k < b.len → slice_get (block_list xs b) k ≡ slice_get xs (b.start + k)
block_get xs b k h = get-take b.len (drop b.start xs) k h ∙ get-drop b.start xs k (b.start + k) refl

pub block_past : (xs : List Value) (b : Block) (k : ℕ) → b.len ≤ k → slice_get (block_list xs b) k ≡ None
block_past xs b k h = get-past b.len (drop b.start xs) k h

-- ---- a cell that lies in a block

pub and_true : (a b : Bool) → a && b ≡ true → (a ≡ true) × (b ≡ true)
and_true true b e = (refl, e)
and_true false b e = absurd (cc e)

-- what is so where a test says that a cell is in a block
pub record LiesIn (b : Block) (c : ℕ) : Type 0 where
  pub from : b.start ≤ c
  pub to : c - b.start < b.len

pub lies_in : (b : Block) (c : ℕ) → nat_le b.start c && nat_lt (c - b.start) b.len ≡ true → LiesIn b c
lies_in b c e =
    let p = and_true (nat_le b.start c) (nat_lt (c - b.start) b.len) e in
    record { from = leb-true b.start c p.0; to = ltb-true (c - b.start) b.len p.1 }

pub test_of : (b : Block) (k : ℕ) → k < b.len → nat_le b.start (b.start + k) && nat_lt (b.start + k - b.start) b.len ≡ true
test_of b k h =
    let m : b.start + k - b.start < b.len = omega (arith, h) in
    let l : b.start ≤ b.start + k = omega arith in
    rw (le-leb b.start (b.start + k) l, lt-ltb (b.start + k - b.start) b.len m) refl

pub position_at : (i : ℕ) (b : Block) (k : ℕ) → k < b.len → position_within i b (b.start + k) ≡ Some (record { op = record { index = i }; at = k })
position_at i b k h =
    let d : b.start + k - b.start ≡ k = omega arith in
    rw (test_of b k h) (ap (λ m. Some (record { op = record { index = i }; at = m })) d)

module _ (links : List Link) (xs : List Value) (os : List ℕ) (bs : List Block) (live : ℕ) (ok : AreBlocks xs os bs live) where
  -- a cell of a live operation's block is a use
  pub use_there : (q k : ℕ) → is_live_at links q ≡ true → k < (block_at bs q).len → use_of links os bs ((block_at bs q).start + k) ≡ Some (record { op = record { index = q }; at = k })
  use_there q k l h =
      ap (λ o. live_use links (position_within o (block_at bs o) ((block_at bs q).start + k))) (ok.own q k h)
      ∙ (ap (live_use links) (position_at q (block_at bs q) k h) ∙ picked (is_live_at links q) l)
    where
      picked : (b : Bool) → b ≡ true → cond {A = Option UsePosition} b (Some (record { op = record { index = q }; at = k })) None ≡ Some (record { op = record { index = q }; at = k })
      picked true e = refl
      picked false e = absurd (cc e)

  -- what is so of a cell that is a use of an operation at a position
  pub record IsUse (p : UsePosition) (c : ℕ) : Type 0 where
    pub lives : is_live_at links p.op.index ≡ true
    pub within : p.at < (block_at bs p.op.index).len
    pub cell : c ≡ (block_at bs p.op.index).start + p.at

  -- how often a position is that of a cell
  once_of : UsePosition → ℕ → ℕ
  once_of p c = use_times p (with_use (use_of links os bs c) [])

  -- a cell has the position once or never
  pub used : (p : UsePosition) (c : ℕ) → {P : Type 0} → (use_times p (with_use (use_of links os bs c) []) ≡ 0 → P) → (IsUse p c → P) → P
  used p c {P} f g = tested (nat_le b.start c && nat_lt (c - b.start) b.len) refl
    where
      owner : ℕ
      owner = get_or os c none

      b : Block
      b = block_at bs owner

      there : nat_le b.start c && nat_lt (c - b.start) b.len ≡ true → is_live_at links owner ≡ true → nat_eq owner p.op.index && nat_eq (c - b.start) p.at ≡ true → IsUse p c
      there t l s =
          let both = and_true (nat_eq owner p.op.index) (nat_eq (c - b.start) p.at) s in
          let e : owner ≡ p.op.index = eqb-true owner p.op.index both.0 in
          let a : c - b.start ≡ p.at = eqb-true (c - b.start) p.at both.1 in
          let i = lies_in b c t in
          record {
            lives = rw (← e) l;
            within = rw (← e) (omega (arith, i.to, a));
            cell = rw (← e) (omega (arith, i.from, a));
          }

      same : (t : nat_le b.start c && nat_lt (c - b.start) b.len ≡ true) (l : is_live_at links owner ≡ true) (s : Bool) → nat_eq owner p.op.index && nat_eq (c - b.start) p.at ≡ s → P
      same t l true e = g (there t l e)
      same t l false e = f (rw (t, l, e) refl)

      alive : (t : nat_le b.start c && nat_lt (c - b.start) b.len ≡ true) (l : Bool) → is_live_at links owner ≡ l → P
      alive t true e = same t e (nat_eq owner p.op.index && nat_eq (c - b.start) p.at) refl
      alive t false e = f (rw (t, e) refl)

      tested : (t : Bool) → nat_le b.start c && nat_lt (c - b.start) b.len ≡ t → P
      tested true e = alive e (is_live_at links owner) refl
      tested false e = f (rw e refl)

-- the first of some cells that are uses
pub live_head : (links : List Link) (os : List ℕ) (bs : List Block) (c : ℕ) (cells : List ℕ) → is_some (use_of links os bs c) ≡ true → live_cells links os bs (c ∷ cells) ≡ c ∷ live_cells links os bs cells
live_head links os bs c cells e = ap (λ b. cond b (c ∷ live_cells links os bs cells) (live_cells links os bs cells)) e

-- the positions of cells are those of the cells that have one
pub positions_are : (links : List Link) (os : List ℕ) (bs : List Block) (cells : List ℕ) → map use_some (positions_of links os bs cells) ≡ map (use_of links os bs) (live_cells links os bs cells)
positions_are links os bs [] = refl
positions_are links os bs (c ∷ cells) = go (use_of links os bs c) refl (positions_are links os bs cells)
  where
    go : (o : Option UsePosition) → use_of links os bs c ≡ o → map use_some (positions_of links os bs cells) ≡ map (use_of links os bs) (live_cells links os bs cells) →
        map use_some (with_use o (positions_of links os bs cells)) ≡ map (use_of links os bs) (cond (is_some o) (c ∷ live_cells links os bs cells) (live_cells links os bs cells))
    go None e r = r
    go (Some p) e r = ap (λ q. q ∷ map use_some (positions_of links os bs cells)) (sym e) ∙ ap (λ qs. use_of links os bs c ∷ qs) r
