-- Lists that lie in blocks of cells: what a change of cells and blocks does to the lists.
use Rattle.std.proofs.Common.{◌≡◌, ℕ, zero, suc, ◌+◌, ◌-◌, ◌<◌, ◌≤◌, Bool, true, false, nat_eq, List, [], ◌∷◌, ◌++◌, map, length, take, drop, get_or, set, replicate, refl, ap, sym, ◌∙◌, arith, length-append, length-take, length-drop}
use Rattle.std.specs.Prelude.{remove}
use Rattle.std.proofs.lemmas.List.{get_or-take, get_or-drop, ext_get_or, get_or_append_left, get_or-append-add, get_or-replicate, get_or-set_same, get_or-set_other, length-set, set-get_or}
use Rattle.std.proofs.lemmas.List.{drop-set-add, take_all, get_or_default, map-set, length-map}
use Rattle.std.proofs.lemmas.List.Edits.{length-remove, get_or-remove_below, get_or-remove_above}
use Rattle.std.proofs.lemmas.Bool.{eqb-true, eqb-false}
use Rattle.ir_store.specs.declared.blocks.Block.{Block}
use Rattle.ir_store.specs.declared.operation.Value.{Value}
use Rattle.ir_store.specs.declared.operation.Value.TheVariants.{Undefined}
use Rattle.linked_lists.specs.Links.{none}
use Rattle.ir_store.specs.Blocks.{AreBlocks, no_block, block_at, block_list, lists_in, total}

-- one number is below another or not
pub split : {P : Type 0} (k m : ℕ) → (k < m → P) → (m ≤ k → P) → P
split zero zero f g = g (omega arith)
split zero (suc m) f g = f (omega arith)
split (suc k) zero f g = g (omega arith)
split (suc k) (suc m) f g = split k m (λ h. f (omega (arith, h))) (λ h. g (omega (arith, h)))

module _ (f : Value → Value) where
  map_take : (n : ℕ) (xs : List Value) → map f (take n xs) ≡ take n (map f xs)
  map_take zero xs = refl
  map_take (suc n) [] = refl
  map_take (suc n) (x ∷ xs) = ap (λ ys. f x ∷ ys) (map_take n xs)

  map_drop : (n : ℕ) (xs : List Value) → map f (drop n xs) ≡ drop n (map f xs)
  map_drop zero xs = refl
  map_drop (suc n) [] = refl
  map_drop (suc n) (x ∷ xs) = map_drop n xs

-- ---- one block

pub block_length : (xs : List Value) (b : Block) → b.start + b.len ≤ length xs → length (block_list xs b) ≡ b.len
block_length xs b h = omega (arith, length-take b.len (drop b.start xs), length-drop b.start xs, h)

pub block_read : (xs : List Value) (b : Block) (k : ℕ) → k < b.len → get_or (block_list xs b) k Undefined ≡ get_or xs (b.start + k) Undefined
block_read xs b k h = get_or-take b.len (drop b.start xs) k Undefined h ∙ get_or-drop b.start xs k Undefined

-- blocks whose cells have the same values
pub block_same : (xs ys : List Value) (b c : Block) → c.len ≡ b.len → b.start + b.len ≤ length xs → c.start + c.len ≤ length ys →
    ((k : ℕ) → k < b.len → get_or ys (c.start + k) Undefined ≡ get_or xs (b.start + k) Undefined) → block_list ys c ≡ block_list xs b
block_same xs ys b c e h g each =
    ext_get_or Undefined (block_list ys c) (block_list xs b) (omega (arith, block_length xs b h, block_length ys c g, e))
    (λ k l.
    let m : k < b.len = omega (arith, l, block_length ys c g, e) in
    block_read ys c k (omega (arith, m, e)) ∙ (each k m ∙ sym (block_read xs b k m)))

-- ---- all blocks

pub list_at : (xs : List Value) (bs : List Block) (i : ℕ) → get_or (lists_in xs bs) i [] ≡ block_list xs (block_at bs i)
list_at xs [] i = refl
list_at xs (b ∷ bs) zero = refl
list_at xs (b ∷ bs) (suc i) = list_at xs bs i

pub lists_count : (xs : List Value) (bs : List Block) → length (lists_in xs bs) ≡ length bs
lists_count xs [] = refl
lists_count xs (b ∷ bs) = ap suc (lists_count xs bs)

pub lists_kept : (xs ys : List Value) (bs : List Block) → ((j : ℕ) → block_list ys (block_at bs j) ≡ block_list xs (block_at bs j)) → lists_in ys bs ≡ lists_in xs bs
lists_kept xs ys [] each = refl
lists_kept xs ys (b ∷ bs) each =
    let h : block_list ys b ≡ block_list xs b = each zero in
    let r = lists_kept xs ys bs (λ j. each (suc j)) in
    ap (λ l. l ∷ lists_in ys bs) h ∙ ap (λ ls. block_list xs b ∷ ls) r

-- one block changed, and its list with it
pub lists_update : (xs ys : List Value) (bs : List Block) (i : ℕ) (b : Block) (l : List Value) → i < length bs → block_list ys b ≡ l →
    ((j : ℕ) → (j ≡ i → ⊥) → block_list ys (block_at bs j) ≡ block_list xs (block_at bs j)) → lists_in ys (set bs i b) ≡ set (lists_in xs bs) i l
lists_update xs ys [] i b l h e each = absurd (omega (arith, h))
lists_update xs ys (c ∷ bs) zero b l h e each =
    let r = lists_kept xs ys bs (λ j. each (suc j) (λ n. omega (arith, n))) in
    ap (λ z. z ∷ lists_in ys bs) e ∙ ap (λ ls. l ∷ ls) r
lists_update xs ys (c ∷ bs) (suc i) b l h e each =
    let f : block_list ys c ≡ block_list xs c = each zero (λ n. omega (arith, n)) in
    let r = lists_update xs ys bs i b l (omega (arith, h)) e (λ j n. each (suc j) (λ m. n (omega (arith, m)))) in
    ap (λ z. z ∷ lists_in ys (set bs i b)) f ∙ ap (λ ls. block_list xs c ∷ ls) r

pub block_is : (bs : List Block) (i : ℕ) (b : Block) → i < length bs → b ≡ get_or bs i b → block_at bs i ≡ b
block_is bs i b h e = get_or_default bs i no_block b h ∙ sym e

pub in_blocks : (xs : List Value) (bs : List Block) (ls : List (List Value)) (i : ℕ) → lists_in xs bs ≡ ls → i < length ls → i < length bs
in_blocks xs bs ls i e h = omega (arith, h, ap length e, lists_count xs bs)

-- values that are kept of each list, where one list is made empty
pub kept_without : (spare : List Value) (bs : List Block) (ls : List (List Value)) (i : ℕ) (b : Block) → b.len ≡ 0 → lists_in spare bs ≡ ls → lists_in spare (set bs i b) ≡ set ls i []
kept_without spare bs ls i b n e = map-set (block_list spare) bs i b ∙ (ap (λ m. set (lists_in spare bs) i (take m (drop b.start spare))) n ∙ ap (λ z. set z i []) e)

-- a change of each value changes each value of each list
pub lists_mapped : (f : Value → Value) (xs : List Value) (bs : List Block) → lists_in (map f xs) bs ≡ map (map f) (lists_in xs bs)
lists_mapped f xs [] = refl
lists_mapped f xs (b ∷ bs) = rw (map_take f b.len (drop b.start xs), map_drop f b.start xs) (ap (λ ls. block_list (map f xs) b ∷ ls) (lists_mapped f xs bs))

pub blocks_mapped : (f : Value → Value) (xs : List Value) (os : List ℕ) (bs : List Block) (live : ℕ) → AreBlocks xs os bs live → AreBlocks (map f xs) os bs live
blocks_mapped f xs os bs live ok =
    let n : length (map f xs) ≡ length xs = length-map xs f in
    record { within = λ j. omega (arith, n, ok.within j); own = ok.own; count = ok.count; fits = omega (arith, n, ok.fits) }

-- ---- how many cells blocks have

pub total_set : (bs : List Block) (i : ℕ) (b : Block) → i < length bs → total (set bs i b) + (block_at bs i).len ≡ total bs + b.len
total_set [] i b h = absurd (omega (arith, h))
total_set (c ∷ bs) zero b h = omega arith
total_set (c ∷ bs) (suc i) b h = omega (arith, total_set bs i b (omega (arith, h)))

pub total_push : (bs : List Block) (b : Block) → total (bs ++ b ∷ []) ≡ total bs + b.len
total_push [] b = omega arith
total_push (c ∷ bs) b = omega (arith, total_push bs b)

pub block_le : (bs : List Block) (i : ℕ) → (block_at bs i).len ≤ total bs
block_le [] i = omega arith
block_le (c ∷ bs) zero = omega arith
block_le (c ∷ bs) (suc i) = omega (arith, block_le bs i)

pub total_part : (bs : List Block) (n : ℕ) → total (take n bs) + (block_at bs n).len ≤ total bs
total_part [] zero = omega arith
total_part [] (suc n) = omega arith
total_part (c ∷ bs) zero = omega arith
total_part (c ∷ bs) (suc n) = omega (arith, total_part bs n)

pub total_more : (bs : List Block) (n : ℕ) → total (take (n + 1) bs) ≡ total (take n bs) + (block_at bs n).len
total_more bs n = ap (λ m. total (take m bs)) (one n) ∙ go bs n
  where
    one : (m : ℕ) → m + 1 ≡ suc m
    one m = omega arith

    go : (cs : List Block) (m : ℕ) → total (take (suc m) cs) ≡ total (take m cs) + (block_at cs m).len
    go [] zero = refl
    go [] (suc m) = refl
    go (c ∷ cs) zero = omega arith
    go (c ∷ cs) (suc m) = omega (arith, go cs m)

-- what is so of a block that is set, and of each other one
pub at_set : (bs : List Block) (i j : ℕ) (b : Block) → i < length bs → (P : ℕ → Block → Type 0) → P i b → ((j ≡ i → ⊥) → P j (block_at bs j)) → P j (block_at (set bs i b) j)
at_set bs i j b h P same other = go (nat_eq j i) refl
  where
    go : (c : Bool) → nat_eq j i ≡ c → P j (block_at (set bs i b) j)
    go true t = rw (eqb-true j i t) (rw (get_or-set_same bs i b no_block h) same)
    go false t = let n = eqb-false j i t in rw (get_or-set_other bs i j b no_block n) (other n)

pub at_push : (bs : List Block) (b : Block) (j : ℕ) → (P : Block → Type 0) → P b → P no_block → P (block_at bs j) → P (block_at (bs ++ b ∷ []) j)
at_push [] b zero P p q r = p
at_push [] b (suc j) P p q r = q
at_push (c ∷ bs) b zero P p q r = r
at_push (c ∷ bs) b (suc j) P p q r = at_push bs b j P p q r

module _ (xs : List Value) (os : List ℕ) (bs : List Block) (live : ℕ) (ok : AreBlocks xs os bs live) where
  pub length_at : (i : ℕ) → length (get_or (lists_in xs bs) i []) ≡ (block_at bs i).len
  length_at i = ap length (list_at xs bs i) ∙ block_length xs (block_at bs i) (ok.within i)

  -- a cell is in one block only
  pub apart : (i j k : ℕ) → (j ≡ i → ⊥) → k < (block_at bs j).len → (block_at bs i).start ≤ (block_at bs j).start + k → (block_at bs j).start + k < (block_at bs i).start + (block_at bs i).len → ⊥
  apart i j k n h l u =
      let m : ℕ = (block_at bs j).start + k - (block_at bs i).start in
      let e : (block_at bs i).start + m ≡ (block_at bs j).start + k = omega (arith, l) in
      let s : m < (block_at bs i).len = omega (arith, l, u) in
      n (sym (ok.own j k h) ∙ (ap (λ q. get_or os q none) (sym e) ∙ ok.own i m s))

  -- where the cells of one block change alone, the others stay
  pub others_kept : (ys : List Value) (i : ℕ) → length ys ≡ length xs →
      ((c : ℕ) → ((block_at bs i).start ≤ c → c < (block_at bs i).start + (block_at bs i).len → ⊥) → get_or ys c Undefined ≡ get_or xs c Undefined) →
      (j : ℕ) → (j ≡ i → ⊥) → block_list ys (block_at bs j) ≡ block_list xs (block_at bs j)
  others_kept ys i e each j n =
      block_same xs ys (block_at bs j) (block_at bs j) refl (ok.within j) (omega (arith, ok.within j, e))
      (λ k h. each ((block_at bs j).start + k) (λ l u. apart i j k n h l u))

  -- the cells of one block changed, and the block made shorter
  pub blocks_shrunk : (ys : List Value) (i : ℕ) (b : Block) (left : ℕ) → length ys ≡ length xs → i < length bs → b.start ≡ (block_at bs i).start → b.len ≤ (block_at bs i).len →
      left + (block_at bs i).len ≡ live + b.len → AreBlocks ys os (set bs i b) left
  blocks_shrunk ys i b left e h s l c = record {
    within = λ j. at_set bs i j b h (λ _ d. d.start + d.len ≤ length ys) (omega (arith, ok.within i, e, s, l)) (λ n. omega (arith, ok.within j, e));
    own =
        λ j. at_set bs i j b h (λ q d. (k : ℕ) → k < d.len → get_or os (d.start + k) none ≡ q)
        (λ k m. rw s (ok.own i k (omega (arith, m, l)))) (λ n. ok.own j);
    count = omega (arith, total_set bs i b h, ok.count, c);
    fits = omega (arith, ok.fits, e, c, l);
  }

  -- ---- one value of a list changed

  set_prefix : (n spot : ℕ) (v : Value) (zs : List Value) → take n (set zs spot v) ≡ set (take n zs) spot v
  set_prefix zero spot v zs = refl
  set_prefix (suc n) spot v [] = refl
  set_prefix (suc n) zero v (z ∷ zs) = refl
  set_prefix (suc n) (suc spot) v (z ∷ zs) = ap (λ ys. z ∷ ys) (set_prefix n spot v zs)

  pub list_set : (i spot : ℕ) (v : Value) → i < length bs → spot < (block_at bs i).len →
      lists_in (set xs ((block_at bs i).start + spot) v) bs ≡ set (lists_in xs bs) i (set (get_or (lists_in xs bs) i []) spot v)
  list_set i spot v h l =
      let ys : List Value = set xs ((block_at bs i).start + spot) v in
      let here : block_list ys (block_at bs i) ≡ set (get_or (lists_in xs bs) i []) spot v =
      ap (take (block_at bs i).len) (drop-set-add (block_at bs i).start xs spot v) ∙ (set_prefix (block_at bs i).len spot v (drop (block_at bs i).start xs) ∙ ap (λ z. set z spot v) (sym (list_at xs bs i))) in
      let others = others_kept ys i (length-set xs ((block_at bs i).start + spot) v)
      (λ c n. get_or-set_other xs ((block_at bs i).start + spot) c v Undefined (λ e. n (omega (arith, e)) (omega (arith, e, l)))) in
      ap (lists_in ys) (sym (set-get_or bs i no_block)) ∙ lists_update xs ys bs i (block_at bs i) (set (get_or (lists_in xs bs) i []) spot v) h here others

  pub blocks_set : (spot : ℕ) (v : Value) → AreBlocks (set xs spot v) os bs live
  blocks_set spot v =
      let n : length (set xs spot v) ≡ length xs = length-set xs spot v in
      record { within = λ j. omega (arith, n, ok.within j); own = ok.own; count = ok.count; fits = omega (arith, n, ok.fits) }

  -- ---- a list made empty

  pub list_cleared : (ys : List Value) (i : ℕ) (b : Block) → length ys ≡ length xs → i < length bs → b.len ≡ 0 →
      ((c : ℕ) → ((block_at bs i).start ≤ c → c < (block_at bs i).start + (block_at bs i).len → ⊥) → get_or ys c Undefined ≡ get_or xs c Undefined) →
      lists_in ys (set bs i b) ≡ set (lists_in xs bs) i []
  list_cleared ys i b e h n each = lists_update xs ys bs i b [] h (ap (λ m. take m (drop b.start ys)) n) (others_kept ys i e each)

  -- ---- one value of a list taken out

  pub list_removed : (ys : List Value) (i spot first last : ℕ) (b : Block) → length ys ≡ length xs → i < length bs → spot < (block_at bs i).len →
      first ≡ (block_at bs i).start + spot → last ≡ (block_at bs i).start + ((block_at bs i).len - 1) → b.start ≡ (block_at bs i).start → b.len ≡ (block_at bs i).len - 1 →
      ((c : ℕ) → first ≤ c → c < last → get_or ys c Undefined ≡ get_or xs (c + 1) Undefined) →
      ((c : ℕ) → (first ≤ c → c ≤ last → ⊥) → get_or ys c Undefined ≡ get_or xs c Undefined) →
      lists_in ys (set bs i b) ≡ set (lists_in xs bs) i (remove (get_or (lists_in xs bs) i []) spot)
  list_removed ys i spot first last b e h l f t s m moved others =
      let old : Block = block_at bs i in
      let n : length (block_list xs old) ≡ old.len = block_length xs old (ok.within i) in
      let gone : length (remove (block_list xs old) spot) + 1 ≡ length (block_list xs old) = length-remove (block_list xs old) spot (omega (arith, n, l)) in
      let fits : b.start + b.len ≤ length ys = omega (arith, ok.within i, e, s, m) in
      let size : length (block_list ys b) ≡ length (remove (block_list xs old) spot) = omega (arith, block_length ys b fits, gone, n, m, l) in
      let old_at : (k : ℕ) → k < old.len → get_or xs (old.start + k) Undefined ≡ get_or (block_list xs old) k Undefined = λ k q. sym (block_read xs old k q) in
      let in_prefix : (k : ℕ) → k < spot → get_or ys (old.start + k) Undefined ≡ get_or (remove (block_list xs old) spot) k Undefined =
      λ k q. others (old.start + k) (λ p u. omega (arith, p, f, q)) ∙ (old_at k (omega (arith, q, l)) ∙ sym (get_or-remove_below (block_list xs old) spot Undefined k q (omega (arith, n, l)))) in
      let following : (k : ℕ) → spot ≤ k → k + 1 < old.len → get_or ys (old.start + k) Undefined ≡ get_or (remove (block_list xs old) spot) k Undefined =
      λ k q u.
      let next : old.start + k + 1 ≡ old.start + (k + 1) = omega arith in
      moved (old.start + k) (omega (arith, f, q)) (omega (arith, t, u)) ∙ (ap (λ z. get_or xs z Undefined) next ∙ (old_at (k + 1) u ∙ sym (get_or-remove_above (block_list xs old) spot Undefined k q (omega (arith, n, l))))) in
      let here : block_list ys b ≡ remove (block_list xs old) spot =
      ext_get_or Undefined (block_list ys b) (remove (block_list xs old) spot) size
      (λ k g.
      let q : k < b.len = omega (arith, g, block_length ys b fits) in
      let u : k + 1 < old.len = omega (arith, q, m) in
      block_read ys b k q ∙ (ap (λ (z : ℕ). get_or ys (z + k) Undefined) s ∙ split k spot (in_prefix k) (λ v. following k v u))) in
      lists_update xs ys bs i b (remove (get_or (lists_in xs bs) i []) spot) h (here ∙ ap (λ z. remove z spot) (sym (list_at xs bs i)))
      (others_kept ys i e (λ c o. others c (λ p q. o (omega (arith, p, f)) (omega (arith, q, t, l)))))

  -- ---- a list put after all cells

  pub blocks_placed : (i : ℕ) (b : Block) (zs : List Value) (n left : ℕ) → length os ≡ length xs → i < length bs → (block_at bs i).len ≡ 0 → b.start ≡ length xs → b.len ≡ n → n ≡ length zs →
      left ≡ live + n → AreBlocks (xs ++ zs) (os ++ replicate n i) (set bs i b) left
  blocks_placed i b zs n left same h none_there s l e more = record {
    within = λ j. at_set bs i j b h (λ _ d. d.start + d.len ≤ length (xs ++ zs)) (omega (arith, length-append xs zs, s, l, e)) (λ _. omega (arith, length-append xs zs, ok.within j));
    own =
        λ j. at_set bs i j b h (λ q d. (k : ℕ) → k < d.len → get_or (os ++ replicate n i) (d.start + k) none ≡ q)
        (λ k m.
        let at : b.start + k ≡ length os + k = omega (arith, s, same) in
        ap (λ z. get_or (os ++ replicate n i) z none) at ∙ (get_or-append-add os (replicate n i) k none ∙ get_or-replicate n k i none (omega (arith, m, l))))
        (λ _ k m. get_or_append_left os (replicate n i) none ((block_at bs j).start + k) (omega (arith, m, ok.within j, same)) ∙ ok.own j k m);
    count = omega (arith, total_set bs i b h, ok.count, none_there, l, more);
    fits = omega (arith, length-append xs zs, ok.fits, e, more);
  }

  pub list_placed : (i : ℕ) (b : Block) (zs : List Value) → i < length bs → b.start ≡ length xs → b.len ≡ length zs → lists_in (xs ++ zs) (set bs i b) ≡ set (lists_in xs bs) i zs
  list_placed i b zs h s l =
      let here : block_list (xs ++ zs) b ≡ zs = ap (λ (z : ℕ). take b.len (drop z (xs ++ zs))) s ∙ (ap (take b.len) (drop_prefix xs) ∙ take_all b.len zs (omega (arith, l))) in
      lists_update xs (xs ++ zs) bs i b zs h here
      (λ j n. block_same xs (xs ++ zs) (block_at bs j) (block_at bs j) refl (ok.within j) (omega (arith, length-append xs zs, ok.within j))
      (λ k q. get_or_append_left xs zs Undefined ((block_at bs j).start + k) (omega (arith, q, ok.within j))))
    where
      drop_prefix : (ys : List Value) → drop (length ys) (ys ++ zs) ≡ zs
      drop_prefix [] = refl
      drop_prefix (y ∷ ys) = drop_prefix ys

  -- ---- an empty list after the others

  pub blocks_pushed : (b : Block) → b.start ≡ 0 → b.len ≡ 0 → AreBlocks xs os (bs ++ b ∷ []) live
  blocks_pushed b s l = record {
    within = λ j. at_push bs b j (λ d. d.start + d.len ≤ length xs) (omega (arith, s, l)) (omega arith) (ok.within j);
    own = λ j. at_push bs b j (λ d. (k : ℕ) → k < d.len → get_or os (d.start + k) none ≡ j) (λ k m. absurd (omega (arith, m, l))) (λ k m. absurd (omega (arith, m))) (ok.own j);
    count = omega (arith, total_push bs b, ok.count, l);
    fits = ok.fits;
  }

pub list_pushed : (xs : List Value) (bs : List Block) (b : Block) → b.len ≡ 0 → lists_in xs (bs ++ b ∷ []) ≡ lists_in xs bs ++ [] ∷ []
list_pushed xs [] b l = ap (λ m. take m (drop b.start xs) ∷ []) l
list_pushed xs (c ∷ bs) b l = ap (λ ls. block_list xs c ∷ ls) (list_pushed xs bs b l)
