-- Blocks that are put into cells again, one after another.
use Rattle.std.proofs.Common.{◌≡◌, ℕ, zero, suc, ◌+◌, ◌<◌, ◌≤◌, List, [], ◌∷◌, ◌++◌, length, take, drop, get_or, set, replicate, refl, ap, sym, ◌∙◌, arith, length-append}
use Rattle.std.proofs.lemmas.List.{get_or_append_left, get_or-append-add, get_or-replicate, get_or-set_other, get_or_past, ext_get_or, length-set, take_all}
use Rattle.ir_store.specs.declared.blocks.Block.{Block}
use Rattle.ir_store.specs.declared.operation.Value.{Value}
use Rattle.ir_store.specs.declared.operation.Value.TheVariants.{Undefined}
use Rattle.linked_lists.specs.Links.{none}
use Rattle.ir_store.specs.Blocks.{AreBlocks, no_block, block_at, block_list, lists_in, total}
use Rattle.ir_store.proofs.BlockLists.{split, block_length, block_same, list_at, lists_count, at_set, total_more, total_part}

-- the first n blocks are in the cells, and the others are as they were
pub record Refilled (from : List Value) (bs : List Block) (n : ℕ) (xs : List Value) (os : List ℕ) (cs : List Block) : Type 0 where
  pub count : length cs ≡ length bs
  pub lens : (i : ℕ) → (block_at cs i).len ≡ (block_at bs i).len
  pub done : (i : ℕ) → i < n → block_list xs (block_at cs i) ≡ block_list from (block_at bs i)
  pub within : (i : ℕ) → i < n → (block_at cs i).start + (block_at cs i).len ≤ length xs
  pub own : (i : ℕ) → i < n → (k : ℕ) → k < (block_at cs i).len → get_or os ((block_at cs i).start + k) none ≡ i
  pub rest : (i : ℕ) → n ≤ i → block_at cs i ≡ block_at bs i
  pub cells : length xs ≡ total (take n bs)

pub refilled_none : (from : List Value) (bs : List Block) (xs : List Value) (os : List ℕ) → xs ≡ [] → Refilled from bs 0 xs os bs
refilled_none from bs xs os e = record {
  count = refl;
  lens = λ i. refl;
  done = λ i h. absurd (omega (arith, h));
  within = λ i h. absurd (omega (arith, h));
  own = λ i h. absurd (omega (arith, h));
  rest = λ i h. refl;
  cells = ap length e;
}

module _ (from : List Value) (bs : List Block) (n : ℕ) (xs : List Value) (os : List ℕ) (cs : List Block) (r : Refilled from bs n xs os cs) where
  pub refilled_more : (b : Block) (zs : List Value) (m : ℕ) → n < length bs → (block_at bs n).start + (block_at bs n).len ≤ length from → length os ≡ length xs →
      zs ≡ block_list from (block_at cs n) → b.start ≡ length xs → b.len ≡ (block_at cs n).len → m ≡ length zs → Refilled from bs (n + 1) (xs ++ zs) (os ++ replicate m n) (set cs n b)
  refilled_more b zs m h fits same z s l e =
      let here : block_at cs n ≡ block_at bs n = r.rest n (omega arith) in
      let zs_are : zs ≡ block_list from (block_at bs n) = z ∙ ap (block_list from) here in
      let size : length zs ≡ b.len = ap length zs_are ∙ (block_length from (block_at bs n) fits ∙ sym (l ∙ r.lens n)) in
      let there : n < length cs = omega (arith, h, r.count) in
      let longer : length (xs ++ zs) ≡ length xs + length zs = length-append xs zs in
      let old : (i : ℕ) → i < n + 1 → (i ≡ n → ⊥) → i < n = λ i q o. split i n (λ u. u) (λ u. absurd (o (omega (arith, q, u)))) in
      record {
        count = length-set cs n b ∙ r.count;
        lens = λ i. at_set cs n i b there (λ q d. d.len ≡ (block_at bs q).len) (l ∙ r.lens n) (λ o. r.lens i);
        done =
            λ i. at_set cs n i b there (λ q d. q < n + 1 → block_list (xs ++ zs) d ≡ block_list from (block_at bs q))
            (λ q. whole b zs s (sym size) ∙ zs_are)
            (λ o q. block_same xs (xs ++ zs) (block_at cs i) (block_at cs i) refl (r.within i (old i q o)) (omega (arith, longer, r.within i (old i q o)))
            (λ k u. get_or_append_left xs zs Undefined ((block_at cs i).start + k) (omega (arith, u, r.within i (old i q o)))) ∙ r.done i (old i q o));
        within = λ i. at_set cs n i b there (λ q d. q < n + 1 → d.start + d.len ≤ length (xs ++ zs)) (λ q. omega (arith, longer, s, size)) (λ o q. omega (arith, longer, r.within i (old i q o)));
        own =
            λ i. at_set cs n i b there (λ q d. q < n + 1 → (k : ℕ) → k < d.len → get_or (os ++ replicate m n) (d.start + k) none ≡ q)
            (λ q k u.
            let at : b.start + k ≡ length os + k = omega (arith, s, same) in
            ap (λ w. get_or (os ++ replicate m n) w none) at ∙ (get_or-append-add os (replicate m n) k none ∙ get_or-replicate m k n none (omega (arith, u, size, e))))
            (λ o q k u. get_or_append_left os (replicate m n) none ((block_at cs i).start + k) (omega (arith, u, r.within i (old i q o), same)) ∙ r.own i (old i q o) k u);
        rest = λ i q. get_or-set_other cs n i b no_block (λ o. omega (arith, q, o)) ∙ r.rest i (omega (arith, q));
        cells = omega (arith, longer, r.cells, total_more bs n, size, l, r.lens n);
      }
    where
      drop_prefix : (ys zs : List Value) → drop (length ys) (ys ++ zs) ≡ zs
      drop_prefix [] zs = refl
      drop_prefix (y ∷ ys) zs = drop_prefix ys zs

      whole : (d : Block) (ws : List Value) → d.start ≡ length xs → d.len ≡ length ws → block_list (xs ++ ws) d ≡ ws
      whole d ws p q = ap (λ (w : ℕ). take d.len (drop w (xs ++ ws))) p ∙ (ap (take d.len) (drop_prefix xs ws) ∙ take_all d.len ws (omega (arith, q)))

  pub refilled_all : length bs ≤ n → AreBlocks xs os cs (total bs)
  refilled_all h =
      let all : total (take n bs) ≡ total bs = ap total (take_all n bs h) in
      record {
        within = λ i. split i n (r.within i) (λ u. let e = gone i u in omega (arith, ap (λ (d : Block). d.start) e, ap (λ (d : Block). d.len) e));
        own = λ i k u. split i n (λ q. r.own i q k u) (λ q. absurd (omega (arith, u, ap (λ (d : Block). d.len) (gone i q))));
        count = sym (totals cs bs r.count r.lens);
        fits = omega (arith, r.cells, all);
      }
    where
      gone : (i : ℕ) → n ≤ i → block_at cs i ≡ no_block
      gone i q = get_or_past cs i no_block (omega (arith, q, h, r.count))

      totals : (ds es : List Block) → length ds ≡ length es → ((i : ℕ) → (block_at ds i).len ≡ (block_at es i).len) → total ds ≡ total es
      totals [] [] e each = refl
      totals [] (y ∷ es) e each = absurd (omega (arith, e))
      totals (x ∷ ds) [] e each = absurd (omega (arith, e))
      totals (x ∷ ds) (y ∷ es) e each = omega (arith, each zero, totals ds es (omega (arith, e)) (λ i. each (suc i)))

  pub refilled_lists : length bs ≤ n → lists_in xs cs ≡ lists_in from bs
  refilled_lists h =
      ext_get_or [] (lists_in xs cs) (lists_in from bs) (lists_count xs cs ∙ (r.count ∙ sym (lists_count from bs)))
      (λ i q. list_at xs cs i ∙ (r.done i (omega (arith, q, lists_count xs cs, r.count, h)) ∙ sym (list_at from bs i)))

  pub refilled_room : (block_at cs n).len + length xs ≤ total bs
  refilled_room = omega (arith, r.cells, r.lens n, total_part bs n)
