-- Whether an operand is a result of an operation, by the chain of the head that its results have.
use Rattle.std.proofs.Common.{◌≡◌, ℕ, zero, suc, ◌+◌, ◌-◌, ◌<◌, ◌≤◌, Bool, true, false, cond, nat_eq, List, [], ◌∷◌, map, get_or, refl, ap, sym, ◌∙◌, arith}
use Rattle.std.specs.Prelude.{Option, Some, None, ◌&&◌, Contains, nat_le, nat_lt, is_some, slice_get, option_map}
use Rattle.std.proofs.lemmas.Bool.{eqb-true}
use Rattle.linked_lists.specs.declared.links.Link.{Link}
use Rattle.ir_store.specs.declared.blocks.Block.{Block}
use Rattle.ir_store.specs.declared.operation.OpId.{OpId}
use Rattle.ir_store.specs.declared.operation.UsePosition.{UsePosition}
use Rattle.ir_store.specs.declared.operation.Value.{Value}
use Rattle.ir_store.specs.declared.operation.Value.TheVariants.{Port, Result, Undefined}
use Rattle.ir_store.specs.OperationViews.{OpParts}
use Rattle.linked_lists.specs.Ids.{times}
use Rattle.linked_lists.specs.Links.{none, is_live_at}
use Rattle.linked_lists.specs.Chains.{once_if, has_head}
use Rattle.ir_store.specs.Blocks.{AreBlocks, block_at, block_list, lists_in}
use Rattle.ir_store.specs.ChainedValues.{head_of, head_at}
use Rattle.ir_store.specs.BodyOps.{stored_op, is_of, names_in, is_named}
use Rattle.ir_store.specs.Uses.{use_of, live_use, is_some_of, names_at, any_names, IsNamedLive}
use Rattle.ir_store.proofs.BlockLists.{list_at, split}
use Rattle.linked_lists.proofs.Chaining.{eq_self}
use Rattle.ir_store.proofs.UseCells.{lies_in, use_there, block_get, block_past}

-- ---- a list that names an operation

-- a value of a list at a position
pub record NamedAt (id : ℕ) (zs : List Value) : Type 0 where
  pub at : ℕ
  pub value : Value
  pub there : slice_get zs at ≡ Some value
  pub of : is_of id value ≡ true

pub named_at : (id : ℕ) (zs : List Value) → names_in id zs ≡ true → NamedAt id zs
named_at id [] e = absurd (cc e)
named_at id (z ∷ zs) e = go (is_of id z) refl e (named_at id zs)
  where
    go : (b : Bool) → is_of id z ≡ b → cond b true (names_in id zs) ≡ true → (names_in id zs ≡ true → NamedAt id zs) → NamedAt id (z ∷ zs)
    go true t n r = record { at = 0; value = z; there = refl; of = t }
    go false t n r = let i = r n in record { at = suc i.at; value = i.value; there = i.there; of = i.of }

pub names_by : (id : ℕ) (zs : List Value) (k : ℕ) (v : Value) → slice_get zs k ≡ Some v → is_of id v ≡ true → names_in id zs ≡ true
names_by id [] k v e t = absurd (cc e)
names_by id (z ∷ zs) zero v e t =
    let same : z ≡ v = cc e in
    let z_of : is_of id z ≡ true = ap (is_of id) same ∙ t in
    rw z_of refl
names_by id (z ∷ zs) (suc k) v e t = go (is_of id z) (names_by id zs k v e t)
  where
    go : (b : Bool) → names_in id zs ≡ true → cond b true (names_in id zs) ≡ true
    go true r = refl
    go false r = r

-- ---- cells that name an operation

module _ (links : List Link) (xs : List Value) (os : List ℕ) (bs : List Block) (live : ℕ) (ok : AreBlocks xs os bs live) (id : ℕ) where
  -- one of some cells names it
  pub record AnyCell (cells : List ℕ) : Type 0 where
    pub cell : ℕ
    pub names : names_at links os bs xs id cell ≡ true

  any_cell : (cells : List ℕ) → any_names links os bs xs id cells ≡ true → AnyCell cells
  any_cell [] e = absurd (cc e)
  any_cell (c ∷ cells) e = go (names_at links os bs xs id c) refl e (any_cell cells)
    where
      go : (b : Bool) → names_at links os bs xs id c ≡ b → cond b true (any_names links os bs xs id cells) ≡ true → (any_names links os bs xs id cells ≡ true → AnyCell cells) → AnyCell (c ∷ cells)
      go true t n r = record { cell = c; names = t }
      go false t n r = let i = r n in record { cell = i.cell; names = i.names }

  no_cell : (cells : List ℕ) → any_names links os bs xs id cells ≡ false → (c : ℕ) → 0 < times c cells → names_at links os bs xs id c ≡ false
  no_cell [] e c h = absurd (omega (arith, h))
  no_cell (d ∷ cells) e c h = go (names_at links os bs xs id d) (nat_eq d c) refl refl e h (no_cell cells)
    where
      go : (b s : Bool) → names_at links os bs xs id d ≡ b → nat_eq d c ≡ s → cond b true (any_names links os bs xs id cells) ≡ false → 0 < cond s (suc (times c cells)) (times c cells) →
          (any_names links os bs xs id cells ≡ false → (w : ℕ) → 0 < times w cells → names_at links os bs xs id w ≡ false) → names_at links os bs xs id c ≡ false
      go true s t u n k r = absurd (cc n)
      go false true t u n k r = ap (names_at links os bs xs id) (sym (eqb-true d c u)) ∙ t
      go false false t u n k r = r n c k

  -- a cell that names it is in a list of a live operation that names it
  cell_named : (c : ℕ) → names_at links os bs xs id c ≡ true → IsNamedLive links (lists_in xs bs) id
  cell_named c e = valued (slice_get xs c) refl e
    where
      owner : ℕ
      owner = get_or os c none

      b : Block
      b = block_at bs owner

      found : (v : Value) → slice_get xs c ≡ Some v → is_of id v ≡ true → nat_le b.start c && nat_lt (c - b.start) b.len ≡ true → is_live_at links owner ≡ true → IsNamedLive links (lists_in xs bs) id
      found v g t i l =
          let lies = lies_in b c i in
          let at : b.start + (c - b.start) ≡ c = omega (arith, lies.from) in
          let there : slice_get (block_list xs b) (c - b.start) ≡ Some v = block_get xs b (c - b.start) lies.to ∙ (ap (slice_get xs) at ∙ g) in
          record { op = owner; live = l; named = ap (names_in id) (list_at xs bs owner) ∙ names_by id (block_list xs b) (c - b.start) v there t }

      alive : (v : Value) → slice_get xs c ≡ Some v → is_of id v ≡ true → (t : nat_le b.start c && nat_lt (c - b.start) b.len ≡ true) → (l : Bool) → is_live_at links owner ≡ l →
          is_some {T = UsePosition} (cond l (Some (record { op = record { index = owner }; at = c - b.start })) None) ≡ true → IsNamedLive links (lists_in xs bs) id
      alive v g o t true l n = found v g o t l
      alive v g o t false l n = absurd (cc n)

      tested : (v : Value) → slice_get xs c ≡ Some v → is_of id v ≡ true → (t : Bool) → nat_le b.start c && nat_lt (c - b.start) b.len ≡ t →
          is_some {T = UsePosition} (live_use links (cond t (Some (record { op = record { index = owner }; at = c - b.start })) None)) ≡ true → IsNamedLive links (lists_in xs bs) id
      tested v g o true t n = alive v g o t (is_live_at links owner) refl n
      tested v g o false t n = absurd (cc n)

      is_result : (v : Value) → slice_get xs c ≡ Some v → (o : Bool) → is_of id v ≡ o → cond o (is_some (use_of links os bs c)) false ≡ true → IsNamedLive links (lists_in xs bs) id
      is_result v g true o n = tested v g o (nat_le b.start c && nat_lt (c - b.start) b.len) refl n
      is_result v g false o n = absurd (cc n)

      valued : (o : Option Value) → slice_get xs c ≡ o → cond (is_some_of id o) (is_some (use_of links os bs c)) false ≡ true → IsNamedLive links (lists_in xs bs) id
      valued None g n = absurd (cc n)
      valued (Some v) g n = is_result v g (is_of id v) refl n

  pub some_named : (cells : List ℕ) → any_names links os bs xs id cells ≡ true → IsNamedLive links (lists_in xs bs) id
  some_named cells e = let i = any_cell cells e in cell_named i.cell i.names

  -- where no cell of the chain names it, no live operation does
  pub none_named : (n s : ℕ) (cells : List ℕ) → ((v : Value) → is_of id v ≡ true → head_of n v ≡ s) → ((c : ℕ) → times c cells ≡ once_if (has_head (head_at n xs c) s)) →
      any_names links os bs xs id cells ≡ false → (i : ℕ) → is_live_at links i ≡ true → names_in id (get_or (lists_in xs bs) i []) ≡ false
  none_named n s cells head members e i l = ap (names_in id) (list_at xs bs i) ∙ go (names_in id (block_list xs (block_at bs i))) refl
    where
      b : Block
      b = block_at bs i

      wrong : NamedAt id (block_list xs b) → ⊥
      wrong w = split w.at b.len inside outside
        where
          outside : b.len ≤ w.at → ⊥
          outside h = cc (sym (block_past xs b w.at h) ∙ w.there)

          inside : w.at < b.len → ⊥
          inside h =
              let c : ℕ = b.start + w.at in
              let there : slice_get xs c ≡ Some w.value = sym (block_get xs b w.at h) ∙ w.there in
              let in_chain : times c cells ≡ 1 =
              members c ∙ (ap (λ o. once_if (has_head (option_map (head_of n) o) s)) there ∙ (ap (λ t. once_if (nat_eq t s)) (head w.value w.of) ∙ ap once_if (eq_self s))) in
              let silent : names_at links os bs xs id c ≡ false = no_cell cells e c (omega (arith, in_chain)) in
              let loud : names_at links os bs xs id c ≡ true =
              ap (λ o. cond (is_some_of id o) (is_some (use_of links os bs c)) false) there
              ∙ (ap (λ t. cond t (is_some (use_of links os bs c)) false) w.of ∙ ap is_some (use_there links xs os bs live ok i w.at l h)) in
              cc (sym silent ∙ loud)

      go : (t : Bool) → names_in id (block_list xs b) ≡ t → names_in id (block_list xs b) ≡ false
      go false t = t
      go true t = absurd (wrong (named_at id (block_list xs b) t))

-- ---- all operations of a body

pub body_named : (ps : List OpParts) (ls : List (List Value)) (id : ℕ) (ids : List ℕ) (i : ℕ) → Contains ids i → names_in id (get_or ls i []) ≡ true → is_named id (map (stored_op ps ls) ids) ≡ true
body_named ps ls id [] i (k, l, e) t = absurd (omega (arith, l))
body_named ps ls id (j ∷ ids) i (zero, l, e) t =
    let here : names_in id (get_or ls j []) ≡ true = ap (λ q. names_in id (get_or ls q [])) e ∙ t in
    rw here refl
body_named ps ls id (j ∷ ids) i (suc k, l, e) t = go (names_in id (get_or ls j [])) (body_named ps ls id ids i (k, omega (arith, l), e) t)
  where
    go : (b : Bool) → is_named id (map (stored_op ps ls) ids) ≡ true → cond b true (is_named id (map (stored_op ps ls) ids)) ≡ true
    go true r = refl
    go false r = r

pub body_unnamed : (ps : List OpParts) (ls : List (List Value)) (id : ℕ) (ids : List ℕ) → ((i : ℕ) → Contains ids i → names_in id (get_or ls i []) ≡ false) → is_named id (map (stored_op ps ls) ids) ≡ false
body_unnamed ps ls id [] each = refl
body_unnamed ps ls id (j ∷ ids) each =
    let here : names_in id (get_or ls j []) ≡ false = each j (0, omega arith, refl) in
    let rest = body_unnamed ps ls id ids (λ i h. each i (suc h.0, omega (arith, h.1), h.2)) in
    rw here rest

-- results of one operation have one head
pub one_head : (n id : ℕ) (o : OpId) (v : Value) → o.index ≡ id → is_of id v ≡ true → head_of n v ≡ head_of n (Result o 0)
unfolding head_of
one_head n id o (Port m) e t = absurd (cc t)
one_head n id o (Result i k) e t = ap (λ w. head_of n (Result (record { index = w }) 0)) (eqb-true i.index id t ∙ sym e)
one_head n id o Undefined e t = absurd (cc t)
