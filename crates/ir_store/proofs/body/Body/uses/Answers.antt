use Rattle.std.proofs.Common.{◌≡◌, ◌≤◌, ◌<◌, ℕ, zero, suc, Bool, true, false, List, [], ◌∷◌, map, length, ◌-◌, refl, ap, sym, ◌∙◌, arith}
use Rattle.std.specs.Prelude.{Option}
use Rattle.ir_store.specs.declared.operation.UseId.{UseId}
use Rattle.ir_store.specs.declared.operation.UsePosition.{UsePosition}
use Rattle.linked_lists.specs.Ids.{times}
use Rattle.ir_store.specs.ChainedValues.{cells_of}
use Rattle.ir_store.specs.UseChains.{use_id}
use Rattle.ir_store.specs.Uses.{use_some, use_of, live_cells}
use Rattle.ir_store.proofs.UseCells.{positions_are}
use Rattle.linked_lists.specs.Links.{none, walk, is_live_at}
use Rattle.linked_lists.specs.Chains.{once_if}
use Rattle.ir_store.specs.OperationViews.{parts_of}
use Rattle.ir_store.specs.Orders.{live_ids}
use Rattle.linked_lists.proofs.IdLemmas.{times-append, times_contained, contained_times}
use Rattle.ir_store.proofs.Ordering.{marked_live, live_marked}
use Rattle.ir_store.proofs.UseCounts.{uses_count}
use Rattle.ir_store.proofs.body.Body.uses.Goals as goal

-- an id is marked as live where it stands among the live ones, once
marked_once : (n : ℕ) (b : Bool) → n ≤ 1 → (b ≡ true → 0 < n) → (0 < n → b ≡ true) → n ≡ once_if b
marked_once zero true most to from = absurd (omega (arith, to refl))
marked_once zero false most to from = refl
marked_once (suc n) true most to from = omega (arith, most)
marked_once (suc n) false most to from = absurd (cc (from (omega arith)))

pub returns-clause-uses : goal.returns-clause-uses
returns-clause-uses c =
    λ p.
    let order = c.args.self.now.order in
    let most : times p.op.index (live_ids order) ≤ 1 =
    omega (arith, times-append p.op.index (live_ids order) (walk order.links.items (length order.links.items - order.live) order.free), order.once p.op.index) in
    let marked = marked_once (times p.op.index (live_ids order)) (is_live_at order.links.items p.op.index) most
    (λ t. contained_times (live_ids order) p.op.index (live_marked order.links.items (live_ids order) p.op.index order.marks t))
    (λ h. marked_live order.links.items none (live_ids order) none p.op.index order.linked (times_contained (live_ids order) p.op.index h)) in
    rw c.links.ensures at (c.among.ensures.times p)
    ∙ sym (uses_count c.args.value p (map parts_of c.args.self.now.parts.items) c.args.self.now.operands.lists (live_ids order) most (is_live_at order.links.items p.op.index) marked)

-- a use is told by its cell
by_cells : (f : ℕ → Option UsePosition) (cells : List ℕ) → map f cells ≡ map (λ (u : UseId). f u.cell) (map use_id cells)
by_cells f [] = refl
by_cells f (c ∷ cells) = ap (λ positions. f c ∷ positions) (by_cells f cells)

pub returns-clause-chain : goal.returns-clause-chain
returns-clause-chain c =
    let links = c.args.self.now.order.links.items in
    let owners = c.args.self.now.operands.owners in
    let blocks = c.args.self.now.operands.blocks in
    let cells = cells_of c.args.value c.args.self.now.operands.cells in
    ap (map use_some) (rw c.links.ensures at c.among.ensures.cells) ∙ (positions_are links owners blocks cells ∙ by_cells (use_of links owners blocks) (live_cells links owners blocks cells))
