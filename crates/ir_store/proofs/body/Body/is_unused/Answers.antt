use Rattle.std.proofs.Common.{◌≡◌, Bool, true, false, map, not, refl, ap, sym, ◌∙◌}
use Rattle.ir_store.specs.OperationViews.{parts_of}
use Rattle.ir_store.specs.Orders.{live_ids}
use Rattle.linked_lists.specs.Links.{none}
use Rattle.ir_store.specs.Bodies.{ops_of}
use Rattle.ir_store.specs.BodyOps.{is_named}
use Rattle.ir_store.proofs.Ordering.{marked_live, live_marked}
use Rattle.ir_store.proofs.UseNames.{body_named, body_unnamed}
use Rattle.ir_store.proofs.UseLemmas.{unused_named, named_unused, not_true}
use Rattle.ir_store.proofs.body.Body.is_unused.Goals as goal

pub returns : goal.returns
returns c =
    let order = c.args.self.now.order in
    let ps = map parts_of c.args.self.now.parts.items in
    let ls = c.args.self.now.operands.lists in
    let some : c.is_named.result ≡ true → is_named c.args.op.index (ops_of c.args.self.now) ≡ true =
    λ t.
    let w = rw c.links.ensures at (c.is_named.ensures.some t) in
    body_named ps ls c.args.op.index (live_ids order) w.op (live_marked order.links.items (live_ids order) w.op order.marks w.live) w.named in
    let none_is : c.is_named.result ≡ false → is_named c.args.op.index (ops_of c.args.self.now) ≡ false =
    λ f.
    let each = rw c.links.ensures at (c.is_named.ensures.none f) in
    body_unnamed ps ls c.args.op.index (live_ids order) (λ i h. each i (marked_live order.links.items none (live_ids order) none i order.linked h)) in
    let same : c.is_named.result ≡ is_named c.args.op.index (ops_of c.args.self.now) = go c.is_named.result (is_named c.args.op.index (ops_of c.args.self.now)) some none_is in (
      λ t. named_unused c.args.op.index (ops_of c.args.self.now) (sym same ∙ not_true c.is_named.result t),
      λ h. ap not (same ∙ unused_named c.args.op.index (ops_of c.args.self.now) h),
    )
  where
    go : (a b : Bool) → (a ≡ true → b ≡ true) → (a ≡ false → b ≡ false) → a ≡ b
    go true b t f = sym (t refl)
    go false b t f = sym (f refl)
