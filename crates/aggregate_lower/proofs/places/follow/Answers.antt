use Rattle.std.proofs.Common.{◌<◌, false, [], ◌∷◌, ◌++◌, set, ◌∙◌, sym, subst, refl, inl}
use Rattle.lowering_rules.specs.Reading.{new_ref, new_refs}
use Rattle.aggregate_lower.specs.Settling.{GoesOn, wait_count}
use Rattle.aggregate_lower.proofs.Settled.{waits_at, goes_on, fewer_wait}
use Rattle.aggregate_lower.proofs.places.follow.Goals as goal

pub loop-at-init : goal.loop-at-init
loop-at-init c = λ flags ts s so. record { settling = so; less = λ j is. is; first = inl refl }

pub loop-at-preserved : goal.loop-at-preserved
loop-at-preserved c = λ flags ts s so.
    let before = c.args.waiting.now in
    let now = new_refs c.args.targets.now in
    let start = new_ref c.args.start in
    let w = set c.loop-at.waiting c.in-Some.at false in
    let p = c.loop-at.path.items ++ c.in-Some.at ∷ [] in
    subst (λ x. GoesOn flags ts s before x now c.push.new.self.items start (new_ref c.part-value.result)) (sym c.mark.ensures)
    (subst (λ x. GoesOn flags ts s before w now x start (new_ref c.part-value.result)) (sym c.in_ok-push.ensures.items)
    (subst (λ x. GoesOn flags ts s before w now p start x) (sym c.part-value.ensures)
    (goes_on flags ts s before c.loop-at.waiting now c.loop-at.path.items start (new_ref c.loop-at.value) c.in-Some.at (sym c.in-Some.ensures) (c.loop-at.invariant flags ts s so))))

pub returns : goal.returns
returns c = λ flags ts s so. record { goes = c.loop-at.invariant flags ts s so; none = sym c.waiting_wire.ensures ∙ c.in_default.is }

pub loop-at-smaller : goal.loop-at-smaller
loop-at-smaller c =
    let w = c.loop-at.waiting in
    subst (λ x. wait_count x < wait_count w) (sym c.mark.ensures) (fewer_wait w c.in-Some.at (waits_at w (new_ref c.loop-at.value) c.in-Some.at (sym c.in-Some.ensures)).1)
