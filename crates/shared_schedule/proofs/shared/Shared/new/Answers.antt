use Rattle.std.proofs.Common.{rules, ◌≡◌, ◌∷◌, ◌++◌, replicate, ◌+◌, map, length, slice_index, ap, sym, ◌∙◌, arith}
use Rattle.std.proofs.lemmas.List.{length-map}
use Rattle.sched_core.specs.Sums.{one_if}
use Rattle.shared_schedule.specs.declared.slot.Slot.TheVariants.{Bare}
use Rattle.shared_schedule.specs.Working.{goes_from}
use Rattle.shared_schedule.specs.Rule.{edge_slot, slots_of}
use Rattle.shared_schedule.proofs.FirstTable.{opens, first-words, first-slots}
use Rattle.shared_schedule.proofs.shared.Shared.new.Goals as goal

pub new-requires : goal.new-requires
new-requires g c =
    let rows = c.args.callees.items in
    let size : length (map (λ row. row.items) rows) ≡ length rows = length-map rows (λ row. row.items) in
    let n : c.len.result ≡ length (map (λ row. row.items) rows) = omega (arith, c.len.ensures, c.args.callees.ok.0) in
    let position : slice_index c.in_ok-first_slots.first_slots.items c.len.result ≡ edge_slot
    (map (λ row. row.items) c.as_slice-2.result.now) c.len.result 0 = c.in_ok-first_slots.ensures.firsts c.len.result
    (let l : length c.as_slice-2.result.now ≡ length rows = ap length c.as_slice-2.ensures.value in omega arith) in
    let count : c.len.result + c.edge_count-edges.result ≡ edge_slot (map (λ row. row.items) rows) (length (map (λ row. row.items) rows)) 0 =
    c.edge_count-edges.ensures.count ∙ ap (λ s. slice_index s c.len.result) c.as_slice-5.ensures.value ∙ position ∙ (λ j. edge_slot (map (λ row. row.items) (c.as_slice-2.ensures.value j)) (n j) 0) in
    opens g.P.Pieces.first g.P.Pieces.finished g.P.Pieces.copied (record { pieces = c.args.pieces; callees = c.args.callees }) _ c.in_ok-slots.slots.items c.requires.callees
    (first-words (λ row. row.items) rows _ (c.as_slice-6.ensures.value ∙ c.in_ok-words.ensures ∙ ap (λ rs. 0 ∷ map (λ row. length row.items) rs) c.as_slice-4.ensures.value))
    (first-slots g.P.Pieces.first (map (λ row. row.items) rows) c.args.pieces c.args.bodies.items c.in_ok-slots.slots.items c.edge_count-edges.result
    (c.in_ok-slots.ensures ∙ ap (λ s. s ++ replicate c.edge_count-edges.result Bare) c.in_ok-stored.ensures) (c.requires.bodies ∙ sym size) (omega arith) c.requires.first)

pub invariant_of-result-clause-slots : goal.invariant_of-result-clause-slots
invariant_of-result-clause-slots g c =
    let rows = c.args.callees.items in
    let size : length (map (λ row. row.items) rows) ≡ length rows = length-map rows (λ row. row.items) in
    let n : c.len.result ≡ length (map (λ row. row.items) rows) = omega (arith, c.len.ensures, c.args.callees.ok.0) in
    let position : slice_index c.in_ok-first_slots.first_slots.items c.len.result ≡ edge_slot
    (map (λ row. row.items) c.as_slice-2.result.now) c.len.result 0 = c.in_ok-first_slots.ensures.firsts c.len.result
    (let l : length c.as_slice-2.result.now ≡ length rows = ap length c.as_slice-2.ensures.value in omega arith) in
    let count : c.len.result + c.edge_count-edges.result ≡ edge_slot (map (λ row. row.items) rows) (length (map (λ row. row.items) rows)) 0 =
    c.edge_count-edges.ensures.count ∙ ap (λ s. slice_index s c.len.result) c.as_slice-5.ensures.value ∙ position ∙ (λ j. edge_slot (map (λ row. row.items) (c.as_slice-2.ensures.value j)) (n j) 0) in
    let slots = first-slots g.P.Pieces.first (map (λ row. row.items) rows) c.args.pieces c.args.bodies.items c.in_ok-slots.slots.items c.edge_count-edges.result
    (c.in_ok-slots.ensures ∙ ap (λ s. s ++ replicate c.edge_count-edges.result Bare) c.in_ok-stored.ensures) (c.requires.bodies ∙ sym size) (omega arith) c.requires.first in
    let long : length c.in_ok-slots.slots.items ≡ slots_of (map (λ row. row.items) rows) = slots.long in
    first_of (omega (arith, c.in-Ok.ensures.ok.1), search (rules, long), grind (arith, long, c.in-Ok.ensures.ok))

pub invariant_of-result-clause-few : goal.invariant_of-result-clause-few
invariant_of-result-clause-few g c =
    let rows = c.args.callees.items in
    let size : length (map (λ row. row.items) rows) ≡ length rows = length-map rows (λ row. row.items) in
    let n : c.len.result ≡ length (map (λ row. row.items) rows) = omega (arith, c.len.ensures, c.args.callees.ok.0) in
    let position : slice_index c.in_ok-first_slots.first_slots.items c.len.result ≡ edge_slot
    (map (λ row. row.items) c.as_slice-2.result.now) c.len.result 0 = c.in_ok-first_slots.ensures.firsts c.len.result
    (let l : length c.as_slice-2.result.now ≡ length rows = ap length c.as_slice-2.ensures.value in omega arith) in
    let last : slice_index c.as_slice-5.result.now c.len.result ≡ edge_slot (map (λ row. row.items) rows) (length (map (λ row. row.items) rows)) 0 =
    ap (λ s. slice_index s c.len.result) c.as_slice-5.ensures.value ∙ position ∙ (λ j. edge_slot (map (λ row. row.items) (c.as_slice-2.ensures.value j)) (n j) 0) in
    omega (arith, c.edge_count-edges.ensures.fits)

pub invariant_of-result-clause-firsts : goal.invariant_of-result-clause-firsts
invariant_of-result-clause-firsts g c = λ k below.
    let size : length (map (λ row. row.items) c.args.callees.items) ≡ length c.args.callees.items = length-map c.args.callees.items (λ row. row.items) in
    let l : length c.as_slice-2.result.now ≡ length c.args.callees.items = ap length c.as_slice-2.ensures.value in
    c.in_ok-first_slots.ensures.firsts k (omega arith) ∙ ap (λ rs. edge_slot (map (λ row. row.items) rs) k 0) c.as_slice-2.ensures.value

pub invariant_of-result-clause-callers_are : goal.invariant_of-result-clause-callers_are
invariant_of-result-clause-callers_are g c = λ m below a b. c.in_ok-callers.ensures.counts m a b
    (let l : length c.as_slice-3.result.now ≡ length c.args.callees.items = ap length c.as_slice-3.ensures.value in let size : length (map (λ row. row.items) c.args.callees.items)
    ≡ length c.args.callees.items = length-map c.args.callees.items (λ row. row.items) in omega arith)
    ∙ ap (λ rs. one_if (goes_from (map (λ row. row.items) rs) m a b)) c.as_slice-3.ensures.value
