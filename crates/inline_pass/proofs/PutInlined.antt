-- Wires and copies of the operations of a module that are put before its instance.
use Rattle.std.proofs.Common.{◌≡◌, ℕ, suc, ◌<◌, ◌≤◌, ◌^◌, Bool, true, false, cond, nat_eq, List, [], ◌∷◌, length, map, drop, get_or, refl, sym, ap, ap₂, subst, ◌∙◌, arith}
use Rattle.std.specs.Prelude.{All, Contains}
use Rattle.std.proofs.lemmas.List.{length-map}
use Rattle.wiring.proofs.Members.{In-map, All-from_members, Contains-from_In}
use Rattle.hw_model.specs.Types.{Name}
use Rattle.hw_model.specs.Design.{Port, OpResult, Location, is_output_kind}
use Rattle.linked_lists.specs.Ids.{times}
use Rattle.linked_lists.proofs.IdLemmas.{contained_times, times_contained}
use Rattle.ir_store.specs.declared.operation.OpId.{OpId}
use Rattle.ir_store.specs.declared.operation.NewOp.{NewOp}
use Rattle.ir_store.specs.declared.operation.Value.{Value}
use Rattle.ir_store.specs.BodyOps.{BodyOp, ids_in, operands_at}
use Rattle.ir_store.specs.Live.{AreDistinct}
use Rattle.body_index.specs.PositionTables.{ArePositions}
use Rattle.ir_store.proofs.Living.{ids_stay}
use Rattle.inline_pass.specs.MovedOps.{AreMoved, ArePutBefore, all_put_before, copy_of, joined_values, moved_value, operands_moved, ops_before_output, output_values, with_ids, without_id, wires_of}
use Rattle.inline_pass.specs.declared.moved_ops.Destinations.{Destinations}
use Rattle.inline_pass.specs.Destinations.{AreDestinations, destination_ids}
use Rattle.inline_pass.proofs.PuttingBefore.{times-all_put}

-- the ids of operations before an output are those of a body
fewer_before : (v : ℕ) (ops : List BodyOp) → times v (ids_in (ops_before_output ops)) ≤ times v (ids_in ops)
fewer_before v [] = omega arith
fewer_before v (o ∷ ops) = go (is_output_kind o.parts.kind) (nat_eq o.id v) (fewer_before v ops)
  where
    go : (b t : Bool) → times v (ids_in (ops_before_output ops)) ≤ times v (ids_in ops)
        → times v (ids_in (cond b [] (o ∷ ops_before_output ops))) ≤ times v (ids_in (o ∷ ops))
    go true t rest = omega arith
    go false t rest = both (nat_eq o.id v) rest
      where
        both : (c : Bool) → times v (ids_in (ops_before_output ops)) ≤ times v (ids_in ops)
            → cond c (suc (times v (ids_in (ops_before_output ops)))) (times v (ids_in (ops_before_output ops))) ≤ cond c (suc (times v (ids_in ops))) (times v (ids_in ops))
        both true rest = omega (arith, rest)
        both false rest = rest

pub before_distinct : (ops : List BodyOp) → AreDistinct (ids_in ops) → AreDistinct (ids_in (ops_before_output ops))
before_distinct ops once v = let few = fewer_before v ops in let one = once v in omega (arith, few, one)

pub moved_distinct : (u : Name) (ops : List BodyOp) (ids : List OpId) (copies : List NewOp) (given : List Value) → AreMoved u ops ids copies given → AreDistinct (ids_in ops)
    → AreDistinct (map (λ (i : OpId). i.index) ids)
moved_distinct u ops ids copies given moved once = subst AreDistinct (sym moved.ids_are) (before_distinct ops once)

-- ---- ids of operations that are put in

pub given_ids : (ids : List OpId) (os : List BodyOp) → length ids ≡ length os → ids_in (with_ids ids os) ≡ map (λ (i : OpId). i.index) ids
given_ids [] os many = refl
given_ids (i ∷ ids) [] many = absurd (omega (arith, many))
given_ids (i ∷ ids) (o ∷ os) many = ap (λ xs. i.index ∷ xs) (given_ids ids os (omega (arith, many)))

-- each is then there
pub put_there : (id : ℕ) (ids : List OpId) (os ops ops' : List BodyOp) → length ids ≡ length os → ops' ≡ all_put_before id (with_ids ids os) ops → All (λ (i : OpId). Contains (ids_in ops') i.index) ids
put_there id ids os ops ops' many is =
    All-from_members (λ (i : OpId). Contains (ids_in ops') i.index) ids (λ i among.
    let own = Contains-from_In i.index (map (λ (j : OpId). j.index) ids) (In-map (λ (j : OpId). j.index) i ids among) in
    let some = contained_times (map (λ (j : OpId). j.index) ids) i.index own in
    let named = ap (times i.index) (given_ids ids os many) in
    let both = ap (λ (xs : List BodyOp). times i.index (ids_in xs)) is ∙ times-all_put i.index id (with_ids ids os) ops in
    times_contained (ids_in ops') i.index (omega (arith, some, named, both)))

-- what was there is there still
pub put_stays : (v id : ℕ) (others ops ops' : List BodyOp) → ops' ≡ all_put_before id others ops → Contains (ids_in ops) v → Contains (ids_in ops') v
put_stays v id others ops ops' is there =
    let some = contained_times (ids_in ops) v there in
    let both = ap (λ (xs : List BodyOp). times v (ids_in xs)) is ∙ times-all_put v id others ops in
    times_contained (ids_in ops') v (omega (arith, some, both))

pub all_stay : (ids : List OpId) (id : ℕ) (others ops ops' : List BodyOp) → ops' ≡ all_put_before id others ops → All (λ (i : OpId). Contains (ids_in ops) i.index) ids
    → All (λ (i : OpId). Contains (ids_in ops') i.index) ids
all_stay ids id others ops ops' is all k d below = put_stays (at k d).index id others ops ops' is (all k d below)
  where
    at : ℕ → OpId → OpId
    at k d = get_or ids k d

-- a change of operands leaves the ids
pub ids_moved : (f : Value → Value) (ids : List OpId) (ops : List BodyOp) → ids_in (operands_moved f ids ops) ≡ ids_in ops
ids_moved f [] ops = refl
ids_moved f (i ∷ ids) ops = ids_moved f ids (operands_at i.index (map f) ops) ∙ ids_stay i.index (map f) ops

-- ---- all of it

pub are_put_before : (u : Name) (ports : List Port) (own : List BodyOp) (o : BodyOp) (ops0 ops1 ops2 ops3 ops4 : List BodyOp) (wires copies ids : List OpId) (moved_ops wire_ops : List NewOp)
    (given joined : List Value) (f : Value → Value) → AreMoved u own ids moved_ops given → map without_id wire_ops ≡ wires_of o.parts.location o.parts.results given
    → length wires ≡ length wire_ops → length wires < 2 ^ 32 → length copies ≡ length moved_ops
    → ops1 ≡ all_put_before o.id (with_ids wires (map without_id wire_ops)) ops0
    → ops2 ≡ all_put_before o.id (with_ids copies (map without_id moved_ops)) ops1
    → f ≡ moved_value joined (map (λ (i : OpId). i.index) ids) copies → joined ≡ joined_values ports o.operands
    → ops3 ≡ operands_moved f wires ops2 → ops4 ≡ operands_moved f copies ops3
    → ArePutBefore u ports own o ops0 ops4 wires
are_put_before u ports own o ops0 ops1 ops2 ops3 ops4 wires copies ids moved_ops wire_ops given joined f moved wired many few many_copies put_wires put_copies f_is joined_is moved_wires moved_copies =
    record {
      copies = copies;
      few = few;
      many_wires = many ∙ sym (length-map wire_ops without_id) ∙ ap length (wired) ∙ as_many o.parts.location o.parts.results given;
      many_copies = many_copies ∙ sym (length-map moved_ops without_id) ∙ ap length moved.copies_are ∙ length-map (ops_before_output own) (copy_of u);
      ops = moved_copies ∙ ap (operands_moved f copies) (moved_wires ∙ ap (operands_moved f wires) (put_copies
          ∙ ap₂ (λ (xs ys : List BodyOp). all_put_before o.id (with_ids copies xs) ys) moved.copies_are (put_wires ∙ ap (λ (xs : List BodyOp). all_put_before o.id (with_ids wires xs) ops0)
          (wired ∙ ap (wires_of o.parts.location o.parts.results) moved.given_are))))
          ∙ ap (λ (g : Value → Value). operands_moved g copies (operands_moved g wires
          (all_put_before o.id (with_ids copies (map (copy_of u) (ops_before_output own))) (all_put_before o.id (with_ids wires (wires_of o.parts.location o.parts.results (output_values own))) ops0))))
          (f_is ∙ ap₂ (λ (vs : List Value) (ns : List ℕ). moved_value vs ns copies) joined_is moved.ids_are);
    }
  where
    as_many : (at : Location) (xs : List OpResult) (vs : List Value) → length (wires_of at xs vs) ≡ length xs
    as_many at [] vs = refl
    as_many at (x ∷ xs) vs = ap suc (as_many at xs (drop 1 vs))

-- the positions of values of the module are told
pub destinations_told : (p : Destinations) (u : Name) (own : List BodyOp) (ids copies : List OpId) (moved_ops : List NewOp) (given : List Value) (positions : List ℕ) → AreMoved u own ids moved_ops given
    → AreDistinct (ids_in own) → ArePositions (map (λ (i : OpId). i.index) ids) positions → length copies ≡ length moved_ops
    → p.ids.now ≡ ids → p.positions.now ≡ positions → p.copies.now ≡ copies → AreDestinations p
destinations_told p u own ids copies moved_ops given positions moved once table many ids_are positions_are copies_are = record {
  distinct = subst AreDistinct (ap (map (λ (i : OpId). i.index)) (sym ids_are)) (moved_distinct u own ids moved_ops given moved once);
  positions = subst (λ (ps : List ℕ). ArePositions (destination_ids p) ps) (sym positions_are) (subst (λ (is : List OpId). ArePositions (map (λ (i : OpId). i.index) is) positions) (sym ids_are) table);
  many =
      let whole = length-map moved_ops without_id in
      let seen = ap length moved.copies_are ∙ length-map (ops_before_output own) (copy_of u) in
      let named = ap length (ap (map (λ (i : OpId). i.index)) ids_are ∙ moved.ids_are) ∙ length-map (ops_before_output own) (λ (o : BodyOp). o.id) in
      let same = ap length copies_are in
      omega (arith, whole, seen, named, same, many);
}
