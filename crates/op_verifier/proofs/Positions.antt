-- A table of positions, filled from the last id to the first.
use Rattle.std.proofs.Common.{◌≡◌, ℕ, zero, suc, ◌+◌, ◌-◌, ◌<◌, ◌≤◌, Bool, true, false, cond, nat_eq, List, map, length, drop, get_or, sym, ◌∙◌, ap, arith, drop-cons}
use Rattle.std.proofs.lemmas.List.{length-map}
use Rattle.ir_store.specs.BodyOps.{BodyOp, ids_in}
use Rattle.ir_store.specs.Numbered.{position_of}
use Rattle.ir_store.proofs.BodyLemmas.{map_read}
use Rattle.op_verifier.specs.declared.entries.Entry.{Entry}
use Rattle.op_verifier.specs.Entries.{op_in}

-- the id at the position before stands before those from the position on
at_prefix : (ids : List ℕ) (i id q position : ℕ) → i < length ids → id ≡ get_or ids i 0 → position ≡ suc i + position_of (drop (suc i) ids) q
    → cond (nat_eq id q) i position ≡ i + position_of (drop i ids) q
at_prefix ids i id q position less is before = rw (drop-cons ids i 0 less, sym is) (go (nat_eq id q))
  where
    go : (b : Bool) → cond b i position ≡ i + cond b 0 (suc (position_of (drop (suc i) ids) q))
    go true = omega arith
    go false = omega (arith, before)

pub noted_before : (ids : List ℕ) (next id q position : ℕ) → 0 < next → next ≤ length ids → id ≡ get_or ids (next - 1) 0
    → position ≡ next + position_of (drop next ids) q
    → cond (nat_eq id q) (next - 1) position ≡ (next - 1) + position_of (drop (next - 1) ids) q
noted_before ids zero id q position some within is before = absurd (omega (arith, some))
noted_before ids (suc i) id q position some within is before =
    let e : suc i - 1 ≡ i = omega arith in
    rw e (at_prefix ids i id q position (omega (arith, within)) (is ∙ ap (λ (m : ℕ). get_or ids m 0) e) before)

-- how many ids there are
pub count_ids : (es : List Entry) → length (ids_in (map op_in es)) ≡ length es
count_ids es = length-map (map op_in es) (λ (o : BodyOp). o.id) ∙ length-map es op_in

-- the id of an entry
pub id_at : (es : List Entry) (i : ℕ) (e : Entry) → i < length es → e ≡ get_or es i e → e.id.index ≡ get_or (ids_in (map op_in es)) i 0
id_at es i e less is =
    let within : i < length (map op_in es) = rw (length-map es op_in) less in
    sym (map_read (λ (o : BodyOp). o.id) (map op_in es) i (op_in e) 0 within (sym (map_read op_in es i e (op_in e) less is)))
