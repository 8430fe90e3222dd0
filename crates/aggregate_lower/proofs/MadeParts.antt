-- What operations become, one after another: wires of those that only join, and what is kept.
use Rattle.std.proofs.Common.{◌≡◌, ℕ, suc, ◌+◌, ◌-◌, ◌≤◌, Bool, true, false, List, [], ◌∷◌, ◌++◌, length, map, drop, Some, slice_get, refl, sym, ap, ap₂, ◌∙◌, arith, append_assoc, length-append, ◌⊎◌, inl, inr}
use Rattle.std.specs.Prelude.{replicate}
use Rattle.std.proofs.lemmas.List.{length-map, append-nil, drop_all}
use Rattle.wiring.specs.Wiring.{In}
use Rattle.wiring.proofs.Lists.{drop_some}
use Rattle.wiring.proofs.Members.{In-append_cases}
use Rattle.hw_model.specs.Design.{Op, Design}
use Rattle.hw_model.specs.Design.Ref.{result}
use Rattle.ir_store.specs.declared.operation.NewOp.{NewOp}
use Rattle.ir_store.specs.BodyOps.{BodyOp}
use Rattle.inline_laws.proofs.WithoutWires.{IsBareWire}
use Rattle.aggregate_laws.specs.Leaves.{in_row, part}
use Rattle.aggregate_acceptance.specs.Joins.{only_joins}
use Rattle.lowering_rules.specs.declared.leaf_table.LeafTable.{LeafTable}
use Rattle.lowering_rules.specs.LeafTables.{leaves_at}
use Rattle.lowering_rules.specs.LoweringRules.{leaf_named}
use Rattle.lowering_rules.specs.Made.{made_in}
use Rattle.lowering_rules.specs.Reading.{new_refs, new_seen}
use Rattle.aggregate_lower.specs.declared.made.Made.{Made}
use Rattle.aggregate_lower.specs.Targets.{MadeOp, wire_flags, ops_made, ops_kept, targets_from}
use Rattle.aggregate_lower.specs.Targets.MadeOp.{wire, kept}
use Rattle.aggregate_lower.specs.MadeBodies.{bare_of, block_made, blocks_made, all_made_by, all_made, carried_ref, IsMade, AddsMade}
use Rattle.aggregate_lower.proofs.JoinWires.{join_bare}

-- ---- lists joined

pub flags-append : (xs ys : List MadeOp) → wire_flags (xs ++ ys) ≡ wire_flags xs ++ wire_flags ys
flags-append [] ys = refl
flags-append (wire o ∷ xs) ys = ap (λ fs. true ∷ fs) (flags-append xs ys)
flags-append (kept o ∷ xs) ys = ap (λ fs. false ∷ fs) (flags-append xs ys)

made-append : (xs ys : List MadeOp) → ops_made (xs ++ ys) ≡ ops_made xs ++ ops_made ys
made-append [] ys = refl
made-append (wire o ∷ xs) ys = ap (λ os. o ∷ os) (made-append xs ys)
made-append (kept o ∷ xs) ys = ap (λ os. o ∷ os) (made-append xs ys)

kept-append : (xs ys : List MadeOp) → ops_kept (xs ++ ys) ≡ ops_kept xs ++ ops_kept ys
kept-append [] ys = refl
kept-append (wire o ∷ xs) ys = kept-append xs ys
kept-append (kept o ∷ xs) ys = ap (λ os. o ∷ os) (kept-append xs ys)

targets-append : (n : ℕ) (xs ys : List MadeOp) → targets_from n (xs ++ ys) ≡ targets_from n xs ++ targets_from (n + length (ops_kept xs)) ys
targets-append n [] ys = let same : n ≡ n + 0 = omega arith in ap (λ k. targets_from k ys) same
targets-append n (wire o ∷ xs) ys = ap (λ rs. part o.operands 0 ∷ rs) (targets-append n xs ys)
targets-append n (kept o ∷ xs) ys =
    let next : suc n + length (ops_kept xs) ≡ n + suc (length (ops_kept xs)) = omega arith in
    ap (λ rs. result n 0 ∷ rs) (targets-append (suc n) xs ys ∙ ap (λ k. targets_from (suc n) xs ++ targets_from k ys) next)

-- ---- wires alone, and what is kept alone

no_kept : (os : List Op) → ops_kept (map wire os) ≡ []
no_kept [] = refl
no_kept (o ∷ os) = no_kept os

all_kept : (os : List Op) → ops_kept (map kept os) ≡ os
all_kept [] = refl
all_kept (o ∷ os) = ap (λ xs. o ∷ xs) (all_kept os)

flags_on : (os : List Op) → wire_flags (map wire os) ≡ replicate (length os) true
flags_on [] = refl
flags_on (o ∷ os) = ap (λ fs. true ∷ fs) (flags_on os)

flags_off : (os : List Op) → wire_flags (map kept os) ≡ replicate (length os) false
flags_off [] = refl
flags_off (o ∷ os) = ap (λ fs. false ∷ fs) (flags_off os)

targets_carried : (n : ℕ) (os : List Op) → targets_from n (map wire os) ≡ map carried_ref os
targets_carried n [] = refl
targets_carried n (o ∷ os) = ap (λ rs. part o.operands 0 ∷ rs) (targets_carried n os)

targets_own : (n : ℕ) (os : List Op) → targets_from n (map kept os) ≡ in_row (λ i. result i 0) n (length os)
targets_own n [] = refl
targets_own n (o ∷ os) = ap (λ rs. result n 0 ∷ rs) (targets_own (suc n) os)

pub made_many : (made : List NewOp) → length (made_in made) ≡ length made
unfolding made_in
made_many made = length-map made new_seen

pub from_none : (before wires : List NewOp) (block : List Op) → before ≡ [] → made_in wires ≡ made_in before ++ block → made_in wires ≡ block
unfolding made_in
from_none before wires block none is = is ∙ ap (λ (xs : List NewOp). map new_seen xs ++ block) none

pub wires_added : (block : List Op) (wires : List NewOp) (old new : Made) → made_in wires ≡ block → new.kept.items ≡ old.kept.items
    → new.flags.items ≡ old.flags.items ++ replicate (length wires - 0) true → new_refs new.targets.items ≡ new_refs old.targets.items ++ map carried_ref (made_in wires)
    → AddsMade (map wire block) old new
wires_added block wires old new wires_are stays flags targets = record {
  kept_are = ap made_in stays ∙ sym (append-nil (made_in old.kept.items)) ∙ ap (λ os. made_in old.kept.items ++ os) (sym (no_kept block));
  flags_are = flags ∙ ap (λ fs. old.flags.items ++ fs) (ap (λ n. replicate n true) many ∙ sym (flags_on block));
  targets_are = targets ∙ ap (λ rs. new_refs old.targets.items ++ rs) (ap (map carried_ref) wires_are ∙ sym (targets_carried (length old.kept.items) block));
}
  where
    many : length wires - 0 ≡ length block
    many = let all = made_many wires in let same = ap length wires_are in omega (arith, all, same)

pub kept_added : (block : List Op) (old new : Made) (low high : ℕ) → low ≡ length old.kept.items → high ≡ length new.kept.items → made_in new.kept.items ≡ made_in old.kept.items ++ block
    → new.flags.items ≡ old.flags.items ++ replicate (high - low) false → new_refs new.targets.items ≡ new_refs old.targets.items ++ in_row (λ i. result i 0) low (high - low)
    → AddsMade (map kept block) old new
kept_added block old new low high low_is high_is made flags targets = record {
  kept_are = made ∙ ap (λ os. made_in old.kept.items ++ os) (sym (all_kept block));
  flags_are = flags ∙ ap (λ fs. old.flags.items ++ fs) (ap (λ n. replicate n false) many ∙ sym (flags_off block));
  targets_are = targets
      ∙ ap₂ (λ k n. new_refs old.targets.items ++ in_row (λ i. result i 0) k n) low_is many
      ∙ ap (λ rs. new_refs old.targets.items ++ rs) (sym (targets_own (length old.kept.items) block));
}
  where
    many : high - low ≡ length block
    many =
        let after = sym (made_many new.kept.items) ∙ ap length made ∙ length-append (made_in old.kept.items) block in
        let before = made_many old.kept.items in
        omega (arith, after, before, low_is, high_is)

-- ---- one operation after another

module _ (d : Design) (t : LeafTable) (ops : List BodyOp) (starts : List ℕ) where
  -- what is made so far, and what those from a position on become
  pub record SoFar (p : ℕ) (m : Made) : Type 0 where
    pub kept_are : made_in m.kept.items ++ ops_kept (all_made d t (drop p ops) (drop p starts)) ≡ ops_kept (all_made d t ops starts)
    pub flags_are : m.flags.items ++ wire_flags (all_made d t (drop p ops) (drop p starts)) ≡ wire_flags (all_made d t ops starts)
    pub targets_are : new_refs m.targets.items ++ targets_from (length m.kept.items) (all_made d t (drop p ops) (drop p starts)) ≡ targets_from 0 (all_made d t ops starts)

  pub none_so_far : (m : Made) → m.kept.items ≡ [] → m.flags.items ≡ [] → m.targets.items ≡ [] → SoFar 0 m
  unfolding made_in
  none_so_far m none_kept no_flags no_targets = record {
    kept_are = ap (λ (ks : List NewOp). map new_seen ks ++ ops_kept (all_made d t ops starts)) none_kept;
    flags_are = ap (λ fs. fs ++ wire_flags (all_made d t ops starts)) no_flags;
    targets_are = ap₂ (λ vs (ks : List NewOp). new_refs vs ++ targets_from (length ks) (all_made d t ops starts)) no_targets none_kept;
  }

  pub one_so_far : (p : ℕ) (o : BodyOp) (start : ℕ) (old new : Made) → slice_get ops p ≡ Some o → slice_get starts p ≡ Some start
      → AddsMade (all_made_by (only_joins o.parts.kind) (block_made d t o start)) old new → SoFar p old → SoFar (p + 1) new
  one_so_far p o start old new at start_at adds so = record {
    kept_are = ap (λ os. os ++ ops_kept rest) adds.kept_are ∙ append_assoc (made_in old.kept.items) (ops_kept own) (ops_kept rest)
        ∙ ap (λ os. made_in old.kept.items ++ os) (sym (kept-append own rest) ∙ ap ops_kept (sym left)) ∙ so.kept_are;
    flags_are = ap (λ fs. fs ++ wire_flags rest) adds.flags_are ∙ append_assoc old.flags.items (wire_flags own) (wire_flags rest)
        ∙ ap (λ fs. old.flags.items ++ fs) (sym (flags-append own rest) ∙ ap wire_flags (sym left)) ∙ so.flags_are;
    targets_are = ap₂ (λ rs n. rs ++ targets_from n rest) adds.targets_are many
        ∙ append_assoc (new_refs old.targets.items) (targets_from (length old.kept.items) own) (targets_from (length old.kept.items + length (ops_kept own)) rest)
        ∙ ap (λ rs. new_refs old.targets.items ++ rs) (sym (targets-append (length old.kept.items) own rest) ∙ ap (targets_from (length old.kept.items)) (sym left)) ∙ so.targets_are;
  }
    where
      own : List MadeOp
      own = all_made_by (only_joins o.parts.kind) (block_made d t o start)

      rest : List MadeOp
      rest = all_made d t (drop (p + 1) ops) (drop (p + 1) starts)

      next : suc p ≡ p + 1
      next = omega arith

      left : all_made d t (drop p ops) (drop p starts) ≡ all_made_by (only_joins o.parts.kind) (block_made d t o start) ++ all_made d t (drop (p + 1) ops) (drop (p + 1) starts)
      left =
          ap₂ (λ xs ys. all_made d t xs ys) (drop_some ops p o at ∙ ap (λ n. o ∷ drop n ops) next) (drop_some starts p start start_at ∙ ap (λ n. start ∷ drop n starts) next)

      many : length new.kept.items ≡ length old.kept.items + length (ops_kept own)
      many =
          let after = made_many new.kept.items in
          let before = made_many old.kept.items in
          let both = ap length adds.kept_are ∙ length-append (made_in old.kept.items) (ops_kept own) in
          omega (arith, after, before, both)

  pub all_so_far : (p : ℕ) (m : Made) → length ops ≤ p → SoFar p m → IsMade (all_made d t ops starts) m
  all_so_far p m past so = record {
    kept_are = sym (append-nil (made_in m.kept.items)) ∙ ap (λ xs. made_in m.kept.items ++ ops_kept (all_made d t xs (drop p starts))) (sym none) ∙ so.kept_are;
    flags_are = sym (append-nil m.flags.items) ∙ ap (λ xs. m.flags.items ++ wire_flags (all_made d t xs (drop p starts))) (sym none) ∙ so.flags_are;
    targets_are = sym (append-nil (new_refs m.targets.items)) ∙ ap (λ xs. new_refs m.targets.items ++ targets_from (length m.kept.items) (all_made d t xs (drop p starts))) (sym none) ∙ so.targets_are;
  }
    where
      none : drop p ops ≡ []
      none = drop_all p ops past

-- ---- all together

made_all_by : (b : Bool) (os : List Op) → ops_made (all_made_by b os) ≡ os
made_all_by true [] = refl
made_all_by false [] = refl
made_all_by true (o ∷ os) = ap (λ xs. o ∷ xs) (made_all_by true os)
made_all_by false (o ∷ os) = ap (λ xs. o ∷ xs) (made_all_by false os)

module _ (d : Design) (t : LeafTable) where
  -- they are the blocks
  pub made_blocks : (ops : List BodyOp) (starts : List ℕ) → ops_made (all_made d t ops starts) ≡ blocks_made d t ops starts
  made_blocks [] starts = refl
  made_blocks (o ∷ ops) [] = refl
  made_blocks (o ∷ ops) (start ∷ starts) =
      made-append (all_made_by (only_joins o.parts.kind) (block_made d t o start)) (all_made d t ops starts)
      ∙ ap₂ (λ xs ys. xs ++ ys) (made_all_by (only_joins o.parts.kind) (block_made d t o start)) (made_blocks ops starts)

  -- what leaves are wires of one operand and one result
  wires_among : (b : Bool) (os : List Op) (o : Op) → In (wire o) (all_made_by b os) → (b ≡ true) × In o os
  wires_among b [] o here = go b here
    where
      go : (b : Bool) → In (wire o) (all_made_by b []) → (b ≡ true) × In o []
      go true never = absurd never
      go false never = absurd never
  wires_among true (p ∷ os) o (inl same) = let equal : o ≡ p = cc in (refl, inl equal)
  wires_among true (p ∷ os) o (inr here) = (refl, inr (wires_among true os o here).1)
  wires_among false (p ∷ os) o (inl same) = cc
  wires_among false (p ∷ os) o (inr here) = let never : false ≡ true = (wires_among false os o here).0 in cc

  pub made_bare : (ops : List BodyOp) (starts : List ℕ) (o : Op) → In (wire o) (all_made d t ops starts) → IsBareWire o
  made_bare [] starts o here = absurd here
  made_bare (p ∷ ops) [] o here = absurd here
  made_bare (p ∷ ops) (start ∷ starts) o here =
      go (In-append_cases (wire o) (all_made_by (only_joins p.parts.kind) (block_made d t p start)) (all_made d t ops starts) here) (made_bare ops starts o)
    where
      go : In (wire o) (all_made_by (only_joins p.parts.kind) (block_made d t p start)) ⊎ In (wire o) (all_made d t ops starts) → (In (wire o) (all_made d t ops starts) → IsBareWire o) → IsBareWire o
      go (inl own) later = let found = wires_among (only_joins p.parts.kind) (block_made d t p start) o own in join_bare (leaf_named d) (bare_of p) p.parts.kind found.0 (map (leaves_at t) p.operands) start o found.1
      go (inr rest) later = later rest
