-- A fit design that is lowered is fit.
use Rattle.std.proofs.Common.{◌≡◌, ℕ, ◌+◌, Bool, true, false, cond, not, ◌&&◌, List, [], ◌∷◌, ◌++◌, map, take, drop, length, flat_map, Option, Some, None, slice_get, refl, sym, ap, ap₂, subst, ◌∙◌, inl, inr, option_map}
use Rattle.std.specs.Cmp.Lexicographic.{pointwise}
use Rattle.std.proofs.lemmas.Bool.{and_from, not-false}
use Rattle.wiring.specs.Wiring.{In}
use Rattle.wiring.proofs.Members.{position_of_In, In-slice_get, In-map}
use Rattle.diag.specs.declared.cause.Cause.TheVariants as cause
use Rattle.hw_model.specs.Equality.{name_self, both_of}
use Rattle.hw_model.specs.SameType.{same_type, type_self, type_from}
use Rattle.hw_model.specs.Types.{Name, HwType, leaves}
use Rattle.hw_model.specs.Kinds.{Kind, Instance}
use Rattle.hw_model.specs.Kinds.Kind.{instance, output}
use Rattle.hw_model.specs.Design.{Port, Op, Module, Design, same_name, find_module, instance_in, is_output_op, is_output_kind, is_register, is_instance, result_type}
use Rattle.hw_model.specs.Sound.{input_types, output_types}
use Rattle.hw_model.specs.Resets.{ResetsFromPorts}
use Rattle.edit_laws.specs.Edit.{is_anchor}
use Rattle.design_cycles.specs.Asked.{HasDistinctSymbols}
use Rattle.design_cycles.proofs.Callees.{found_at}
use Rattle.port_checks.specs.InstanceChecks.{port_types, names_ports, call_cause, instance_cause}
use Rattle.port_checks.specs.ResetPorts.{is_reset_port}
use Rattle.op_verifier.specs.OpChecks.{has_other_outputs}
use Rattle.op_verifier.proofs.Distinct.{distinct_symbols}
use Rattle.printing_laws.specs.Printable.{EndsWithOutput}
use Rattle.acceptance_laws.specs.Keeps.{IsFit}
use Rattle.acceptance_laws.proofs.Causes.{when_false}
use Rattle.acceptance_laws.proofs.Resets.{no_other_reset, no_other_join}
use Rattle.acceptance_laws.proofs.FitModules.{IsFitOp, IsFitModule, fit_module, fit_of_modules, instance_kind}
use Rattle.aggregate_laws.specs.Leaves.{bare_kind, bare_op, leaf_operands, leaf_registers, leaves_of, spread}
use Rattle.aggregate_laws.specs.Rules.{begin, blocks, count_by, lowered_module, lowered_design}
use Rattle.aggregate_laws.specs.OperationRules.{joined_parts}
use Rattle.aggregate_laws.specs.Aggregates.{rule_of, aggregate_rules}
use Rattle.aggregate_laws.proofs.Bare.{output_bare, is_output_bare, output_types_bare}
use Rattle.aggregate_laws.proofs.Anchors.{from_leaf_register, by_form}
use Rattle.aggregate_laws.proofs.Paths.{called_same}
use Rattle.aggregate_laws.proofs.Ports.{output_types_lowered}
use Rattle.aggregate_laws.proofs.Types.{called_instance}
use Rattle.aggregate_laws.proofs.Blocks.{block_by}
use Rattle.aggregate_acceptance.specs.Names.{NamesPorts, NamesInstances}
use Rattle.aggregate_acceptance.specs.Marks.{leaf_marks}
use Rattle.aggregate_acceptance.proofs.MadeOps.{good_fits}
use Rattle.aggregate_acceptance.proofs.SpreadRules.{spread_op}
use Rattle.aggregate_laws.proofs.Designs.{find_lowered}
use Rattle.aggregate_acceptance.proofs.LoweredModules.{Lowering, rules_of, lowered, parts_in, new_ports, new_body, valid_lowered, lowered_at, splits_at, block_of}
use Rattle.aggregate_acceptance.proofs.LoweredBlocks.{input_names, called_module, called_found, leaf_instance, named_leaves, types_are_ports, all_good}
use Rattle.aggregate_acceptance.proofs.LoweredPorts.{ports_unrefused, ports_printable}
use Rattle.aggregate_acceptance.proofs.LoweredResets.{instance_alike, resets_lowered}

-- ---- lists

names_self : (ns : List Name) → pointwise same_name ns ns ≡ true
names_self [] = refl
names_self (n ∷ ns) = and_from (same_name n n) (pointwise same_name ns ns) (name_self n) (names_self ns)

types_self : (ts : List HwType) → pointwise same_type ts ts ≡ true
types_self [] = refl
types_self (t ∷ ts) = and_from (same_type t t) (pointwise same_type ts ts) (type_self t) (types_self ts)

types_from : (ts us : List HwType) → pointwise same_type ts us ≡ true → ts ≡ us
types_from [] [] same = refl
types_from [] (u ∷ us) same = cc
types_from (t ∷ ts) [] same = cc
types_from (t ∷ ts) (u ∷ us) same =
    let both = both_of (same_type t u) (pointwise same_type ts us) same in
    ap₂ (λ x xs. x ∷ xs) (type_from t u both.0) (types_from ts us both.1)

take_join : (ts us : List HwType) → take (length ts) (ts ++ us) ≡ ts
take_join [] us = refl
take_join (t ∷ ts) us = ap (λ xs. t ∷ xs) (take_join ts us)

drop_join : (ts us : List HwType) → drop (length ts) (ts ++ us) ≡ us
drop_join [] us = refl
drop_join (t ∷ ts) us = drop_join ts us

-- ---- outputs

output_kind : (kind : Kind) → is_output_kind kind ≡ true → kind ≡ output
output_kind output is = refl
output_kind _ is = cc

plain_output : (o : Op) → is_anchor o ≡ false → is_output_op o ≡ false
plain_output o plain = go (is_register o) (is_instance o) plain
  where
    go : (a b : Bool) → cond a true (cond b true (is_output_op o)) ≡ false → is_output_op o ≡ false
    go true b h = cc
    go false true h = cc
    go false false h = h

ends_append : (xs ys : List Op) → ((x : Op) → In x xs → is_output_op x ≡ false) → EndsWithOutput ys → EndsWithOutput (xs ++ ys)
ends_append [] ys none ends = ends
ends_append (x ∷ xs) ys none ends = go (xs ++ ys) (ends_append xs ys (λ y here. none y (inr here)) ends)
  where
    go : (zs : List Op) → EndsWithOutput zs → EndsWithOutput (x ∷ zs)
    go [] rest = absurd rest
    go (z ∷ zs) rest = (none x (inl refl), rest)

module _ (S : Lowering) (k : ℕ) (m : Module) (at : slice_get S.d k ≡ Some m) where
  -- an output becomes one, and nothing else does
  output_alike : (o : Op) → In o m.body → (start : ℕ) (x : Op) → In x (block_by (rules_of S) (parts_in S m) start o) → is_output_op x ≡ is_output_op o
  output_alike o there start x here = go (is_anchor o) refl
    where
      go : (b : Bool) → is_anchor o ≡ b → is_output_op x ≡ is_output_op o
      go false plain = plain_output x ((splits_at S k m at o there).shape.plain plain start x here) ∙ sym (plain_output o plain)
      go true anchor =
          by_form (parts_in S m) (λ xs. In (bare_op x) xs → is_output_op x ≡ is_output_op o) o
          (λ f form among.
          let spot = position_of_In (bare_op x) (leaf_registers (bare_kind o.kind) (leaf_operands f.has_enable f.reset (map (parts_in S m) o.operands)) 0 (leaves_of (result_type o 0))) among in
          let leaf = from_leaf_register (bare_kind o.kind) (leaf_operands f.has_enable f.reset (map (parts_in S m) o.operands)) (leaves_of (result_type o 0)) 0 spot.0 (bare_op x) spot.1 in
          sym (is_output_bare x) ∙ ap is_output_op leaf.2 ∙ output_bare o.kind)
          (λ none among. spread_case among)
          (subst (In (bare_op x)) ((splits_at S k m at o there).shape.anchor anchor start) (In-map bare_op x (block_by (rules_of S) (parts_in S m) start o) here))
        where
          spread_case : In (bare_op x) (spread (parts_in S m) o ∷ []) → is_output_op x ≡ is_output_op o
          spread_case (inl same) = sym (is_output_bare x) ∙ ap is_output_op same ∙ output_bare o.kind
          spread_case (inr never) = absurd never

  ends_blocks : (os : List Op) → ((o : Op) → In o os → In o m.body) → (start : ℕ) → EndsWithOutput os → EndsWithOutput (blocks (rules_of S) (parts_in S m) start os)
  ends_blocks [] among start ends = absurd ends
  ends_blocks (o ∷ []) among start ends =
      subst EndsWithOutput
      (ap (λ kd. (rule_of S.named o kd).made (map (parts_in S m) o.operands) start ++ []) (sym (output_kind o.kind ends))) refl
  ends_blocks (o ∷ p ∷ os) among start (plain, ends) =
      ends_append (block_by (rules_of S) (parts_in S m) start o) (blocks (rules_of S) (parts_in S m) (start + count_by (rules_of S) o) (p ∷ os))
      (λ x here. output_alike o (among o (inl refl)) start x here ∙ plain)
      (ends_blocks (p ∷ os) (λ y here. among y (inr here)) (start + count_by (rules_of S) o) ends)

  -- ---- operations

  module _ (x : Op) (here : In x (new_body S m)) where
    spot : (n : ℕ) × (slice_get (new_body S m) n ≡ Some x)
    spot = position_of_In x (new_body S m) here

    from : (j : ℕ) × (o : Op) × (i : ℕ) × (slice_get m.body j ≡ Some o)
        × (slice_get (block_by (rules_of S) (parts_in S m) (begin (rules_of S) m.body j) o) i ≡ Some x) × (spot.0 ≡ begin (rules_of S) m.body j + i)
    from = block_of S k m at spot.0 x spot.1

    abbrev o : Op
    o = from.1

    abbrev start : ℕ
    start = begin (rules_of S) m.body from.0

    o_there : In o m.body
    o_there = In-slice_get from.1 m.body from.0 from.3

    in_block : In x (block_by (rules_of S) (parts_in S m) start o)
    in_block = In-slice_get x (block_by (rules_of S) (parts_in S m) start o) from.2 from.4

    was : IsFitOp S.d m o
    was = (fit_module S.d S.fit k m at).ops o o_there

    outputs_kept : has_other_outputs (new_ports S m) x ≡ false
    outputs_kept = go (is_output_op o) refl
      where
        go : (b : Bool) → is_output_op o ≡ b → has_other_outputs (new_ports S m) x ≡ false
        go false plain = ap (λ b. b && not (pointwise same_type x.types (port_types true (new_ports S m)))) (output_alike o o_there start x in_block ∙ plain)
        go true out =
            ap₂ (λ a b. a && not b) (output_alike o o_there start x in_block ∙ out)
            (ap₂ (λ ts us. pointwise same_type ts us) written (sym outputs) ∙ types_self (flat_map leaves (output_types m.ports)))
          where
            kind : o.kind ≡ output
            kind = output_kind o.kind out

            of_rule : In x (spread_op o output (joined_parts (map (parts_in S m) o.operands)) ∷ [])
            of_rule = subst (λ kd. In x ((rule_of S.named o kd).made (map (parts_in S m) o.operands) start)) kind in_block

            types : o.types ≡ output_types m.ports
            types =
                types_from o.types (output_types m.ports)
                (not-false (pointwise same_type o.types (output_types m.ports)) (ap (λ b. b && not (pointwise same_type o.types (output_types m.ports))) (sym out) ∙ was.outputs))

            written : x.types ≡ flat_map leaves (output_types m.ports)
            written = by_member of_rule
              where
                by_member : In x (spread_op o output (joined_parts (map (parts_in S m) o.operands)) ∷ []) → x.types ≡ flat_map leaves (output_types m.ports)
                by_member (inl same) = ap (λ (y : Op). y.types) same ∙ ap (flat_map leaves) types
                by_member (inr never) = absurd never

            outputs : flat_map leaves (output_types m.ports) ≡ output_types (new_ports S m)
            outputs = sym (output_types_lowered m.ports) ∙ ap output_types (sym (S.ports.leaves_are m.ports)) ∙ output_types_bare (new_ports S m)

    called_kept : instance_cause (lowered S) x.types (instance_in x.kind) ≡ None
    called_kept = go (instance_in x.kind) refl
      where
        go : (y : Option Instance) → instance_in x.kind ≡ y → instance_cause (lowered S) x.types y ≡ None
        go None none = refl
        go (Some i') inst =
            ap (λ (y : Instance). call_cause y x.types (find_module (lowered S) y.symbol)) i'_is
            ∙ ap₂ (λ ts c. call_cause new ts c) x_types found'
            ∙ when_false (not (names_ports new (flat_map leaves o.types) (S.split c.ports))) cause.InstancePorts (ap not named)
          where
            alike : bare_op x ≡ spread (parts_in S m) o
            alike = instance_alike S k m at from.0 o from.3 x in_block i' inst

            old : (i : Instance) × (instance_in o.kind ≡ Some i) × (i.symbol ≡ i'.symbol)
            old = called_instance o.kind i'.symbol (sym (called_same (parts_in S m) o x alike) ∙ ap (option_map (λ (y : Instance). y.symbol)) inst)

            i : Instance
            i = old.0

            kind : o.kind ≡ instance i
            kind = instance_kind o.kind i old.1

            c : Module
            c = called_module S k m at from.0 o from.3 i kind

            new : Instance
            new = leaf_instance S k m at from.0 o from.3 i kind

            of_rule : In x (spread_op o (S.named o) (joined_parts (map (parts_in S m) o.operands)) ∷ [])
            of_rule = subst (λ kd. In x ((rule_of S.named o kd).made (map (parts_in S m) o.operands) start)) kind in_block

            x_is : x ≡ spread_op o (S.named o) (joined_parts (map (parts_in S m) o.operands))
            x_is = by_member of_rule
              where
                by_member : In x (spread_op o (S.named o) (joined_parts (map (parts_in S m) o.operands)) ∷ []) → x ≡ spread_op o (S.named o) (joined_parts (map (parts_in S m) o.operands))
                by_member (inl same) = same
                by_member (inr never) = absurd never

            x_types : x.types ≡ flat_map leaves o.types
            x_types = ap (λ (y : Op). y.types) x_is

            i'_is : i' ≡ new
            i'_is =
                let kinds : x.kind ≡ instance new = ap (λ (y : Op). y.kind) x_is ∙ named_leaves S k m at from.0 o from.3 i kind in
                let same : Some i' ≡ Some new = sym inst ∙ ap instance_in kinds in
                cc

            found' : find_module (lowered S) new.symbol ≡ Some (lowered_module (rules_of S) c)
            found' = find_lowered (rules_of S) S.d i.symbol ∙ ap (option_map (lowered_module (rules_of S))) (called_found S k m at from.0 o from.3 i kind)

            written : flat_map leaves o.types ≡ input_types (S.split c.ports) ++ output_types (S.split c.ports)
            written = types_are_ports S k m at from.0 o from.3 i kind

            inputs : length new.inputs ≡ length (input_types (S.split c.ports))
            inputs = input_names (S.split c.ports)

            named : names_ports new (flat_map leaves o.types) (S.split c.ports) ≡ true
            named =
                and_from _ _
                (and_from _ _ (names_self new.inputs) (names_self new.outputs))
                (and_from _ _
                (ap (λ ts. pointwise same_type ts (input_types (S.split c.ports)))
                (ap₂ (λ n ts. take n ts) inputs written ∙ take_join (input_types (S.split c.ports)) (output_types (S.split c.ports))) ∙ types_self (input_types (S.split c.ports)))
                (ap (λ ts. pointwise same_type ts (output_types (S.split c.ports)))
                (ap₂ (λ n ts. drop n ts) inputs written ∙ drop_join (input_types (S.split c.ports)) (output_types (S.split c.ports))) ∙ types_self (output_types (S.split c.ports))))

-- ---- the design

module _ (S : Lowering) where
  still_distinct : HasDistinctSymbols (lowered S)
  still_distinct i j x y at_i at_j equal =
      let first = lowered_at S i x at_i in
      let second = lowered_at S j y at_j in
      distinct_symbols S.d S.fit.unrefused i j first.0 second.0 first.1 second.1
      (ap (λ (z : Module). z.symbol) first.2 ∙ equal ∙ sym (ap (λ (z : Module). z.symbol) second.2))

  module_fit : (k : ℕ) (m : Module) → slice_get S.d k ≡ Some m → slice_get (lowered S) k ≡ Some (lowered_module (rules_of S) m)
      → IsFitModule (lowered S) (lowered_module (rules_of S) m)
  module_fit k m at at' = record {
    symbol = was.symbol;
    unrefused = ports_unrefused S k m at;
    names = S.ports.apart m (In-slice_get m S.d k at) was.names;
    ports = ports_printable S k m at;
    dictionary = was.dictionary;
    ops = λ x here. record {
      fits = good_fits (new_ports S m) (new_body S m) (all_good S k m at) x here;
      outputs = outputs_kept S k m at x here;
      called = called_kept S k m at x here;
      reset = no_other_reset (lowered S) (leaf_marks S.d (is_reset_port S.d)) (resets_lowered S) m.symbol (lowered_module (rules_of S) m) found x here;
      join = no_other_join (lowered S) (leaf_marks S.d (is_reset_port S.d)) (resets_lowered S) m.symbol (lowered_module (rules_of S) m) found x here;
    };
    ends = ends_blocks S k m at m.body (λ o here. here) 0 was.ends;
  }
    where
      was : IsFitModule S.d m
      was = fit_module S.d S.fit k m at

      found : find_module (lowered S) m.symbol ≡ Some (lowered_module (rules_of S) m)
      found = (found_at (lowered S) still_distinct k (lowered_module (rules_of S) m) at').1

  pub lowering_fit : IsFit (lowered S)
  lowering_fit =
      fit_of_modules (lowered S) still_distinct (valid_lowered S)
      (λ k n at'.
      let from = lowered_at S k n at' in
      subst (IsFitModule (lowered S)) from.2 (module_fit k from.0 from.1 (at' ∙ ap Some (sym from.2))))

pub lowered_fit : (split : List Port → List Port) (named : Op → Kind) (d : Design) → IsFit d → NamesPorts split d → NamesInstances split d named
    → IsFit (lowered_design (aggregate_rules split named) d)
lowered_fit split named d fit ports instances = lowering_fit (record { split = split; named = named; d = d; fit = fit; ports = ports; instances = instances })

pub lowered_resets : (split : List Port → List Port) (named : Op → Kind) (d : Design) → IsFit d → NamesPorts split d → NamesInstances split d named
    → ResetsFromPorts (lowered_design (aggregate_rules split named) d) (leaf_marks d (is_reset_port d))
lowered_resets split named d fit ports instances =
    resets_lowered (record { split = split; named = named; d = d; fit = fit; ports = ports; instances = instances })
