-- The registers and instances of a lowered design: a register is one for each of its leaves, in order, and instances stay.
use Rattle.std.proofs.Common.{◌≡◌, ℕ, zero, suc, cond, List, [], ◌∷◌, ◌++◌, map, flat_map, length, Option, Some, None, is_some, refl, sym, ap, ap₂, ◌∙◌, append_assoc, option_map}
use Rattle.std.proofs.lemmas.Grind.{flat_map-append}
use Rattle.std.proofs.lemmas.List.{append-nil, length-map}
use mathlib.Core.Path.{fun_ext}
use Rattle.wiring.proofs.Members.{position_of_In}
use Rattle.hw_model.specs.Types.{Name, HwType}
use Rattle.hw_model.specs.Kinds.{Kind, Instance}
use Rattle.hw_model.specs.Design.{Ref, Port, Op, RegisterForm, Module, Design, register_form, instance_in, find_module, result_type}
use Rattle.hw_model.specs.Flat.{Slot, module_registers}
use Rattle.hw_model.specs.Hierarchy.{callee_symbols, calls}
use Rattle.hw_model.specs.Sound.{body_of}
use Rattle.edit_laws.specs.Edit.{anchors}
use Rattle.port_checks.proofs.Least.{found_module}
use Rattle.acceptance_laws.specs.Keeps.{IsFit}
use Rattle.pass_laws.specs.PassLaw.{register_types, leaf_types}
use Rattle.pass_laws.specs.Steady.{instance_held, op_held, body_held}
use Rattle.pass_laws.proofs.Shapes.{held_types, types_held, held_anchors}
use Rattle.aggregate_laws.specs.Leaves.{bare_kind, bare_op, leaf_operands, leaf_registers, leaves_of, spread, lower_anchor}
use Rattle.aggregate_laws.specs.Rules.{lowered_module}
use Rattle.aggregate_laws.specs.Aggregates.{aggregate_rules}
use Rattle.aggregate_laws.proofs.Bare.{called_bare, form_bare, is_register_bare, type_bare}
use Rattle.aggregate_laws.proofs.Anchors.{by_form, bare_form, called_follow}
use Rattle.aggregate_laws.proofs.Blocks.{anchors_blocks}
use Rattle.aggregate_acceptance.specs.Joins.{joined_design}
use Rattle.aggregate_acceptance.specs.Names.{NamesPorts, NamesInstances}
use Rattle.aggregate_laws.proofs.Designs.{find_lowered}
use Rattle.aggregate_acceptance.proofs.LoweredModules.{Lowering, rules_of, lowered, parts_in, new_body, splits_at}
use Rattle.aggregate_acceptance.proofs.WiresOut.{joined_steady}

-- ---- what operations hold

-- the types of the registers of the module of a symbol that there may be
abbrev symbol_held : (Name → List (Option HwType)) → Option Name → List (Option HwType)
symbol_held inner None = []
symbol_held inner (Some s) = inner s

by_symbol : (inner : Name → List (Option HwType)) (x : Option Instance) → instance_held inner x ≡ symbol_held inner (option_map (λ (i : Instance). i.symbol) x)
by_symbol inner None = refl
by_symbol inner (Some i) = refl

instance_bare : (inner : Name → List (Option HwType)) (k : Kind) → instance_held inner (instance_in (bare_kind k)) ≡ instance_held inner (instance_in k)
instance_bare inner k = by_symbol inner (instance_in (bare_kind k)) ∙ ap (symbol_held inner) (called_bare k) ∙ sym (by_symbol inner (instance_in k))

held_bare : (inner : Name → List (Option HwType)) (os : List Op) → body_held inner (map bare_op os) ≡ body_held inner os
held_bare inner [] = refl
held_bare inner (o ∷ os) =
    ap₂ (λ xs ys. xs ++ ys)
    (ap (λ b. cond b (result_type (bare_op o) 0 ∷ []) (instance_held inner (instance_in (bare_kind o.kind)))) (is_register_bare o)
    ∙ ap₂ (λ t xs. cond (is_some (register_form o.kind)) (t ∷ []) xs) (type_bare o 0) (instance_bare inner o.kind))
    (held_bare inner os)

held-append : (inner : Name → List (Option HwType)) (xs ys : List Op) → body_held inner (xs ++ ys) ≡ body_held inner xs ++ body_held inner ys
held-append inner [] ys = refl
held-append inner (x ∷ xs) ys =
    ap (λ zs. op_held inner x ++ zs) (held-append inner xs ys) ∙ sym (append_assoc (op_held inner x) (body_held inner xs) (body_held inner ys))

-- ---- leaves of registers

leaf_held : (inner : Name → List (Option HwType)) (K : Kind) (f : RegisterForm) → register_form K ≡ Some f → (g : ℕ → List Ref) (n : ℕ) (ts : List HwType)
    → body_held inner (leaf_registers K g n ts) ≡ map (λ (u : HwType). Some u) ts
leaf_held inner K f is g n [] = refl
leaf_held inner K f is g n (t ∷ ts) =
    ap₂ (λ x xs. cond (is_some x) (Some t ∷ []) (instance_held inner (instance_in K)) ++ xs) is (leaf_held inner K f is g (suc n) ts)

-- of the modules that instances name, the leaves
abbrev inner_leaves : (Name → List (Option HwType)) → Name → List (Option HwType)
inner_leaves inner s = flat_map leaf_types (inner s)

instance_leaves : (inner : Name → List (Option HwType)) (x : Option Instance) → instance_held (inner_leaves inner) x ≡ flat_map leaf_types (instance_held inner x)
instance_leaves inner None = refl
instance_leaves inner (Some i) = refl

module _ (parts : Ref → List Ref) (inner : Name → List (Option HwType)) where
  op_lowered : (o : Op) → body_held (inner_leaves inner) (lower_anchor parts o) ≡ flat_map leaf_types (op_held inner o)
  op_lowered o =
      by_form parts (λ xs. body_held (inner_leaves inner) xs ≡ flat_map leaf_types (op_held inner o)) o
      (λ f is.
      leaf_held (inner_leaves inner) (bare_kind o.kind) f (bare_form parts o f is) (leaf_operands f.has_enable f.reset (map parts o.operands)) 0 (leaves_of (result_type o 0))
      ∙ sym (append-nil (leaf_types (result_type o 0)))
      ∙ sym (ap (λ x. flat_map leaf_types (cond (is_some x) (result_type o 0 ∷ []) (instance_held inner (instance_in o.kind)))) is))
      (λ is.
      append-nil (op_held (inner_leaves inner) (spread parts o))
      ∙ ap (λ x. cond (is_some x) (result_type (spread parts o) 0 ∷ []) (instance_held (inner_leaves inner) (instance_in (bare_kind o.kind)))) (form_bare o.kind ∙ is)
      ∙ instance_bare (inner_leaves inner) o.kind ∙ instance_leaves inner (instance_in o.kind)
      ∙ sym (ap (λ x. flat_map leaf_types (cond (is_some x) (result_type o 0 ∷ []) (instance_held inner (instance_in o.kind)))) is))

  held_lowered : (os : List Op) → body_held (inner_leaves inner) (flat_map (lower_anchor parts) os) ≡ flat_map leaf_types (body_held inner os)
  held_lowered [] = refl
  held_lowered (o ∷ os) =
      held-append (inner_leaves inner) (lower_anchor parts o) (flat_map (lower_anchor parts) os)
      ∙ ap₂ (λ xs ys. xs ++ ys) (op_lowered o) (held_lowered os)
      ∙ sym (flat_map-append leaf_types (op_held inner o) (body_held inner os))

-- ---- designs

module _ (S : Lowering) where
  module _ (s : Name) (m : Module) (found : find_module S.d s ≡ Some m) where
    -- registers, instances and outputs of the new body, without names
    anchors_lowered : map bare_op (anchors (new_body S m)) ≡ flat_map (lower_anchor (parts_in S m)) (anchors m.body)
    anchors_lowered =
        let position = position_of_In m S.d (found_module S.d s m found) in
        anchors_blocks (rules_of S) (parts_in S m) m.body (λ o here. (splits_at S position.0 m position.1 o here).shape) 0

    body_lowered : (inner : Name → List (Option HwType)) → body_held (inner_leaves inner) (new_body S m) ≡ flat_map leaf_types (body_held inner m.body)
    body_lowered inner =
        sym (held_anchors (inner_leaves inner) (new_body S m)) ∙ sym (held_bare (inner_leaves inner) (anchors (new_body S m)))
        ∙ ap (body_held (inner_leaves inner)) anchors_lowered ∙ held_lowered (parts_in S m) inner (anchors m.body)
        ∙ ap (flat_map leaf_types) (held_anchors inner m.body)

    called_lowered : callee_symbols (new_body S m) ≡ callee_symbols m.body
    called_lowered = called_follow m.body (new_body S m) (parts_in S m) anchors_lowered

  types_at : (n : ℕ) (s : Name) → held_types n (lowered S) s ≡ flat_map leaf_types (held_types n S.d s)
  types_at zero s = refl
  types_at (suc n) s =
      ap (λ f. body_held f (body_of (find_module (lowered S) s))) (fun_ext (types_at n))
      ∙ ap (λ x. body_held (inner_leaves (held_types n S.d)) (body_of x)) (find_lowered (rules_of S) S.d s)
      ∙ go (find_module S.d s) refl
    where
      go : (x : Option Module) → find_module S.d s ≡ x
          → body_held (inner_leaves (held_types n S.d)) (body_of (option_map (lowered_module (rules_of S)) x)) ≡ flat_map leaf_types (body_held (held_types n S.d) (body_of x))
      go None is = refl
      go (Some m) is = body_lowered s m is (held_types n S.d)

  lowered_types : (s : Name) → register_types (lowered S) s ≡ flat_map leaf_types (register_types S.d s)
  lowered_types s =
      types_held (suc (length (lowered S))) (lowered S) [] s
      ∙ types_at (suc (length (lowered S))) s
      ∙ ap (flat_map leaf_types)
      (sym (types_held (suc (length (lowered S))) S.d [] s)
      ∙ ap (λ n. map (λ (r : Slot). result_type r.op 0) (module_registers (suc n) S.d [] s)) (length-map S.d (lowered_module (rules_of S))))

  lowered_calls : (s : Name) → calls (lowered S) s ≡ calls S.d s
  lowered_calls s = ap (λ x. callee_symbols (body_of x)) (find_lowered (rules_of S) S.d s) ∙ go (find_module S.d s) refl
    where
      go : (x : Option Module) → find_module S.d s ≡ x → callee_symbols (body_of (option_map (lowered_module (rules_of S)) x)) ≡ callee_symbols (body_of x)
      go None is = refl
      go (Some m) is = called_lowered s m is

-- without the wires of joins
module _ (split : List Port → List Port) (named : Op → Kind) (d : Design) (fit : IsFit d) (ports : NamesPorts split d) (instances : NamesInstances split d named) where
  abbrev S : Lowering
  S = record { split = split; named = named; d = d; fit = fit; ports = ports; instances = instances }

  pub joined_types : (s : Name) → register_types (joined_design (aggregate_rules split named) d) s ≡ flat_map leaf_types (register_types d s)
  joined_types s = (joined_steady S).registers s ∙ lowered_types S s

  pub joined_calls : (s : Name) → calls (joined_design (aggregate_rules split named) d) s ≡ calls d s
  joined_calls s = (joined_steady S).instances s ∙ lowered_calls S s
