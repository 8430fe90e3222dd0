-- The printed text says the design that is printed.
use Rattle.std.proofs.Common.{◌≡◌, ℕ, ◌+◌, Bool, true, false, cond, List, [], ◌∷◌, ◌++◌, map, length, drop, refl, ap, ◌∙◌, sym, subst, inl, inr, arith, length-append}
use Rattle.std.specs.Prelude.{Option, Some, None, is_some, not}
use Rattle.opcode.specs.declared.listed.Listed.TheVariants as listed
use Rattle.hw_model.specs.Types.{Name}
use Rattle.hw_model.specs.Design.{Ref, Port, Op, Module, Design, op_without_location, module_without_locations, without_locations, IsSameDesign}
use Rattle.hw_model.specs.Design.Ref.{port, result, undefined}
use Rattle.fresh_names.proofs.Distinct.{AreFresh, fresh_are_new}
use Rattle.fresh_names.proofs.Giving.{fresh_count}
use Rattle.mlir_operations.specs.OperationText.{OperationText}
use Rattle.mlir_reader.specs.Resolving.{Meanings, Defined, Definition, with_definitions, no_meaning, resolve_operand, port_definition, port_definitions, operation_definitions, body_definitions}
use Rattle.mlir_reader.specs.Resolving.{operations_from, ports_from, is_marked, ends_with_output, has_outputs, left_out_output, port_meanings, meanings, module_of, design_of}
use Rattle.mlir_reader.proofs.Defining.{definitions_append}
use Rattle.mlir_printer.specs.Elements.{ValueText}
use Rattle.mlir_printer.specs.Naming.{input_count, hints_or_numbers, names_given, first_name, firsts, value_named}
use Rattle.printing_laws.specs.NameHints.{port_name_hint, port_name_hints, body_name_hints, name_hints, name_count}
use Rattle.mlir_printer.specs.Texts.{operation_shown, operations_shown, port_shown, ports_shown, module_shown, modules_shown}
use Rattle.printing_laws.specs.Parts.{parts_in}
use Rattle.mlir_printer.specs.Spellable.{said_operand, said_operation, said_port, inherent_view}
use Rattle.stored_form.specs.Bytes.{Each}
use Rattle.printing_laws.specs.Printable.{IsDefined, IsPrintableOp, IsPrintablePort, EndsWithOutput, IsPrintableModule, Printable}
use Rattle.mlir_printer.proofs.names.NameTables.{Among, Finds, finds_left, finds_right, AreNew, new_left, new_right, found, all_new}
use Rattle.mlir_printer.proofs.names.NamedDefinitions.{name_of, map_append, firsts_add, firsts_all, ports_names, body_names}
use Rattle.mlir_printer.proofs.names.ValuesFound.{port_found, result_found}
use Rattle.mlir_printer.proofs.names.GivenNames.{Suits, given_suit, suit_first, suit_after, wanted_length}
use Rattle.mlir_printer.proofs.again.EntriesKept.{kept_itself}
use Rattle.mlir_printer.proofs.again.OperationsAgain.{are_counted, operation_again, last_output}

-- ---- bodies

body_again : (ports : List Port) (body : List Op) (m earlier : Meanings) (means : Ref → ValueText) (i : ℕ) (ns : List Name) (os : List Op)
    → ((r : Ref) → IsDefined ports body r → resolve_operand m (said_operand (means r)) ≡ r)
    → AreNew earlier (body_definitions i (map said_operation (operations_shown means ns os))) → Suits (body_name_hints (map parts_in os)) ns
    → Each (IsPrintableOp ports body) os
    → map op_without_location (operations_from m earlier i (map said_operation (operations_shown means ns os))) ≡ map op_without_location os
body_again ports body m earlier means i ns [] resolve new suits p = refl
body_again ports body m earlier means i ns (o ∷ os) resolve new suits p =
    let here = said_operation (operation_shown (parts_in o) (map means o.operands) ns) in
    let rest = map said_operation (operations_shown means (drop (name_count (parts_in o)) ns) os) in
    let later = with_definitions earlier (operation_definitions i here) in
    ap (λ x. x ∷ map op_without_location (operations_from m later (i + 1) rest))
    (operation_again ports body o p.0 m earlier means i ns resolve (new_left earlier (operation_definitions i here) (body_definitions (i + 1) rest) new)
    (suit_first (name_hints (parts_in o)) (body_name_hints (map parts_in os)) ns suits))
    ∙ ap (λ l. op_without_location o ∷ l)
    (body_again ports body m later means (i + 1) (drop (name_count (parts_in o)) ns) os resolve
    (new_right earlier (operation_definitions i here) (body_definitions (i + 1) rest) new)
    (suit_after (name_hints (parts_in o)) (body_name_hints (map parts_in os)) ns suits) p.1)

output_there : (means : Ref → ValueText) (ns : List Name) (os : List Op) → EndsWithOutput os
    → ends_with_output (map said_operation (operations_shown means ns os)) ≡ true
output_there means ns [] h = absurd h
output_there means ns (o ∷ []) h = ap (λ b. cond b true false) (last_output o.kind ∙ h)
output_there means ns (o ∷ p ∷ os) h =
    ap (λ b. cond b true (ends_with_output (map said_operation (operations_shown means (drop (name_count (parts_in o)) ns) (p ∷ os)))))
    (last_output o.kind ∙ h.0)
    ∙ output_there means (drop (name_count (parts_in o)) ns) (p ∷ os) h.1

-- ---- ports

direction : (b : Bool) (n : Name) → not (is_some (cond b None (Some n))) ≡ b
direction true n = refl
direction false n = refl

not_marked : (earlier : Meanings) (j : ℕ) (b : Bool) (n : Name) (ds : List Definition)
    → AreNew earlier (port_definition j (cond b None (Some n)) ++ ds)
    → is_marked earlier (cond b None (Some n)) ≡ false
not_marked earlier j true n ds new = refl
not_marked earlier j false n ds new = ap (λ (o : Option Defined). is_some o) new.0

ports_again : (earlier : Meanings) (j : ℕ) (ns : List Name) (ps : List Port) → AreNew earlier (port_definitions j (map said_port (ports_shown ns ps)))
    → Each IsPrintablePort ps → ports_from earlier j (map said_port (ports_shown ns ps)) ≡ ps
ports_again earlier j ns [] new p = refl
ports_again earlier j ns (q ∷ ps) new p =
    let value = (port_shown ns q).value in
    let rest = map said_port (ports_shown (drop (length (port_name_hint q)) ns) ps) in
    let later = with_definitions earlier (port_definition j value) in
    let unmarked : is_marked earlier value ≡ q.again = not_marked earlier j q.is_output (first_name ns) (port_definitions (j + 1) rest) new ∙ sym p.0.first in
    ap (λ x. record { name = q.name; is_output = x; type = q.type; again = is_marked earlier value } ∷ ports_from later (j + 1) rest)
    (direction q.is_output (first_name ns))
    ∙ ap (λ x. record { name = q.name; is_output = q.is_output; type = q.type; again = x } ∷ ports_from later (j + 1) rest) unmarked
    ∙ ap (λ l. q ∷ l) (ports_again later (j + 1) (drop (length (port_name_hint q)) ns) ps
    (new_right earlier (port_definition j value) (port_definitions (j + 1) rest) new) p.1)

-- ---- modules

pub each_among : {A : Type 0} (P : A → Type 0) (xs : List A) (x : A) → Each P xs → Among x xs → P x
each_among P [] x h a = absurd a
each_among P (y ∷ xs) x h (inl e) = subst P (sym e) h.0
each_among P (y ∷ xs) x h (inr a) = each_among P xs x h.1 a

module _ (m : Module) (p : IsPrintableModule m) where
  abbrev given : List Name
  given = names_given m.ports (map parts_in m.body)

  -- the names of results
  abbrev following : List Name
  following = drop (input_count m.ports) given

  abbrev means : Ref → ValueText
  means = value_named given m.ports (map parts_in m.body)

  abbrev texts : List OperationText
  texts = map said_operation (operations_shown means following m.body)

  abbrev port_defs : List Definition
  port_defs = port_definitions 0 (map said_port (ports_shown given m.ports))

  abbrev body_defs : List Definition
  body_defs = body_definitions 0 texts

  given_length : length given ≡ length (port_name_hints m.ports ++ body_name_hints (map parts_in m.body))
  given_length =
      fresh_count [] (hints_or_numbers 0 (port_name_hints m.ports ++ body_name_hints (map parts_in m.body))) ∙ wanted_length 0
      (port_name_hints m.ports ++ body_name_hints (map parts_in m.body))

  all_names : map name_of (port_defs ++ body_defs) ≡ given
  all_names =
      map_append name_of port_defs body_defs
      ∙ ap (λ l. l ++ map name_of body_defs) (ports_names 0 given m.ports)
      ∙ ap (λ l. firsts (input_count m.ports) given ++ l) (body_names means 0 following m.body)
      ∙ sym (firsts_add (input_count m.ports) (length (body_name_hints (map parts_in m.body))) given)
      ∙ ap (λ k. firsts k given) (sym (length-append (port_name_hints m.ports) (body_name_hints (map parts_in m.body))) ∙ sym given_length)
      ∙ firsts_all given

  are_fresh : AreFresh [] given
  are_fresh =
      let few = p.few in
      fresh_are_new [] (hints_or_numbers 0 (port_name_hints m.ports ++ body_name_hints (map parts_in m.body)))
      (omega (arith, few, wanted_length 0 (port_name_hints m.ports ++ body_name_hints (map parts_in m.body))))

  all_are_new : AreNew no_meaning (port_defs ++ body_defs)
  all_are_new = all_new (port_defs ++ body_defs) (subst (AreFresh []) (sym all_names) are_fresh)

  all_suit : Suits (port_name_hints m.ports ++ body_name_hints (map parts_in m.body)) given
  all_suit = given_suit (port_name_hints m.ports ++ body_name_hints (map parts_in m.body)) p.few

  -- each name is found again
  finds : Finds (meanings (inherent_view (module_shown m))) (port_defs ++ body_defs)
  finds =
      subst (λ (k : Meanings). Finds k (port_defs ++ body_defs)) (definitions_append no_meaning port_defs body_defs)
      (found no_meaning (port_defs ++ body_defs) all_are_new)

  resolves : (r : Ref) → IsDefined m.ports m.body r → resolve_operand (meanings (inherent_view (module_shown m))) (said_operand (means r)) ≡ r
  resolves (port j) h =
      let z : 0 + j ≡ j = omega arith in
      port_found (meanings (inherent_view (module_shown m))) given m.ports 0 j h.0 (finds_left (meanings (inherent_view (module_shown m))) port_defs body_defs finds) h.1 h.2
      ∙ ap (λ k. port k) z
  resolves (result i k) h =
      let z : 0 + i ≡ i = omega arith in
      result_found (meanings (inherent_view (module_shown m))) means following m.body 0 i k h.0
      (finds_right (meanings (inherent_view (module_shown m))) port_defs body_defs finds) h.1
      (λ x ms a. are_counted m.ports m.body x (each_among (IsPrintableOp m.ports m.body) m.body x p.operations a) means ms) h.2
      ∙ ap (λ j. result j k) z
  resolves undefined h = absurd h

  body_said : map op_without_location (module_of (inherent_view (module_shown m))).body ≡ map op_without_location m.body
  body_said =
      let os = operations_from (meanings (inherent_view (module_shown m))) (port_meanings (inherent_view (module_shown m)).ports) 0 texts in
      ap (λ b. map op_without_location (cond b os (cond (has_outputs (inherent_view (module_shown m)).ports) os
      (os ++ left_out_output (inherent_view (module_shown m)).close ∷ []))))
      (output_there means following m.body p.ends)
      ∙ body_again m.ports m.body (meanings (inherent_view (module_shown m))) (port_meanings (inherent_view (module_shown m)).ports) means 0 following m.body resolves
      (new_right no_meaning port_defs body_defs all_are_new)
      (suit_after (port_name_hints m.ports) (body_name_hints (map parts_in m.body)) given all_suit) p.operations

  pub module_again : module_without_locations m ≡ module_without_locations (module_of (inherent_view (module_shown m)))
  module_again =
      let ps = ports_again no_meaning 0 given m.ports (new_left no_meaning port_defs body_defs all_are_new) p.ports in
      let es = kept_itself listed.HwModule m.dictionary p.dictionary.in_order p.dictionary.kept in
      let os = body_said in
      sym (rw (ps, es, os) refl)

-- the text of a design says the design, but for positions
pub printable_designs_are_said : (d : Design) → Printable d → IsSameDesign d (design_of (map inherent_view (modules_shown d)))
printable_designs_are_said [] p = refl
printable_designs_are_said (m ∷ d) p =
    ap (λ x. x ∷ without_locations d) (module_again m p.0)
    ∙ ap (λ l. module_without_locations (module_of (inherent_view (module_shown m))) ∷ l) (printable_designs_are_said d p.1)
