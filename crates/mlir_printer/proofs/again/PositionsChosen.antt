-- What bytes spell but for locations they spell with the locations of their tokens.
use Rattle.std.proofs.Common.{◌≡◌, ℕ, ◌+◌, Bool, true, false, cond, List, [], ◌∷◌, ◌++◌, map, refl, ap, ◌∙◌, sym, inl, inr}
use Rattle.diag.specs.Location.{start_location}
use Rattle.diag.specs.declared.refusal.Location.{Location}
use Rattle.hw_model.specs.Design.{Op, Design, op_without_location, module_without_locations, without_locations, IsSameDesign}
use Rattle.mlir_lexer.specs.Tokens.{TextToken}
use Rattle.mlir_operations.specs.OperationText.{OperationText, is_last}
use Rattle.mlir_operations.specs.ModuleText.{ModuleText}
use Rattle.mlir_reader.specs.Resolving.{Meanings, with_definitions, operation_definitions, body_definitions, operation_at, operations_from, ends_with_output, has_outputs, left_out_output, with_output}
use Rattle.mlir_reader.specs.Resolving.{port_meanings, meanings, module_of, design_of}
use Rattle.mlir_operations.specs.Spelling.{Stands, IsLocationOf, OperationPhrase, OperationsPhrase, ModulePhrase, ModulesPhrase, FilePhrase}
use Rattle.mlir_reader.specs.Spelling.{Spells, SpellsUnlocated}
use Rattle.std.proofs.lemmas.List.{map_push}

-- ---- locations make no difference

-- an operation's text at some location
abbrev unlocated : OperationText → OperationText
unlocated o = record o { location = start_location }

-- a module's text at some location
abbrev unlocated_module : ModuleText → ModuleText
unlocated_module m = record m { operations = map unlocated m.operations; location = start_location; close = start_location }

same_definitions : (i : ℕ) (os : List OperationText) → body_definitions i (map unlocated os) ≡ body_definitions i os
same_definitions i [] = refl
same_definitions i (o ∷ os) = ap (λ ds. operation_definitions i o ++ ds) (same_definitions (i + 1) os)

same_operations : (m earlier : Meanings) (i : ℕ) (os : List OperationText)
    → map op_without_location (operations_from m earlier i (map unlocated os)) ≡ map op_without_location (operations_from m earlier i os)
same_operations m earlier i [] = refl
same_operations m earlier i (o ∷ os) =
    ap (λ xs. op_without_location (operation_at m earlier i o) ∷ xs) (same_operations m (with_definitions earlier (operation_definitions i o)) (i + 1) os)

same_end : (os : List OperationText) → ends_with_output (map unlocated os) ≡ ends_with_output os
same_end [] = refl
same_end (o ∷ os) = ap (λ b. cond (is_last o.name) true b) (same_end os)

-- a body that may leave its output out, without locations
abbrev completed_by : Bool → Bool → List Op → List Op
completed_by ends outs os = cond ends os (cond outs os (os ++ op_without_location (left_out_output start_location) ∷ []))

completed_without : (m : ModuleText) (os : List Op)
    → map op_without_location (with_output m os) ≡ completed_by (ends_with_output m.operations) (has_outputs m.ports) (map op_without_location os)
completed_without m os = go (ends_with_output m.operations) (has_outputs m.ports)
  where
    go : (a b : Bool) → map op_without_location (cond a os (cond b os (os ++ left_out_output m.close ∷ []))) ≡ completed_by a b (map op_without_location os)
    go true b = refl
    go false true = refl
    go false false = map_push op_without_location os (left_out_output m.close)

same_body : (m : ModuleText) → map op_without_location (module_of (unlocated_module m)).body ≡ map op_without_location (module_of m).body
same_body m =
    let p = port_meanings m.ports in
    let all : meanings (unlocated_module m) ≡ meanings m = ap (λ ds. with_definitions p ds) (same_definitions 0 m.operations) in
    completed_without (unlocated_module m) (operations_from (meanings (unlocated_module m)) p 0 (map unlocated m.operations))
    ∙ ap (λ b. completed_by b (has_outputs m.ports) (map op_without_location
    (operations_from (meanings (unlocated_module m)) p 0 (map unlocated m.operations)))) (same_end m.operations)
    ∙ ap (λ x. completed_by (ends_with_output m.operations) (has_outputs m.ports)
    (map op_without_location (operations_from x p 0 (map unlocated m.operations)))) all
    ∙ ap (λ l. completed_by (ends_with_output m.operations) (has_outputs m.ports) l) (same_operations (meanings m) p 0 m.operations)
    ∙ sym (completed_without m (operations_from (meanings m) p 0 m.operations))

same_module : (m : ModuleText) → module_without_locations (module_of (unlocated_module m)) ≡ module_without_locations (module_of m)
same_module m = let e = same_body m in rw e refl

-- ---- locations are those of tokens

-- any location
abbrev anywhere : Stands
anywhere t location = Unit {0}

-- an operation with a location
record LocatedOp (o : OperationText) (ts : List TextToken) : Type 0 where
  location : Location
  phrase : OperationPhrase IsLocationOf (record o { location = location }) ts

op_located : (o : OperationText) (ts : List TextToken) → OperationPhrase anywhere o ts → LocatedOp o ts
op_located o ts h =
    let a = h.1 in
    let b = a.4 in
    let n = b.3 in
    record {
      location = n.0.location;
      phrase = (h.0, (a.0, a.1, a.2, a.3, (b.0, b.1, b.2, (n.0, n.1, (n.2.0, n.2.1, refl)), b.4)));
    }

-- operations with locations
record LocatedOps (os : List OperationText) (ts : List TextToken) : Type 0 where
  others : List OperationText
  phrase : OperationsPhrase IsLocationOf others ts
  same : map unlocated others ≡ map unlocated os

none_mapped : (os xs : List OperationText) → map unlocated os ≡ map unlocated xs → xs ≡ [] → os ≡ []
none_mapped [] xs e h = refl
none_mapped (o ∷ os) xs e h = let f : unlocated o ∷ map unlocated os ≡ [] = e ∙ ap (map unlocated) h in cc

ops_located : (os : List OperationText) (ts : List TextToken) → OperationsPhrase anywhere os ts → LocatedOps os ts
ops_located [] ts h = record { others = []; phrase = h; same = refl }
ops_located (o ∷ os) ts h =
    let a = h.1 in
    let first = op_located o a.0 a.3 in
    let rest = ops_located os a.1 a.4 in
    record {
      others = record o { location = first.location } ∷ rest.others;
      phrase = ((λ l. none_mapped rest.others os rest.same (h.0 l)), (a.0, a.1, a.2, first.phrase, rest.phrase));
      same = ap (λ l. unlocated o ∷ l) rest.same;
    }

-- a module with locations
record LocatedModule (m : ModuleText) (ts : List TextToken) : Type 0 where
  other : ModuleText
  phrase : ModulePhrase IsLocationOf other ts
  same : unlocated_module other ≡ unlocated_module m

module_located : (m : ModuleText) (ts : List TextToken) → ModulePhrase anywhere m ts → LocatedModule m ts
module_located m ts h =
    let n = h.3 in
    let b = h.4 in
    let c = b.4 in
    let d = c.4 in
    let e = d.4 in
    let f = e.4 in
    let g = f.4 in
    let os = ops_located m.operations g.0 g.3 in
    let z = g.4 in
    record {
      other = record m { operations = os.others; location = n.0.location; close = z.0.location };
      phrase = (
        h.0,
        h.1,
        h.2,
        (n.0, n.1, (n.2.0, n.2.1, refl)),
        (
          b.0,
          b.1,
          b.2,
          b.3,
          (
            c.0,
            c.1,
            c.2,
            c.3,
            (
              d.0,
              d.1,
              d.2,
              d.3,
              (e.0, e.1, e.2, e.3, (f.0, f.1, f.2, f.3, (g.0, g.1, g.2, os.phrase, (z.0, z.1, (z.2.0, refl))))),
            ),
          ),
        ),
      );
      same = ap (λ l. record m { operations = l; location = start_location; close = start_location }) os.same;
    }

-- modules with locations
record LocatedModules (ms : List ModuleText) (ts : List TextToken) : Type 0 where
  others : List ModuleText
  phrase : ModulesPhrase IsLocationOf others ts
  same : without_locations (design_of ms) ≡ without_locations (design_of others)

modules_located : (ms : List ModuleText) (ts : List TextToken) → ModulesPhrase anywhere ms ts → LocatedModules ms ts
modules_located [] ts h = record { others = []; phrase = h; same = refl }
modules_located (m ∷ ms) ts h =
    let first = module_located m h.0 h.3 in
    let rest = modules_located ms h.1 h.4 in
    let one : module_without_locations (module_of m) ≡ module_without_locations (module_of first.other) =
    sym (same_module m) ∙ ap (λ (x : ModuleText). module_without_locations (module_of x)) (sym first.same) ∙ same_module first.other in
    record {
      others = first.other ∷ rest.others;
      phrase = (h.0, h.1, h.2, first.phrase, rest.phrase);
      same =
          ap (λ x. x ∷ without_locations (design_of ms)) one
          ∙ ap (λ l. module_without_locations (module_of first.other) ∷ l) rest.same;
    }

-- a file with locations
record LocatedFile (ms : List ModuleText) (ts : List TextToken) : Type 0 where
  others : List ModuleText
  phrase : FilePhrase IsLocationOf others ts
  same : without_locations (design_of ms) ≡ without_locations (design_of others)

file_located : (ms : List ModuleText) (ts : List TextToken) → FilePhrase anywhere ms ts → LocatedFile ms ts
file_located ms ts (inl h) = let p = modules_located ms ts h in record { others = p.others; phrase = inl p.phrase; same = p.same }
file_located ms ts (inr h) =
    let a = h.1 in
    let b = a.4 in
    let c = b.4 in
    let d = c.4 in
    let e = d.4 in
    let p = modules_located ms e.0 e.3 in
    record {
      others = p.others;
      phrase = inr (h.0, (a.0, a.1, a.2, a.3, (b.0, b.1, b.2, b.3, (c.0, c.1, c.2, c.3, (d.0, d.1, d.2, d.3, (e.0, e.1, e.2, p.phrase, e.4))))));
      same = p.same;
    }

-- bytes that spell a design but for locations spell one that differs in nothing but locations
pub unlocated_is_spelled : (source : List ℕ) (d : Design) → SpellsUnlocated source d → (e : Design) × Spells source e × IsSameDesign d e
unlocated_is_spelled source d h =
    let p = file_located h.0 h.1 h.3 in
    (design_of p.others, (p.others, h.1, h.2, p.phrase, refl), h.4 ∙ p.same)
