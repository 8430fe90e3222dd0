-- The names of a module's things, from its ports' and what its body is given.
use Rattle.std.proofs.Common.{◌≡◌, ℕ, zero, suc, ◌+◌, ◌⊎◌, cond, List, [], ◌∷◌, map, length, slice_get, Option, Some, None, refl, sym, ◌∙◌, ap, inl, inr, arith, zero-add}
use Rattle.std.proofs.lemmas.List.{length-map}
use Rattle.wiring.specs.Wiring.{In}
use Rattle.hw_model.specs.Types.{Name}
use Rattle.hw_model.specs.Kinds.{Instance}
use Rattle.hw_model.specs.Design.{Ref, Port, Op, Module, instance_in}
use Rattle.hw_model.specs.Design.Ref.{port, result, undefined}
use Rattle.name_legalise.specs.Legal.{legal, legal_after}
use Rattle.name_legalise.proofs.Legals.{legal_count}
use Rattle.verilog_expr.specs.Named.{name_in, result_name, named_of}
use Rattle.verilog_expr.specs.declared.value_names.NameList.{NameList}
use Rattle.verilog_expr.specs.declared.value_names.ValueNames.{ValueNames}
use Rattle.export_verilog.specs.Identifiers.{Identifier, each, port_identifiers, op_identifiers, module_identifiers, name_among, identifier_name, name_or_nothing, input_name, value_name}
use Rattle.export_verilog.specs.Identifiers.Identifier.{port_identifier, value_identifier, instance_identifier}
use Rattle.export_verilog.specs.Held.{op_results, op_own_name}
use Rattle.export_verilog.specs.Walks.{body_name_hints, body_given, result_lists}
use Rattle.export_verilog.specs.PortValues.{port_values}
use Rattle.export_verilog.specs.ModuleNames.{AreModuleNames}
use Rattle.export_verilog.proofs.items.Lists.{in_each}
use Rattle.export_verilog.proofs.names.PortNames.{port_names_are}
use Rattle.export_verilog.proofs.names.IdentifierNameHints.{names_are}
use Rattle.export_verilog.proofs.names.GivenNames.{among_later, given_name, values_given, instances_given, given_count}

-- ---- what stands at positions of lists of one length

there : {A B : Type 0} (xs : List A) (ys : List B) (i : ℕ) (x : A) → length ys ≡ length xs → slice_get xs i ≡ Some x → (y : B) × (slice_get ys i ≡ Some y)
there [] ys i x count at = cc
there (a ∷ xs) [] i x count at = absurd (omega (arith, count))
there (a ∷ xs) (b ∷ ys) zero x count at = (b, refl)
there (a ∷ xs) (b ∷ ys) (suc i) x count at = there xs ys i x (omega (arith, count)) at

text_there : {A : Type 0} (xs : List A) (ns : List Name) (i : ℕ) (x : A) (found : Option Name) → length ns ≡ length xs → slice_get xs i ≡ Some x → found ≡ slice_get ns i
    → slice_get ns i ≡ Some (name_or_nothing found)
text_there xs ns i x found count at same = let h = there xs ns i x count at in h.1 ∙ ap (λ o. Some (name_or_nothing o)) (sym (same ∙ h.1))

-- the names of an operation's results, in code
listed_name : (ls : List NameList) (i k : ℕ) → result_name (slice_get ls i) k ≡ given_name (slice_get (map (λ (l : NameList). l.names.items) ls) i) k
listed_name [] i k = refl
listed_name (l ∷ ls) zero k = refl
listed_name (l ∷ ls) (suc i) k = listed_name ls i k

-- the names of the values of ports
input_at : (m : Module) (i : ℕ) (ps : List Port) (ns : List Name) (j : ℕ) → length ns ≡ length ps → ((p : Port) → slice_get ps j ≡ Some p → identifier_name m (port_identifier i) ≡ slice_get ns j)
    → name_in (port_values ps ns) j ≡ input_name m i (slice_get ps j)
input_at m i [] ns j count at = refl
input_at m i (p ∷ ps) [] j count at = absurd (omega (arith, count))
input_at m i (p ∷ ps) (n ∷ ns) zero count at = ap (λ z. cond p.is_output None z) (sym (at p refl))
input_at m i (p ∷ ps) (n ∷ ns) (suc j) count at = input_at m i ps ns j (omega (arith, count)) at

-- ---- ports come first

port_count : (o : ℕ) (ps : List Port) → length (each port_identifiers o ps) ≡ length ps
port_count o [] = refl
port_count o (p ∷ ps) = ap suc (port_count (suc o) ps)

never_port : (ps : List Port) (identifier : Identifier) → ((j : ℕ) → identifier ≡ port_identifier j → ⊥) → In identifier (each port_identifiers 0 ps) → ⊥
never_port ps identifier never here = let e = in_each port_identifiers 0 ps identifier here in go e.position e.within where
  go : (n : ℕ) → (identifier ≡ port_identifier (0 + n)) ⊎ ⊥ → ⊥
  go n (inl same) = never (0 + n) same
  go n (inr none) = none

module _ (m : Module) (ns : List Name) (e : ns ≡ legal (map (λ (p : Port). p.name) m.ports)) where
  count : length ns ≡ length m.ports
  count = ap length e ∙ legal_count [] (map (λ (p : Port). p.name) m.ports) ∙ length-map m.ports (λ (p : Port). p.name)

  port_at : (j : ℕ) (p : Port) → slice_get m.ports j ≡ Some p → identifier_name m (port_identifier j) ≡ slice_get ns j
  port_at j p at = port_names_are m.ports m refl j p at ∙ ap (λ l. slice_get l j) (sym e)

  body_name : (identifier : Identifier) → ((j : ℕ) → identifier ≡ port_identifier j → ⊥)
      → identifier_name m identifier ≡ name_among (each (op_identifiers m.ports m.body) 0 m.body) (legal_after ns (body_name_hints m.ports m.body 0 m.body)) identifier
  body_name identifier never =
      ap (λ l. name_among (module_identifiers m) l identifier) (names_are m ns e)
      ∙ among_later (each port_identifiers 0 m.ports) (each (op_identifiers m.ports m.body) 0 m.body) ns (legal_after ns (body_name_hints m.ports m.body 0 m.body)) identifier
      (count ∙ sym (port_count 0 m.ports)) (never_port m.ports identifier never)

  value_named : (i k : ℕ) → identifier_name m (value_identifier i k) ≡ given_name (slice_get (body_given op_results m.ports m.body ns 0 m.body) i) k
  value_named i k =
      body_name (value_identifier i k) (λ j h. cc)
      ∙ ap (λ n. name_among (each (op_identifiers m.ports m.body) 0 m.body) (legal_after ns (body_name_hints m.ports m.body 0 m.body)) (value_identifier n k)) (sym (zero-add i))
      ∙ values_given m.ports m.body ns 0 m.body i k

  instance_named : (i : ℕ) (o : Op) (x : Instance) → slice_get m.body i ≡ Some o → instance_in o.kind ≡ Some x
      → identifier_name m (instance_identifier i) ≡ slice_get (body_given op_own_name m.ports m.body ns 0 m.body) i
  instance_named i o x at is =
      body_name (instance_identifier i) (λ j h. cc)
      ∙ ap (λ n. name_among (each (op_identifiers m.ports m.body) 0 m.body) (legal_after ns (body_name_hints m.ports m.body 0 m.body)) (instance_identifier n)) (sym (zero-add i))
      ∙ instances_given m.ports m.body ns 0 m.body i o x at is

  module _ (v : ValueNames) (inputs : v.ports.items ≡ port_values m.ports ns) (results : result_lists v ≡ body_given op_results m.ports m.body ns 0 m.body) where
    value_is : (r : Ref) → named_of v r ≡ value_name m r
    value_is (port j) = ap (λ l. name_in l j) inputs ∙ input_at m j m.ports ns j count (port_at j)
    value_is (result i k) = listed_name v.ops.items i k ∙ ap (λ l. given_name (slice_get l i) k) results ∙ sym (value_named i k)
    value_is undefined = refl

    pub module_names_are : (own : List Name) → own ≡ body_given op_own_name m.ports m.body ns 0 m.body → AreModuleNames m ns v own
    module_names_are own is =
        let many : length own ≡ length m.body = ap length is ∙ given_count m.ports m.body op_own_name ns 0 m.body in
        record {
          many = count;
          ports_are = λ j p at. text_there m.ports ns j p (identifier_name m (port_identifier j)) count at (port_at j p at);
          values_are = value_is;
          own_many = many;
          own_are = λ i o x at inst. text_there m.body own i o (identifier_name m (instance_identifier i)) many at (instance_named i o x at inst ∙ ap (λ l. slice_get l i) (sym is));
        }
