-- The parts of the text of a module and of a design, added one after another.
use Rattle.std.proofs.Common.{◌≡◌, ℕ, zero, suc, ◌+◌, ◌<◌, ◌≤◌, nat_lt, Bool, true, cond, List, [], ◌∷◌, ◌++◌, map, drop, length, slice_get, Some, codes, refl, sym, ◌∙◌, ap, append_assoc, arith, add-zero, add-suc, zero-add}
use Rattle.std.proofs.lemmas.Bool.Decides.{nat_tests}
use Rattle.std.proofs.lemmas.List.{append-nil, drop_all}
use Rattle.std.proofs.lemmas.Option.{get_or_from_slice_get}
use Rattle.hw_model.specs.Types.{Name}
use Rattle.hw_model.specs.Design.{Port, Module, Design}
use Rattle.verilog_model.specs.Tree.{VPort, Item, VModule, Tree}
use Rattle.wiring.proofs.Joined.{split_at}
use Rattle.lowering_options.specs.declared.lowering.Lowering.{Lowering}
use Rattle.export_verilog.specs.Identifiers.{identifier_text, name_or_nothing}
use Rattle.export_verilog.specs.Identifiers.Identifier.{port_identifier}
use Rattle.export_verilog.specs.Exported.{vports, vmodule}
use Rattle.export_verilog.specs.Layout.{Text, ports_text, items_text, module_text, further_text, tree_text, verilog_text}
use Rattle.export_verilog.specs.Written.{ports_named}
use Rattle.export_verilog.proofs.names.PortNames.{ports_from}
use Rattle.export_verilog.proofs.text.Listed.{lines_rest}
use Rattle.export_verilog.proofs.text.Rests.{four_parts}
use Rattle.export_verilog.proofs.text.ItemRests.{items_rest}

-- ---- ports under their names

pub named_ports : (m : Module) (ns : List Name) → length ns ≡ length m.ports
    → ((j : ℕ) (p : Port) → slice_get m.ports j ≡ Some p → slice_get ns j ≡ Some (identifier_text m (port_identifier j))) → ports_named ns m.ports ≡ vports m
named_ports m ns count are = sym (ports_from m 0 m.ports ns count (λ j p there. ap (λ i. identifier_text m (port_identifier i)) (zero-add j) ∙ sym (ap name_or_nothing (are j p there))))

-- ---- the rest of a text stands after a module

ports_rest : (ps : List VPort) (a b : Text) → ports_text ps (a ++ b) ≡ ports_text ps a ++ b
unfolding ports_text
ports_rest [] a b = refl
ports_rest (p ∷ ps) a b = ap (λ x. 40 ∷ 10 ∷ x) (lines_rest p ps (41 ∷ 59 ∷ 10 ∷ a) b)

module_rest : (m : VModule) (a b : Text) → module_text m (a ++ b) ≡ module_text m a ++ b
unfolding module_text
module_rest m a b =
    ap (λ x. codes "module " ++ (m.name ++ ports_text m.ports x)) (items_rest m.items (codes "endmodule" ++ (10 ∷ a)) b)
    ∙ ap (λ x. codes "module " ++ (m.name ++ x)) (ports_rest m.ports (items_text m.items (codes "endmodule" ++ (10 ∷ a))) b)
    ∙ ap (λ x. codes "module " ++ x) (sym (append_assoc m.name (ports_text m.ports (items_text m.items (codes "endmodule" ++ (10 ∷ a)))) b))

-- ---- a module, part after part

module_split : (n : Name) (ps : List VPort) (is : List Item)
    → codes "module " ++ (n ++ (ports_text ps [] ++ (items_text is [] ++ codes "endmodule\n"))) ≡ module_text (record { name = n; ports = ps; items = is }) []
unfolding module_text
module_split n ps is =
    ap (λ x. codes "module " ++ (n ++ (ports_text ps [] ++ x))) (sym (items_rest is [] (codes "endmodule\n")))
    ∙ ap (λ x. codes "module " ++ (n ++ x)) (sym (ports_rest ps [] (items_text is (codes "endmodule\n"))))

pub module_parts : (n : Name) (ps : List VPort) (is : List Item) (out one two thr fou end : Text)
    → one ≡ out ++ codes "module " → two ≡ one ++ n → thr ≡ two ++ ports_text ps [] → fou ≡ thr ++ items_text is [] → end ≡ fou ++ codes "endmodule\n"
    → end ≡ out ++ module_text (record { name = n; ports = ps; items = is }) []
module_parts n ps is out one two thr fou end p q r s t =
    four_parts one two thr fou end n (ports_text ps []) (items_text is []) (codes "endmodule\n") q r s t
    ∙ ap (λ x. x ++ (n ++ (ports_text ps [] ++ (items_text is [] ++ codes "endmodule\n")))) p
    ∙ append_assoc out (codes "module ") (n ++ (ports_text ps [] ++ (items_text is [] ++ codes "endmodule\n")))
    ∙ ap (λ x. out ++ x) (module_split n ps is)

-- ---- a design, module after module

-- the text of the modules that are left after so many
unfoldable pub modules_left : ℕ → Tree → Text
modules_left zero ms = tree_text ms
modules_left (suc n) ms = further_text ms

left_later : (n : ℕ) (ms : Tree) → modules_left (n + 1) ms ≡ further_text ms
unfolding modules_left
left_later n ms = ap (λ k. modules_left k ms) (add-suc n 0 ∙ ap suc (add-zero n))

left_first : (n : ℕ) (m : VModule) (ms : Tree) → modules_left n (m ∷ ms) ≡ cond (nat_lt 0 n) (codes "\n") [] ++ (module_text m [] ++ modules_left (n + 1) ms)
unfolding modules_left tree_text further_text
left_first zero m ms = module_rest m [] (further_text ms)
left_first (suc n) m ms =
    let later : nat_lt 0 (suc n) ≡ true = grind (arith, nat_tests) in
    ap (λ x. 10 ∷ x) (module_rest m [] (further_text ms) ∙ ap (λ x. module_text m [] ++ x) (sym (left_later (suc n) ms)))
    ∙ ap (λ b. cond b (codes "\n") [] ++ (module_text m [] ++ modules_left (suc n + 1) ms)) (sym later)

left_none : (n : ℕ) → modules_left n [] ≡ []
unfolding modules_left tree_text further_text
left_none zero = refl
left_none (suc n) = refl

pub left_all : (via : Lowering) (d : Design) → modules_left 0 (map (vmodule via d) d) ≡ verilog_text via d
unfolding modules_left verilog_text
left_all via d = refl

found : {A : Type 0} (xs : List A) (i : ℕ) → i < length xs → (x : A) × (slice_get xs i ≡ Some x)
found [] i lt = absurd (omega (arith, lt))
found (x ∷ xs) zero lt = (x, refl)
found (x ∷ xs) (suc i) lt = found xs i (omega (arith, lt))

-- one module more
pub module_step : {A : Type 0} (view : A → VModule) (xs : List A) (i : ℕ) (follows : Bool) (out one two whole : Text) → i < length xs → follows ≡ nat_lt 0 i
    → out ++ modules_left i (map view (drop i xs)) ≡ whole → one ≡ out ++ cond follows (codes "\n") []
    → ((x : A) → slice_get xs i ≡ Some x → two ≡ one ++ module_text (view x) [])
    → two ++ modules_left (i + 1) (map view (drop (i + 1) xs)) ≡ whole
module_step view xs i follows out one two whole lt is inv p q =
    let x = found xs i lt in
    let gap = cond (nat_lt 0 i) (codes "\n") [] in
    let rest = modules_left (i + 1) (map view (drop (i + 1) xs)) in
    ap (λ t. t ++ rest) (q x.0 x.1 ∙ ap (λ t. t ++ module_text (view x.0) []) (p ∙ ap (λ b. out ++ cond b (codes "\n") []) is))
    ∙ append_assoc (out ++ gap) (module_text (view x.0) []) rest ∙ append_assoc out gap (module_text (view x.0) [] ++ rest)
    ∙ ap (λ t. out ++ t)
    (sym (ap (λ l. modules_left i (map view l)) (split_at xs i x.0 lt (sym (get_or_from_slice_get xs i x.0 x.0 x.1))) ∙ left_first i (view x.0) (map view (drop (i + 1) xs)))) ∙ inv

pub modules_end : {A : Type 0} (view : A → VModule) (xs : List A) (i : ℕ) (out whole : Text) → length xs ≤ i
    → out ++ modules_left i (map view (drop i xs)) ≡ whole → out ≡ whole
modules_end view xs i out whole le inv =
    sym (append-nil out) ∙ sym (ap (λ l. out ++ l) (ap (λ l. modules_left i (map view l)) (drop_all i xs le) ∙ left_none i)) ∙ inv
