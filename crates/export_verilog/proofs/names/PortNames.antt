-- The names of a module's ports are the first that it gives.
use Rattle.std.proofs.Common.{◌≡◌, ℕ, zero, suc, ◌+◌, Bool, true, false, cond, nat_eq, List, [], ◌∷◌, ◌++◌, map, length, slice_get, Some, refl, sym, ◌∙◌, ap, append_assoc, arith, add-zero, add-suc, zero-add, suc-add, eq-eqb}
use Rattle.std.proofs.lemmas.List.{map-append, append-nil}
use Rattle.hw_model.specs.Types.{Name}
use Rattle.hw_model.specs.Design.{Port, Module}
use Rattle.name_legalise.specs.Legal.{legal, legal_name, legal_after}
use Rattle.name_legalise.proofs.Legals.{legal_count}
use Rattle.export_verilog.specs.Identifiers.{Identifier, each, port_identifiers, op_identifiers, module_identifiers, name_hint, port_name_hint, names, name_among, identifier_text, name_or_nothing}
use Rattle.export_verilog.specs.Identifiers.Identifier.{port_identifier}
use Rattle.export_verilog.specs.Exported.{vport, vports}
use Rattle.export_verilog.specs.Written.{port_named, ports_named}
use Rattle.export_verilog.specs.Held.{ArePortNames}
use Rattle.export_verilog.proofs.names.IdentifierNames.{identifier_from}

-- the names of some wishes, and then of others
pub legal_append : (ts xs ys : List Name) → legal_after ts (xs ++ ys) ≡ legal_after ts xs ++ legal_after (ts ++ legal_after ts xs) ys
legal_append ts [] ys = ap (λ t. legal_after t ys) (sym (append-nil ts))
legal_append ts (x ∷ xs) ys =
    let n = legal_name ts x in
    ap (λ l. n ∷ l) (legal_append (ts ++ n ∷ []) xs ys ∙ ap (λ t. legal_after (ts ++ n ∷ []) xs ++ legal_after t ys) (append_assoc ts (n ∷ []) (legal_after (ts ++ n ∷ []) xs)))

port_number : Identifier → ℕ
port_number (port_identifier i) = i
port_number _ = 0

never_later : (o j : ℕ) → o ≡ o + suc j → ⊥
never_later o j e = omega (arith, e)

apart : (o j : ℕ) → nat_eq o (o + suc j) ≡ false
unfolding port_number
apart o j = go (nat_eq o (o + suc j)) refl where
  go : (b : Bool) → nat_eq o (o + suc j) ≡ b → b ≡ false
  go true e = absurd (never_later o j (ap port_number (identifier_from (port_identifier o) (port_identifier (o + suc j)) e)))
  go false e = refl

-- ports are found among the first keys
ports_among : (o : ℕ) (ps : List Port) (ks : List Identifier) (ns ms : List Name) (j : ℕ) (p : Port) → length ns ≡ length ps → slice_get ps j ≡ Some p
    → name_among (each port_identifiers o ps ++ ks) (ns ++ ms) (port_identifier (o + j)) ≡ slice_get ns j
ports_among o [] ks ns ms j p count at = cc
ports_among o (q ∷ ps) ks [] ms j p count at = absurd (omega (arith, count))
ports_among o (q ∷ ps) ks (n ∷ ns) ms zero p count at =
    ap (λ b. cond b (Some n) (name_among (each port_identifiers (suc o) ps ++ ks) (ns ++ ms) (port_identifier (o + 0)))) (eq-eqb o (o + 0) (sym (add-zero o)))
ports_among o (q ∷ ps) ks (n ∷ ns) ms (suc j) p count at =
    ap (λ b. cond b (Some n) (name_among (each port_identifiers (suc o) ps ++ ks) (ns ++ ms) (port_identifier (o + suc j)))) (apart o j)
    ∙ ap (λ i. name_among (each port_identifiers (suc o) ps ++ ks) (ns ++ ms) (port_identifier i)) (add-suc o j ∙ sym (suc-add o j))
    ∙ ports_among (suc o) ps ks ns ms j p (omega (arith, count)) at

-- what is wanted for the ports
pub ports_name_hint : (m : Module) (o : ℕ) (ps : List Port) → ((k : ℕ) → slice_get m.ports (o + k) ≡ slice_get ps k)
    → map (name_hint m) (each port_identifiers o ps) ≡ map (λ (p : Port). p.name) ps
ports_name_hint m o [] at = refl
ports_name_hint m o (p ∷ ps) at =
    ap (λ n. n ∷ map (name_hint m) (each port_identifiers (suc o) ps)) (ap port_name_hint (ap (slice_get m.ports) (sym (add-zero o)) ∙ at 0))
    ∙ ap (λ l. p.name ∷ l) (ports_name_hint m (suc o) ps (λ k. ap (slice_get m.ports) (suc-add o k ∙ sym (add-suc o k)) ∙ at (suc k)))

pub port_names_are : (ps : List Port) → ArePortNames ps (legal (map (λ (p : Port). p.name) ps))
unfolding names
port_names_are ps m e j p at =
    let ks = each (op_identifiers m.ports m.body) 0 m.body in
    let ws = map (λ (q : Port). q.name) ps in
    let ms = legal_after (legal ws) (map (name_hint m) ks) in
    let name_hints : map (name_hint m) (each port_identifiers 0 m.ports) ≡ ws = ports_name_hint m 0 m.ports (λ k. ap (slice_get m.ports) (zero-add k)) ∙ ap (λ x. map (λ (q : Port). q.name) x) e in
    let all : names m ≡ legal ws ++ ms =
    ap legal (map-append (name_hint m) (each port_identifiers 0 m.ports) ks ∙ ap (λ w. w ++ map (name_hint m) ks) name_hints) ∙ legal_append [] ws (map (name_hint m) ks) in
    ap (λ ns. name_among (module_identifiers m) ns (port_identifier j)) all
    ∙ ap (λ x. name_among (each port_identifiers 0 x ++ ks) (legal ws ++ ms) (port_identifier j)) e
    ∙ ap (λ i. name_among (each port_identifiers 0 ps ++ ks) (legal ws ++ ms) (port_identifier i)) (sym (zero-add j))
    ∙ ports_among 0 ps ks (legal ws) ms j p (legal_count [] ws ∙ many ps) at
  where
    many : (ps : List Port) → length (map (λ (p : Port). p.name) ps) ≡ length ps
    many [] = refl
    many (p ∷ ps) = ap suc (many ps)

-- the ports of a module, under their names
pub ports_from : (m : Module) (o : ℕ) (ps : List Port) (ns : List Name) → length ns ≡ length ps
    → ((j : ℕ) (p : Port) → slice_get ps j ≡ Some p → identifier_text m (port_identifier (o + j)) ≡ name_or_nothing (slice_get ns j)) → each (vport m) o ps ≡ ports_named ns ps
ports_from m o [] [] count at = refl
ports_from m o [] (n ∷ ns) count at = absurd (omega (arith, count))
ports_from m o (p ∷ ps) [] count at = absurd (omega (arith, count))
ports_from m o (p ∷ ps) (n ∷ ns) count at =
    let first : identifier_text m (port_identifier o) ≡ n = ap (λ i. identifier_text m (port_identifier i)) (sym (add-zero o)) ∙ at 0 p refl in
    ap (λ x. port_named x p ∷ each (vport m) (suc o) ps) first
    ∙ ap (λ l. port_named n p ∷ l) (ports_from m (suc o) ps ns (omega (arith, count)) (λ j q there. ap (λ i. identifier_text m (port_identifier i)) (suc-add o j ∙ sym (add-suc o j)) ∙ at (suc j) q there))

pub vports_are : (m : Module) (ns : List Name) → length ns ≡ length m.ports → ArePortNames m.ports ns → vports m ≡ ports_named ns m.ports
vports_are m ns count are = ports_from m 0 m.ports ns count (λ j p at. ap (λ i. identifier_text m (port_identifier i)) (zero-add j) ∙ ap name_or_nothing (are m refl j p at))
