-- Texts of circuits, part by part.
use Rattle.std.proofs.Common.{◌≡◌, ℕ, suc, ◌+◌, ◌-◌, ◌*◌, ◌<◌, List, [], ◌∷◌, ◌++◌, map, length, refl, sym, ap, ap₂, subst, ◌∙◌, arith, append_assoc}
use Rattle.std.specs.Prelude.{codes}
use Rattle.gates.specs.declared.signal.Gate.{Gate}
use Rattle.gates.specs.declared.signal.Signal.{Signal}
use Rattle.aiger_laws.specs.Trees.{Aiger}
use Rattle.aiger_circuits.specs.CircuitTrees.{signal_literal, literals_from, latches_from, gates_from, circuit_tree}
use Rattle.aiger_circuits.specs.CircuitTexts.{Symbols, more_numbers, variable_count, header_line, literal_line, latch_line, gate_line, symbol_lines, all_symbols, tree_lines, ended_lines, tree_text}
use Rattle.aiger_circuits.proofs.ReadCircuits.{inputs_count, latches_count, outputs_count, gates_count}

-- the literals from one on, the first of them apart
pub literals_next : (n count : ℕ) → n < count → literals_from (1 + n) (count - n) ≡ 2 * (n + 1) ∷ literals_from (1 + (n + 1)) (count - (n + 1))
literals_next n count less =
    let e : count - n ≡ suc (count - (n + 1)) = omega (arith, less) in
    let f : 1 + n ≡ n + 1 = omega arith in
    let g : suc (1 + n) ≡ 1 + (n + 1) = omega arith in
    ap (literals_from (1 + n)) e ∙ ap₂ (λ (a b : ℕ). 2 * a ∷ literals_from b (count - (n + 1))) f g

pub ended_append : (xs ys : List (List ℕ)) → ended_lines (xs ++ ys) ≡ ended_lines xs ++ ended_lines ys
ended_append [] ys = refl
ended_append (x ∷ xs) ys = ap (λ (more : List ℕ). x ++ 10 ∷ more) (ended_append xs ys) ∙ sym (append_assoc x (10 ∷ ended_lines xs) (ended_lines ys))

module _ (inputs : ℕ) (outputs nexts : List Signal) (gates : List Gate) (s : Symbols) where
  abbrev tree : Aiger
  tree = circuit_tree inputs outputs nexts gates

  header_is : (most : ℕ) → most ≡ inputs + length nexts + length gates
      → codes "aag" ++ more_numbers (most ∷ inputs ∷ length nexts ∷ length outputs ∷ length gates ∷ []) ≡ header_line tree
  header_is most is =
      ap (λ (m : ℕ). codes "aag" ++ more_numbers (m ∷ inputs ∷ length nexts ∷ length outputs ∷ length gates ∷ []))
      (is ∙ sym (ap₂ (λ (a b : ℕ). a + b + length tree.gates) (inputs_count inputs outputs nexts gates) (latches_count inputs outputs nexts gates) ∙ ap (λ (a : ℕ). inputs + length nexts + a) (gates_count inputs outputs nexts gates)))
      ∙ ap₂ (λ (a b : ℕ). codes "aag" ++ more_numbers (variable_count tree ∷ a ∷ b ∷ length outputs ∷ length gates ∷ [])) (sym (inputs_count inputs outputs nexts gates)) (sym (latches_count inputs outputs nexts gates))
      ∙ ap₂ (λ (a b : ℕ). codes "aag" ++ more_numbers (variable_count tree ∷ length tree.inputs ∷ length tree.latches ∷ a ∷ b ∷ [])) (sym (outputs_count inputs outputs nexts gates)) (sym (gates_count inputs outputs nexts gates))

  abbrev head : ℕ → List ℕ
  head most = codes "aag" ++ more_numbers (most ∷ inputs ∷ length nexts ∷ length outputs ∷ length gates ∷ [])

  -- the text of a tree is made of these parts
  pub text_parts : (most v w : ℕ) → most ≡ inputs + length nexts + length gates → v ≡ suc inputs → w ≡ suc (inputs + length nexts)
      → ended_lines (head most ∷ []) ++ ended_lines (map literal_line (literals_from 1 inputs)) ++ ended_lines (map latch_line (latches_from v nexts)) ++ ended_lines (map literal_line (map signal_literal outputs))
      ++ ended_lines (map gate_line (gates_from w gates)) ++ ended_lines (symbol_lines 105 0 s.inputs) ++ ended_lines (symbol_lines 108 0 s.latches) ++ ended_lines (symbol_lines 111 0 s.outputs) ≡ tree_text tree s
  unfolding tree_text circuit_tree
  text_parts most v w is first second =
      joined (head most ∷ []) (map literal_line (literals_from 1 inputs)) (map latch_line (latches_from v nexts)) (map literal_line (map signal_literal outputs)) (map gate_line (gates_from w gates))
      (symbol_lines 105 0 s.inputs) (symbol_lines 108 0 s.latches) (symbol_lines 111 0 s.outputs)
      ∙ ap₂ (λ (a b : ℕ). ended_lines (head most ∷ map literal_line (literals_from 1 inputs) ++ (map latch_line (latches_from a nexts) ++ (map literal_line (map signal_literal outputs) ++ (map gate_line
      (gates_from b gates) ++ all_symbols s))))) first second
      ∙ ap (λ (l : List ℕ). ended_lines (l ∷ tree_lines tree s)) (header_is most is)
    where
      joined : (a b c d e f g h : List (List ℕ)) → ended_lines a ++ ended_lines b ++ ended_lines c ++ ended_lines d ++ ended_lines e ++ ended_lines f ++ ended_lines g ++ ended_lines h
          ≡ ended_lines (a ++ (b ++ (c ++ (d ++ (e ++ (f ++ (g ++ h)))))))
      joined a b c d e f g h =
          pair (ended_lines a ++ ended_lines b ++ ended_lines c ++ ended_lines d ++ ended_lines e ++ ended_lines f) g h
          ∙ pair (ended_lines a ++ ended_lines b ++ ended_lines c ++ ended_lines d ++ ended_lines e) f (g ++ h)
          ∙ pair (ended_lines a ++ ended_lines b ++ ended_lines c ++ ended_lines d) e (f ++ (g ++ h))
          ∙ pair (ended_lines a ++ ended_lines b ++ ended_lines c) d (e ++ (f ++ (g ++ h)))
          ∙ pair (ended_lines a ++ ended_lines b) c (d ++ (e ++ (f ++ (g ++ h))))
          ∙ pair (ended_lines a) b (c ++ (d ++ (e ++ (f ++ (g ++ h)))))
          ∙ sym (ended_append a (b ++ (c ++ (d ++ (e ++ (f ++ (g ++ h)))))))
        where
          pair : (before : List ℕ) (x y : List (List ℕ)) → before ++ ended_lines x ++ ended_lines y ≡ before ++ ended_lines (x ++ y)
          pair before x y = append_assoc before (ended_lines x) (ended_lines y) ∙ ap (λ (t : List ℕ). before ++ t) (sym (ended_append x y))
