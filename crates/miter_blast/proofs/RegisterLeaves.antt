-- The widths of the leaves of a module's registers are those of its body, one operation after another.
use Rattle.std.proofs.Common.{◌≡◌, ℕ, zero, suc, cond, List, [], ◌∷◌, ◌++◌, map, slice_get, Option, Some, None, refl, sym, ap, ap₂, ◌∙◌, append_assoc, append-nil, option_map}
use Rattle.std.specs.List.{flat_map}
use Rattle.std.proofs.lemmas.List.{map-append}
use Rattle.hw_model.specs.Types.{Name, HwType, width, leaves}
use Rattle.hw_model.specs.Design.{OpResult, Op, Module, Design, find_module, is_instance, result_type}
use Rattle.hw_model.specs.Flat.{Path, Slot, width_of, depth, op_registers, body_registers, registers_of, module_registers}
use Rattle.hw_model.proofs.Sorts.{Sort, sort_of}
use Rattle.hw_model.proofs.Sorts.Sort.{a_register, an_instance, an_output, a_made}
use Rattle.pass_laws.specs.PassLaw.{leaf_types}
use Rattle.module_sums.specs.Sums.{to_depth}
use Rattle.module_sums.specs.RegisterWidths.{first_widths, kind_widths, body_widths, widths_of, leaf_widths}
use Rattle.miter_blast.specs.Comparable.{register_widths}

-- those of the leaves of registers
abbrev slots_leaves : List Slot → List ℕ
slots_leaves ss = map width_of (flat_map leaf_types (map (λ (r : Slot). result_type r.op 0) ss))

leaves_append : (xs ys : List Slot) → slots_leaves (xs ++ ys) ≡ slots_leaves xs ++ slots_leaves ys
leaves_append [] ys = refl
leaves_append (s ∷ xs) ys =
    map-append width_of (leaf_types (result_type s.op 0)) (flat_map leaf_types (map (λ (r : Slot). result_type r.op 0) (xs ++ ys)))
    ∙ ap (λ ws. map width_of (leaf_types (result_type s.op 0)) ++ ws) (leaves_append xs ys)
    ∙ sym (append_assoc (map width_of (leaf_types (result_type s.op 0))) (slots_leaves xs) (slots_leaves ys))
    ∙ ap (λ ws. ws ++ slots_leaves ys) (sym (map-append width_of (leaf_types (result_type s.op 0)) (flat_map leaf_types (map (λ (r : Slot). result_type r.op 0) xs))))

some_widths : (ts : List HwType) → map width_of (map (λ (u : HwType). Some u) ts) ≡ map width ts
some_widths [] = refl
some_widths (t ∷ ts) = ap (λ ws. width t ∷ ws) (some_widths ts)

-- those of one register
one_register : (p : Path) (o : Op) → slots_leaves (record { path = p; op = o } ∷ []) ≡ first_widths o.results
one_register p o = ap (map width_of) (append-nil (leaf_types (result_type o 0))) ∙ go o.results
  where
    go : (rs : List OpResult) → map width_of (leaf_types (option_map (λ (r : OpResult). r.type) (slice_get rs 0))) ≡ first_widths rs
    go [] = refl
    go (r ∷ rs) = some_widths (leaves r.type)

module _ (inner : Path → Name → List Slot) (widths : Name → List ℕ) (same : (q : Path) (t : Name) → slots_leaves (inner q t) ≡ widths t) where
  body_leaves : (p : Path) (u : ℕ) (os : List Op) → slots_leaves (body_registers inner p u os) ≡ body_widths widths os
  body_leaves p u [] = refl
  body_leaves p u (o ∷ os) =
      leaves_append (op_registers inner p u o) (body_registers inner p (cond (is_instance o) (suc u) u) os)
      ∙ ap₂ (λ xs ys. xs ++ ys) (here (sort_of o.kind)) (body_leaves p (cond (is_instance o) (suc u) u) os)
    where
      here : Sort o.kind → slots_leaves (op_registers inner p u o) ≡ kind_widths widths o.kind o.results
      here (a_register f r i k) = simp (r, i) (one_register p o)
      here (an_instance x r i k) = simp (r, i) (same (u ∷ p) x.symbol)
      here (an_output r i k) = simp (r, i)
      here (a_made r i k) = simp (r, i)

module_leaves : (d : Design) (n : ℕ) (p : Path) (s : Name) → slots_leaves (module_registers n d p s) ≡ to_depth widths_of [] n d s
module_leaves d zero p s = refl
module_leaves d (suc n) p s = go (find_module d s) (λ q t. module_leaves d n q t)
  where
    go : (x : Option Module) → ((q : Path) (t : Name) → slots_leaves (module_registers n d q t) ≡ to_depth widths_of [] n d t)
        → slots_leaves (registers_of (module_registers n d) p x) ≡ widths_of (to_depth widths_of [] n d) x
    go None same = refl
    go (Some m) same = body_leaves (module_registers n d) (to_depth widths_of [] n d) same p 0 m.body

pub register_leaves : (d : Design) (s : Name) → register_widths d s ≡ leaf_widths d s
register_leaves d s = module_leaves d (depth d) [] s
