-- Laws of passes one after another.
use Rattle.std.proofs.Common.{◌≡◌, Bool, true, false, cond, ◌||◌, List, ◌++◌, flat_map, Some, ◌≤◌, refl, sym, subst, ◌∙◌, arith}
use Rattle.hw_model.specs.Types.{Name}
use Rattle.hw_model.specs.Design.{Module, Design, find_module}
use Rattle.hw_model.specs.Hierarchy.{calls}
use Rattle.hw_model.specs.Meaning.{machine}
use Rattle.hw_model.specs.Weight.{weight}
use Rattle.hw_model.proofs.Finite.{module_found}
use Rattle.hw_model.proofs.Machines.{same_then}
use Rattle.pass_pipeline.specs.declared.pass.Pass.{Pass}
use Rattle.aggregate_laws.specs.LeafPorts.{split_ports}
use Rattle.pass_laws.specs.Remaining.{is_flatten, is_symbol_dce, is_lowering, has_pass, symbols, IsPublic, IsKept, Remains, AreThose, AreWithin}
use Rattle.pass_laws.specs.PassLaw.{InstancesStay, leaf_types, register_types, IsModuleAfter, IsAfter}
use Rattle.pass_laws.proofs.Those.{those_were, those_meet, those_same, those_then, within_then, within_those}
use Rattle.pass_laws.proofs.LoweredTwice.{named_once, ports_both, types_both}
use Rattle.pass_laws.proofs.Remaining.{has_pass-append, symbol_found, public_after, public_before, remains_both, remained_first, remained_second}

module _ (ps qs : List Pass) (d e f : Design) (first : IsAfter ps d e) (second : IsAfter qs e f) where
  symbols_both : AreThose (IsKept (ps ++ qs) d) (symbols d) (symbols f)
  symbols_both =
      subst (λ z. AreThose (Remains (has_pass is_flatten (ps ++ qs)) z d) (symbols d) (symbols f)) (sym (has_pass-append is_symbol_dce ps qs))
      (subst (λ z. AreThose (Remains z (has_pass is_symbol_dce ps || has_pass is_symbol_dce qs) d) (symbols d) (symbols f)) (sym (has_pass-append is_flatten ps qs))
      (those_then (IsKept ps d) (IsKept qs e) (Remains (has_pass is_flatten ps || has_pass is_flatten qs) (has_pass is_symbol_dce ps || has_pass is_symbol_dce qs) d) (symbols d) (symbols e) (symbols f)
      (λ s here p q. remains_both ps d e first (has_pass is_flatten ps) (has_pass is_symbol_dce ps) (has_pass is_flatten qs) (has_pass is_symbol_dce qs) refl s p q)
      (λ s r. remained_first ps d e first (has_pass is_flatten ps) (has_pass is_symbol_dce ps) (has_pass is_flatten qs) (has_pass is_symbol_dce qs) s r)
      (λ s here r. remained_second ps d e first (has_pass is_flatten ps) (has_pass is_symbol_dce ps) (has_pass is_flatten qs) (has_pass is_symbol_dce qs) refl s r)
      first.order second.order))

  instances_both : (a c : Bool) (xs ys zs : List Name) → InstancesStay a d xs ys → InstancesStay c e ys zs → InstancesStay (a || c) d xs zs
  instances_both false false xs ys zs p q = q ∙ p
  instances_both false true xs ys zs p (public, those, within) =
      (public, those_same (IsPublic e) (IsPublic d) xs public (public_before ps d e first) (public_after ps d e first) (subst (λ l. AreThose (IsPublic e) l public) p those), within)
  instances_both true false xs ys zs (public, those, within) q = (public, those, subst (AreWithin public) (sym q) within)
  instances_both true true xs ys zs (public, those, within) (more, these, inside) = (
    public,
    those,
    within_then public more zs (within_those (IsPublic e) public ys more (λ s here. public_after ps d e first s (those_meet (IsPublic d) s xs public those here)) within these) inside,
  )

  module_both : (s : Name) (m n : Module) → find_module d s ≡ Some m → find_module f s ≡ Some n → IsModuleAfter (ps ++ qs) d f s m n
  module_both s m n is also =
      let between = symbol_found e s (those_were (IsKept qs e) s (symbols e) (symbols f) second.order (module_found f s n also)) in
      let one = first.modules s m between.0 is between.1 in
      let two = second.modules s between.0 n between.1 also in
      let lighter : weight e s ≤ weight d s = one.weight in
      let again : weight f s ≤ weight e s = two.weight in
      record {
        mark = two.mark ∙ one.mark;
        location = two.location ∙ one.location;
        ports = subst (λ b. n.ports ≡ cond b (split_ports m.ports) m.ports) (sym (has_pass-append is_lowering ps qs))
            (ports_both (has_pass is_lowering ps) (has_pass is_lowering qs) m.ports between.0.ports n.ports (named_once e first.accepted first.printable s between.0 between.1) one.ports two.ports);
        registers = subst (λ b. register_types f s ≡ cond b (flat_map leaf_types (register_types d s)) (register_types d s)) (sym (has_pass-append is_lowering ps qs))
            (types_both (has_pass is_lowering ps) (has_pass is_lowering qs) (register_types d s) (register_types e s) (register_types f s) one.registers two.registers);
        instances = subst (λ b. InstancesStay b d (calls d s) (calls f s)) (sym (has_pass-append is_flatten ps qs))
            (instances_both (has_pass is_flatten ps) (has_pass is_flatten qs) (calls d s) (calls e s) (calls f s) one.instances two.instances);
        weight = omega arith;
      }

  pub after_both : IsAfter (ps ++ qs) d f
  after_both = record {
    accepted = second.accepted;
    printable = second.printable;
    order = symbols_both;
    modules = module_both;
    same = λ s public. same_then (machine d s) (machine e s) (machine f s) (first.same s public) (second.same s (public_after ps d e first s public));
  }
