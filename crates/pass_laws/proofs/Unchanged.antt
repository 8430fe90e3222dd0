-- A design that stays as it is.
use Rattle.std.proofs.Common.{◌≡◌, Bool, true, false, cond, List, flat_map, Some, refl, sym, subst, ◌∙◌, arith}
use Rattle.hw_model.specs.Types.{Name}
use Rattle.hw_model.specs.Design.{Module, Design}
use Rattle.hw_model.specs.Hierarchy.{calls}
use Rattle.hw_model.specs.Meaning.{machine}
use Rattle.hw_model.proofs.Finite.{heights_from_no_cycle, settles_with_heights}
use Rattle.hw_model.proofs.Machines.{same_self}
use Rattle.op_verifier.proofs.AcceptedDesigns.{accepted_finite, accepted_acyclic}
use Rattle.aggregate_laws.specs.LeafPorts.{split_ports}
use Rattle.pass_pipeline.specs.declared.pass.Pass.{Pass}
use Rattle.pass_laws.specs.Remaining.{is_flatten, is_symbol_dce, is_lowering, has_pass, symbols, IsKept, Remains}
use Rattle.pass_laws.specs.PassLaw.{InstancesStay, leaf_types, register_types, IsModuleAfter, IsAfter, PassLaw}
use Rattle.pass_laws.proofs.Those.{all_those}

pub all_remain : (a b : Bool) → a ≡ false → b ≡ false → (d : Design) (s : Name) → Remains a b d s
all_remain true b flat gone d s = cc
all_remain false true flat gone d s = cc
all_remain false false flat gone d s = tt

instances_stay : (a : Bool) → a ≡ false → (d : Design) (s : Name) → InstancesStay a d (calls d s) (calls d s)
instances_stay true flat d s = cc
instances_stay false flat d s = refl

-- what only lowering changes stays without it
pub stays_unlowered : {A : Type 0} (a : Bool) → a ≡ false → (f : A → A) (x : A) → x ≡ cond a (f x) x
stays_unlowered true kept f x = cc
stays_unlowered false kept f x = refl

pub identity_keeps : (passes : List Pass) → has_pass is_flatten passes ≡ false → has_pass is_symbol_dce passes ≡ false → has_pass is_lowering passes ≡ false
    → PassLaw passes (λ (d e : Design). e ≡ d)
identity_keeps passes flat gone kept d e accepted printable same = subst (IsAfter passes d) (sym same) (record {
  accepted = accepted;
  printable = printable;
  order = all_those (IsKept passes d) (symbols d) (all_remain (has_pass is_flatten passes) (has_pass is_symbol_dce passes) flat gone d);
  modules = λ s m n is also. same_module s m n (let e : Some m ≡ Some n = sym is ∙ also in cc);
  same = λ s public. same_self (machine d s) (settles_with_heights d s (heights_from_no_cycle d s (accepted_finite d accepted) (accepted_acyclic d accepted s)));
})
  where
    same_module : (s : Name) (m n : Module) → m ≡ n → IsModuleAfter passes d d s m n
    same_module s m n e = subst (IsModuleAfter passes d d s m) e (record {
      mark = refl;
      location = refl;
      ports = stays_unlowered (has_pass is_lowering passes) kept split_ports m.ports;
      registers = stays_unlowered (has_pass is_lowering passes) kept (flat_map leaf_types) (register_types d s);
      instances = instances_stay (has_pass is_flatten passes) flat d s;
      weight = omega arith;
    })
