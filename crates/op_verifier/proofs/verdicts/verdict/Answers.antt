use Rattle.std.proofs.Common.{ℕ, Option, sym, subst, ◌∙◌}
use Rattle.ir_store.specs.Designs.{design_of, modules_of}
use Rattle.design_cycles.specs.declared.op_site.OpSite.{OpSite}
use Rattle.design_cycles.specs.Asked.{IsRecursiveAt, IsTooLargeAt, IsCyclicAt}
use Rattle.design_cycles.specs.Positions.{Finds, FindsNumber}
use Rattle.op_verifier.specs.Verdict.IsRefusal.{unfit}
use Rattle.op_verifier.proofs.Distinct.{distinct_symbols}
use Rattle.op_verifier.proofs.WholeDesigns.{site_within, site_live, module_within, recursive_refusal, large_refusal, cyclic_refusal, nothing_refused}
use Rattle.op_verifier.proofs.verdicts.verdict.Goals as goal

pub returns-in-Some : goal.returns-in-Some
returns-in-Some c = unfit c.in-Some.refusal (sym c.in_ok-refusal.ensures ∙ c.in-Some.is)

pub first_recursive-requires-clause-distinct : goal.first_recursive-requires-clause-distinct
first_recursive-requires-clause-distinct c = distinct_symbols (design_of c.args.design.now) (sym c.in_ok-refusal.ensures ∙ c.in_default.is)

pub refused_op-requires-clause-within : goal.refused_op-requires-clause-within
refused_op-requires-clause-within c =
    let d = c.args.design.now in
    site_within (modules_of d) (IsRecursiveAt (design_of d)) c.in-Some-2.position
    (subst (λ (x : Option OpSite). Finds (modules_of d) (IsRecursiveAt (design_of d)) x) c.in-Some-2.is c.in_ok-position.ensures.found)

pub refused_op-requires-clause-live : goal.refused_op-requires-clause-live
refused_op-requires-clause-live c =
    let d = c.args.design.now in
    site_live (modules_of d) (IsRecursiveAt (design_of d)) c.in-Some-2.position
    (subst (λ (x : Option OpSite). Finds (modules_of d) (IsRecursiveAt (design_of d)) x) c.in-Some-2.is c.in_ok-position.ensures.found)

pub returns-in-Some-2 : goal.returns-in-Some-2
returns-in-Some-2 c =
    let d = c.args.design.now in
    recursive_refusal d c.in-Some-2.position c.refused_op.result (sym c.in_ok-refusal.ensures ∙ c.in_default.is)
    (subst (λ (x : Option OpSite). Finds (modules_of d) (IsRecursiveAt (design_of d)) x) c.in-Some-2.is c.in_ok-position.ensures.found) c.refused_op.ensures

pub first_too_large-requires-clause-distinct : goal.first_too_large-requires-clause-distinct
first_too_large-requires-clause-distinct c = distinct_symbols (design_of c.args.design.now) (sym c.in_ok-refusal.ensures ∙ c.in_default.is)

pub first_too_large-requires-clause-finite : goal.first_too_large-requires-clause-finite
first_too_large-requires-clause-finite c = c.in_ok-position.ensures.none c.in_default-2.is

pub refused_module-requires : goal.refused_module-requires
refused_module-requires c =
    let d = c.args.design.now in
    module_within (modules_of d) c.in-Some-3.number
    (subst (λ (x : Option ℕ). FindsNumber (IsTooLargeAt (design_of d)) x) c.in-Some-3.is c.in_ok-number.ensures)

pub returns-in-Some-3 : goal.returns-in-Some-3
returns-in-Some-3 c =
    let d = c.args.design.now in
    large_refusal d c.in-Some-3.number c.refused_module.result (sym c.in_ok-refusal.ensures ∙ c.in_default.is)
    (subst (λ (x : Option OpSite). Finds (modules_of d) (IsRecursiveAt (design_of d)) x) c.in_default-2.is c.in_ok-position.ensures.found)
    (subst (λ (x : Option ℕ). FindsNumber (IsTooLargeAt (design_of d)) x) c.in-Some-3.is c.in_ok-number.ensures) c.refused_module.ensures

pub first_cycle-requires-clause-distinct : goal.first_cycle-requires-clause-distinct
first_cycle-requires-clause-distinct c = distinct_symbols (design_of c.args.design.now) (sym c.in_ok-refusal.ensures ∙ c.in_default.is)

pub first_cycle-requires-clause-finite : goal.first_cycle-requires-clause-finite
first_cycle-requires-clause-finite c = c.in_ok-position.ensures.none c.in_default-2.is

pub refused_op-requires-in-Some-4-clause-within : goal.refused_op-requires-in-Some-4-clause-within
refused_op-requires-in-Some-4-clause-within c =
    let d = c.args.design.now in
    site_within (modules_of d) (IsCyclicAt (design_of d)) c.in-Some-4.position
    (subst (λ (x : Option OpSite). Finds (modules_of d) (IsCyclicAt (design_of d)) x) c.in-Some-4.is c.in_ok-position-2.ensures.found)

pub refused_op-requires-in-Some-4-clause-live : goal.refused_op-requires-in-Some-4-clause-live
refused_op-requires-in-Some-4-clause-live c =
    let d = c.args.design.now in
    site_live (modules_of d) (IsCyclicAt (design_of d)) c.in-Some-4.position
    (subst (λ (x : Option OpSite). Finds (modules_of d) (IsCyclicAt (design_of d)) x) c.in-Some-4.is c.in_ok-position-2.ensures.found)

pub returns-in-Some-4 : goal.returns-in-Some-4
returns-in-Some-4 c =
    let d = c.args.design.now in
    cyclic_refusal d c.in-Some-4.position c.refused_op-in-Some-4.result (sym c.in_ok-refusal.ensures ∙ c.in_default.is)
    (subst (λ (x : Option OpSite). Finds (modules_of d) (IsRecursiveAt (design_of d)) x) c.in_default-2.is c.in_ok-position.ensures.found)
    (subst (λ (x : Option ℕ). FindsNumber (IsTooLargeAt (design_of d)) x) c.in_default-3.is c.in_ok-number.ensures)
    (subst (λ (x : Option OpSite). Finds (modules_of d) (IsCyclicAt (design_of d)) x) c.in-Some-4.is c.in_ok-position-2.ensures.found) c.refused_op-in-Some-4.ensures

pub returns : goal.returns
returns c =
    let d = c.args.design.now in
    nothing_refused d (sym c.in_ok-refusal.ensures ∙ c.in_default.is)
    (subst (λ (x : Option OpSite). Finds (modules_of d) (IsRecursiveAt (design_of d)) x) c.in_default-2.is c.in_ok-position.ensures.found)
    (subst (λ (x : Option ℕ). FindsNumber (IsTooLargeAt (design_of d)) x) c.in_default-3.is c.in_ok-number.ensures)
    (subst (λ (x : Option OpSite). Finds (modules_of d) (IsCyclicAt (design_of d)) x) c.in_default-4.is c.in_ok-position-2.ensures.found)
