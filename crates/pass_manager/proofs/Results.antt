-- What lists of passes make of a design.
use Rattle.std.proofs.Common.{◌≡◌, ℕ, ◌+◌, ◌<◌, ◌≤◌, false, List, [], ◌∷◌, ◌++◌, length, drop, get_or, Some, slice_get, refl, sym, ap, subst, ◌∙◌, add-one}
use Rattle.std.proofs.Math.Seq.{drop-cons}
use Rattle.std.proofs.lemmas.List.{drop_all}
use Rattle.hw_model.specs.Design.{Op, Module, Design}
use Rattle.edit_laws.specs.Laws.{with_body}
use Rattle.op_verifier.specs.Verdict.{IsAccepted}
use Rattle.printing_laws.specs.Printable.{Printable}
use Rattle.acceptance_laws.specs.Keeps.{IsFit}
use Rattle.acceptance_laws.proofs.Accepted.{accepted_fit}
use Rattle.pass_pipeline.specs.declared.pass.Pass.{Pass}
use Rattle.pass_pipeline.specs.declared.pass.Pass.TheVariants.{Canonicalize, Cse, SeqLowerRegs, HwLowerAggregates, HwFlattenModules, SymbolDce}
use Rattle.pass_laws.specs.PassLaw.{IsAfter, PassLaw}
use Rattle.pass_laws.proofs.Composed.{after_both}
use Rattle.pass_laws.proofs.Steady.{steady_is_after}
use Rattle.pass_laws.proofs.Steps.{Keeps}
use Rattle.pass_laws.proofs.Unchanged.{identity_keeps}
use Rattle.canonicalise.specs.Canonical.{table, IsCanonicalOf}
use Rattle.canonicalise.proofs.Follows.{followed}
use Rattle.canonicalise.proofs.Sweeping.{once, out_leads}
use Rattle.cse_pass.specs.Cse.{IsCseOf}
use Rattle.cse_pass.proofs.Following.{changes_follow}
use Rattle.cse_pass.proofs.Leading.{cse_leads}
use Rattle.cse_pass.proofs.Once.{once as cse_once}
use Rattle.cse_pass.specs.UnusedAggregates.{IsWithoutUnusedAggregates}
use Rattle.cse_pass.proofs.UnusedAggregates.{aggregate_trims_change}
use Rattle.aggregate_laws.specs.Scalars.{has_aggregates}
use Rattle.aggregate_lower.proofs.LoweringLaw.{lowering_is_after, none_left}
use Rattle.inline_pass.proofs.FlatteningLaw.{flattening_is_after, flattened_once}
use Rattle.seq_lower.specs.Lowered.{IsLoweredOf, Lowers}
use Rattle.seq_lower.proofs.Following.{lowering_keeps}
use Rattle.seq_lower.proofs.Plain.{lowered_leads}
use Rattle.inline_pass.proofs.DeadModulesGone.{dce_is_after, without_dead_once}
use Rattle.pass_manager.specs.Results.{IsChosen, IsResult, AreModulesBy, IsForExport, IsExported}
use Rattle.pass_manager.proofs.ChangedBodies.{changed_keeps, modules_once}

-- ---- bodies

pub canonical_keeps : (d : Design) (k : ℕ) (m : Module) (os : List Op) → IsFit d → slice_get d k ≡ Some m → IsCanonicalOf m.body os → Keeps d (with_body d k m os)
canonical_keeps d k m os fit at is = followed d k m os fit at (out_leads table m.body os is)

pub lowered_keeps : (d : Design) (k : ℕ) (m : Module) (os : List Op) → IsFit d → slice_get d k ≡ Some m → IsLoweredOf m.body os → Keeps d (with_body d k m os)
lowered_keeps d k m os fit at is = lowering_keeps d k m os fit at (subst (Lowers m.body) (sym is) (lowered_leads m.body))

lowered_once : (os a b : List Op) → IsLoweredOf os a → IsLoweredOf os b → a ≡ b
lowered_once os a b one other = one ∙ sym other

pub merged_keeps : (d : Design) (k : ℕ) (m : Module) (os : List Op) → IsFit d → slice_get d k ≡ Some m → IsCseOf m.body os → Keeps d (with_body d k m os)
merged_keeps d k m os fit at is = changes_follow d k m os fit at (cse_leads m.body os is)

pub trimmed_keeps : (d : Design) (k : ℕ) (m : Module) (os : List Op) → IsFit d → slice_get d k ≡ Some m → IsWithoutUnusedAggregates m.body os → Keeps d (with_body d k m os)
trimmed_keeps d k m os fit at is = changes_follow d k m os fit at (aggregate_trims_change m.body os is.trims)

-- ---- one pass

pub canonicalize_keeps : PassLaw (Canonicalize ∷ []) (IsChosen Canonicalize)
canonicalize_keeps d e accepted printable chosen =
    let keeps : Keeps d e = changed_keeps IsCanonicalOf canonical_keeps d e (accepted_fit d accepted printable) chosen in
    steady_is_after (Canonicalize ∷ []) d e refl refl refl accepted keeps.steady keeps.lighter

pub cse_keeps : PassLaw (Cse ∷ []) (IsChosen Cse)
cse_keeps d e accepted printable chosen =
    let keeps : Keeps d e = changed_keeps IsCseOf merged_keeps d e (accepted_fit d accepted printable) chosen in
    steady_is_after (Cse ∷ []) d e refl refl refl accepted keeps.steady keeps.lighter

pub seq_lower_regs_keeps : PassLaw (SeqLowerRegs ∷ []) (IsChosen SeqLowerRegs)
seq_lower_regs_keeps d e accepted printable chosen =
    let keeps : Keeps d e = changed_keeps IsLoweredOf lowered_keeps d e (accepted_fit d accepted printable) chosen in
    steady_is_after (SeqLowerRegs ∷ []) d e refl refl refl accepted keeps.steady keeps.lighter

pub flatten_keeps : PassLaw (HwFlattenModules ∷ []) (IsChosen HwFlattenModules)
flatten_keeps d e accepted printable chosen = flattening_is_after d e accepted printable chosen

pub symbol_dce_keeps : PassLaw (SymbolDce ∷ []) (IsChosen SymbolDce)
symbol_dce_keeps d e accepted printable chosen = dce_is_after d e accepted printable chosen

pub lower_aggregates_keeps : PassLaw (HwLowerAggregates ∷ []) (IsChosen HwLowerAggregates)
lower_aggregates_keeps d e accepted printable chosen = lowering_is_after d e accepted printable chosen

pub chosen_after : (pass : Pass) (d e : Design) → IsAccepted d → Printable d → IsChosen pass d e → IsAfter (pass ∷ []) d e
chosen_after Canonicalize d e accepted printable chosen = canonicalize_keeps d e accepted printable chosen
chosen_after Cse d e accepted printable chosen = cse_keeps d e accepted printable chosen
chosen_after SeqLowerRegs d e accepted printable chosen = seq_lower_regs_keeps d e accepted printable chosen
chosen_after HwLowerAggregates d e accepted printable chosen = lower_aggregates_keeps d e accepted printable chosen
chosen_after HwFlattenModules d e accepted printable chosen = flatten_keeps d e accepted printable chosen
chosen_after SymbolDce d e accepted printable chosen = symbol_dce_keeps d e accepted printable chosen

chosen_once : (pass : Pass) (d e f : Design) → IsChosen pass d e → IsChosen pass d f → e ≡ f
chosen_once Canonicalize d e f one other = modules_once IsCanonicalOf (once table) d e f one other
chosen_once Cse d e f one other = modules_once IsCseOf cse_once d e f one other
chosen_once SeqLowerRegs d e f one other = modules_once IsLoweredOf lowered_once d e f one other
chosen_once HwLowerAggregates d e f one other = one ∙ sym other
chosen_once HwFlattenModules d e f one other = flattened_once d e f one other
chosen_once SymbolDce d e f one other = without_dead_once d e f one other

-- ---- lists of passes

pub result_is_after : (passes : List Pass) (d e : Design) → IsAccepted d → Printable d → IsResult passes d e → IsAfter passes d e
result_is_after [] d e accepted printable same = identity_keeps [] refl refl refl d e accepted printable same
result_is_after (pass ∷ passes) d f accepted printable (e, chosen, rest) =
    let first : IsAfter (pass ∷ []) d e = chosen_after pass d e accepted printable chosen in
    let then : IsAfter passes e f = result_is_after passes e f first.accepted first.printable rest in
    after_both (pass ∷ []) passes d e f first then

-- passes after others
pub result_then : (passes others : List Pass) (d e f : Design) → IsResult passes d e → IsResult others e f → IsResult (passes ++ others) d f
result_then [] others d e f same rest = subst (λ x. IsResult others x f) same rest
result_then (pass ∷ passes) others d e f (g, first, more) rest = (g, first, result_then passes others g e f more rest)

pub result_once : (passes : List Pass) (d e f : Design) → IsResult passes d e → IsResult passes d f → e ≡ f
result_once [] d e f one other = one ∙ sym other
result_once (pass ∷ passes) d e f (g, first, rest) (h, same, others) =
    result_once passes g e f rest (subst (λ x. IsResult passes x f) (chosen_once pass d h g same first) others)

-- the passes from one on: that one, and those after it
pub from_one : (passes : List Pass) (i : ℕ) (d : Pass) → i < length passes → drop i passes ≡ get_or passes i d ∷ drop (i + 1) passes
from_one passes i d within = rw add-one (drop-cons passes i d within)

-- once no pass is left, what was made is the result
pub result_of : (passes items : List Pass) (d start end : Design) (index : ℕ) → items ≡ passes → start ≡ d → length items ≤ index
    → ((f : Design) → IsResult (drop index items) end f → IsResult items start f) → IsResult passes d end
result_of passes items d start end index same from done leads =
    subst (λ (z : List Pass × Design). IsResult z.0 z.1 end) (λ k. (same k, from k)) (leads end (subst (λ z. IsResult z end end) (sym (drop_all index items done)) refl))

-- ---- for an export

pub trimmed_after : (d e : Design) → IsAccepted d → Printable d → AreModulesBy IsWithoutUnusedAggregates d e → IsAfter [] d e
trimmed_after d e accepted printable trimmed =
    let keeps : Keeps d e = changed_keeps IsWithoutUnusedAggregates trimmed_keeps d e (accepted_fit d accepted printable) trimmed in
    steady_is_after [] d e refl refl refl accepted keeps.steady keeps.lighter

pub for_export_after : (d f : Design) → IsAccepted d → Printable d → IsForExport d f → IsAfter (HwLowerAggregates ∷ []) d f
for_export_after d f accepted printable (e, trimmed, lowered) =
    let first : IsAfter [] d e = trimmed_after d e accepted printable trimmed in
    let then : IsAfter (HwLowerAggregates ∷ []) e f = lower_aggregates_keeps e f first.accepted first.printable lowered in
    after_both [] (HwLowerAggregates ∷ []) d e f first then

pub exported_after : (passes : List Pass) (d f : Design) → IsAccepted d → Printable d → IsExported passes d f → IsAfter (passes ++ HwLowerAggregates ∷ []) d f
exported_after passes d f accepted printable (e, made, exported) =
    let first : IsAfter passes d e = result_is_after passes d e accepted printable made in
    after_both passes (HwLowerAggregates ∷ []) d e f first (for_export_after e f first.accepted first.printable exported)

pub exported_none : (passes : List Pass) (d f : Design) → IsAccepted d → Printable d → IsExported passes d f → has_aggregates f ≡ false
exported_none passes d f accepted printable (e, made, exported) =
    let first : IsAfter passes d e = result_is_after passes d e accepted printable made in
    let then : IsAfter [] e exported.0 = trimmed_after e exported.0 first.accepted first.printable exported.1 in
    ap has_aggregates exported.2 ∙ none_left exported.0 then.accepted then.printable
