-- What is made of a design in the AIGER format.
use Rattle.std.proofs.Common.{◌≡◌, ℕ, zero, suc, ◌+◌, ◌↔◌, inl, inr, Bool, true, false, cond, List, [], ◌∷◌, length, map, slice_get, Option, None, Some, Result, Ok, Err, sym, subst, ◌∙◌, refl, ap, arith}
use Rattle.wiring.specs.Wiring.{In}
use Rattle.wiring.proofs.Members.{position_of_In}
use Rattle.bits_core.specs.Word.{Word}
use Rattle.hw_model.specs.Types.{Name}
use Rattle.hw_model.specs.Design.{Port, Module, Design, find_module}
use Rattle.hw_model.specs.Machine.{Same}
use Rattle.hw_model.specs.Meaning.{machine}
use Rattle.design_cycles.proofs.Callees.{found_at}
use Rattle.diag.specs.declared.refusal.Refusal.{Refusal}
use Rattle.mlir_reader.specs.Reading.{read}
use Rattle.op_verifier.specs.Headers.{has_twice}
use Rattle.op_verifier.specs.Verdict.{IsAccepted}
use Rattle.op_verifier.proofs.AcceptedDesigns.{accepted_distinct}
use Rattle.printing_laws.specs.Printable.{Printable}
use Rattle.aggregate_laws.specs.LeafPorts.{split_ports}
use Rattle.export_verilog.proofs.names.Symbols.{found_symbol}
use Rattle.net_gates.specs.ClockedInputs.{free_bits, with_clocks}
use Rattle.aiger_laws.specs.Trees.{Aiger}
use Rattle.aiger_laws.specs.Grammar.{IsAiger}
use Rattle.aiger_export.specs.PublicModules.{public_from, only_one, only_public, IsOnlyPublic}
use Rattle.aiger_export.specs.Exports.{IsExportText, IsExportRefusal, exported_tree}
use Rattle.aiger_export.specs.Exports.{IsRefusedExport as IsUnexported}
use Rattle.aiger_export.specs.declared.fail.ExportFail.{ExportFail}
use Rattle.aiger_export.specs.declared.fail.ExportFail.TheVariants as export
use Rattle.pass_pipeline.specs.declared.pass.Pass.{Pass}
use Rattle.pass_manager.specs.Results.{IsResult}
use Rattle.pass_manager.proofs.Results.{result_once}
use Rattle.pass_laws.specs.PassLaw.{IsAfter}
use Rattle.pass_laws.specs.Remaining.{is_lowering, has_pass, IsPublic}
use Rattle.pass_laws.proofs.Remaining.{public_before}
use Rattle.pass_laws.proofs.LoweredTwice.{names_of, named_once, ports_both}
use Rattle.command_line.specs.Line.Work.{aiger_export}
use Rattle.circt_top.specs.Accepting.{Accepted, IsRefusedIn, in_file, first_input}
use Rattle.circt_top.specs.OutcomeParts.{IsTaken, fail_in_file}
use Rattle.circt_top.specs.Partners.{HasPartners}
use Rattle.circt_top.specs.Exports.{DoesAsModule, GivesExport, CanBeExported, IsExport, IsRefusedExport, export_failure}
use Rattle.circt_top.specs.Exports.IsRefusedExport.{input as of_input, made as of_made}
use Rattle.circt_top.specs.Outcome.{GivesText}
use Rattle.circt_top.specs.declared.made.OutcomeFail.{OutcomeFail}
use Rattle.circt_top.specs.declared.made.OutcomeFail.TheVariants.{Refused, NoMemory}
use Rattle.circt_top.proofs.OutcomeParts.{ResultLaws}
use Rattle.circt_top.proofs.Partners.{partners}

-- ---- refusals

-- what can be exported is not refused
pub export_unrefused : (passes : List Pass) (bytes : List ℕ) (r : Refusal) → (IsRefusedIn 0 bytes r → ⊥) → CanBeExported passes bytes → IsRefusedExport passes bytes r → ⊥
export_unrefused passes bytes r unrefused can (of_input x is) = unrefused is
export_unrefused passes bytes r unrefused can (of_made d e x accepted result is) =
    let one : Ok d ≡ Ok can.design = sym accepted.says ∙ can.accepted.says in
    let same : d ≡ can.design = cc in
    let once : e ≡ can.exportable.made = result_once passes can.design e can.exportable.made (subst (λ i. IsResult passes i e) same result) can.exportable.result in
    can.exportable.unrefused x (subst (λ f. IsExportRefusal f x) once is)

-- what was exported can be
pub export_can_be : (passes : List Pass) (bytes text : List ℕ) → IsExport passes bytes text → CanBeExported passes bytes
export_can_be passes bytes text is = record { design = is.design; accepted = is.accepted; exportable = is.exported.can }

-- ---- the only public module

-- a public module's number is among those of public ones, and what is among them is one
public_here : (k : ℕ) (d : Design) (i n : ℕ) (m : Module) → n ≡ k + i → slice_get d i ≡ Some m → m.is_private ≡ false → In n (public_from k d)
public_here k [] i n m is at exposed = let none : None ≡ Some m = at in cc
public_here k (x ∷ d) zero n m is at exposed =
    let same : x ≡ m = cc in
    let first : n ≡ k = omega (arith, is) in
    subst (λ b. In n (cond b (public_from (suc k) d) (k ∷ public_from (suc k) d))) (sym (ap (λ (y : Module). y.is_private) same ∙ exposed)) (inl first)
public_here k (x ∷ d) (suc i) n m is at exposed = go x.is_private (public_here (suc k) d i n m (omega (arith, is)) at exposed)
  where
    go : (b : Bool) → In n (public_from (suc k) d) → In n (cond b (public_from (suc k) d) (k ∷ public_from (suc k) d))
    go true later = later
    go false later = inr later

public_was : (k : ℕ) (d : Design) (n : ℕ) → In n (public_from k d) → (i : ℕ) × (m : Module) × (slice_get d i ≡ Some m) × (m.is_private ≡ false) × (n ≡ k + i)
public_was k [] n here = absurd here
public_was k (x ∷ d) n here = go x.is_private refl here (public_was (suc k) d n)
  where
    go : (b : Bool) → x.is_private ≡ b → In n (cond b (public_from (suc k) d) (k ∷ public_from (suc k) d))
        → (In n (public_from (suc k) d) → (i : ℕ) × (m : Module) × (slice_get d i ≡ Some m) × (m.is_private ≡ false) × (n ≡ suc k + i))
        → (i : ℕ) × (m : Module) × (slice_get (x ∷ d) i ≡ Some m) × (m.is_private ≡ false) × (n ≡ k + i)
    go true is later rest = let y = rest later in (suc y.0, y.1, y.2, y.3, omega (arith, y.4))
    go false is (inl same) rest = (0, x, refl, is, omega (arith, same))
    go false is (inr later) rest = let y = rest later in (suc y.0, y.1, y.2, y.3, omega (arith, y.4))

-- the only member of a list is there, and each member is it
only_there : (ns : List ℕ) (n : ℕ) → only_one ns ≡ Some n → In n ns
only_there [] n is = let none : None ≡ Some n = is in cc
only_there (k ∷ []) n is = let same : n ≡ k = cc in inl same
only_there (k ∷ j ∷ ns) n is = let none : None ≡ Some n = is in cc

only_this : (ns : List ℕ) (n x : ℕ) → only_one ns ≡ Some n → In x ns → x ≡ n
only_this [] n x is here = absurd here
only_this (k ∷ []) n x is (inl same) = let one : k ≡ n = cc in same ∙ one
only_this (k ∷ []) n x is (inr later) = absurd later
only_this (k ∷ j ∷ ns) n x is here = let none : None ≡ Some n = is in cc

module _ (e : Design) (n : ℕ) (one : Module) (only : IsOnlyPublic e n one) where
  -- it is public, and no other one is
  only_exposed : one.is_private ≡ false
  only_exposed =
      let was = public_was 0 e n (only_there (public_from 0 e) n only.only) in
      let same : Some was.1 ≡ Some one = sym was.2 ∙ ap (slice_get e) (omega (arith, was.4)) ∙ only.at in
      let is : was.1 ≡ one = cc in
      sym (ap (λ (y : Module). y.is_private) is) ∙ was.3

  no_other : (m : Module) → In m e → m.is_private ≡ false → m ≡ one
  no_other m here exposed =
      let at = position_of_In m e here in
      let number : at.0 ≡ n = only_this (public_from 0 e) n at.0 only.only (public_here 0 e at.0 at.0 m (omega arith) at.1 exposed) in
      let same : Some m ≡ Some one = sym at.1 ∙ ap (slice_get e) number ∙ only.at in
      cc

-- ---- the module of the text

-- the leaves of the ports that passes leave are those of the ports before
leaves_after : (a : Bool) (xs ys : List Port) → has_twice (names_of ys) ≡ false → ys ≡ cond a (split_ports xs) xs → split_ports ys ≡ split_ports xs
leaves_after false xs ys once is = ports_both false true xs ys (split_ports ys) once is refl
leaves_after true xs ys once is = ports_both true true xs ys (split_ports ys) once is refl

-- what a text does as a module it does as another one that does the same, of the same ports
does_the_same : (d e : Design) (s : Name) (ps qs : List Port) (t : Aiger) → Same (machine d s) (machine e s) → qs ≡ ps → DoesAsModule e s qs t → DoesAsModule d s ps t
does_the_same d e s ps qs t same ports does = subst (λ xs. DoesAsModule d s xs t) ports (λ content many steps given wide.
    let text = does content (many ∙ same.size) steps given wide in
    let source = same.runs content (map (with_clocks qs) steps) given in
    (λ run. source.1 (text.0 run), λ run. text.1 (source.0 run)))

module _ (d : Design) (accepted : IsAccepted d) (one : Module) (found : find_module d one.symbol ≡ Some one) where
  -- a module of the symbol of another one is that one
  same_module : (m : Module) → In m d → m.symbol ≡ one.symbol → m ≡ one
  same_module m here named =
      let at = position_of_In m d here in
      let there : find_module d m.symbol ≡ Some m = (found_at d (accepted_distinct d accepted) at.0 m at.1).1 in
      let both : Some m ≡ Some one = sym there ∙ ap (find_module d) named ∙ found in
      cc

-- ---- what is given

-- what the laws of exports say
pub record AigerLaws : Type 0 where
  pub apart : (d : Design) (r : Refusal) (text : List ℕ) → IsExportRefusal d r → IsExportText d text → ⊥
  pub says : (d : Design) (text : List ℕ) → IsAccepted d → Printable d → (x : IsExportText d text) → IsAiger text (exported_tree x)
  pub runs : (d : Design) (text : List ℕ) → IsAccepted d → Printable d → (x : IsExportText d text)
      → DoesAsModule d x.public.symbol (split_ports x.public.ports) (exported_tree x)

-- the text of what passes make of an accepted design
pub exported : AigerLaws → ResultLaws → (passes : List Pass) (d e : Design) → IsAccepted d → Printable d → IsResult passes d e → (text : List ℕ) → IsExportText e text
    → GivesExport passes d (Ok text)
exported laws results passes d e accepted printable result text x =
    let after : IsAfter passes d e = results.after passes d e accepted printable result in
    let kept : HasPartners passes d e = partners passes d e accepted after in
    let one = x.public in
    let now : find_module e one.symbol ≡ Some one = (found_at e (accepted_distinct e after.accepted) x.number one x.only.at).1 in
    let was : IsPublic d one.symbol = public_before passes d e after one.symbol (one, now, only_exposed e x.number one x.only) in
    let named : was.0.symbol ≡ one.symbol = (found_symbol d one.symbol was.0 was.1).2 in
    let found : find_module d was.0.symbol ≡ Some was.0 = ap (find_module d) named ∙ was.1 in
    let still = after.modules one.symbol was.0 one was.1 now in
    let leaves : split_ports one.ports ≡ split_ports was.0.ports = leaves_after (has_pass is_lowering passes) was.0.ports one.ports
    (named_once e after.accepted after.printable one.symbol one now) still.ports in
    let same : DoesAsModule d one.symbol (split_ports was.0.ports) (exported_tree x) =
    does_the_same d e one.symbol (split_ports was.0.ports) (split_ports one.ports) (exported_tree x) (after.same one.symbol was) leaves
    (laws.runs e text after.accepted after.printable x) in
    record {
      can = record { made = e; result = result; unrefused = λ r refused. laws.apart e r text refused x };
      exported = x;
      tree = exported_tree x;
      says = laws.says e text after.accepted after.printable x;
      one = was.0;
      found = found;
      exposed = was.2;
      only = λ m here exposed.
          let p = kept.each m here exposed in
          same_module d accepted was.0 found m here (sym p.symbol ∙ ap (λ (y : Module). y.symbol) (no_other e x.number one x.only p.partner p.there p.exposed) ∙ sym named);
      does = subst (λ s. DoesAsModule d s (split_ports was.0.ports) (exported_tree x)) (sym named) same;
    }

-- why there is none
pub export_fails : (passes : List Pass) (d e : Design) (fail : ExportFail) → IsResult passes d e → IsUnexported e fail → GivesExport passes d (Err (export_failure fail))
export_fails passes d e (export.Refused r) result is = (e, result, is)
export_fails passes d e export.NoMemory result is = tt

-- ---- answers

-- what is given of the design of a text is the answer
pub export_gives : (passes : List Pass) (contents : List (List ℕ)) (bytes : List ℕ) (d : Design) (result : Result (List ℕ) OutcomeFail) → first_input contents ≡ bytes → Accepted bytes d
    → GivesExport passes d result → GivesText (aiger_export passes) contents result
export_gives passes contents bytes d (Ok text) is accepted gives =
    subst (λ b. IsExport passes b text) (sym is) (record { design = d; accepted = accepted; exported = gives })
export_gives passes contents bytes d (Err (Refused r)) is accepted (e, result, refused) =
    subst (λ b. IsRefusedExport passes b r) (sym is) (of_made d e r accepted result refused)
export_gives passes contents bytes d (Err NoMemory) is accepted gives = tt

-- why nothing is given of a text that says none
pub export_unread : (passes : List Pass) (contents : List (List ℕ)) (bytes : List ℕ) (fail : OutcomeFail) → first_input contents ≡ bytes → IsTaken bytes (Err fail)
    → GivesText (aiger_export passes) contents (Err (fail_in_file 0 fail))
export_unread passes contents bytes (Refused r) is taken =
    subst (λ b. IsRefusedExport passes b (in_file 0 r)) (sym is) (of_input (in_file 0 r) (record { refusal = r; refused = taken; numbered = refl }))
export_unread passes contents bytes NoMemory is taken = tt
