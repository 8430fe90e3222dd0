-- What is answered of a text whose lines are read.
use Rattle.std.proofs.Common.{◌≡◌, ℕ, ◌+◌, ◌<◌, ◌≤◌, ◌^◌, List, map, length, sym, subst}
use Rattle.std.specs.Prelude.{Option, Some, None, Result, Ok, Err, IfOk, IfErr, IfSome, MatchOption}
use Rattle.aiger_laws.specs.declared.fault.Fault.{Fault}
use Rattle.aiger_laws.specs.declared.fault.Fault.TheVariants.{GateCycle}
use Rattle.aiger_laws.specs.Trees.{Aiger}
use Rattle.aiger_laws.specs.Drivers.{Driver, driver, GatesDrive, HasNoCycle}
use Rattle.aiger_laws.specs.Grammar.{tree_of_text, undefined_line, gate_line, IsFirstOnCycle, IsAiger, IsFirstFault, in_line, on_cycle}
use Rattle.aiger_reader.specs.declared.fail.ReadFail.{ReadFail}
use Rattle.aiger_reader.specs.declared.fail.ReadFail.TheVariants.{TooLong, Refused, NoMemory}
use Rattle.aiger_reader.specs.declared.text.AigerText.{AigerText}
use Rattle.aiger_reader.specs.Kept.{tree_of, Knows}
use Rattle.aiger_reader.specs.Searched.{places, IsLooping, IsFirstLooping}
use Rattle.aiger_reader.specs.Told.{IsReadFail, IsLineFail, IsCycleFail}
use Rattle.aiger_reader.proofs.LoopingGates.{acyclic_from, first_from}

-- a line that is refused
pub lines_err : (bytes : List ℕ) (e : ReadFail) → length bytes ≤ 2 ^ 26 → IsLineFail (tree_of_text bytes) e → IsReadFail bytes e
lines_err bytes TooLong short fail = absurd fail
lines_err bytes (Refused r) short fail = (short, in_line r.line r.fault fail)
lines_err bytes NoMemory short fail = tt

-- a text that has no cycle
pub kept_ok : (r : Result AigerText ReadFail) (bytes : List ℕ) (text : AigerText) → tree_of_text bytes ≡ Ok (tree_of text) → undefined_line (tree_of text) ≡ None → IfOk r (λ t. t ≡ text)
    → IfOk r (λ _. HasNoCycle (tree_of text)) → IfOk r (λ t. IsAiger bytes (tree_of t))
kept_ok (Ok t) bytes text reads defined same acyclic =
    subst (λ (u : AigerText). IsAiger bytes (tree_of u)) (sym same) (record { reads = reads; defined = defined; acyclic = acyclic })
kept_ok (Err e) bytes text reads defined same acyclic = tt

pub kept_knows : (r : Result AigerText ReadFail) (text : AigerText) → Knows text → IfOk r (λ t. t ≡ text) → IfOk r Knows
kept_knows (Ok t) text knows same = subst (λ (u : AigerText). Knows u) (sym same) knows
kept_knows (Err e) text knows same = tt

-- a text that has one
pub kept_err : (r : Result AigerText ReadFail) (bytes : List ℕ) (text : AigerText) → length bytes ≤ 2 ^ 26 → tree_of_text bytes ≡ Ok (tree_of text) → undefined_line (tree_of text) ≡ None
    → IfErr r (IsCycleFail (tree_of text)) → IfErr r (IsReadFail bytes)
kept_err (Ok t) bytes text short reads defined fail = tt
kept_err (Err TooLong) bytes text short reads defined fail = absurd fail
kept_err (Err NoMemory) bytes text short reads defined fail = tt
kept_err (Err (Refused x)) bytes text short reads defined (k, first, line, fault) = (
  short,
  subst (λ (f : Fault). IsFirstFault bytes x.line f) (sym fault)
      (subst (λ (n : ℕ). IsFirstFault bytes n GateCycle) (sym line) (on_cycle k (tree_of text) reads defined first)),
)

module _ {E : Type 0} (t : Aiger) (d : ℕ → Driver) (knows : (v : ℕ) → d v ≡ driver t v) (drives : GatesDrive t) (few : length t.gates < 2 ^ 31) where
  told : (r : Result (Option ℕ) E) → IfOk r (λ o. MatchOption o ((j : ℕ) → IsLooping (map (places d) t.gates) j → ⊥) (IsFirstLooping (map (places d) t.gates)))
      → IfOk r (λ o. MatchOption o (HasNoCycle t) (IsFirstOnCycle t))
  told (Ok None) is = acyclic_from t d knows drives few is
  told (Ok (Some k)) is = first_from t d knows drives few k is
  told (Err e) is = tt

  -- gates that loop by their places are on a cycle
  pub told_cycle : (lists : List (List ℕ)) → lists ≡ map (places d) t.gates → (r : Result (Option ℕ) E)
      → IfOk r (λ o. MatchOption o ((j : ℕ) → IsLooping lists j → ⊥) (IsFirstLooping lists)) → IfOk r (λ o. MatchOption o (HasNoCycle t) (IsFirstOnCycle t))
  told_cycle lists same r is =
      told r (subst (λ (ls : List (List ℕ)). IfOk r (λ o. MatchOption o ((j : ℕ) → IsLooping ls j → ⊥) (IsFirstLooping ls))) same is)
