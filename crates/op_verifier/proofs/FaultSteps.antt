-- Steps of the walks over modules and operations: what is refused here, and what is not.
use Rattle.std.proofs.Common.{◌≡◌, ℕ, ◌+◌, ◌<◌, ◌≤◌, Bool, true, false, nat_eq, List, ◌∷◌, map, length, drop, get_or, slice_get, Option, Some, None, option_map, refl, sym, ap, subst, ◌∙◌, arith, add-one, eqb-true}
use Rattle.std.proofs.lemmas.Bool.{eqb-false}
use Rattle.std.proofs.lemmas.List.{length-map, drop_all}
use Rattle.std.proofs.lemmas.Option.{slice_get-get_or}
use Rattle.wiring.proofs.Lists.{drop_some, slice_get_some}
use Rattle.linked_lists.proofs.IdLemmas.{below_unless}
use Rattle.diag.specs.declared.cause.Cause.{Cause}
use Rattle.diag.specs.declared.refusal.Refusal.{Refusal}
use Rattle.hw_model.specs.Design.{Port, Op, Module, Design}
use Rattle.ir_store.specs.Numbered.{op_by}
use Rattle.op_verifier.specs.declared.entries.Entry.{Entry}
use Rattle.op_verifier.specs.Answers.{or_else}
use Rattle.op_verifier.specs.Entries.{op_in}
use Rattle.op_verifier.specs.OpChecks.{op_cause}
use Rattle.op_verifier.specs.Faults.{op_refusal, is_empty, body_fault, module_fault, faults_from}
use Rattle.op_verifier.proofs.Found.{op_there}

-- ---- operations

-- an entry stands at its position
pub entry_there : (es : List Entry) (i : ℕ) (e : Entry) → i < length es → e ≡ get_or es i e → slice_get es i ≡ Some e
entry_there es i e less is = slice_get-get_or es i e less ∙ ap (λ (x : Entry). Some x) (sym is)

-- the operations from a position on
from_here : (p : ℕ → ℕ) (es : List Entry) (i : ℕ) (e : Entry) → i < length es → e ≡ get_or es i e
    → drop i (map (op_by p) (map op_in es)) ≡ op_by p (op_in e) ∷ drop (i + 1) (map (op_by p) (map op_in es))
from_here p es i e less is =
    drop_some (map (op_by p) (map op_in es)) i (op_by p (op_in e)) (op_there p es i (Some e) (entry_there es i e less is))
    ∙ ap (λ (n : ℕ). op_by p (op_in e) ∷ drop n (map (op_by p) (map op_in es))) (sym (add-one i))

-- the operation that stands last
empty_drop : (os : List Op) (n : ℕ) → n ≤ length os → is_empty (drop n os) ≡ nat_eq n (length os)
empty_drop os n within = go (nat_eq n (length os)) refl
  where
    go : (b : Bool) → nat_eq n (length os) ≡ b → is_empty (drop n os) ≡ nat_eq n (length os)
    go true e =
        let same = eqb-true n (length os) e in
        ap is_empty (drop_all n os (omega (arith, same))) ∙ sym e
    go false e =
        let there = slice_get_some os n (below_unless n (length os) within (eqb-false n (length os) e)) in
        ap is_empty (drop_some os n there.0 there.1) ∙ sym e

is_last : (p : ℕ → ℕ) (es : List Entry) (i count : ℕ) → i < length es → count ≡ length es
    → is_empty (drop (i + 1) (map (op_by p) (map op_in es))) ≡ nat_eq (i + 1) count
is_last p es i count less all =
    let size : length (map (op_by p) (map op_in es)) ≡ length es = length-map (map op_in es) (op_by p) ∙ length-map es op_in in
    empty_drop (map (op_by p) (map op_in es)) (i + 1) (rw size (omega (arith, less))) ∙ ap (nat_eq (i + 1)) (size ∙ sym all)

-- what a walk over entries that it sees knows at a position: the operations from it on, and whether it is the last
pub seen_at : (p : ℕ → ℕ) (seen es : List Entry) (i count : ℕ) (e : Entry) → seen ≡ es → i < length seen → e ≡ get_or seen i e → count ≡ length seen
    → (drop i (map (op_by p) (map op_in es)) ≡ op_by p (op_in e) ∷ drop (i + 1) (map (op_by p) (map op_in es)))
    × (is_empty (drop (i + 1) (map (op_by p) (map op_in es))) ≡ nat_eq (i + 1) count)
seen_at p seen es i count e same less is all =
    subst (λ (xs : List Entry). (drop i (map (op_by p) (map op_in xs)) ≡ op_by p (op_in e) ∷ drop (i + 1) (map (op_by p) (map op_in xs)))
    × (is_empty (drop (i + 1) (map (op_by p) (map op_in xs))) ≡ nat_eq (i + 1) count)) same
    (from_here p seen i e less is, is_last p seen i count less all)

pub op_refused : (d : Design) (ports : List Port) (whole os rest : List Op) (o : Op) (last : Bool) (cause : Cause) (r : Refusal) (fault : Option Refusal)
    → os ≡ o ∷ rest → is_empty rest ≡ last → op_cause d ports whole last o ≡ Some cause → r ≡ op_refusal o cause
    → fault ≡ body_fault d ports whole os → Some r ≡ fault
op_refused d ports whole os rest o last cause r fault here ends found is so_far =
    ap (λ (x : Refusal). Some x) is
    ∙ sym (so_far ∙ ap (body_fault d ports whole) here
    ∙ ap (λ (b : Bool). or_else (option_map (op_refusal o) (op_cause d ports whole b o)) (body_fault d ports whole rest)) ends
    ∙ ap (λ (c : Option Cause). or_else (option_map (op_refusal o) c) (body_fault d ports whole rest)) found)

pub op_accepted : (d : Design) (ports : List Port) (whole os rest : List Op) (o : Op) (last : Bool) (fault : Option Refusal)
    → os ≡ o ∷ rest → is_empty rest ≡ last → op_cause d ports whole last o ≡ None
    → fault ≡ body_fault d ports whole os → fault ≡ body_fault d ports whole rest
op_accepted d ports whole os rest o last fault here ends found so_far =
    so_far ∙ ap (body_fault d ports whole) here
    ∙ ap (λ (b : Bool). or_else (option_map (op_refusal o) (op_cause d ports whole b o)) (body_fault d ports whole rest)) ends
    ∙ ap (λ (c : Option Cause). or_else (option_map (op_refusal o) c) (body_fault d ports whole rest)) found

-- ---- modules

-- the modules from a number on
pub modules_from : (d : Design) (n : ℕ) (m : Module) → slice_get d n ≡ Some m → faults_from d n (drop n d) ≡ or_else (module_fault d n m) (faults_from d (n + 1) (drop (n + 1) d))
modules_from d n m there =
    ap (faults_from d n) (drop_some d n m there)
    ∙ ap (λ (k : ℕ). or_else (module_fault d n m) (faults_from d k (drop k d))) (sym (add-one n))

pub module_refused : (d : Design) (n : ℕ) (m : Module) (r : Refusal) (fault : Option Refusal) → slice_get d n ≡ Some m → module_fault d n m ≡ Some r
    → fault ≡ faults_from d n (drop n d) → Some r ≡ fault
module_refused d n m r fault there found so_far =
    sym (so_far ∙ modules_from d n m there ∙ ap (λ (x : Option Refusal). or_else x (faults_from d (n + 1) (drop (n + 1) d))) found)

pub module_accepted : (d : Design) (n : ℕ) (m : Module) (fault : Option Refusal) → slice_get d n ≡ Some m → module_fault d n m ≡ None
    → fault ≡ faults_from d n (drop n d) → fault ≡ faults_from d (n + 1) (drop (n + 1) d)
module_accepted d n m fault there found so_far =
    so_far ∙ modules_from d n m there ∙ ap (λ (x : Option Refusal). or_else x (faults_from d (n + 1) (drop (n + 1) d))) found
