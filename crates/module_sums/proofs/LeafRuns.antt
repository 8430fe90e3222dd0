-- The widths of leaves: of fields one after another, of operations, and of modules in a table.
use Rattle.std.proofs.Common.{◌≡◌, ℕ, zero, suc, ◌+◌, ◌<◌, ◌≤◌, Bool, true, false, cond, is_some, List, [], ◌∷◌, ◌++◌, length, map, take, get_or, set, slice_get, Option, Some, None, refl, sym, ap, ap₂, subst, ◌∙◌, inl, arith}
use Rattle.std.proofs.Common.{append_assoc, append-nil, length-set}
use Rattle.std.proofs.lemmas.List.{map-append, map_more, take_all, length-map}
use Rattle.std.proofs.lemmas.Option.{slice_get-get_or}
use Rattle.wiring.specs.Wiring.{In}
use Rattle.wiring.proofs.Lists.{take-suc_some}
use Rattle.wiring.proofs.Members.{In-append_left, In-append_right, In-slice_get}
use Rattle.hw_model.specs.Types.{Name, HwType, width, leaves, leaves_of_fields, list_copies}
use Rattle.hw_model.specs.TypeViews.{NamedType, fields_of, field_of, type_of, fields_in}
use Rattle.hw_model.specs.declared.types.Field.{Field}
use Rattle.hw_model.specs.declared.types.FieldList.{FieldList}
use Rattle.hw_model.specs.declared.types.FieldList.{out-FieldList}
use Rattle.hw_model.specs.Kinds.{Kind, Instance}
use Rattle.hw_model.specs.Design.{OpResult, Op, Module, Design, register_form, instance_in}
use Rattle.hw_model.specs.Hierarchy.{callee_symbols, called_by, HasNoRecursion}
use Rattle.hw_model.specs.Sound.{body_of}
use Rattle.hw_model.proofs.FieldSums.{type_field, fields_open}
use Rattle.ir_store.specs.Designs.{StoredModule, numbered_module}
use Rattle.ir_store.specs.Numbered.{ops_by_position}
use Rattle.ir_store.proofs.StoredModules.{stored_at}
use Rattle.design_cycles.specs.Asked.{HasDistinctSymbols}
use Rattle.design_cycles.specs.Calls.{symbols_in, numbers_of, call_lists}
use Rattle.design_cycles.proofs.Returning.{symbols_stored}
use Rattle.run_lists.specs.Runs.{expanded, many, AreApart, AreRunsOf}
use Rattle.run_lists.specs.declared.runs.Run.{Run}
use Rattle.run_lists.specs.declared.runs.RunList.{RunList}
use Rattle.module_sums.specs.Sums.{kept_by, IsBelow}
use Rattle.module_sums.specs.RegisterWidths.{first_widths, called_widths, kind_widths, body_widths, widths_of, widths_in, kept_at, kept_widths, AreAllApart, AreEmpty, AreRegisterRuns}
use Rattle.module_sums.proofs.Tables.{IsKept, kept_more}

-- ---- types

pub widths_many : (n : ℕ) (ts : List HwType) → map width (list_copies n ts) ≡ many n (map width ts)
widths_many zero ts = refl
widths_many (suc n) ts = map-append width ts (list_copies n ts) ∙ ap (λ ws. map width ts ++ ws) (widths_many n ts)

-- those of an array are those of its element so many times over
pub array_runs : (n : ℕ) (own ts : List HwType) (ns : List ℕ) (rs : List Run) → own ≡ list_copies n ts → ns ≡ map width ts → AreRunsOf (many n ns) rs → AreRunsOf (map width own) rs
array_runs n own ts ns rs same is are = record {
  numbers = are.numbers ∙ ap (many n) is ∙ sym (ap (map width) same ∙ widths_many n ts);
  apart = are.apart;
}

-- the widths of the leaves of fields
abbrev pub field_widths : List NamedType → List ℕ
field_widths fs = map width (leaves_of_fields (fields_of fs))

fields_more : (fs : List NamedType) (f : NamedType) → field_widths (fs ++ f ∷ []) ≡ field_widths fs ++ map width (leaves f.type)
fields_more [] f = ap (map width) (append-nil (leaves f.type))
fields_more (g ∷ fs) f =
    map-append width (leaves g.type) (leaves_of_fields (fields_of (fs ++ f ∷ [])))
    ∙ ap (λ ws. map width (leaves g.type) ++ ws) (fields_more fs f)
    ∙ sym (append_assoc (map width (leaves g.type)) (field_widths fs) (map width (leaves f.type)))
    ∙ ap (λ ws. ws ++ map width (leaves f.type)) (sym (map-append width (leaves g.type) (leaves_of_fields (fields_of fs))))

pub one_field_more : (xs : List Field) (i : ℕ) (x : Field) (now one next : List ℕ) → i < length xs → x ≡ get_or xs i x → now ≡ field_widths (map field_of (take i xs))
    → one ≡ map width (leaves (type_of x.ty)) → next ≡ now ++ one → next ≡ field_widths (map field_of (take (i + 1) xs))
one_field_more xs i x now one next below at before is made =
    made ∙ ap₂ (λ ws us. ws ++ us) before (is ∙ ap (λ t. map width (leaves t)) (sym (type_field x) ∙ ap (λ (y : Field). (field_of y).type) at))
    ∙ sym (ap field_widths (map_more field_of xs i x below) ∙ fields_more (map field_of (take i xs)) (field_of (get_or xs i x)))

pub all_fields : (l : FieldList) (xs : List Field) (i : ℕ) (now : List ℕ) → xs ≡ (out-FieldList l).fields.items → length xs ≤ i → now ≡ field_widths (map field_of (take i xs))
    → now ≡ map width (leaves_of_fields (fields_in l))
all_fields l xs i now same all is =
    is ∙ ap (λ ys. field_widths (map field_of ys)) (take_all i xs all ∙ same) ∙ ap (λ fs. map width (leaves_of_fields fs)) (sym (fields_open l))

-- ---- operations

kind_depends : (f g : Name → List ℕ) (k : Kind) (rs : List OpResult) → ((s : Name) → In s (called_by (instance_in k)) → f s ≡ g s) → kind_widths f k rs ≡ kind_widths g k rs
kind_depends f g k rs same = go (is_some (register_form k)) (instance_in k) same
  where
    called : (x : Option Instance) → ((s : Name) → In s (called_by x) → f s ≡ g s) → called_widths f x ≡ called_widths g x
    called None each = refl
    called (Some i) each = each i.symbol (inl refl)

    go : (b : Bool) (x : Option Instance) → ((s : Name) → In s (called_by x) → f s ≡ g s) → cond b (first_widths rs) (called_widths f x) ≡ cond b (first_widths rs) (called_widths g x)
    go true x each = refl
    go false x each = called x each

body_depends : (f g : Name → List ℕ) (os : List Op) → ((s : Name) → In s (callee_symbols os) → f s ≡ g s) → body_widths f os ≡ body_widths g os
body_depends f g [] same = refl
body_depends f g (o ∷ os) same =
    ap₂ (λ xs ys. xs ++ ys) (kind_depends f g o.kind o.results (λ s here. same s (In-append_left s (called_by (instance_in o.kind)) (callee_symbols os) here)))
    (body_depends f g os (λ s here. same s (In-append_right s (called_by (instance_in o.kind)) (callee_symbols os) here)))

pub widths_depend : (f g : Name → List ℕ) (x : Option Module) → ((s : Name) → In s (callee_symbols (body_of x)) → f s ≡ g s) → widths_of f x ≡ widths_of g x
widths_depend f g None same = refl
widths_depend f g (Some m) same = body_depends f g m.body same

body_append : (inner : Name → List ℕ) (xs ys : List Op) → body_widths inner (xs ++ ys) ≡ body_widths inner xs ++ body_widths inner ys
body_append inner [] ys = refl
body_append inner (o ∷ xs) ys =
    ap (λ ws. kind_widths inner o.kind o.results ++ ws) (body_append inner xs ys)
    ∙ sym (append_assoc (kind_widths inner o.kind o.results) (body_widths inner xs) (body_widths inner ys))

pub body_more : (inner : Name → List ℕ) (os : List Op) (j : ℕ) (o : Op) (now next : List ℕ) → slice_get os j ≡ Some o → now ≡ body_widths inner (take j os)
    → next ≡ now ++ kind_widths inner o.kind o.results → next ≡ body_widths inner (take (j + 1) os)
body_more inner os j o now next at before made =
    let longer : take (j + 1) os ≡ take j os ++ o ∷ [] = (let e : j + 1 ≡ suc j = omega arith in ap (λ n. take n os) e) ∙ take-suc_some os j o at in
    made ∙ ap (λ ws. ws ++ kind_widths inner o.kind o.results) before
    ∙ sym (ap (body_widths inner) longer ∙ body_append inner (take j os) (o ∷ []) ∙ ap (λ ws. body_widths inner (take j os) ++ ws) (append-nil (kind_widths inner o.kind o.results)))

pub body_all : (inner : Name → List ℕ) (os : List Op) (j : ℕ) (now : List ℕ) → length os ≤ j → now ≡ body_widths inner (take j os) → now ≡ body_widths inner os
body_all inner os j now all is = is ∙ ap (body_widths inner) (take_all j os all)

-- ---- tables

pub kept_some : (table : List RunList) (i : ℕ) (r : RunList) → slice_get table i ≡ Some r → kept_at table i ≡ expanded r.runs.items
kept_some [] i r at = cc
kept_some (x ∷ table) zero r at = let same : x ≡ r = cc in ap (λ (y : RunList). expanded y.runs.items) same
kept_some (x ∷ table) (suc i) r at = kept_some table i r at

pub apart_at : (table : List RunList) → AreAllApart table → (i : ℕ) (r : RunList) → slice_get table i ≡ Some r → AreApart r.runs.items
apart_at [] are i r at = cc
apart_at (x ∷ table) (first, rest) zero r at = let same : x ≡ r = cc in subst (λ (y : RunList). AreApart y.runs.items) same first
apart_at (x ∷ table) (first, rest) (suc i) r at = apart_at table rest i r at

apart_set : (table : List RunList) → AreAllApart table → (i : ℕ) (r : RunList) → AreApart r.runs.items → AreAllApart (set table i r)
apart_set [] are i r apart = tt
apart_set (x ∷ table) (first, rest) zero r apart = (apart, rest)
apart_set (x ∷ table) (first, rest) (suc i) r apart = (first, apart_set table rest i r apart)

widths_set : (table : List RunList) (i : ℕ) (r : RunList) → widths_in (set table i r) ≡ set (widths_in table) i (expanded r.runs.items)
widths_set [] i r = refl
widths_set (x ∷ table) zero r = refl
widths_set (x ∷ table) (suc i) r = ap (λ ws. expanded x.runs.items ∷ ws) (widths_set table i r)

pub empty_apart : (n : ℕ) (table : List RunList) → AreEmpty n table → AreAllApart table
empty_apart zero [] are = tt
empty_apart (suc n) (r ∷ table) (none, rest) = (subst AreApart (sym none) tt, empty_apart n table rest)
empty_apart zero (r ∷ table) are = absurd are
empty_apart (suc n) [] are = absurd are

pub empty_length : (n : ℕ) (table : List RunList) → AreEmpty n table → length table ≡ n
empty_length zero [] are = refl
empty_length (suc n) (r ∷ table) (none, rest) = ap suc (empty_length n table rest)
empty_length zero (r ∷ table) are = absurd are
empty_length (suc n) [] are = absurd are

pub empty_more : (n : ℕ) (table : List RunList) (r : RunList) → AreEmpty n table → r.runs.items ≡ [] → AreEmpty (n + 1) (table ++ r ∷ [])
empty_more n table r are none = subst (λ k. AreEmpty k (table ++ r ∷ [])) (let e : suc n ≡ n + 1 = omega arith in e) (go n table are)
  where
    go : (n : ℕ) (table : List RunList) → AreEmpty n table → AreEmpty (suc n) (table ++ r ∷ [])
    go zero [] are = (none, tt)
    go (suc n) (x ∷ table) (first, rest) = (first, go n table rest)
    go zero (x ∷ table) are = absurd are
    go (suc n) [] are = absurd are

-- ---- modules in a table

-- of these modules the widths are kept
abbrev pub AreKept : Design → List RunList → List ℕ → Type 0
AreKept d table nodes = (v : ℕ) → In v nodes → IsKept widths_of [] widths_depend (λ f. refl) d (widths_in table) v

-- so are those of the first so many modules of an order
pub record IsFilled (d : Design) (table : List RunList) (order : List ℕ) (k : ℕ) : Type 0 where
  pub size : length table ≡ length d
  pub apart : AreAllApart table
  pub kept : AreKept d table (take k order)

module _ (modules : List StoredModule) where
  abbrev design : Design
  design = map numbered_module modules

  design_length : length design ≡ length modules
  design_length = length-map modules numbered_module

  pub filled_first : (table : List RunList) (order : List ℕ) → AreEmpty (length modules) table → IsFilled design table order 0
  filled_first table order are = record {
    size = empty_length (length modules) table are ∙ sym design_length;
    apart = empty_apart (length modules) table are;
    kept = λ v never. absurd never;
  }

  pub top_within : (top : ℕ) (order : List ℕ) → IsBelow (call_lists design) top order → top < length design
  top_within top order below =
      let bound : top < length (call_lists design) = below.within top below.top_there in
      let one : length (call_lists design) ≡ length design = length-map design (λ (x : Module). numbers_of (symbols_in design) (callee_symbols x.body)) in
      omega arith

  pub number_within : (top : ℕ) (order : List ℕ) (k : ℕ) → IsBelow (call_lists design) top order → k < length order → get_or order k 0 < length modules
  number_within top order k below inside =
      let bound : get_or order k 0 < length (call_lists design) = below.within (get_or order k 0) (In-slice_get (get_or order k 0) order k (slice_get-get_or order k 0 inside)) in
      let one : length (call_lists design) ≡ length design = length-map design (λ (x : Module). numbers_of (symbols_in design) (callee_symbols x.body)) in
      let other : length design ≡ length modules = design_length in
      omega arith

  pub filled_more : HasDistinctSymbols design → HasNoRecursion design → (top : ℕ) (table slice : List RunList) (order : List ℕ) (k : ℕ) (r : RunList) (one : StoredModule) → IsBelow (call_lists design) top order → k < length order
      → slice ≡ table → IsFilled design table order k → Some one ≡ slice_get modules (get_or order k 0)
      → AreRunsOf (body_widths (kept_widths modules slice) (ops_by_position one.ops)) r.runs.items → IsFilled design (set table (get_or order k 0) r) order (k + 1)
  filled_more distinct finite top table slice order k r one below inside same filled at runs = record {
    size = length-set table (get_or order k 0) r ∙ filled.size;
    apart = apart_set table filled.apart (get_or order k 0) r runs.apart;
    kept = λ v here.
        subst (λ values. IsKept widths_of [] widths_depend (λ f. refl) design values v) (sym (widths_set table (get_or order k 0) r))
        (kept_more widths_of [] widths_depend (λ f. refl) design distinct finite top (widths_in table) order k (get_or order k 0) (expanded r.runs.items) inside refl within below filled.kept made v here);
  }
    where
      within : get_or order k 0 < length (widths_in table)
      within =
          let bound : get_or order k 0 < length modules = number_within top order k below inside in
          let size : length table ≡ length design = filled.size in
          let all : length design ≡ length modules = design_length in
          let too : length (widths_in table) ≡ length table = length-map table (λ (x : RunList). expanded x.runs.items) in
          omega arith

      made : expanded r.runs.items ≡ widths_of (kept_by [] (symbols_in design) (widths_in table)) (slice_get design (get_or order k 0))
      made =
          runs.numbers
          ∙ ap₂ (λ symbols values. body_widths (kept_by [] symbols values) (ops_by_position one.ops)) (symbols_stored modules) (ap widths_in same)
          ∙ sym (ap (widths_of (kept_by [] (symbols_in design) (widths_in table))) (stored_at modules (get_or order k 0) one at))

  -- those of the module that reaches all of them
  pub filled_all : (top : ℕ) (table : List RunList) (order : List ℕ) (k : ℕ) (r : RunList) → IsBelow (call_lists design) top order → length order ≤ k → IsFilled design table order k
      → slice_get table top ≡ Some r → AreRegisterRuns design top r.runs.items
  filled_all top table order k r below all filled at m there = record {
    numbers = sym (kept_some table top r at) ∙ filled.kept top (subst (In top) (sym (take_all k order all)) below.top_there) m there;
    apart = apart_at table filled.apart top r at;
  }
