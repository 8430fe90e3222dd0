-- An accepted design without values of aggregate types has no operations on aggregates, and writes no such types.
use Rattle.std.proofs.Common.{◌≡◌, ℕ, zero, suc, ◌≤◌, Bool, true, false, cond, not, ◌||◌, List, [], ◌∷◌, map, take, drop, length, slice_get, Option, Some, None, is_some, refl, sym, ap, ap₂, ◌∙◌, subst, arith, option_and_then, option_map}
use Rattle.std.specs.Prelude.{slice_index_or}
use Rattle.std.specs.List.{list_any}
use Rattle.std.proofs.lemmas.Bool.{not-false}
use Rattle.std.proofs.lemmas.Option.{slice_get-map}
use Rattle.wiring.proofs.Members.{In-slice_get}
use Rattle.hw_model.specs.Types.{HwType}
use Rattle.hw_model.specs.Types.HwType.{int, clock, array, struct}
use Rattle.hw_model.specs.SameType.{same_type, type_from}
use Rattle.hw_model.specs.Kinds.{Kind, Literals, ArrayOp, StructOp}
use Rattle.hw_model.specs.Kinds.Literal.{parts as literal_parts}
use Rattle.hw_model.specs.Kinds.ArrayOp.{array_create, array_concat, array_get, array_slice, array_inject}
use Rattle.hw_model.specs.Kinds.StructOp.{struct_create, struct_extract, struct_inject, struct_explode}
use Rattle.hw_model.specs.Kinds.Kind.{mux, aggregate_constant, on_array, on_struct, bitcast, wire, instance, output, register, async_firreg}
use Rattle.hw_model.specs.Design.{Ref, Port, OpResult, Op, Module, Design, result_type}
use Rattle.hw_model.specs.Design.Ref.{port, result, undefined}
use Rattle.hw_model.specs.Sound.{input_type, type_in}
use Rattle.type_inference.specs.ResultTypes.{first_type, second_type, as_array, kept_size, element_of, result_types, result_type as settled_result, result_count}
use Rattle.op_checks.specs.TypeChecks.{is_int}
use Rattle.op_checks.specs.TypeLists.{known_types, is_no_array, is_no_struct, differs, any_differs, differ, settled_at}
use Rattle.op_checks.specs.LiteralChecks.{literal_differs}
use Rattle.op_checks.specs.OperandChecks.{is_no_array_of, has_other_array, parts_differ, has_other_form, has_other_operand}
use Rattle.op_checks.specs.CountChecks.{operands_written, operand_count, type_count}
use Rattle.op_checks.specs.OwnChecks.{own_cause}
use Rattle.op_checks.proofs.Widths.{neither}
use Rattle.op_checks.proofs.Fitting.{instance_types, output_types}
use Rattle.op_checks.proofs.NoOwnCause.{NoOwnCause, no_settled_cause}
use Rattle.op_checks.proofs.Settled.{settles}
use Rattle.op_verifier.specs.OpChecks.{has_undefined, settled_by, settled_type, divides_by_constant, alone_cause}
use Rattle.op_verifier.specs.Verdict.{IsAccepted}
use Rattle.op_verifier.proofs.AcceptedDesigns.{no_fault}
use Rattle.op_verifier.proofs.NoCauseAlone.{types_of, NoCauseAlone}
use Rattle.op_verifier.proofs.SoundDesigns.{known_at}
use Rattle.op_verifier.proofs.Unrefused.{NoOpCause, no_op_cause, IsUnrefused, ops_unrefused, module_unrefused}
use Rattle.aggregate_laws.specs.Aggregates.{is_scalar}
use Rattle.aggregate_laws.specs.Scalars.{has_aggregate_port, has_aggregate_type, has_aggregate_result, has_aggregate_value, has_aggregates}
use Rattle.verilog_expr.specs.Values.{is_aggregate_kind}
use Rattle.export_verilog.specs.Aggregates.{is_aggregate, HasNoAggregates}
use Rattle.export_verilog.proofs.accepted.AcceptedOps.{found, op_tested}
use Rattle.export_verilog.proofs.accepted.AcceptedTypes.{none_of}

-- ---- types

-- none of the types is an aggregate
abbrev AllPlain : List HwType → Type 0
AllPlain ts = list_any is_aggregate ts ≡ false

scalar_plain : (t : HwType) → is_scalar t ≡ true → is_aggregate t ≡ false
scalar_plain (int w) is = refl
scalar_plain clock is = refl
scalar_plain (array n t) is = cc
scalar_plain (struct fs) is = cc

ints_plain : (ts : List HwType) → list_any (λ (t : HwType). not (is_int t)) ts ≡ false → AllPlain ts
ints_plain [] ints = refl
ints_plain (int w ∷ ts) ints = ints_plain ts ints
ints_plain (clock ∷ ts) ints = cc
ints_plain (array n t ∷ ts) ints = cc
ints_plain (struct fs ∷ ts) ints = cc

same_from : (r t : HwType) → differs (Some r) (Some t) ≡ false → r ≡ t
same_from r t none = type_from r t (not-false (same_type r t) none)

-- an array, a struct
first_array : (t : HwType) → is_no_array (Some t) ≡ false → is_aggregate t ≡ true
first_array (int w) is = cc
first_array clock is = cc
first_array (array n t) is = refl
first_array (struct fs) is = cc

first_struct : (t : HwType) → is_no_struct (Some t) ≡ false → is_aggregate t ≡ true
first_struct (int w) is = cc
first_struct clock is = cc
first_struct (array n t) is = cc
first_struct (struct fs) is = refl

-- a plain type that is the same as an aggregate is not there
no_same : {A : Type 0} (u t : HwType) → is_aggregate u ≡ false → differs (Some u) (Some t) ≡ false → is_aggregate t ≡ true → A
no_same u t plain same is = let clash : false ≡ true = sym plain ∙ ap is_aggregate (same_from u t same) ∙ is in absurd (let no : false ≡ true → ⊥ = λ e. cc in no clash)

same_plain : (u t : HwType) → is_aggregate u ≡ false → differs (Some u) (Some t) ≡ false → is_aggregate t ≡ false
same_plain u t plain same = sym (ap is_aggregate (same_from u t same)) ∙ plain

-- the first of plain types
head_plain : (u : HwType) (us : List HwType) → AllPlain (u ∷ us) → is_aggregate u ≡ false
head_plain u us plain = (neither (is_aggregate u) (list_any is_aggregate us) plain).0

-- one type that a result has
one_typed : (ts rs : List HwType) → length ts ≡ 1 → length rs ≡ 1 → differ (known_types rs) (first_type ts ∷ []) ≡ false → AllPlain rs → AllPlain ts
one_typed [] rs one count same plain = cc
one_typed (t ∷ u ∷ ts) rs one count same plain = absurd (omega (arith, one))
one_typed (t ∷ []) [] one count same plain = cc
one_typed (t ∷ []) (r ∷ rs) one count same plain =
    ap (λ b. b || false) (same_plain r t (head_plain r rs plain) (neither (differs (Some r) (Some t)) _ same).0)

-- an operand's type and a result's
two_typed : (ts us rs : List HwType) → length ts ≡ 2 → length us ≡ 1 → length rs ≡ 1 → any_differs (known_types us) (first_type ts) ≡ false
    → differ (known_types rs) (second_type ts ∷ []) ≡ false → AllPlain us → AllPlain rs → AllPlain ts
two_typed [] us rs two one count same also plain shown = cc
two_typed (t ∷ []) us rs two one count same also plain shown = cc
two_typed (t ∷ v ∷ w ∷ ts) us rs two one count same also plain shown = absurd (omega (arith, two))
two_typed (t ∷ v ∷ []) [] rs two one count same also plain shown = cc
two_typed (t ∷ v ∷ []) (u ∷ us) [] two one count same also plain shown = cc
two_typed (t ∷ v ∷ []) (u ∷ us) (r ∷ rs) two one count same also plain shown =
    ap₂ (λ a b. a || (b || false)) (same_plain u t (head_plain u us plain) (neither (differs (Some u) (Some t)) _ same).0)
    (same_plain r v (head_plain r rs shown) (neither (differs (Some r) (Some v)) _ also).0)

-- plain in two parts
plain_parts : (n : ℕ) (ts : List HwType) → AllPlain (take n ts) → AllPlain (drop n ts) → AllPlain ts
plain_parts zero ts first rest = rest
plain_parts (suc n) [] first rest = refl
plain_parts (suc n) (t ∷ ts) first rest =
    let both = neither (is_aggregate t) (list_any is_aggregate (take n ts)) first in
    ap₂ (λ a b. a || b) both.0 (plain_parts n ts both.1 rest)

-- ---- kinds

-- no kind of aggregates, and no written type is one
abbrev IsPlainKind : Kind → List HwType → Type 0
IsPlainKind kind ts = (is_aggregate_kind kind ≡ false) × AllPlain ts

-- both lists have a first type
both_first : {A : Type 0} (ts us : List HwType) → 1 ≤ length ts → 1 ≤ length us → ((t : HwType) (ts' : List HwType) (u : HwType) (us' : List HwType) → ts ≡ t ∷ ts' → us ≡ u ∷ us' → A) → A
both_first [] us some also given = absurd (omega (arith, some))
both_first (t ∷ ts) [] some also given = absurd (omega (arith, also))
both_first (t ∷ ts) (u ∷ us) some also given = given t ts u us refl refl

created : {A : Type 0} (ts rs : List HwType) (n : ℕ) → length ts ≡ 1 → length rs ≡ 1 → differ (known_types rs) (as_array n (first_type ts) ∷ []) ≡ false → AllPlain rs → A
created [] rs n one count same shown = cc
created (t ∷ ts) [] n one count same shown = cc
created (t ∷ ts) (r ∷ rs) n one count same shown =
    no_same r (array (kept_size n) t) (head_plain r rs shown) (neither (differs (Some r) (Some (array (kept_size n) t))) _ same).0 refl

constant_type : {A : Type 0} (ls : Literals) (ts rs : List HwType) → length ts ≡ 1 → length rs ≡ 1 → parts_differ ls (first_type ts) ≡ false → differ (known_types rs) (first_type ts ∷ []) ≡ false
    → AllPlain rs → A
constant_type ls [] rs one count parts same shown = cc
constant_type ls (t ∷ ts) [] one count parts same shown = cc
constant_type ls (t ∷ ts) (r ∷ rs) one count parts same shown =
    no_same r t (head_plain r rs shown) (neither (differs (Some r) (Some t)) _ same).0 (go t parts)
  where
    go : (t : HwType) → literal_differs (literal_parts ls) t ≡ false → is_aggregate t ≡ true
    go (int w) is = cc
    go clock is = cc
    go (array n e) is = refl
    go (struct fs) is = refl

module _ (ts us rs : List HwType) (named : ℕ) (is_known : Bool) (plain : AllPlain us) (shown : AllPlain rs) where
  -- the first written type, an aggregate, is the first operand's
  clash : {A : Type 0} (t : HwType) (ts' : List HwType) (u : HwType) (us' : List HwType) → ts ≡ t ∷ ts' → us ≡ u ∷ us' → is_aggregate t ≡ true → differs (Some u) (Some t) ≡ false → A
  clash t ts' u us' at_t at_u is same = no_same u t (head_plain u us' (ap (list_any is_aggregate) (sym at_u) ∙ plain)) same is

  abbrev Tested : Kind → Type 0
  Tested kind = NoOwnCause kind ts rs named (length us) (known_types us) is_known

  by_array : (a : ArrayOp) → Tested (on_array a) → IsPlainKind (on_array a) ts
  unfolding has_other_form has_other_operand type_count result_types settled_result operands_written operand_count result_count
  by_array array_create h = created ts rs (length us) h.types h.results h.result shown
  by_array array_concat h =
      let count = h.operands in
      let types = h.types in
      both_first ts us (omega (arith, count, types)) (omega (arith, count)) (λ t ts' u us' at_t at_u.
      let form : list_any (is_no_array_of (element_of (Some t))) (t ∷ ts') ≡ false = sym (ap has_other_array at_t) ∙ h.form in
      let own = neither (is_no_array_of (element_of (Some t)) t) _ form in
      let array_there = neither (is_no_array (Some t)) _ own.0 in
      let same : differ (known_types (u ∷ us')) (known_types (t ∷ ts')) ≡ false = sym (ap₂ (λ x y. differ (known_types y) (known_types x)) at_t at_u) ∙ h.operand in
      clash t ts' u us' at_t at_u (first_array t array_there.0) (neither (differs (Some u) (Some t)) _ same).0)
  by_array array_get h =
      let count = h.operands in
      let types = h.types in
      both_first ts us (omega (arith, types)) (omega (arith, count)) (λ t ts' u us' at_t at_u.
      let form = neither (is_no_array (first_type ts)) _ h.form in
      let same : differ (known_types (u ∷ us')) (known_types (t ∷ ts')) ≡ false = sym (ap₂ (λ x y. differ (known_types y) (known_types x)) at_t at_u) ∙ h.operand in
      clash t ts' u us' at_t at_u (first_array t (sym (ap (λ x. is_no_array (first_type x)) at_t) ∙ form.0)) (neither (differs (Some u) (Some t)) _ same).0)
  by_array array_slice h =
      let count = h.operands in
      let types = h.types in
      both_first ts us (omega (arith, types)) (omega (arith, count)) (λ t ts' u us' at_t at_u.
      let form : list_any (is_no_array_of (element_of (Some t))) (t ∷ ts') ≡ false = sym (ap has_other_array at_t) ∙ h.form in
      let own = neither (is_no_array_of (element_of (Some t)) t) _ form in
      let array_there = neither (is_no_array (Some t)) _ own.0 in
      let operand = neither (differs (settled_at (known_types us) 0) (first_type ts)) _ h.operand in
      clash t ts' u us' at_t at_u (first_array t array_there.0) (sym (ap₂ (λ x y. differs (settled_at (known_types y) 0) (first_type x)) at_t at_u) ∙ operand.0))
  by_array array_inject h =
      let count = h.operands in
      let types = h.types in
      both_first ts us (omega (arith, types)) (omega (arith, count)) (λ t ts' u us' at_t at_u.
      let form = neither (is_no_array (first_type ts)) _ h.form in
      let operand = neither (differs (settled_at (known_types us) 0) (first_type ts)) _ h.operand in
      clash t ts' u us' at_t at_u (first_array t (sym (ap (λ x. is_no_array (first_type x)) at_t) ∙ form.0))
      (sym (ap₂ (λ x y. differs (settled_at (known_types y) 0) (first_type x)) at_t at_u) ∙ operand.0))

  -- the first written type is a struct, and the first operand's
  struct_clash : {A : Type 0} → length ts ≡ 1 → 1 ≤ length us → is_no_struct (first_type ts) ≡ false → differs (settled_at (known_types us) 0) (first_type ts) ≡ false → A
  struct_clash types count form operand =
      both_first ts us (omega (arith, types)) count (λ t ts' u us' at_t at_u.
      clash t ts' u us' at_t at_u (first_struct t (sym (ap (λ x. is_no_struct (first_type x)) at_t) ∙ form))
      (sym (ap₂ (λ x y. differs (settled_at (known_types y) 0) (first_type x)) at_t at_u) ∙ operand))

  first_differs : (xs : List HwType) (y : Option HwType) → any_differs (known_types xs) y ≡ false → differs (settled_at (known_types xs) 0) y ≡ false
  first_differs [] y none = refl
  first_differs (x ∷ xs) y none = (neither (differs (Some x) y) _ none).0

  by_struct : (s : StructOp) → Tested (on_struct s) → IsPlainKind (on_struct s) ts
  unfolding has_other_form has_other_operand type_count result_types settled_result operands_written operand_count result_count
  by_struct struct_create h =
      let types = h.types in
      let results = h.results in
      both_first ts rs (omega (arith, types)) (omega (arith, results)) (λ t ts' r rs' at_t at_r.
      let same : differ (known_types (r ∷ rs')) (first_type (t ∷ ts') ∷ []) ≡ false = sym (ap₂ (λ x y. differ (known_types y) (first_type x ∷ [])) at_t at_r) ∙ h.result in
      no_same r t (head_plain r rs' (ap (list_any is_aggregate) (sym at_r) ∙ shown)) (neither (differs (Some r) (Some t)) _ same).0
      (first_struct t (sym (ap (λ x. is_no_struct (first_type x)) at_t) ∙ h.form)))
  by_struct (struct_extract name) h = let count = h.operands in struct_clash h.types (omega (arith, count)) h.form (first_differs us (first_type ts) h.operand)
  by_struct (struct_inject name) h =
      let count = h.operands in struct_clash h.types (omega (arith, count)) h.form (neither (differs (settled_at (known_types us) 0) (first_type ts)) _ h.operand).0
  by_struct struct_explode h = let count = h.operands in struct_clash h.types (omega (arith, count)) h.form (first_differs us (first_type ts) h.operand)

  by_kind : (kind : Kind) → own_cause kind ts rs named (known_types us) is_known ≡ None → Tested kind → IsPlainKind kind ts
  unfolding has_other_form has_other_operand type_count result_types settled_result operands_written operand_count result_count
  by_kind mux own h = (refl, one_typed ts rs h.types h.results h.result shown)
  by_kind wire own h = (refl, one_typed ts rs h.types h.results h.result shown)
  by_kind (register f r) own h = (refl, one_typed ts rs h.types h.results h.result shown)
  by_kind async_firreg own h = (refl, one_typed ts rs h.types h.results h.result shown)
  by_kind bitcast own h = (refl, two_typed ts us rs h.types h.operands h.results h.operand h.result plain shown)
  by_kind (instance i) own h =
      let typed = instance_types i ts rs named us is_known own in
      (refl, plain_parts (length i.inputs) ts (subst AllPlain typed.0 plain) (subst AllPlain typed.1 shown))
  by_kind output own h = (refl, subst AllPlain (output_types ts rs named us is_known own) plain)
  by_kind (aggregate_constant ls) own h = constant_type ls ts rs h.types h.results h.operand h.result shown
  by_kind (on_array a) own h = by_array a h
  by_kind (on_struct s) own h = by_struct s h
  by_kind _ own h = (refl, ints_plain ts h.form)

plain_kind : (kind : Kind) (ts us rs : List HwType) (named : ℕ) (is_known : Bool) → own_cause kind ts rs named (known_types us) is_known ≡ None → AllPlain us → AllPlain rs → IsPlainKind kind ts
plain_kind kind ts us rs named is_known own plain shown =
    by_kind ts us rs named is_known plain shown kind own (no_settled_cause kind ts rs named us is_known own)

-- ---- what has no aggregate

both_without : (a b : Bool) → cond a true b ≡ false → (a ≡ false) × (b ≡ false)
both_without true b none = cc
both_without false b none = (refl, none)

ports_scalar : (ps : List Port) → has_aggregate_port ps ≡ false → list_any (λ (p : Port). is_aggregate p.type) ps ≡ false
ports_scalar [] none = refl
ports_scalar (p ∷ ps) none = go (is_scalar p.type) refl none (ports_scalar ps)
  where
    go : (b : Bool) → is_scalar p.type ≡ b → cond b (has_aggregate_port ps) true ≡ false → (has_aggregate_port ps ≡ false → list_any (λ (q : Port). is_aggregate q.type) ps ≡ false)
        → list_any (λ (q : Port). is_aggregate q.type) (p ∷ ps) ≡ false
    go false is h rest = cc
    go true is h rest = ap₂ (λ a b. a || b) (scalar_plain p.type is) (rest h)

results_scalar : (xs : List OpResult) → has_aggregate_type xs ≡ false → list_any (λ (r : OpResult). is_aggregate r.type) xs ≡ false
results_scalar [] none = refl
results_scalar (x ∷ xs) none = go (is_scalar x.type) refl none (results_scalar xs)
  where
    go : (b : Bool) → is_scalar x.type ≡ b → cond b (has_aggregate_type xs) true ≡ false → (has_aggregate_type xs ≡ false → list_any (λ (r : OpResult). is_aggregate r.type) xs ≡ false)
        → list_any (λ (r : OpResult). is_aggregate r.type) (x ∷ xs) ≡ false
    go false is h rest = cc
    go true is h rest = ap₂ (λ a b. a || b) (scalar_plain x.type is) (rest h)

types_plain : (xs : List OpResult) → list_any (λ (r : OpResult). is_aggregate r.type) xs ≡ false → AllPlain (types_of xs)
types_plain [] none = refl
types_plain (x ∷ xs) none = let both = neither (is_aggregate x.type) _ none in ap₂ (λ a b. a || b) both.0 (types_plain xs both.1)

op_scalar : (os : List Op) → has_aggregate_result os ≡ false → (j : ℕ) (o : Op) → slice_get os j ≡ Some o → has_aggregate_type o.results ≡ false
op_scalar [] none j o there = cc
op_scalar (x ∷ os) none zero o there = let same : x ≡ o = cc in sym (ap (λ (y : Op). has_aggregate_type y.results) same) ∙ (both_without (has_aggregate_type x.results) (has_aggregate_result os) none).0
op_scalar (x ∷ os) none (suc j) o there = op_scalar os (both_without (has_aggregate_type x.results) (has_aggregate_result os) none).1 j o there

module_scalar : (d : Design) → has_aggregates d ≡ false → (n : ℕ) (m : Module) → slice_get d n ≡ Some m → (has_aggregate_port m.ports ≡ false) × (has_aggregate_result m.body ≡ false)
module_scalar [] none n m there = cc
module_scalar (x ∷ d) none zero m there =
    let same : x ≡ m = cc in
    subst (λ (y : Module). (has_aggregate_port y.ports ≡ false) × (has_aggregate_result y.body ≡ false)) same
    (both_without (has_aggregate_port x.ports) (has_aggregate_result x.body) (both_without (has_aggregate_value x) (has_aggregates d) none).0)
module_scalar (x ∷ d) none (suc n) m there = module_scalar d (both_without (has_aggregate_value x) (has_aggregates d) none).1 n m there

-- ---- operations

-- an operation without aggregates
pub record IsPlain (o : Op) : Type 0 where
  pub kind : is_aggregate_kind o.kind ≡ false
  pub types : list_any is_aggregate o.types ≡ false
  pub results : list_any (λ (r : OpResult). is_aggregate r.type) o.results ≡ false

-- values of a body whose ports and results are plain, and each operation of which settles its results
module _ (ports : List Port) (os : List Op) (tests : (j : ℕ) (o : Op) → slice_get os j ≡ Some o → NoCauseAlone ports os o)
    (ports_are : list_any (λ (p : Port). is_aggregate p.type) ports ≡ false)
    (results_are : (j : ℕ) (o : Op) → slice_get os j ≡ Some o → list_any (λ (r : OpResult). is_aggregate r.type) o.results ≡ false) where
  -- a value has the type that its operation settles
  settled_good : (r : Ref) → settled_type ports os r ≡ type_in ports os r
  settled_good (port j) = refl
  settled_good undefined = refl
  settled_good (result j k) = go (slice_get os j) (λ o at. tests j o at)
    where
      go : (x : Option Op) → ((o : Op) → x ≡ Some o → NoCauseAlone ports os o)
          → option_and_then (λ (o : Op). slice_index_or (settled_by o) k None) x ≡ option_and_then (λ (o : Op). result_type o k) x
      go None tested = refl
      go (Some o) tested =
          ap (λ xs. slice_index_or xs k None) (settles o.kind o.types (types_of o.results) (tested o refl))
          ∙ known_at (types_of o.results) k ∙ slice_get-map (λ (r : OpResult). r.type) o.results k

  settled_list : (rs : List Ref) → map (settled_type ports os) rs ≡ map (type_in ports os) rs
  settled_list [] = refl
  settled_list (r ∷ rs) = ap₂ (λ x xs. x ∷ xs) (settled_good r) (settled_list rs)

  value_plain : (r : Ref) (t : HwType) → type_in ports os r ≡ Some t → is_aggregate t ≡ false
  value_plain (port j) t is = go (slice_get ports j) refl is
    where
      pick : (p : Port) → slice_get ports j ≡ Some p → (b : Bool) → cond b None (Some p.type) ≡ Some t → is_aggregate t ≡ false
      pick p at true e = cc
      pick p at false e =
          let same : p.type ≡ t = cc in
          sym (ap is_aggregate same) ∙ none_of (λ (q : Port). is_aggregate q.type) ports ports_are p (In-slice_get p ports j at)

      go : (x : Option Port) → slice_get ports j ≡ x → input_type x ≡ Some t → is_aggregate t ≡ false
      go None at e = cc
      go (Some p) at e = pick p at p.is_output e
  value_plain (result j k) t is = go (slice_get os j) refl is
    where
      pick : (o : Op) → slice_get os j ≡ Some o → (x : Option OpResult) → slice_get o.results k ≡ x → option_map (λ (r : OpResult). r.type) x ≡ Some t → is_aggregate t ≡ false
      pick o at None there e = cc
      pick o at (Some r) there e =
          let same : r.type ≡ t = cc in
          sym (ap is_aggregate same) ∙ none_of (λ (y : OpResult). is_aggregate y.type) o.results (results_are j o at) r (In-slice_get r o.results k there)

      go : (x : Option Op) → slice_get os j ≡ x → option_and_then (λ (o : Op). result_type o k) x ≡ Some t → is_aggregate t ≡ false
      go None at e = cc
      go (Some o) at e = pick o at (slice_get o.results k) refl e
  value_plain undefined t is = cc

  -- the types of values that are there
  plain_operands : (rs : List Ref) → has_undefined ports os rs ≡ false → (us : List HwType) × (map (type_in ports os) rs ≡ known_types us) × AllPlain us
  plain_operands [] there = ([], refl, refl)
  plain_operands (r ∷ rs) there = go (type_in ports os r) refl there (plain_operands rs)
    where
      go : (x : Option HwType) → type_in ports os r ≡ x → cond (is_some x) (has_undefined ports os rs) true ≡ false
          → (has_undefined ports os rs ≡ false → (us : List HwType) × (map (type_in ports os) rs ≡ known_types us) × AllPlain us)
          → (us : List HwType) × (map (type_in ports os) (r ∷ rs) ≡ known_types us) × AllPlain us
      go None is h rest = cc
      go (Some t) is h rest =
          let others = rest h in
          (t ∷ others.0, ap₂ (λ y ys. y ∷ ys) is others.1, ap₂ (λ a b. a || b) (value_plain r t is) others.2)

  kind_plain : (o : Op) → list_any (λ (r : OpResult). is_aggregate r.type) o.results ≡ false → has_undefined ports os o.operands ≡ false → alone_cause ports os o ≡ None → IsPlain o
  kind_plain o results defined alone =
      let operands = plain_operands o.operands defined in
      let own : own_cause o.kind o.types (types_of o.results) o.named (known_types operands.0) (divides_by_constant os o.operands) ≡ None =
      ap (λ xs. own_cause o.kind o.types (types_of o.results) o.named xs (divides_by_constant os o.operands)) (sym (settled_list o.operands ∙ operands.1)) ∙ alone in
      let both = plain_kind o.kind o.types operands.0 (types_of o.results) o.named (divides_by_constant os o.operands) own operands.2 (types_plain o.results results) in
      record { kind = both.0; types = both.1; results = results }

module _ (d : Design) (fine : IsAccepted d) (none : HasNoAggregates d) (n : ℕ) (m : Module) (there : slice_get d n ≡ Some m) where
  pub ports_plain : list_any (λ (p : Port). is_aggregate p.type) m.ports ≡ false
  ports_plain = ports_scalar m.ports (module_scalar d none n m there).0

  results_plain : (j : ℕ) (o : Op) → slice_get m.body j ≡ Some o → list_any (λ (r : OpResult). is_aggregate r.type) o.results ≡ false
  results_plain j o at = results_scalar o.results (op_scalar m.body (module_scalar d none n m there).1 j o at)

  pub op_plain : (j : ℕ) (o : Op) → slice_get m.body j ≡ Some o → IsPlain o
  op_plain j o at =
      let unrefused = module_unrefused d (no_fault d fine) m.symbol m (found d fine n m there) in
      let op : IsUnrefused d m.ports m.body o = ops_unrefused d m.ports m.body m.body unrefused.body j o at in
      let cause : NoOpCause d m.ports m.body op.last o = no_op_cause d m.ports m.body op.last o op.none in
      kind_plain m.ports m.body (op_tested d fine n m there) ports_plain results_plain o (results_plain j o at) cause.defined cause.alone
