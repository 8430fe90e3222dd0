-- Marks of modules: what setting those of some numbers does, operation by operation and module by module.
use Rattle.std.proofs.Common.{◌≡◌, ◌⊎◌, ℕ, zero, suc, ◌+◌, ◌<◌, Bool, true, List, [], ◌∷◌, ◌++◌, length, map, take, set, slice_get, option_to_list, Option, Some, refl, sym, ap, subst, ◌∙◌, inl, inr, arith, length-set}
use Rattle.wiring.specs.Wiring.{In}
use Rattle.wiring.proofs.Lists.{map-map}
use Rattle.hw_model.specs.Design.{Module, Op}
use Rattle.hw_model.specs.Types.{Name}
use Rattle.hw_model.specs.Hierarchy.{callee_symbols}
use Rattle.ir_store.specs.Numbered.{ops_by_position}
use Rattle.ir_store.specs.Designs.{StoredModule, numbered_module}
use Rattle.ir_store.proofs.StoredModules.{stored_at}
use Rattle.design_cycles.specs.Calls.{call_lists, numbers_of, IsCalleeAt}
use Rattle.graphs.specs.Graphs.{edges, has_mark}
use Rattle.design_cycles.proofs.Callees.{call_edges, calls_more}
use Rattle.graphs.proofs.Marking.{marked_same, marked_cases}
use Rattle.export_verilog.specs.Called.{with_marks}

-- ---- marks of a list of numbers

set_kept : (ms : List Bool) (n v : ℕ) → has_mark ms v ≡ true → has_mark (set ms n true) v ≡ true
set_kept [] n v is = is
set_kept (m ∷ ms) zero zero is = refl
set_kept (m ∷ ms) zero (suc v) is = is
set_kept (m ∷ ms) (suc n) zero is = is
set_kept (m ∷ ms) (suc n) (suc v) is = set_kept ms n v is

with_marks-append : (xs ys : List ℕ) (ms : List Bool) → with_marks (xs ++ ys) ms ≡ with_marks ys (with_marks xs ms)
with_marks-append [] ys ms = refl
with_marks-append (x ∷ xs) ys ms = with_marks-append xs ys (set ms x true)

length-with_marks : (ns : List ℕ) (ms : List Bool) → length (with_marks ns ms) ≡ length ms
length-with_marks [] ms = refl
length-with_marks (n ∷ ns) ms = length-with_marks ns (set ms n true) ∙ length-set ms n true

with_marks-kept : (ns : List ℕ) (ms : List Bool) (v : ℕ) → has_mark ms v ≡ true → has_mark (with_marks ns ms) v ≡ true
with_marks-kept [] ms v is = is
with_marks-kept (n ∷ ns) ms v is = with_marks-kept ns (set ms n true) v (set_kept ms n v is)

with_marks-all : (ns : List ℕ) (ms : List Bool) (v : ℕ) → In v ns → v < length ms → has_mark (with_marks ns ms) v ≡ true
with_marks-all [] ms v here below = absurd here
with_marks-all (n ∷ ns) ms v (inl same) below =
    with_marks-kept ns (set ms n true) v (subst (λ k. has_mark (set ms k true) v ≡ true) same (marked_same ms v below))
with_marks-all (n ∷ ns) ms v (inr here) below = with_marks-all ns (set ms n true) v here (subst (λ k. v < k) (sym (length-set ms n true)) below)

with_marks-cases : (ns : List ℕ) (ms : List Bool) (v : ℕ) → has_mark (with_marks ns ms) v ≡ true → (has_mark ms v ≡ true) ⊎ In v ns
with_marks-cases [] ms v is = inl is
with_marks-cases (n ∷ ns) ms v is = go (with_marks-cases ns (set ms n true) v is)
  where
    before : (v ≡ n) ⊎ (has_mark ms v ≡ true) → (has_mark ms v ≡ true) ⊎ In v (n ∷ ns)
    before (inl same) = inr (inl same)
    before (inr was) = inl was

    go : (has_mark (set ms n true) v ≡ true) ⊎ In v ns → (has_mark ms v ≡ true) ⊎ In v (n ∷ ns)
    go (inl set_or_was) = before (marked_cases ms n v set_or_was)
    go (inr here) = inr (inr here)

-- ---- operations one by one

pub body_more : (symbols : List Name) (os : List Op) (j : ℕ) (number : Option ℕ) (first old new : List Bool) → IsCalleeAt symbols os j number
    → old ≡ with_marks (numbers_of symbols (callee_symbols (take j os))) first → new ≡ with_marks (option_to_list number) old
    → new ≡ with_marks (numbers_of symbols (callee_symbols (take (j + 1) os))) first
body_more symbols os j number first old new at before now =
    now ∙ ap (with_marks (option_to_list number)) before
    ∙ sym (ap (λ ns. with_marks ns first) (calls_more symbols os j number at) ∙ with_marks-append (numbers_of symbols (callee_symbols (take j os))) (option_to_list number) first)

-- ---- modules one by one

-- what a list before a position names has its mark, and nothing else has
pub record HasMarks (lists : List (List ℕ)) (i : ℕ) (marks : List Bool) : Type 0 where
  pub count : length marks ≡ length lists
  pub sound : (v : ℕ) → has_mark marks v ≡ true → (k : ℕ) × In v (edges lists k)
  pub all : (k v : ℕ) → k < i → In v (edges lists k) → v < length lists → has_mark marks v ≡ true

edges_at : (modules : List StoredModule) (i : ℕ) (m : StoredModule) → Some m ≡ slice_get modules i
    → edges (call_lists (map numbered_module modules)) i ≡ numbers_of (map (λ (x : StoredModule). x.symbol) modules) (callee_symbols (ops_by_position m.ops))
edges_at modules i m at =
    call_edges (map numbered_module modules) i (numbered_module m) (stored_at modules i m at)
    ∙ ap (λ symbols. numbers_of symbols (callee_symbols (ops_by_position m.ops))) (map-map (λ (x : Module). x.symbol) numbered_module modules)

list_more : (lists : List (List ℕ)) (i : ℕ) (old : List Bool) → HasMarks lists i old → HasMarks lists (i + 1) (with_marks (edges lists i) old)
list_more lists i old before = record {
  count = length-with_marks (edges lists i) old ∙ before.count;
  sound = λ v is. from v (with_marks-cases (edges lists i) old v is);
  all = λ k v lower here within. go k v (grind arith) here within;
}
  where
    from : (v : ℕ) → (has_mark old v ≡ true) ⊎ In v (edges lists i) → (k : ℕ) × In v (edges lists k)
    from v (inl had) = before.sound v had
    from v (inr here) = (i, here)

    go : (k v : ℕ) → (k < i) ⊎ (k ≡ i) → In v (edges lists k) → v < length lists → has_mark (with_marks (edges lists i) old) v ≡ true
    go k v (inl lower) here within = with_marks-kept (edges lists i) old v (before.all k v lower here within)
    go k v (inr equal) here within =
        with_marks-all (edges lists i) old v (subst (λ n. In v (edges lists n)) equal here) (subst (λ n. v < n) (sym before.count) within)

pub marks_more : (modules : List StoredModule) (i : ℕ) (m : StoredModule) (old new : List Bool) → Some m ≡ slice_get modules i
    → HasMarks (call_lists (map numbered_module modules)) i old
    → new ≡ with_marks (numbers_of (map (λ (x : StoredModule). x.symbol) modules) (callee_symbols (ops_by_position m.ops))) old
    → HasMarks (call_lists (map numbered_module modules)) (i + 1) new
marks_more modules i m old new at before now =
    subst (HasMarks (call_lists (map numbered_module modules)) (i + 1)) (ap (λ ns. with_marks ns old) (edges_at modules i m at) ∙ sym now)
    (list_more (call_lists (map numbered_module modules)) i old before)
