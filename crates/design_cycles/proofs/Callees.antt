-- Calls by numbers: how their lists grow, and that they lead where calls by symbols lead.
use Rattle.std.proofs.Common.{◌≡◌, ◌⊎◌, ℕ, zero, suc, ◌+◌, ◌≤◌, Bool, true, false, cond, List, [], ◌∷◌, ◌++◌, length, map, take, slice_get, Option, Some, None, option_map, refl, sym, ap, ap₂, subst, ◌∙◌, inl, inr, arith, append_assoc}
use Rattle.std.specs.Option.{option_to_list}
use Rattle.std.proofs.lemmas.List.{append-nil, take_all}
use Rattle.std.proofs.lemmas.Option.{slice_get-map, get_or_from_slice_get}
use Rattle.std.specs.Cmp.Lexicographic.{same_text, other_text}
use Rattle.wiring.specs.Wiring.{In, Chain, IsAcyclic}
use Rattle.wiring.proofs.Lists.{take-suc_some, map-map}
use Rattle.wiring.proofs.Members.{In-append_left, In-append_right, In-append_cases}
use Rattle.hw_model.specs.Types.{Name}
use Rattle.hw_model.specs.Kinds.{Instance}
use Rattle.hw_model.specs.Design.{Op, Module, Design, same_name, find_module, instance_in}
use Rattle.hw_model.specs.Sound.{body_of}
use Rattle.hw_model.specs.Hierarchy.{callee_symbols, called_by, calls, HasNoRecursion}
use Rattle.ir_store.specs.Symbols.{symbol_position}
use Rattle.ir_store.specs.Numbered.{ops_by_position}
use Rattle.ir_store.specs.Designs.{StoredModule, numbered_module}
use Rattle.design_cycles.specs.Asked.{HasDistinctSymbols}
use Rattle.design_cycles.specs.Calls.{symbols_in, numbers_of, call_lists, callee_number, IsCalleeAt}
use Rattle.graphs.specs.Graphs.{edges}

-- ---- lists of numbers

called-append : (xs ys : List Op) → callee_symbols (xs ++ ys) ≡ callee_symbols xs ++ callee_symbols ys
called-append [] ys = refl
called-append (o ∷ xs) ys = ap (λ zs. called_by (instance_in o.kind) ++ zs) (called-append xs ys) ∙ sym (append_assoc (called_by (instance_in o.kind)) (callee_symbols xs) (callee_symbols ys))

numbers-append : (symbols : List Name) (xs ys : List Name) → numbers_of symbols (xs ++ ys) ≡ numbers_of symbols xs ++ numbers_of symbols ys
numbers-append symbols [] ys = refl
numbers-append symbols (s ∷ xs) ys =
    ap (λ zs. option_to_list (symbol_position s symbols) ++ zs) (numbers-append symbols xs ys)
    ∙ sym (append_assoc (option_to_list (symbol_position s symbols)) (numbers_of symbols xs) (numbers_of symbols ys))

numbers_called : (symbols : List Name) (x : Option Instance) → numbers_of symbols (called_by x) ≡ option_to_list (callee_number symbols x)
numbers_called symbols None = refl
numbers_called symbols (Some i) = append-nil (option_to_list (symbol_position i.symbol symbols))

-- one more operation
pub calls_more : (symbols : List Name) (os : List Op) (j : ℕ) (number : Option ℕ) → IsCalleeAt symbols os j number
    → numbers_of symbols (callee_symbols (take (j + 1) os)) ≡ numbers_of symbols (callee_symbols (take j os)) ++ option_to_list number
calls_more symbols os j number at =
    let next : j + 1 ≡ suc j = omega arith in
    ap (λ n. numbers_of symbols (callee_symbols (take n os))) next
    ∙ ap (λ xs. numbers_of symbols (callee_symbols xs)) (take-suc_some os j at.op_there at.has_op)
    ∙ ap (numbers_of symbols) (called-append (take j os) (at.op_there ∷ []) ∙ ap (λ zs. callee_symbols (take j os) ++ zs) (append-nil (called_by (instance_in at.op_there.kind))))
    ∙ numbers-append symbols (callee_symbols (take j os)) (called_by (instance_in at.op_there.kind))
    ∙ ap (λ zs. numbers_of symbols (callee_symbols (take j os)) ++ zs) (numbers_called symbols (instance_in at.op_there.kind) ∙ ap option_to_list (sym at.number_is))

-- a list in code
pub calls_with : (symbols : List Name) (os : List Op) (j n : ℕ) (nodes old : List ℕ) (number : Option ℕ) → IsCalleeAt symbols os j number → number ≡ Some n
    → old ≡ numbers_of symbols (callee_symbols (take j os)) → nodes ≡ old ++ n ∷ [] → nodes ≡ numbers_of symbols (callee_symbols (take (j + 1) os))
calls_with symbols os j n nodes old number at is before now =
    now ∙ ap (λ xs. xs ++ n ∷ []) before ∙ sym (calls_more symbols os j number at ∙ ap (λ x. numbers_of symbols (callee_symbols (take j os)) ++ option_to_list x) is)

pub calls_without : (symbols : List Name) (os : List Op) (j : ℕ) (nodes old : List ℕ) (number : Option ℕ) → IsCalleeAt symbols os j number → number ≡ None
    → old ≡ numbers_of symbols (callee_symbols (take j os)) → nodes ≡ old → nodes ≡ numbers_of symbols (callee_symbols (take (j + 1) os))
calls_without symbols os j nodes old number at is before now =
    now ∙ before ∙ sym (calls_more symbols os j number at ∙ ap (λ x. numbers_of symbols (callee_symbols (take j os)) ++ option_to_list x) is ∙ append-nil (numbers_of symbols (callee_symbols (take j os))))

-- the lists of modules that are kept
abbrev pub stored_calls : List StoredModule → List StoredModule → List (List ℕ)
stored_calls modules ms = map (λ (m : StoredModule). numbers_of (map (λ (x : StoredModule). x.symbol) modules) (callee_symbols (ops_by_position m.ops))) ms

pub stored_more : (modules : List StoredModule) (k : ℕ) (m : StoredModule) (lists old : List (List ℕ)) (nodes : List ℕ) → Some m ≡ slice_get modules k
    → old ≡ stored_calls modules (take k modules) → nodes ≡ numbers_of (map (λ (x : StoredModule). x.symbol) modules) (callee_symbols (ops_by_position m.ops)) → lists ≡ old ++ nodes ∷ []
    → lists ≡ stored_calls modules (take (k + 1) modules)
stored_more modules k m lists old nodes at before are now =
    let next : k + 1 ≡ suc k = omega arith in
    now ∙ ap₂ (λ xs x. xs ++ x ∷ []) before are
    ∙ sym (ap (λ n. stored_calls modules (take n modules)) next ∙ ap (stored_calls modules) (take-suc_some modules k m (sym at)) ∙ map-push (take k modules) m)
  where
    map-push : (xs : List StoredModule) (x : StoredModule) → stored_calls modules (xs ++ x ∷ []) ≡ stored_calls modules xs ++ numbers_of (map (λ (y : StoredModule). y.symbol) modules) (callee_symbols (ops_by_position x.ops)) ∷ []
    map-push [] x = refl
    map-push (y ∷ xs) x = ap (λ zs. numbers_of (map (λ (z : StoredModule). z.symbol) modules) (callee_symbols (ops_by_position y.ops)) ∷ zs) (map-push xs x)

pub stored_all : (modules : List StoredModule) (k : ℕ) (lists : List (List ℕ)) → length modules ≤ k → lists ≡ stored_calls modules (take k modules) → lists ≡ call_lists (map numbered_module modules)
stored_all modules k lists all are =
    are ∙ ap (stored_calls modules) (take_all k modules all)
    ∙ ap (λ symbols. map (λ (m : StoredModule). numbers_of symbols (callee_symbols (ops_by_position m.ops))) modules) (sym (map-map (λ (m : Module). m.symbol) numbered_module modules))
    ∙ sym (map-map (λ (m : Module). numbers_of (symbols_in (map numbered_module modules)) (callee_symbols m.body)) numbered_module modules)

-- ---- numbers and symbols

pub position_found : (d : Design) (s : Name) (i : ℕ) → symbol_position s (symbols_in d) ≡ Some i → (m : Module) × (slice_get d i ≡ Some m) × (m.symbol ≡ s) × (find_module d s ≡ Some m)
position_found [] s i is = cc
position_found (m ∷ d) s i is = go (same_name s m.symbol) refl is (position_found d s)
  where
    symmetric : (a b : Name) (t : Bool) → same_name a b ≡ t → same_name b a ≡ t
    symmetric a b true is = let e : a ≡ b = same_text a b (sym is) in ap₂ same_name (sym e) e ∙ is
    symmetric a b false is = by_test (same_name b a) refl
      where
        by_test : (t : Bool) → same_name b a ≡ t → same_name b a ≡ false
        by_test true yes_is = absurd (other_text a b (sym is) (sym (same_text b a (sym yes_is))))
        by_test false no_is = no_is

    go : (t : Bool) → same_name s m.symbol ≡ t → cond t (Some 0) (option_map suc (symbol_position s (symbols_in d))) ≡ Some i
        → ((j : ℕ) → symbol_position s (symbols_in d) ≡ Some j → (n : Module) × (slice_get d j ≡ Some n) × (n.symbol ≡ s) × (find_module d s ≡ Some n))
        → (n : Module) × (slice_get (m ∷ d) i ≡ Some n) × (n.symbol ≡ s) × (find_module (m ∷ d) s ≡ Some n)
    go true same at rest =
        let first : i ≡ 0 = cc in
        (m, ap (slice_get (m ∷ d)) first, sym (same_text s m.symbol (sym same)), ap (λ t. cond t (Some m) (find_module d s)) (symmetric s m.symbol true same))
    go false same at rest = later (symbol_position s (symbols_in d)) refl at
      where
        later : (x : Option ℕ) → symbol_position s (symbols_in d) ≡ x → option_map suc x ≡ Some i
            → (n : Module) × (slice_get (m ∷ d) i ≡ Some n) × (n.symbol ≡ s) × (find_module (m ∷ d) s ≡ Some n)
        later None none at = cc
        later (Some j) some at =
            let next : i ≡ suc j = cc in
            let found = rest j some in
            (found.0, ap (slice_get (m ∷ d)) next ∙ found.1, found.2, ap (λ t. cond t (Some m) (find_module d s)) (symmetric s m.symbol false same) ∙ found.3)

-- a symbol that is found has a number
pub number_found : (d : Design) (s : Name) (m : Module) → find_module d s ≡ Some m → (i : ℕ) × (symbol_position s (symbols_in d) ≡ Some i)
number_found [] s m is = cc
number_found (x ∷ d) s m is = go (same_name s x.symbol) refl (number_found d s m)
  where
    go : (t : Bool) → same_name s x.symbol ≡ t → (find_module d s ≡ Some m → (i : ℕ) × (symbol_position s (symbols_in d) ≡ Some i))
        → (i : ℕ) × (cond t (Some 0) (option_map suc (symbol_position s (symbols_in d))) ≡ Some i)
    go true same rest = (0, refl)
    go false same rest = again (same_name x.symbol s) refl is
      where
        again : (t : Bool) → same_name x.symbol s ≡ t → cond t (Some x) (find_module d s) ≡ Some m → (i : ℕ) × (option_map suc (symbol_position s (symbols_in d)) ≡ Some i)
        again true back found = absurd (other_text s x.symbol (sym same) (sym (same_text x.symbol s (sym back))))
        again false back found = let at = rest found in (suc at.0, ap (option_map suc) at.1)

pub In-numbers : (symbols : List Name) (s : Name) (i : ℕ) (ss : List Name) → In s ss → symbol_position s symbols ≡ Some i → In i (numbers_of symbols ss)
In-numbers symbols s i [] here at = absurd here
In-numbers symbols s i (t ∷ ts) (inl same) at =
    In-append_left i (option_to_list (symbol_position t symbols)) (numbers_of symbols ts)
    (subst (λ x. In i (option_to_list x)) (sym (ap (λ z. symbol_position z symbols) (sym same) ∙ at)) (inl refl))
In-numbers symbols s i (t ∷ ts) (inr here) at =
    In-append_right i (option_to_list (symbol_position t symbols)) (numbers_of symbols ts) (In-numbers symbols s i ts here at)

pub from_In-numbers : (symbols : List Name) (i : ℕ) (ss : List Name) → In i (numbers_of symbols ss) → (s : Name) × In s ss × (symbol_position s symbols ≡ Some i)
from_In-numbers symbols i [] here = absurd here
from_In-numbers symbols i (t ∷ ts) here = go (In-append_cases i (option_to_list (symbol_position t symbols)) (numbers_of symbols ts) here) (from_In-numbers symbols i ts)
  where
    first : (x : Option ℕ) → symbol_position t symbols ≡ x → In i (option_to_list x) → (s : Name) × In s (t ∷ ts) × (symbol_position s symbols ≡ Some i)
    first None is never = absurd never
    first (Some k) is (inl same) = (t, inl refl, is ∙ ap Some (sym same))
    first (Some k) is (inr never) = absurd never

    go : In i (option_to_list (symbol_position t symbols)) ⊎ In i (numbers_of symbols ts) → (In i (numbers_of symbols ts) → (s : Name) × In s ts × (symbol_position s symbols ≡ Some i))
        → (s : Name) × In s (t ∷ ts) × (symbol_position s symbols ≡ Some i)
    go (inl here) rest = first (symbol_position t symbols) refl here
    go (inr here) rest = let found = rest here in (found.0, inr found.1, found.2)

module _ (d : Design) where
  abbrev pub number : Name → Option ℕ
  number s = symbol_position s (symbols_in d)

  pub call_edges : (i : ℕ) (m : Module) → slice_get d i ≡ Some m → edges (call_lists d) i ≡ numbers_of (symbols_in d) (callee_symbols m.body)
  call_edges i m at =
      get_or_from_slice_get (call_lists d) i (numbers_of (symbols_in d) (callee_symbols m.body)) []
      (slice_get-map (λ (x : Module). numbers_of (symbols_in d) (callee_symbols x.body)) d i ∙ ap (option_map (λ (x : Module). numbers_of (symbols_in d) (callee_symbols x.body))) at)

  -- a chain of calls by symbols is one by numbers
  pub chain_numbers : (k : ℕ) (s t : Name) (i j : ℕ) → Chain (calls d) k s t → number s ≡ Some i → number t ≡ Some j → Chain (edges (call_lists d)) k i j
  chain_numbers zero s t i j same at to = let e : Some i ≡ Some j = sym at ∙ ap number same ∙ to in cc
  chain_numbers (suc k) s t i j (c, need, chain) at to =
      let here = position_found d s i at in
      let named : In c (callee_symbols here.0.body) = subst (λ o. In c (callee_symbols (body_of o))) here.3 need in
      let is = numbered_name k c chain in
      (is.0, subst (In is.0) (sym (call_edges i here.0 here.1)) (In-numbers (symbols_in d) c is.0 (callee_symbols here.0.body) named is.1), chain_numbers k c t is.0 j chain is.1 to)
    where
      calls_something : (c e : Name) → In e (calls d c) → (i : ℕ) × (number c ≡ Some i)
      calls_something c e need = go (find_module d c) refl need
        where
          go : (o : Option Module) → find_module d c ≡ o → In e (callee_symbols (body_of o)) → (i : ℕ) × (number c ≡ Some i)
          go None is never = absurd never
          go (Some m) is there = number_found d c m is

      numbered_name : (k : ℕ) (c : Name) → Chain (calls d) k c t → (i : ℕ) × (number c ≡ Some i)
      numbered_name zero c same = (j, ap number same ∙ to)
      numbered_name (suc k) c (e, need, rest) = calls_something c e need

  module _ (distinct : HasDistinctSymbols d) where
    -- a module is found by its symbol
    pub found_at : (i : ℕ) (m : Module) → slice_get d i ≡ Some m → (number m.symbol ≡ Some i) × (find_module d m.symbol ≡ Some m)
    found_at i m at = go (number m.symbol) refl
      where
        go : (x : Option ℕ) → number m.symbol ≡ x → (number m.symbol ≡ Some i) × (find_module d m.symbol ≡ Some m)
        go None none = absurd (missing d i at none)
          where
            missing : (e : Design) (k : ℕ) → slice_get e k ≡ Some m → symbol_position m.symbol (symbols_in e) ≡ None → ⊥
            missing [] k is none = cc
            missing (x ∷ e) zero is none =
                let same : x ≡ m = cc in
                let test : same_name m.symbol x.symbol ≡ true = ap (λ (y : Module). same_name m.symbol y.symbol) same ∙ same_self m.symbol in
                let found : Some 0 ≡ None = ap (λ t. cond t (Some 0) (option_map suc (symbol_position m.symbol (symbols_in e)))) (sym test) ∙ none in
                cc
              where
                same_self : (n : Name) → same_name n n ≡ true
                same_self n = by_test (same_name n n) refl
                  where
                    by_test : (t : Bool) → same_name n n ≡ t → same_name n n ≡ true
                    by_test true is = is
                    by_test false is = absurd (other_text n n (sym is) refl)
            missing (x ∷ e) (suc k) is none = later (same_name m.symbol x.symbol) none (missing e k is)
              where
                later : (t : Bool) → cond t (Some 0) (option_map suc (symbol_position m.symbol (symbols_in e))) ≡ None → (symbol_position m.symbol (symbols_in e) ≡ None → ⊥) → ⊥
                later true none rest = cc
                later false none rest = rest (by_position (symbol_position m.symbol (symbols_in e)) none)
                  where
                    by_position : (x : Option ℕ) → option_map suc x ≡ None → x ≡ None
                    by_position None is = refl
                    by_position (Some n) is = cc
        go (Some j) some =
            let there = position_found d m.symbol j some in
            let same : j ≡ i = distinct j i there.0 m there.1 at there.2 in
            let both : Some there.0 ≡ Some m = sym there.1 ∙ ap (slice_get d) same ∙ at in
            (some ∙ ap Some same, there.3 ∙ both)

    -- a chain of calls by numbers is one by symbols
    pub chain_symbols : (k i j : ℕ) (m n : Module) → slice_get d i ≡ Some m → slice_get d j ≡ Some n → Chain (edges (call_lists d)) k i j → Chain (calls d) k m.symbol n.symbol
    chain_symbols zero i j m n at to same = let e : Some m ≡ Some n = sym at ∙ ap (slice_get d) same ∙ to in let f : m ≡ n = cc in ap (λ (x : Module). x.symbol) f
    chain_symbols (suc k) i j m n at to (c, need, chain) =
        let named = from_In-numbers (symbols_in d) c (callee_symbols m.body) (subst (In c) (call_edges i m at) need) in
        let there = position_found d named.0 c named.2 in
        let found = found_at i m at in
        let call : In named.0 (calls d m.symbol) = subst (λ o. In named.0 (callee_symbols (body_of o))) (sym found.1) named.1 in
        let rest : Chain (calls d) k there.0.symbol n.symbol = chain_symbols k c j there.0 n there.1 to chain in
        (named.0, call, subst (λ s. Chain (calls d) k s n.symbol) there.2 rest)

    -- cycles of modules are cycles of numbers
    pub no_recursion : IsAcyclic (edges (call_lists d)) → HasNoRecursion d
    no_recursion acyclic s (k, (c, need, chain)) = go (find_module d s) refl
      where
        go : (o : Option Module) → find_module d s ≡ o → ⊥
        go None none = subst (λ o. In c (callee_symbols (body_of o))) none need
        go (Some m) some =
            let at = number_found d s m some in
            acyclic at.0 (k, chain_numbers (suc k) s s at.0 at.0 (c, need, chain) at.1 at.1)

    pub acyclic_numbers : HasNoRecursion d → IsAcyclic (edges (call_lists d))
    acyclic_numbers finite i (k, chain) = go (slice_get d i) refl
      where
        past : (xs : Design) (i : ℕ) → slice_get xs i ≡ None → edges (map (λ (x : Module). numbers_of (symbols_in d) (callee_symbols x.body)) xs) i ≡ []
        past [] i none = refl
        past (x ∷ xs) zero none = cc
        past (x ∷ xs) (suc i) none = past xs i none

        go : (o : Option Module) → slice_get d i ≡ o → ⊥
        go None none = subst (In chain.0) (past d i none) chain.1
        go (Some m) at = finite m.symbol (k, chain_symbols (suc k) i i m m at at chain)
