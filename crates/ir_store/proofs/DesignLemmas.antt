-- Modules in a list, and their numbers by symbol.
use Rattle.std.proofs.Common.{◌≡◌, ℕ, zero, suc, ◌<◌, Bool, true, false, cond, List, [], ◌∷◌, ◌++◌, map, length, get_or, set, refl, ap, sym, ◌∙◌, arith}
use Rattle.std.specs.Prelude.{Option, Some, None, option_map, option_and_then, is_some, slice_get, nat_eq}
use Rattle.std.specs.Option.{option_copied}
use Rattle.std.specs.Borrow.{Bor}
use Rattle.std.specs.Map.{lookup}
use Rattle.std.proofs.lemmas.Bool.{eqb-true, eqb-false}
use Rattle.indexmap.specs.IndexMap.{insert_entry}
use Rattle.hw_model.specs.Types.{Name}
use Rattle.hw_model.specs.Design.{same_name, find_module}
use Rattle.ir_store.specs.declared.design.Module.{Module}
use Rattle.ir_store.specs.declared.body.Body.{Body}
use Rattle.ir_store.specs.Bodies.{ops_of}
use Rattle.ir_store.specs.Symbols.{symbol_position, first_of}
use Rattle.ir_store.specs.Designs.{StoredModule, module_of, numbered_module, with_ops}

-- ---- lists of modules

pub map_set_same : {X Y : Type 0} (f : X → Y) (xs : List X) (i : ℕ) (x y : X) → i < length xs → x ≡ get_or xs i x → f y ≡ f x → map f (set xs i y) ≡ map f xs
map_set_same f [] i x y h e g = refl
map_set_same f (z ∷ xs) zero x y h e g = ap (λ v. v ∷ map f xs) (g ∙ ap f e)
map_set_same f (z ∷ xs) (suc i) x y h e g = ap (λ vs. f z ∷ vs) (map_set_same f xs i x y (omega arith) e g)

pub read_get : {X Y : Type 0} (f : X → Y) (xs : List X) (i : ℕ) (x : X) → i < length xs → x ≡ get_or xs i x → Some (f x) ≡ slice_get (map f xs) i
read_get f [] i x h e = absurd (omega arith)
read_get f (y ∷ xs) zero x h e = ap (λ v. Some (f v)) e
read_get f (y ∷ xs) (suc i) x h e = read_get f xs i x (omega arith) e

pub body_set : (ms : List Module) (m : ℕ) (x : Module) (b : Body) → m < length ms → x ≡ get_or ms m x →
    map module_of (set ms m (record x { body = b })) ≡ with_ops m (ops_of b) (map module_of ms)
body_set [] m x b h e = refl
body_set (y ∷ ms) zero x b h e = ap (λ v. module_of (record v { body = b }) ∷ map module_of ms) e
body_set (y ∷ ms) (suc m) x b h e = ap (λ vs. module_of y ∷ vs) (body_set ms m x b (omega arith) e)

pub symbols_seen : (ms : List Module) → map (λ (m : StoredModule). m.symbol) (map module_of ms) ≡ map (λ (m : Module). m.symbol) ms
symbols_seen [] = refl
symbols_seen (m ∷ ms) = ap (λ vs. m.symbol ∷ vs) (symbols_seen ms)

pub ops_seen : (ms : List Module) → map (λ (m : StoredModule). m.ops) (map module_of ms) ≡ map (λ (m : Module). ops_of m.body) ms
ops_seen [] = refl
ops_seen (m ∷ ms) = ap (λ vs. ops_of m.body ∷ vs) (ops_seen ms)

-- ---- symbols

shifted : (p : Option ℕ) (b : Bool) (n : ℕ) → option_map suc (first_of p (cond b (Some n) None)) ≡ first_of (option_map suc p) (cond b (Some (suc n)) None)
shifted (Some m) b n = refl
shifted None true n = refl
shifted None false n = refl

-- a symbol at the end is found where none before it is the same
pub position_push : (q s : Name) (symbols : List Name) → symbol_position q (symbols ++ s ∷ []) ≡ first_of (symbol_position q symbols) (cond (same_name q s) (Some (length symbols)) None)
position_push q s [] = refl
position_push q s (t ∷ symbols) = go (same_name q t) (position_push q s symbols)
  where
    go : (b : Bool) → symbol_position q (symbols ++ s ∷ []) ≡ first_of (symbol_position q symbols) (cond (same_name q s) (Some (length symbols)) None) →
        cond b (Some 0) (option_map suc (symbol_position q (symbols ++ s ∷ [])))
        ≡ first_of (cond b (Some 0) (option_map suc (symbol_position q symbols))) (cond (same_name q s) (Some (suc (length symbols))) None)
    go true r = refl
    go false r = ap (option_map suc) r ∙ shifted (symbol_position q symbols) (same_name q s) (length symbols)

pub none_copied : (r : Option (Bor ℕ)) (o : Option ℕ) → option_copied r ≡ o → is_some r ≡ false → o ≡ None
none_copied None o e f = sym e
none_copied (Some x) o e f = cc

module _ {K : Type 0} where
  pub insert_absent : (eq : K → K → Bool) (es : List (K × ℕ)) (k : K) (v : ℕ) → lookup (eq k) es ≡ None → insert_entry eq es k v ≡ es ++ (k, v) ∷ []
  insert_absent eq [] k v h = refl
  insert_absent eq (e ∷ es) k v h = go (eq k e.0) h (insert_absent eq es k v)
    where
      go : (b : Bool) → cond b (Some e.1) (lookup (eq k) es) ≡ None → (lookup (eq k) es ≡ None → insert_entry eq es k v ≡ es ++ (k, v) ∷ []) →
          cond b ((e.0, v) ∷ es) (e ∷ insert_entry eq es k v) ≡ e ∷ (es ++ (k, v) ∷ [])
      go true h r = cc
      go false h r = ap (λ rest. e ∷ rest) (r h)

  pub lookup_push : (test : K → Bool) (es : List (K × ℕ)) (k : K) (v : ℕ) → lookup test (es ++ (k, v) ∷ []) ≡ first_of (lookup test es) (cond (test k) (Some v) None)
  lookup_push test [] k v = refl
  lookup_push test (e ∷ es) k v = go (test e.0) (lookup_push test es k v)
    where
      go : (b : Bool) → lookup test (es ++ (k, v) ∷ []) ≡ first_of (lookup test es) (cond (test k) (Some v) None) →
          cond b (Some e.1) (lookup test (es ++ (k, v) ∷ [])) ≡ first_of (cond b (Some e.1) (lookup test es)) (cond (test k) (Some v) None)
      go true r = refl
      go false r = r

-- ---- a symbol's position, and the module that it names

pub same_name_back : (a b : Name) → same_name a b ≡ same_name b a
same_name_back [] [] = refl
same_name_back [] (y ∷ b) = refl
same_name_back (x ∷ a) [] = refl
same_name_back (x ∷ a) (y ∷ b) = rw (eqb_back x y, same_name_back a b) refl
  where
    eqb_back : (x y : ℕ) → nat_eq x y ≡ nat_eq y x
    eqb_back x y = go (nat_eq x y) refl (nat_eq y x) refl
      where
        go : (b : Bool) → nat_eq x y ≡ b → (c : Bool) → nat_eq y x ≡ c → nat_eq x y ≡ nat_eq y x
        go true s true t = s ∙ sym t
        go true s false t = absurd (eqb-false y x t (sym (eqb-true x y s)))
        go false s true t = absurd (eqb-false x y s (sym (eqb-true y x t)))
        go false s false t = s ∙ sym t

-- the module at a symbol's position is the one that is found
pub module-symbol_position : (q : Name) (ms : List StoredModule) →
    option_and_then (slice_get (map numbered_module ms)) (symbol_position q (map (λ (m : StoredModule). m.symbol) ms)) ≡ find_module (map numbered_module ms) q
module-symbol_position q [] = refl
module-symbol_position q (m ∷ ms) = rw (same_name_back m.symbol q) (go (same_name q m.symbol) (module-symbol_position q ms))
  where
    following : (p : Option ℕ) → option_and_then (slice_get (numbered_module m ∷ map numbered_module ms)) (option_map suc p) ≡ option_and_then (slice_get (map numbered_module ms)) p
    following None = refl
    following (Some n) = refl

    go : (b : Bool) → option_and_then (slice_get (map numbered_module ms)) (symbol_position q (map (λ (m : StoredModule). m.symbol) ms)) ≡ find_module (map numbered_module ms) q →
        option_and_then (slice_get (numbered_module m ∷ map numbered_module ms)) (cond b (Some 0) (option_map suc (symbol_position q (map (λ (m : StoredModule). m.symbol) ms))))
        ≡ cond b (Some (numbered_module m)) (find_module (map numbered_module ms) q)
    go true r = refl
    go false r = following (symbol_position q (map (λ (m : StoredModule). m.symbol) ms)) ∙ r

-- there is a position exactly where there is a module
pub some-symbol_position : (q : Name) (ms : List StoredModule) → is_some (symbol_position q (map (λ (m : StoredModule). m.symbol) ms)) ≡ is_some (find_module (map numbered_module ms) q)
some-symbol_position q [] = refl
some-symbol_position q (m ∷ ms) = rw (same_name_back m.symbol q) (go (same_name q m.symbol) (some-symbol_position q ms))
  where
    following : (p : Option ℕ) → is_some (option_map suc p) ≡ is_some p
    following None = refl
    following (Some n) = refl

    go : (b : Bool) → is_some (symbol_position q (map (λ (m : StoredModule). m.symbol) ms)) ≡ is_some (find_module (map numbered_module ms) q) →
        is_some (cond b (Some 0) (option_map suc (symbol_position q (map (λ (m : StoredModule). m.symbol) ms)))) ≡ is_some (cond b (Some (numbered_module m)) (find_module (map numbered_module ms) q))
    go true r = refl
    go false r = following (symbol_position q (map (λ (m : StoredModule). m.symbol) ms)) ∙ r
