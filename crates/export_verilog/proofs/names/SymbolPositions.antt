-- The name of the module of a symbol stands where the module does.
use Rattle.std.proofs.Common.{◌≡◌, ℕ, suc, ◌<◌, Bool, true, false, cond, List, [], ◌∷◌, map, length, slice_get, Option, Some, None, refl, sym, ◌∙◌, ap, arith}
use Rattle.std.specs.Prelude.{option_map, option_and_then, get_or}
use Rattle.std.proofs.lemmas.List.{length-map}
use Rattle.std.proofs.lemmas.Option.{slice_get_read}
use Rattle.hw_model.specs.Types.{Name}
use Rattle.hw_model.specs.Design.{Module, Design, same_name, find_module}
use Rattle.ir_store.specs.Symbols.{symbol_position}
use Rattle.ir_store.specs.Designs.{StoredModule, numbered_module}
use Rattle.fresh_names.proofs.Taken.{same_back}
use Rattle.name_legalise.proofs.Legals.{legal_count}
use Rattle.export_verilog.specs.Exported.{symbol_names, symbol_among, symbol_name}
use Rattle.export_verilog.proofs.items.Operands.{get_map}

-- a position after the first
some_suc : (p : Option ℕ) (n : ℕ) → option_map suc p ≡ Some n → (k : ℕ) × (p ≡ Some k) × (n ≡ suc k)
some_suc None n e = cc
some_suc (Some k) n e = (k, refl, cc)

none_suc : (p : Option ℕ) → option_map suc p ≡ None → p ≡ None
none_suc None e = refl
none_suc (Some k) e = cc

abbrev pub symbols_in : List StoredModule → List Name
symbols_in ms = map (λ (m : StoredModule). m.symbol) ms

-- the position of a symbol is that of a module
pub position_within : (q : Name) (ms : List StoredModule) (n : ℕ) → symbol_position q (symbols_in ms) ≡ Some n → n < length ms
position_within q [] n e = cc
position_within q (m ∷ ms) n e = go (same_name q m.symbol) e (position_within q ms) where
  go : (b : Bool) → cond b (Some 0) (option_map suc (symbol_position q (symbols_in ms))) ≡ Some n → ((k : ℕ) → symbol_position q (symbols_in ms) ≡ Some k → k < length ms) → n < suc (length ms)
  go true e rest = let first : n ≡ 0 = cc in omega (arith, first)
  go false e rest = let p = some_suc (symbol_position q (symbols_in ms)) n e in omega (arith, p.2, rest p.0 p.1)

-- the name that stands there is the symbol's
pub name_at_position : (q : Name) (ms : List StoredModule) (ns : List Name) (n : ℕ) → length ns ≡ length ms → symbol_position q (symbols_in ms) ≡ Some n
    → slice_get ns n ≡ Some (symbol_among (map numbered_module ms) ns q)
name_at_position q [] ns n count e = cc
name_at_position q (m ∷ ms) [] n count e = absurd (omega (arith, count))
name_at_position q (m ∷ ms) (x ∷ ns) n count e =
    go (same_name q m.symbol) e (name_at_position q ms ns) ∙ ap (λ b. Some (cond b x (symbol_among (map numbered_module ms) ns q))) (same_back q m.symbol) where
      go : (b : Bool) → cond b (Some 0) (option_map suc (symbol_position q (symbols_in ms))) ≡ Some n
          → ((k : ℕ) → length ns ≡ length ms → symbol_position q (symbols_in ms) ≡ Some k → slice_get ns k ≡ Some (symbol_among (map numbered_module ms) ns q))
          → slice_get (x ∷ ns) n ≡ Some (cond b x (symbol_among (map numbered_module ms) ns q))
      go true e rest = let first : n ≡ 0 = cc in ap (slice_get (x ∷ ns)) first
      go false e rest = let p = some_suc (symbol_position q (symbols_in ms)) n e in ap (slice_get (x ∷ ns)) p.2 ∙ rest p.0 (omega (arith, count)) p.1

-- a symbol that no module has names nothing
pub no_name : (q : Name) (ms : List StoredModule) (ns : List Name) → symbol_position q (symbols_in ms) ≡ None → [] ≡ symbol_among (map numbered_module ms) ns q
no_name q [] ns e = refl
no_name q (m ∷ ms) [] e = refl
no_name q (m ∷ ms) (x ∷ ns) e =
    go (same_name q m.symbol) e (no_name q ms ns) ∙ ap (λ b. cond b x (symbol_among (map numbered_module ms) ns q)) (same_back q m.symbol) where
      go : (b : Bool) → cond b (Some 0) (option_map suc (symbol_position q (symbols_in ms))) ≡ None → (symbol_position q (symbols_in ms) ≡ None → [] ≡ symbol_among (map numbered_module ms) ns q)
          → [] ≡ cond b x (symbol_among (map numbered_module ms) ns q)
      go true e rest = cc
      go false e rest = rest (none_suc (symbol_position q (symbols_in ms)) e)

-- ---- in a design

-- the names of modules are as many as the modules
pub symbol_count : (d : Design) → length (symbol_names d) ≡ length d
unfolding symbol_names
symbol_count d = legal_count [] (map (λ (m : Module). m.symbol) d) ∙ length-map d (λ (m : Module). m.symbol)

module _ (q : Name) (ms : List StoredModule) (n : ℕ) (position : symbol_position q (symbols_in ms) ≡ Some n) where
  -- a list as long as the design has something at the position
  pub within_list : {A : Type 0} (xs : List A) → length xs ≡ length (map numbered_module ms) → n < length xs
  within_list xs count = omega (arith, count, length-map ms numbered_module, position_within q ms n position)

  -- the name there is that of the symbol
  pub symbol_at : (ns : List Name) (x : Name) → ns ≡ symbol_names (map numbered_module ms) → x ≡ get_or ns n x → x ≡ symbol_name (map numbered_module ms) q
  symbol_at ns x are at =
      let d = map numbered_module ms in
      let count : length ns ≡ length d = ap length are ∙ symbol_count d in
      let here : slice_get ns n ≡ Some x = slice_get_read ns (length ns) n x refl (within_list ns count) at in
      let there : slice_get ns n ≡ Some (symbol_among d ns q) = name_at_position q ms ns n (count ∙ length-map ms numbered_module) position in
      let same : x ≡ symbol_among d ns q = cc in
      same ∙ ap (λ l. symbol_among d l q) are

  -- the module there is the one that is found
  pub module_at : (x : StoredModule) → Some x ≡ slice_get ms n → option_and_then (slice_get (map numbered_module ms)) (Some n) ≡ find_module (map numbered_module ms) q
      → find_module (map numbered_module ms) q ≡ Some (numbered_module x)
  module_at x at found = sym found ∙ get_map numbered_module ms n ∙ ap (option_map numbered_module) (sym at)
