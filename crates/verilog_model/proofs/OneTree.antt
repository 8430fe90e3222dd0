-- A text is at most one tree's: trees that keep precedence and meet the checks are read back from their spellings.
use Rattle.std.proofs.Common.{◌≡◌, ℕ, suc, Bool, true, false, cond, not, ◌&&◌, ◌||◌, nat_le, nat_lt, List, [], ◌∷◌, ◌++◌, map, Option, Some, None, is_some, refl, sym, ◌∙◌, ap, subst, IsTrue, leb-true}
use Rattle.std.specs.Cmp.Lexicographic.{bytes_decides}
use Rattle.hw_model.specs.Types.{Name}
use Rattle.hw_model.specs.Design.{same_name}
use Rattle.verilog_model.specs.Tokens.{is_name_byte}
use Rattle.verilog_model.specs.Numerals.{all_bytes, is_decimal, is_hex, decimal_number}
use Rattle.verilog_model.specs.Reserved.{reserved_words}
use Rattle.verilog_model.specs.Tree.{Expr, Exprs, VPort, Load, Block, Connection, Item, VModule, Tree}
use Rattle.verilog_model.specs.Tree.Expr.{name, bit_select, part_select, literal, joined, repeated, as_signed, as_unsigned, paren, odd, binary, choice}
use Rattle.verilog_model.specs.Tree.Exprs.{last, more}
use Rattle.verilog_model.specs.Tree.Block.{load, if_load, if_else, if_else_if, async_reset}
use Rattle.verilog_model.specs.Tree.Item.{wire, reg, assign, always, instance}
use Rattle.verilog_model.specs.Hierarchy.{first_some, when, or_else, find_vmodule, find_port, vports_of, block_target}
use Rattle.verilog_model.specs.Grammar.{fits, all_fit, level, strength, choice_level, primary_level, is_literal, block_fits, connections_fit, item_fits, items_fit, tree_fits}
use Rattle.verilog_model.specs.Checks.{contains_name, starts_name, is_identifier, are_distinct, all_identifiers, Role, Declared, find_declared, has_role, can_read, can_assign, is_input, is_variable}
use Rattle.verilog_model.specs.Checks.{has_bit, divides, is_divisor, expr_checks, exprs_check, load_checks, block_checks, joins_net, connection_checks, connections_check, ports_joined, item_checks}
use Rattle.verilog_model.specs.Checks.{items_check, declared_by, declared_ports, declared_items, declared_in, names_check, ports_check, each_driven, clocks_check, nesting_checks, module_checks}
use Rattle.verilog_model.specs.Checks.{modules_check, tree_checks}
use Rattle.verilog_model.specs.Behaviour.{IsVerilog}
use Rattle.verilog_model.proofs.Numerals.{and_intro, and_first, and_second}
use Rattle.verilog_model.proofs.TokenReader.{run}
use Rattle.verilog_model.proofs.TokenReader.State.{modules}
use Rattle.verilog_model.proofs.ReadExpressions.{Clear, AllClear}
use Rattle.verilog_model.proofs.ReadTrees.{NoKeyword, ClearBlock, ClearConnections, ClearItem, ClearItems, ClearTree, read_tree}

both : (a b : Bool) → IsTrue (a && b) → IsTrue a × IsTrue b
both a b h = (and_first a b h, and_second a b h)

-- ---- names

no_keyword_of : (n : Name) → IsTrue (not (contains_name n reserved_words)) → NoKeyword n
no_keyword_of n h w e = go (same_name w n) refl where
  go : (b : Bool) → same_name w n ≡ b → b ≡ false
  go false s = refl
  go true s = let f : contains_name n reserved_words ≡ true = subst (λ k. contains_name k reserved_words ≡ true) ((bytes_decides w n).0 s) e in cc (f, h)

starts_of : (n : Name) → IsTrue (is_identifier n) → IsTrue (starts_name n)
starts_of n h = and_first (starts_name n) (all_bytes is_name_byte n && not (contains_name n reserved_words)) h

keyword_of : (n : Name) → IsTrue (is_identifier n) → NoKeyword n
keyword_of n h =
    no_keyword_of n (and_second (all_bytes is_name_byte n) (not (contains_name n reserved_words)) (and_second (starts_name n) (all_bytes is_name_byte n && not (contains_name n reserved_words)) h))

-- what is found by its name among things with identifiers has an identifier
found_name : {A : Type 0} (name_of : A → Name) (xs : List A) (n : Name) → IsTrue (all_identifiers (map name_of xs)) →
    IsTrue (is_some (first_some (λ (x : A). when (same_name (name_of x) n) x) xs)) → IsTrue (is_identifier n)
found_name name_of [] n h f = cc
found_name {A = A} name_of (x ∷ xs) n h f =
    go (same_name (name_of x) n) refl f (found_name name_of xs n (and_second (is_identifier (name_of x)) (all_identifiers (map name_of xs)) h)) where
      rest : Option A
      rest = first_some (λ (y : A). when (same_name (name_of y) n) y) xs

      go : (b : Bool) → same_name (name_of x) n ≡ b → IsTrue (is_some (or_else (when b x) rest)) → (IsTrue (is_some rest) → IsTrue (is_identifier n)) → IsTrue (is_identifier n)
      go true e g later = subst (λ k. IsTrue (is_identifier k)) ((bytes_decides (name_of x) n).0 e) (and_first (is_identifier (name_of x)) (all_identifiers (map name_of xs)) h)
      go false e g later = later g

-- ---- what is declared

abbrev AllNamed : List Declared → Type 0
AllNamed ds = IsTrue (all_identifiers (map (λ (d : Declared). d.name) ds))

named_append : (ds es : List Declared) → AllNamed ds → AllNamed es → AllNamed (ds ++ es)
named_append [] es h g = g
named_append (d ∷ ds) es h g =
    and_intro (is_identifier d.name) (all_identifiers (map (λ (d : Declared). d.name) (ds ++ es)))
    (and_first (is_identifier d.name) (all_identifiers (map (λ (d : Declared). d.name) ds)) h)
    (named_append ds es (and_second (is_identifier d.name) (all_identifiers (map (λ (d : Declared). d.name) ds)) h) g)

named_parts : (ds es : List Declared) → AllNamed (ds ++ es) → AllNamed ds × AllNamed es
named_parts [] es h = (refl, h)
named_parts (d ∷ ds) es h =
    let parts = both (is_identifier d.name) (all_identifiers (map (λ (d : Declared). d.name) (ds ++ es))) h in
    let later = named_parts ds es parts.1 in
    (and_intro (is_identifier d.name) (all_identifiers (map (λ (d : Declared). d.name) ds)) parts.0 later.0, later.1)

role_found : (p : Role → Bool) (o : Option Declared) → IsTrue (has_role p o) → IsTrue (is_some o)
role_found p None h = h
role_found p (Some d) h = refl

bit_found : (o : Option Declared) (k : ℕ) → IsTrue (has_bit o k) → IsTrue (is_some o)
bit_found None k h = h
bit_found (Some d) k h = refl

module _ (known : List Declared) (named : AllNamed known) where
  role_name : (p : Role → Bool) (n : Name) → IsTrue (has_role p (find_declared known n)) → IsTrue (is_identifier n)
  role_name p n h = found_name (λ (d : Declared). d.name) known n named (role_found p (find_declared known n) h)

  bit_name : (n : Name) (k : ℕ) → IsTrue (has_bit (find_declared known n) k) → IsTrue (is_identifier n)
  bit_name n k h = found_name (λ (d : Declared). d.name) known n named (bit_found (find_declared known n) k h)

  -- ---- expressions

  mutual
    expr_clear : (e : Expr) → IsTrue (fits e) → IsTrue (expr_checks known e) → Clear e
    expr_clear (name n) f c = starts_of n (role_name can_read n c)
    expr_clear (bit_select n k) f c = starts_of n (bit_name n (decimal_number k) (and_second (is_decimal k) (has_bit (find_declared known n) (decimal_number k)) c))
    expr_clear (part_select n h l) f c =
        starts_of n (bit_name n (decimal_number h) (and_second (nat_le (decimal_number l) (decimal_number h)) (has_bit (find_declared known n) (decimal_number h))
        (and_second (is_decimal h && is_decimal l) (nat_le (decimal_number l) (decimal_number h) && has_bit (find_declared known n) (decimal_number h)) c)))
    expr_clear (literal w s h) f c = and_first (is_decimal w) (is_hex h) (and_first (is_decimal w && is_hex h) (nat_lt 0 (decimal_number w)) c)
    expr_clear (joined es) f c = exprs_clear es f c
    expr_clear (repeated n es) f c =
        let parts = both (is_decimal n && nat_lt 0 (decimal_number n)) (exprs_check known es) c in
        (and_first (is_decimal n) (nat_lt 0 (decimal_number n)) parts.0, exprs_clear es f parts.1)
    expr_clear (as_signed e) f c = expr_clear e f c
    expr_clear (as_unsigned e) f c = expr_clear e f c
    expr_clear (paren e) f c = expr_clear e f c
    expr_clear (odd e) f c =
        let parts = both (nat_le primary_level (level e)) (fits e) f in
        (leb-true primary_level (level e) parts.0, expr_clear e parts.1 c)
    expr_clear (binary o a b) f c =
        let halves = both (nat_le (strength o) (level a) && nat_le (suc (strength o)) (level b)) (fits a && fits b) f in
        let levels = both (nat_le (strength o) (level a)) (nat_le (suc (strength o)) (level b)) halves.0 in
        let fit = both (fits a) (fits b) halves.1 in
        let checked = both (expr_checks known a) (expr_checks known b) (and_second (not (divides o) || is_divisor b) (expr_checks known a && expr_checks known b) c) in
        ((leb-true (strength o) (level a) levels.0, leb-true (suc (strength o)) (level b) levels.1), (expr_clear a fit.0 checked.0, expr_clear b fit.1 checked.1))
    expr_clear (choice d a b) f c =
        let halves = both (nat_le (suc choice_level) (level d)) (fits d && (fits a && fits b)) f in
        let fit = both (fits d) (fits a && fits b) halves.1 in
        let fit_both = both (fits a) (fits b) fit.1 in
        let checked = both (expr_checks known d) (expr_checks known a && expr_checks known b) c in
        let checked_both = both (expr_checks known a) (expr_checks known b) checked.1 in
        (leb-true (suc choice_level) (level d) halves.0, (expr_clear d fit.0 checked.0, (expr_clear a fit_both.0 checked_both.0, expr_clear b fit_both.1 checked_both.1)))

    exprs_clear : (es : Exprs) → IsTrue (all_fit es) → IsTrue (exprs_check known es) → AllClear es
    exprs_clear (last e) f c = expr_clear e f c
    exprs_clear (more e es) f c =
        let fit = both (fits e) (all_fit es) f in
        let checked = both (expr_checks known e) (exprs_check known es) c in
        (expr_clear e fit.0 checked.0, exprs_clear es fit.1 checked.1)

  -- ---- blocks and connections

  load_clear : (r : Name) (l : Load) → IsTrue (fits l.value) → IsTrue (load_checks known r l) → Clear l.value
  load_clear r l f c = expr_clear l.value f (and_second (same_name l.target r) (expr_checks known l.value) c)

  load_named : (r : Name) (l : Load) → IsTrue (is_identifier r) → IsTrue (load_checks known r l) → NoKeyword l.target
  load_named r l h c =
      subst NoKeyword (sym ((bytes_decides l.target r).0 (and_first (same_name l.target r) (expr_checks known l.value) c))) (keyword_of r h)

  block_clear : (r : Name) (b : Block) → IsTrue (is_identifier r) → IsTrue (block_fits b) → IsTrue (block_checks known r b) → ClearBlock b
  block_clear r (load l) h f c = (load_named r l h c, load_clear r l f c)
  block_clear r (if_load d l) h f c =
      let fit = both (fits d) (fits l.value) f in
      let checked = both (expr_checks known d) (load_checks known r l) c in
      (expr_clear d fit.0 checked.0, load_clear r l fit.1 checked.1)
  block_clear r (if_else d l m) h f c =
      let fit = both (fits d) (fits l.value && fits m.value) f in
      let fit_both = both (fits l.value) (fits m.value) fit.1 in
      let checked = both (expr_checks known d) (load_checks known r l && load_checks known r m) c in
      let checked_both = both (load_checks known r l) (load_checks known r m) checked.1 in
      ((expr_clear d fit.0 checked.0, load_clear r l fit_both.0 checked_both.0), (load_named r m h checked_both.1, load_clear r m fit_both.1 checked_both.1))
  block_clear r (if_else_if d l e m) h f c =
      let fit = both (fits d && fits l.value) (fits e && fits m.value) f in
      let first_fit = both (fits d) (fits l.value) fit.0 in
      let second_fit = both (fits e) (fits m.value) fit.1 in
      let checked = both (expr_checks known d && load_checks known r l) (expr_checks known e && load_checks known r m) c in
      let first_checked = both (expr_checks known d) (load_checks known r l) checked.0 in
      let second_checked = both (expr_checks known e) (load_checks known r m) checked.1 in
      ((expr_clear d first_fit.0 first_checked.0, load_clear r l first_fit.1 first_checked.1), (expr_clear e second_fit.0 second_checked.0, load_clear r m second_fit.1 second_checked.1))
  block_clear r (async_reset n l m) h f c =
      let fit = both (fits l.value) (fits m.value) (and_second (is_literal l.value) (fits l.value && fits m.value) f) in
      let checked = both (has_role is_input (find_declared known n)) (load_checks known r l && load_checks known r m) c in
      let loads = both (load_checks known r l) (load_checks known r m) checked.1 in
      (starts_of n (role_name is_input n checked.0), (load_clear r l fit.0 loads.0, load_clear r m fit.1 loads.1))

  net_clear : (e : Expr) → IsTrue (joins_net known e) → Clear e
  net_clear (name n) h = starts_of n (role_name can_assign n h)
  net_clear (bit_select n k) h = cc
  net_clear (part_select n k l) h = cc
  net_clear (literal w s d) h = cc
  net_clear (joined es) h = cc
  net_clear (repeated n es) h = cc
  net_clear (as_signed e) h = cc
  net_clear (as_unsigned e) h = cc
  net_clear (paren e) h = cc
  net_clear (odd e) h = cc
  net_clear (binary o a b) h = cc
  net_clear (choice d a b) h = cc

  connection_clear : (o : Option VPort) (e : Expr) → IsTrue (fits e) → IsTrue (connection_checks known o e) → Clear e
  connection_clear None e f c = cc
  connection_clear (Some p) e f c = go p.is_output c where
    go : (b : Bool) → IsTrue (cond b (joins_net known e) (expr_checks known e)) → Clear e
    go true h = net_clear e h
    go false h = expr_clear e f h

  connections_clear : (ports : List VPort) (cs : List Connection) → IsTrue (connections_fit cs) → IsTrue (connections_check known ports cs) → ClearConnections cs
  connections_clear ports [] f c = tt
  connections_clear ports (k ∷ cs) f c =
      let fit = both (fits k.value) (connections_fit cs) f in
      let checked = both (connection_checks known (find_port ports k.port) k.value) (connections_check known ports cs) c in
      (connection_clear (find_port ports k.port) k.value fit.0 checked.0, connections_clear ports cs fit.1 checked.1)

-- ---- items and modules

module _ (t : Tree) (modules_named : IsTrue (all_identifiers (map (λ (m : VModule). m.name) t))) where
  item_clear : (known : List Declared) → AllNamed known → (i : Item) → IsTrue (item_fits i) → IsTrue (item_checks t known i) → ClearItem i
  item_clear known named (wire high n) f c = tt
  item_clear known named (reg high n) f c = tt
  item_clear known named (assign n e) f c = expr_clear known named e f (and_second (has_role can_assign (find_declared known n)) (expr_checks known e) c)
  item_clear known named (always clock b) f c =
      let parts = both (has_role is_variable (find_declared known (block_target b))) (block_checks known (block_target b) b)
      (and_second (has_role is_input (find_declared known clock)) (has_role is_variable (find_declared known (block_target b)) && block_checks known (block_target b) b) c) in
      block_clear known named (block_target b) b (role_name known named is_variable (block_target b) parts.0) f parts.1
  item_clear known named (instance m u cs) f c =
      let ports = vports_of (find_vmodule t m) in
      let parts = both (is_some (find_vmodule t m)) (connections_check known ports cs && ports_joined ports cs) c in (
        keyword_of m (found_name (λ (k : VModule). k.name) t m modules_named parts.0),
        connections_clear known named ports cs f (and_first (connections_check known ports cs) (ports_joined ports cs) parts.1),
      )

  items_clear : (known : List Declared) → AllNamed known → (is : List Item) → AllNamed (declared_items is) → IsTrue (items_fit is) → IsTrue (items_check t known is) → ClearItems is
  items_clear known named [] h f c = tt
  items_clear known named (i ∷ is) h f c =
      let declared = named_parts (declared_by i) (declared_items is) h in
      let fit = both (item_fits i) (items_fit is) f in
      let checked = both (item_checks t known i) (items_check t (known ++ declared_by i) is) c in (
        item_clear known named i fit.0 checked.0,
        items_clear (known ++ declared_by i) (named_append known (declared_by i) named declared.0) is declared.1 fit.1 checked.1,
      )

  module_clear : (m : VModule) → IsTrue (items_fit m.items) → IsTrue (module_checks t m) → ClearItems m.items
  module_clear m f c =
      let names = map (λ (d : Declared). d.name) (declared_in m) in
      let drivers = each_driven t m.items (declared_in m) && (clocks_check t m.ports m.items && nesting_checks t m) in
      let parts = both (names_check names && ports_check m.ports) (items_check t (declared_ports m.ports) m.items && drivers) c in
      let declared = named_parts (declared_ports m.ports) (declared_items m.items)
      (and_second (are_distinct names) (all_identifiers names) (and_first (names_check names) (ports_check m.ports) parts.0)) in
      items_clear (declared_ports m.ports) declared.0 m.items declared.1 f (and_first (items_check t (declared_ports m.ports) m.items) drivers parts.1)

  modules_clear : (ms : Tree) → IsTrue (tree_fits ms) → IsTrue (modules_check t ms) → ClearTree ms
  modules_clear [] f c = tt
  modules_clear (m ∷ ms) f c =
      let fit = both (items_fit m.items) (tree_fits ms) f in
      let checked = both (module_checks t m) (modules_check t ms) c in
      (module_clear m fit.0 checked.0, modules_clear ms fit.1 checked.1)

tree_clear : (t : Tree) → IsTrue (tree_fits t) → IsTrue (tree_checks t) → ClearTree t
tree_clear t f c =
    let names = map (λ (m : VModule). m.name) t in
    let parts = both (names_check names) (modules_check t t) c in
    modules_clear t (and_second (are_distinct names) (all_identifiers names) parts.0) t f parts.1

pub one_tree_at_most : (text : List ℕ) (t u : Tree) → IsVerilog text t → IsVerilog text u → t ≡ u
one_tree_at_most text t u a b =
    sym (read_tree t (tree_clear t a.fits a.checks))
    ∙ ap (run (modules (λ (t : Tree). t))) (sym a.spelled ∙ b.spelled)
    ∙ read_tree u (tree_clear u b.fits b.checks)
