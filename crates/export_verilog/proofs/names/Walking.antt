-- Steps of the walk over a body that gives names.
use Rattle.std.proofs.Common.{◌≡◌, ℕ, ◌+◌, ◌<◌, ◌≤◌, List, [], ◌∷◌, ◌++◌, map, length, drop, slice_get, Option, Some, None, refl, sym, ◌∙◌, ap, append_assoc}
use Rattle.std.proofs.lemmas.List.{append-nil, drop_all}
use Rattle.std.proofs.lemmas.Option.{get_or_from_slice_get}
use Rattle.hw_model.specs.Types.{Name}
use Rattle.hw_model.specs.Kinds.{Instance}
use Rattle.hw_model.specs.KindViews.{kind_of}
use Rattle.hw_model.specs.Design.{Port, Op, instance_in}
use Rattle.ir_store.specs.declared.body.Op as body
use Rattle.name_legalise.specs.Legal.{legal_after}
use Rattle.verilog_expr.specs.Scopes.{op_read}
use Rattle.verilog_expr.specs.declared.scope.Scope.{Scope}
use Rattle.wiring.proofs.Joined.{split_at}
use Rattle.export_verilog.specs.Identifiers.{Emission, emission_of}
use Rattle.export_verilog.specs.Identifiers.Emission.{inline, as_wire, as_reg, as_instance}
use Rattle.export_verilog.specs.Held.{op_seen, name_hints_of, op_name_hints, results_of, op_results}
use Rattle.export_verilog.specs.Walks.{body_name_hints, body_given}
use Rattle.export_verilog.proofs.names.PortNames.{legal_append}

-- ---- an operation is the same to its names, whatever the positions of its operands

pub name_hints_seen : (s : Scope) (o : body.Op) (r : Emission) → op_name_hints r (op_seen o) ≡ op_name_hints r (op_read s o)
name_hints_seen s o inline = refl
name_hints_seen s o as_wire = refl
name_hints_seen s o as_reg = refl
name_hints_seen s o as_instance = go (instance_in (kind_of o.kind.now)) where
  go : (x : Option Instance) → name_hints_of as_instance x (op_seen o) ≡ name_hints_of as_instance x (op_read s o)
  go None = refl
  go (Some i) = refl

pub results_seen : (s : Scope) (o : body.Op) (ts : List Name) (r : Emission) → op_results ts r (op_seen o) ≡ op_results ts r (op_read s o)
results_seen s o ts inline = refl
results_seen s o ts as_wire = refl
results_seen s o ts as_reg = refl
results_seen s o ts as_instance = go (instance_in (kind_of o.kind.now)) where
  go : (x : Option Instance) → results_of ts as_instance x (op_seen o) ≡ results_of ts as_instance x (op_read s o)
  go None = refl
  go (Some i) = refl

-- ---- one step

module _ (ports : List Port) (os : List Op) (i : ℕ) (x : Op) (r : Emission) (ts us : List Name) (lt : i < length os) (at : slice_get os i ≡ Some x)
    (emission : r ≡ emission_of ports os i x) (took : us ≡ ts ++ legal_after ts (op_name_hints r x)) where
  next : drop i os ≡ x ∷ drop (i + 1) os
  next = split_at os i x lt (sym (get_or_from_slice_get os i x x at))

  taken : us ≡ ts ++ legal_after ts (op_name_hints (emission_of ports os i x) x)
  taken = took ∙ ap (λ q. ts ++ legal_after ts (op_name_hints q x)) emission

  pub walk_names : (whole : List Name) → ts ++ legal_after ts (body_name_hints ports os i (drop i os)) ≡ whole → us ++ legal_after us (body_name_hints ports os (i + 1) (drop (i + 1) os)) ≡ whole
  walk_names whole inv =
      let ws = op_name_hints (emission_of ports os i x) x in
      let rest = body_name_hints ports os (i + 1) (drop (i + 1) os) in
      ap (λ u. u ++ legal_after u rest) taken ∙ append_assoc ts (legal_after ts ws) (legal_after (ts ++ legal_after ts ws) rest)
      ∙ ap (λ l. ts ++ l) (sym (legal_append ts ws rest)) ∙ ap (λ l. ts ++ legal_after ts (body_name_hints ports os i l)) (sym next) ∙ inv

  pub walk_given : {A : Type 0} (f : List Name → Emission → Op → A) (y : A) (list one whole : List A) → y ≡ f ts r x → one ≡ list ++ y ∷ []
      → list ++ body_given f ports os ts i (drop i os) ≡ whole → one ++ body_given f ports os us (i + 1) (drop (i + 1) os) ≡ whole
  walk_given f y list one whole is e inv =
      let rest = drop (i + 1) os in
      ap (λ l. l ++ body_given f ports os us (i + 1) rest) (e ∙ ap (λ z. list ++ z ∷ []) (is ∙ ap (λ q. f ts q x) emission))
      ∙ ap (λ u. (list ++ f ts (emission_of ports os i x) x ∷ []) ++ body_given f ports os u (i + 1) rest) taken
      ∙ append_assoc list (f ts (emission_of ports os i x) x ∷ []) (body_given f ports os (ts ++ legal_after ts (op_name_hints (emission_of ports os i x) x)) (i + 1) rest)
      ∙ ap (λ l. list ++ body_given f ports os ts i l) (sym next) ∙ inv

-- ---- the end

module _ (ports : List Port) (os : List Op) (i : ℕ) (le : length os ≤ i) where
  pub walked_names : (ts whole : List Name) → ts ++ legal_after ts (body_name_hints ports os i (drop i os)) ≡ whole → ts ≡ whole
  walked_names ts whole inv = sym (append-nil ts) ∙ ap (λ l. ts ++ legal_after ts (body_name_hints ports os i l)) (sym (drop_all i os le)) ∙ inv

  pub walked_given : {A : Type 0} (f : List Name → Emission → Op → A) (ts : List Name) (list whole : List A) → list ++ body_given f ports os ts i (drop i os) ≡ whole → list ≡ whole
  walked_given f ts list whole inv = sym (append-nil list) ∙ ap (λ l. list ++ body_given f ports os ts i l) (sym (drop_all i os le)) ∙ inv

map_last : {A B : Type 0} (f : A → B) (xs : List A) (y : A) → map f (xs ++ y ∷ []) ≡ map f xs ++ f y ∷ []
map_last f [] y = refl
map_last f (x ∷ xs) y = ap (λ l. f x ∷ l) (map_last f xs y)

pub map_pushed : {A B : Type 0} (f : A → B) (xs ys : List A) (y : A) → ys ≡ xs ++ y ∷ [] → map f ys ≡ map f xs ++ f y ∷ []
map_pushed f xs ys y e = ap (map f) e ∙ map_last f xs y
