-- The positions of a design and of its tree: paths by numbers of instances, and paths by their names.
use Rattle.std.proofs.Common.{◌≡◌, ℕ, zero, suc, ◌⊎◌, Bool, true, false, List, [], ◌∷◌, length, take, slice_get, Option, Some, None, refl, sym, ◌∙◌, ap, ap₂, subst, inl, inr, arith, option_and_then, option_map}
use Rattle.std.proofs.lemmas.List.{length-take}
use Rattle.std.proofs.lemmas.Option.{slice_get_within}
use Rattle.wiring.specs.Wiring.{In}
use Rattle.wiring.proofs.Options.{and_then_some}
use Rattle.hw_model.specs.Types.{Name}
use Rattle.hw_model.specs.Kinds.{Instance}
use Rattle.hw_model.specs.Design.{Op, Module, Design, same_name, find_module, instance_in, callee}
use Rattle.hw_model.specs.Equality.{name_self, name_from}
use Rattle.hw_model.specs.Flat.{Path, instances, before_instance, module_at}
use Rattle.hw_model.proofs.Sorts.{Sort, sort_of, instance_found}
use Rattle.hw_model.proofs.Sorts.Sort.{a_register, an_instance as is_an_instance, an_output, a_made}
use Rattle.hw_model.proofs.Finite.{path_chain}
use Rattle.hw_model.proofs.Content.{before_position}
use Rattle.verilog_model.specs.Tree.{VModule}
use Rattle.verilog_model.specs.Hierarchy.{VPath, VInstance, vmodule_at, find_instance, find_vmodule}
use Rattle.lowering_options.specs.declared.lowering.Lowering.{Lowering}
use Rattle.export_verilog.specs.Identifiers.{Identifier, emission_of, module_identifiers, identifier_text}
use Rattle.export_verilog.specs.Identifiers.Identifier.{instance_identifier}
use Rattle.export_verilog.specs.Identifiers.Emission.{as_instance}
use Rattle.export_verilog.specs.Exported.{symbol_name, vitems, vmodule, tree_of}
use Rattle.export_verilog.proofs.names.IdentifierNames.{AreNames, texts_apart}
use Rattle.export_verilog.proofs.names.IdentifiersOf.{emission_of_instance, Owner, owner_of, instance_in_identifiers}
use Rattle.export_verilog.proofs.names.IdentifiersOf.Owner.{a_port, a_net, a_variable, an_instance, a_result}
use Rattle.export_verilog.proofs.names.Symbols.{vmodule_found}
use Rattle.export_verilog.proofs.items.Lookups.{instance_of_kind, instance_value, instance_under, no_instance_under}
use Rattle.export_verilog.proofs.items.Settings.{Setting, Called, called_by, called_by_emission, callee_is}

-- ---- instances by number

-- the position of an instance, by its number
abbrev pub position_of : List Op → ℕ → ℕ
position_of os u = length (before_instance u os)

pub number_position : (os : List Op) (u : ℕ) (o : Op) → slice_get (instances os) u ≡ Some o
    → (slice_get os (position_of os u) ≡ Some o) × (length (instances (take (position_of os u) os)) ≡ u)
number_position [] u o is = cc
number_position (y ∷ ys) u o is = go (sort_of y.kind) u is (λ v h. number_position ys v o h) where
  go : Sort y.kind → (u : ℕ) → slice_get (instances (y ∷ ys)) u ≡ Some o
      → ((v : ℕ) → slice_get (instances ys) v ≡ Some o → (slice_get ys (position_of ys v) ≡ Some o) × (length (instances (take (position_of ys v) ys)) ≡ v))
      → (slice_get (y ∷ ys) (position_of (y ∷ ys) u) ≡ Some o) × (length (instances (take (position_of (y ∷ ys) u) (y ∷ ys))) ≡ u)
  go (a_register f r n x) u is rest = let h = rest u (simp n at is) in (simp n h.0, simp n h.1)
  go (is_an_instance z r n x) zero is rest = let e : Some y ≡ Some o = simp n at is in (simp n e, simp n)
  go (is_an_instance z r n x) (suc u) is rest = let h = rest u (simp n at is) in (simp n h.0, simp n (ap suc h.1))
  go (an_output r n x) u is rest = let h = rest u (simp n at is) in (simp n h.0, simp n h.1)
  go (a_made r n x) u is rest = let h = rest u (simp n at is) in (simp n h.0, simp n h.1)

-- the number of an instance, by its position
abbrev pub number_of : List Op → ℕ → ℕ
number_of os i = length (instances (take i os))

pub position_number : (os : List Op) (i : ℕ) (o : Op) (k : Instance) → slice_get os i ≡ Some o → instance_in o.kind ≡ Some k → position_of os (number_of os i) ≡ i
position_number os i o k there kind = ap length (before_position os i o k there kind)
    ∙ (let e : length (take i os) ≡ i = omega (arith, length-take i os, slice_get_within os i o there) in e)

-- ---- a thing of a name, or none

pub identifier_of_name : (m : Module) (n : Name) (ks : List Identifier) → ((k : Identifier) × In k ks × (n ≡ identifier_text m k)) ⊎ ((k : Identifier) → In k ks → n ≡ identifier_text m k → ⊥)
identifier_of_name m n [] = inr (λ k here e. here)
identifier_of_name m n (l ∷ ks) = go (same_name n (identifier_text m l)) refl (identifier_of_name m n ks) where
  go : (b : Bool) → same_name n (identifier_text m l) ≡ b → ((k : Identifier) × In k ks × (n ≡ identifier_text m k)) ⊎ ((k : Identifier) → In k ks → n ≡ identifier_text m k → ⊥)
      → ((k : Identifier) × In k (l ∷ ks) × (n ≡ identifier_text m k)) ⊎ ((k : Identifier) → In k (l ∷ ks) → n ≡ identifier_text m k → ⊥)
  go true e rest = inl (l, inl refl, name_from n (identifier_text m l) e)
  go false e (inl h) = inl (h.0, inr h.1, h.2)
  go false e (inr never) = inr neither where
    neither : (k : Identifier) → In k (l ∷ ks) → n ≡ identifier_text m k → ⊥
    neither k (inl same) is = let h : same_name n (identifier_text m l) ≡ true = ap (λ z. same_name n (identifier_text m z)) (sym same) ∙ ap (same_name n) (sym is) ∙ name_self n in cc
    neither k (inr here) is = never k here is

-- ---- paths

-- the name of instance u of a module
abbrev pub step_name : Option Module → ℕ → Name
step_name None u = []
step_name (Some m) u = identifier_text m (instance_identifier (position_of m.body u))

abbrev pub vpath_of : Design → Name → Path → VPath
vpath_of d top [] = []
vpath_of d top (u ∷ p) = step_name (module_at d top p) u ∷ vpath_of d top p

module _ (via : Lowering) (d : Design) (x : Setting d) (top : Name) where
  pub symbol_at_path : (p : Path) (m : Module) → module_at d top p ≡ Some m → (s : Name) × (find_module d s ≡ Some m)
  symbol_at_path p m here = let h = path_chain d top p m here in (h.0, h.2)

  pub names_at_path : (p : Path) (m : Module) → module_at d top p ≡ Some m → AreNames m
  names_at_path p m here = let h = symbol_at_path p m here in x.names h.0 m h.1

  -- one instance further along a path
  pub record Further (p : Path) (u : ℕ) (c : Module) : Type 0 where
    pub outer : Module
    pub here : module_at d top p ≡ Some outer
    pub position : ℕ
    pub op : Op
    pub there : slice_get outer.body position ≡ Some op
    pub emission : emission_of outer.ports outer.body position op ≡ as_instance
    pub called : Called d outer op
    pub inside : called.module_of ≡ c
    pub is_position : position_of outer.body u ≡ position
    pub is_number : number_of outer.body position ≡ u

  pub further : (u : ℕ) (p : Path) (c : Module) → module_at d top (u ∷ p) ≡ Some c → Further p u c
  further u p c is =
      let outer = and_then_some (module_at d top p) (λ (y : Module). option_and_then (callee d) (slice_get (instances y.body) u)) is in
      let inner = and_then_some (slice_get (instances outer.0.body) u) (callee d) outer.2 in
      let kind = and_then_some (instance_in inner.0.kind) (λ (i : Instance). find_module d i.symbol) inner.2 in
      let position = number_position outer.0.body u inner.0 inner.1 in
      go outer.0 outer.1 inner.0 kind.0 kind.1 kind.2 position.0 position.1 where
        go : (m : Module) → module_at d top p ≡ Some m → (o : Op) (k : Instance) → instance_in o.kind ≡ Some k → find_module d k.symbol ≡ Some c
            → slice_get m.body (position_of m.body u) ≡ Some o → number_of m.body (position_of m.body u) ≡ u → Further p u c
        go m here o k kind found there number =
            let at = symbol_at_path p m here in
            let called : Called d m o = called_by d x at.0 m at.1 (position_of m.body u) o there k kind in
            let same : Some called.module_of ≡ Some c = sym (callee_is d m o called) ∙ ap (λ z. option_and_then (λ (i : Instance). find_module d i.symbol) z) kind ∙ found in
            record {
              outer = m;
              here = here;
              position = position_of m.body u;
              op = o;
              there = there;
              emission = by_sort (sort_of o.kind);
              called = called;
              inside = let e : called.module_of ≡ c = cc in e;
              is_position = refl;
              is_number = number;
            } where
              by_sort : Sort o.kind → emission_of m.ports m.body (position_of m.body u) o ≡ as_instance
              by_sort (is_an_instance z r n y) = emission_of_instance m.ports m.body (position_of m.body u) o z r n
              by_sort (a_register f r n y) = absurd (let h : None ≡ Some k = sym n ∙ kind in cc)
              by_sort (an_output r n y) = absurd (let h : None ≡ Some k = sym n ∙ kind in cc)
              by_sort (a_made r n y) = absurd (let h : None ≡ Some k = sym n ∙ kind in cc)

  -- the name of the step
  pub name_of_step : (u : ℕ) (p : Path) (c : Module) (f : Further p u c) → vpath_of d top (u ∷ p) ≡ identifier_text f.outer (instance_identifier f.position) ∷ vpath_of d top p
  name_of_step u p c f = ap (λ y. step_name y u ∷ vpath_of d top p) f.here
      ∙ ap (λ i. identifier_text f.outer (instance_identifier i) ∷ vpath_of d top p) f.is_position

  instance_there : (m : Module) (are : AreNames m) (i : ℕ) (o : Op) (c : Called d m o) → slice_get m.body i ≡ Some o → emission_of m.ports m.body i o ≡ as_instance
      → find_instance (vitems via d m) (identifier_text m (instance_identifier i)) ≡ Some (instance_of_kind via d m i o c.kind)
  instance_there m are i o c there emission =
      instance_under via d m are (instance_identifier i) (instance_in_identifiers m i o there emission)
      ∙ ap (λ z. option_and_then (λ (o : Op). option_map (instance_of_kind via d m i o) (instance_in o.kind)) z) there
      ∙ ap (option_map (instance_of_kind via d m i o)) c.is_kind

  -- what stands at the end of a path of the tree
  pub vposition : (p : Path) (m : Module) → module_at d top p ≡ Some m → vmodule_at (tree_of via d) (symbol_name d top) (vpath_of d top p) ≡ Some (vmodule via d m)
  vposition [] m here = vmodule_found d x.ok x.symbols via top m here
  vposition (u ∷ p) m here = step (further u p m here) (λ o h. vposition p o h) where
    step : Further p u m → ((o : Module) → module_at d top p ≡ Some o → vmodule_at (tree_of via d) (symbol_name d top) (vpath_of d top p) ≡ Some (vmodule via d o))
        → vmodule_at (tree_of via d) (symbol_name d top) (vpath_of d top (u ∷ p)) ≡ Some (vmodule via d m)
    step f rest =
        ap (vmodule_at (tree_of via d) (symbol_name d top)) (name_of_step u p m f)
        ∙ ap (λ z. option_and_then (λ (v : VModule). option_and_then (λ (i : VInstance). find_vmodule (tree_of via d) i.module_name)
        (find_instance v.items (identifier_text f.outer (instance_identifier f.position)))) z) (rest f.outer f.here)
        ∙ ap (λ z. option_and_then (λ (i : VInstance). find_vmodule (tree_of via d) i.module_name) z) (instance_there f.outer (names_at_path p f.outer f.here) f.position f.op f.called f.there f.emission)
        ∙ vmodule_found d x.ok x.symbols via f.called.kind.symbol f.called.module_of f.called.there
        ∙ ap (λ y. Some (vmodule via d y)) f.inside

  -- an instance leads on
  pub inside_instance : (p : Path) (m : Module) → module_at d top p ≡ Some m → (i : ℕ) (o : Op) (c : Called d m o) → slice_get m.body i ≡ Some o
      → (module_at d top (number_of m.body i ∷ p) ≡ Some c.module_of) × (vpath_of d top (number_of m.body i ∷ p) ≡ identifier_text m (instance_identifier i) ∷ vpath_of d top p)
  inside_instance p m here i o c there = (
    ap (λ z. option_and_then (λ (y : Module). option_and_then (callee d) (slice_get (instances y.body) (number_of m.body i))) z) here
        ∙ ap (λ z. option_and_then (callee d) z) (instance_found m.body i o c.kind there c.is_kind) ∙ callee_is d m o c,
    ap (λ z. step_name z (number_of m.body i) ∷ vpath_of d top p) here
        ∙ ap (λ z. identifier_text m (instance_identifier z) ∷ vpath_of d top p) (position_number m.body i o c.kind there c.is_kind),
  )

  -- two paths of one name are one
  pub paths_apart : (p r : Path) (m n : Module) → module_at d top p ≡ Some m → module_at d top r ≡ Some n → vpath_of d top p ≡ vpath_of d top r → p ≡ r
  paths_apart [] [] m n here there same = refl
  paths_apart [] (v ∷ r) m n here there same = cc
  paths_apart (u ∷ p) [] m n here there same = cc
  paths_apart (u ∷ p) (v ∷ r) m n here there same = go (further u p m here) (further v r n there) (λ a b h k e. paths_apart p r a b h k e) where
    go : Further p u m → Further r v n
        → ((a b : Module) → module_at d top p ≡ Some a → module_at d top r ≡ Some b → vpath_of d top p ≡ vpath_of d top r → p ≡ r) → u ∷ p ≡ v ∷ r
    go f g rest =
        let both : identifier_text f.outer (instance_identifier f.position) ∷ vpath_of d top p ≡ identifier_text g.outer (instance_identifier g.position) ∷ vpath_of d top r =
        sym (name_of_step u p m f) ∙ same ∙ name_of_step v r n g in
        let tails : vpath_of d top p ≡ vpath_of d top r = cc in
        let paths : p ≡ r = rest f.outer g.outer f.here g.here tails in
        let found : Some f.outer ≡ Some g.outer = sym f.here ∙ ap (module_at d top) paths ∙ g.here in
        let modules : f.outer ≡ g.outer = cc in
        let heads : identifier_text f.outer (instance_identifier f.position) ≡ identifier_text g.outer (instance_identifier g.position) = cc in
        let texts : identifier_text f.outer (instance_identifier f.position) ≡ identifier_text f.outer (instance_identifier g.position) = heads ∙ ap (λ y. identifier_text y (instance_identifier g.position)) (sym modules) in
        let gin : In (instance_identifier g.position) (module_identifiers f.outer) = subst (λ y. In (instance_identifier g.position) (module_identifiers y)) (sym modules)
        (instance_in_identifiers g.outer g.position g.op g.there g.emission) in
        let identifiers : instance_identifier f.position ≡ instance_identifier g.position =
        texts_apart f.outer (names_at_path p f.outer f.here) (instance_identifier f.position) (instance_identifier g.position) (instance_in_identifiers f.outer f.position f.op f.there f.emission) gin texts in
        let positions : f.position ≡ g.position = cc in
        let numbers : u ≡ v = sym f.is_number ∙ ap₂ (λ (y : Module) i. number_of y.body i) modules positions ∙ g.is_number in
        ap₂ (λ a b. a ∷ b) numbers paths

  -- a path of the tree is that of a path of the design, or leads nowhere
  pub data PathOf (q : VPath) : Type 0 where
    a_path : (p : Path) (m : Module) → module_at d top p ≡ Some m → vpath_of d top p ≡ q → PathOf q
    no_path : vmodule_at (tree_of via d) (symbol_name d top) q ≡ None → PathOf q

  module _ (m0 : Module) (top_is : find_module d top ≡ Some m0) where
    pub path_of : (q : VPath) → PathOf q
    path_of [] = a_path [] m0 top_is refl
    path_of (n ∷ q) = go (path_of q) where
      go : PathOf q → PathOf (n ∷ q)
      go (no_path none) = no_path (ap (λ z. option_and_then (λ (v : VModule). option_and_then (λ (i : VInstance). find_vmodule (tree_of via d) i.module_name) (find_instance v.items n)) z) none)
      go (a_path p m here same) = by_identifier (identifier_of_name m n (module_identifiers m)) where
        at : vmodule_at (tree_of via d) (symbol_name d top) q ≡ Some (vmodule via d m)
        at = ap (vmodule_at (tree_of via d) (symbol_name d top)) (sym same) ∙ vposition p m here

        nowhere : find_instance (vitems via d m) n ≡ None → PathOf (n ∷ q)
        nowhere none = no_path (ap (λ z. option_and_then (λ (v : VModule). option_and_then (λ (i : VInstance). find_vmodule (tree_of via d) i.module_name) (find_instance v.items n)) z) at
            ∙ ap (λ z. option_and_then (λ (i : VInstance). find_vmodule (tree_of via d) i.module_name) z) none)

        by_owner : (k : Identifier) → In k (module_identifiers m) → n ≡ identifier_text m k → Owner m k → PathOf (n ∷ q)
        by_owner k within is (an_instance i o there emission same_identifier) =
            let s = symbol_at_path p m here in
            let c = called_by_emission d x s.0 m s.1 i o there emission in
            let inside = inside_instance p m here i o c there in
            a_path (number_of m.body i ∷ p) c.module_of inside.0
            (inside.1 ∙ ap₂ (λ a b. a ∷ b) (ap (identifier_text m) (sym same_identifier) ∙ sym is) same)
        by_owner k within is (a_port j y there same_identifier) =
            nowhere (ap (find_instance (vitems via d m)) is ∙ instance_under via d m (names_at_path p m here) k within ∙ ap (instance_value via d m) same_identifier)
        by_owner k within is (a_net i o there emission same_identifier) =
            nowhere (ap (find_instance (vitems via d m)) is ∙ instance_under via d m (names_at_path p m here) k within ∙ ap (instance_value via d m) same_identifier)
        by_owner k within is (a_variable i o there emission same_identifier) =
            nowhere (ap (find_instance (vitems via d m)) is ∙ instance_under via d m (names_at_path p m here) k within ∙ ap (instance_value via d m) same_identifier)
        by_owner k within is (a_result i l o r there emission found same_identifier) =
            nowhere (ap (find_instance (vitems via d m)) is ∙ instance_under via d m (names_at_path p m here) k within ∙ ap (instance_value via d m) same_identifier)

        by_identifier : ((k : Identifier) × In k (module_identifiers m) × (n ≡ identifier_text m k)) ⊎ ((k : Identifier) → In k (module_identifiers m) → n ≡ identifier_text m k → ⊥) → PathOf (n ∷ q)
        by_identifier (inl h) = by_owner h.0 h.1 h.2 (owner_of m h.0 h.1)
        by_identifier (inr never) = nowhere (no_instance_under via d m (names_at_path p m here) n never)
