-- Where the registers of the flattened module take their content: in order, each where its net takes its value.
use Rattle.std.proofs.Common.{◌≡◌, ℕ, zero, suc, ◌+◌, ◌<◌, ◌≤◌, cond, List, [], ◌∷◌, ◌++◌, length, map, take, drop, slice_get, Some, refl, sym, ap, ap₂, subst, ◌∙◌, inl, arith, zero-add, append_assoc}
use Rattle.std.proofs.lemmas.List.{length-map, drop-drop}
use Rattle.wiring.specs.Wiring.{In, HasHeights, IsHeight}
use Rattle.wiring.proofs.Members.{In-append_left, In-append_right}
use Rattle.wiring.proofs.Heights.{HasHeights-acyclic, FallsAlong-height, height-le}
use Rattle.bits_core.specs.Word.{Word, first}
use Rattle.hw_model.specs.Types.{Name}
use Rattle.hw_model.specs.Kinds.{Instance}
use Rattle.hw_model.specs.Design.{Op, Module, Design, find_module, instance_in, is_instance}
use Rattle.hw_model.specs.Flat.{Path, Slot, instances, before_instance, body_state, op_state, module_state, state, held_width, op_registers, body_registers, module_registers}
use Rattle.hw_model.specs.Meaning.{map_slots}
use Rattle.hw_model.specs.Sound.{body_of}
use Rattle.hw_model.specs.Hierarchy.{callee_symbols, called_by, calls, HasNoRecursion}
use Rattle.hw_model.proofs.Sorts.{Sort, sort_of}
use Rattle.hw_model.proofs.Sorts.Sort.{a_register, an_instance, an_output, a_made}
use Rattle.hw_model.proofs.Paths.{state_body, registers_body}
use Rattle.hw_model.proofs.Finite.{calls_within}

-- ---- the content of a module does not depend on the depth

-- what a body instances decides how many bits of content it has
pub body_state_same : (f g : Name → ℕ) (os : List Op) → ((s : Name) → In s (callee_symbols os) → f s ≡ g s) → body_state f os ≡ body_state g os
body_state_same f g [] same = refl
body_state_same f g (o ∷ os) same =
    ap₂ (λ a b. a + b) (here (sort_of o.kind)) (body_state_same f g os (λ s there. same s (In-append_right s (called_by (instance_in o.kind)) (callee_symbols os) there)))
  where
    here : Sort o.kind → op_state f o ≡ op_state g o
    here (a_register x r i u) = simp (r, i)
    here (an_instance x r i u) =
        let named : In x.symbol (callee_symbols (o ∷ os)) = In-append_left x.symbol (called_by (instance_in o.kind)) (callee_symbols os) (simp i (inl refl)) in
        let equal : f x.symbol ≡ g x.symbol = same x.symbol named in
        simp (r, i) equal
    here (an_output r i u) = simp (r, i)
    here (a_made r i u) = simp (r, i)

module _ (d : Design) (h : Name → ℕ) (height : IsHeight (calls d) h) where
  state_steady : (m n : ℕ) (s : Name) → h s ≤ m → h s ≤ n → module_state m d s ≡ module_state n d s
  state_steady zero n s low also = let positive : h s ≡ suc _ = height s in absurd (omega arith)
  state_steady (suc m) zero s low also = let positive : h s ≡ suc _ = height s in absurd (omega arith)
  state_steady (suc m) (suc n) s low also =
      state_body (module_state m d) (find_module d s)
      ∙ body_state_same (module_state m d) (module_state n d) (body_of (find_module d s))
      (λ t named.
      let lower : h t < h s = FallsAlong-height (calls d) h height s t named in
      state_steady m n t (omega arith) (omega arith))
      ∙ sym (state_body (module_state n d) (find_module d s))

  -- at a depth that is enough for the module
  pub state_at_depth : (n : ℕ) (s : Name) → h s ≤ n → module_state n d s ≡ state d s
  state_at_depth n s low = state_steady n (suc (length d)) s low within
    where
      within : h s ≤ suc (length d)
      within = subst (λ k. h s ≤ suc k) (length-map d (λ (m : Module). m.symbol)) (height-le (calls d) (map (λ (m : Module). m.symbol) d) (calls_within d) h height s)

pub call_heights : (d : Design) → HasNoRecursion d → HasHeights (calls d)
call_heights d finite = HasHeights-acyclic (calls d) (map (λ (m : Module). m.symbol) d) (calls_within d) finite

-- ---- how many bits a list of registers holds

abbrev pub slots_width : List Slot → ℕ
slots_width [] = 0
slots_width (s ∷ ss) = held_width s.op + slots_width ss

slots_width-append : (xs ys : List Slot) → slots_width (xs ++ ys) ≡ slots_width xs + slots_width ys
slots_width-append [] ys = sym (zero-add (slots_width ys))
slots_width-append (s ∷ xs) ys = let rest : slots_width (xs ++ ys) ≡ slots_width xs + slots_width ys = slots_width-append xs ys in omega arith

body_width : (inner : Path → Name → List Slot) (count : Name → ℕ) → ((q : Path) (s : Name) → slots_width (inner q s) ≡ count s)
    → (p : Path) (u : ℕ) (os : List Op) → slots_width (body_registers inner p u os) ≡ body_state count os
body_width inner count same p u [] = refl
body_width inner count same p u (o ∷ os) =
    slots_width-append (op_registers inner p u o) (body_registers inner p (cond (is_instance o) (suc u) u) os)
    ∙ ap₂ (λ a b. a + b) (here (sort_of o.kind)) (body_width inner count same p (cond (is_instance o) (suc u) u) os)
  where
    here : Sort o.kind → slots_width (op_registers inner p u o) ≡ op_state count o
    here (a_register x r i w) = simp (r, i) (omega arith)
    here (an_instance x r i w) = simp (r, i) (same (u ∷ p) x.symbol)
    here (an_output r i w) = simp (r, i)
    here (a_made r i w) = simp (r, i)

pub registers_width : (d : Design) (n : ℕ) (p : Path) (s : Name) → slots_width (module_registers n d p s) ≡ module_state n d s
registers_width d zero p s = refl
registers_width d (suc n) p s =
    ap slots_width (registers_body (module_registers n d) p (find_module d s))
    ∙ body_width (module_registers n d) (module_state n d) (λ q t. registers_width d n q t) p 0 (body_of (find_module d s))
    ∙ sym (state_body (module_state n d) (find_module d s))

-- ---- the content of joined lists

pub map_slots-append : (each : Slot → Word → Word) (xs ys : List Slot) (c : Word)
    → map_slots each (xs ++ ys) c ≡ map_slots each xs c ++ map_slots each ys (drop (slots_width xs) c)
map_slots-append each [] ys c = refl
map_slots-append each (s ∷ xs) ys c =
    ap (λ rest. first (held_width s.op) (each s (first (held_width s.op) c)) ++ rest)
    (map_slots-append each xs ys (drop (held_width s.op) c)
    ∙ ap (λ rest. map_slots each xs (drop (held_width s.op) c) ++ map_slots each ys rest) (drop-drop (slots_width xs) (held_width s.op) c))
    ∙ sym append_assoc'
  where
    append_assoc' : (first (held_width s.op) (each s (first (held_width s.op) c)) ++ map_slots each xs (drop (held_width s.op) c)) ++ map_slots each ys (drop (held_width s.op + slots_width xs) c)
        ≡ first (held_width s.op) (each s (first (held_width s.op) c)) ++ (map_slots each xs (drop (held_width s.op) c) ++ map_slots each ys (drop (held_width s.op + slots_width xs) c))
    append_assoc' = rw append_assoc refl

-- ---- positions

pub body_state-append : (inner : Name → ℕ) (xs ys : List Op) → body_state inner (xs ++ ys) ≡ body_state inner xs + body_state inner ys
body_state-append inner [] ys = sym (zero-add (body_state inner ys))
body_state-append inner (o ∷ xs) ys = let rest : body_state inner (xs ++ ys) ≡ body_state inner xs + body_state inner ys = body_state-append inner xs ys in omega arith

-- the operations before an instance, by its number, are those before its position
pub before_position : (os : List Op) (j : ℕ) (o : Op) (x : Instance) → slice_get os j ≡ Some o → instance_in o.kind ≡ Some x
    → before_instance (length (instances (take j os))) os ≡ take j os
before_position [] j o x is inst = cc
before_position (y ∷ ys) zero o x is inst =
    let same : y ≡ o = cc in
    let inst' : instance_in y.kind ≡ Some x = ap (λ z. instance_in z.kind) same ∙ inst in
    simp inst'
before_position (y ∷ ys) (suc j) o x is inst = go (sort_of y.kind) (before_position ys j o x is inst)
  where
    go : Sort y.kind → before_instance (length (instances (take j ys))) ys ≡ take j ys
        → before_instance (length (instances (take (suc j) (y ∷ ys)))) (y ∷ ys) ≡ take (suc j) (y ∷ ys)
    go (a_register f r i u) rest = simp i (ap (λ xs. y ∷ xs) rest)
    go (an_instance n r i u) rest = simp i (ap (λ xs. y ∷ xs) rest)
    go (an_output r i u) rest = simp i (ap (λ xs. y ∷ xs) rest)
    go (a_made r i u) rest = simp i (ap (λ xs. y ∷ xs) rest)
