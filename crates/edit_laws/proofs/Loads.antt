-- What registers hold, where some of them load in another way: each takes its content where its net takes its value.
use Rattle.std.proofs.Common.{◌≡◌, ℕ, zero, suc, ◌+◌, ◌≤◌, ◌<◌, Bool, true, false, cond, List, [], ◌∷◌, ◌++◌, length, take, drop, slice_get, is_some, Option, Some, None, refl, sym, ap, ap₂, subst}
use Rattle.std.proofs.Common.{◌∙◌, inl, arith, add-zero, length-append, option_and_then}
use Rattle.std.proofs.lemmas.List.{drop-drop}
use Rattle.std.proofs.lemmas.List.Elements.{filter-append}
use Rattle.wiring.specs.Wiring.{In, IsHeight}
use Rattle.wiring.proofs.Lists.{take-suc_some, drop_some, slice_get-drop}
use Rattle.wiring.proofs.Members.{In-append_left, In-append_right}
use Rattle.wiring.proofs.Heights.{FallsAlong-height}
use Rattle.bits_core.specs.Word.{Word, first}
use Rattle.hw_model.specs.Types.{Name, HwType}
use Rattle.hw_model.specs.Kinds.{Instance}
use Rattle.hw_model.specs.Design.{Op, Design, find_module, instance_in, is_instance, is_register, result_type, callee}
use Rattle.hw_model.specs.Design.Ref.{result}
use Rattle.hw_model.specs.Flat.{Path, Net, net, Slot, instances, module_at, body_state, op_state, state, base, width_of, held_of, held_width, source, instance_registers, op_registers, body_registers, module_registers}
use Rattle.hw_model.specs.Meaning.{map_slots}
use Rattle.hw_model.specs.Hierarchy.{callee_symbols, called_by, calls}
use Rattle.hw_model.specs.Sound.{body_of, ports_of}
use Rattle.hw_model.proofs.Sorts.{Sort, sort_of, instance_found}
use Rattle.hw_model.proofs.Sorts.Sort.{a_register, an_instance, an_output, a_made}
use Rattle.hw_model.proofs.Paths.{module_inside, before_body, registers_body, op_in, result_in, result_here}
use Rattle.hw_model.proofs.Content.{state_at_depth, slots_width, registers_width, map_slots-append, body_state-append, before_position}
use Rattle.edit_laws.proofs.OtherOperands.{reads}
use Rattle.edit_laws.proofs.Twins.Twin.{one, two}
use Rattle.edit_laws.proofs.Twins.{Twin, Twins, twin_instance, twin_state}
use Rattle.edit_laws.proofs.Registers.{Reregistered, module_state_same, twins_of, instances_same}

called_position : (os : List Op) (j : ℕ) (o : Op) (i : Instance) → slice_get os j ≡ Some o → instance_in o.kind ≡ Some i → In i.symbol (callee_symbols os)
called_position [] j o i is inst = cc
called_position (y ∷ ys) zero o i is inst =
    let same : y ≡ o = cc in
    let kind : instance_in y.kind ≡ Some i = ap (λ z. instance_in z.kind) same ∙ inst in
    In-append_left i.symbol (called_by (instance_in y.kind)) (callee_symbols ys) (simp kind (inl refl))
called_position (y ∷ ys) (suc j) o i is inst = In-append_right i.symbol (called_by (instance_in y.kind)) (callee_symbols ys) (called_position ys j o i is inst)

-- how many instances stand before the next position
count_next : (os : List Op) (j : ℕ) (o : Op) → slice_get os j ≡ Some o
    → cond (is_instance o) (suc (length (instances (take j os)))) (length (instances (take j os))) ≡ length (instances (take (suc j) os))
count_next os j o is =
    go (is_instance o) refl
    ∙ sym (ap (λ xs. length (instances xs)) (take-suc_some os j o is) ∙ ap length (filter-append is_instance (take j os) (o ∷ []))
    ∙ length-append (instances (take j os)) (instances (o ∷ [])))
  where
    go : (b : Bool) → is_instance o ≡ b → cond (is_instance o) (suc (length (instances (take j os)))) (length (instances (take j os)))
        ≡ length (instances (take j os)) + length (instances (o ∷ []))
    go true here = rw here (omega arith)
    go false here = rw here (omega arith)

-- a register's net has the word that it holds
pub held_value : (d : Design) (top : Name) (inputs content : Word) (ρ : Net → Word) → ((a : Net) → ρ a ≡ reads inputs content ρ (source d top a))
    → (p : Path) (j : ℕ) (o : Op) → slice_get (body_of (module_at d top p)) j ≡ Some o → is_register o ≡ true
    → ρ (net p (result j 0)) ≡ first (held_width o) (drop (base d top p + body_state (state d) (take j (body_of (module_at d top p)))) content)
held_value d top inputs content ρ settled p j o is register =
    settled (net p (result j 0)) ∙ ap (reads inputs content ρ) (result_here d top p j 0 ∙ ap (result_in d top p (body_of (module_at d top p)) j 0) is ∙ chosen)
    ∙ go (result_type o 0)
  where
    start : ℕ
    start = base d top p + body_state (state d) (take j (body_of (module_at d top p)))

    chosen : op_in d top p (body_of (module_at d top p)) j 0 o ≡ held_of (base d top p + body_state (state d) (take j (body_of (module_at d top p)))) (result_type o 0)
    chosen = rw register refl

    go : (t : Option HwType) → reads inputs content ρ (held_of (base d top p + body_state (state d) (take j (body_of (module_at d top p)))) t)
        ≡ first (width_of t) (drop (base d top p + body_state (state d) (take j (body_of (module_at d top p)))) content)
    go None = refl
    go (Some t) = refl

-- `gives` says what a slot holds from what it held, and gives the same for the registers at one position of both designs
module _ (d d' : Design) (none : Reregistered None None) (each : (s : Name) → Reregistered (find_module d s) (find_module d' s)) (same : length d' ≡ length d) (top : Name)
    (h : Name → ℕ) (height : IsHeight (calls d) h) (content : Word) (gives : Slot → Word → Word)
    (alike : (p : Path) (j : ℕ) (o o' : Op) → slice_get (body_of (module_at d top p)) j ≡ Some o → Twin (ports_of (module_at d top p)) (body_of (module_at d top p)) j o o'
    → gives (record { path = p; op = o' }) (first (held_width o) (drop (base d top p + body_state (state d) (take j (body_of (module_at d top p)))) content))
    ≡ gives (record { path = p; op = o }) (first (held_width o) (drop (base d top p + body_state (state d) (take j (body_of (module_at d top p)))) content))) where
  -- what the registers of the module of a symbol at the end of a path give is the same
  abbrev Same_at : ℕ → Path → Name → Type 0
  Same_at n p s = map_slots gives (module_registers n d' p s) (drop (base d top p) content) ≡ map_slots gives (module_registers n d p s) (drop (base d top p) content)

  module _ (n : ℕ) (p : Path)
      (inner : (u : ℕ) (i : Instance) → In i.symbol (callee_symbols (body_of (module_at d top p))) → module_at d top (u ∷ p) ≡ find_module d i.symbol → module_at d' top (u ∷ p) ≡ find_module d' i.symbol → Same_at n (u ∷ p) i.symbol)
      (deep : (t : Name) → In t (callee_symbols (body_of (module_at d top p))) → h t ≤ n) where
    abbrev body : List Op
    body = body_of (module_at d top p)

    abbrev start : ℕ → ℕ
    start j = base d top p + body_state (state d) (take j (body_of (module_at d top p)))

    abbrev count : ℕ → ℕ
    count j = length (instances (take j (body_of (module_at d top p))))

    width_old : (j : ℕ) (o : Op) → slice_get body j ≡ Some o → slots_width (op_registers (module_registers n d) p (count j) o) ≡ op_state (state d) o
    width_old j o is = go (sort_of o.kind)
      where
        go : Sort o.kind → slots_width (op_registers (module_registers n d) p (count j) o) ≡ op_state (state d) o
        go (a_register f r i w) = simp (r, i) (omega arith)
        go (an_instance x r i w) =
            simp (r, i) (registers_width d n (count j ∷ p) x.symbol ∙ state_at_depth d h height n x.symbol (deep x.symbol (called_position body j o x is i)))
        go (an_output r i w) = simp (r, i)
        go (a_made r i w) = simp (r, i)

    width_new : (j : ℕ) (o o' : Op) → slice_get body j ≡ Some o → Twin (ports_of (module_at d top p)) body j o o'
        → slots_width (op_registers (module_registers n d') p (count j) o') ≡ op_state (state d) o
    width_new j o o' is twin = go (sort_of o'.kind) ∙ twin_state (ports_of (module_at d top p)) body (state d) j o o' twin
      where
        go : Sort o'.kind → slots_width (op_registers (module_registers n d') p (count j) o') ≡ op_state (state d) o'
        go (a_register f r i w) = simp (r, i) (omega arith)
        go (an_instance x r i w) =
            simp (r, i) (registers_width d' n (count j ∷ p) x.symbol ∙ module_state_same d d' none each same n x.symbol
            ∙ state_at_depth d h height n x.symbol (deep x.symbol (called_position body j o x is (sym (twin_instance (ports_of (module_at d top p)) body j o o' twin) ∙ i))))
        go (an_output r i w) = simp (r, i)
        go (a_made r i w) = simp (r, i)

    -- the registers of one operation
    op_same : (j : ℕ) (o o' : Op) → slice_get body j ≡ Some o → Twin (ports_of (module_at d top p)) body j o o'
        → map_slots gives (op_registers (module_registers n d') p (count j) o') (drop (start j) content) ≡ map_slots gives (op_registers (module_registers n d) p (count j) o) (drop (start j) content)
    op_same j o o' is (one equal) =
        ap (λ x. map_slots gives (op_registers (module_registers n d') p (count j) x) (drop (start j) content)) equal ∙ go (sort_of o.kind)
      where
        by_instance : (x : Instance) → instance_in o.kind ≡ Some x
            → map_slots gives (module_registers n d' (count j ∷ p) x.symbol) (drop (start j) content) ≡ map_slots gives (module_registers n d (count j ∷ p) x.symbol) (drop (start j) content)
        by_instance x i =
            let at_j : slice_get (instances body) (count j) ≡ Some o = instance_found body j o x is i in
            let at_j' : slice_get (instances (body_of (module_at d' top p))) (count j) ≡ Some o = ap (λ xs. slice_get xs (count j)) (instances_same d d' none each same top p) ∙ at_j in
            let there : module_at d top (count j ∷ p) ≡ find_module d x.symbol =
            module_inside d (count j) (module_at d top p) ∙ ap (λ y. option_and_then (callee d) y) at_j ∙ ap (λ y. option_and_then (λ (z : Instance). find_module d z.symbol) y) i in
            let there' : module_at d' top (count j ∷ p) ≡ find_module d' x.symbol =
            module_inside d' (count j) (module_at d' top p) ∙ ap (λ y. option_and_then (callee d') y) at_j' ∙ ap (λ y. option_and_then (λ (z : Instance). find_module d' z.symbol) y) i in
            let from : base d top (count j ∷ p) ≡ start j =
            ap (λ k. base d top p + k) (before_body d (count j) (module_at d top p) ∙ ap (body_state (state d)) (before_position body j o x is i)) in
            subst (λ k. map_slots gives (module_registers n d' (count j ∷ p) x.symbol) (drop k content) ≡ map_slots gives (module_registers n d (count j ∷ p) x.symbol) (drop k content)) from
            (inner (count j) x (called_position body j o x is i) there there')

        go : Sort o.kind → map_slots gives (op_registers (module_registers n d') p (count j) o) (drop (start j) content) ≡ map_slots gives (op_registers (module_registers n d) p (count j) o) (drop (start j) content)
        go (a_register f r i w) = simp (r, i)
        go (an_instance x r i w) = simp (r, i) (by_instance x i)
        go (an_output r i w) = simp (r, i)
        go (a_made r i w) = simp (r, i)
    op_same j o o' is (two old new types resets loads) =
        ap (λ b. map_slots gives (cond b (record { path = p; op = o' } ∷ []) (instance_registers (module_registers n d') p (count j) (instance_in o'.kind))) (drop (start j) content)) new
        ∙ ap (λ w. first w (gives (record { path = p; op = o' }) (first w (drop (start j) content))) ++ []) (ap width_of (types 0))
        ∙ ap (λ x. first (held_width o) x ++ []) (alike p j o o' is (two old new types resets loads))
        ∙ sym (ap (λ b. map_slots gives (cond b (record { path = p; op = o } ∷ []) (instance_registers (module_registers n d) p (count j) (instance_in o.kind))) (drop (start j) content)) old)

    -- the registers of the body from a position on
    along : (os os' : List Op) (j : ℕ) → drop j body ≡ os → Twins (ports_of (module_at d top p)) body j os os'
        → map_slots gives (body_registers (module_registers n d') p (count j) os') (drop (start j) content) ≡ map_slots gives (body_registers (module_registers n d) p (count j) os) (drop (start j) content)
    along [] [] j is twins = refl
    along [] (o' ∷ os') j is twins = absurd twins
    along (o ∷ os) [] j is twins = absurd twins
    along (o ∷ os) (o' ∷ os') j is (twin, twins) =
        map_slots-append gives (op_registers (module_registers n d') p (count j) o') (body_registers (module_registers n d') p (cond (is_instance o') (suc (count j)) (count j)) os') (drop (start j) content)
        ∙ ap₂ (λ x y. x ++ y) (op_same j o o' here twin)
        (ap₂ (λ u c. map_slots gives (body_registers (module_registers n d') p u os') c) count' (pointer (slots_width (op_registers (module_registers n d') p (count j) o')) (width_new j o o' here twin))
        ∙ along os os' (suc j) rest twins
        ∙ sym (ap₂ (λ u c. map_slots gives (body_registers (module_registers n d) p u os) c) (count_next body j o here) (pointer (slots_width (op_registers (module_registers n d) p (count j) o)) (width_old j o here))))
        ∙ sym (map_slots-append gives (op_registers (module_registers n d) p (count j) o) (body_registers (module_registers n d) p (cond (is_instance o) (suc (count j)) (count j)) os) (drop (start j) content))
      where
        here : slice_get body j ≡ Some o
        here = ap (slice_get body) (sym (add-zero j)) ∙ sym (slice_get-drop j body 0) ∙ ap (λ xs. slice_get xs 0) is

        rest : drop (suc j) body ≡ os
        rest = let both : o ∷ os ≡ o ∷ drop (suc j) body = sym is ∙ drop_some body j o here in cc

        count' : cond (is_instance o') (suc (count j)) (count j) ≡ count (suc j)
        count' = ap (λ b. cond b (suc (count j)) (count j)) (ap is_some (twin_instance (ports_of (module_at d top p)) body j o o' twin)) ∙ count_next body j o here

        further : start j + op_state (state d) o ≡ start (suc j)
        further =
            let sum : body_state (state d) (take (suc j) body) ≡ body_state (state d) (take j body) + body_state (state d) (o ∷ []) =
            ap (body_state (state d)) (take-suc_some body j o here) ∙ body_state-append (state d) (take j body) (o ∷ []) in
            omega arith

        pointer : (w : ℕ) → w ≡ op_state (state d) o → drop w (drop (start j) content) ≡ drop (start (suc j)) content
        pointer w is_w = drop-drop w (start j) content ∙ ap (λ k. drop k content) (ap (λ x. start j + x) is_w ∙ further)

  pub map_slots_same : (n : ℕ) (p : Path) (s : Name) → module_at d top p ≡ find_module d s → module_at d' top p ≡ find_module d' s → h s ≤ n → Same_at n p s
  map_slots_same zero p s is is' low = refl
  map_slots_same (suc n) p s is is' low =
      ap (λ ss. map_slots gives ss (drop (base d top p) content)) (registers_body (module_registers n d') p (find_module d' s) ∙ ap (λ o. body_registers (module_registers n d') p 0 (body_of o)) (sym is'))
      ∙ ap (λ k. map_slots gives (body_registers (module_registers n d') p 0 (body_of (module_at d' top p))) (drop k content)) (sym (add-zero (base d top p)))
      ∙ along n p (inner_same (λ q t. map_slots_same n q t)) deep (body_of (module_at d top p)) (body_of (module_at d' top p)) 0 refl (twins_of d d' none each same top p)
      ∙ ap (λ k. map_slots gives (body_registers (module_registers n d) p 0 (body_of (module_at d top p))) (drop k content)) (add-zero (base d top p))
      ∙ sym (ap (λ ss. map_slots gives ss (drop (base d top p) content)) (registers_body (module_registers n d) p (find_module d s) ∙ ap (λ o. body_registers (module_registers n d) p 0 (body_of o)) (sym is)))
    where
      deep : (t : Name) → In t (callee_symbols (body_of (module_at d top p))) → h t ≤ n
      deep t named =
          let need : In t (calls d s) = subst (λ o. In t (callee_symbols (body_of o))) is named in
          let lower : h t < h s = FallsAlong-height (calls d) h height s t need in
          omega arith

      inner_same : ((q : Path) (t : Name) → module_at d top q ≡ find_module d t → module_at d' top q ≡ find_module d' t → h t ≤ n → Same_at n q t)
          → (u : ℕ) (i : Instance) → In i.symbol (callee_symbols (body_of (module_at d top p))) → module_at d top (u ∷ p) ≡ find_module d i.symbol → module_at d' top (u ∷ p) ≡ find_module d' i.symbol
          → Same_at n (u ∷ p) i.symbol
      inner_same further u i named there there' = further (u ∷ p) i.symbol there there' (deep i.symbol named)
