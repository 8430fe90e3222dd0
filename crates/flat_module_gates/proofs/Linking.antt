-- The gate lists of operations by positions are those of the nets of a flat module.
use Rattle.std.proofs.Common.{◌≡◌, ◌⊎◌, refl, sym, ap, ap₂, subst, ◌∙◌, ℕ, zero, suc, ◌+◌, ◌<◌, ◌==◌, ◌&&◌, Bool, true, false, cond, is_some, List, [], ◌∷◌, ◌++◌, map, flat_map, length, take, drop}
use Rattle.std.proofs.Common.{set, Option, Some, None, slice_get, slice_index_or, inl, inr, arith, append-nil, append_assoc, length-set, get_or-set_same, get_or-set_other, option_map}
use Rattle.std.proofs.lemmas.Option.{slice_get_within}
use Rattle.wiring.proofs.Equal.{suc_zero}
use Rattle.gates.specs.declared.signal.Signal.{Signal}
use Rattle.gates.specs.declared.signal.Gate.{Gate}
use Rattle.gates.specs.Build.{Build, Built, done, and_then}
use Rattle.hw_model.specs.Types.{Name, HwType, width}
use Rattle.hw_model.specs.Design.{Ref, Op, OpResult, Module, Design, instance_in, is_register, is_output_op, result_type}
use Rattle.hw_model.specs.Design.Ref.{port, result, undefined}
use Rattle.hw_model.specs.Kinds.{Kind}
use Rattle.hw_model.specs.Design.{register_form, is_output_kind}
use Rattle.hw_model.proofs.Sorts.{Sort, sort_of}
use Rattle.hw_model.proofs.Sorts.Sort.{a_register, an_instance, an_output, a_made}
use Rattle.hw_model.specs.Equality.{number_self, number_from}
use Rattle.hw_model.specs.Flat.{Net, net, source, held_width, width_of, body_state, state, held_of, made_of}
use Rattle.hw_model.specs.Flat.{Source}
use Rattle.hw_model.specs.Flat.Source.{held, op_result}
use Rattle.hw_model.specs.Meaning.{needs, needs_of}
use Rattle.operation_gates.specs.OperationGateLists.{gate_list_of}
use Rattle.net_gates.specs.NetGateLists.{with_net, nets_by}
use Rattle.net_gates.specs.RegisterGateLists.{source_of_signals}
use Rattle.flat_module_laws.proofs.FlatBodies.{no_instance}
use Rattle.flat_module_laws.proofs.FlatSources.{port_from, ResultFrom, result_is}
use Rattle.flat_module_laws.proofs.FlatSources.ResultFrom.{from_register, from_output, from_operands}
use Rattle.flat_module_gates.proofs.Loading.{start_is}
use Rattle.flat_module_gates.proofs.Building.{gate_list_given, length-none}
use Rattle.graphs.specs.Orders.{numbers_from}
use Rattle.flat_module_laws.specs.Sides.{port_nets, flat_nets, result_nets, result_number, IsFlat}
use Rattle.flat_module_gates.specs.FlatGateLists.{starts_from, word_at, gate_list_at, gate_list_in, op_gate_list, with_word, with_first, results_by}
use Rattle.flat_module_gates.specs.FlatSteps.{content_width}
use Rattle.hw_model.specs.Design.{Port}
use Rattle.hw_model.specs.Flat.{input_width, input_of}
use Rattle.hw_model.specs.Flat.Source.{nowhere, input}
use Rattle.flat_module_laws.proofs.Positions.{is_among}
use Rattle.flat_module_gates.specs.FlatGateLists.{after_port, word_over, words_over, no_words}
use Rattle.wiring.specs.Wiring.{In}

-- the signals of nets without paths are those of a table
abbrev pub Agree : (Net → List Signal) → List (List Signal) → List (List Signal) → Type 0
Agree signals ports results = (r : Ref) → signals (net [] r) ≡ word_at ports results r

agree_more : (signals : Net → List Signal) (ports results : List (List Signal)) (i : ℕ) (x : List Signal) → i < length results → Agree signals ports results
    → Agree (with_net (net [] (result i 0)) x signals) ports (set results i x)
agree_more signals ports results i x below agree (port j) = agree (port j)
agree_more signals ports results i x below agree undefined = agree undefined
agree_more signals ports results i x below agree (result j (suc k)) = go (j == i)
  where
    go : (a : Bool) → cond (a && (suc k == 0)) x (signals (net [] (result j (suc k)))) ≡ []
    go true = simp (suc_zero k) (agree (result j (suc k)))
    go false = agree (result j (suc k))
agree_more signals ports results i x below agree (result j zero) = go (j == i) refl
  where
    go : (a : Bool) → (j == i) ≡ a → cond (a && true) x (signals (net [] (result j 0))) ≡ slice_index_or (set results i x) j []
    go true is =
        let same : j ≡ i = number_from j i is in
        sym (ap (λ (n : ℕ). slice_index_or (set results i x) n []) same ∙ get_or-set_same results i x [] below)
    go false is = agree (result j 0) ∙ sym (get_or-set_other results i j x [] (λ same. (let self : (j == i) ≡ true = ap (λ (n : ℕ). j == n) (sym same) ∙ number_self j in cc)))

-- ---- one operation

-- an operation has one result, but an output has none
abbrev pub HasOne : Op → Type 0
HasOne o = ((is_output_op o ≡ true) × (o.results ≡ [])) ⊎ ((r : OpResult) × (o.results ≡ r ∷ []) × (is_output_op o ≡ false))

abbrev pub AreSingle : List Op → Type 0
AreSingle os = (i : ℕ) (o : Op) → slice_get os i ≡ Some o → HasOne o

-- without instances the content is that of the registers
pub content_is : (inner : Name → ℕ) (os : List Op) → ((i : ℕ) (o : Op) → slice_get os i ≡ Some o → instance_in o.kind ≡ None) → body_state inner os ≡ content_width os
content_is inner [] none = refl
content_is inner (o ∷ os) none = go (is_register o) refl (content_is inner os (λ i p at. none (suc i) p at))
  where
    alone : instance_in o.kind ≡ None
    alone = none 0 o refl

    go : (b : Bool) → is_register o ≡ b → body_state inner os ≡ content_width os → body_state inner (o ∷ os) ≡ content_width (o ∷ os)
    go true is rest = simp is (ap (λ (n : ℕ). held_width o + n) rest)
    go false is rest = simp (is, alone) (ap (λ (n : ℕ). 0 + n) rest)

taken_before : (os : List Op) (n i : ℕ) (o : Op) → slice_get (take n os) i ≡ Some o → slice_get os i ≡ Some o
taken_before [] zero i o at = cc
taken_before [] (suc n) i o at = cc
taken_before (y ∷ os) zero i o at = cc
taken_before (y ∷ os) (suc n) zero o at = at
taken_before (y ∷ os) (suc n) (suc i) o at = taken_before os n i o at

module _ (d : Design) (top : Name) (m : Module) (order : List ℕ) (flat : IsFlat d top m order) (ins content : List Signal) where
  -- the gate list of an operation's first result, by where it comes from
  op_gate_list_is : (signals : Net → List Signal) (ports results : List (List Signal)) → Agree signals ports results → (i : ℕ) (o : Op) → slice_get m.body i ≡ Some o
      → (t : HwType) → result_type o 0 ≡ Some t → is_output_op o ≡ false
      → source_of_signals ins content (source d top (net [] (result i 0))) (map signals (needs d top (net [] (result i 0)))) ≡ gate_list_at m.body content (word_at ports results) i
  op_gate_list_is signals ports results agree i o at t typed given = go (result_is d top m order flat i o at 0)
    where
      width_is : held_width o ≡ width t
      width_is = ap width_of typed

      begins : slice_index_or (starts_from 0 m.body) i 0 ≡ 0 + body_state (state d) (take i m.body)
      begins =
          start_is m.body 0 i (slice_get_within m.body i o at)
          ∙ ap (λ (n : ℕ). 0 + n)
          (sym (content_is (state d) (take i m.body) (λ j p there. no_instance d top m order flat j p (taken_before m.body i j p there))))

      here : gate_list_at m.body content (word_at ports results) i ≡ op_gate_list content (word_at ports results) (slice_index_or (starts_from 0 m.body) i 0) o
      here = ap (gate_list_in content (word_at ports results) (slice_index_or (starts_from 0 m.body) i 0)) at

      by_source : (s : Source) → source d top (net [] (result i 0)) ≡ s → source_of_signals ins content s (map signals (needs_of s)) ≡ gate_list_at m.body content (word_at ports results) i
          → source_of_signals ins content (source d top (net [] (result i 0))) (map signals (needs d top (net [] (result i 0)))) ≡ gate_list_at m.body content (word_at ports results) i
      by_source s from is = ap (λ z. source_of_signals ins content z (map signals (needs_of z))) from ∙ is

      words_agree : (rs : List Ref) → map signals (map (net []) rs) ≡ map (word_at ports results) rs
      words_agree [] = refl
      words_agree (r ∷ rs) = ap₂ (λ (x : List Signal) (xs : List (List Signal)). x ∷ xs) (agree r) (words_agree rs)

      go : ResultFrom d top m order flat i o at 0 → source_of_signals ins content (source d top (net [] (result i 0))) (map signals (needs d top (net [] (result i 0)))) ≡ gate_list_at m.body content (word_at ports results) i
      go (from_register f is from) =
          by_source (held (0 + body_state (state d) (take i m.body)) (width t)) (from ∙ ap (held_of (0 + body_state (state d) (take i m.body))) typed)
          (ap₂ (λ (w n : ℕ). done (take w (drop n content))) (sym width_is) (sym begins) ∙ sym (here ∙ simp is refl))
      go (from_output u from) = absurd (let no : true ≡ false = sym u ∙ given in cc)
      go (from_operands r n u from) =
          by_source (op_result o.kind o.types t 0 (map (net []) o.operands)) (from ∙ ap (made_of [] o 0) typed)
          (ap₂ (λ (w : ℕ) (xs : List (List Signal)). gate_list_of o.kind w xs) (sym width_is) (words_agree o.operands) ∙ sym (here ∙ simp (r, u) refl))

-- ---- operation by operation

-- what nets build and what positions build: the same gates, and the same signals
pub record Linked (ports : List (List Signal)) (a : Built (Net → List Signal)) (b : Built (List (List Signal))) : Type 0 where
  pub gates : a.gates ≡ b.gates
  pub words : Agree a.got ports b.got

linked_then : (ports : List (List Signal)) (p q : Build (List Signal)) (f : List Signal → Build (Net → List Signal)) (g : List Signal → Build (List (List Signal))) (n : ℕ) (gates : List Gate)
    → p ≡ q → ((x : List Signal) (hs : List Gate) → Linked ports (f x n hs) (g x n hs)) → Linked ports (and_then p f n gates) (and_then q g n gates)
unfolding and_then
linked_then ports p q f g n gates same each =
    subst (λ z. Linked ports (and_then p f n gates) (and_then z g n gates)) same
    (let rest = each (p n gates).got (gates ++ (p n gates).gates) in
    record { gates = ap (λ (hs : List Gate). (p n gates).gates ++ hs) rest.gates; words = rest.words })

linked_done : (ports : List (List Signal)) (a : Built (Net → List Signal)) (q : Build (List Signal)) (g : List Signal → Build (List (List Signal))) (n : ℕ) (gates : List Gate)
    → q ≡ done [] → Linked ports a (g [] n gates) → Linked ports a (and_then q g n gates)
unfolding and_then done
linked_done ports a q g n gates same linked =
    subst (λ z. Linked ports a (and_then z g n gates)) (sym same)
    (let at : g [] n (gates ++ []) ≡ g [] n gates = ap (λ (hs : List Gate). g [] n hs) (append-nil gates) in
    subst (λ z. Linked ports a (record { gates = z.gates; got = z.got })) (sym at) linked)

output_free : (k : Kind) → is_output_kind k ≡ true → is_some (register_form k) ≡ false
output_free k is = go (sort_of k)
  where
    go : Sort k → is_some (register_form k) ≡ false
    go (a_register f r n u) = absurd (let no : true ≡ false = sym is ∙ u in cc)
    go (an_instance x r n u) = ap is_some r
    go (an_output r n u) = ap is_some r
    go (a_made r n u) = ap is_some r

module _ (d : Design) (top : Name) (m : Module) (order : List ℕ) (flat : IsFlat d top m order) (single : AreSingle m.body) (ins content : List Signal)
    (ports : List (List Signal)) where
  abbrev by_nets : List ℕ → (Net → List Signal) → Build (Net → List Signal)
  by_nets is signals = nets_by (source_of_signals ins content) d top (flat_map (result_nets m.body) is) signals

  linked_more : (is : List ℕ) (i : ℕ) (signals : Net → List Signal) (results : List (List Signal)) (n : ℕ) (gates : List Gate) → Agree signals ports results → length results ≡ length m.body
      → ((signals' : Net → List Signal) (results' : List (List Signal)) (hs : List Gate) → Agree signals' ports results' → length results' ≡ length m.body
      → Linked ports (by_nets is signals' n hs) (results_by m.body content ports is results' n hs))
      → Linked ports (by_nets (i ∷ is) signals n gates) (results_by m.body content ports (i ∷ is) results n gates)
  unfolding nets_by results_by
  linked_more is i signals results n gates agree long rest = by (slice_get m.body i) refl
    where
      gate_list : Build (List Signal)
      gate_list = gate_list_at m.body content (word_at ports results) i

      none : (y : Option Op) → slice_get m.body i ≡ y → result_number y ≡ 0 → gate_list ≡ done [] → ((x : List Signal) → with_word y i x results ≡ results)
          → Linked ports (by_nets (i ∷ is) signals n gates) (results_by m.body content ports (i ∷ is) results n gates)
      none y at empty given stays =
          let nets : result_nets m.body i ≡ [] = ap (λ (k : ℕ). map (λ j. net [] (result i j)) (numbers_from 0 k)) (ap result_number at ∙ empty) in
          let same : with_word (slice_get m.body i) i [] results ≡ results = ap (λ (z : Option Op). with_word z i [] results) at ∙ stays [] in
          subst (λ ns. Linked ports (nets_by (source_of_signals ins content) d top (ns ++ flat_map (result_nets m.body) is) signals n gates) (results_by m.body content ports (i ∷ is) results n gates)) (sym nets)
          (linked_done ports _ gate_list (λ x. results_by m.body content ports is (with_word (slice_get m.body i) i x results)) n gates given
          (subst (λ rs. Linked ports (by_nets is signals n gates) (results_by m.body content ports is rs n gates)) (sym same) (rest signals results gates agree long)))

      some : (o : Op) → slice_get m.body i ≡ Some o → (r : OpResult) → o.results ≡ r ∷ [] → is_output_op o ≡ false
          → Linked ports (by_nets (i ∷ is) signals n gates) (results_by m.body content ports (i ∷ is) results n gates)
      some o at r one given =
          let nets : result_nets m.body i ≡ net [] (result i 0) ∷ [] = ap (λ (k : ℕ). map (λ j. net [] (result i j)) (numbers_from 0 k)) (ap result_number at ∙ ap length one) in
          let typed : result_type o 0 ≡ Some r.type = ap (λ (rs : List OpResult). option_map (λ (z : OpResult). z.type) (slice_get rs 0)) one in
          let below : i < length results = (let there : i < length m.body = slice_get_within m.body i o at in omega (arith, there, long)) in
          subst (λ ns. Linked ports (nets_by (source_of_signals ins content) d top (ns ++ flat_map (result_nets m.body) is) signals n gates) (results_by m.body content ports (i ∷ is) results n gates)) (sym nets)
          (linked_then ports _ gate_list (λ x. by_nets is (with_net (net [] (result i 0)) x signals)) (λ x. results_by m.body content ports is (with_word (slice_get m.body i) i x results)) n gates
          (op_gate_list_is d top m order flat ins content signals ports results agree i o at r.type typed given)
          (λ x hs.
          let same : with_word (slice_get m.body i) i x results ≡ set results i x = ap (λ (z : Option Op). with_word z i x results) at ∙ ap (λ (rs : List OpResult). with_first rs i x results) one in
          subst (λ rs. Linked ports (by_nets is (with_net (net [] (result i 0)) x signals) n hs) (results_by m.body content ports is rs n hs)) (sym same)
          (rest (with_net (net [] (result i 0)) x signals) (set results i x) hs (agree_more signals ports results i x below agree) (length-set results i x ∙ long))))

      by : (y : Option Op) → slice_get m.body i ≡ y → Linked ports (by_nets (i ∷ is) signals n gates) (results_by m.body content ports (i ∷ is) results n gates)
      by None at = none None at refl (ap (gate_list_in content (word_at ports results) (slice_index_or (starts_from 0 m.body) i 0)) at) (λ x. refl)
      by (Some o) at = by_one (single i o at)
        where
          by_one : HasOne o → Linked ports (by_nets (i ∷ is) signals n gates) (results_by m.body content ports (i ∷ is) results n gates)
          by_one (inl (given, empty)) =
              none (Some o) at (ap length empty) (gate_list_given m.body content (word_at ports results) i o at (output_free o.kind given) given)
              (λ x. ap (λ (rs : List OpResult). with_first rs i x results) empty)
          by_one (inr (r, one, given)) = some o at r one given

  pub linked : (is : List ℕ) (signals : Net → List Signal) (results : List (List Signal)) (n : ℕ) (gates : List Gate) → Agree signals ports results → length results ≡ length m.body
      → Linked ports (by_nets is signals n gates) (results_by m.body content ports is results n gates)
  unfolding nets_by results_by done
  linked [] signals results n gates agree long = record { gates = refl; words = agree }
  linked (i ∷ is) signals results n gates agree long = linked_more is i signals results n gates agree long (λ s r hs a l. linked is s r n hs a l)

-- ---- ports

-- the signals of a port that may be there
abbrev pub word_of_port : List Signal → ℕ → Option Port → List Signal
word_of_port ins start None = []
word_of_port ins start (Some p) = word_over ins start p

pub words_over_at : (ins : List Signal) (ps : List Port) (start k : ℕ)
    → slice_index_or (words_over ins start ps) k [] ≡ word_of_port ins (start + input_width (take k ps)) (slice_get ps k)
words_over_at ins [] start k = refl
words_over_at ins (p ∷ ps) start zero = let same : start ≡ start + 0 = omega arith in ap (λ (n : ℕ). word_over ins n p) same
words_over_at ins (p ∷ ps) start (suc k) = words_over_at ins ps (after_port start p) k ∙ ap (λ (n : ℕ). word_of_port ins n (slice_get ps k)) (go p.is_output)
  where
    go : (b : Bool) → cond b start (start + width p.type) + input_width (take k ps) ≡ start + cond b (input_width (take k ps)) (width p.type + input_width (take k ps))
    go true = refl
    go false = omega arith

module _ (d : Design) (top : Name) (m : Module) (order : List ℕ) (flat : IsFlat d top m order) (ins content : List Signal) where
  port_gate_list_is : (signals : Net → List Signal) (j : ℕ)
      → source_of_signals ins content (source d top (net [] (port j))) (map signals (needs d top (net [] (port j)))) ≡ done (word_of_port ins (input_width (take j m.ports)) (slice_get m.ports j))
  port_gate_list_is signals j =
      ap (λ z. source_of_signals ins content z (map signals (needs_of z))) (port_from d top m order flat j) ∙ go (slice_get m.ports j)
    where
      start : ℕ
      start = input_width (take j m.ports)

      go : (y : Option Port) → source_of_signals ins content (input_of y start) (map signals (needs_of (input_of y start))) ≡ done (word_of_port ins start y)
      go None = refl
      go (Some p) = by p.is_output
        where
          by : (b : Bool) → source_of_signals ins content (cond b nowhere (input start (width p.type))) (map signals (needs_of (cond b nowhere (input start (width p.type))))) ≡ done (cond b [] (take (width p.type) (drop start ins)))
          by true = refl
          by false = refl

  abbrev pub word_of : ℕ → List Signal
  word_of k = word_of_port ins (input_width (take k m.ports)) (slice_get m.ports k)

  -- the signals of ports are known but of those left, and no others are
  pub record PortsKnown (left : List ℕ) (signals : Net → List Signal) : Type 0 where
    pub ports : (k : ℕ) → (signals (net [] (port k)) ≡ word_of k) ⊎ In k left
    pub results : (i k : ℕ) → signals (net [] (result i k)) ≡ []
    pub nothing : signals (net [] undefined) ≡ []

  known_more : (j : ℕ) (left : List ℕ) (signals : Net → List Signal) → PortsKnown (j ∷ left) signals → PortsKnown left (with_net (net [] (port j)) (word_of j) signals)
  known_more j left signals known = record { ports = λ k. go k (k == j) refl (known.ports k); results = known.results; nothing = known.nothing }
    where
      go : (k : ℕ) (b : Bool) → (k == j) ≡ b → (signals (net [] (port k)) ≡ word_of k) ⊎ In k (j ∷ left)
          → (cond (k == j) (word_of j) (signals (net [] (port k))) ≡ word_of k) ⊎ In k left
      go k true is had = inl (let same : j ≡ k = sym (number_from k j is) in simp is (ap word_of same))
      go k false is (inl had) = inl (simp is had)
      go k false is (inr (inl same)) = absurd (let self : (k == j) ≡ true = ap (λ (n : ℕ). k == n) (sym same) ∙ number_self k in let no : true ≡ false = sym self ∙ is in cc)
      go k false is (inr (inr there)) = inr there

  pub ports_linked : (js : List ℕ) (signals : Net → List Signal) (n : ℕ) (gates : List Gate) → PortsKnown js signals
      → ((nets_by (source_of_signals ins content) d top (map (λ k. net [] (port k)) js) signals n gates).gates ≡ [])
      × PortsKnown [] (nets_by (source_of_signals ins content) d top (map (λ k. net [] (port k)) js) signals n gates).got
  unfolding nets_by and_then done
  ports_linked [] signals n gates known = (refl, known)
  ports_linked (j ∷ js) signals n gates known =
      subst (λ p. ((and_then p (λ x. nets_by (source_of_signals ins content) d top (map (λ k. net [] (port k)) js) (with_net (net [] (port j)) x signals)) n gates).gates ≡ [])
      × PortsKnown [] (and_then p (λ x. nets_by (source_of_signals ins content) d top (map (λ k. net [] (port k)) js) (with_net (net [] (port j)) x signals)) n gates).got)
      (sym (port_gate_list_is signals j))
      (ports_linked js (with_net (net [] (port j)) (word_of j) signals) n (gates ++ []) (known_more j js signals known))

  -- at first no signals are known, and at last those of all ports
  pub known_first : PortsKnown (numbers_from 0 (length m.ports)) (λ a. [])
  known_first = record { ports = λ k. go k (slice_get m.ports k) refl; results = λ i k. refl; nothing = refl }
    where
      go : (k : ℕ) (y : Option Port) → slice_get m.ports k ≡ y → ([] ≡ word_of k) ⊎ In k (numbers_from 0 (length m.ports))
      go k None at = inl (sym (ap (word_of_port ins (input_width (take k m.ports))) at))
      go k (Some p) at = inr (is_among (length m.ports) k (slice_get_within m.ports k p at))

  pub known_last : (signals : Net → List Signal) (count : ℕ) → PortsKnown [] signals → Agree signals (words_over ins 0 m.ports) (no_words count)
  known_last signals count known (port k) =
      by (known.ports k) ∙ sym (words_over_at ins m.ports 0 k ∙ ap (λ (n : ℕ). word_of_port ins n (slice_get m.ports k)) (let none : 0 + input_width (take k m.ports) ≡ input_width (take k m.ports) = omega arith in none))
    where
      by : (signals (net [] (port k)) ≡ word_of k) ⊎ In k [] → signals (net [] (port k)) ≡ word_of k
      by (inl is) = is
      by (inr never) = absurd never
  known_last signals count known (result i zero) = known.results i 0 ∙ sym (no_word count i)
    where
      no_word : (n j : ℕ) → slice_index_or (no_words n) j [] ≡ []
      no_word zero j = refl
      no_word (suc n) zero = refl
      no_word (suc n) (suc j) = no_word n j
  known_last signals count known (result i (suc k)) = known.results i (suc k)
  known_last signals count known undefined = known.nothing

-- ---- all nets of a module

module _ (d : Design) (top : Name) (gate_list : Source → List (List Signal) → Build (List Signal)) where
  -- nets after others, from gates on
  record Joined (n : ℕ) (before : List Gate) (ms : List Net) (whole first : Built (Net → List Signal)) : Type 0 where
    gates : whole.gates ≡ first.gates ++ (nets_by gate_list d top ms first.got n (before ++ first.gates)).gates
    got : whole.got ≡ (nets_by gate_list d top ms first.got n (before ++ first.gates)).got

  nets_joined : (ns ms : List Net) (signals : Net → List Signal) (n : ℕ) (gates : List Gate)
      → Joined n gates ms (nets_by gate_list d top (ns ++ ms) signals n gates) (nets_by gate_list d top ns signals n gates)
  unfolding nets_by and_then done
  nets_joined [] ms signals n gates =
      let same : nets_by gate_list d top ms signals n gates ≡ nets_by gate_list d top ms signals n (gates ++ []) = ap (λ (hs : List Gate). nets_by gate_list d top ms signals n hs) (sym (append-nil gates)) in
      record { gates = ap (λ (b : Built (Net → List Signal)). b.gates) same; got = ap (λ (b : Built (Net → List Signal)). b.got) same }
  nets_joined (a ∷ ns) ms signals n gates =
      let one = gate_list (source d top a) (map signals (needs d top a)) n gates in
      let rest = nets_joined ns ms (with_net a one.got signals) n (gates ++ one.gates) in
      let first = nets_by gate_list d top ns (with_net a one.got signals) n (gates ++ one.gates) in
      let same : nets_by gate_list d top ms first.got n ((gates ++ one.gates) ++ first.gates) ≡ nets_by gate_list d top ms first.got n (gates ++ (one.gates ++ first.gates)) =
      ap (λ (hs : List Gate). nets_by gate_list d top ms first.got n hs) (append_assoc gates one.gates first.gates) in
      record {
        gates = ap (λ (hs : List Gate). one.gates ++ hs) (rest.gates ∙ ap (λ (b : Built (Net → List Signal)). first.gates ++ b.gates) same) ∙ sym (append_assoc one.gates first.gates _);
        got = rest.got ∙ ap (λ (b : Built (Net → List Signal)). b.got) same;
      }

module _ (d : Design) (top : Name) (m : Module) (order : List ℕ) (flat : IsFlat d top m order) (single : AreSingle m.body) (ins content : List Signal) where
  -- the nets of a flat module, by any list of positions, are built as its operations are
  pub nets_linked : (is : List ℕ) (n : ℕ) (gates : List Gate)
      → Linked (words_over ins 0 m.ports) (nets_by (source_of_signals ins content) d top (flat_nets m.ports m.body is) (λ a. []) n gates)
      (results_by m.body content (words_over ins 0 m.ports) is (no_words (length m.body)) n gates)
  nets_linked is n gates =
      let ms = flat_map (result_nets m.body) is in
      let joined = nets_joined d top (source_of_signals ins content) (port_nets m.ports) ms (λ a. []) n gates in
      let ports = ports_linked d top m order flat ins content (numbers_from 0 (length m.ports)) (λ a. []) n gates (known_first d top m order flat ins content) in
      let first = nets_by (source_of_signals ins content) d top (port_nets m.ports) (λ a. []) n gates in
      let none : gates ++ first.gates ≡ gates = ap (λ (hs : List Gate). gates ++ hs) ports.0 ∙ append-nil gates in
      let second = linked d top m order flat single ins content (words_over ins 0 m.ports) is first.got (no_words (length m.body)) n gates
      (known_last d top m order flat ins content first.got (length m.body) ports.1) (length-none (length m.body)) in
      let same : nets_by (source_of_signals ins content) d top ms first.got n (gates ++ first.gates) ≡ nets_by (source_of_signals ins content) d top ms first.got n gates =
      ap (λ (hs : List Gate). nets_by (source_of_signals ins content) d top ms first.got n hs) none in
      record {
        gates = joined.gates ∙ ap (λ (hs : List Gate). hs ++ (nets_by (source_of_signals ins content) d top ms first.got n (gates ++ first.gates)).gates) ports.0
            ∙ ap (λ (b : Built (Net → List Signal)). b.gates) same ∙ second.gates;
        words = λ r. ap (λ (f : Net → List Signal). f (net [] r)) (joined.got ∙ ap (λ (b : Built (Net → List Signal)). b.got) same) ∙ second.words r;
      }
