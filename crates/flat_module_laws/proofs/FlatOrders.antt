-- The nets of a flat module stand in order, its outputs among them.
use Rattle.std.proofs.Common.{◌≡◌, refl, sym, ap, subst, ◌∙◌, ℕ, ◌+◌, ◌<◌, Bool, true, false, cond, is_some, List, [], ◌∷◌, ◌++◌, map, flat_map, length, take, slice_get, Option, Some, None, inl, inr}
use Rattle.std.proofs.lemmas.Option.{slice_get_within}
use Rattle.wiring.specs.Wiring.{In}
use Rattle.wiring.proofs.Members.{In-append_left, In-append_right, In-map, from_In-map, In-flat_map}
use Rattle.wiring.proofs.Options.{and_then_some, option_map_some}
use Rattle.hw_model.specs.Types.{Name, HwType, width}
use Rattle.hw_model.specs.Design.{Ref, Port, OpResult, Op, Module, Design, register_form, is_output_kind, result_type}
use Rattle.hw_model.specs.Design.Ref.{port, result, undefined}
use Rattle.hw_model.specs.Flat.{Net, net, Source, input_width, input_of, held_of, made_of, body_state, state, source}
use Rattle.hw_model.specs.Flat.Source.{nowhere, input}
use Rattle.hw_model.specs.Meaning.{needs_of, needs, outputs_of}
use Rattle.hw_model.specs.Sound.{input_type}
use Rattle.hw_model.proofs.Paths.{result_in}
use Rattle.net_gates.specs.NetOrder.{NeedsComeFirst, seen_after, OutputsAreAmong}
use Rattle.net_gates.proofs.Nets.{seen_stays, is_seen}
use Rattle.graphs.specs.Orders.{numbers_from}
use Rattle.flat_module_laws.specs.Orders.{IsSeen, ComesAfter, StandInOrder}
use Rattle.flat_module_laws.specs.Sides.{port_nets, result_number, result_nets, flat_nets, IsFlat}
use Rattle.flat_module_laws.proofs.Positions.{is_among, is_in_order}
use Rattle.flat_module_laws.proofs.FlatBodies.{IsThere, operand_there, output_there}
use Rattle.flat_module_laws.proofs.FlatSources.{port_from, result_from, ResultFrom, result_is}
use Rattle.flat_module_laws.proofs.FlatSources.ResultFrom.{from_register, from_output, from_operands}

no_input_needs : (y : Option Port) (start : ℕ) → needs_of (input_of y start) ≡ []
no_input_needs None start = refl
no_input_needs (Some p) start = go p.is_output
  where
    go : (b : Bool) → needs_of (cond b nowhere (input start (width p.type))) ≡ []
    go true = refl
    go false = refl

no_held_needs : (start : ℕ) (y : Option HwType) → needs_of (held_of start y) ≡ []
no_held_needs start None = refl
no_held_needs start (Some t) = refl

module _ (d : Design) (top : Name) where
  first_joined : (seen ns ms : List Net) → NeedsComeFirst d top seen ns → NeedsComeFirst d top (seen_after seen ns) ms → NeedsComeFirst d top seen (ns ++ ms)
  first_joined seen [] ms here rest = rest
  first_joined seen (n ∷ ns) ms here rest = (here.0, first_joined (n ∷ seen) ns ms here.1 rest)

  -- nets that need only what was seen before them all
  first_of_values : (f : ℕ → Ref) (js : List ℕ) (seen : List Net) → ((j : ℕ) (b : Net) → In b (needs d top (net [] (f j))) → In b seen)
      → NeedsComeFirst d top seen (map (λ j. net [] (f j)) js)
  first_of_values f [] seen have = tt
  first_of_values f (j ∷ js) seen have = (have j, first_of_values f js (net [] (f j) ∷ seen) (λ i b here. inr (have i b here)))

module _ (d : Design) (top : Name) (m : Module) (order : List ℕ) (flat : IsFlat d top m order) where
  -- the nets seen are those of ports and of results of operations at the positions seen
  record Covers (seen : List ℕ) (nets : List Net) : Type 0 where
    ports : (j : ℕ) (p : Port) → slice_get m.ports j ≡ Some p → In (net [] (port j)) nets
    results : (j k : ℕ) (o : Op) → In j seen → slice_get m.body j ≡ Some o → k < length o.results → In (net [] (result j k)) nets

  result_listed : (j k : ℕ) (o : Op) → slice_get m.body j ≡ Some o → k < length o.results → In (net [] (result j k)) (result_nets m.body j)
  result_listed j k o at below =
      In-map (λ i. net [] (result j i)) k (numbers_from 0 (result_number (slice_get m.body j)))
      (is_among (result_number (slice_get m.body j)) k (subst (λ y. k < result_number y) (sym at) below))

  port_listed : (j : ℕ) (p : Port) → slice_get m.ports j ≡ Some p → In (net [] (port j)) (port_nets m.ports)
  port_listed j p at = In-map (λ i. net [] (port i)) j (numbers_from 0 (length m.ports)) (is_among (length m.ports) j (slice_get_within m.ports j p at))

  -- a value that is there is covered, where its operation was seen
  value_covered : (seen : List ℕ) (nets : List Net) → Covers seen nets → (r : Ref) → IsThere m.ports m.body r → IsSeen seen r → In (net [] r) nets
  value_covered seen nets covers (port j) (t, typed) before = go (slice_get m.ports j) refl typed
    where
      go : (y : Option Port) → slice_get m.ports j ≡ y → input_type y ≡ Some t → In (net [] (port j)) nets
      go None at is = cc
      go (Some p) at is = covers.ports j p at
  value_covered seen nets covers (result j k) (t, typed) before =
      let found = and_then_some (slice_get m.body j) (λ (o : Op). result_type o k) typed in
      let one = option_map_some (λ (y : OpResult). y.type) (slice_get found.0.results k) found.2 in
      covers.results j k found.0 before found.1 (slice_get_within found.0.results k one.0 one.1)
  value_covered seen nets covers undefined (t, typed) before = cc

  -- ---- one operation

  module _ (seen : List ℕ) (nets : List Net) (covers : Covers seen nets) (i : ℕ) where
    needs_covered : (o : Op) → slice_get m.body i ≡ Some o → ComesAfter seen (Some o) → (k : ℕ) (b : Net) → In b (needs d top (net [] (result i k))) → In b nets
    needs_covered o at after k b here = go (result_is d top m order flat i o at k)
      where
        none : (s : Source) → source d top (net [] (result i k)) ≡ s → needs_of s ≡ [] → In b nets
        none s from empty = absurd (subst (In b) (ap needs_of from ∙ empty) here)

        by_operands : (r : register_form o.kind ≡ None) (u : is_output_kind o.kind ≡ false) → (y : Option HwType) → In b (needs_of (made_of [] o k y)) → In b nets
        by_operands r u None there = absurd there
        by_operands r u (Some t) there =
            let found = from_In-map (net []) b o.operands there in
            let known = operand_there d top m order flat i o at found.0 found.1 in
            let before : IsSeen seen found.0 = after (ap is_some r) u found.0 found.1 in
            subst (λ a. In a nets) (sym found.2) (value_covered seen nets covers found.0 known before)

        go : ResultFrom d top m order flat i o at k → In b nets
        go (from_register f is from) = none _ from (no_held_needs (0 + body_state (state d) (take i m.body)) (result_type o k))
        go (from_output u from) = none _ from refl
        go (from_operands r n u from) = by_operands r u (result_type o k) (subst (λ s. In b (needs_of s)) from here)

    results_first : (y : Option Op) → slice_get m.body i ≡ y → ComesAfter seen y → NeedsComeFirst d top nets (result_nets m.body i)
    results_first y at after =
        first_of_values d top (result i) (numbers_from 0 (result_number (slice_get m.body i))) nets (λ k b here. go y at after k b here)
      where
        go : (y : Option Op) → slice_get m.body i ≡ y → ComesAfter seen y → (k : ℕ) (b : Net) → In b (needs d top (net [] (result i k))) → In b nets
        go None at after k b here =
            absurd (subst (λ s. In b (needs_of s)) (result_from d top m order flat i k ∙ ap (result_in d top [] m.body i k) at) here)
        go (Some o) at after k b here = needs_covered o at after k b here

    covers_more : Covers (i ∷ seen) (seen_after nets (result_nets m.body i))
    covers_more = record {
      ports = λ j p at. seen_stays (result_nets m.body i) nets (net [] (port j)) (covers.ports j p at);
      results = λ j k o here at below. go j k o here at below;
    }
      where
        go : (j k : ℕ) (o : Op) → In j (i ∷ seen) → slice_get m.body j ≡ Some o → k < length o.results
            → In (net [] (result j k)) (seen_after nets (result_nets m.body i))
        go j k o (inl same) at below =
            is_seen (result_nets m.body i) nets (net [] (result j k)) (subst (λ n. In (net [] (result j k)) (result_nets m.body n)) same (result_listed j k o at below))
        go j k o (inr here) at below = seen_stays (result_nets m.body i) nets (net [] (result j k)) (covers.results j k o here at below)

  -- ---- the module

  operations_first : (is seen : List ℕ) (nets : List Net) → Covers seen nets → StandInOrder m.body seen is → NeedsComeFirst d top nets (flat_map (result_nets m.body) is)
  operations_first [] seen nets covers stand = tt
  operations_first (i ∷ is) seen nets covers stand =
      first_joined d top nets (result_nets m.body i) (flat_map (result_nets m.body) is)
      (results_first seen nets covers i (slice_get m.body i) refl stand.0)
      (operations_first is (i ∷ seen) (seen_after nets (result_nets m.body i)) (covers_more seen nets covers i) stand.1)

  port_needs : (j : ℕ) (b : Net) → In b (needs d top (net [] (port j))) → In b []
  port_needs j b here =
      subst (In b) (ap needs_of (port_from d top m order flat j) ∙ no_input_needs (slice_get m.ports j) (input_width (take j m.ports))) here

  pub nets_first : NeedsComeFirst d top [] (flat_nets m.ports m.body order)
  nets_first =
      first_joined d top [] (port_nets m.ports) (flat_map (result_nets m.body) order)
      (first_of_values d top port (numbers_from 0 (length m.ports)) [] port_needs)
      (operations_first order [] (seen_after [] (port_nets m.ports)) covers_ports flat.stands.stand)
    where
      covers_ports : Covers [] (seen_after [] (port_nets m.ports))
      covers_ports = record {
        ports = λ j p at. is_seen (port_nets m.ports) [] (net [] (port j)) (port_listed j p at);
        results = λ j k o here at below. absurd here;
      }

  -- each value that is there is among the nets
  pub value_among : (r : Ref) → IsThere m.ports m.body r → In (net [] r) (flat_nets m.ports m.body order)
  value_among (port j) (t, typed) = by_port (slice_get m.ports j) refl typed
    where
      by_port : (y : Option Port) → slice_get m.ports j ≡ y → input_type y ≡ Some t → In (net [] (port j)) (flat_nets m.ports m.body order)
      by_port None at is = cc
      by_port (Some p) at is = In-append_left (net [] (port j)) (port_nets m.ports) (flat_map (result_nets m.body) order) (port_listed j p at)
  value_among (result j k) (t, typed) =
      let found = and_then_some (slice_get m.body j) (λ (o : Op). result_type o k) typed in
      let one = option_map_some (λ (y : OpResult). y.type) (slice_get found.0.results k) found.2 in
      let below : k < length found.0.results = slice_get_within found.0.results k one.0 one.1 in
      let placed : In j order = is_in_order (length m.body) order flat.stands.all j (slice_get_within m.body j found.0 found.1) in
      In-append_right (net [] (result j k)) (port_nets m.ports) (flat_map (result_nets m.body) order)
      (In-flat_map (result_nets m.body) j order (net [] (result j k)) placed (result_listed j k found.0 found.1 below))
  value_among undefined (t, typed) = cc

  pub outputs_among : OutputsAreAmong d top (flat_nets m.ports m.body order)
  outputs_among r here = value_among r (output_there d top m order flat r (subst (λ y. In r (outputs_of y)) flat.plain.found here))
