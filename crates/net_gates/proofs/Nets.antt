-- Each net's signals carry its word under a settled map.
use Rattle.std.proofs.Common.{◌≡◌, refl, sym, ap, subst, ◌∙◌, ℕ, ◌+◌, ◌≤◌, ◌==◌, Bool, true, false, cond, List, [], ◌∷◌, ◌++◌, map, length, drop, arith, length-append, inl, inr, le_trans}
use Rattle.wiring.specs.Wiring.{In}
use Rattle.bits_core.specs.Word.{Word, first}
use Rattle.gates.specs.declared.signal.Signal.{Signal}
use Rattle.gates.specs.Build.{Build}
use Rattle.gates.proofs.Carrying.{Carrying, Makes, makes-done, makes_then}
use Rattle.gate_words.proofs.Words.CarriesWord.{none}
use Rattle.gate_words.proofs.Words.{CarriesWord, IsWord, word_later, word_same}
use Rattle.hw_model.specs.Types.{Name}
use Rattle.hw_model.specs.Design.{Ref, Design, same_name, find_module}
use Rattle.hw_model.specs.Design.Ref.{port, result, undefined}
use Rattle.hw_model.specs.Equality.{name_self, name_from, number_self, number_from, both, both_of}
use Rattle.hw_model.specs.Flat.{Net, net, Source, source}
use Rattle.hw_model.specs.Flat.Source.{nowhere, input, held, copy, op_result}
use Rattle.hw_model.specs.Meaning.{needs, needs_of, value_of, Settled, outputs, outputs_of}
use Rattle.operation_gates.specs.OperationGateLists.{concatenation}
use Rattle.operation_gates.proofs.WordLists.CarriesWords.{no_words, one_more}
use Rattle.operation_gates.proofs.WordLists.{CarriesWords, word-joined}
use Rattle.operation_gates.proofs.KindGateLists.{makes-gate_list}
use Rattle.net_gates.specs.NetGateLists.{variables, same_ref, same_net, with_net, source_gate_list, nets_by, nets_gate_list, module_gate_list}
use Rattle.net_gates.specs.NetOrder.{NeedsComeFirst, seen_after, HasGateList, HaveGateLists, OutputsAreAmong}
use Rattle.net_gates.specs.NetPrices.{source_price, nets_price}
use Rattle.net_gates.proofs.InputWords.{CarriesInputs, first_inputs, drop_inputs}

-- ---- one net

ref_self : (r : Ref) → same_ref r r ≡ true
ref_self (port j) = number_self j
ref_self (result i k) = both (i == i) (k == k) (number_self i) (number_self k)
ref_self undefined = refl

ref_from : (r s : Ref) → same_ref r s ≡ true → r ≡ s
ref_from (port i) (port j) h = ap port (number_from i j h)
ref_from (port i) (result j l) h = cc
ref_from (port i) undefined h = cc
ref_from (result i k) (port j) h = cc
ref_from (result i k) (result j l) h =
    let p = both_of (i == j) (k == l) h in
    let e : i ≡ j = number_from i j p.0 in
    let f : k ≡ l = number_from k l p.1 in cc
ref_from (result i k) undefined h = cc
ref_from undefined (port j) h = cc
ref_from undefined (result j l) h = cc
ref_from undefined undefined h = refl

net_self : (a : Net) → same_net a a ≡ true
net_self a = both (same_name a.path a.path) (same_ref a.ref a.ref) (name_self a.path) (ref_self a.ref)

net_from : (a b : Net) → same_net a b ≡ true → a ≡ b
net_from a b h =
    let p = both_of (same_name a.path b.path) (same_ref a.ref b.ref) h in
    let e : a.path ≡ b.path = name_from a.path b.path p.0 in
    let f : a.ref ≡ b.ref = ref_from a.ref b.ref p.1 in
    ap (λ q. net q a.ref) e ∙ ap (net b.path) f

-- ---- what was seen

-- it stays so
pub seen_stays : (ns seen : List Net) (a : Net) → In a seen → In a (seen_after seen ns)
seen_stays [] seen a here = here
seen_stays (n ∷ ns) seen a here = seen_stays ns (n ∷ seen) a (inr here)

pub is_seen : (ns seen : List Net) (a : Net) → In a ns → In a (seen_after seen ns)
is_seen [] seen a here = absurd here
is_seen (n ∷ ns) seen a (inl e) = seen_stays ns (n ∷ seen) a (inl e)
is_seen (n ∷ ns) seen a (inr here) = is_seen ns (n ∷ seen) a here

-- ---- the nets of a module

-- the signals of each net that was seen carry its word
abbrev pub HaveWords : {total : ℕ} → Carrying total → (Net → Word) → List Net → ℕ → (Net → List Signal) → Type 0
HaveWords c ρ seen k signals = (a : Net) → In a seen → CarriesWord c k (ρ a) (signals a)

module _ {total : ℕ} (c : Carrying total) (ρ : Net → Word) where
  pub words_of : (k : ℕ) (signals : Net → List Signal) (ns : List Net) → ((b : Net) → In b ns → CarriesWord c k (ρ b) (signals b))
      → CarriesWords c k (map ρ ns) (map signals ns)
  words_of k signals [] have = no_words
  words_of k signals (n ∷ ns) have = one_more _ _ _ _ (have n (inl refl)) (words_of k signals ns (λ b here. have b (inr here)))

  -- the signals of one more net
  have_more : (n : Net) (seen : List Net) (k j : ℕ) (signals : Net → List Signal) (x : List Signal) → k ≤ j → HaveWords c ρ seen k signals → CarriesWord c j (ρ n) x
      → HaveWords c ρ (n ∷ seen) j (with_net n x signals)
  have_more n seen k j signals x l have is a (inl e) =
      subst (λ b. CarriesWord c j (ρ a) (cond b x (signals a))) (sym (ap (λ z. same_net z n) e ∙ net_self n)) (subst (λ z. CarriesWord c j (ρ z) x) (sym e) is)
  have_more n seen k j signals x l have is a (inr there) = go (same_net a n) refl
    where
      go : (b : Bool) → same_net a n ≡ b → CarriesWord c j (ρ a) (cond b x (signals a))
      go true e = subst (λ z. CarriesWord c j (ρ z) x) (sym (net_from a n e)) is
      go false e = word_later c k j (ρ a) (signals a) l (have a there)

  pub outputs_carried : (rs : List Ref) (k : ℕ) (signals : Net → List Signal) → ((r : Ref) → In r rs → CarriesWord c k (ρ (net [] r)) (signals (net [] r)))
      → CarriesWords c k (map (λ r. ρ (net [] r)) rs) (map (λ r. signals (net [] r)) rs)
  outputs_carried [] k signals have = no_words
  outputs_carried (r ∷ rs) k signals have = one_more _ _ _ _ (have r (inl refl)) (outputs_carried rs k signals (λ s here. have s (inr here)))

-- what a source builds carries its value, from so many variables on
abbrev pub MakesSource : {total : ℕ} → Carrying total → ℕ → Word → Word → (Net → Word) → ℕ → ℕ → (Source → List (List Signal) → Build (List Signal)) → Type 0
MakesSource c least inputs content ρ W S gate_list =
    (s : Source) (k : ℕ) (signals : Net → List Signal) → least ≤ k → HasGateList W S ρ s → ((b : Net) → In b (needs_of s) → CarriesWord c k (ρ b) (signals b))
    → Makes c (gate_list s (map signals (needs_of s))) k (source_price ρ s) (IsWord c (value_of inputs content s (map ρ (needs_of s))))

module _ {total : ℕ} (c : Carrying total) (inputs content : Word) (ρ : Net → Word)
    (size : length (inputs ++ content) ≡ total) (given : CarriesInputs total c (inputs ++ content)) where
  pub makes-source : MakesSource c total inputs content ρ (length inputs) (length content) (source_gate_list (length inputs))
  makes-source nowhere k signals l gate_list have = makes-done c [] k (IsWord c []) none
  makes-source (input start w) k signals l gate_list have =
      let within : start + w ≤ length (inputs ++ content) = omega (arith, gate_list, length-append inputs content) in
      makes-done c (variables start w) k (IsWord c (first w (drop start inputs)))
      (word_same c k (first w (drop start (inputs ++ content))) (first w (drop start inputs)) (variables start w) (first_inputs w start inputs content gate_list)
      (given k start w l within))
  makes-source (held start w) k signals l gate_list have =
      let within : length inputs + start + w ≤ length (inputs ++ content) = omega (arith, gate_list, length-append inputs content) in
      makes-done c (variables (length inputs + start) w) k (IsWord c (first w (drop start content)))
      (word_same c k (first w (drop (length inputs + start) (inputs ++ content))) (first w (drop start content)) (variables (length inputs + start) w)
      (ap (first w) (drop_inputs start inputs content)) (given k (length inputs + start) w l within))
  makes-source (copy n) k signals l gate_list have = makes-done c (signals n) k (IsWord c (ρ n)) (have n (inl refl))
  makes-source (op_result kind ts t i ns) k signals l gate_list have =
      makes-gate_list c k kind ts t i (map ρ ns) (map signals ns) (words_of c ρ k signals ns have) gate_list.0 gate_list.1

module _ {total : ℕ} (c : Carrying total) (d : Design) (top : Name) (inputs content : Word) (ρ : Net → Word) (settled : Settled d top inputs content ρ)
    (least W S : ℕ) (gate_list : Source → List (List Signal) → Build (List Signal)) (each : MakesSource c least inputs content ρ W S gate_list) where
  pub makes-nets : (ns seen : List Net) (k : ℕ) (signals : Net → List Signal) → least ≤ k → NeedsComeFirst d top seen ns
      → HaveGateLists d top W S ρ ns → HaveWords c ρ seen k signals
      → Makes c (nets_by gate_list d top ns signals) k (nets_price d top ρ ns) (HaveWords c ρ (seen_after seen ns))
  unfolding nets_by
  makes-nets [] seen k signals l order gate_lists have = makes-done c signals k (HaveWords c ρ seen) have
  makes-nets (n ∷ ns) seen k signals l order gate_lists have =
      makes_then c _ _ k (source_price ρ (source d top n)) (nets_price d top ρ ns) (IsWord c (ρ n)) _
      (subst (λ w. Makes c (gate_list (source d top n) (map signals (needs d top n))) k (source_price ρ (source d top n)) (IsWord c w)) (sym (settled n))
      (each (source d top n) k signals l gate_lists.0 (λ b here. have b (order.0 b here))))
      (λ x j m is. makes-nets ns (n ∷ seen) j (with_net n x signals) (le_trans l m) order.1 gate_lists.1 (have_more c ρ n seen k j signals x m have is))

-- the outputs carry their words, where the nets do
pub word-outputs : {total : ℕ} (c : Carrying total) (d : Design) (top : Name) (ρ : Net → Word) (ns : List Net) (k : ℕ) (signals : Net → List Signal)
    → OutputsAreAmong d top ns → HaveWords c ρ (seen_after [] ns) k signals
    → CarriesWord c k (outputs d top ρ) (concatenation (map (λ r. signals (net [] r)) (outputs_of (find_module d top))))
word-outputs c d top ρ ns k signals among have =
    word-joined c k (map (λ r. ρ (net [] r)) (outputs_of (find_module d top))) (map (λ r. signals (net [] r)) (outputs_of (find_module d top)))
    (outputs_carried c ρ (outputs_of (find_module d top)) k signals (λ r here. have (net [] r) (is_seen ns [] (net [] r) (among r here))))

pub makes-module : {total : ℕ} (c : Carrying total) (d : Design) (top : Name) (inputs content : Word) (ρ : Net → Word)
    → length (inputs ++ content) ≡ total → Settled d top inputs content ρ → CarriesInputs total c (inputs ++ content)
    → (ns : List Net) (k : ℕ) → total ≤ k → NeedsComeFirst d top [] ns → HaveGateLists d top (length inputs) (length content) ρ ns
    → OutputsAreAmong d top ns → Makes c (module_gate_list (length inputs) d top ns) k (nets_price d top ρ ns + 0) (IsWord c (outputs d top ρ))
unfolding module_gate_list nets_gate_list
makes-module {total} c d top inputs content ρ size settled given ns k l order gate_lists among =
    makes_then c _ _ k (nets_price d top ρ ns) 0 (HaveWords c ρ (seen_after [] ns)) _
    (makes-nets c d top inputs content ρ settled total (length inputs) (length content) (source_gate_list (length inputs))
    (makes-source c inputs content ρ size given) ns [] k (λ n. []) l order gate_lists (λ a here. absurd here))
    (λ signals j m have. makes-done c _ j (IsWord c (outputs d top ρ)) (word-outputs c d top ρ ns j signals among have))
