-- Names that are seen, in a set.
use Rattle.std.proofs.Common.{◌≡◌, ℕ, Bool, true, false, cond, ◌||◌, List, [], ◌∷◌, ◌++◌, map, Bor, suc, ◌+◌, ◌<◌, length, take, drop, get_or, refl, sym, ap, ◌∙◌, drop-cons, add-one, Some}
use Rattle.std.proofs.lemmas.Option.{slice_get-get_or}
use Rattle.wiring.proofs.Lists.{take-suc_some}
use Rattle.std.proofs.lemmas.List.{map_push}
use Rattle.std.specs.List.{list_any}
use Rattle.hw_model.specs.Types.{Name}
use Rattle.hw_model.specs.Design as hw
use Rattle.hw_model.specs.Design.{same_name}
use Rattle.ir_store.specs.declared.design.Port.{Port}
use Rattle.ir_store.specs.Designs.{port_of}
use Rattle.op_verifier.specs.Headers.{is_among, has_seen}

-- the name that a key is
abbrev pub shown : Bor (List ℕ) → Name
shown k = k.now

pub among_keys : (name : Name) (ks : List (Bor (List ℕ))) → is_among name (map shown ks) ≡ list_any (λ (k : Bor (List ℕ)). same_name name k.now) ks
among_keys name [] = refl
among_keys name (k ∷ ks) = go (same_name name k.now) (among_keys name ks)
  where
    go : (b : Bool) → is_among name (map shown ks) ≡ list_any (λ (k : Bor (List ℕ)). same_name name k.now) ks
        → cond b true (is_among name (map shown ks)) ≡ (b || list_any (λ (k : Bor (List ℕ)). same_name name k.now) ks)
    go true h = refl
    go false h = h

-- the names of ports
abbrev pub names_of : List Port → List Name
names_of ports = map (λ (q : hw.Port). q.name) (map port_of ports)

next_name : (ports : List Port) (i : ℕ) (p : Port) → i < length ports → p ≡ get_or ports i p → names_of (drop i ports) ≡ p.name ∷ names_of (drop (i + 1) ports)
next_name ports i p less is =
    ap names_of (drop-cons ports i p less)
    ∙ ap (λ (q : Port). (port_of q).name ∷ names_of (drop (suc i) ports)) (sym is)
    ∙ ap (λ (n : ℕ). (port_of p).name ∷ names_of (drop n ports)) (sym (add-one i))

-- a name that is seen
pub seen_again : (ports : List Port) (i : ℕ) (p : Port) (ks : List (Bor (List ℕ))) (name : Name)
    → i < length ports → p ≡ get_or ports i p → name ≡ p.name → list_any (λ (k : Bor (List ℕ)). same_name name k.now) ks ≡ true
    → has_seen [] (names_of ports) ≡ has_seen (map shown ks) (names_of (drop i ports)) → true ≡ has_seen [] (names_of ports)
seen_again ports i p ks name less is named found so_far =
    sym (so_far ∙ ap (has_seen (map shown ks)) (next_name ports i p less is)
    ∙ ap (λ (b : Bool). cond b true (has_seen (map shown ks ++ p.name ∷ []) (names_of (drop (i + 1) ports))))
    (ap (λ (n : Name). is_among n (map shown ks)) (sym named) ∙ among_keys name ks ∙ found))

-- a name that is not
pub seen_first : (ports : List Port) (i : ℕ) (p : Port) (ks new : List (Bor (List ℕ))) (name : Name) (k : Bor (List ℕ))
    → i < length ports → p ≡ get_or ports i p → name ≡ p.name → k.now ≡ p.name
    → list_any (λ (k : Bor (List ℕ)). same_name name k.now) ks ≡ false
    → new ≡ cond (list_any (λ (j : Bor (List ℕ)). same_name k.now j.now) ks) ks (ks ++ k ∷ [])
    → has_seen [] (names_of ports) ≡ has_seen (map shown ks) (names_of (drop i ports))
    → has_seen [] (names_of ports) ≡ has_seen (map shown new) (names_of (drop (i + 1) ports))
seen_first ports i p ks new name k less is named key absent put so_far =
    let none : list_any (λ (j : Bor (List ℕ)). same_name k.now j.now) ks ≡ false =
    ap (λ (n : Name). list_any (λ (j : Bor (List ℕ)). same_name n j.now) ks) (key ∙ sym named) ∙ absent in
    let added : map shown new ≡ map shown ks ++ p.name ∷ [] =
    ap (map shown) (put ∙ ap (λ (b : Bool). cond b ks (ks ++ k ∷ [])) none) ∙ map_push shown ks k ∙ ap (λ (n : Name). map shown ks ++ n ∷ []) key in
    so_far ∙ ap (has_seen (map shown ks)) (next_name ports i p less is)
    ∙ ap (λ (b : Bool). cond b true (has_seen (map shown ks ++ p.name ∷ []) (names_of (drop (i + 1) ports))))
    (ap (λ (n : Name). is_among n (map shown ks)) (sym named) ∙ among_keys name ks ∙ absent)
    ∙ ap (λ (seen : List Name). has_seen seen (names_of (drop (i + 1) ports))) (sym added)

-- the ports before one and that port
take_name : (ports : List Port) (i : ℕ) (p : Port) → i < length ports → p ≡ get_or ports i p → names_of (take (i + 1) ports) ≡ names_of (take i ports) ++ p.name ∷ []
take_name ports i p less is =
    ap (λ (n : ℕ). names_of (take n ports)) (add-one i)
    ∙ ap names_of (take-suc_some ports i p (slice_get-get_or ports i p less ∙ ap Some (sym is)))
    ∙ ap (map (λ (q : hw.Port). q.name)) (map_push port_of (take i ports) p)
    ∙ map_push (λ (q : hw.Port). q.name) (map port_of (take i ports)) (port_of p)

-- a name that stands among those of the ports before
pub named_again : (ports : List Port) (i : ℕ) (p : Port) → i < length ports → p ≡ get_or ports i p → is_among p.name (names_of (take i ports)) ≡ true
    → has_seen [] (names_of ports) ≡ has_seen (names_of (take i ports)) (names_of (drop i ports)) → true ≡ has_seen [] (names_of ports)
named_again ports i p less is found so_far =
    sym (so_far ∙ ap (has_seen (names_of (take i ports))) (next_name ports i p less is)
    ∙ ap (λ (b : Bool). cond b true (has_seen (names_of (take i ports) ++ p.name ∷ []) (names_of (drop (i + 1) ports)))) found)

-- a name that does not
pub named_first : (ports : List Port) (i : ℕ) (p : Port) → i < length ports → p ≡ get_or ports i p → is_among p.name (names_of (take i ports)) ≡ false
    → has_seen [] (names_of ports) ≡ has_seen (names_of (take i ports)) (names_of (drop i ports))
    → has_seen [] (names_of ports) ≡ has_seen (names_of (take (i + 1) ports)) (names_of (drop (i + 1) ports))
named_first ports i p less is absent so_far =
    so_far ∙ ap (has_seen (names_of (take i ports))) (next_name ports i p less is)
    ∙ ap (λ (b : Bool). cond b true (has_seen (names_of (take i ports) ++ p.name ∷ []) (names_of (drop (i + 1) ports)))) absent
    ∙ ap (λ (seen : List Name). has_seen seen (names_of (drop (i + 1) ports))) (sym (take_name ports i p less is))
