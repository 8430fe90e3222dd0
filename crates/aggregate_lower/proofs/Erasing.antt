-- Operations that go one after another, the first operand of each standing for its first result: what is left are the
-- others, each value at its place.
use Rattle.std.proofs.Common.{◌≡◌, ℕ, zero, suc, ◌+◌, ◌-◌, ◌<◌, ◌≤◌, Bool, true, false, nat_lt, List, [], ◌∷◌, ◌++◌, length, map, remove, Option, Some, None, slice_get, refl, sym, ap, ap₂, subst, ◌∙◌, arith, append_assoc, length-append, option_and_then}
use Rattle.std.proofs.lemmas.List.{length-map, map-append}
use Rattle.std.proofs.lemmas.Bool.{ltb-true, ltb-false}
use Rattle.wiring.proofs.Lists.{map-map, slice_get-append_at}
use Rattle.wiring.proofs.Members.{map_same}
use Rattle.hw_model.specs.Design.{Ref, Op}
use Rattle.hw_model.specs.Design.Ref.{port, result, undefined}
use Rattle.edit_laws.specs.Edit.{retarget}
use Rattle.edit_laws.specs.Laws.{up, down, up_ref, ref_after_erase, without, erase_op, IsNotOf}
use Rattle.edit_laws.proofs.Positions.{down_none}
use Rattle.edit_laws.proofs.TakeOut.{up-without}
use Rattle.edit_laws.proofs.OtherOperands.{map_retarget_id}
use Rattle.inline_laws.specs.Inline.{ref_or_undefined}
use Rattle.inline_laws.specs.Unwire.{operand_at}
use Rattle.aggregate_laws.specs.Leaves.{or_undefined, part}
use Rattle.aggregate_lower.specs.Targets.{MadeOp, wire_flags, ops_made, ops_kept}
use Rattle.aggregate_lower.specs.Targets.MadeOp.{wire, kept}

-- flagged operations go, the first standing at a position once those before it are gone
abbrev pub out : ℕ → List Bool → List Op → List Op
out i [] body = body
out i (true ∷ flags) body = out i flags (erase_op i (operand_at i body) body)
out i (false ∷ flags) body = out (suc i) flags body

-- ---- operands changed

-- what is made with other operands
abbrev remade : (Ref → Ref) → MadeOp → MadeOp
remade f (wire o) = wire (retarget f o)
remade f (kept o) = kept (retarget f o)

flags_remade : (f : Ref → Ref) (xs : List MadeOp) → wire_flags (map (remade f) xs) ≡ wire_flags xs
flags_remade f [] = refl
flags_remade f (wire o ∷ xs) = ap (λ fs. true ∷ fs) (flags_remade f xs)
flags_remade f (kept o ∷ xs) = ap (λ fs. false ∷ fs) (flags_remade f xs)

ops_remade : (f : Ref → Ref) (xs : List MadeOp) → ops_made (map (remade f) xs) ≡ map (retarget f) (ops_made xs)
ops_remade f [] = refl
ops_remade f (wire o ∷ xs) = ap (λ os. retarget f o ∷ os) (ops_remade f xs)
ops_remade f (kept o ∷ xs) = ap (λ os. retarget f o ∷ os) (ops_remade f xs)

kept_remade : (f : Ref → Ref) (xs : List MadeOp) → ops_kept (map (remade f) xs) ≡ map (retarget f) (ops_kept xs)
kept_remade f [] = refl
kept_remade f (wire o ∷ xs) = kept_remade f xs
kept_remade f (kept o ∷ xs) = ap (λ os. retarget f o ∷ os) (kept_remade f xs)

retarget_alike : (f g : Ref → Ref) → ((r : Ref) → f r ≡ g r) → (os : List Op) → map (retarget f) os ≡ map (retarget g) os
retarget_alike f g same [] = refl
retarget_alike f g same (o ∷ os) = ap₂ (λ rs xs. record o { operands = rs } ∷ xs) (map_same f g o.operands (λ r here. same r)) (retarget_alike f g same os)

retarget_both : (f g : Ref → Ref) (os : List Op) → map (retarget g) (map (retarget f) os) ≡ map (retarget (λ r. g (f r))) os
retarget_both f g [] = refl
retarget_both f g (o ∷ os) = ap₂ (λ rs xs. record o { operands = rs } ∷ xs) (map-map g f o.operands) (retarget_both f g os)

part_map : (f : Ref → Ref) → f undefined ≡ undefined → (rs : List Ref) → part (map f rs) 0 ≡ f (part rs 0)
part_map f none [] = sym none
part_map f none (r ∷ rs) = refl

-- ---- positions

up_past : (i j : ℕ) → i ≤ j → up i j ≡ suc j
up_past zero j le = refl
up_past (suc i) zero le = absurd (omega (arith, le))
up_past (suc i) (suc j) le = ap suc (up_past i j (omega (arith, le)))

up_below : (i j : ℕ) → j < i → up i j ≡ j
up_below zero j less = absurd (omega (arith, less))
up_below (suc i) zero less = refl
up_below (suc i) (suc j) less = ap suc (up_below i j (omega (arith, less)))

down_self : (i : ℕ) → down i i ≡ None
down_self zero = refl
down_self (suc i) = ap (λ (x : Option ℕ). go x) (down_self i)
  where
    go : Option ℕ → Option ℕ
    go None = None
    go (Some j) = Some (suc j)

-- ---- one goes

-- a value once the operation at position i is gone, x standing for its first result
abbrev gone : ℕ → Ref → Ref → Ref
gone i x = without i (without i undefined x)

own_gone : (i : ℕ) (x : Ref) (k : ℕ) → gone i x (result i k) ≡ ref_after_erase None (without i undefined x) k
own_gone i x k = ap (λ y. ref_after_erase y (without i undefined x) k) (down_self i)

-- a value is none of the operation's, or one of them
data Whose (i : ℕ) (r : Ref) : Type 0 where
  other : IsNotOf i r → Whose i r
  own : (k : ℕ) → r ≡ result i k → Whose i r

whose : (i : ℕ) (r : Ref) → Whose i r
whose i (port j) = other (λ k is. cc)
whose i undefined = other (λ k is. cc)
whose i (result j k) = go (down i j) refl
  where
    go : (y : Option ℕ) → down i j ≡ y → Whose i (result j k)
    go None is = own k (ap (λ n. result n k) (down_none i j is))
    go (Some n) is = other (λ m same. let equal : j ≡ i = cc in let clash : Some n ≡ None = sym is ∙ ap (down i) equal ∙ down_self i in cc)

module _ (σ : Ref → Ref) (h : Ref → ℕ) (lowest : (r : Ref) → h undefined ≤ h r) (nothing : σ undefined ≡ undefined) (i : ℕ) (x : Ref)
    (stands : σ (result i 0) ≡ σ x) (lower : h x < h (result i 0)) (no_further : (k : ℕ) → σ (result i (suc k)) ≡ undefined) where
  -- what stands for the first result
  standing : (σ (up_ref i (without i undefined x)) ≡ σ x) × (h (up_ref i (without i undefined x)) ≤ h x)
  standing = go (whose i x)
    where
      further : (k : ℕ) → x ≡ result i k → (σ (up_ref i (without i undefined x)) ≡ σ x) × (h (up_ref i (without i undefined x)) ≤ h x)
      further zero is = let same : h x ≡ h (result i 0) = ap h is in absurd (omega (arith, same, lower))
      further (suc k) is =
          let none : without i undefined x ≡ undefined = ap (without i undefined) is ∙ ap (λ y. ref_after_erase y undefined (suc k)) (down_self i) in
          let low = lowest x in
          let height : h (up_ref i (without i undefined x)) ≡ h undefined = ap (λ y. h (up_ref i y)) none in
          (ap (λ y. σ (up_ref i y)) none ∙ nothing ∙ sym (ap σ is ∙ no_further k), omega (arith, low, height))

      go : Whose i x → (σ (up_ref i (without i undefined x)) ≡ σ x) × (h (up_ref i (without i undefined x)) ≤ h x)
      go (other not) = let same = up-without i undefined x not in let height : h (up_ref i (without i undefined x)) ≡ h x = ap h same in (ap σ same, omega (arith, height))
      go (own k is) = further k is

  -- each value
  moved : (r : Ref) → (σ (up_ref i (gone i x r)) ≡ σ r) × (h (up_ref i (gone i x r)) ≤ h r)
  moved r = go (whose i r)
    where
      mine : (k : ℕ) → r ≡ result i k → (σ (up_ref i (gone i x r)) ≡ σ r) × (h (up_ref i (gone i x r)) ≤ h r)
      mine zero is =
          let here : gone i x r ≡ without i undefined x = ap (gone i x) is ∙ own_gone i x 0 in
          let first : h (up_ref i (gone i x r)) ≡ h (up_ref i (without i undefined x)) = ap (λ y. h (up_ref i y)) here in
          let less = standing.1 in
          let same : h r ≡ h (result i 0) = ap h is in
          (ap (λ y. σ (up_ref i y)) here ∙ standing.0 ∙ sym stands ∙ ap σ (sym is), omega (arith, first, less, same, lower))
      mine (suc k) is =
          let here : gone i x r ≡ undefined = ap (gone i x) is ∙ own_gone i x (suc k) in
          let first : h (up_ref i (gone i x r)) ≡ h undefined = ap (λ y. h (up_ref i y)) here in
          let low = lowest r in
          (ap (λ y. σ (up_ref i y)) here ∙ nothing ∙ sym (ap σ is ∙ no_further k), omega (arith, first, low))

      go : Whose i r → (σ (up_ref i (gone i x r)) ≡ σ r) × (h (up_ref i (gone i x r)) ≤ h r)
      go (other not) =
          let same = up-without i (without i undefined x) r not in
          let height : h (up_ref i (gone i x r)) ≡ h r = ap h same in
          (ap σ same, omega (arith, height))
      go (own k is) = mine k is

-- ---- all go

-- where the results of operations from a position on go, the next that is kept having a number: a wire's to that of what it
-- carries, which stands lower
abbrev pub Goes : (Ref → Ref) → (Ref → ℕ) → ℕ → ℕ → List MadeOp → Type 0
Goes σ h pos n [] = (m k : ℕ) → σ (result (pos + m) k) ≡ result (n + m) k
Goes σ h pos n (wire o ∷ xs) =
    (σ (result pos 0) ≡ σ (part o.operands 0)) × (h (part o.operands 0) < h (result pos 0)) × ((k : ℕ) → σ (result pos (suc k)) ≡ undefined) × Goes σ h (suc pos) n xs
Goes σ h pos n (kept o ∷ xs) = ((k : ℕ) → σ (result pos k) ≡ result n k) × Goes σ h (suc pos) (suc n) xs

module _ (σ : Ref → Ref) (h : Ref → ℕ) (lowest : (r : Ref) → h undefined ≤ h r) (nothing : σ undefined ≡ undefined) (i : ℕ) (x : Ref)
    (stands : σ (result i 0) ≡ σ x) (lower : h x < h (result i 0)) (no_further : (k : ℕ) → σ (result i (suc k)) ≡ undefined) where
  all_down : (xs : List MadeOp) (pos n : ℕ) → i ≤ pos → Goes σ h (suc pos) n xs → Goes (λ r. σ (up_ref i r)) (λ r. h (up_ref i r)) pos n (map (remade (gone i x)) xs)
  all_down [] pos n le all = λ m k. let next : suc (pos + m) ≡ suc pos + m = omega arith in ap (λ j. σ (result j k)) (up_past i (pos + m) (omega (arith, le)) ∙ next) ∙ all m k
  all_down (kept o ∷ xs) pos n le (stays, rest) = ((λ k. ap (λ j. σ (result j k)) (up_past i pos le) ∙ stays k), all_down xs (suc pos) (suc n) (omega (arith, le)) rest)
  all_down (wire o ∷ xs) pos n le (same, less, none, rest) =
      let past = up_past i pos le in
      let operand : part (map (gone i x) o.operands) 0 ≡ gone i x (part o.operands 0) = part_map (gone i x) refl o.operands in
      let here = moved σ h lowest nothing i x stands lower no_further (part o.operands 0) in
      let below = here.1 in
      let left : h (up_ref i (part (map (gone i x) o.operands) 0)) ≡ h (up_ref i (gone i x (part o.operands 0))) = ap (λ r. h (up_ref i r)) operand in
      let right : h (result (up i pos) 0) ≡ h (result (suc pos) 0) = ap (λ j. h (result j 0)) past in (
        ap (λ j. σ (result j 0)) past ∙ same ∙ sym here.0 ∙ sym (ap (λ r. σ (up_ref i r)) operand),
        omega (arith, below, less, left, right),
        (λ k. ap (λ j. σ (result j (suc k))) past ∙ none k),
        all_down xs (suc pos) n (omega (arith, le)) rest,
      )

remove_at : {A : Type 0} (xs : List A) (y : A) (ys : List A) → remove (xs ++ y ∷ ys) (length xs) ≡ xs ++ ys
remove_at [] y ys = refl
remove_at (x ∷ xs) y ys = ap (λ zs. x ∷ zs) (remove_at xs y ys)

operand_is : (prefix : List Op) (o : Op) (back : List Op) → operand_at (length prefix) (prefix ++ o ∷ back) ≡ part o.operands 0
operand_is prefix o back = ap (λ y. ref_or_undefined (option_and_then (λ (p : Op). slice_get p.operands 0) y)) (slice_get-append_at prefix o back) ∙ go (slice_get o.operands 0)
  where
    go : (y : Option Ref) → ref_or_undefined y ≡ or_undefined y
    go None = refl
    go (Some r) = refl

-- the places of all values, where nothing more goes
same_place : (σ : Ref → Ref) → σ undefined ≡ undefined → ((j : ℕ) → σ (port j) ≡ port j) → (n : ℕ) → ((j k : ℕ) → j < n → σ (result j k) ≡ result j k)
    → ((m k : ℕ) → σ (result (n + m) k) ≡ result (n + m) k) → (r : Ref) → σ r ≡ r
same_place σ nothing ports n before past (port j) = ports j
same_place σ nothing ports n before past undefined = nothing
same_place σ nothing ports n before past (result j k) = go (nat_lt j n) refl
  where
    later : n ≤ j → σ (result j k) ≡ result j k
    later le =
        let sum : n + (j - n) ≡ j = omega (arith, le) in
        subst (λ i. σ (result i k) ≡ result i k) sum (past (j - n) k)

    go : (b : Bool) → nat_lt j n ≡ b → σ (result j k) ≡ result j k
    go true is = before j k (ltb-true j n is)
    go false is = later (ltb-false j n is)

-- what is left, where places of all values are given
abbrev AllOut : List MadeOp → Type 0
AllOut xs =
    (prefix : List Op) (σ : Ref → Ref) (h : Ref → ℕ) → ((r : Ref) → h undefined ≤ h r) → σ undefined ≡ undefined → ((j : ℕ) → σ (port j) ≡ port j)
    → ((j k : ℕ) → j < length prefix → σ (result j k) ≡ result j k) → Goes σ h (length prefix) (length prefix) xs
    → out (length prefix) (wire_flags xs) (prefix ++ ops_made xs) ≡ map (retarget σ) (prefix ++ ops_kept xs)

one_stays : (o : Op) (xs : List MadeOp) → AllOut xs → AllOut (kept o ∷ xs)
one_stays o xs more prefix σ h lowest nothing ports before (stays, rest) =
    ap₂ (λ n body. out n (wire_flags xs) body) (sym size) (sym (append_assoc prefix (o ∷ []) (ops_made xs)))
    ∙ more (prefix ++ o ∷ []) σ h lowest nothing ports (λ j k less. with_one j k (nat_lt j (length prefix)) refl (omega (arith, less, size))) (subst (λ n. Goes σ h n n xs) (sym size) rest)
    ∙ ap (map (retarget σ)) (append_assoc prefix (o ∷ []) (ops_kept xs))
  where
    size : length (prefix ++ o ∷ []) ≡ suc (length prefix)
    size = let sum = length-append prefix (o ∷ []) in omega (arith, sum)

    with_one : (j k : ℕ) (b : Bool) → nat_lt j (length prefix) ≡ b → j < suc (length prefix) → σ (result j k) ≡ result j k
    with_one j k true is less = before j k (ltb-true j (length prefix) is)
    with_one j k false is less =
        let past = ltb-false j (length prefix) is in
        let same : length prefix ≡ j = omega (arith, less, past) in
        subst (λ n. σ (result n k) ≡ result n k) same (stays k)

one_leaves : (o : Op) (xs : List MadeOp) → ((f : Ref → Ref) → AllOut (map (remade f) xs)) → AllOut (wire o ∷ xs)
one_leaves o xs more prefix σ h lowest nothing ports before (same, less, none, rest) =
    ap (out i (wire_flags xs)) erased
    ∙ ap₂ (λ n flags. out n flags (map (retarget f) prefix ++ map (retarget f) (ops_made xs))) (sym size) (sym (flags_remade f xs))
    ∙ ap (λ os. out (length (map (retarget f) prefix)) (wire_flags (map (remade f) xs)) (map (retarget f) prefix ++ os)) (sym (ops_remade f xs))
    ∙ more f (map (retarget f) prefix) (λ r. σ (up_ref i r)) (λ r. h (up_ref i r)) (λ r. lowest (up_ref i r)) nothing ports kept_before
    (subst (λ n. Goes (λ r. σ (up_ref i r)) (λ r. h (up_ref i r)) n n (map (remade f) xs)) (sym size)
    (all_down σ h lowest nothing i x same less none xs i i (omega arith) rest))
    ∙ ap (λ os. map (retarget (λ r. σ (up_ref i r))) (map (retarget f) prefix ++ os)) (kept_remade f xs)
    ∙ ap (map (retarget (λ r. σ (up_ref i r)))) (sym (map-append (retarget f) prefix (ops_kept xs)))
    ∙ retarget_both f (λ r. σ (up_ref i r)) (prefix ++ ops_kept xs)
    ∙ retarget_alike (λ r. σ (up_ref i (f r))) σ (λ r. (moved σ h lowest nothing i x same less none r).0) (prefix ++ ops_kept xs)
  where
    i : ℕ
    i = length prefix

    x : Ref
    x = part o.operands 0

    f : Ref → Ref
    f = gone (length prefix) (part o.operands 0)

    size : length (map (retarget f) prefix) ≡ length prefix
    size = length-map prefix (retarget f)

    erased : erase_op (length prefix) (operand_at (length prefix) (prefix ++ o ∷ ops_made xs)) (prefix ++ o ∷ ops_made xs) ≡ map (retarget f) prefix ++ map (retarget f) (ops_made xs)
    erased =
        ap (λ v. erase_op (length prefix) v (prefix ++ o ∷ ops_made xs)) (operand_is prefix o (ops_made xs))
        ∙ ap (map (retarget f)) (remove_at prefix o (ops_made xs)) ∙ map-append (retarget f) prefix (ops_made xs)

    kept_before : (j k : ℕ) → j < length (map (retarget f) prefix) → σ (up_ref (length prefix) (result j k)) ≡ result j k
    kept_before j k below =
        let within : j < length prefix = omega (arith, below, size) in
        ap (λ n. σ (result n k)) (up_below (length prefix) j within) ∙ before j k within

nothing_left : AllOut []
nothing_left prefix σ h lowest nothing ports before goes =
    sym (map_retarget_id (prefix ++ [])) ∙ sym (retarget_alike σ (λ r. r) (same_place σ nothing ports (length prefix) before goes) (prefix ++ []))

pub all_out : (n : ℕ) (xs : List MadeOp) → length xs ≡ n → AllOut xs
all_out zero [] size = nothing_left
all_out zero (x ∷ xs) size = cc
all_out (suc n) [] size = cc
all_out (suc n) (kept o ∷ xs) size = one_stays o xs (all_out n xs (less size))
  where
    less : suc (length xs) ≡ suc n → length xs ≡ n
    less e = cc
all_out (suc n) (wire o ∷ xs) size = one_leaves o xs (λ f. all_out n (map (remade f) xs) (length-map xs (remade f) ∙ less size))
  where
    less : suc (length xs) ≡ suc n → length xs ≡ n
    less e = cc
