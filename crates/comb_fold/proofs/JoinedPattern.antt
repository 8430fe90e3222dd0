-- The pattern by which an operation of any number of operands has one constant in the place of two.
use Rattle.std.proofs.Common.{◌≡◌, ℕ, zero, suc, ◌+◌, ◌<◌, Bool, true, false, cond, List, [], ◌∷◌, length, map, drop, get_or, set, slice_set, Option, Some, None, slice_get, refl, sym, ap, ap₂, subst}
use Rattle.std.proofs.Common.{◌∙◌, arith, get_or-drop, length-drop, option_and_then}
use Rattle.std.specs.Prelude.{is_some, option_map, position, remove}
use Rattle.std.proofs.lemmas.List.Elements.{All-nil, All-cons}
use Rattle.std.proofs.lemmas.List.Quantifiers.{position-Some}
use Rattle.std.proofs.lemmas.Option.{slice_get-get_or}
use Rattle.wiring.specs.Wiring.{In}
use Rattle.wiring.proofs.Members.{In-map, In-slice_get}
use Rattle.bits_core.specs.Word.{Word, number}
use Rattle.hw_model.specs.Types.{HwType, width}
use Rattle.hw_model.specs.Types.HwType.{int}
use Rattle.hw_model.specs.IntegerKinds.{TakesWords}
use Rattle.hw_model.specs.Kinds.{Kind, Variadic}
use Rattle.hw_model.specs.Kinds.Kind.{variadic}
use Rattle.hw_model.specs.Design.{Location, Ref, Op, Module, Design, result_type}
use Rattle.hw_model.specs.Design.Ref.{result}
use Rattle.hw_model.specs.Sound.{Fits, type_in}
use Rattle.hw_model.specs.Value.{op_value}
use Rattle.edit_laws.specs.Laws.{up_ref, insert_op}
use Rattle.acceptance_laws.specs.Keeps.{IsFit}
use Rattle.stored_form.specs.ResultTypes.{type_or_none}
use Rattle.type_inference.specs.ResultTypes.{result_type as type_of_result}
use Rattle.ir_store.specs.declared.body.Body.{Body}
use Rattle.ir_store.specs.declared.operation.Value.{Value}
use Rattle.fold_laws.specs.Constants.{constant_at}
use Rattle.fold_laws.specs.ConstantOperands.{with_word, constants_among, joined_number, with_first_as, with_two_as, with_joined, joining_edits, fold_two_constants}
use Rattle.fold_laws.specs.Edits.Edit.{put_in, changed}
use Rattle.fold_laws.specs.Fold.{is_constant_in}
use Rattle.fold_laws.specs.Numbers.{number_op}
use Rattle.fold_laws.proofs.MadeKinds.{is_made}
use Rattle.fold_laws.proofs.Stands.{op_known}
use Rattle.comb_fold.specs.declared.joined.Two.{Two}
use Rattle.body_edits.specs.declared.site.Site.{Site}
use Rattle.body_edits.specs.FitBodies.{IsOfFit}
use Rattle.body_edits.specs.Folded.{IsFolded}
use Rattle.comb_fold.specs.Joins.{first_two, two_of_kind, joined_of_kind, AreEven, joined_operands, HasJoined}
use Rattle.body_edits.specs.Sites.{kind_at, ops_at, ref_at, refs_at}
use Rattle.body_edits.specs.Views.{body_ops, value_ref, op_seen}
use Rattle.body_edits.proofs.FirstPositions.{position_cons}

-- ---- the first two that meet a test

pub record IsFirstTwo {A : Type 0} (test : A → Bool) (xs : List A) (two : Two) : Type 0 where
  pub between : ℕ
  pub first : position test xs ≡ Some two.first
  pub second : position test (drop (two.first + 1) xs) ≡ Some between
  pub second_is : two.second ≡ two.first + 1 + between

pub two_is : {A : Type 0} (test : A → Bool) (xs : List A) (two : Two) → Some two ≡ first_two test xs → IsFirstTwo test xs two
two_is test xs two is = of_first (position test xs) refl is
  where
    of_second : (i : ℕ) → position test xs ≡ Some i → (y : Option ℕ) → position test (drop (i + 1) xs) ≡ y
        → Some two ≡ option_map (λ (k : ℕ). record { first = i; second = i + 1 + k }) y → IsFirstTwo test xs two
    of_second i first None second is = cc
    of_second i first (Some k) second is =
        let same : record { first = i; second = i + 1 + k } ≡ two = cc in
        subst (IsFirstTwo test xs) same (record { between = k; first = first; second = second; second_is = refl })

    of_first : (x : Option ℕ) → position test xs ≡ x → Some two ≡ option_and_then (λ i. option_map (λ (k : ℕ). record { first = i; second = i + 1 + k }) (position test (drop (i + 1) xs))) x → IsFirstTwo test xs two
    of_first None first is = cc
    of_first (Some i) first is = of_second i first (position test (drop (i + 1) xs)) refl is

no_start : (y : Option ℕ) → option_map suc y ≡ Some 0 → ⊥
no_start None e = cc
no_start (Some j) e = cc

one_earlier : (j : ℕ) (y : Option ℕ) → option_map suc y ≡ Some (suc j) → y ≡ Some j
one_earlier j None e = cc
one_earlier j (Some i) e = let same : suc i ≡ suc j = cc in ap Some (omega (arith, same))

-- ---- constants among values

module _ (os : List Op) (ref : Value → Ref) where
  none_among : (vs : List Value) → position (λ v. is_constant_in os (ref v)) vs ≡ None → constants_among os (map ref vs) ≡ []
  none_among [] is = refl
  none_among (v ∷ vs) is = go (constant_at os (ref v)) (sym (position_cons (λ v. is_constant_in os (ref v)) v vs) ∙ is) (none_among vs)
    where
      go : (x : Option Word) → cond (is_some x) (Some 0) (option_map suc (position (λ v. is_constant_in os (ref v)) vs)) ≡ None
          → (position (λ v. is_constant_in os (ref v)) vs ≡ None → constants_among os (map ref vs) ≡ []) → with_word x (constants_among os (map ref vs)) ≡ []
      go (Some w) h rest = cc
      go None h rest = rest (nothing (position (λ v. is_constant_in os (ref v)) vs) h)
        where
          nothing : (y : Option ℕ) → option_map suc y ≡ None → y ≡ None
          nothing None e = refl
          nothing (Some k) e = cc

  first_among : (vs : List Value) (k : ℕ) (d : Value) (w : Word) → position (λ v. is_constant_in os (ref v)) vs ≡ Some k → constant_at os (ref (get_or vs k d)) ≡ Some w
      → constants_among os (map ref vs) ≡ w ∷ constants_among os (map ref (drop (k + 1) vs))
  first_among [] k d w is at = cc
  first_among (v ∷ vs) k d w is at = go (constant_at os (ref v)) refl k (sym (position_cons (λ v. is_constant_in os (ref v)) v vs) ∙ is) at (first_among vs)
    where
      go : (x : Option Word) → constant_at os (ref v) ≡ x → (k : ℕ) → cond (is_some x) (Some 0) (option_map suc (position (λ v. is_constant_in os (ref v)) vs)) ≡ Some k
          → constant_at os (ref (get_or (v ∷ vs) k d)) ≡ Some w
          → ((j : ℕ) (d : Value) (w : Word) → position (λ v. is_constant_in os (ref v)) vs ≡ Some j → constant_at os (ref (get_or vs j d)) ≡ Some w
          → constants_among os (map ref vs) ≡ w ∷ constants_among os (map ref (drop (j + 1) vs)))
          → with_word x (constants_among os (map ref vs)) ≡ w ∷ constants_among os (map ref (drop (k + 1) (v ∷ vs)))
      go (Some u) word zero h at rest =
          let both : Some u ≡ Some w = sym word ∙ at in
          let same : u ≡ w = cc in
          ap (λ z. z ∷ constants_among os (map ref vs)) same
      go (Some u) word (suc j) h at rest = cc
      go None word zero h at rest = absurd (no_start (position (λ v. is_constant_in os (ref v)) vs) h)
      go None word (suc j) h at rest =
          let next : suc j + 1 ≡ suc (j + 1) = omega arith in
          rest j d w (one_earlier j (position (λ v. is_constant_in os (ref v)) vs) h) at ∙ ap (λ n. w ∷ constants_among os (map ref (drop n (v ∷ vs)))) (sym next)

  -- one that is found has a word
  word_at : (vs : List Value) (k : ℕ) (d : Value) → position (λ v. is_constant_in os (ref v)) vs ≡ Some k → (w : Word) × (constant_at os (ref (get_or vs k d)) ≡ Some w)
  word_at vs k d is = go (constant_at os (ref (get_or vs k d))) refl (position-Some (λ v. is_constant_in os (ref v)) vs k d is).1
    where
      go : (x : Option Word) → constant_at os (ref (get_or vs k d)) ≡ x → is_some x ≡ true → (w : Word) × (constant_at os (ref (get_or vs k d)) ≡ Some w)
      go None is some = cc
      go (Some w) is some = (w, is)

  -- the first two
  pub two_among : (vs : List Value) (two : Two) (d e : Value) (x y : Word) (is : IsFirstTwo (λ v. is_constant_in os (ref v)) vs two) → constant_at os (ref (get_or vs two.first d)) ≡ Some x
      → constant_at os (ref (get_or vs two.second e)) ≡ Some y → constants_among os (map ref vs) ≡ x ∷ y ∷ constants_among os (map ref (drop (is.between + 1) (drop (two.first + 1) vs)))
  two_among vs two d e x y is first second =
      first_among vs two.first d x is.first first
      ∙ ap (λ (ws : List Word). x ∷ ws) (first_among (drop (two.first + 1) vs) is.between e y is.second
      (ap (λ v. constant_at os (ref v)) (get_or-drop (two.first + 1) vs is.between e ∙ ap (λ k. get_or vs k e) (sym is.second_is)) ∙ second))

  -- there are two just where their value has a number
  pub number_if : (v : Variadic) (vs : List Value) → is_some (joined_number v (constants_among os (map ref vs))) ≡ is_some (first_two (λ x. is_constant_in os (ref x)) vs)
  number_if v [] = refl
  number_if v (w ∷ ws) = of_first (position (λ x. is_constant_in os (ref x)) (w ∷ ws)) refl
    where
      vs : List Value
      vs = w ∷ ws

      of_second : (i : ℕ) (u : Word) → constants_among os (map ref vs) ≡ u ∷ constants_among os (map ref (drop (i + 1) vs)) → (y : Option ℕ) → position (λ x. is_constant_in os (ref x)) (drop (i + 1) vs) ≡ y
          → is_some (joined_number v (constants_among os (map ref vs))) ≡ is_some {T = Two} (option_map (λ (k : ℕ). record { first = i; second = i + 1 + k }) y)
      of_second i u are None is = ap (λ us. is_some (joined_number v us)) (are ∙ ap (λ (us : List Word). u ∷ us) (none_among (drop (i + 1) vs) is))
      of_second i u are (Some k) is =
          let other = word_at (drop (i + 1) vs) k w is in
          ap (λ us. is_some (joined_number v us)) (are ∙ ap (λ (us : List Word). u ∷ us) (first_among (drop (i + 1) vs) k w other.0 is other.1))

      of_first : (x : Option ℕ) → position (λ x. is_constant_in os (ref x)) vs ≡ x
          → is_some (joined_number v (constants_among os (map ref vs))) ≡ is_some {T = Two}
          (option_and_then (λ i. option_map (λ (k : ℕ). record { first = i; second = i + 1 + k }) (position (λ x. is_constant_in os (ref x)) (drop (i + 1) vs))) x)
      of_first None is = ap (λ us. is_some (joined_number v us)) (none_among vs is)
      of_first (Some i) is =
          let one = word_at vs i w is in
          of_second i one.0 (first_among vs i w one.0 is one.1) (position (λ x. is_constant_in os (ref x)) (drop (i + 1) vs)) refl

  -- ---- the operands once they are joined

  module _ (f : Ref → Ref) (c : Ref) where
    first_as : (vs : List Value) (k : ℕ) → position (λ v. is_constant_in os (ref v)) vs ≡ Some k → with_first_as (is_constant_in os) f c (map ref vs) ≡ slice_set (map f (map ref vs)) k c
    first_as [] k is = cc
    first_as (v ∷ vs) k is = go (is_constant_in os (ref v)) k (sym (position_cons (λ v. is_constant_in os (ref v)) v vs) ∙ is) (first_as vs)
      where
        go : (b : Bool) (k : ℕ) → cond b (Some 0) (option_map suc (position (λ v. is_constant_in os (ref v)) vs)) ≡ Some k
            → ((j : ℕ) → position (λ v. is_constant_in os (ref v)) vs ≡ Some j → with_first_as (is_constant_in os) f c (map ref vs) ≡ slice_set (map f (map ref vs)) j c)
            → cond b (c ∷ map f (map ref vs)) (f (ref v) ∷ with_first_as (is_constant_in os) f c (map ref vs)) ≡ slice_set (f (ref v) ∷ map f (map ref vs)) k c
        go true zero h rest = refl
        go true (suc k) h rest = cc
        go false zero h rest = absurd (no_start (position (λ v. is_constant_in os (ref v)) vs) h)
        go false (suc k) h rest = ap (λ rs. f (ref v) ∷ rs) (rest k (one_earlier k (position (λ v. is_constant_in os (ref v)) vs) h))

    pub two_as : (vs : List Value) (a m s : ℕ) → position (λ v. is_constant_in os (ref v)) vs ≡ Some a → position (λ v. is_constant_in os (ref v)) (drop (a + 1) vs) ≡ Some m → s ≡ a + 1 + m
        → with_two_as (is_constant_in os) f c (map ref vs) ≡ remove (slice_set (map f (map ref vs)) s c) a
    two_as [] a m s is then second_is = cc
    two_as (v ∷ vs) a m s is then second_is = go (is_constant_in os (ref v)) a s (sym (position_cons (λ v. is_constant_in os (ref v)) v vs) ∙ is) then second_is (λ b. two_as vs b m)
      where
        go : (b : Bool) (a s : ℕ) → cond b (Some 0) (option_map suc (position (λ v. is_constant_in os (ref v)) vs)) ≡ Some a → position (λ v. is_constant_in os (ref v)) (drop (a + 1) (v ∷ vs)) ≡ Some m → s ≡ a + 1 + m
            → ((e s : ℕ) → position (λ v. is_constant_in os (ref v)) vs ≡ Some e → position (λ v. is_constant_in os (ref v)) (drop (e + 1) vs) ≡ Some m → s ≡ e + 1 + m
            → with_two_as (is_constant_in os) f c (map ref vs) ≡ remove (slice_set (map f (map ref vs)) s c) e)
            → cond b (with_first_as (is_constant_in os) f c (map ref vs)) (f (ref v) ∷ with_two_as (is_constant_in os) f c (map ref vs)) ≡ remove (slice_set (f (ref v) ∷ map f (map ref vs)) s c) a
        go true zero s h then second_is rest =
            let after : s ≡ suc m = omega (arith, second_is) in
            first_as vs m then ∙ ap (λ n. remove (slice_set (f (ref v) ∷ map f (map ref vs)) n c) 0) (sym after)
        go true (suc a) s h then second_is rest = cc
        go false zero s h then second_is rest = absurd (no_start (position (λ v. is_constant_in os (ref v)) vs) h)
        go false (suc a) s h then second_is rest =
            let next : suc a + 1 ≡ suc (a + 1) = omega arith in
            let after : s ≡ suc (a + 1 + m) = omega (arith, second_is) in
            ap (λ rs. f (ref v) ∷ rs)
            (rest a (a + 1 + m) (one_earlier a (position (λ v. is_constant_in os (ref v)) vs) h) (ap (λ n. position (λ v. is_constant_in os (ref v)) (drop n (v ∷ vs))) (sym next) ∙ then) refl)
            ∙ ap (λ n. remove (slice_set (f (ref v) ∷ map f (map ref vs)) n c) (suc a)) (sym after)

-- ---- widths

module _ (d : Design) (fit : IsFit d) (k : ℕ) (md : Module) (at : slice_get d k ≡ Some md) (i : ℕ) (o : Op) (there : slice_get md.body i ≡ Some o) (v : Variadic) (kind : o.kind ≡ variadic v) where
  word_typed : (r : Ref) (w : Word) → In r o.operands → constant_at md.body r ≡ Some w → Some (int (length w)) ≡ Some (type_or_none (type_of_result o.kind o.types (length o.operands)))
  word_typed r w here is =
      let known = op_known d fit k md at i o there (ap is_made kind) in
      let fits : Fits (variadic v) o.types (map (type_in md.ports md.body) o.operands) (type_or_none (type_of_result o.kind o.types (length o.operands))) 0 =
      subst (λ z. Fits z o.types (map (type_in md.ports md.body) o.operands) (type_or_none (type_of_result o.kind o.types (length o.operands))) 0) kind known.fits in
      sym (known.constants r w is) ∙ fits (type_in md.ports md.body r) (In-map (type_in md.ports md.body) r o.operands here)

  -- the constants among the operands of an operation of any number of them have as many bits
  even_in : AreEven md.body o.operands
  even_in = record {
    even = λ r q x y r_here q_here r_is q_is.
        let both : Some (int (length x)) ≡ Some (int (length y)) = word_typed r x r_here r_is ∙ sym (word_typed q y q_here q_is) in
        let same : int (length x) ≡ int (length y) = cc in
        ap width same;
  }

pub fit_even : (b : Body) → IsOfFit b → (i : ℕ) (o : Op) → slice_get (body_ops b) i ≡ Some o → (v : Variadic) → o.kind ≡ variadic v → AreEven (body_ops b) o.operands
fit_even b of i o there v kind =
    subst (λ os. AreEven os o.operands) of.is_body
    (even_in of.design of.fit of.number of.owner of.there i o (ap (λ os. slice_get os i) of.is_body ∙ there) v kind)

-- where two are found, the kind is of any number of operands
pub kind_found : {A : Type 0} (kind : Kind) (test : A → Bool) (xs : List A) (two : Two) → Some two ≡ two_of_kind kind test xs → (v : Variadic) × (kind ≡ variadic v) × (Some two ≡ first_two test xs)
kind_found (variadic v) test xs two is = (v, refl, is)
kind_found _ test xs two is = cc

-- ---- the value

-- an operation of any number of operands takes two words of as many bits
pub takes_two : (kind : Kind) (v : Variadic) (x y : Word) → kind ≡ variadic v → length y ≡ length x → TakesWords kind (length x) (x ∷ y ∷ [])
takes_two kind v x y is same =
    subst (λ (k : Kind). TakesWords k (length x) (x ∷ y ∷ [])) (sym is)
    (All-cons (λ (w : Word). length w ≡ length x) x (y ∷ []) refl (All-cons (λ (w : Word). length w ≡ length x) y [] same (All-nil (λ (w : Word). length w ≡ length x))))

-- its number
pub number_of_two : (os : List Op) (kind : Kind) (v : Variadic) (rs : List Ref) (x y : Word) (ws : List Word) → kind ≡ variadic v → constants_among os rs ≡ x ∷ y ∷ ws
    → Some (number (op_value kind [] (int (length x)) 0 (x ∷ y ∷ []))) ≡ joined_of_kind os kind rs
number_of_two os kind v rs x y ws is are =
    subst (λ (k : Kind). Some (number (op_value k [] (int (length x)) 0 (x ∷ y ∷ []))) ≡ joined_of_kind os k rs) (sym is) (sym (ap (joined_number v) are))

-- what is read of two constants that are found
module _ (os : List Op) (ref : Value → Ref) (vs : List Value) (kind : Kind) (two : Two) (found : Some two ≡ two_of_kind kind (λ v. is_constant_in os (ref v)) vs) where
  first_is : IsFirstTwo (λ v. is_constant_in os (ref v)) vs two
  first_is = two_is (λ v. is_constant_in os (ref v)) vs two (kind_found kind (λ v. is_constant_in os (ref v)) vs two found).2

  pub first_word : (d : Value) → (w : Word) × (constant_at os (ref (get_or vs two.first d)) ≡ Some w)
  first_word d = word_at os ref vs two.first d first_is.first

  pub second_word : (d : Value) → (w : Word) × (constant_at os (ref (get_or vs two.second d)) ≡ Some w)
  second_word d =
      let one = word_at os ref (drop (two.first + 1) vs) first_is.between d first_is.second in
      (one.0, ap (λ v. constant_at os (ref v)) (sym (get_or-drop (two.first + 1) vs first_is.between d ∙ ap (λ k. get_or vs k d) (sym first_is.second_is))) ∙ one.1)

  pub first_within : two.first < length vs
  first_within = let some = first_is.first in go vs two.first some
    where
      go : (xs : List Value) (k : ℕ) → position (λ v. is_constant_in os (ref v)) xs ≡ Some k → k < length xs
      go [] k is = cc
      go (x ∷ xs) k is = (position-Some (λ v. is_constant_in os (ref v)) (x ∷ xs) k x is).0

  pub ordered : two.first < two.second
  ordered = let second_is = first_is.second_is in omega (arith, second_is)

  pub second_within : two.second < length vs
  second_within = let some = first_is.second in go vs first_within some
    where
      go : (xs : List Value) → two.first < length xs → position (λ v. is_constant_in os (ref v)) (drop (two.first + 1) xs) ≡ Some first_is.between → two.second < length xs
      go [] first is = absurd (omega (arith, first))
      go (x ∷ xs) first is =
          let below = (position-Some (λ v. is_constant_in os (ref v)) (drop (two.first + 1) (x ∷ xs)) first_is.between x is).0 in
          let count = length-drop (two.first + 1) (x ∷ xs) in
          let second_is = first_is.second_is in
          omega (arith, below, count, second_is)

  operand_here : (k : ℕ) (d : Value) → k < length vs → In (ref (get_or vs k d)) (map ref vs)
  operand_here k d within = In-map ref (get_or vs k d) vs (In-slice_get (get_or vs k d) vs k (slice_get-get_or vs k d within))

  module _ (d e : Value) (x y : Word) (first : constant_at os (ref (get_or vs two.first d)) ≡ Some x) (second : constant_at os (ref (get_or vs two.second e)) ≡ Some y) where
    pub words_taken : AreEven os (map ref vs) → (w : ℕ) → w ≡ length x → TakesWords kind w (x ∷ y ∷ [])
    words_taken are w is =
        let at = kind_found kind (λ v. is_constant_in os (ref v)) vs two found in
        subst (λ n. TakesWords kind n (x ∷ y ∷ [])) (sym is)
        (takes_two kind at.0 x y at.1
        (are.even (ref (get_or vs two.second e)) (ref (get_or vs two.first d)) y x (operand_here two.second e second_within) (operand_here two.first d first_within) second first))

    pub number_joined : (w : ℕ) → w ≡ length x → Some (number (op_value kind [] (int w) 0 (x ∷ y ∷ []))) ≡ joined_of_kind os kind (map ref vs)
    number_joined w is =
        let at = kind_found kind (λ v. is_constant_in os (ref v)) vs two found in
        ap (λ n. Some (number (op_value kind [] (int n) 0 (x ∷ y ∷ [])))) is
        ∙ number_of_two os kind at.0 (map ref vs) x y (constants_among os (map ref (drop (first_is.between + 1) (drop (two.first + 1) vs)))) at.1 (two_among os ref vs two d e x y first_is first second)

-- ---- the pattern

-- it matches where there are two constants
pub two_if : (os : List Op) (i : ℕ) (o : Op) (t : HwType) (kind : Kind) (ref : Value → Ref) (vs : List Value) → o.operands ≡ map ref vs
    → is_some (joining_edits os i o t kind) ≡ is_some (two_of_kind kind (λ v. is_constant_in os (ref v)) vs)
two_if os i o t (variadic v) ref vs are =
    go (joined_number v (constants_among os o.operands)) ∙ ap (λ rs. is_some (joined_number v (constants_among os rs))) are ∙ number_if os ref v vs
  where
    go : (x : Option ℕ) → is_some (option_map (λ (n : ℕ). put_in i (number_op n t o.location) ∷ changed (suc i) (with_joined os i o) ∷ []) x) ≡ is_some x
    go None = refl
    go (Some n) = refl
two_if os i o t _ ref vs are = refl

pub pattern_at : (os : List Op) (i : ℕ) (o : Op) (t : HwType) → slice_get os i ≡ Some o → result_type o 0 ≡ Some t → fold_two_constants os i ≡ joining_edits os i o t o.kind
pattern_at os i o t there typed =
    ap (λ x. option_and_then (λ (p : Op). option_and_then (λ (u : HwType). joining_edits os i p u p.kind) (result_type p 0)) x) there
    ∙ ap (λ x. option_and_then (λ (u : HwType). joining_edits os i o u o.kind) x) typed

-- what code makes of a body is what the pattern does
edits_of : (os : List Op) (i : ℕ) (o : Op) (t : HwType) (kind : Kind) (n : ℕ) → Some n ≡ joined_of_kind os kind o.operands
    → joining_edits os i o t kind ≡ Some (put_in i (number_op n t o.location) ∷ changed (suc i) (with_joined os i o) ∷ [])
edits_of os i o t (variadic v) n is = ap (option_map (λ (m : ℕ). put_in i (number_op m t o.location) ∷ changed (suc i) (with_joined os i o) ∷ [])) (sym is)
edits_of os i o t _ n is = cc

pub joined_folded : (b b' : Body) (i : ℕ) (o : Op) (ref : Value → Ref) (vs : List Value) (two : Two) (n : ℕ) → slice_get (body_ops b) i ≡ Some o → o.operands ≡ map ref vs
    → Some two ≡ two_of_kind o.kind (λ v. is_constant_in (body_ops b) (ref v)) vs → Some n ≡ joined_of_kind (body_ops b) o.kind o.operands → HasJoined b b' i two n
    → IsFolded fold_two_constants b b' i
joined_folded b b' i o ref vs two n there are found number_is has =
    let found_at = kind_found o.kind (λ v. is_constant_in (body_ops b) (ref v)) vs two found in
    let is = two_is (λ v. is_constant_in (body_ops b) (ref v)) vs two found_at.2 in
    record {
      edits = put_in i (number_op n has.type o.location) ∷ changed (suc i) (with_joined (body_ops b) i o) ∷ [];
      matches = pattern_at (body_ops b) i o has.type there (ap (λ (p : Op). result_type p 0) same ∙ has.typed) ∙ edits_of (body_ops b) i o has.type o.kind n number_is;
      form = (refl, refl);
      ops =
          has.put.ops o there
          ∙ ap₂ (λ (location : Location) (rs : List Ref). set (insert_op i (number_op n has.type location) (body_ops b)) (suc i) (record o { operands = rs })) (ap (λ (p : Op). p.location) (sym same))
          (sym (ap (with_two_as (is_constant_in (body_ops b)) (up_ref i) (result i 0)) are
          ∙ two_as (body_ops b) ref (up_ref i) (result i 0) vs two.first is.between two.second is.first is.second is.second_is
          ∙ ap (λ rs. joined_operands i two.first two.second rs) (sym are)));
      fresh = has.put.fresh;
      is_fresh = has.put.is_fresh;
      ids = has.put.ids;
    }
  where
    same : o ≡ has.op
    same = let both : Some o ≡ Some has.op = sym there ∙ has.there in cc

-- ---- the operation of a site

module _ (b : Body) (s : Site) (same : s.body.now ≡ b) where
  pub site_two : (x : Option Two) → x ≡ two_of_kind (kind_at s) (λ v. is_constant_in (ops_at s) (ref_at s v)) s.op.operands.now
      → x ≡ two_of_kind (op_seen b s.op).kind (λ v. is_constant_in (body_ops b) (value_ref b v)) s.op.operands.now
  site_two x is = is ∙ ap (λ (y : Body). two_of_kind (kind_at s) (λ v. is_constant_in (body_ops y) (value_ref y v)) s.op.operands.now) same

  pub site_number : (n : ℕ) → Some n ≡ joined_of_kind (ops_at s) (kind_at s) (refs_at s) → Some n ≡ joined_of_kind (body_ops b) (op_seen b s.op).kind (op_seen b s.op).operands
  site_number n is = is ∙ ap (λ (y : Body). joined_of_kind (body_ops y) (kind_at s) (map (value_ref y) s.op.operands.now)) same

  pub site_even : IsOfFit b → (i : ℕ) → slice_get (body_ops b) i ≡ Some (op_seen b s.op) → (two : Two) → Some two ≡ two_of_kind (kind_at s) (λ v. is_constant_in (ops_at s) (ref_at s v)) s.op.operands.now
      → AreEven (ops_at s) (refs_at s)
  site_even of i there two found =
      let at = kind_found (kind_at s) (λ v. is_constant_in (ops_at s) (ref_at s v)) s.op.operands.now two found in
      subst (λ (y : Body). AreEven (body_ops y) (map (value_ref y) s.op.operands.now)) (sym same) (fit_even b of i (op_seen b s.op) there at.0 at.1)

-- where there are no two constants, the pattern does not match
pub none_joined : (os : List Op) (i : ℕ) (o : Op) (ref : Value → Ref) (vs : List Value) → slice_get os i ≡ Some o → o.operands ≡ map ref vs
    → None ≡ two_of_kind o.kind (λ v. is_constant_in os (ref v)) vs → is_some (fold_two_constants os i) ≡ true → ⊥
none_joined os i o ref vs there are none matches = go (result_type o 0) refl
  where
    at_op : fold_two_constants os i ≡ option_and_then (λ (u : HwType). joining_edits os i o u o.kind) (result_type o 0)
    at_op = ap (λ x. option_and_then (λ (p : Op). option_and_then (λ (u : HwType). joining_edits os i p u p.kind) (result_type p 0)) x) there

    go : (x : Option HwType) → result_type o 0 ≡ x → ⊥
    go None typed =
        let clash : false ≡ true = sym (ap is_some (at_op ∙ ap (λ x. option_and_then (λ (u : HwType). joining_edits os i o u o.kind) x) typed)) ∙ matches in cc
    go (Some t) typed =
        let clash : false ≡ true =
        ap is_some none ∙ sym (ap is_some (pattern_at os i o t there typed) ∙ two_if os i o t o.kind ref vs are) ∙ matches in
        cc
