-- Names in a table, each with what it stood for first.
use Rattle.std.proofs.Common.{◌≡◌, ℕ, Bool, true, false, cond, nat_eq, List, [], ◌∷◌, ◌++◌, refl, ap, sym, subst, ◌∙◌}
use Rattle.std.specs.Prelude.{Option, Some, None, option_map, is_some}
use Rattle.std.specs.Option.{option_copied}
use Rattle.std.proofs.lemmas.Bool.{eqb-true, eq-eqb}
use Rattle.std.proofs.Math.Path.{fun_ext}
use Rattle.std.specs.Borrow.{Bor}
use Rattle.std.specs.Map.{lookup}
use Rattle.std.specs.Cmp.Lexicographic.{bytes_decides}
use Rattle.indexmap.specs.IndexMap.{insert_entry}
use Rattle.hw_model.specs.Types.{Name}
use Rattle.hw_model.specs.Design.{same_name}
use Rattle.mlir_reader.specs.Meanings.{defined_of, definition, meaning_at, table_meanings, number_meaning, meaning_by, meanings_of}
use Rattle.mlir_reader.specs.PlainNumbers.{number_of}
use Rattle.mlir_reader.specs.Resolving.{Meanings, Defined, Definition, known_or, no_meaning, with_definition}
use Rattle.mlir_reader.specs.declared.names.Defined as code
use Rattle.mlir_reader.specs.declared.names.Names.{Names}
use Rattle.mlir_reader.proofs.PlainNumbers.{one_number}

pub none_copied : {V : Type 0} (r : Option (Bor V)) (o : Option V) → option_copied r ≡ o → is_some r ≡ false → o ≡ None
none_copied None o e f = sym e
none_copied (Some x) o e f = cc

pub some_copied : {V W : Type 0} (f : V → W) (r : Option (Bor V)) (o : Option V) (b : Bool) → option_copied r ≡ o → is_some r ≡ b → b ≡ is_some (option_map f o)
some_copied {V} f r o b e g = subst (λ (o : Option V). b ≡ is_some (option_map f o)) e (on r g)
  where
    on : (r : Option (Bor V)) → is_some r ≡ b → b ≡ is_some (option_map f (option_copied r))
    on None g = sym g
    on (Some x) g = sym g

some_same : {V : Type 0} (x y : V) → Some x ≡ Some y → x ≡ y
some_same x y e = cc

module _ {K V : Type 0} where
  pub insert_absent : (eq : K → K → Bool) (es : List (K × V)) (k : K) (v : V) → lookup (eq k) es ≡ None → insert_entry eq es k v ≡ es ++ (k, v) ∷ []
  insert_absent eq [] k v h = refl
  insert_absent eq (e ∷ es) k v h = go (eq k e.0) h (insert_absent eq es k v)
    where
      go : (b : Bool) → cond b (Some e.1) (lookup (eq k) es) ≡ None → (lookup (eq k) es ≡ None → insert_entry eq es k v ≡ es ++ (k, v) ∷ []) →
          cond b ((e.0, v) ∷ es) (e ∷ insert_entry eq es k v) ≡ e ∷ (es ++ (k, v) ∷ [])
      go true h r = cc
      go false h r = ap (λ rest. e ∷ rest) (r h)

  -- a value that is put back
  pub insert_again : (eq : K → K → Bool) (es : List (K × V)) (k : K) (v w : V) → lookup (eq k) es ≡ Some v → insert_entry eq (insert_entry eq es k w) k v ≡ es
  insert_again eq [] k v w h = cc
  insert_again eq (e ∷ es) k v w h = go (eq k e.0) refl h (insert_again eq es k v w)
    where
      go : (b : Bool) → eq k e.0 ≡ b → cond b (Some e.1) (lookup (eq k) es) ≡ Some v → (lookup (eq k) es ≡ Some v → insert_entry eq (insert_entry eq es k w) k v ≡ es) →
          insert_entry eq (cond b ((e.0, w) ∷ es) (e ∷ insert_entry eq es k w)) k v ≡ e ∷ es
      go true t h r = rw t (ap (λ x. (e.0, x) ∷ es) (sym (some_same e.1 v h)))
      go false t h r = rw t (ap (λ rest. e ∷ rest) (r h))

  -- what is found after one more entry
  pub found_push : (f : V → Defined) (test : K → Bool) (es : List (K × V)) (k : K) (v : V) →
      option_map f (lookup test (es ++ (k, v) ∷ [])) ≡ known_or (option_map f (lookup test es)) (cond (test k) (Some (f v)) None)
  found_push f test [] k v = go (test k)
    where
      go : (b : Bool) → option_map f (cond b (Some v) None) ≡ cond b (Some (f v)) None
      go true = refl
      go false = refl
  found_push f test (e ∷ es) k v = go (test e.0) (found_push f test es k v)
    where
      go : (b : Bool) → option_map f (lookup test (es ++ (k, v) ∷ [])) ≡ known_or (option_map f (lookup test es)) (cond (test k) (Some (f v)) None) →
          option_map f (cond b (Some e.1) (lookup test (es ++ (k, v) ∷ []))) ≡ known_or (option_map f (cond b (Some e.1) (lookup test es))) (cond (test k) (Some (f v)) None)
      go true r = refl
      go false r = r

-- a name that stands for something keeps it
pub kept_name : (m : Meanings) (d : Definition) (q : Name) → is_some (m d.name) ≡ true → m q ≡ with_definition m d q
kept_name m d q h = go (m q) (same_name q d.name) refl refl
  where
    go : (o : Option Defined) (b : Bool) → m q ≡ o → same_name q d.name ≡ b → o ≡ known_or o (cond b (Some d.defined) None)
    go (Some x) b e t = refl
    go None false e t = refl
    go None true e t = let same = (bytes_decides q d.name).0 t in let here : is_some (m q) ≡ true = rw same h in cc

-- ---- plain numbers among other names

known_or_none : (o : Option Defined) → known_or o None ≡ o
known_or_none None = refl
known_or_none (Some x) = refl

known_or_three : (a b c : Option Defined) → known_or a (known_or b c) ≡ known_or (known_or a b) c
known_or_three None b c = refl
known_or_three (Some x) b c = refl

none_of_both : (a b : Option Defined) → known_or a b ≡ None → (a ≡ None) × (b ≡ None)
none_of_both None b e = (refl, e)
none_of_both (Some x) b e = absurd cc

unknown : (o : Option Defined) → is_some o ≡ false → o ≡ None
unknown None e = refl
unknown (Some x) e = absurd cc

pub at_number : (t : Names) (name : Name) (n : ℕ) → number_of name ≡ Some n → meanings_of t name ≡ number_meaning t name n
unfolding meanings_of
at_number t name n e = ap (meaning_by t name) e

pub at_other_name : (t : Names) (name : Name) → number_of name ≡ None → meanings_of t name ≡ table_meanings t.named.entries name
unfolding meanings_of
at_other_name t name e = ap (meaning_by t name) e

-- how many definitions came so far decides nothing
pub same_tables : (t u : Names) → u.numbered.items ≡ t.numbered.items → u.far.entries ≡ t.far.entries → u.named.entries ≡ t.named.entries
    → meanings_of u ≡ meanings_of t
unfolding meanings_of
same_tables t u numbered far named = fun_ext (λ q. on q (number_of q))
  where
    on : (q : Name) (o : Option ℕ) → meaning_by u q o ≡ meaning_by t q o
    on q (Some n) =
        ap (λ locations. known_or (option_map defined_of (meaning_at locations n)) (table_meanings u.far.entries q)) numbered
        ∙ ap (λ es. known_or (option_map defined_of (meaning_at t.numbered.items n)) (table_meanings es q)) far
    on q None = ap (λ es. table_meanings es q) named

-- empty tables hold no names
pub no_names : (t : Names) → t.numbered.items ≡ [] → t.far.entries ≡ [] → t.named.entries ≡ [] → meanings_of t ≡ no_meaning
unfolding meanings_of
no_names t numbered far named = fun_ext (λ q. on q (number_of q))
  where
    on : (q : Name) (o : Option ℕ) → meaning_by t q o ≡ None
    on q (Some n) =
        ap (λ locations. known_or (option_map defined_of (meaning_at locations n)) (table_meanings t.far.entries q)) numbered
        ∙ ap (λ es. known_or (option_map defined_of (meaning_at [] n)) (table_meanings es q)) far
    on q None = ap (λ es. table_meanings es q) named

-- whether a plain number stands for something already
pub is_known : (t : Names) (name : Name) (n : ℕ) (r : Option code.Defined) (b c : Bool) → number_of name ≡ Some n
    → option_map defined_of r ≡ number_meaning t name n → b ≡ is_some r → b ≡ c → is_some (meanings_of t name) ≡ c
is_known t name n r b c e found is answer = ap is_some (at_number t name n e ∙ sym found) ∙ on r is
  where
    on : (r : Option code.Defined) → b ≡ is_some r → is_some (option_map defined_of r) ≡ c
    on None is = sym is ∙ answer
    on (Some x) is = sym is ∙ answer

-- a plain number that stands for nothing is none of those far above
pub far_unknown : (t : Names) (name : Name) (n : ℕ) → number_of name ≡ Some n → is_some (meanings_of t name) ≡ false
    → is_some (table_meanings t.far.entries name) ≡ is_some (meanings_of t name)
far_unknown t name n e h =
    let none = sym (at_number t name n e) ∙ unknown (meanings_of t name) h in
    let far = (none_of_both (option_map defined_of (meaning_at t.numbered.items n)) (table_meanings t.far.entries name) none).1 in
    ap is_some far ∙ sym h

-- the definition of another name changes nothing
other_name : (o : Option Defined) (q name : Name) (d : Option Defined) → (q ≡ name → ⊥) → o ≡ known_or o (cond (same_name q name) d None)
other_name o q name d other = go (same_name q name) (bytes_decides q name).0
  where
    go : (b : Bool) → (b ≡ true → q ≡ name) → o ≡ known_or o (cond b d None)
    go true same = absurd (other (same refl))
    go false same = sym (known_or_none o)

no_number : (q name : Name) (n : ℕ) → number_of q ≡ None → number_of name ≡ Some n → q ≡ name → ⊥
no_number q name n e f same = let h : None ≡ Some n = sym e ∙ ap number_of same ∙ f in cc

-- a plain number that stood for nothing is put at its location
pub number_put : (t u : Names) (name : Name) (n : ℕ) (d : code.Defined) → number_of name ≡ Some n → is_some (meanings_of t name) ≡ false
    → u.far.entries ≡ t.far.entries → u.named.entries ≡ t.named.entries
    → ((k : ℕ) → meaning_at u.numbered.items k ≡ cond (nat_eq n k) (Some d) (meaning_at t.numbered.items k))
    → meanings_of u ≡ with_definition (meanings_of t) (definition name d)
unfolding meanings_of
number_put t u name n d e h far named put = fun_ext (λ q. on q (number_of q) refl)
  where
    at : (q : Name) (m : ℕ) (b : Bool) → number_of q ≡ Some m → nat_eq n m ≡ b
        → number_meaning u q m ≡ known_or (number_meaning t q m) (cond (same_name q name) (Some (defined_of d)) None)
    at q m true f same =
        let name_same : q ≡ name = one_number q name n (f ∙ ap Some (sym (eqb-true n m same))) e in
        let here : meaning_at u.numbered.items m ≡ Some d = put m ∙ ap (λ b. cond b (Some d) (meaning_at t.numbered.items m)) same in
        let free : number_meaning t q m ≡ None = sym (at_number t q m f) ∙ ap (meanings_of t) name_same ∙ unknown (meanings_of t name) h in
        ap (λ o. known_or (option_map defined_of o) (table_meanings u.far.entries q)) here
        ∙ sym (ap (λ b. known_or None (cond b (Some (defined_of d)) None)) ((bytes_decides q name).1 name_same))
        ∙ sym (ap (λ o. known_or o (cond (same_name q name) (Some (defined_of d)) None)) free)
    at q m false f apart =
        let there : meaning_at u.numbered.items m ≡ meaning_at t.numbered.items m = put m ∙ ap (λ b. cond b (Some d) (meaning_at t.numbered.items m)) apart in
        ap (λ o. known_or (option_map defined_of o) (table_meanings u.far.entries q)) there
        ∙ ap (λ es. known_or (option_map defined_of (meaning_at t.numbered.items m)) (table_meanings es q)) far
        ∙ other_name (number_meaning t q m) q name (Some (defined_of d))
        (λ same. let one : n ≡ m = some_same n m (sym e ∙ ap number_of (sym same) ∙ f) in let both : true ≡ false = sym (eq-eqb n m one) ∙ apart in cc)

    on : (q : Name) (o : Option ℕ) → number_of q ≡ o
        → meaning_by u q o ≡ known_or (meaning_by t q o) (cond (same_name q name) (Some (defined_of d)) None)
    on q (Some m) f = at q m (nat_eq n m) f refl
    on q None f = ap (λ es. table_meanings es q) named ∙ other_name (table_meanings t.named.entries q) q name (Some (defined_of d)) (no_number q name n f e)

-- a plain number that stood for nothing is put among those far above
pub number_far : (t u : Names) (name : Name) (n : ℕ) (d : code.Defined) → number_of name ≡ Some n
    → u.numbered.items ≡ t.numbered.items → u.named.entries ≡ t.named.entries
    → table_meanings u.far.entries ≡ with_definition (table_meanings t.far.entries) (definition name d)
    → meanings_of u ≡ with_definition (meanings_of t) (definition name d)
unfolding meanings_of
number_far t u name n d e numbered named far = fun_ext (λ q. on q (number_of q) refl)
  where
    new : Name → Option Defined
    new q = cond (same_name q name) (Some (defined_of d)) None

    on : (q : Name) (o : Option ℕ) → number_of q ≡ o → meaning_by u q o ≡ known_or (meaning_by t q o) (new q)
    on q (Some m) f =
        ap (λ locations. known_or (option_map defined_of (meaning_at locations m)) (table_meanings u.far.entries q)) numbered
        ∙ ap (λ means. known_or (option_map defined_of (meaning_at t.numbered.items m)) (means q)) far
        ∙ known_or_three (option_map defined_of (meaning_at t.numbered.items m)) (table_meanings t.far.entries q) (new q)
    on q None f = ap (λ es. table_meanings es q) named ∙ other_name (table_meanings t.named.entries q) q name (Some (defined_of d)) (no_number q name n f e)

-- a name that is no plain number is put among its like
pub named_put : (t u : Names) (name : Name) (d : code.Defined) → number_of name ≡ None
    → u.numbered.items ≡ t.numbered.items → u.far.entries ≡ t.far.entries
    → table_meanings u.named.entries ≡ with_definition (table_meanings t.named.entries) (definition name d)
    → meanings_of u ≡ with_definition (meanings_of t) (definition name d)
unfolding meanings_of
named_put t u name d e numbered far named = fun_ext (λ q. on q (number_of q) refl)
  where
    on : (q : Name) (o : Option ℕ) → number_of q ≡ o
        → meaning_by u q o ≡ known_or (meaning_by t q o) (cond (same_name q name) (Some (defined_of d)) None)
    on q (Some m) f =
        ap (λ locations. known_or (option_map defined_of (meaning_at locations m)) (table_meanings u.far.entries q)) numbered
        ∙ ap (λ es. known_or (option_map defined_of (meaning_at t.numbered.items m)) (table_meanings es q)) far
        ∙ other_name (number_meaning t q m) q name (Some (defined_of d)) (λ same. no_number name q m e f (sym same))
    on q None f = ap (λ means. means q) named
