-- Bodies of a design that are taken out, worked and put back.
use Rattle.std.proofs.Common.{◌≡◌, ℕ, suc, ◌+◌, ◌<◌, ◌≤◌, List, [], ◌∷◌, ◌++◌, length, map, option_map, Some, slice_get, refl, sym, ap, ap₂, subst, ◌∙◌, arith}
use Rattle.std.proofs.lemmas.List.{length-append, length-map, append_assoc, append-nil, map-append}
use Rattle.std.proofs.lemmas.Option.{slice_get-map}
use Rattle.hw_model.specs.Design.{Op}
use Rattle.acceptance_laws.specs.Keeps.{IsFit}
use Rattle.ir_store.specs.declared.body.Body.{Body}
use Rattle.ir_store.specs.BodyOps.{BodyOp}
use Rattle.ir_store.specs.Bodies.{ops_of}
use Rattle.ir_store.specs.Designs.{StoredModule, numbered_module, with_ops}
use Rattle.ir_store.specs.Numbered.{ops_by_position}
use Rattle.body_edits.specs.Views.{body_ops}
use Rattle.pass_manager.specs.Results.{AreModulesBy}
use Rattle.pass_manager.specs.Works.{with_bodies, without_bodies, IsFirst, IsMade}
use Rattle.pass_manager.proofs.ChangedBodies.{of_fit}

-- ---- one body of a design

with_ops_here : (prefix : List StoredModule) (ops : List BodyOp) (m : StoredModule) (back : List StoredModule) → with_ops (length prefix) ops (prefix ++ m ∷ back) ≡ prefix ++ record m { ops = ops } ∷ back
with_ops_here [] ops m back = refl
with_ops_here (x ∷ prefix) ops m back = ap (λ zs. x ∷ zs) (with_ops_here prefix ops m back)

ops_here : (prefix : List StoredModule) (m : StoredModule) (back : List StoredModule) → slice_get (map (λ (one : StoredModule). one.ops) (prefix ++ m ∷ back)) (length prefix) ≡ Some m.ops
ops_here [] m back = refl
ops_here (x ∷ prefix) m back = ops_here prefix m back

-- ---- bodies taken out

-- the first modules of a design have lost their bodies, which have these operations
pub record IsTaking (whole now : List StoredModule) (taken : List (List BodyOp)) (number : ℕ) : Type 0 where
  pub prefix : List StoredModule
  pub back : List StoredModule
  pub parts : whole ≡ prefix ++ back
  pub is : now ≡ without_bodies prefix ++ back
  pub bodies : taken ≡ map (λ (m : StoredModule). m.ops) prefix
  pub size : length prefix ≡ number

pub taking_none : (whole : List StoredModule) → IsTaking whole whole [] 0
taking_none whole = record { prefix = []; back = whole; parts = refl; is = refl; bodies = refl; size = refl }

pub taking_within : (whole now : List StoredModule) (taken : List (List BodyOp)) (number : ℕ) → IsTaking whole now taken number → length now ≡ length whole
taking_within whole now taken number t =
    let one : length now ≡ length (without_bodies t.prefix ++ t.back) = ap length t.is in
    let two : length (without_bodies t.prefix ++ t.back) ≡ length (without_bodies t.prefix) + length t.back = length-append (without_bodies t.prefix) t.back in
    let three : length (without_bodies t.prefix) ≡ length t.prefix = length-map t.prefix (λ (m : StoredModule). record m { ops = [] }) in
    let four : length whole ≡ length (t.prefix ++ t.back) = ap length t.parts in
    let five : length (t.prefix ++ t.back) ≡ length t.prefix + length t.back = length-append t.prefix t.back in
    omega (arith, one, two, three, four, five)

pub taking_more : (whole now next : List StoredModule) (taken : List (List BodyOp)) (number : ℕ) (ops : List BodyOp) → IsTaking whole now taken number → number < length whole
    → Some ops ≡ slice_get (map (λ (m : StoredModule). m.ops) now) number → next ≡ with_ops number [] now → IsTaking whole next (taken ++ ops ∷ []) (number + 1)
taking_more whole now next taken number ops t below at is = go t.back refl
  where
    count : length (without_bodies t.prefix) ≡ number
    count = length-map t.prefix (λ (m : StoredModule). record m { ops = [] }) ∙ t.size

    go : (back : List StoredModule) → t.back ≡ back → IsTaking whole next (taken ++ ops ∷ []) (number + 1)
    go [] none =
        let one : length whole ≡ length (t.prefix ++ t.back) = ap length t.parts in
        let two : length (t.prefix ++ t.back) ≡ length t.prefix + length t.back = length-append t.prefix t.back in
        let three : length t.back ≡ 0 = ap length none in
        absurd (omega (arith, one, two, three, below, t.size))
    go (m ∷ back) some =
        let now_is : now ≡ (without_bodies t.prefix) ++ m ∷ back = t.is ∙ ap (λ zs. (without_bodies t.prefix) ++ zs) some in
        let found : slice_get (map (λ (x : StoredModule). x.ops) now) number ≡ Some m.ops =
        ap₂ (λ zs k. slice_get (map (λ (x : StoredModule). x.ops) zs) k) now_is (sym count) ∙ ops_here (without_bodies t.prefix) m back in
        let both : Some ops ≡ Some m.ops = at ∙ found in
        let same : ops ≡ m.ops = cc in
        record {
          prefix = t.prefix ++ m ∷ [];
          back = back;
          parts = t.parts ∙ ap (λ zs. t.prefix ++ zs) some ∙ sym (append_assoc t.prefix (m ∷ []) back);
          is = is ∙ ap₂ (λ k zs. with_ops k [] zs) (sym count) now_is ∙ with_ops_here (without_bodies t.prefix) [] m back
              ∙ sym (append_assoc (without_bodies t.prefix) (record m { ops = [] } ∷ []) back)
              ∙ ap (λ zs. zs ++ back) (sym (map-append (λ (x : StoredModule). record x { ops = [] }) t.prefix (m ∷ [])));
          bodies = ap₂ (λ a b. a ++ b ∷ []) t.bodies same ∙ sym (map-append (λ (x : StoredModule). x.ops) t.prefix (m ∷ []));
          size = let sum : length (t.prefix ++ m ∷ []) ≡ length t.prefix + 1 = length-append t.prefix (m ∷ []) in omega (arith, sum, t.size);
        }

no_back : (prefix back : List StoredModule) (number : ℕ) → length prefix ≡ number → length (prefix ++ back) ≤ number → back ≡ []
no_back prefix [] number size most = refl
no_back prefix (m ∷ back) number size most =
    let sum : length (prefix ++ m ∷ back) ≡ length prefix + suc (length back) = length-append prefix (m ∷ back) in
    absurd (omega (arith, sum, size, most))

pub taking_ends : (whole now : List StoredModule) (taken : List (List BodyOp)) (number : ℕ) → IsTaking whole now taken number → length whole ≤ number
    → (taken ≡ map (λ (m : StoredModule). m.ops) whole) × (now ≡ without_bodies whole)
taking_ends whole now taken number t most =
    let none : t.back ≡ [] = no_back t.prefix t.back number t.size (subst (λ zs. length zs ≤ number) t.parts most) in
    let all : whole ≡ t.prefix = t.parts ∙ ap (λ zs. t.prefix ++ zs) none ∙ append-nil t.prefix in (
      t.bodies ∙ ap (map (λ (m : StoredModule). m.ops)) (sym all),
      t.is ∙ ap (λ zs. without_bodies t.prefix ++ zs) none ∙ append-nil (without_bodies t.prefix) ∙ ap without_bodies (sym all),
    )

-- ---- bodies put back

with_bodies_more : (bs : List (List BodyOp)) (ms : List StoredModule) (ops : List BodyOp) (m : StoredModule) → length bs ≡ length ms
    → with_bodies (bs ++ ops ∷ []) (ms ++ m ∷ []) ≡ with_bodies bs ms ++ record m { ops = ops } ∷ []
with_bodies_more [] [] ops m same = refl
with_bodies_more [] (x ∷ ms) ops m same = absurd (omega (arith, same))
with_bodies_more (b ∷ bs) [] ops m same = absurd (omega (arith, same))
with_bodies_more (b ∷ bs) (x ∷ ms) ops m same = ap (λ zs. record x { ops = b } ∷ zs) (with_bodies_more bs ms ops m (omega (arith, same)))

length-with_bodies : (bs : List (List BodyOp)) (ms : List StoredModule) → length (with_bodies bs ms) ≡ length ms
length-with_bodies [] ms = refl
length-with_bodies (b ∷ bs) [] = refl
length-with_bodies (b ∷ bs) (m ∷ ms) = ap suc (length-with_bodies bs ms)

-- the first modules of a design have the first of the bodies, and the rest is to be put
pub record IsPutting (whole now : List StoredModule) (all rest : List (List BodyOp)) (number : ℕ) : Type 0 where
  pub prefix : List StoredModule
  pub back : List StoredModule
  pub put : List (List BodyOp)
  pub parts : whole ≡ prefix ++ back
  pub bodies : all ≡ put ++ rest
  pub is : now ≡ with_bodies put prefix ++ back
  pub size : length prefix ≡ number
  pub count : length put ≡ number

pub putting_none : (whole : List StoredModule) (all : List (List BodyOp)) → IsPutting whole whole all all 0
putting_none whole all = record { prefix = []; back = whole; put = []; parts = refl; bodies = refl; is = refl; size = refl; count = refl }

pub putting_more : (whole now next : List StoredModule) (all rest : List (List BodyOp)) (number : ℕ) (ops : List BodyOp) → length all ≡ length whole
    → IsPutting whole now all (ops ∷ rest) number → next ≡ with_ops number ops now → IsPutting whole next all rest (number + 1)
putting_more whole now next all rest number ops equal p is = go p.back refl
  where
    go : (back : List StoredModule) → p.back ≡ back → IsPutting whole next all rest (number + 1)
    go [] none =
        let one : length whole ≡ length (p.prefix ++ p.back) = ap length p.parts in
        let two : length (p.prefix ++ p.back) ≡ length p.prefix + length p.back = length-append p.prefix p.back in
        let three : length p.back ≡ 0 = ap length none in
        let four : length all ≡ length (p.put ++ ops ∷ rest) = ap length p.bodies in
        let five : length (p.put ++ ops ∷ rest) ≡ length p.put + suc (length rest) = length-append p.put (ops ∷ rest) in
        absurd (omega (arith, one, two, three, four, five, equal, p.size, p.count))
    go (m ∷ back) some =
        let now_is : now ≡ with_bodies p.put p.prefix ++ m ∷ back = p.is ∙ ap (λ zs. with_bodies p.put p.prefix ++ zs) some in
        let here : number ≡ length (with_bodies p.put p.prefix) = sym (length-with_bodies p.put p.prefix ∙ p.size) in
        record {
          prefix = p.prefix ++ m ∷ [];
          back = back;
          put = p.put ++ ops ∷ [];
          parts = p.parts ∙ ap (λ zs. p.prefix ++ zs) some ∙ sym (append_assoc p.prefix (m ∷ []) back);
          bodies = p.bodies ∙ sym (append_assoc p.put (ops ∷ []) rest);
          is = is ∙ ap₂ (λ k zs. with_ops k ops zs) here now_is ∙ with_ops_here (with_bodies p.put p.prefix) ops m back
              ∙ sym (append_assoc (with_bodies p.put p.prefix) (record m { ops = ops } ∷ []) back)
              ∙ ap (λ zs. zs ++ back) (sym (with_bodies_more p.put p.prefix ops m (p.count ∙ sym p.size)));
          size = let sum : length (p.prefix ++ m ∷ []) ≡ length p.prefix + 1 = length-append p.prefix (m ∷ []) in omega (arith, sum, p.size);
          count = let sum : length (p.put ++ ops ∷ []) ≡ length p.put + 1 = length-append p.put (ops ∷ []) in omega (arith, sum, p.count);
        }

-- a module is there for each body that is left
pub putting_within : (whole now : List StoredModule) (all rest : List (List BodyOp)) (number : ℕ) → length all ≡ length whole → IsPutting whole now all rest number
    → (number + length rest ≡ length whole) × (length now ≡ length whole)
putting_within whole now all rest number equal p =
    let one : length whole ≡ length (p.prefix ++ p.back) = ap length p.parts in
    let two : length (p.prefix ++ p.back) ≡ length p.prefix + length p.back = length-append p.prefix p.back in
    let three : length all ≡ length (p.put ++ rest) = ap length p.bodies in
    let four : length (p.put ++ rest) ≡ length p.put + length rest = length-append p.put rest in
    let five : length now ≡ length (with_bodies p.put p.prefix ++ p.back) = ap length p.is in
    let six : length (with_bodies p.put p.prefix ++ p.back) ≡ length (with_bodies p.put p.prefix) + length p.back = length-append (with_bodies p.put p.prefix) p.back in
    let seven : length (with_bodies p.put p.prefix) ≡ length p.prefix = length-with_bodies p.put p.prefix in
    (omega (arith, one, two, three, four, equal, p.size, p.count), omega (arith, one, two, five, six, seven))

pub putting_ends : (whole now : List StoredModule) (all : List (List BodyOp)) (number : ℕ) → length all ≡ length whole → IsPutting whole now all [] number → now ≡ with_bodies all whole
putting_ends whole now all number equal p =
    let within = putting_within whole now all [] number equal p in
    let none : p.back ≡ [] = no_back p.prefix p.back number p.size (let one : length (p.prefix ++ p.back) ≡ length whole = ap length (sym p.parts) in let two = within.0 in omega (arith, one, two)) in
    p.is ∙ ap (λ zs. with_bodies p.put p.prefix ++ zs) none ∙ append-nil (with_bodies p.put p.prefix)
    ∙ sym (ap₂ with_bodies (p.bodies ∙ append-nil p.put) (p.parts ∙ ap (λ zs. p.prefix ++ zs) none ∙ append-nil p.prefix))

-- ---- what is made of them

-- it does not matter which bodies there were
bodies_over : (bs : List (List BodyOp)) (ms : List StoredModule) → length bs ≡ length ms → with_bodies bs (without_bodies ms) ≡ with_bodies bs ms
bodies_over [] [] same = refl
bodies_over [] (m ∷ ms) same = absurd (omega (arith, same))
bodies_over (b ∷ bs) [] same = refl
bodies_over (b ∷ bs) (m ∷ ms) same = ap (λ zs. record m { ops = b } ∷ zs) (bodies_over bs ms (omega (arith, same)))

module _ (Makes : List Op → List Op → Type 0) where
  made_each : (ms : List StoredModule) (before done : List Body) → map ops_of before ≡ map (λ (m : StoredModule). m.ops) ms → length done ≡ length before
      → ((i : ℕ) (b : Body) → slice_get done i ≡ Some b → IsMade Makes before i b) → AreModulesBy Makes (map numbered_module ms) (map numbered_module (with_bodies (map ops_of done) ms))
  unfolding body_ops
  made_each [] [] [] are size each = tt
  made_each [] [] (n ∷ done) are size each = absurd (omega (arith, size))
  made_each [] (b ∷ before) done are size each = cc
  made_each (m ∷ ms) [] done are size each = cc
  made_each (m ∷ ms) (b ∷ before) [] are size each = absurd (omega (arith, size))
  made_each (m ∷ ms) (b ∷ before) (n ∷ done) are size each =
      let first : ops_of b ≡ m.ops = ap (λ zs. head_or [] zs) are in (
        record { kept = refl; made = subst (λ ops. Makes (ops_by_position ops) (ops_by_position (ops_of n))) first (each 0 n refl b refl) },
        made_each ms before done (ap tail_of are) (omega (arith, size)) (λ i x at old was. each (suc i) x at old was),
      )
    where
      head_or : List BodyOp → List (List BodyOp) → List BodyOp
      head_or x [] = x
      head_or x (y ∷ ys) = y

      tail_of : List (List BodyOp) → List (List BodyOp)
      tail_of [] = []
      tail_of (y ∷ ys) = ys

  -- the design once the bodies that were taken out and worked are put back
  pub all_made : (ms emptied new : List StoredModule) (before done : List Body) → map ops_of before ≡ map (λ (m : StoredModule). m.ops) ms → emptied ≡ without_bodies ms
      → length done ≡ length before → ((i : ℕ) (b : Body) → slice_get done i ≡ Some b → IsMade Makes before i b) → new ≡ with_bodies (map ops_of done) emptied
      → AreModulesBy Makes (map numbered_module ms) (map numbered_module new)
  all_made ms emptied new before done are without size each is =
      let count : length (map ops_of done) ≡ length ms =
      (let one : length (map ops_of done) ≡ length done = length-map done ops_of in
      let two : length (map ops_of before) ≡ length before = length-map before ops_of in
      let three : length (map ops_of before) ≡ length (map (λ (m : StoredModule). m.ops) ms) = ap length are in
      let four : length (map (λ (m : StoredModule). m.ops) ms) ≡ length ms = length-map ms (λ (m : StoredModule). m.ops) in
      omega (arith, one, two, three, four, size)) in
      subst (λ zs. AreModulesBy Makes (map numbered_module ms) (map numbered_module zs))
      (sym (is ∙ ap (with_bodies (map ops_of done)) without ∙ bodies_over (map ops_of done) ms count)) (made_each ms before done are size each)

-- each body that is taken out of a fit design is the first of its module
pub each_first : (ms : List StoredModule) (before : List Body) → IsFit (map numbered_module ms) → map ops_of before ≡ map (λ (m : StoredModule). m.ops) ms
    → (i : ℕ) (b : Body) → slice_get before i ≡ Some b → IsFirst before i b
each_first ms before fit are i b at = record {
  there = at;
  fit = of_fit ms i b fit (sym (ap (option_map ops_of) at) ∙ sym (slice_get-map ops_of before i) ∙ ap (λ zs. slice_get zs i) are);
}

pub count_taken : (ms : List StoredModule) (before : List Body) → map ops_of before ≡ map (λ (m : StoredModule). m.ops) ms → length before ≡ length ms
count_taken ms before are = sym (length-map before ops_of) ∙ ap length are ∙ length-map ms (λ (m : StoredModule). m.ops)

pub count_emptied : (ms : List StoredModule) → length (without_bodies ms) ≡ length ms
count_emptied ms = length-map ms (λ (m : StoredModule). record m { ops = [] })
