-- It is found where the first results of wires go, step by step.
use Rattle.std.proofs.Common.{◌≡◌, ◌⊎◌, ℕ, zero, suc, ◌+◌, ◌<◌, ◌≤◌, Bool, true, false, cond, nat_eq, List, [], ◌∷◌, ◌++◌, length, set, Some, None, nat_lt, refl, sym, ap, subst, ◌∙◌, arith, eq-eqb, inl, inr}
use Rattle.std.proofs.lemmas.Bool.{eqb-true, ltb-true, ltb-false}
use Rattle.wiring.specs.Wiring.{In}
use Rattle.wiring.proofs.Lists.{slice_get-set_same, slice_get-set_other}
use Rattle.wiring.proofs.Members.{In-append_left, In-append_right, In-append_cases}
use Rattle.hw_model.specs.Design.{Ref}
use Rattle.hw_model.specs.Design.Ref.{port, result, undefined}
use Rattle.aggregate_laws.specs.Leaves.{or_undefined, part}
use Rattle.aggregate_lower.specs.Targets.{is_flagged, with_number, target_ref, moved_ref, IsNamed, Places, AreSettled}
use Rattle.aggregate_lower.specs.Settling.{waiting_wire, IsOnPath, Settling, GoesOn, Followed, SettledBefore, wait_count}
use Rattle.aggregate_lower.proofs.WirePlaces.{flag_within}

-- ---- flags

-- what waits once one does not wait any more waited before
still_waits : (w : List Bool) (i j : ℕ) → is_flagged (set w i false) j ≡ true → is_flagged w j ≡ true
still_waits [] i j is = is
still_waits (b ∷ w) zero zero is = cc
still_waits (b ∷ w) zero (suc j) is = is
still_waits (b ∷ w) (suc i) zero is = is
still_waits (b ∷ w) (suc i) (suc j) is = still_waits w i j is

still_marked : (w : List Bool) (i j : ℕ) → is_flagged w j ≡ false → is_flagged (set w i false) j ≡ false
still_marked [] i j is = is
still_marked (b ∷ w) zero zero is = refl
still_marked (b ∷ w) zero (suc j) is = is
still_marked (b ∷ w) (suc i) zero is = is
still_marked (b ∷ w) (suc i) (suc j) is = still_marked w i j is

now_marked : (w : List Bool) (i : ℕ) → is_flagged (set w i false) i ≡ false
now_marked [] i = refl
now_marked (b ∷ w) zero = refl
now_marked (b ∷ w) (suc i) = now_marked w i

which_marked : (w : List Bool) (i j : ℕ) → is_flagged (set w i false) j ≡ false → (j ≡ i) ⊎ (is_flagged w j ≡ false)
which_marked [] i j is = inr is
which_marked (b ∷ w) zero zero is = inl refl
which_marked (b ∷ w) zero (suc j) is = inr is
which_marked (b ∷ w) (suc i) zero is = inr is
which_marked (b ∷ w) (suc i) (suc j) is = go (which_marked w i j is)
  where
    go : (j ≡ i) ⊎ (is_flagged w j ≡ false) → (suc j ≡ suc i) ⊎ (is_flagged w j ≡ false)
    go (inl same) = inl (ap suc same)
    go (inr marked) = inr marked

-- fewer wait
pub fewer_wait : (w : List Bool) (i : ℕ) → is_flagged w i ≡ true → wait_count (set w i false) < wait_count w
fewer_wait [] i is = cc
fewer_wait (true ∷ w) zero is = omega arith
fewer_wait (false ∷ w) zero is = cc
fewer_wait (true ∷ w) (suc i) is = let less = fewer_wait w i is in omega (arith, less)
fewer_wait (false ∷ w) (suc i) is = fewer_wait w i is

-- the wire that waits
pub waits_at : (w : List Bool) (r : Ref) (at : ℕ) → waiting_wire w r ≡ Some at → (r ≡ result at 0) × (is_flagged w at ≡ true)
waits_at w (port n) at is = cc
waits_at w undefined at is = cc
waits_at w (result i (suc k)) at is = cc
waits_at w (result i zero) at is = go (is_flagged w i) refl is
  where
    go : (b : Bool) → is_flagged w i ≡ b → cond b (Some i) None ≡ Some at → (result i 0 ≡ result at 0) × (is_flagged w at ≡ true)
    go false flag is = cc
    go true flag is = let same : i ≡ at = cc in (ap (λ x. result x 0) same, subst (λ x. is_flagged w x ≡ true) same flag)

waits_not : (w : List Bool) (j : ℕ) → waiting_wire w (result j 0) ≡ None → is_flagged w j ≡ false
waits_not w j = go (is_flagged w j)
  where
    go : (b : Bool) → cond b (Some j) None ≡ None → b ≡ false
    go false is = refl
    go true is = cc

-- ---- values in their positions

part_put : (now : List Ref) (i : ℕ) (v : Ref) → i < length now → part (set now i v) i ≡ v
part_put now i v within = ap or_undefined (slice_get-set_same now i v within)

part_other : (now : List Ref) (i j : ℕ) (v : Ref) → (j ≡ i → ⊥) → part (set now i v) j ≡ part now j
part_other now i j v other = ap or_undefined (slice_get-set_other now i j v other)

pub set_many : {A : Type 0} (xs : List A) (i : ℕ) (x : A) → length (set xs i x) ≡ length xs
set_many [] i x = refl
set_many (y ∷ ys) zero x = refl
set_many (y ∷ ys) (suc i) x = ap suc (set_many ys i x)

-- ---- steps

module _ (flags : List Bool) (ts : List Ref) (s : Places flags ts) where
  abbrev Step : List Bool → List Ref → List ℕ → Ref → Type 0
  Step = Settling flags ts s

  -- nothing is settled yet but what is no wire
  pub begins : (many : length ts ≡ length flags) (r : Ref) → IsNamed (length flags) r → Settling flags ts s flags ts [] r
  begins many r named = record {
    many = many;
    fewer = λ j is. is;
    waits = λ j is. refl;
    on_path = λ j here. absurd here;
    rest = λ j within is. inr (sym (s.kept_is j 0 within is));
    named = named;
  }

  -- with nothing on the path any value may come next
  pub anew : (waiting : List Bool) (now : List Ref) (r r' : Ref) → IsNamed (length flags) r' → Settling flags ts s waiting now [] r → Settling flags ts s waiting now [] r'
  anew waiting now r r' named so = record {
    many = so.many;
    fewer = so.fewer;
    waits = so.waits;
    on_path = λ j here. absurd here;
    rest = so.rest;
    named = named;
  }

  -- one more wire on the path
  module _ (waiting : List Bool) (now : List Ref) (path : List ℕ) (r : Ref) (at : ℕ) (so : Settling flags ts s waiting now path r) (takes : waiting_wire waiting r ≡ Some at) where
    r_is : r ≡ result at 0
    r_is = (waits_at waiting r at takes).0

    at_waits : is_flagged waiting at ≡ true
    at_waits = (waits_at waiting r at takes).1

    at_wire : is_flagged flags at ≡ true
    at_wire = so.fewer at at_waits

    carries : part now at ≡ part ts at
    carries = so.waits at at_waits

    goes : s.place (result at 0) ≡ s.place (part now at)
    goes = s.wire_is at at_wire ∙ ap s.place (sym carries)

    falls : s.height (part now at) < s.height (result at 0)
    falls = subst (λ x. s.height x < s.height (result at 0)) (sym carries) (s.lower at at_wire)

    path_more : (j : ℕ) → In j (path ++ at ∷ []) → IsOnPath flags ts s (set waiting at false) (part now at) j
    path_more j here = go (In-append_cases j path (at ∷ []) here)
      where
        go : In j path ⊎ In j (at ∷ []) → IsOnPath flags ts s (set waiting at false) (part now at) j
        go (inr (inr never)) = absurd never
        go (inr (inl same)) = subst (IsOnPath flags ts s (set waiting at false) (part now at)) (sym same) (record {
          is_wire = at_wire;
          marked = now_marked waiting at;
          same = goes;
          lower = falls;
        })
        go (inl before) =
            let known = so.on_path j before in
            let high : s.height r < s.height (result j 0) = known.lower in
            let level : s.height r ≡ s.height (result at 0) = ap s.height r_is in
            let down = falls in
            record {
              is_wire = known.is_wire;
              marked = still_marked waiting at j known.marked;
              same = known.same ∙ ap s.place r_is ∙ goes;
              lower = omega (arith, high, level, down);
            }

    rest_more : (j : ℕ) → j < length flags → is_flagged (set waiting at false) j ≡ false → In j (path ++ at ∷ []) ⊎ (part now j ≡ s.place (result j 0))
    rest_more j within is = go (which_marked waiting at j is)
      where
        old : In j path ⊎ (part now j ≡ s.place (result j 0)) → In j (path ++ at ∷ []) ⊎ (part now j ≡ s.place (result j 0))
        old (inl here) = inl (In-append_left j path (at ∷ []) here)
        old (inr settled) = inr settled

        go : (j ≡ at) ⊎ (is_flagged waiting j ≡ false) → In j (path ++ at ∷ []) ⊎ (part now j ≡ s.place (result j 0))
        go (inl same) = inl (In-append_right j path (at ∷ []) (inl same))
        go (inr marked) = old (so.rest j within marked)

    one_more : Settling flags ts s (set waiting at false) now (path ++ at ∷ []) (part now at)
    one_more = record {
      many = so.many;
      fewer = λ j is. so.fewer j (still_waits waiting at j is);
      waits = λ j is. so.waits j (still_waits waiting at j is);
      on_path = path_more;
      rest = rest_more;
      named = subst (IsNamed (length flags)) (sym carries) (s.named at at_wire);
    }

  pub goes_on : (before waiting : List Bool) (now : List Ref) (path : List ℕ) (start r : Ref) (at : ℕ) → waiting_wire waiting r ≡ Some at
      → GoesOn flags ts s before waiting now path start r → GoesOn flags ts s before (set waiting at false) now (path ++ at ∷ []) start (part now at)
  goes_on before waiting now path start r at takes so = record {
    settling = one_more waiting now path r at so.settling takes;
    less = λ j is. still_marked waiting at j (so.less j is);
    first = inr (λ j is. go j is so.first);
  }
    where
      go : (j : ℕ) → start ≡ result j 0 → (start ≡ r) ⊎ ((i : ℕ) → start ≡ result i 0 → is_flagged waiting i ≡ false) → is_flagged (set waiting at false) j ≡ false
      go j is (inr known) = still_marked waiting at j (known j is)
      go j is (inl same) =
          let equal : result j 0 ≡ result at 0 = sym is ∙ same ∙ r_is waiting now path r at so.settling takes in
          let number : at ≡ j = cc in
          subst (λ i. is_flagged (set waiting at false) i ≡ false) number (now_marked waiting at)

  -- the first value of a path that has ended is no result of a wire that waits
  pub first_marked : (before waiting : List Bool) (now : List Ref) (path : List ℕ) (j : ℕ) (last : Ref) → Followed flags ts s before waiting now path (result j 0) last → is_flagged waiting j ≡ false
  first_marked before waiting now path j last all = go all.goes.first
    where
      go : (result j 0 ≡ last) ⊎ ((i : ℕ) → result j 0 ≡ result i 0 → is_flagged waiting i ≡ false) → is_flagged waiting j ≡ false
      go (inr known) = known j refl
      go (inl same) = waits_not waiting j (ap (waiting_wire waiting) same ∙ all.none)

  -- ---- where the last value of a path goes

  pub last_place : (waiting : List Bool) (now : List Ref) (path : List ℕ) (r : Ref) → Settling flags ts s waiting now path r → waiting_wire waiting r ≡ None → moved_ref flags now r ≡ s.place r
  last_place waiting now path (port j) so none = sym (s.port_is j)
  last_place waiting now path undefined so none = sym s.undefined_is
  last_place waiting now path (result j zero) so none = go (so.rest j (so.named j 0 refl) (waits_not waiting j none))
    where
      go : In j path ⊎ (part now j ≡ s.place (result j 0)) → part now j ≡ s.place (result j 0)
      go (inr settled) = settled
      go (inl here) = let high : s.height (result j 0) < s.height (result j 0) = (so.on_path j here).lower in absurd (omega (arith, high))
  last_place waiting now path (result j (suc k)) so none = go (is_flagged flags j) refl
    where
      within : j < length flags
      within = so.named j (suc k) refl

      marked : is_flagged flags j ≡ false → is_flagged waiting j ≡ false
      marked is = it (is_flagged waiting j) refl
        where
          it : (b : Bool) → is_flagged waiting j ≡ b → b ≡ false
          it false flag = refl
          it true flag = let clash : true ≡ false = sym (so.fewer j flag) ∙ is in cc

      own : is_flagged flags j ≡ false → In j path ⊎ (part now j ≡ s.place (result j 0)) → part now j ≡ part ts j
      own is (inr settled) = settled ∙ s.kept_is j 0 within is
      own is (inl here) = let clash : true ≡ false = sym (so.on_path j here).is_wire ∙ is in cc

      go : (b : Bool) → is_flagged flags j ≡ b → target_ref (suc k) b (part now j) ≡ s.place (result j (suc k))
      go true is = sym (s.no_further j k is)
      go false is = ap (λ x. with_number x (suc k)) (own is (so.rest j within (marked is))) ∙ sym (s.kept_is j (suc k) within is)

  -- one wire less on the path
  pub one_settled : (waiting : List Bool) (now : List Ref) (path : List ℕ) (r : Ref) (at : ℕ) (v : Ref) → v ≡ s.place r → Settling flags ts s waiting now (path ++ at ∷ []) r
      → Settling flags ts s waiting (set now at v) path r
  one_settled waiting now path r at v v_is so = record {
    many = set_many now at v ∙ so.many;
    fewer = so.fewer;
    waits = λ j is. part_other now at j v (λ same. other j is same) ∙ so.waits j is;
    on_path = λ j here. so.on_path j (In-append_left j path (at ∷ []) here);
    rest = λ j within is. go j within is (nat_eq j at) refl;
    named = so.named;
  }
    where
      here_at : In at (path ++ at ∷ [])
      here_at = In-append_right at path (at ∷ []) (inl refl)

      other : (j : ℕ) → is_flagged waiting j ≡ true → j ≡ at → ⊥
      other j is same = let clash : true ≡ false = sym is ∙ ap (is_flagged waiting) same ∙ (so.on_path at here_at).marked in cc

      within_at : at < length now
      within_at = let below = flag_within flags at (so.on_path at here_at).is_wire in let many = so.many in omega (arith, below, many)

      settled_at : part (set now at v) at ≡ s.place (result at 0)
      settled_at = part_put now at v within_at ∙ v_is ∙ sym (so.on_path at here_at).same

      old : (j : ℕ) → (j ≡ at → ⊥) → In j (path ++ at ∷ []) ⊎ (part now j ≡ s.place (result j 0)) → In j path ⊎ (part (set now at v) j ≡ s.place (result j 0))
      old j apart (inr settled) = inr (part_other now at j v apart ∙ settled)
      old j apart (inl here) = it (In-append_cases j path (at ∷ []) here)
        where
          it : In j path ⊎ In j (at ∷ []) → In j path ⊎ (part (set now at v) j ≡ s.place (result j 0))
          it (inl among) = inl among
          it (inr (inl same)) = absurd (apart same)
          it (inr (inr never)) = absurd never

      go : (j : ℕ) → j < length flags → is_flagged waiting j ≡ false → (b : Bool) → nat_eq j at ≡ b → In j path ⊎ (part (set now at v) j ≡ s.place (result j 0))
      go j within is true same = inr (subst (λ i. part (set now at v) i ≡ s.place (result i 0)) (sym (eqb-true j at same)) settled_at)
      go j within is false apart = old j (λ same. let clash : true ≡ false = sym (equal same) ∙ apart in cc) (so.rest j within is)
        where
          equal : j ≡ at → nat_eq j at ≡ true
          equal same = eq-eqb j at same

  -- ---- one wire after another

  pub settled_none : (many : length ts ≡ length flags) → SettledBefore flags ts s flags ts 0
  settled_none many = record { settling = begins many; passed = λ j less. absurd (omega (arith, less)) }

  pub settled_more : (before waiting : List Bool) (old now : List Ref) (path : List ℕ) (n : ℕ) (last : Ref) → Followed flags ts s before waiting old path (result n 0) last
      → SettledBefore flags ts s before old n → Settling flags ts s waiting now [] last → SettledBefore flags ts s waiting now (n + 1)
  settled_more before waiting old now path n last all so after = record {
    settling = λ r named. anew waiting now last r named after;
    passed = λ j less. go j less (nat_eq j n) refl;
  }
    where
      go : (j : ℕ) → j < n + 1 → (b : Bool) → nat_eq j n ≡ b → is_flagged waiting j ≡ false
      go j less true same = subst (λ i. is_flagged waiting i ≡ false) (sym (eqb-true j n same)) (first_marked before waiting old path n last all)
      go j less false apart = all.goes.less j (so.passed j (lower j less apart))
        where
          lower : (j : ℕ) → j < n + 1 → nat_eq j n ≡ false → j < n
          lower j less apart = it (nat_lt j n) refl
            where
              it : (b : Bool) → nat_lt j n ≡ b → j < n
              it true is = ltb-true j n is
              it false is =
                  let past = ltb-false j n is in
                  let same : j ≡ n = omega (arith, less, past) in
                  let clash : true ≡ false = sym (eq-eqb j n same) ∙ apart in
                  cc

  pub all_settled : (waiting : List Bool) (now : List Ref) (n : ℕ) → length flags ≤ n → SettledBefore flags ts s waiting now n → AreSettled flags ts s now
  all_settled waiting now n past so = λ j within. go j ((so.settling undefined (λ i k is. cc)).rest j within (so.passed j (omega (arith, within, past))))
    where
      go : (j : ℕ) → In j [] ⊎ (part now j ≡ s.place (result j 0)) → part now j ≡ s.place (result j 0)
      go j (inl never) = absurd never
      go j (inr settled) = settled

  -- ---- values once all is settled

  pub moved_place : (now : List Ref) → AreSettled flags ts s now → (r : Ref) → IsNamed (length flags) r → moved_ref flags now r ≡ s.place r
  moved_place now settled (port j) named = sym (s.port_is j)
  moved_place now settled undefined named = sym s.undefined_is
  moved_place now settled (result j zero) named = settled j (named j 0 refl)
  moved_place now settled (result j (suc k)) named = go (is_flagged flags j) refl
    where
      within : j < length flags
      within = named j (suc k) refl

      go : (b : Bool) → is_flagged flags j ≡ b → target_ref (suc k) b (part now j) ≡ s.place (result j (suc k))
      go true is = sym (s.no_further j k is)
      go false is = ap (λ x. with_number x (suc k)) (settled j within ∙ s.kept_is j 0 within is) ∙ sym (s.kept_is j (suc k) within is)
