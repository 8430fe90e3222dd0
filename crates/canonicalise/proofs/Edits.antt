-- What each edit keeps of the other operations, and what two edits keep, one after the other.
use Rattle.std.proofs.Common.{◌≡◌, ◌⊎◌, ℕ, zero, suc, ◌+◌, ◌≤◌, List, length, map, map-id, set, Option, Some, None, slice_get, refl, sym, ap, subst, ◌∙◌, inl, inr, arith, option_map}
use Rattle.std.specs.List.{remove}
use Rattle.std.proofs.lemmas.List.{length-map}
use Rattle.std.proofs.lemmas.Option.{slice_get-map}
use Rattle.wiring.proofs.Lists.{map-map, slice_get-set_other}
use Rattle.hw_model.specs.Design.{Ref, Op}
use Rattle.hw_model.specs.Design.Ref.{result, undefined}
use Rattle.edit_laws.specs.Edit.{retarget}
use Rattle.edit_laws.specs.Laws.{up, down, up_ref, without, ref_after_erase, erase_op, insert_op}
use Rattle.edit_laws.proofs.Positions.{down-up, up_from_down, down_none, get_put, get_taken}
use Rattle.fold_laws.specs.Nested.{uses_among, use_count}
use Rattle.fold_laws.proofs.NestedUses.{uses-set}
use Rattle.canonicalise.specs.Kept.{Keeps}
use Rattle.canonicalise.proofs.Counts.{named_count, count_put, count_taken}

-- ---- an operation changes in its place

retarget_id : (o : Op) → retarget (λ (r : Ref). r) o ≡ o
retarget_id o = ap (λ rs. record o { operands = rs }) (map-id o.operands)

same_op : (x : Option Op) → x ≡ option_map (retarget (λ (r : Ref). r)) x
same_op None = refl
same_op (Some o) = ap Some (sym (retarget_id o))

pub keeps_set : (os : List Op) (i : ℕ) (old new : Op) → slice_get os i ≡ Some old
    → Keeps (λ j. j ≡ i) (λ r. r) (λ j. j) (λ j. uses_among j old.operands) (λ j. uses_among j new.operands) os (set os i new)
keeps_set os i old new there = record {
  ops = λ j other. slice_get-set_other os i j new other ∙ same_op (slice_get os j);
  ports = λ n. refl;
  nothing = refl;
  results = λ j k other. refl;
  apart = λ j k one two same. same;
  uses = λ j other. omega (arith, uses-set j os i old new there);
}

-- ---- an operation goes

abbrev pub or_zero : Option ℕ → ℕ
or_zero None = 0
or_zero (Some n) = n

-- where position j is once position k is taken out
unfoldable pub pulled : ℕ → ℕ → ℕ
pulled k j = or_zero (down k j)

pub pulled_is : (k j : ℕ) → (j ≡ k → ⊥) → down k j ≡ Some (pulled k j)
unfolding pulled
pulled_is k j other = go (down k j) refl
  where
    go : (x : Option ℕ) → down k j ≡ x → x ≡ Some (or_zero x)
    go None is = absurd (other (down_none k j is))
    go (Some n) is = refl

-- two positions that stay stand one after the other
pub pulled_suc : (k j : ℕ) → (j ≡ k → ⊥) → (suc j ≡ k → ⊥) → pulled k (suc j) ≡ suc (pulled k j)
unfolding pulled
pulled_suc zero zero other next = absurd (other refl)
pulled_suc zero (suc j) other next = refl
pulled_suc (suc zero) zero other next = absurd (next refl)
pulled_suc (suc (suc k)) zero other next = refl
pulled_suc (suc k) (suc j) other next =
    let one : j ≡ k → ⊥ = (λ same. other (ap suc same)) in
    let two : suc j ≡ k → ⊥ = (λ same. next (ap suc same)) in
    ap (λ x. or_zero (option_map suc x)) (pulled_is k (suc j) two) ∙ ap suc (pulled_suc k j one two) ∙ sym (ap (λ x. suc (or_zero (option_map suc x))) (pulled_is k j one))

pub up_suc : (i j : ℕ) → (suc j ≡ i → ⊥) → up i (suc j) ≡ suc (up i j)
up_suc zero j other = refl
up_suc (suc zero) zero other = absurd (other refl)
up_suc (suc (suc i)) zero other = refl
up_suc (suc i) (suc j) other = ap suc (up_suc i j (λ same. other (ap suc same)))

pub pulled_up : (k j : ℕ) → pulled k (up k j) ≡ j
unfolding pulled
pulled_up k j = ap or_zero (down-up k j)

pub keeps_erase : (os : List Op) (k : ℕ) (c : Op) (x : Ref) → slice_get os k ≡ Some c
    → Keeps (λ j. j ≡ k) (without k (without k undefined x)) (pulled k) (λ j. uses_among j c.operands) (λ j. 0) os (erase_op k x os)
keeps_erase os k c x there = record {
  ops = λ j other. slice_get-map (retarget (without k (without k undefined x))) (remove os k) (pulled k j)
      ∙ ap (option_map (retarget (without k (without k undefined x)))) (get_taken os k j (pulled k j) (pulled_is k j other));
  ports = λ n. refl;
  nothing = refl;
  results = named;
  apart = λ i j one two same. sym (up_from_down k i (pulled k i) (pulled_is k i one)) ∙ ap (up k) same ∙ up_from_down k j (pulled k j) (pulled_is k j two);
  uses = λ j other.
      let all : use_count j os ≡ uses_among j c.operands + use_count j (remove os k) = count_taken j os k c there in
      let left : use_count j (remove os k) ≤ use_count (pulled k j) (erase_op k x os) =
      named_count (without k (without k undefined x)) j (pulled k j) (λ n. named j n other) (remove os k) in
      omega (arith, all, left);
}
  where
    named : (j n : ℕ) → (j ≡ k → ⊥) → without k (without k undefined x) (result j n) ≡ result (pulled k j) n
    named j n other = ap (λ y. ref_after_erase y (without k undefined x) n) (pulled_is k j other)

-- ---- an operation is put in

up_apart : (i j k : ℕ) → up i j ≡ up i k → j ≡ k
up_apart i j k same = let one : Some j ≡ Some k = sym (down-up i j) ∙ ap (down i) same ∙ down-up i k in cc

pub keeps_put : (os : List Op) (i : ℕ) (c : Op) → i ≤ length os → Keeps (λ j. ⊥) (up_ref i) (up i) (λ j. 0) (λ j. 0) os (insert_op i c os)
keeps_put os i c within = record {
  ops = λ j other. get_put (map (retarget (up_ref i)) os) i j (retarget (up_ref i) c) mapped ∙ slice_get-map (retarget (up_ref i)) os j;
  ports = λ n. refl;
  nothing = refl;
  results = λ j k other. refl;
  apart = λ j k one two same. up_apart i j k same;
  uses = λ j other.
      let all : use_count (up i j) (insert_op i c os) ≡ uses_among (up i j) (map (up_ref i) c.operands) + use_count (up i j) (map (retarget (up_ref i)) os) =
      count_put (up i j) (map (retarget (up_ref i)) os) i (retarget (up_ref i) c) mapped in
      let most : use_count j os ≤ use_count (up i j) (map (retarget (up_ref i)) os) = named_count (up_ref i) j (up i j) (λ n. refl) os in
      omega (arith, all, most);
}
  where
    mapped : i ≤ length (map (retarget (up_ref i)) os)
    mapped = subst (λ n. i ≤ n) (sym (length-map os (retarget (up_ref i)))) within

-- ---- one after the other

retarget_then : (f g : Ref → Ref) (x : Option Op) → option_map (retarget g) (option_map (retarget f) x) ≡ option_map (retarget (λ r. g (f r))) x
retarget_then f g None = refl
retarget_then f g (Some o) = ap (λ rs. Some (record o { operands = rs })) (map-map g f o.operands)

pub keeps_then : (gone more : ℕ → Type 0) (name next : Ref → Ref) (position further : ℕ → ℕ) (lost gained lost' gained' : ℕ → ℕ) (os mid os' : List Op)
    → Keeps gone name position lost gained os mid → Keeps more next further lost' gained' mid os'
    → Keeps (λ j. gone j ⊎ more (position j)) (λ r. next (name r)) (λ j. further (position j)) (λ j. lost j + lost' (position j)) (λ j. gained j + gained' (position j)) os os'
keeps_then gone more name next position further lost gained lost' gained' os mid os' one two = record {
  ops = λ j stays. two.ops (position j) (λ away. stays (inr away)) ∙ ap (option_map (retarget next)) (one.ops j (λ away. stays (inl away))) ∙ retarget_then name next (slice_get os j);
  ports = λ n. ap next (one.ports n) ∙ two.ports n;
  nothing = ap next one.nothing ∙ two.nothing;
  results = λ j k stays. ap next (one.results j k (λ away. stays (inl away))) ∙ two.results (position j) k (λ away. stays (inr away));
  apart = λ j k here there same.
      one.apart j k (λ away. here (inl away)) (λ away. there (inl away)) (two.apart (position j) (position k) (λ away. here (inr away)) (λ away. there (inr away)) same);
  uses = λ j stays. omega (arith, one.uses j (λ away. stays (inl away)), two.uses (position j) (λ away. stays (inr away)));
}

-- less may be known to be kept
pub keeps_more : (gone more : ℕ → Type 0) (name : Ref → Ref) (position : ℕ → ℕ) (lost gained : ℕ → ℕ) (os os' : List Op) → ((j : ℕ) → gone j → more j)
    → Keeps gone name position lost gained os os' → Keeps more name position lost gained os os'
keeps_more gone more name position lost gained os os' within k = record {
  ops = λ j stays. k.ops j (λ away. stays (within j away));
  ports = k.ports;
  nothing = k.nothing;
  results = λ j n stays. k.results j n (λ away. stays (within j away));
  apart = λ j n here there same. k.apart j n (λ away. here (within j away)) (λ away. there (within n away)) same;
  uses = λ j stays. k.uses j (λ away. stays (within j away));
}
