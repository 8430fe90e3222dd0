-- What gates are told while workers go on.
use Rattle.std.proofs.Common.{◌≡◌, ℕ, ◌+◌, ◌-◌, ◌<◌, ◌≤◌, ◌⊎◌, Bool, true, false, ◌&&◌, List, [], ◌∷◌, ◌++◌, Option, Some, None, refl, sym, ap, ◌∙◌, inl, inr, append_assoc, arith}
use Rattle.std.specs.Prelude.{◌==◌, nat_lt, option_map}
use Rattle.std.proofs.lemmas.Bool.{cases_lt, ne_eqb, lt-ltb, le-ltb}
use Rattle.sched_core.specs.Sums.{one_if}
use Rattle.shared_schedule.specs.declared.view.Hold.TheVariants.{Begun, Over}
use Rattle.shared_schedule.specs.declared.view.View.{View}
use Rattle.shared_schedule.specs.Views.{done_times}
use Rattle.shared_schedule.specs.Plays.{drawn}
use Rattle.shared_schedule.specs.Working.{times}
use Rattle.shared_schedule.specs.Visits.{History, with_visits, with_handle, no_visits, gathered, VisitsEach, HasVisited}
use Rattle.shared_schedule.proofs.Working.{times-append, append-none}
use Rattle.shared_schedule.proofs.Joining.{done_times-append}

-- ---- histories

with_both : (xs ys : List ℕ) (o : Option History) → option_map (with_visits ys) (option_map (with_visits xs) o) ≡ option_map (with_visits (xs ++ ys)) o
with_both xs ys None = refl
with_both xs ys (Some h) = ap (λ (vs : List ℕ). Some (record { visits = vs; lent = h.lent })) (append_assoc h.visits xs ys)

with_none : (o : Option History) → option_map (with_visits []) o ≡ o
with_none None = refl
with_none (Some h) = ap (λ (vs : List ℕ). Some (record { visits = vs; lent = h.lent })) (append-none h.visits)

-- a handle was taken and came back, and both were told of modules meanwhile
gathered_both : (xs ys : List ℕ) (o : Option History) → gathered (option_map (with_visits xs) (option_map with_handle o)) (option_map (with_visits ys) (option_map no_visits o)) ≡ option_map (with_visits (xs ++ ys)) o
gathered_both xs ys None = refl
gathered_both xs ys (Some h) =
    let count : h.lent + 1 + 0 - 1 ≡ h.lent = omega arith in
    let all : (h.visits ++ xs) ++ ([] ++ ys) ≡ h.visits ++ (xs ++ ys) = append_assoc h.visits xs ys in
    (λ i. Some (record { visits = all i; lent = count i }))

-- ---- what workers did

not_over : (b : Bool) (n : ℕ) → one_if (b && false) + n ≡ n
not_over true n = omega arith
not_over false n = omega arith

over_one : (b : Bool) (n : ℕ) → one_if (b && true) + n ≡ n + one_if b
over_one true n = omega arith
over_one false n = omega arith

-- ---- visits

pub visited-then : {P : Type 0} (n : ℕ) (u v w : View P) (a b c : Option History) → HasVisited n u v a b → HasVisited n v w b c → HasVisited n u w a c
visited-then n u v w a b c first then = record {
  visits = first.visits ++ then.visits;
  are = then.are ∙ ap (option_map (with_visits then.visits)) first.are ∙ with_both first.visits then.visits a;
  each = λ m. (let both : times m (first.visits ++ then.visits) ≡ times m first.visits + times m then.visits = times-append m first.visits then.visits in omega (arith, first.each m, then.each m));
  within = λ m past. (let both : times m (first.visits ++ then.visits) ≡ times m first.visits + times m then.visits = times-append m first.visits then.visits in omega (arith, first.within m past, then.within m past));
}

-- nothing is over, and nothing is told
pub visited-none : {P : Type 0} (n : ℕ) (v w : View P) (a : Option History) → ((k : ℕ) → done_times w.moves k ≡ done_times v.moves k) → HasVisited n v w a a
visited-none n v w a same = record {
  visits = [];
  are = sym (with_none a);
  each = λ m. omega (arith, same m);
  within = λ m past. refl;
}

-- a leaf is drawn
pub drawn-visited : {P : Type 0} (n : ℕ) (v after : View P) (m : ℕ) (a : Option History) → after ≡ drawn v (Some m) → HasVisited n v after a a
drawn-visited n v after m a is = visited-none n v after a (λ k. ap (λ w. done_times w.moves k) is ∙ not_over (k == m) (done_times v.moves k))

-- a module is told, taken and done, and nothing else is done
pub visited-one : {P : Type 0} (n : ℕ) (v worked after : View P) (m : ℕ) (a b : Option History) → m < n → worked.moves ≡ (m, Over) ∷ (m, Begun) ∷ v.moves → b ≡ option_map (with_visits (m ∷ [])) a
    → ((k : ℕ) → done_times after.moves k ≡ done_times worked.moves k) → HasVisited n v after a b
visited-one n v worked after m a b below moves told same = record {
  visits = m ∷ [];
  are = told;
  each = λ k.
      (let over : done_times worked.moves k ≡ one_if ((k == m) && true) + (one_if ((k == m) && false) + done_times v.moves k) = ap (λ ms. done_times ms k) moves in
      let begun : one_if ((k == m) && false) + done_times v.moves k ≡ done_times v.moves k = not_over (k == m) (done_times v.moves k) in
      let one : one_if ((k == m) && true) + done_times v.moves k ≡ done_times v.moves k + one_if (k == m) = over_one (k == m) (done_times v.moves k) in
      let last : done_times after.moves k ≡ done_times worked.moves k = same k in
      omega arith);
  within = λ k past. (let none : one_if (k == m) ≡ 0 = ap one_if (ne_eqb k m (λ e. omega arith)) in omega arith);
}

-- a worker that was split off is gathered
pub visited-both : {P : Type 0} (n : ℕ) (v cut other mine theirs all : View P) (a lent mine_told theirs_told : Option History) (new told : Option History) → cut.moves ≡ v.moves → other.moves ≡ []
    → lent ≡ option_map with_handle a → new ≡ option_map no_visits a → HasVisited n cut mine lent mine_told → HasVisited n other theirs new theirs_told
    → told ≡ gathered mine_told theirs_told → all.moves ≡ mine.moves ++ theirs.moves → HasVisited n v all a told
visited-both n v cut other mine theirs all a lent mine_told theirs_told new told same none lends begins one two gathers joins = record {
  visits = one.visits ++ two.visits;
  are = gathers ∙ (λ i. gathered (one.are i) (two.are i)) ∙ (λ i. gathered (option_map (with_visits one.visits) (lends i)) (option_map (with_visits two.visits) (begins i))) ∙ gathered_both one.visits two.visits a;
  each = λ m.
      (let both : times m (one.visits ++ two.visits) ≡ times m one.visits + times m two.visits = times-append m one.visits two.visits in
      let sum : done_times all.moves m ≡ done_times mine.moves m + done_times theirs.moves m = ap (λ ms. done_times ms m) joins ∙ done_times-append mine.moves theirs.moves m in
      let start : done_times cut.moves m ≡ done_times v.moves m = ap (λ ms. done_times ms m) same in
      let fresh : done_times other.moves m ≡ 0 = ap (λ ms. done_times ms m) none in
      omega (arith, one.each m, two.each m));
  within = λ m past. (let both : times m (one.visits ++ two.visits) ≡ times m one.visits + times m two.visits = times-append m one.visits two.visits in omega (arith, one.within m past, two.within m past));
}

-- all workers are gathered, and each module is over once
pub visits-each : {P : Type 0} (n : ℕ) (v after : View P) (a lent new own told : Option History) → v.moves ≡ [] → lent ≡ option_map with_handle a → new ≡ option_map no_visits a → HasVisited n v after new own
    → told ≡ gathered lent own → ((m : ℕ) → m < n → done_times after.moves m ≡ 1) → VisitsEach n a told
visits-each n v after a lent new own told none lends begins visited gathers once = (
  visited.visits,
  λ m. by_place m (cases_lt m n),
  gathers ∙ (λ i. gathered (lends i) (visited.are i)) ∙ (λ i. gathered (sym (with_none (option_map with_handle a)) i) (option_map (with_visits visited.visits) (begins i))) ∙ gathered_both [] visited.visits a,
)
  where
    by_place : (m : ℕ) → (m < n) ⊎ (n ≤ m) → times m visited.visits ≡ one_if (nat_lt m n)
    by_place m (inl below) =
        let start : done_times v.moves m ≡ 0 = ap (λ ms. done_times ms m) none in
        let all : times m visited.visits ≡ 1 = omega (arith, visited.each m, once m below) in
        all ∙ ap one_if (sym (lt-ltb m n below))
    by_place m (inr past) = visited.within m past ∙ ap one_if (sym (le-ltb m n past))
