-- The ports that are reached from those that registers name are the reset ports.
use Rattle.std.proofs.Common.{◌≡◌, ◌⊎◌, ◌<◌, ℕ, zero, suc, ◌+◌, Bool, true, false, List, [], ◌∷◌, length, take, replicate, slice_get, option_to_list, Option, Some, None, refl, sym, ap, subst, ◌∙◌, inl, inr, arith}
use Rattle.std.proofs.lemmas.List.{length-replicate}
use Rattle.wiring.specs.Wiring.{In, Chain}
use Rattle.wiring.proofs.Members.{In-append_left, In-append_right, In-append_cases}
use Rattle.wiring.proofs.Options.{and_then_some}
use Rattle.wiring.proofs.Chains.{Chain-append}
use Rattle.hw_model.specs.Kinds.{Instance}
use Rattle.hw_model.specs.Design.{Module, Design, find_module, instance_in}
use Rattle.port_checks.specs.declared.named.PortPosition.{PortPosition}
use Rattle.port_checks.specs.ResetPorts.{IsResetPort, port_count, is_reset_port}
use Rattle.port_checks.specs.ResetPorts.IsResetPort.{named, joined}
use Rattle.graphs.specs.Graphs.{edges, has_mark, AreReached}
use Rattle.port_checks.specs.Pairs.{pair, AddsPairs}
use Rattle.port_checks.specs.Numbers.{AreStarts, port_number, numbers_of}
use Rattle.port_checks.specs.Joins.{position_at, named_in, pairs_in, made_from}
use Rattle.port_checks.specs.Marked.{has_mark_at, is_reset_of}
use Rattle.port_checks.proofs.Booleans.{same_tests}
use Rattle.port_checks.proofs.ResetTests.{bit_input_within}
use Rattle.port_checks.proofs.Least.{is_sound, is_complete, reset_some}
use Rattle.port_checks.proofs.Symbols.{found_position}
use Rattle.port_checks.proofs.Numbering.{number_some, some_number, number_once, count_within}
use Rattle.port_checks.proofs.Pairs.{no_edges}
use Rattle.port_checks.proofs.Joining.{IsNamed, IsJoined, joins_by, named_some, some_named, pairs_some, some_pairs}

-- ---- numbers of positions

numbers_some : (starts : List ℕ) (ps : List PortPosition) (v : ℕ) → In v (numbers_of starts ps) → (p : PortPosition) × In p ps × (port_number starts p.owner p.port ≡ Some v)
numbers_some starts [] v here = absurd here
numbers_some starts (q ∷ ps) v here = go (In-append_cases v (option_to_list (port_number starts q.owner q.port)) (numbers_of starts ps) here) (numbers_some starts ps v)
  where
    first : (x : Option ℕ) → In v (option_to_list x) → x ≡ Some v
    first None never = absurd never
    first (Some w) (inl same) = ap Some (sym same)
    first (Some w) (inr never) = absurd never

    go : In v (option_to_list (port_number starts q.owner q.port)) ⊎ In v (numbers_of starts ps)
        → (In v (numbers_of starts ps) → (p : PortPosition) × In p ps × (port_number starts p.owner p.port ≡ Some v))
        → (p : PortPosition) × In p (q ∷ ps) × (port_number starts p.owner p.port ≡ Some v)
    go (inl is) rest = (q, inl refl, first (port_number starts q.owner q.port) is)
    go (inr later) rest = let found = rest later in (found.0, inr found.1, found.2)

some_numbers : (starts : List ℕ) (ps : List PortPosition) (p : PortPosition) (v : ℕ) → In p ps → port_number starts p.owner p.port ≡ Some v → In v (numbers_of starts ps)
some_numbers starts [] p v here is = absurd here
some_numbers starts (q ∷ ps) p v (inl same) is =
    let first : port_number starts q.owner q.port ≡ Some v = ap (λ (x : PortPosition). port_number starts x.owner x.port) (sym same) ∙ is in
    In-append_left v (option_to_list (port_number starts q.owner q.port)) (numbers_of starts ps) (subst (λ x. In v (option_to_list x)) (sym first) (inl refl))
some_numbers starts (q ∷ ps) p v (inr here) is =
    In-append_right v (option_to_list (port_number starts q.owner q.port)) (numbers_of starts ps) (some_numbers starts ps p v here is)

-- ---- what is reached

module _ (d : Design) (starts : List ℕ) (are : AreStarts d starts) (fresh lists : List (List ℕ)) (none : fresh ≡ replicate (port_count d) [])
    (adds : AddsPairs (made_from (pairs_in d starts) 0 d) fresh lists) (numbers : List ℕ) (from : numbers ≡ numbers_of starts (made_from named_in 0 d))
    (marks : List Bool) (reached : AreReached lists numbers marks) where
  -- the port of a number is a reset port
  abbrev IsResetNumber : ℕ → Type 0
  IsResetNumber v = (i j : ℕ) (m : Module) → port_number starts i j ≡ Some v → slice_get d i ≡ Some m → IsResetPort d m j

  -- so it is by one port of that number
  by_number : (v i j : ℕ) (m : Module) → port_number starts i j ≡ Some v → slice_get d i ≡ Some m → IsResetPort d m j → IsResetNumber v
  by_number v i j m is there reset k l n at found =
      let same = number_once d starts are i j k l v is at in
      let modules : Some m ≡ Some n = sym there ∙ ap (slice_get d) same.0 ∙ found in
      let owner : m ≡ n = cc in
      subst (λ x. IsResetPort d x l) owner (subst (IsResetPort d m) same.1 reset)

  start_reset : (v : ℕ) → In v numbers → IsResetNumber v
  start_reset v here =
      let position = numbers_some starts (made_from named_in 0 d) v (subst (In v) from here) in
      let is = named_some d position.0 position.1 in
      by_number v position.0.owner position.0.port is.owner position.2 is.there (named is.owner position.0.port is.op is.names.0 is.is_bit is.member is.names.1 is.names.2)

  edge_reset : (v w : ℕ) → In w (edges lists v) → IsResetNumber v → IsResetNumber w
  edge_reset v w need reset = go (adds.from v w need)
    where
      go : In w (edges fresh v) ⊎ In (pair v w) (made_from (pairs_in d starts) 0 d) → IsResetNumber w
      go (inl was) = absurd (subst (λ ns. In w ns) (ap (λ ls. edges ls v) none ∙ no_edges (port_count d) v) was)
      go (inr found) =
          let is = pairs_some d starts (pair v w) found in
          let by = is.is_joined in
          let joins = joins_by d is.i is.j is.c is.k by in
          by_number w is.i is.j by.owner is.port_is by.there
          (joined by.owner is.j by.op by.called is.k by.is_bit by.member joins.0 joins.1 (reset is.c is.k by.called is.to_is by.called_there) joins.2)

  chain_reset : (k v w : ℕ) → Chain (edges lists) k v w → IsResetNumber v → IsResetNumber w
  chain_reset zero v w same reset = subst IsResetNumber same reset
  chain_reset (suc k) v w (u, need, chain) reset = chain_reset k u w chain (edge_reset v u need reset)

  marked_reset : (v : ℕ) → has_mark marks v ≡ true → IsResetNumber v
  marked_reset v is = let by = reached.sound v is in chain_reset by.1 by.0 v by.3 (start_reset by.0 by.2)

  -- ---- reset ports are reached

  -- a port of a design has its number among the lists
  bound : (i j v : ℕ) → port_number starts i j ≡ Some v → v < length lists
  bound i j v is =
      let found = some_number d starts are i j v is in
      let inside : port_count (take i d) + j < port_count d = count_within d i found.0 j found.1 found.2 in
      let value : v ≡ port_count (take i d) + j = found.3 in
      let count : length lists ≡ length fresh = adds.count in
      let size : length fresh ≡ port_count d = ap length none ∙ length-replicate (port_count d) [] in
      omega arith

  start_marked : (v : ℕ) → In v numbers → v < length lists → has_mark marks v ≡ true
  start_marked v here below = reached.complete v 0 v here refl below

  next_marked : (v w : ℕ) → has_mark marks v ≡ true → In w (edges lists v) → w < length lists → has_mark marks w ≡ true
  next_marked v w is need below =
      let by = reached.sound v is in
      reached.complete by.0 (by.1 + 1) w by.2 (Chain-append (edges lists) by.1 1 by.0 v w by.3 (w, need, refl)) below

  named_marked : (i j : ℕ) → IsNamed d i j → (v : ℕ) → port_number starts i j ≡ Some v → has_mark marks v ≡ true
  named_marked i j is v number =
      start_marked v (subst (In v) (sym from) (some_numbers starts (made_from named_in 0 d) (position_at i j) v (some_named d i j is) number)) (bound i j v number)

  joined_marked : (i j c k : ℕ) → IsJoined d i j c k → (u v : ℕ) → port_number starts c k ≡ Some u → has_mark marks u ≡ true → port_number starts i j ≡ Some v
      → has_mark marks v ≡ true
  joined_marked i j c k is u v to has number =
      next_marked u v has (adds.all u v (some_pairs d starts i j c k is (pair u v) to number)
      (subst (λ n. u < n) adds.count (bound c k u to))) (bound i j v number)

  reset_marked : (m : Module) (j : ℕ) → IsResetPort d m j → (i : ℕ) → slice_get d i ≡ Some m → (v : ℕ) → port_number starts i j ≡ Some v → has_mark marks v ≡ true
  reset_marked m j (named _ _ o r is here reset signal) i there v number =
      named_marked i j (record { owner = m; op = o; there = there; member = here; names = (r, reset, signal); is_bit = is }) v number
  reset_marked m j (joined _ _ o c k is here found allowed has ref) i there v number =
      let by = and_then_some (instance_in o.kind) (λ (x : Instance). find_module d x.symbol) found in
      let position = found_position d by.0.symbol c by.2 in
      let within : k < length c.ports = reset_within c k has in
      let to = number_some d starts are position.0 k c position.2 within in
      joined_marked i j position.0 k
      (record {
        owner = m;
        op = o;
        named = by.0;
        called = c;
        there = there;
        member = here;
        is_instance = by.1;
        position = position.1;
        called_there = position.2;
        allowed = allowed;
        is_port = ref;
        is_bit = is;
      })
      (port_count (take position.0 d) + k) v to (reset_marked c k has position.0 position.2 (port_count (take position.0 d) + k) to) number
    where
      reset_within : (c : Module) (k : ℕ) → IsResetPort d c k → k < length c.ports
      reset_within c k (named _ _ o r bit here reset signal) = bit_input_within c k bit
      reset_within c k (joined _ _ o e l bit here found allowed has ref) = bit_input_within c k bit

  -- the marks are those of reset ports
  pub marks_are : (i j : ℕ) → has_mark_at marks (port_number starts i j) ≡ is_reset_of d j (slice_get d i)
  marks_are i j = go (port_number starts i j) refl (slice_get d i) refl
    where
      go : (x : Option ℕ) → port_number starts i j ≡ x → (y : Option Module) → slice_get d i ≡ y → has_mark_at marks x ≡ is_reset_of d j y
      go None gone None out = refl
      go (Some v) number None out =
          let found = some_number d starts are i j v number in
          let e : Some found.0 ≡ None = sym found.1 ∙ out in
          cc
      go None gone (Some m) there = sym (no_reset (is_reset_port d m j) refl)
        where
          no_reset : (b : Bool) → is_reset_port d m j ≡ b → b ≡ false
          no_reset false is = refl
          no_reset true is =
              let within : j < length m.ports = bit_input_within m j (reset_some d (port_count d) m j is).1 in
              let e : None ≡ Some (port_count (take i d) + j) = sym gone ∙ number_some d starts are i j m there within in
              cc
      go (Some v) number (Some m) there =
          same_tests (has_mark marks v) (is_reset_port d m j)
          (λ is. is_complete d m j (marked_reset v is i j m number there))
          (λ is. reset_marked m j (is_sound d m j is) i there v number)

-- ---- where no register names a port

-- a design without such a register has no reset port
pub none_reset : (d : Design) → [] ≡ made_from named_in 0 d → (i j : ℕ) → false ≡ is_reset_of d j (slice_get d i)
none_reset d none i j = go (slice_get d i) refl
  where
    no_port : (m : Module) (k : ℕ) → IsResetPort d m k → (n : ℕ) → slice_get d n ≡ Some m → ⊥
    no_port m k (named _ _ o r is here reset signal) n there =
        subst (λ ps. In (position_at n k) ps) (sym none)
        (some_named d n k (record { owner = m; op = o; there = there; member = here; names = (r, reset, signal); is_bit = is }))
    no_port m k (joined _ _ o c l is here found allowed has ref) n there =
        let by = and_then_some (instance_in o.kind) (λ (x : Instance). find_module d x.symbol) found in
        let position = found_position d by.0.symbol c by.2 in
        no_port c l has position.0 position.2

    go : (y : Option Module) → slice_get d i ≡ y → false ≡ is_reset_of d j y
    go None out = refl
    go (Some m) there = at (is_reset_port d m j) refl
      where
        at : (b : Bool) → is_reset_port d m j ≡ b → false ≡ b
        at false is = refl
        at true is = absurd (no_port m j (is_sound d m j is) i there)
