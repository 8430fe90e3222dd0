-- The cause for which an operation is refused, by what is asked of its operands.
use Rattle.std.proofs.Common.{◌≡◌, ℕ, zero, suc, Bool, true, false, cond, not, ◌&&◌, ◌||◌, List, [], ◌∷◌, map, take, length, Option, Some, None, slice_get, refl, sym, ap, ap₂, ◌∙◌, option_and_then, option_map}
use Rattle.std.specs.Prelude.{is_some}
use Rattle.std.proofs.lemmas.Option.{slice_get-map}
use Rattle.wiring.proofs.Lists.{map-map}
use Rattle.diag.specs.declared.cause.Cause.{Cause}
use Rattle.diag.specs.declared.cause.Cause.TheVariants as cause
use Rattle.hw_model.specs.Types.{HwType}
use Rattle.hw_model.specs.Kinds.{Kind, Instance}
use Rattle.hw_model.specs.Kinds.Kind.{division}
use Rattle.hw_model.specs.Design.{Ref, Port, OpResult, Op, Module, Design, find_module, instance_in, is_output_op, callee}
use Rattle.hw_model.specs.Flat.{has_async_reset, async_parts, async_reset_in, input_count, operand_for, port_ref}
use Rattle.hw_model.specs.Sound.{type_in}
use Rattle.port_checks.specs.InstanceChecks.{names_ports, call_cause, instance_cause}
use Rattle.port_checks.specs.ResetPorts.{is_reset_port}
use Rattle.op_verifier.specs.Answers.{when, or_else}
use Rattle.op_verifier.specs.OpChecks.{has_again, has_undefined, settled_type, divides_by_constant, has_other_outputs, op_cause}
use Rattle.op_checks.specs.OperandChecks.{has_mismatch}
use Rattle.op_checks.specs.LimitChecks.{has_type_outside, has_constant_outside, has_extract_outside, has_broken_copy, has_wide_concat, has_unknown_divisor}
use Rattle.op_checks.specs.OwnChecks.{cause_if, own_cause}
use Rattle.op_verifier.specs.ResetChecks.{is_no_input, has_other_reset, joins_other, has_other_join}
use Rattle.op_verifier.proofs.Unrefused.{or_none, when_none}
use Rattle.op_checks.proofs.Widths.{neither}
use Rattle.acceptance_laws.specs.Asked.{Operand, operand_in, operands_in, CalledModule, Around, called_as, around, some_undefined, second_known, reset_refused, async_refused, operand_at, is_other}
use Rattle.acceptance_laws.specs.Asked.{join_refused, call_refused, called_cause, cause_of, AllowMore, CallsMore, AllowsMoreAround}
use Rattle.std.proofs.lemmas.Bool.{not-false, or_from}

-- ---- what is asked tells the cause

module _ (ports : List Port) (os : List Op) where
  pub undefined_told : (rs : List Ref) → has_undefined ports os rs ≡ some_undefined (operands_in ports os rs)
  undefined_told [] = refl
  undefined_told (r ∷ rs) = ap (λ b. cond (is_some (type_in ports os r)) b true) (undefined_told rs)

  pub types_told : (rs : List Ref) → map (settled_type ports os) rs ≡ map (λ (x : Operand). x.type) (operands_in ports os rs)
  types_told rs = sym (map-map (λ (x : Operand). x.type) (operand_in ports os) rs)

  pub known_told : (rs : List Ref) → divides_by_constant os rs ≡ second_known (operands_in ports os rs)
  known_told [] = refl
  known_told (r ∷ []) = refl
  known_told (r ∷ q ∷ rs) = refl

  async_told : (kind : Kind) (rs : List Ref) → has_other_reset ports os (cond (has_async_reset kind) (async_parts rs) None) ≡ async_refused kind (operands_in ports os rs)
  async_told kind rs = go (has_async_reset kind) rs
    where
      go : (b : Bool) (rs : List Ref) → has_other_reset ports os (cond b (async_parts rs) None) ≡ cond b (reset_refused (operands_in ports os rs)) false
      go false rs = refl
      go true [] = refl
      go true (a ∷ []) = refl
      go true (a ∷ b ∷ []) = refl
      go true (a ∷ b ∷ c ∷ []) = refl
      go true (a ∷ b ∷ c ∷ e ∷ []) = refl
      go true (a ∷ b ∷ c ∷ e ∷ f ∷ rs) = refl

  other_told : (p : Option Port) (rs : List Ref) (k : ℕ) → is_no_input ports (operand_for p rs k) ≡ is_other (operand_at p (operands_in ports os rs) k)
  other_told None rs k = refl
  other_told (Some p) rs k = go p.is_output
    where
      at : (x : Option Ref) → is_no_input ports x ≡ is_other (option_map (operand_in ports os) x)
      at None = refl
      at (Some r) = refl

      go : (b : Bool) → is_no_input ports (cond b None (slice_get rs k)) ≡ is_other (cond b None (slice_get (operands_in ports os rs) k))
      go true = refl
      go false = at (slice_get rs k) ∙ ap is_other (sym (slice_get-map (operand_in ports os) rs k))

  join_told : (resets : ℕ → Bool) (called : List Port) (rs : List Ref) (n : ℕ)
      → joins_other resets ports (port_ref called rs) n ≡ join_refused resets called (operands_in ports os rs) n
  join_told resets called rs zero = refl
  join_told resets called rs (suc n) =
      ap₂ (λ a b. a || (resets n && b)) (join_told resets called rs n) (other_told (slice_get called n) rs (input_count (take n called)))

  call_told : (d : Design) (rs : List Ref) (c : Option Module) → has_other_join d ports rs c ≡ call_refused (option_map (called_as d) c) (operands_in ports os rs)
  call_told d rs None = refl
  call_told d rs (Some c) = join_told (is_reset_port d c) c.ports rs (length c.ports)

named_told : (d : Design) (ts : List HwType) (i : Option Instance)
    → instance_cause d ts i ≡ called_cause ts i (option_map (called_as d) (option_and_then (λ (x : Instance). find_module d x.symbol) i))
named_told d ts None = refl
named_told d ts (Some i) = go (find_module d i.symbol)
  where
    go : (c : Option Module) → call_cause i ts c ≡ called_cause ts (Some i) (option_map (called_as d) c)
    go None = refl
    go (Some c) = refl

module _ (d : Design) (ports : List Port) (os : List Op) (last : Bool) (o : Op) where
  abbrev rs : List Ref
  rs = o.operands

  abbrev xs : List Operand
  xs = operands_in ports os o.operands

  abbrev types : List (Option HwType)
  types = map (λ (x : Operand). x.type) (operands_in ports os o.operands)

  -- what the tests of the module that is named, of an asynchronous reset and of what is joined say
  abbrev by_call : Option Cause
  by_call = instance_cause d o.types (instance_in o.kind)

  abbrev by_reset : Bool
  by_reset = has_other_reset ports os (async_reset_in o)

  abbrev by_join : Bool
  by_join = has_other_join d ports o.operands (callee d o)

  -- the cause, over what each test says
  abbrev told_by : Bool → List (Option HwType) → Bool → Option Cause → Bool → Bool → Option Cause
  told_by undefined ts known called resets joins =
      or_else (or_else (when (has_again o.results) cause.Redefined) (when undefined cause.Undefined))
      (or_else (own_cause o.kind o.types (map (λ (r : OpResult). r.type) o.results) o.named ts known)
      (or_else
      (or_else (when (has_other_outputs ports o) cause.OutputMismatch) (or_else called (when (is_output_op o && not last) cause.MissingOutput)))
      (when (resets || joins) cause.AsyncReset)))

  pub cause_told : op_cause d ports os last o ≡ cause_of o (operands_in ports os o.operands) (around d ports last o)
  cause_told =
      ap (λ u. told_by u (map (settled_type ports os) rs) (divides_by_constant os rs) by_call by_reset by_join) (undefined_told ports os rs)
      ∙ ap₂ (λ ts k. told_by (some_undefined xs) ts k by_call by_reset by_join) (types_told ports os rs) (known_told ports os rs)
      ∙ ap (λ c. told_by (some_undefined xs) types (second_known xs) c by_reset by_join) (named_told d o.types (instance_in o.kind))
      ∙ ap₂ (told_by (some_undefined xs) types (second_known xs) (called_cause o.types (instance_in o.kind) (option_map (called_as d) (callee d o))))
      (async_told ports os o.kind rs) (call_told ports os d rs (callee d o))

-- ---- no more is refused

pub none_or : {A : Type 0} (a b : Option A) → a ≡ None → b ≡ None → or_else a b ≡ None
none_or None b p q = q
none_or (Some x) b p q = cc

pub when_false : (b : Bool) (c : Cause) → b ≡ false → when b c ≡ None
when_false false c h = refl
when_false true c h = cc

-- a chain of causes with another rest, and with another first test
rest_more : (b : Bool) (c : Cause) (x y : Option Cause) → (x ≡ None → y ≡ None) → cause_if b c x ≡ None → cause_if b c y ≡ None
rest_more false c x y to h = to h
rest_more true c x y to h = cc

test_more : (a b : Bool) (c : Cause) (x : Option Cause) → (a ≡ false → b ≡ false) → cause_if a c x ≡ None → cause_if b c x ≡ None
test_more false b c x to h = let e = to refl in ap (λ z. cause_if z c x) e ∙ h
test_more true b c x to h = cc

divisor_more : (kind : Kind) (k k' : Bool) → (k ≡ true → k' ≡ true) → has_unknown_divisor kind k ≡ false → has_unknown_divisor kind k' ≡ false
unfolding has_unknown_divisor
divisor_more (division v) true k' to h = ap not (to refl)
divisor_more (division v) false k' to h = cc
divisor_more kind k k' to h = refl

-- a divisor that is known as well
pub own_more : (kind : Kind) (ts rs : List HwType) (named : ℕ) (xs : List (Option HwType)) (k k' : Bool) → (k ≡ true → k' ≡ true)
    → own_cause kind ts rs named xs k ≡ None → own_cause kind ts rs named xs k' ≡ None
unfolding own_cause
own_more kind ts rs named xs k k' to =
    rest_more (has_mismatch kind ts rs xs) cause.TypeMismatch _ _
    (rest_more (has_type_outside kind ts rs) cause.WidthLimit _ _
    (rest_more (has_constant_outside kind ts) cause.ConstantRange _ _
    (rest_more (has_extract_outside kind ts) cause.ExtractRange _ _
    (rest_more (has_broken_copy kind ts) cause.ReplicateMultiple _ _
    (rest_more (has_wide_concat kind ts) cause.ConcatWidth _ _
    (test_more (has_unknown_divisor kind k) (has_unknown_divisor kind k') cause.Divisor _ (divisor_more kind k k' to)))))))

pub undefined_more : (xs ys : List Operand) → AllowMore xs ys → some_undefined xs ≡ false → some_undefined ys ≡ false
undefined_more [] [] more h = refl
undefined_more [] (b ∷ ys) more h = absurd more
undefined_more (a ∷ xs) [] more h = absurd more
undefined_more (a ∷ xs) (b ∷ ys) (first, rest) h = go a.defined refl h (undefined_more xs ys rest)
  where
    go : (t : Bool) → a.defined ≡ t → cond t (some_undefined xs) true ≡ false → (some_undefined xs ≡ false → some_undefined ys ≡ false)
        → cond b.defined (some_undefined ys) true ≡ false
    go true e g more = ap (λ z. cond z (some_undefined ys) true) (first.defined e) ∙ more g
    go false e g more = cc

pub types_more : (xs ys : List Operand) → AllowMore xs ys → map (λ (x : Operand). x.type) ys ≡ map (λ (x : Operand). x.type) xs
types_more [] [] more = refl
types_more [] (b ∷ ys) more = absurd more
types_more (a ∷ xs) [] more = absurd more
types_more (a ∷ xs) (b ∷ ys) (first, rest) = ap₂ (λ t ts. t ∷ ts) first.type (types_more xs ys rest)

pub length_more : (xs ys : List Operand) → AllowMore xs ys → length ys ≡ length xs
length_more [] [] more = refl
length_more [] (b ∷ ys) more = absurd more
length_more (a ∷ xs) [] more = absurd more
length_more (a ∷ xs) (b ∷ ys) (first, rest) = ap suc (length_more xs ys rest)

pub known_more : (xs ys : List Operand) → AllowMore xs ys → second_known xs ≡ true → second_known ys ≡ true
known_more [] ys more h = cc
known_more (a ∷ []) ys more h = cc
known_more (a ∷ b ∷ xs) [] more h = absurd more
known_more (a ∷ b ∷ xs) (c ∷ []) more h = absurd more.1
known_more (a ∷ b ∷ xs) (c ∷ e ∷ ys) more h = more.1.0.known h

reset_more : (xs ys : List Operand) → AllowMore xs ys → reset_refused xs ≡ false → reset_refused ys ≡ false
reset_more [] [] more h = refl
reset_more [] (b ∷ ys) more h = absurd more
reset_more (a ∷ xs) [] more h = absurd more
reset_more (a ∷ []) (b ∷ []) more h = refl
reset_more (a ∷ []) (b ∷ b1 ∷ ys) more h = absurd more.1
reset_more (a ∷ a1 ∷ xs) (b ∷ []) more h = absurd more.1
reset_more (a ∷ a1 ∷ []) (b ∷ b1 ∷ []) more h = refl
reset_more (a ∷ a1 ∷ []) (b ∷ b1 ∷ b2 ∷ ys) more h = absurd more.1.1
reset_more (a ∷ a1 ∷ a2 ∷ xs) (b ∷ b1 ∷ []) more h = absurd more.1.1
reset_more (a ∷ a1 ∷ a2 ∷ []) (b ∷ b1 ∷ b2 ∷ []) more h = refl
reset_more (a ∷ a1 ∷ a2 ∷ []) (b ∷ b1 ∷ b2 ∷ b3 ∷ ys) more h = absurd more.1.1.1
reset_more (a ∷ a1 ∷ a2 ∷ a3 ∷ xs) (b ∷ b1 ∷ b2 ∷ []) more h = absurd more.1.1.1
reset_more (a ∷ a1 ∷ a2 ∷ a3 ∷ []) (b ∷ b1 ∷ b2 ∷ b3 ∷ []) more h = go a2.input refl a3.constant refl h
  where
    go : (p : Bool) → a2.input ≡ p → (q : Bool) → a3.constant ≡ q → not (p && q) ≡ false → not (b2.input && b3.constant) ≡ false
    go true e true f g = ap₂ (λ s t. not (s && t)) (more.1.1.0.input e) (more.1.1.1.0.constant f)
    go true e false f g = cc
    go false e q f g = cc
reset_more (a ∷ a1 ∷ a2 ∷ a3 ∷ []) (b ∷ b1 ∷ b2 ∷ b3 ∷ b4 ∷ ys) more h = absurd more.1.1.1.1
reset_more (a ∷ a1 ∷ a2 ∷ a3 ∷ a4 ∷ xs) (b ∷ b1 ∷ b2 ∷ b3 ∷ []) more h = absurd more.1.1.1.1
reset_more (a ∷ a1 ∷ a2 ∷ a3 ∷ a4 ∷ xs) (b ∷ b1 ∷ b2 ∷ b3 ∷ b4 ∷ ys) more h = refl

async_more : (kind : Kind) (xs ys : List Operand) → AllowMore xs ys → async_refused kind xs ≡ false → async_refused kind ys ≡ false
async_more kind xs ys more = go (has_async_reset kind)
  where
    go : (b : Bool) → cond b (reset_refused xs) false ≡ false → cond b (reset_refused ys) false ≡ false
    go true h = reset_more xs ys more h
    go false h = refl

other_more : (xs ys : List Operand) (k : ℕ) → AllowMore xs ys → is_other (slice_get xs k) ≡ false → is_other (slice_get ys k) ≡ false
other_more [] [] k more h = refl
other_more [] (b ∷ ys) k more h = absurd more
other_more (a ∷ xs) [] k more h = absurd more
other_more (a ∷ xs) (b ∷ ys) zero (first, rest) h = ap not (first.input (not-false a.input h))
other_more (a ∷ xs) (b ∷ ys) (suc k) (first, rest) h = other_more xs ys k rest h

at_port_more : (p : Option Port) (xs ys : List Operand) (k : ℕ) → AllowMore xs ys → is_other (operand_at p xs k) ≡ false → is_other (operand_at p ys k) ≡ false
at_port_more None xs ys k more h = refl
at_port_more (Some p) xs ys k more h = go p.is_output h
  where
    go : (b : Bool) → is_other (cond b None (slice_get xs k)) ≡ false → is_other (cond b None (slice_get ys k)) ≡ false
    go true g = refl
    go false g = other_more xs ys k more g

join_more : (f g : ℕ → Bool) (ports : List Port) (xs ys : List Operand) → ((n : ℕ) → g n ≡ true → f n ≡ true) → AllowMore xs ys → (n : ℕ)
    → join_refused f ports xs n ≡ false → join_refused g ports ys n ≡ false
join_more f g ports xs ys to more zero h = refl
join_more f g ports xs ys to more (suc n) h =
    let parts = neither (join_refused f ports xs n) (f n && is_other (operand_at (slice_get ports n) xs (input_count (take n ports)))) h in
    or_from (join_refused g ports ys n) (g n && is_other (operand_at (slice_get ports n) ys (input_count (take n ports))))
    (join_more f g ports xs ys to more n parts.0) (go (g n) refl parts.1)
  where
    go : (b : Bool) → g n ≡ b → (f n && is_other (operand_at (slice_get ports n) xs (input_count (take n ports)))) ≡ false
        → (b && is_other (operand_at (slice_get ports n) ys (input_count (take n ports)))) ≡ false
    go true e k =
        at_port_more (slice_get ports n) xs ys (input_count (take n ports)) more
        (ap (λ (z : Bool). z && is_other (operand_at (slice_get ports n) xs (input_count (take n ports)))) (sym (to n e)) ∙ k)
    go false e k = refl

call_more : (c e : Option CalledModule) (xs ys : List Operand) → CallsMore c e → AllowMore xs ys → call_refused c xs ≡ false → call_refused e ys ≡ false
call_more None None xs ys calls more h = refl
call_more None (Some e) xs ys calls more h = absurd calls
call_more (Some c) None xs ys calls more h = absurd calls
call_more (Some c) (Some e) xs ys (ports, resets) more h =
    ap (λ ps. join_refused e.is_reset ps ys (length ps)) ports ∙ join_more c.is_reset e.is_reset c.ports xs ys resets more (length c.ports) h

named_more : (ts : List HwType) (i : Option Instance) (c e : Option CalledModule) → CallsMore c e → called_cause ts i c ≡ None → called_cause ts i e ≡ None
named_more ts None c e calls h = refl
named_more ts (Some i) None None calls h = h
named_more ts (Some i) None (Some e) calls h = absurd calls
named_more ts (Some i) (Some c) None calls h = absurd calls
named_more ts (Some i) (Some c) (Some e) (ports, resets) h = ap (λ ps. when (not (names_ports i ts ps)) cause.InstancePorts) ports ∙ h

last_more : (out a b : Bool) → (out ≡ true → a ≡ true → b ≡ true) → (out && not a) ≡ false → (out && not b) ≡ false
last_more false a b to h = refl
last_more true a b to h = ap not (to refl (not-false a h))

-- an operation has no cause where no more is refused of its operands, and of what stands around it
pub fewer_causes : (o : Op) (xs ys : List Operand) (a b : Around) → AllowMore xs ys → AllowsMoreAround o a b → cause_of o xs a ≡ None → cause_of o ys b ≡ None
fewer_causes o xs ys a b more outside h =
    let whole = or_none _ _ h in
    let values = or_none (when (has_again o.results) cause.Redefined) (when (some_undefined xs) cause.Undefined) whole.0 in
    let alone = or_none _ _ whole.1 in
    let outer = or_none _ _ alone.1 in
    let outs = or_none (when (has_other_outputs a.ports o) cause.OutputMismatch) _ outer.0 in
    let ends = or_none (called_cause o.types (instance_in o.kind) a.called) (when (is_output_op o && not a.last) cause.MissingOutput) outs.1 in
    let resets = neither (async_refused o.kind xs) (call_refused a.called xs) (when_none _ cause.AsyncReset outer.1) in
    none_or _ _
    (none_or _ _ values.0 (when_false (some_undefined ys) cause.Undefined (undefined_more xs ys more (when_none (some_undefined xs) cause.Undefined values.1))))
    (none_or _ _
    (ap (λ ts. own_cause o.kind o.types (map (λ (r : OpResult). r.type) o.results) o.named ts (second_known ys)) (types_more xs ys more)
    ∙ own_more o.kind o.types (map (λ (r : OpResult). r.type) o.results) o.named (map (λ (x : Operand). x.type) xs) (second_known xs) (second_known ys) (known_more xs ys more) alone.0)
    (none_or _ _
    (none_or _ _ (ap (λ ps. when (has_other_outputs ps o) cause.OutputMismatch) outside.ports ∙ outs.0)
    (none_or _ _ (named_more o.types (instance_in o.kind) a.called b.called outside.called ends.0)
    (when_false (is_output_op o && not b.last) cause.MissingOutput
    (last_more (is_output_op o) a.last b.last outside.last (when_none (is_output_op o && not a.last) cause.MissingOutput ends.1)))))
    (when_false (async_refused o.kind ys || call_refused b.called ys) cause.AsyncReset
    (or_from (async_refused o.kind ys) (call_refused b.called ys) (async_more o.kind xs ys more resets.0) (call_more a.called b.called xs ys outside.called more resets.1)))))
