-- Pieces that go out one after the other.
use Rattle.std.proofs.Common.{◌≡◌, ℕ, ◌+◌, ◌≤◌, List, ◌++◌, take, length, Option, Result, Ok, Err, OnOk, OnErr, arith, append_assoc, length-append}
use Rattle.std.proofs.lemmas.List.{take-append-le}
use Rattle.std.proofs.Math.Seq.{take-append-add}
use Rattle.io_edge.specs.Bytes.{Appends, AppendsPrefix}

-- two pieces went out, which are the whole
pub Appends-then : (before now after : Option (List ℕ)) (first second whole : List ℕ) → whole ≡ first ++ second → Appends before now first
    → Appends now after second → Appends before after whole
Appends-then before now after first second whole e a b =
    λ held known. rw (e, ← append_assoc held first second) (b (held ++ first) (a held known))

-- one piece went out, and a prefix of the next one
pub AppendsPrefix-then : (before now after : Option (List ℕ)) (first second whole : List ℕ) → whole ≡ first ++ second → Appends before now first
    → AppendsPrefix now after second → AppendsPrefix before after whole
AppendsPrefix-then before now after first second whole e a b =
    λ held known.
    (let g = b (held ++ first) (a held known)
    in
    let within : length first + g.0 ≤ length whole = rw (e, length-append first second) (omega (arith, g.1))
    in
    let prefix : take (length first + g.0) whole ≡ first ++ take g.0 second = rw e (take-append-add first second g.0)
    in (length first + g.0, within, rw (prefix, ← append_assoc held first (take g.0 second)) g.2))

-- a prefix of a piece went out, and nothing more
pub AppendsPrefix-stop : (before after : Option (List ℕ)) (first second whole : List ℕ) → whole ≡ first ++ second → AppendsPrefix before after first
    → AppendsPrefix before after whole
AppendsPrefix-stop before after first second whole e a =
    λ held known.
    (let g = a held known
    in
    let within : g.0 ≤ length whole = rw (e, length-append first second) (omega (arith, g.1))
    in
    let prefix : take g.0 whole ≡ take g.0 first = rw e (take-append-le g.0 first second g.1)
    in (g.0, within, rw prefix g.2))

-- the same where the last piece may fail
pub Appends-last : {T E : Type 0} (before now after : Option (List ℕ)) (first second whole : List ℕ) (result : Result T E) → whole ≡ first ++ second
    → Appends before now first → OnOk result (Appends now after second) → OnOk result (Appends before after whole)
Appends-last before now after first second whole (Ok x) e a b = Appends-then before now after first second whole e a b
Appends-last before now after first second whole (Err x) e a b = b

pub AppendsPrefix-last : {T E : Type 0} (before now after : Option (List ℕ)) (first second whole : List ℕ) (result : Result T E) → whole ≡ first ++ second
    → Appends before now first → OnErr result (AppendsPrefix now after second) → OnErr result (AppendsPrefix before after whole)
AppendsPrefix-last before now after first second whole (Ok x) e a b = b
AppendsPrefix-last before now after first second whole (Err x) e a b = AppendsPrefix-then before now after first second whole e a b
