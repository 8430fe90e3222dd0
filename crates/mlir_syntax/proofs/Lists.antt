-- Lists that are read item by item, with commas between them.
use Rattle.std.proofs.Common.{◌≡◌, ℕ, zero, suc, ◌-◌, ◌≤◌, ◌<◌, Bool, true, false, cond, List, [], ◌∷◌, ◌++◌, map, length, Ok, Err, refl, sym, ap, ◌∙◌, arith, append_assoc}
use Rattle.std.proofs.lemmas.List.{map_push}
use Rattle.diag.specs.declared.refusal.OpName.{OpName}
use Rattle.mlir_lexer.specs.declared.token.TokenKind.TheVariants as kind
use Rattle.mlir_syntax.specs.Stream.{StreamToken, is_next, after, unexpected_refusal}
use Rattle.mlir_syntax.specs.Reads.{Read, Reads, on, items}
use Rattle.mlir_syntax.specs.Views.{ReadsAs}
use Rattle.mlir_syntax.specs.declared.fail.ReadFail.{ReadFail}
use Rattle.mlir_syntax.specs.declared.fail.ReadFail.TheVariants.{Refused, NoMemory}

-- where nothing is left an item is refused
abbrev pub IsItem : {A : Type 0} → OpName → Reads A → Type 0
IsItem op item = item [] ≡ Err (unexpected_refusal op [])

-- what is read after some items, with those before
abbrev pub with_prefix : {A : Type 0} → List A → Read (List A) → Read (List A)
with_prefix prefix (Err e) = Err e
with_prefix prefix (Ok p) = Ok (prefix ++ p.0, p.1)

-- some items are read from the start on, and what is left gives the rest
pub record Gathering {A B : Type 0} (view : B → A) (op : OpName) (item : Reads A) (start : List StreamToken) (got : List B) (left : List StreamToken) : Type 0 where
  pub n : ℕ
  pub enough : length left ≤ n
  pub shorter : length left ≤ length start
  pub same : items op item (length start) start ≡ with_prefix (map view got) (items op item n left)

pub with_prefix-nothing : {A : Type 0} (read : Read (List A)) → with_prefix [] read ≡ read
with_prefix-nothing (Err e) = refl
with_prefix-nothing (Ok p) = refl

pub with_prefix-more : {A : Type 0} (prefix : List A) (x : A) (read : Read (List A))
    → with_prefix prefix (on read (λ xs following. Ok (x ∷ xs, following))) ≡ with_prefix (prefix ++ x ∷ []) read
with_prefix-more prefix x (Err e) = refl
with_prefix-more prefix x (Ok p) = ap (λ l. Ok (l, p.1)) (sym (append_assoc prefix (x ∷ []) p.0))

-- an item, and further ones after a comma, so many at most
abbrev then_more : {A : Type 0} → OpName → Reads A → ℕ → A → Reads (List A)
then_more op item n x left =
    cond (is_next kind.Comma left) (on (items op item n (after left)) (λ xs following. Ok (x ∷ xs, following))) (Ok (x ∷ [], left))

items_at : {A : Type 0} (op : OpName) (item : Reads A) (n : ℕ) (left : List StreamToken) → IsItem op item → length left ≤ n
    → items op item n left ≡ on (item left) (then_more op item (n - 1))
unfolding items
items_at op item zero [] none enough = rw none refl
items_at op item zero (s ∷ ss) none enough = absurd (omega (arith, enough))
items_at op item (suc n) left none enough = let e : suc n - 1 ≡ n = omega arith in rw e refl

-- at the start nothing is read
pub begins : {A B : Type 0} (view : B → A) (op : OpName) (item : Reads A) (start : List StreamToken) → Gathering view op item start [] start
begins view op item start = record { n = length start; enough = omega arith; shorter = omega arith; same = sym (with_prefix-nothing (items op item (length start) start)) }

-- what is read from the start on, where an item is read next
same_at : {A B : Type 0} {view : B → A} {op : OpName} {item : Reads A} {start : List StreamToken} {got : List B} {left : List StreamToken} (read : Read A)
    → IsItem op item → (g : Gathering view op item start got left) → item left ≡ read
    → items op item (length start) start ≡ with_prefix (map view got) (on read (then_more op item (g.n - 1)))
same_at {view = view} {op = op} {item = item} {got = got} {left = left} read none g e =
    g.same ∙ ap (with_prefix (map view got)) (items_at op item g.n left none g.enough ∙ ap (λ (r : Read _). on r (then_more op item (g.n - 1))) e)

-- an item that is refused
pub fails : {A B C : Type 0} {view : B → A} {op : OpName} {item : Reads A} {start : List StreamToken} {got : List B} {left : List StreamToken}
    (whole : C → List A) (fail : ReadFail) (following left_over : List StreamToken)
    → IsItem op item → Gathering view op item start got left → ReadsAs view (Err fail) following (item left)
    → ReadsAs whole (Err fail) left_over (items op item (length start) start)
fails whole (Refused r) following left_over none g read = same_at (Err r) none g read
fails whole NoMemory following left_over none g read = tt

-- an item after which no comma stands
pub ends : {A B : Type 0} {view : B → A} {op : OpName} {item : Reads A} {start : List StreamToken} {got : List B} {left : List StreamToken}
    (x : B) (xs : List B) (following new : List StreamToken) (passed : Bool)
    → IsItem op item → Gathering view op item start got left → item left ≡ Ok (view x, following) → xs ≡ got ++ x ∷ []
    → passed ≡ is_next kind.Comma following → new ≡ cond passed (after following) following → passed ≡ false
    → items op item (length start) start ≡ Ok (map view xs, new)
ends {view = view} {got = got} x xs following new passed none g read pushed is moved no_comma =
    same_at (Ok (view x, following)) none g read
    ∙ rw (sym is, moved, no_comma, pushed, map_push view got x) refl

-- an item after which a comma stands
pub goes_on : {A B : Type 0} {view : B → A} {op : OpName} {item : Reads A} {start : List StreamToken} {got : List B} {left : List StreamToken}
    (x : B) (xs : List B) (following new : List StreamToken) (passed : Bool)
    → IsItem op item → Gathering view op item start got left → item left ≡ Ok (view x, following) → xs ≡ got ++ x ∷ []
    → passed ≡ is_next kind.Comma following → new ≡ cond passed (after following) following → passed ≡ true
    → length following ≤ length left → length new < length following → Gathering view op item start xs new
goes_on {view = view} {op = op} {item = item} {got = got} x xs following new passed none g read pushed is moved comma within shorter =
    let most = g.enough in
    let before = g.shorter in
    record {
      n = g.n - 1;
      enough = omega (arith, most, within, shorter);
      shorter = omega (arith, before, within, shorter);
      same =
          same_at (Ok (view x, following)) none g read
          ∙ rw (sym is, moved, comma, pushed, map_push view got x) (with_prefix-more (map view got) (view x) (items op item (g.n - 1) (after following)));
    }

pub ends-shorter : {A B : Type 0} {view : B → A} {op : OpName} {item : Reads A} {start : List StreamToken} {got : List B} {left : List StreamToken}
    (following new : List StreamToken) (passed : Bool)
    → Gathering view op item start got left → new ≡ cond passed (after following) following → passed ≡ false → length following ≤ length left
    → length new ≤ length start
ends-shorter following new passed g moved no_comma within =
    let before = g.shorter in
    let same : new ≡ following = moved ∙ ap (λ b. cond b (after following) following) no_comma in
    rw same (omega (arith, before, within))
