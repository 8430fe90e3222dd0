-- Pieces and what they put after what is gathered.
use Rattle.std.proofs.Common.{◌≡◌, ℕ, suc, ◌-◌, ◌+◌, ◌≤◌, ◌<◌, Bool, true, false, cond, List, [], ◌∷◌, ◌++◌, map, length, Ok, Err, refl, sym, ap, ◌∙◌, arith, append_assoc}
use Rattle.std.proofs.lemmas.List.{map-append, append-nil}
use Rattle.diag.specs.declared.refusal.OpName.{OpName}
use Rattle.mlir_lexer.specs.declared.token.TokenKind.TheVariants as kind
use Rattle.mlir_syntax.specs.Stream.{StreamToken, is_next, after}
use Rattle.hw_model.specs.Types.{HwType}
use Rattle.mlir_lexer.specs.Tokens.{TextToken}
use Rattle.mlir_syntax.specs.Reads.{Read, Reads, on, items, want}
use Rattle.mlir_syntax.specs.TypeText.{any_type, name_text}
use Rattle.mlir_operations.specs.ElementText.{further_types, input_text}
use Rattle.mlir_syntax.specs.Views.{ReadsAs}
use Rattle.mlir_syntax.specs.declared.fail.ReadFail.{ReadFail}
use Rattle.mlir_syntax.specs.declared.fail.ReadFail.TheVariants.{Refused, NoMemory}
use Rattle.mlir_syntax.proofs.Chains.{on_err}
use Rattle.mlir_syntax.proofs.Lists.{IsItem, Gathering, fails, ends, goes_on, begins}

-- what is read after those before
abbrev pub following : {A : Type 0} → List A → Read (List A) → Read (List A)
following prefix read = on read (λ xs left. Ok (prefix ++ xs, left))

-- items are gathered after those before
pub record Onto {A B : Type 0} (view : B → A) (op : OpName) (item : Reads A) (start : List StreamToken) (prefix got : List B) (left : List StreamToken) : Type 0 where
  pub here : List B
  pub joined : got ≡ prefix ++ here
  pub gathering : Gathering view op item start here left

pub onto_begins : {A B : Type 0} (view : B → A) (op : OpName) (item : Reads A) (start : List StreamToken) (prefix : List B) → Onto view op item start prefix prefix start
onto_begins view op item start prefix = record { here = []; joined = sym (append-nil prefix); gathering = begins view op item start }

pub onto_fails : {A B C : Type 0} {view : B → A} {op : OpName} {item : Reads A} {start : List StreamToken} {prefix got : List B} {left : List StreamToken}
    (whole : C → List A) (fail : ReadFail) (past left_over : List StreamToken)
    → IsItem op item → Onto view op item start prefix got left → ReadsAs view (Err fail) past (item left)
    → ReadsAs whole (Err fail) left_over (following (map view prefix) (items op item (length start) start))
onto_fails {A = A} {view = view} {op = op} {item = item} {start = start} {prefix = prefix} whole fail past left_over none o read =
    on_err {A = List A} (λ x. x) whole fail left_over left_over (items op item (length start) start) (λ xs left. Ok (map view prefix ++ xs, left))
    (fails (λ x. x) fail past left_over none o.gathering read)

pub onto_ends : {A B : Type 0} {view : B → A} {op : OpName} {item : Reads A} {start : List StreamToken} {prefix got : List B} {left : List StreamToken}
    (x : B) (xs : List B) (past new : List StreamToken) (passed : Bool)
    → IsItem op item → Onto view op item start prefix got left → item left ≡ Ok (view x, past) → xs ≡ got ++ x ∷ []
    → passed ≡ is_next kind.Comma past → new ≡ cond passed (after past) past → passed ≡ false
    → following (map view prefix) (items op item (length start) start) ≡ Ok (map view xs, new)
onto_ends {view = view} {prefix = prefix} x xs past new passed none o read pushed is moved no_comma =
    ap (following (map view prefix)) (ends x (o.here ++ x ∷ []) past new passed none o.gathering read refl is moved no_comma)
    ∙ ap (λ l. Ok (l, new)) (sym (map-append view prefix (o.here ++ x ∷ [])) ∙ ap (map view) (sym (pushed ∙ ap (λ l. l ++ x ∷ []) o.joined ∙ append_assoc prefix o.here (x ∷ []))))

pub onto_goes_on : {A B : Type 0} {view : B → A} {op : OpName} {item : Reads A} {start : List StreamToken} {prefix got : List B} {left : List StreamToken}
    (x : B) (xs : List B) (past new : List StreamToken) (passed : Bool)
    → IsItem op item → Onto view op item start prefix got left → item left ≡ Ok (view x, past) → xs ≡ got ++ x ∷ []
    → passed ≡ is_next kind.Comma past → new ≡ cond passed (after past) past → passed ≡ true
    → length past ≤ length left → length new < length past → Onto view op item start prefix xs new
onto_goes_on {prefix = prefix} x xs past new passed none o read pushed is moved comma within shorter =
    record {
      here = o.here ++ x ∷ [];
      joined = pushed ∙ ap (λ l. l ++ x ∷ []) o.joined ∙ append_assoc prefix o.here (x ∷ []);
      gathering = goes_on x (o.here ++ x ∷ []) past new passed none o.gathering read refl is moved comma within shorter;
    }

-- ---- types

-- types are read after those before
pub further_at : (op : OpName) (n i : ℕ) (prefix : List HwType) (s : List StreamToken) → i < n
    → following prefix (further_types op (n - i) s)
    ≡ on (on (want op kind.Comma s) (λ _ s1. on (any_type op s1) (λ t left. Ok (prefix ++ t ∷ [], left)))) (λ more left. following more (further_types op (n - (i + 1)) left))
unfolding further_types
further_at op n i prefix s less =
    let e : n - i ≡ suc (n - (i + 1)) = omega (arith, less) in
    rw e (go (want op kind.Comma s))
  where
    last : (t : HwType) (r : Read (List HwType))
        → following prefix (on r (λ ts s3. Ok (t ∷ ts, s3))) ≡ following (prefix ++ t ∷ []) r
    last t (Err e) = refl
    last t (Ok p) = ap (λ l. Ok (l, p.1)) (sym (append_assoc prefix (t ∷ []) p.0))

    inner : (r : Read HwType) → following prefix (on r (λ t s2. on (further_types op (n - (i + 1)) s2) (λ ts s3. Ok (t ∷ ts, s3))))
        ≡ on (on r (λ t left. Ok (prefix ++ t ∷ [], left))) (λ more left. following more (further_types op (n - (i + 1)) left))
    inner (Err e) = refl
    inner (Ok p) = last p.0 (further_types op (n - (i + 1)) p.1)

    go : (r : Read TextToken) → following prefix (on r (λ _ s1. on (any_type op s1) (λ t s2. on (further_types op (n - (i + 1)) s2) (λ ts s3. Ok (t ∷ ts, s3)))))
        ≡ on (on r (λ _ s1. on (any_type op s1) (λ t left. Ok (prefix ++ t ∷ [], left)))) (λ more left. following more (further_types op (n - (i + 1)) left))
    go (Err e) = refl
    go (Ok p) = inner (any_type op p.1)

pub is_input : (op : OpName) → IsItem op (input_text op)
unfolding input_text name_text
is_input op = refl

-- a further type is refused
pub further_fails : (op : OpName) (n i : ℕ) (all prefix : List HwType) (start s past left_over : List StreamToken) (fail : ReadFail) → i < n
    → following all (further_types op n start) ≡ following prefix (further_types op (n - i) s)
    → ReadsAs (λ (u : Unit {0}). prefix) (Err fail) past (on (want op kind.Comma s) (λ _ s1. on (any_type op s1) (λ t left. Ok (prefix ++ t ∷ [], left))))
    → ReadsAs (λ (u : Unit {0}). prefix) (Err fail) left_over (following all (further_types op n start))
further_fails op n i all prefix start s past left_over (Refused r) less same read =
    same ∙ further_at op n i prefix s less ∙ ap (λ q. on q (λ more left. following more (further_types op (n - (i + 1)) left))) read
further_fails op n i all prefix start s past left_over NoMemory less same read = tt

-- no further type is left
pub further_ends : (op : OpName) (n i : ℕ) (prefix : List HwType) (s : List StreamToken) → n ≤ i → following prefix (further_types op (n - i) s) ≡ Ok (prefix, s)
unfolding further_types
further_ends op n i prefix s le = let e : n - i ≡ 0 = omega (arith, le) in rw e (ap (λ l. Ok (l, s)) (append-nil prefix))
