-- What the tokens of operands and of the names of results say is read of them.
use Rattle.std.proofs.Common.{◌≡◌, ◌⊎◌, ℕ, ◌<◌, true, false, List, [], ◌∷◌, Ok, refl, sym, ◌∙◌, ap, inl, inr}
use Rattle.diag.specs.declared.refusal.OpName.{OpName}
use Rattle.hw_model.specs.Types.{Name}
use Rattle.mlir_lexer.specs.Contents.{content_of}
use Rattle.mlir_lexer.specs.Tokens.{TextToken}
use Rattle.mlir_lexer.specs.declared.token.TokenKind.{TokenKind}
use Rattle.mlir_lexer.specs.declared.token.TokenKind.TheVariants as kind
use Rattle.mlir_syntax.specs.Stream.{StreamToken, is_next}
use Rattle.mlir_lexer.specs.TokenKinds.{is_kind}
use Rattle.mlir_syntax.specs.Reads.{some_items}
use Rattle.mlir_syntax.specs.Numerals.{number_in, number_below, count_limit}
use Rattle.mlir_operations.specs.OperandText.{OperandName, ResultNames, value_name, pack_number, operand_text, names_after, results_text, maybe_results}
use Rattle.mlir_operations.specs.OperandText.ResultNames.{no_names, names, pack}
use Rattle.mlir_syntax.specs.Spelling.{Phrase, One, Nothing, Mark, Where}
use Rattle.mlir_operations.specs.Spelling.{ValueName, OperandPhrase, ResultsPhrase}
use Rattle.mlir_syntax.proofs.Again.{At, at_then, at_where, at_nothing, at_either, on_ok, if_true, if_false, Leads, leads_one, leads_then, starts, starts_test, Again, Any}
use Rattle.mlir_syntax.proofs.AgainTokens.{is_kind_of, want_at, mark_at, holding_at, next_at, limited_is, again_number, leads_holding, again_some, no_mark}

pub again_value_name : (op : OpName) → Again Any (value_name op) ValueName
unfolding value_name
again_value_name op = record {
  gives = λ name s left h _. let (t, c, e) = holding_at op h in on_ok _ e (ap (λ x. Ok (x, left)) c);
}

-- no number within a pack stands there
abbrev pub NoNumber : List StreamToken → Type 0
NoNumber s = is_next kind.ResultNumber s ≡ false

-- a number within a pack
abbrev PackToken : ℕ → Phrase
PackToken n = One (λ (t : TextToken). (t.kind ≡ kind.ResultNumber) × (number_in 10 0 (content_of kind.ResultNumber t.text) ≡ n))

pack_at : (op : OpName) (n : ℕ) {s left : List StreamToken} → NoNumber left → At (Where (n ≡ 0) Nothing) s left ⊎ At (Where (n < count_limit) (PackToken n)) s left
    → pack_number op s ≡ Ok (n, left)
unfolding pack_number
pack_at op n {s} {left} clear (inl h) =
    let (zero, p) = at_where h in
    let same = at_nothing p in
    if_false _ (ap (is_next kind.ResultNumber) same ∙ clear) (ap (λ y. Ok (0, y)) same ∙ ap (λ y. Ok (y, left)) (sym zero))
pack_at op n {s} {left} clear (inr h) =
    let (small, p) = at_where h in
    let (t, q, e) = want_at op {k = kind.ResultNumber} (λ t q. q.0) p in
    if_true _ (is_pack p) (on_ok _ e (limited_is count_limit op s left n (number_in 10 0 (content_of kind.ResultNumber t.text)) small q.1))
  where
    is_pack : {n : ℕ} {s left : List StreamToken} → At (PackToken n) s left → is_next kind.ResultNumber s ≡ true
    is_pack h = starts_test (λ t. is_kind t.kind kind.ResultNumber) true (λ t e. is_kind_of e) (starts (leads_one (λ t p. p.0)) h)

pub again_operand : (op : OpName) → Again NoNumber (operand_text op) OperandPhrase
unfolding operand_text
again_operand op = record {
  gives = λ o s left h clear.
      let (m, a, b) = at_then h in
      on_ok _ ((again_value_name op).gives o.name s m a tt) (on_ok _ (pack_at op o.number clear (at_either b)) refl);
}

pub leads_operand : {T : TextToken → Type 0} (o : OperandName) → ((t : TextToken) → t.kind ≡ kind.ValueName → T t) → Leads T (OperandPhrase o)
leads_operand o to = leads_then (leads_holding to)

pub no_number : (k : TokenKind) {s left : List StreamToken} → is_kind k kind.ResultNumber ≡ false → At (Mark k) s left → NoNumber s
no_number k other h = no_mark kind.ResultNumber other h

-- ---- names of results

-- no value stands there
abbrev pub NoValue : List StreamToken → Type 0
NoValue s = is_next kind.ValueName s ≡ false

pub leads_value : {T : TextToken → Type 0} (name : Name) → ((t : TextToken) → t.kind ≡ kind.ValueName → T t) → Leads T (ValueName name)
leads_value name to = leads_holding to

is_value : {P : Phrase} {s left : List StreamToken} → Leads (λ t. t.kind ≡ kind.ValueName) P → At P s left → is_next kind.ValueName s ≡ true
is_value leads h =
    starts_test (λ t. is_kind t.kind kind.ValueName) true (λ t e. is_kind_of e)
    (starts leads h)

results_at : (op : OpName) (r : ResultNames) {s left : List StreamToken} → NoValue left → At (ResultsPhrase r) s left → maybe_results op s ≡ Ok (r, left)
unfolding maybe_results results_text names_after
results_at op no_names clear h =
    let same = at_nothing h in
    if_false _ (ap (is_next kind.ValueName) same ∙ clear) (ap (λ y. Ok (no_names, y)) same)
results_at op (names n []) {s} {left} clear h =
    let (m, a, b) = at_then h in
    let (t, e) = mark_at op b in
    if_true _ (is_value (leads_value n (λ t k. k)) a)
    (on_ok _ ((again_value_name op).gives n s m a tt)
    (on_ok _ (if_false _ (no_mark kind.Colon refl b) (if_false _ (no_mark kind.Comma refl b) refl)) (on_ok _ e refl)))
results_at op (names n (o ∷ os)) {s} {left} clear h =
    let (m, a, b) = at_then h in
    let (t, e) = mark_at op b in
    let (k, c, d) = at_then a in
    let (i, x, y) = at_then d in
    let (next, following) = next_at x in
    if_true _ (is_value (leads_value n (λ t k. k)) c)
    (on_ok _ ((again_value_name op).gives n s k c tt)
    (on_ok _ (if_false _ (no_mark kind.Colon refl x) (if_true _ next
    (on_ok _ (ap (some_items op (value_name op)) following
    ∙ again_some op (again_value_name op) (λ v. leads_value {T = λ _. Unit {0}} v (λ t k. tt)) (λ _ _ _. tt) o os i m y tt (no_mark kind.Comma refl b)) refl)))
    (on_ok _ e refl)))
results_at op (pack n k) {s} {left} clear h =
    let (m, a, b) = at_then h in
    let (i, c, d) = at_then b in
    let (j, x, y) = at_then d in
    let (t, e) = mark_at op y in
    let (next, following) = next_at c in
    if_true _ (is_value (leads_value n (λ t k. k)) a)
    (on_ok _ ((again_value_name op).gives n s m a tt)
    (on_ok _ (if_true _ next (on_ok _ (ap (number_below count_limit op) following ∙ (again_number count_limit op).gives k i j x tt) refl)) (on_ok _ e refl)))

pub again_results : (op : OpName) → Again NoValue (maybe_results op) ResultsPhrase
again_results op = record { gives = λ r s left h clear. results_at op r clear h }
