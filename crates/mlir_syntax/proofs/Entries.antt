-- The entries of a dictionary, which are read one by one while their keys are noted.
use Rattle.std.proofs.Common.{◌≡◌, ℕ, zero, suc, ◌-◌, ◌≤◌, ◌<◌, Bool, true, false, cond, List, [], ◌∷◌, ◌++◌, map, length, Ok, Err, refl, sym, ap, ◌∙◌, arith}
use Rattle.std.proofs.lemmas.List.{map_push}
use Rattle.diag.specs.declared.refusal.OpName.{OpName}
use Rattle.hw_model.specs.Types.{Name}
use Rattle.hw_model.specs.Design as design
use Rattle.hw_model.specs.Design.{same_name}
use Rattle.indexmap.specs.IndexSet.{insert_key}
use Rattle.ir_store.specs.DictionaryViews.{entry_of}
use Rattle.ir_store.specs.declared.dictionary.Entry.{Entry}
use Rattle.mlir_lexer.specs.declared.token.TokenKind.TheVariants as kind
use Rattle.mlir_syntax.specs.Stream.{StreamToken, is_next, after}
use Rattle.mlir_syntax.specs.Reads.{Read, Reads, on}
use Rattle.mlir_syntax.specs.TypeText.{name_text}
use Rattle.mlir_syntax.specs.AttributeText.{entries, entry_text, new_key, is_among}
use Rattle.mlir_syntax.specs.Views.{ReadsAs}
use Rattle.mlir_syntax.specs.declared.fail.ReadFail.{ReadFail}
use Rattle.mlir_syntax.specs.declared.fail.ReadFail.TheVariants.{Refused, NoMemory}
use Rattle.mlir_syntax.proofs.Lists.{with_prefix, with_prefix-nothing, with_prefix-more}
use Rattle.mlir_syntax.proofs.Keys.{insert_new}

-- some entries are read from the start on, and what is left gives the rest, where these keys are taken
pub record Gathering (op : OpName) (strings : List Name) (start : List StreamToken) (got : List Entry) (keys : List Name) (left : List StreamToken) : Type 0 where
  pub n : ℕ
  pub enough : length left ≤ n
  pub shorter : length left ≤ length start
  pub same : entries 32 op strings [] (length start) start ≡ with_prefix (map entry_of got) (entries 32 op strings keys n left)

-- an entry, and further ones after a comma, so many at most
abbrev then_more : OpName → List Name → List Name → ℕ → design.Entry → Reads (List design.Entry)
then_more op strings keys n e left =
    cond (is_next kind.Comma left) (on (entries 32 op strings (keys ++ e.key ∷ []) n (after left)) (λ es following. Ok (e ∷ es, following))) (Ok (e ∷ [], left))

entries_at : (op : OpName) (strings keys : List Name) (n : ℕ) (left : List StreamToken) → length left ≤ n
    → entries 32 op strings keys n left ≡ on (entry_text 32 op strings keys left) (then_more op strings keys (n - 1))
unfolding entries entry_text new_key name_text
entries_at op strings keys zero [] enough = refl
entries_at op strings keys zero (s ∷ ss) enough = absurd (omega (arith, enough))
entries_at op strings keys (suc n) left enough = let e : suc n - 1 ≡ n = omega arith in rw e refl

pub begins : (op : OpName) (strings : List Name) (start : List StreamToken) → Gathering op strings start [] [] start
begins op strings start =
    record { n = length start; enough = omega arith; shorter = omega arith; same = sym (with_prefix-nothing (entries 32 op strings [] (length start) start)) }

same_at : {op : OpName} {strings : List Name} {start : List StreamToken} {got : List Entry} {keys : List Name} {left : List StreamToken} (read : Read design.Entry)
    → (g : Gathering op strings start got keys left) → entry_text 32 op strings keys left ≡ read
    → entries 32 op strings [] (length start) start ≡ with_prefix (map entry_of got) (on read (then_more op strings keys (g.n - 1)))
same_at {op = op} {strings = strings} {got = got} {keys = keys} {left = left} read g e =
    g.same ∙ ap (with_prefix (map entry_of got)) (entries_at op strings keys g.n left g.enough ∙ ap (λ (r : Read design.Entry). on r (then_more op strings keys (g.n - 1))) e)

-- an entry that is refused
pub fails : {C : Type 0} {op : OpName} {strings : List Name} {start : List StreamToken} {got : List Entry} {keys : List Name} {left : List StreamToken}
    (whole : C → List design.Entry) (fail : ReadFail) (following left_over : List StreamToken)
    → Gathering op strings start got keys left → ReadsAs entry_of (Err fail) following (entry_text 32 op strings keys left)
    → ReadsAs whole (Err fail) left_over (entries 32 op strings [] (length start) start)
fails whole (Refused r) following left_over g read = same_at (Err r) g read
fails whole NoMemory following left_over g read = tt

-- an entry after which no comma stands
pub ends : {op : OpName} {strings : List Name} {start : List StreamToken} {got : List Entry} {keys : List Name} {left : List StreamToken}
    (x : Entry) (xs : List Entry) (following new : List StreamToken) (passed : Bool)
    → Gathering op strings start got keys left → entry_text 32 op strings keys left ≡ Ok (entry_of x, following) → xs ≡ got ++ x ∷ []
    → passed ≡ is_next kind.Comma following → new ≡ cond passed (after following) following → passed ≡ false
    → entries 32 op strings [] (length start) start ≡ Ok (map entry_of xs, new)
ends {got = got} x xs following new passed g read pushed is moved no_comma =
    same_at (Ok (entry_of x, following)) g read ∙ rw (sym is, moved, no_comma, pushed, map_push entry_of got x) refl

pub ends-shorter : {op : OpName} {strings : List Name} {start : List StreamToken} {got : List Entry} {keys : List Name} {left : List StreamToken}
    (following new : List StreamToken) (passed : Bool)
    → Gathering op strings start got keys left → new ≡ cond passed (after following) following → passed ≡ false → length following ≤ length left
    → length new ≤ length start
ends-shorter following new passed g moved no_comma within =
    let before = g.shorter in
    let same : new ≡ following = moved ∙ ap (λ b. cond b (after following) following) no_comma in
    rw same (omega (arith, before, within))

-- an entry after which a comma stands, and whose key is noted
pub goes_on : {op : OpName} {strings : List Name} {start : List StreamToken} {got : List Entry} {keys : List Name} {left : List StreamToken}
    (x : Entry) (xs : List Entry) (key : Name) (noted : List Name) (following new : List StreamToken) (passed : Bool)
    → Gathering op strings start got keys left → entry_text 32 op strings keys left ≡ Ok (entry_of x, following) → xs ≡ got ++ x ∷ []
    → passed ≡ is_next kind.Comma following → new ≡ cond passed (after following) following → passed ≡ true
    → length following ≤ length left → length new < length following
    → is_among x.key keys ≡ false → key ≡ x.key → noted ≡ insert_key same_name keys key → Gathering op strings start xs noted new
goes_on {op = op} {strings = strings} {got = got} {keys = keys} x xs key noted following new passed g read pushed is moved comma within less fresh copied noted_is =
    let most = g.enough in
    let before = g.shorter in
    let all : noted ≡ keys ++ x.key ∷ [] = noted_is ∙ (ap (insert_key same_name keys) copied ∙ insert_new x.key keys fresh) in
    record {
      n = g.n - 1;
      enough = omega (arith, most, within, less);
      shorter = omega (arith, before, within, less);
      same =
          same_at (Ok (entry_of x, following)) g read
          ∙ rw (sym is, moved, comma, pushed, all, map_push entry_of got x)
          (with_prefix-more (map entry_of got) (entry_of x) (entries 32 op strings (keys ++ x.key ∷ []) (g.n - 1) (after following)));
    }
