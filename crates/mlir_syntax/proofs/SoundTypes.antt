-- What is read of types is said by their tokens.
use Rattle.std.proofs.Common.{◌≡◌, ℕ, zero, suc, ◌<◌, true, ◌&&◌, ◌==◌, List, [], ◌∷◌, ◌++◌, length, Some, None, Ok, refl, sym, ◌∙◌, ap, inl, inr, arith}
use Rattle.std.specs.Prelude.{codes}
use Rattle.std.proofs.lemmas.Bool.{eqb-true, cond_both, and_parts}
use Rattle.std.specs.Cmp.Lexicographic.{bytes_decides}
use Rattle.diag.specs.declared.refusal.OpName.{OpName}
use Rattle.hw_model.specs.Types.{HwType}
use Rattle.hw_model.specs.Types.HwType.{int, clock, array, struct}
use Rattle.hw_model.specs.TypeViews.{fields_of}
use Rattle.hw_model.specs.Design.{same_name}
use Rattle.mlir_lexer.specs.Classes.{is_digit}
use Rattle.mlir_lexer.specs.Runs.{run}
use Rattle.mlir_lexer.specs.Contents.{content_of}
use Rattle.mlir_lexer.specs.Tokens.{TextToken}
use Rattle.mlir_lexer.specs.declared.token.TokenKind.TheVariants as kind
use Rattle.mlir_syntax.specs.Stream.{StreamToken, token, bad, end}
use Rattle.mlir_lexer.specs.TokenKinds.{is_kind}
use Rattle.mlir_syntax.specs.Reads.{Read, Reads, on, want, items_until}
use Rattle.mlir_syntax.specs.Numerals.{number_in, below_limit, number_below, count_limit}
use Rattle.mlir_syntax.specs.TypeText.{TypeHead, width_digits, after_x, bare_type, named_type, type_head, width_type, type_with, glued_element, element_after, element_type, array_text, field_text, struct_text, too_deep, type_text}
use Rattle.mlir_syntax.specs.TypeText.TypeHead.{integer_type, clock_type, array_type, struct_type, foreign_type, no_type}
use Rattle.mlir_syntax.specs.Spelling.{Phrase, Then, WidthPhrase, TypeWord, ElementPhrase, FieldPhrase, PlainType, TypeWith, TypePhrase}
use Rattle.mlir_syntax.proofs.Sound.{Said, Sound, Past, ok_of, same_ok, one_more, sound_on, sound_last}
use Rattle.mlir_syntax.proofs.SoundTokens.{pair, mark, kind_is, limited_ok, sound_want, sound_number, sound_name, sound_until}

-- ---- what a token begins a type as

-- what a head says of its token
abbrev HeadSays : TextToken → TypeHead → Type 0
HeadSays t (integer_type digits) =
    (t.kind ≡ kind.BareName) × (t.text ≡ 105 ∷ digits) × (0 < length digits) × (run is_digit digits ≡ length digits)
HeadSays t clock_type = (t.kind ≡ kind.TypeName) × (content_of kind.TypeName t.text ≡ codes "seq.clock")
HeadSays t array_type = (t.kind ≡ kind.TypeName) × (content_of kind.TypeName t.text ≡ codes "hw.array")
HeadSays t struct_type = (t.kind ≡ kind.TypeName) × (content_of kind.TypeName t.text ≡ codes "hw.struct")
HeadSays t foreign_type = Unit {0}
HeadSays t no_type = Unit {0}

-- an `i` and digits
digits_said : (b d : ℕ) (ds : List ℕ) → ((b == 105) && (run is_digit (d ∷ ds) == length (d ∷ ds))) ≡ true
    → (b ≡ 105) × (0 < length (d ∷ ds)) × (run is_digit (d ∷ ds) ≡ length (d ∷ ds))
digits_said b d ds h =
    let (e, r) = and_parts (b == 105) (run is_digit (d ∷ ds) == length (d ∷ ds)) h in
    (eqb-true b 105 e, omega arith, eqb-true (run is_digit (d ∷ ds)) (length (d ∷ ds)) r)

bare_says : (t : TextToken) → t.kind ≡ kind.BareName → (text : List ℕ) → t.text ≡ text → HeadSays t (bare_type (width_digits text))
bare_says t k [] e = tt
bare_says t k (b ∷ []) e = tt
bare_says t k (b ∷ d ∷ ds) e =
    cond_both ((b == 105) && (run is_digit (d ∷ ds) == length (d ∷ ds))) (Some (d ∷ ds)) None (λ o. HeadSays t (bare_type o))
    (λ h. let (eb, l, r) = digits_said b d ds h in (k, e ∙ ap (λ x. x ∷ d ∷ ds) eb, l, r)) (λ _. tt)

named_says : (t : TextToken) → t.kind ≡ kind.TypeName → HeadSays t (named_type (content_of kind.TypeName t.text))
named_says t k =
    let name = content_of kind.TypeName t.text in
    cond_both (same_name name (codes "seq.clock")) clock_type _ (HeadSays t) (λ h. (k, (bytes_decides name (codes "seq.clock")).0 h)) (λ _.
    cond_both (same_name name (codes "hw.array")) array_type _ (HeadSays t) (λ h. (k, (bytes_decides name (codes "hw.array")).0 h)) (λ _.
    cond_both (same_name name (codes "hw.struct")) struct_type foreign_type (HeadSays t) (λ h. (k, (bytes_decides name (codes "hw.struct")).0 h)) (λ _. tt)))

head_says : (t : TextToken) → HeadSays t (type_head (Some t))
head_says t =
    cond_both (is_kind t.kind kind.BareName) _ _ (HeadSays t) (λ h. bare_says t (kind_is t.kind kind.BareName h) t.text refl) (λ _.
    cond_both (is_kind t.kind kind.TypeName) _ no_type (HeadSays t) (λ h. named_says t (kind_is t.kind kind.TypeName h)) (λ _. tt))

-- ---- integer types

-- a token that ends in a width
width_ok : (Q : HwType → Phrase) (op : OpName) (t : TextToken) (ts left : List StreamToken) (prefix digits : List ℕ) (x : HwType)
    → ((w : ℕ) (a : List TextToken) → WidthPhrase prefix w a → Q (int w) a) → t.kind ≡ kind.BareName → t.text ≡ prefix ++ digits → 0 < length digits
    → run is_digit digits ≡ length digits → width_type op (token t ∷ ts) digits ≡ Ok (x, left) → Said (Q x) (token t ∷ ts) left
unfolding width_type
width_ok Q op t ts left prefix digits x to k text some all h =
    let (w, m, e, g) = ok_of (below_limit count_limit op (token t ∷ ts) (number_in 10 0 digits) ts) (λ w left. Ok (int w, left)) x left h in
    limited_ok count_limit op (token t ∷ ts) ts m (number_in 10 0 digits) w (λ z l. ◌≡◌ {A = Read HwType} (Ok (int z, l)) (Ok (x, left)) → Said (Q x) (token t ∷ ts) left)
    (λ small g. same_ok (int (number_in 10 0 digits)) x ts left (λ z l. Said (Q z) (token t ∷ ts) l) g
    (t ∷ [], refl, to (number_in 10 0 digits) (t ∷ []) (t, refl, (k, (digits, text, (some, all, refl, small)))))) e g

-- ---- elements of arrays

glued_ok : (Q : HwType → Phrase) (op : OpName) (t : TextToken) (ts left : List StreamToken) (rest : List ℕ) (x : HwType)
    → ((w : ℕ) (a : List TextToken) → WidthPhrase (codes "xi") w a → Q (int w) a) → t.kind ≡ kind.BareName → t.text ≡ 120 ∷ rest
    → glued_element op (token t ∷ ts) (width_digits rest) ≡ Ok (x, left) → Said (Q x) (token t ∷ ts) left
unfolding glued_element
glued_ok Q op t ts left [] x to k e h = absurd cc
glued_ok Q op t ts left (b ∷ []) x to k e h = absurd cc
glued_ok Q op t ts left (b ∷ d ∷ ds) x to k e h =
    cond_both ((b == 105) && (run is_digit (d ∷ ds) == length (d ∷ ds))) (Some (d ∷ ds)) None
    (λ o. glued_element op (token t ∷ ts) o ≡ Ok (x, left) → Said (Q x) (token t ∷ ts) left)
    (λ c g. let (eb, l, r) = digits_said b d ds c in width_ok Q op t ts left (codes "xi") (d ∷ ds) x to k (e ∙ ap (λ y. 120 ∷ y ∷ d ∷ ds) eb) l r g)
    (λ _ g. absurd cc) h

rest_ok : (Inner : HwType → Phrase) (element : Reads HwType) (op : OpName) → Sound element Inner → (t : TextToken) (ts left : List StreamToken) (rest : List ℕ) (x : HwType)
    → t.kind ≡ kind.BareName → t.text ≡ 120 ∷ rest → element_after element op (token t ∷ ts) (Some rest) ≡ Ok (x, left)
    → Said (ElementPhrase Inner x) (token t ∷ ts) left
unfolding element_after
rest_ok Inner element op inner t ts left [] x k e h =
    one_more t ts left (ElementPhrase Inner x) (let (a, ea, p) = inner.said ts left x h in (a, ea, inl (pair (t ∷ []) a (t, refl, (k, e)) p)))
rest_ok Inner element op inner t ts left (b ∷ bs) x k e h = glued_ok (ElementPhrase Inner) op t ts left (b ∷ bs) x (λ w a p. inr p) k e h

after_ok : (Inner : HwType → Phrase) (element : Reads HwType) (op : OpName) → Sound element Inner → (t : TextToken) (ts left : List StreamToken) (text : List ℕ) (x : HwType)
    → t.kind ≡ kind.BareName → t.text ≡ text → element_after element op (token t ∷ ts) (after_x text) ≡ Ok (x, left)
    → Said (ElementPhrase Inner x) (token t ∷ ts) left
unfolding element_after
after_ok Inner element op inner t ts left [] x k e h = absurd cc
after_ok Inner element op inner t ts left (b ∷ bs) x k e h =
    cond_both (b == 120) (Some bs) None (λ o. element_after element op (token t ∷ ts) o ≡ Ok (x, left) → Said (ElementPhrase Inner x) (token t ∷ ts) left)
    (λ c g. rest_ok Inner element op inner t ts left bs x k (e ∙ ap (λ y. y ∷ bs) (eqb-true b 120 c)) g) (λ _ g. absurd cc) h

element_ok : (Inner : HwType → Phrase) (element : Reads HwType) (op : OpName) → Sound element Inner → (s left : List StreamToken) (x : HwType)
    → element_type element op s ≡ Ok (x, left) → Said (ElementPhrase Inner x) s left
unfolding element_type element_after
element_ok Inner element op inner [] left x h = absurd cc
element_ok Inner element op inner (token t ∷ ts) left x h =
    cond_both (is_kind t.kind kind.BareName) (after_x t.text) None
    (λ o. element_after element op (token t ∷ ts) o ≡ Ok (x, left) → Said (ElementPhrase Inner x) (token t ∷ ts) left)
    (λ c g. after_ok Inner element op inner t ts left t.text x (kind_is t.kind kind.BareName c) refl g) (λ _ g. absurd cc) h
element_ok Inner element op inner (bad p ∷ ts) left x h = absurd cc
element_ok Inner element op inner (end p ∷ ts) left x h = absurd cc

sound_element : {Inner : HwType → Phrase} {element : Reads HwType} (op : OpName) → Sound element Inner → Sound (element_type element op) (ElementPhrase Inner)
sound_element {Inner} {element} op inner = record { said = element_ok Inner element op inner }

-- ---- arrays and structs

pub then_left : {P Q R : Phrase} (a b c : List TextToken) → P a → Q b → R c → Then (Then P Q) R (a ++ (b ++ c))
then_left a b c p q r = (a ++ b, c, sym (Rattle.std.proofs.lemmas.List.append_assoc a b c), (a, b, refl, p, q), r)

array_after : {Inner : HwType → Phrase} {element : Reads HwType} (op : OpName) (t0 : TextToken) → TypeWord (codes "hw.array") (t0 ∷ []) → Sound element Inner
    → Sound (λ s. on (want op kind.Less s) (λ _ s1. on (number_below count_limit op s1) (λ n s2.
    on (element_type element op s2) (λ t s3. on (want op kind.Greater s3) (λ _ s4. Ok (array n t, s4)))))) (λ y. Past t0 (TypeWith Inner y))
array_after {Inner} {element} op t0 word inner =
    sound_on (sound_want op kind.Less) (λ _. sound_on (sound_number count_limit op) (λ n. sound_on (sound_element op inner) (λ t.
    sound_last (λ _. array n t) (sound_want op kind.Greater) (λ _ d pd c pc b pb a pa.
    pair (t0 ∷ []) (a ++ (b ++ (c ++ d))) word (pair a (b ++ (c ++ d)) (mark pa) (then_left b c d pb pc (mark pd)))))))

pub sound_field : {Inner : HwType → Phrase} {element : Reads HwType} (op : OpName) → Sound element Inner → Sound (field_text element op) (FieldPhrase Inner)
unfolding field_text
sound_field {Inner} {element} op inner =
    sound_on (sound_name op) (λ name. sound_on (sound_want op kind.Colon) (λ _.
    sound_last (λ t. record { name = name; type = t }) inner (λ t c pc b pb a pa. pair a (b ++ c) pa (pair b c (mark pb) pc))))

struct_after : {Inner : HwType → Phrase} {element : Reads HwType} (op : OpName) (t0 : TextToken) → TypeWord (codes "hw.struct") (t0 ∷ []) → Sound element Inner
    → Sound (λ s. on (want op kind.Less s) (λ _ s1. on (items_until op kind.Greater (field_text element op) s1) (λ fs s2. Ok (struct (fields_of fs), s2))))
    (λ y. Past t0 (TypeWith Inner y))
struct_after {Inner} {element} op t0 word inner =
    sound_on (sound_want op kind.Less) (λ _. sound_last (λ fs. struct (fields_of fs)) (sound_until op kind.Greater (sound_field op inner)) (λ fs b pb a pa.
    pair (t0 ∷ []) (a ++ b) word (fs, refl, pair a b (mark pa) pb)))

-- ---- types

with_ok : (Q : HwType → Phrase) (arrays structs : Reads HwType) (op : OpName) (t : TextToken) (ts left : List StreamToken) (x : HwType) (head : TypeHead)
    → ((w : ℕ) (a : List TextToken) → WidthPhrase (codes "i") w a → Q (int w) a) → ((a : List TextToken) → TypeWord (codes "seq.clock") a → Q clock a)
    → (TypeWord (codes "hw.array") (t ∷ []) → arrays (token t ∷ ts) ≡ Ok (x, left) → Said (Q x) (token t ∷ ts) left)
    → (TypeWord (codes "hw.struct") (t ∷ []) → structs (token t ∷ ts) ≡ Ok (x, left) → Said (Q x) (token t ∷ ts) left)
    → HeadSays t head → type_with arrays structs op (token t ∷ ts) head ≡ Ok (x, left) → Said (Q x) (token t ∷ ts) left
unfolding type_with
with_ok Q arrays structs op t ts left x (integer_type digits) ints clocks arrs strs says h =
    width_ok Q op t ts left (codes "i") digits x ints says.0 says.1 says.2 says.3 h
with_ok Q arrays structs op t ts left x clock_type ints clocks arrs strs says h =
    same_ok clock x ts left (λ z l. Said (Q z) (token t ∷ ts) l) h (t ∷ [], refl, clocks (t ∷ []) (t, refl, says))
with_ok Q arrays structs op t ts left x array_type ints clocks arrs strs says h = arrs (t, refl, says) h
with_ok Q arrays structs op t ts left x struct_type ints clocks arrs strs says h = strs (t, refl, says) h
with_ok Q arrays structs op t ts left x foreign_type ints clocks arrs strs says h = absurd cc
with_ok Q arrays structs op t ts left x no_type ints clocks arrs strs says h = absurd cc

plain_ok : (op : OpName) (s left : List StreamToken) (x : HwType) → type_text zero op s ≡ Ok (x, left) → Said (TypePhrase zero x) s left
unfolding type_with too_deep
plain_ok op [] left x h = absurd cc
plain_ok op (token t ∷ ts) left x h =
    with_ok PlainType (too_deep op) (too_deep op) op t ts left x (type_head (Some t)) (λ w a p. p) (λ a p. p) (λ w e. absurd cc) (λ w e. absurd cc) (head_says t) h
plain_ok op (bad p ∷ ts) left x h = absurd cc
plain_ok op (end p ∷ ts) left x h = absurd cc

suc_ok : (room : ℕ) (op : OpName) → Sound (type_text room op) (TypePhrase room) → (s left : List StreamToken) (x : HwType) → type_text (suc room) op s ≡ Ok (x, left)
    → Said (TypePhrase (suc room) x) s left
unfolding type_with array_text struct_text
suc_ok room op inner [] left x h = absurd cc
suc_ok room op inner (token t ∷ ts) left x h =
    with_ok (TypeWith (TypePhrase room)) (array_text (type_text room op) op) (struct_text (type_text room op) op) op t ts left x (type_head (Some t))
    (λ w a p. p) (λ a p. p)
    (λ w e. one_more t ts left (TypeWith (TypePhrase room) x) ((array_after op t w inner).said ts left x e))
    (λ w e. one_more t ts left (TypeWith (TypePhrase room) x) ((struct_after op t w inner).said ts left x e)) (head_says t) h
suc_ok room op inner (bad p ∷ ts) left x h = absurd cc
suc_ok room op inner (end p ∷ ts) left x h = absurd cc

pub sound_type : (room : ℕ) (op : OpName) → Sound (type_text room op) (TypePhrase room)
sound_type zero op = record { said = plain_ok op }
sound_type (suc room) op = record { said = suc_ok room op (sound_type room op) }
