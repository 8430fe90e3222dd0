-- What is read of operations is said by their tokens.
use Rattle.std.proofs.Common.{◌≡◌, ℕ, zero, suc, Bool, true, false, ◌&&◌, cond, List, [], ◌∷◌, ◌++◌, length, Option, Some, None, IfSome, Ok, Err, refl, sym}
use Rattle.std.specs.Prelude.{codes}
use Rattle.std.proofs.lemmas.Bool.{cond_both}
use Rattle.diag.specs.declared.refusal.Location.{Location}
use Rattle.diag.specs.declared.refusal.OpName.{OpName}
use Rattle.diag.specs.declared.refusal.OpName.TheVariants as op
use Rattle.opcode.specs.declared.listed.Listed.{Listed}
use Rattle.opcode.specs.declared.listed.Listed.TheVariants as listed
use Rattle.opcode.specs.Listed.{name_of_listed, first_named}
use Rattle.opcode.proofs.Names.{listed_operations, first_named-name}
use Rattle.hw_model.specs.Types.{Name}
use Rattle.hw_model.specs.Design.{Entry, same_name}
use Rattle.mlir_lexer.specs.Tokens.{TextToken}
use Rattle.mlir_lexer.specs.declared.token.TokenKind.TheVariants as kind
use Rattle.mlir_syntax.specs.Stream.{StreamToken, token, bad, end, first, is_first, is_next, is_word, after, unexpected_refusal}
use Rattle.mlir_lexer.specs.TokenKinds.{is_kind}
use Rattle.mlir_syntax.specs.Reads.{on, give}
use Rattle.mlir_syntax.specs.AttributeText.{is_among}
use Rattle.mlir_operations.specs.OperandText.{ResultNames}
use Rattle.assembly_format.specs.Formats.{format_of, prefix_elements, type_elements}
use Rattle.mlir_operations.specs.ElementText.{gathered_nothing}
use Rattle.mlir_operations.specs.OperationText.{file_names, left_out, is_foreign, NameClass, operation, module_name, file_name, locations, outside, unknown, class_of_listed, class_of_other, class_by}
use Rattle.mlir_operations.specs.OperationText.{class_of, bin_text, OperationText, given_entries, late_dictionary, Tail, form_text, named_operation, classed_operation, operation_after, operation_text}
use Rattle.mlir_operations.specs.OperationText.{is_last, operations_text}
use Rattle.stored_form.specs.Dictionaries.{takes_bin, string_keys}
use Rattle.mlir_syntax.specs.Spelling.{Phrase, MaybeDictionary}
use Rattle.mlir_operations.specs.Spelling.{IsOneOf, FormPhrase, BinPhrase, MayHaveFormat, OperationPhrase, OperationsPhrase, ResultsPhrase, StandsInBody, IsLocationOf}
use Rattle.assembly_format.specs.declared.elements.Format.{Format}
use Rattle.mlir_syntax.proofs.Sound.{Said, Sound, Reading, one_more, sound_on, sound_last, sound_give, sound_refused, sound_if, sound_past}
use Rattle.mlir_syntax.proofs.SoundTokens.{pair, kind_is, said_word}
use Rattle.mlir_syntax.proofs.SoundAttributes.{sound_maybe}
use Rattle.mlir_operations.proofs.SoundOperands.{sound_maybe_results}
use Rattle.mlir_operations.proofs.SoundElements.{sound_elements}

-- ---- names of operations

-- what a class says of a name
abbrev pub ClassSays : Name → NameClass → Type 0
ClassSays name (operation o) = (name_of_listed o ≡ name) × StandsInBody o
ClassSays name module_name = name_of_listed listed.HwModule ≡ name
ClassSays name file_name = Unit {0}
ClassSays name locations = Unit {0}
ClassSays name outside = Unit {0}
ClassSays name unknown = Unit {0}

listed_says : (name : Name) (o : Listed) → name_of_listed o ≡ name → ClassSays name (class_of_listed o)
listed_says name listed.HwModule h = h
listed_says name _ h = (h, tt)

other_says : (name : Name) → ClassSays name (class_of_other name)
unfolding class_of_other
other_says name =
    cond_both (is_among name file_names) file_name _ (ClassSays name) (λ _. tt) (λ _.
    cond_both (same_name (codes "loc") name) locations _ (ClassSays name) (λ _. tt) (λ _.
    cond_both (is_among name left_out) outside _ (ClassSays name) (λ _. tt) (λ _.
    cond_both (is_foreign name) outside unknown (ClassSays name) (λ _. tt) (λ _. tt))))

by_says : (name : Name) (o : Option Listed) → IfSome o (λ l. name_of_listed l ≡ name) → ClassSays name (class_by name o)
by_says name None h = other_says name
by_says name (Some o) h = listed_says name o h

pub class_says : (name : Name) → ClassSays name (class_of name)
class_says name = by_says name (first_named name listed_operations) (first_named-name name listed_operations)

-- ---- what is after a name

sound_bin : (o : Listed) → Sound (bin_text o) (BinPhrase o)
unfolding bin_text
sound_bin o = go (takes_bin o) refl
  where
    go : (b : Bool) → takes_bin o ≡ b → Sound (λ s. cond (b && is_first (is_word (codes "bin")) s) (Ok (true, after s)) (Ok (false, s))) (BinPhrase o)
    go true e = sound_past {r = give true} (λ t h. sound_give {y = true} (e, said_word h)) (sound_give {y = false} refl)
    go false e = sound_give {y = false} refl

sound_late : (op : OpName) (keys : List Name) (early : Option (List Entry))
    → Sound (late_dictionary op keys early) (λ all ts. (late : Option (List Entry)) × IsOneOf early late all × MaybeDictionary keys late ts)
unfolding late_dictionary
sound_late op keys (Some es) = sound_give {y = es} (None, (refl, refl), refl)
sound_late op keys None = sound_last given_entries (sound_maybe op keys) (λ es a p. (es, refl, p))

sound_form : (op : OpName) (keys : List Name) (format : Format) → Sound (form_text op keys format) (λ t. FormPhrase keys format t.gathered t.dictionary)
unfolding form_text
sound_form op keys format =
    sound_on (sound_elements op (prefix_elements format) gathered_nothing) (λ g. sound_on (sound_maybe op keys) (λ es.
    sound_on (sound_elements op (type_elements format) g) (λ h. sound_last (λ all. record { gathered = h; dictionary = all }) (sound_late op keys es)
    (λ all d pd c pc b pb a pa. (g, es, pd.0, pd.1, pair a (b ++ (c ++ d)) pa (pair b (c ++ d) pb (pair c d pc pd.2)))))))

-- what is after an operation's name and mark
abbrev ShapedPhrase : Listed → Tail → Phrase
ShapedPhrase o t ts = (format : Format) × MayHaveFormat o format × FormPhrase (string_keys o) format t.gathered t.dictionary ts

sound_shaped : (o : Listed) → Sound (λ s. form_text (op.Listed o) (string_keys o) (format_of o (first s)) s) (ShapedPhrase o)
sound_shaped o = record {
  said = λ s left x h.
      let (a, ea, p) = (sound_form (op.Listed o) (string_keys o) (format_of o (first s))).said s left x h in
      (a, ea, (format_of o (first s), (first s, refl), p));
}

-- what is after a name, where the name and the names of results stand before
abbrev AfterName : ResultNames → Listed → Location → OperationText → Phrase
AfterName results o location y ts =
    (t : TextToken) → StandsInBody o → t.kind ≡ kind.BareName → t.text ≡ name_of_listed o → t.location ≡ location → (a : List TextToken) → ResultsPhrase results a
    → OperationPhrase IsLocationOf y (a ++ (t ∷ ts))

sound_named : (results : ResultNames) (o : Listed) (location : Location) → Sound (named_operation results o location) (AfterName results o location)
unfolding named_operation
sound_named results o location =
    sound_on (sound_bin o) (λ bin. sound_last
    (λ t. record { results = results; name = o; bin = bin; gathered = t.gathered; dictionary = t.dictionary; location = location }) (sound_shaped o)
    (λ x c pc b pb t stands k w i a pa.
    (stands, pair a (t ∷ (b ++ c)) pa (pair (t ∷ []) (b ++ c) (t, refl, (k, w, i)) (pair b c pb pc)))))

-- ---- operations

classed_ok : (results : ResultNames) (t : TextToken) (ts left : List StreamToken) (x : OperationText) (class : NameClass) → t.kind ≡ kind.BareName → ClassSays t.text class
    → classed_operation results (token t ∷ ts) t class ≡ Ok (x, left) → Said (Reading (ResultsPhrase results) (OperationPhrase IsLocationOf x)) (token t ∷ ts) left
unfolding classed_operation
classed_ok results t ts left x (operation o) k says h =
    one_more t ts left (Reading (ResultsPhrase results) (OperationPhrase IsLocationOf x))
    (let (a, ea, p) = (sound_named results o t.location).said ts left x h in (a, ea, λ f pf. p t says.1 k (sym says.0) refl f pf))
classed_ok results t ts left x module_name k says h = absurd cc
classed_ok results t ts left x file_name k says h = absurd cc
classed_ok results t ts left x locations k says h = absurd cc
classed_ok results t ts left x outside k says h = absurd cc
classed_ok results t ts left x unknown k says h = absurd cc

after_ok : (results : ResultNames) (s left : List StreamToken) (x : OperationText) → operation_after results s ≡ Ok (x, left)
    → Said (Reading (ResultsPhrase results) (OperationPhrase IsLocationOf x)) s left
unfolding operation_after
after_ok results [] left x h = absurd cc
after_ok results (token t ∷ ts) left x h =
    cond_both (is_kind t.kind kind.BareName) (classed_operation results (token t ∷ ts) t (class_of t.text)) _
    (λ m. m ≡ Ok (x, left) → Said (Reading (ResultsPhrase results) (OperationPhrase IsLocationOf x)) (token t ∷ ts) left)
    (λ c g. classed_ok results t ts left x (class_of t.text) (kind_is t.kind kind.BareName c) (class_says t.text) g) (λ _ g. absurd cc) h
after_ok results (bad p ∷ ts) left x h = absurd cc
after_ok results (end p ∷ ts) left x h = absurd cc

pub sound_operation : Sound operation_text (OperationPhrase IsLocationOf)
unfolding operation_text
sound_operation = sound_on (sound_maybe_results (op.Listed listed.HwModule)) (λ r. record { said = after_ok r })

sound_operations : (n : ℕ) → Sound (operations_text n) (OperationsPhrase IsLocationOf)
unfolding operations_text
sound_operations zero = record { said = λ s left x h. absurd cc }
sound_operations (suc n) =
    sound_if (is_next kind.RightBrace) (sound_give {y = []} refl) (sound_on sound_operation (λ o. go o (is_last o.name) refl (sound_operations n)))
  where
    go : (o : OperationText) (b : Bool) → is_last o.name ≡ b → Sound (operations_text n) (OperationsPhrase IsLocationOf)
        → Sound (λ left. cond b (cond (is_next kind.RightBrace left) (Ok (o ∷ [], left)) (Err (unexpected_refusal (op.Listed listed.HwModule) left)))
        (on (operations_text n left) (λ os following. Ok (o ∷ os, following)))) (λ y. Reading (OperationPhrase IsLocationOf o) (OperationsPhrase IsLocationOf y))
    go o true e others = sound_if (is_next kind.RightBrace) (sound_give {y = o ∷ []} (λ a pa. ((λ _. refl), pair a [] pa refl))) sound_refused
    go o false e others = sound_last (λ os. o ∷ os) others (λ os b pb a pa. ((λ c. absurd cc), pair a b pa pb))

pub all_operations : Sound (λ s. operations_text (length s) s) (OperationsPhrase IsLocationOf)
all_operations = record { said = λ s left x h. (sound_operations (length s)).said s left x h }
