use Rattle.std.proofs.Common.{◌≡◌, ◌++◌, ◌∷◌, [], map, sym, ap, ◌∙◌, arith}
use Rattle.std.proofs.lemmas.List.{take_all}
use Rattle.name_legalise.specs.Legal.{name_byte, clean}
use Rattle.name_legalise.proofs.NameBytes.{cleaned_stays, cleaned_fronted}
use Rattle.name_legalise.proofs.cleaning.clean.Goals.{then-not-starts_name+in_ok-push, else-not-starts_name}
use Rattle.name_legalise.proofs.cleaning.clean.Goals as goal

pub returns : goal.returns
returns c =
    let wanted = c.args.wanted.now in
    let prefix = c.if-not-starts_name.name.items in
    c.loop-byte.invariant
    ∙ ap (λ l. prefix ++ map name_byte l) (take_all c.loop-byte.byte-index wanted (omega arith))
    ∙ elim c.if-not-starts_name.branch as (λ _. prefix ++ map name_byte wanted ≡ clean wanted) [
      | then-not-starts_name+in_ok-push w ↦
          ap (λ v. v.items ++ map name_byte wanted) w.name-is
          ∙ ap (λ l. l ++ map name_byte wanted) (w.in_ok-push.ensures.items ∙ ap (λ l. l ++ 95 ∷ []) c.in_ok-name.ensures.items)
          ∙ sym (cleaned_fronted wanted (sym w.if-not-starts_name.ensures))
      | else-not-starts_name w ↦
          ap (λ v. v.items ++ map name_byte wanted) w.name-is
          ∙ ap (λ l. l ++ map name_byte wanted) c.in_ok-name.ensures.items
          ∙ sym (cleaned_stays wanted (sym w.if-not-starts_name.ensures))
    ]
