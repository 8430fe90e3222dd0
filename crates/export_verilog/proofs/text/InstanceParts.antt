-- The text of an instance, part by part.
use Rattle.std.proofs.Common.{◌≡◌, Bool, cond, List, [], ◌∷◌, ◌++◌, codes, refl, sym, ◌∙◌, ap, append_assoc}
use Rattle.hw_model.specs.Types.{Name}
use Rattle.verilog_model.specs.Tree.{Connection}
use Rattle.verilog_model.specs.Tree.Item.{instance}
use Rattle.export_verilog.specs.Layout.{Text, connections_text, item_text}
use Rattle.export_verilog.specs.Written.{head_text, connections_end, connections_left, some_left}
use Rattle.export_verilog.proofs.text.Rests.{four_parts}
use Rattle.export_verilog.proofs.text.ItemRests.{lines_rest}

head_rest : (m n x : Text) → head_text m n ++ x ≡ codes "  " ++ (m ++ (32 ∷ n ++ (codes " (" ++ x)))
unfolding head_text
head_rest m n x = ap (λ z. codes "  " ++ z) (append_assoc m (32 ∷ n ++ codes " (") x ∙ ap (λ z. m ++ (32 ∷ z)) (append_assoc n (codes " (") x))

connections_parts : (cs : List Connection) → cond (some_left cs) (codes "\n") [] ++ (connections_left cs [] ++ connections_end (some_left cs)) ≡ connections_text cs []
unfolding connections_text connections_end
connections_parts [] = refl
connections_parts (c ∷ cs) = ap (λ x. 10 ∷ x) (sym (lines_rest c cs [] (codes "  );" ++ (10 ∷ []))))

pub instance_parts : (m n : Name) (cs : List Connection) (some : Bool) (out one two thr end : Text) → some ≡ some_left cs
    → one ≡ out ++ head_text m n → two ≡ one ++ cond some (codes "\n") [] → thr ≡ two ++ connections_left cs [] → end ≡ thr ++ connections_end some
    → end ≡ out ++ item_text (instance m n cs) []
unfolding item_text
instance_parts m n cs some out one two thr end is a b c d =
    four_parts out one two thr end (head_text m n) (cond some (codes "\n") []) (connections_left cs []) (connections_end some) a b c d
    ∙ ap (λ z. out ++ (head_text m n ++ (cond z (codes "\n") [] ++ (connections_left cs [] ++ connections_end z)))) is
    ∙ ap (λ z. out ++ (head_text m n ++ z)) (connections_parts cs)
    ∙ ap (λ z. out ++ z) (head_rest m n (connections_text cs []))
