-- What a Verilog text is, and when it behaves as a design.
use Rattle.std.specs.Prelude.{◌≡◌, ℕ, Bool, true, false, List, [], ◌∷◌, map, Some, IsTrue}
use Rattle.hw_model.specs.Types.{Name}
use Rattle.hw_model.specs.Design.{Module, Design}
use Rattle.hw_model.specs.Machine.{Same}
use Rattle.hw_model.specs.Meaning.{machine}
use Rattle.verilog_model.specs.Tree.{VPort, VModule, Tree}
use Rattle.verilog_model.specs.Tokens.{tokens}
use Rattle.verilog_model.specs.Grammar.{spell_tree, tree_fits}
use Rattle.verilog_model.specs.Checks.{tree_checks}
use Rattle.verilog_model.specs.Hierarchy.{find_vmodule, range_width}
use Rattle.verilog_model.specs.Meaning.{tree_machine}

-- the text is the tree's: its tokens are the tree's spelling, which keeps precedence, and the tree meets the checks
pub record IsVerilog (text : List ℕ) (t : Tree) : Type 0 where
  pub spelled : tokens text ≡ spell_tree t
  pub fits : IsTrue (tree_fits t)
  pub checks : IsTrue (tree_checks t)

-- what a module shows of a port: whether it is an output, its name, its width in bits
pub record Shown : Type 0 where
  pub is_output : Bool
  pub name : Name
  pub width : ℕ

abbrev pub shown_port : VPort → Shown
shown_port p = record { is_output = p.is_output; name = p.name; width = range_width p.high }

-- the partner of a module of the design: the module of that name in the tree, with those ports and the same behaviour
pub record IsPartner (d : Design) (t : Tree) (m : Module) (name : Name) (ports : List Shown) : Type 0 where
  pub partner : VModule
  pub found : find_vmodule t name ≡ Some partner
  pub ports_are : map shown_port partner.ports ≡ ports
  pub same : Same (machine d m.symbol) (tree_machine t name)

abbrev pub UnlessPrivate : Bool → Type 0 → Type 0
UnlessPrivate true P = Unit {0}
UnlessPrivate false P = P

-- the public ones of these modules of the design have their partners: each has one of these names, in order, and the ports that `ports` says
abbrev pub HavePartners : Design → Tree → (Module → List Shown) → List Name → List Module → Type 0
HavePartners d t ports [] [] = Unit {0}
HavePartners d t ports (n ∷ ns) (m ∷ ms) = UnlessPrivate m.is_private (IsPartner d t m n (ports m)) × HavePartners d t ports ns ms
HavePartners d t ports _ _ = ⊥

-- the text behaves as the design: it is a tree's, in which each public module of the design has its partner
pub record Behaves (text : List ℕ) (d : Design) (names : List Name) (ports : Module → List Shown) : Type 0 where
  pub tree : Tree
  pub is_verilog : IsVerilog text tree
  pub partners : HavePartners d tree ports names d
