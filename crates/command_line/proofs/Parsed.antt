-- What `clap` finds in words by a command of the program's form.
use Rattle.std.proofs.Common.{◌≡◌, true, List, [], ◌∷◌, refl, sym, ap, subst, ◌∙◌, inl, inr}
use Rattle.clap.specs.Words.{App, Kinds, Text, HasKind, HasMatchesOf, kind_of, is_simple, is_simple_and_free, fault_of, subcommand_of, subcommand_rows_of}
use Rattle.clap.specs.declared.error.kind.ErrorKind.TheVariants.{OutOfMemory}
use Rattle.clap.specs.declared.error.Error.{Error}
use Rattle.clap.specs.declared.parser.matches.ArgMatches.{ArgMatches}
use Rattle.clap.proofs.OnLiterals.{clap_on_literals}
use Rattle.command_line.specs.Commands.{circt_app}

-- the program's form has simple arguments alone
is_plain : is_simple_and_free circt_app ≡ true
unfolding clap_on_literals
is_plain = refl

is_plain_too : is_simple circt_app ≡ true
unfolding clap_on_literals
is_plain_too = refl

-- matches are those that the program's form has
pub found_by : (a : App) (words : List Text) (m : ArgMatches) → a ≡ circt_app → (is_simple_and_free a ≡ true → fault_of a words ≡ []) → HasMatchesOf a words m
    → (fault_of circt_app words ≡ []) × (subcommand_rows_of m ≡ subcommand_of circt_app words)
found_by a words m is faultless matches = (
  ap (λ b. fault_of b words) (sym is) ∙ faultless (ap is_simple_and_free is ∙ is_plain),
  (matches (ap is_simple is ∙ is_plain_too)).1 ∙ ap (λ b. subcommand_of b words) is,
)

-- an error but for memory has a kind, so that there is one
is_some_kind : (kinds : Kinds) (e : Error) → HasKind kinds e → (kind_of e ≡ OutOfMemory → ⊥) → kinds ≡ [] → ⊥
is_some_kind [] e (inl memory) has_memory empty = has_memory memory
is_some_kind [] e (inr among) has_memory empty = among
is_some_kind (k ∷ ks) e has has_memory empty = cc

pub faulty_by : (a : App) (words : List Text) (e : Error) → a ≡ circt_app → (is_simple_and_free a ≡ true → HasKind (fault_of a words) e)
    → (kind_of e ≡ OutOfMemory → ⊥) → fault_of circt_app words ≡ [] → ⊥
faulty_by a words e is fails has_memory =
    is_some_kind (fault_of circt_app words) e (subst (λ b. HasKind (fault_of b words) e) is (fails (ap is_simple_and_free is ∙ is_plain))) has_memory
