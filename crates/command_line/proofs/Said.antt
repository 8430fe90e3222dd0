-- What regular words say, by what `clap` finds in them.
use Rattle.std.proofs.Common.{◌≡◌, List, [], Option, Some, None, Result, Err, ap, ◌∷◌, subst, sym, refl, option_map}
use Rattle.clap.specs.Words.{Kinds, Row, Text}
use Rattle.pass_pipeline.specs.declared.pass.Pass.{Pass}
use Rattle.command_line.specs.Line.{parse, require_subcommand, command_in, unless_faulty}
use Rattle.command_line.specs.Commands.{circt_app}
use Rattle.clap.specs.Words.{fault_of, subcommand_of}
use Rattle.command_line.specs.declared.usage.UsageKind.{UsageKind}
use Rattle.command_line.specs.Line.{Command}
use Rattle.command_line.specs.Invocations.{Says, IsFault}
use Rattle.command_line.specs.declared.invocation.Invocation.{Invocation}
use Rattle.command_line.specs.declared.invocation.LineFail.{LineFail}
use Rattle.command_line.specs.declared.invocation.LineFail.TheVariants.{Usage, NoMemory}

-- a subcommand has the name and the rows that are told of it
pub pair_found : {A B C : Type 0} (f : C → A) (g : C → B) (o : Option C) (a : A) (b : B)
    → Some a ≡ option_map f o → Some b ≡ option_map (λ (p : A × B). p.1) (option_map {T = C} {U = A × B} (λ c. (f c, g c)) o)
    → ◌≡◌ {A = Option (A × B)} (option_map (λ c. (f c, g c)) o) (Some (a, b))
pair_found f g None a b h k = cc
pair_found f g (Some c) a b h k =
    let first : f c ≡ a = let e : Some a ≡ Some (f c) = h in cc in
    let second : g c ≡ b = let e : Some b ≡ Some (g c) = k in cc in
    rw (first, second) refl

-- what is found says what the subcommand of its name says
pub found_says : (offered : List Pass) (found : Option (Text × List Row)) (name : Text) (rows : List Row) (r : Result Invocation LineFail)
    → found ≡ Some (name, rows) → Says (command_in offered name rows) r → Says (require_subcommand offered found) r
found_says offered found name rows r is h = subst (λ f. Says (require_subcommand offered f) r) (sym is) h

-- words without faults say what is found
said_by : (offered : List Pass) (kinds : Kinds) (found other : Option (Text × List Row)) (r : Result Invocation LineFail)
    → kinds ≡ [] → found ≡ other → Says (require_subcommand offered found) r → Says (unless_faulty kinds (require_subcommand offered other)) r
said_by offered kinds found other r faultless is h =
    subst (λ ks. Says (unless_faulty ks (require_subcommand offered other)) r) (sym faultless)
    (subst (λ f. Says (require_subcommand offered f) r) is h)

pub said_by_found : (offered : List Pass) (words : List Text) (found : Option (Text × List Row)) (r : Result Invocation LineFail)
    → fault_of circt_app words ≡ [] → found ≡ subcommand_of circt_app words → Says (require_subcommand offered found) r → Says (parse offered words) r
unfolding parse
said_by_found offered words found r faultless is h = said_by offered (fault_of circt_app words) found (subcommand_of circt_app words) r faultless is h

-- words with faults are wrong
wrong_by : (kinds : Kinds) (said : Result Command UsageKind) (fail : LineFail) → IsFault kinds fail → Says (unless_faulty kinds said) (Err fail)
wrong_by [] said (Usage kind) h = absurd (h.1 refl)
wrong_by [] said NoMemory h = tt
wrong_by (k ∷ ks) said (Usage kind) h = ap Err (sym h.0)
wrong_by (k ∷ ks) said NoMemory h = tt

pub wrong_by_fault : (offered : List Pass) (words : List Text) (fail : LineFail) → IsFault (fault_of circt_app words) fail → Says (parse offered words) (Err fail)
unfolding parse
wrong_by_fault offered words fail h = wrong_by (fault_of circt_app words) (require_subcommand offered (subcommand_of circt_app words)) fail h
