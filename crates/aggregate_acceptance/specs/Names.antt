-- What is asked of the names that leaves get (CIRCT, HW dialect: `hw-lower-aggregates`).
use Rattle.std.specs.Prelude.{◌≡◌, true, false, List, map, Some}
use Rattle.std.specs.List.{flat_map}
use Rattle.wiring.specs.Wiring.{In}
use Rattle.hw_model.specs.Kinds.{Kind, Instance}
use Rattle.hw_model.specs.Kinds.Kind.{instance}
use Rattle.hw_model.specs.Design.{Port, Op, Module, Design, find_module}
use Rattle.port_checks.specs.InstanceChecks.{port_names}
use Rattle.op_verifier.specs.Headers.{has_twice}
use Rattle.stored_form.specs.Bytes.{Each, AreBytes}
use Rattle.printing_laws.specs.Printable.{IsPrintablePort}
use Rattle.aggregate_laws.specs.Leaves.{bare_port, leaf_ports}

-- ports become their leaves: those of each module are named for the first time, with bytes where the ports have these, and
-- no two leaves have one name where no two ports have
pub record NamesPorts (split : List Port → List Port) (d : Design) : Type 0 where
  pub leaves_are : (ps : List Port) → map bare_port (split ps) ≡ flat_map leaf_ports ps
  pub first : (m : Module) (q : Port) → In m d → In q (split m.ports) → q.again ≡ false
  pub bytes : (m : Module) (q : Port) → In m d → Each IsPrintablePort m.ports → In q (split m.ports) → AreBytes q.name
  pub apart : (m : Module) → In m d → has_twice (map (λ (q : Port). q.name) m.ports) ≡ false → has_twice (map (λ (q : Port). q.name) (split m.ports)) ≡ false

-- an instance gets the names of the leaves of its module's ports
abbrev pub NamesInstances : (List Port → List Port) → Design → (Op → Kind) → Type 0
NamesInstances split d named =
    (o : Op) (i : Instance) (c : Module) → o.kind ≡ instance i → find_module d i.symbol ≡ Some c
    → named o ≡ instance (record i { inputs = port_names false (split c.ports); outputs = port_names true (split c.ports) })
