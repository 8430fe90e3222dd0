-- Small bodies with an instance, and what they are once it is inlined.
use Rattle.std.proofs.Common.{◌≡◌, [], ◌∷◌, None, refl}
use Rattle.std.specs.Prelude.{codes}
use Rattle.hw_model.specs.Types.HwType.{int, clock}
use Rattle.hw_model.specs.Kinds.Reset.{no_reset}
use Rattle.hw_model.specs.Kinds.RegisterOp.{compreg}
use Rattle.hw_model.specs.Kinds.Kind.{wire, instance, output, register}
use Rattle.hw_model.specs.Design.{Op, Module}
use Rattle.hw_model.specs.Design.Ref.{port, result}
use Rattle.hw_model.proofs.Samples.{operation, in_port, out_port, module_of}
use Rattle.inline_laws.specs.Inline.{inline_op}
use Rattle.inline_laws.specs.Unwire.{inline_without_wires}

-- ---- an output that leads back into its instance, through a register

abbrev delay : Module
delay =
    module_of (codes "delay") (in_port (codes "clk") clock ∷ in_port (codes "d") (int 8) ∷ out_port (codes "q") (int 8) ∷ [])
    (operation (register compreg no_reset) (port 1 ∷ port 0 ∷ []) (int 8 ∷ []) (int 8 ∷ [])
    ∷ operation output (result 0 0 ∷ []) (int 8 ∷ []) [] ∷ [])

abbrev delay_instance : Op
delay_instance = operation (instance (record { name = codes "u"; inner_symbol = None; symbol = codes "delay"; inputs = codes "clk" ∷ codes "d" ∷ []; outputs = codes "q" ∷ [] })) (port 0 ∷ result 0 0 ∷ []) [] (int 8 ∷ [])

led_back : inline_op (λ o. o) 0 delay_instance delay (delay_instance ∷ operation output (result 0 0 ∷ []) (int 8 ∷ []) [] ∷ [])
    ≡ operation wire (result 1 0 ∷ []) (int 8 ∷ []) (int 8 ∷ [])
    ∷ operation (register compreg no_reset) (result 0 0 ∷ port 0 ∷ []) (int 8 ∷ []) (int 8 ∷ [])
    ∷ operation output (result 0 0 ∷ []) (int 8 ∷ []) [] ∷ []
led_back = refl

led_back_without_wires : inline_without_wires (λ o. o) 0 delay_instance delay (delay_instance ∷ operation output (result 0 0 ∷ []) (int 8 ∷ []) [] ∷ [])
    ≡ operation (register compreg no_reset) (result 0 0 ∷ port 0 ∷ []) (int 8 ∷ []) (int 8 ∷ [])
    ∷ operation output (result 0 0 ∷ []) (int 8 ∷ []) [] ∷ []
led_back_without_wires = refl

-- ---- crossed outputs

abbrev crossed : Module
crossed =
    module_of (codes "crossed") (in_port (codes "a") (int 8) ∷ in_port (codes "b") (int 8) ∷ out_port (codes "x") (int 8) ∷ out_port (codes "y") (int 8) ∷ [])
    (operation output (port 1 ∷ port 0 ∷ []) (int 8 ∷ int 8 ∷ []) [] ∷ [])

abbrev crossed_instance : Op
crossed_instance =
    operation (instance (record { name = codes "u"; inner_symbol = None; symbol = codes "crossed"; inputs = codes "a" ∷ codes "b" ∷ []; outputs = codes "x" ∷ codes "y" ∷ [] })) (port 0 ∷ port 1 ∷ []) [] (int 8 ∷ int 8 ∷ [])

uncrossed : inline_op (λ o. o) 0 crossed_instance crossed (crossed_instance ∷ operation output (result 0 0 ∷ result 0 1 ∷ []) (int 8 ∷ int 8 ∷ []) [] ∷ [])
    ≡ operation wire (port 1 ∷ []) (int 8 ∷ []) (int 8 ∷ [])
    ∷ operation wire (port 0 ∷ []) (int 8 ∷ []) (int 8 ∷ [])
    ∷ operation output (result 0 0 ∷ result 1 0 ∷ []) (int 8 ∷ int 8 ∷ []) [] ∷ []
uncrossed = refl

-- its first output leads to its first input, and from there to its second output
abbrev chained_instance : Op
chained_instance =
    operation (instance (record { name = codes "u"; inner_symbol = None; symbol = codes "crossed"; inputs = codes "a" ∷ codes "b" ∷ []; outputs = codes "x" ∷ codes "y" ∷ [] }))
    (result 0 0 ∷ port 0 ∷ []) [] (int 8 ∷ int 8 ∷ [])

through_both : inline_without_wires (λ o. o) 0 chained_instance crossed (chained_instance ∷ operation output (result 0 0 ∷ result 0 1 ∷ []) (int 8 ∷ int 8 ∷ []) [] ∷ [])
    ≡ operation output (port 0 ∷ port 0 ∷ []) (int 8 ∷ int 8 ∷ []) [] ∷ []
through_both = refl
