-- The machine of the engine that was chosen.
use Rattle.engines.specs.Machines.{Machine}
use Rattle.engines_tests.specs.declared.chosen.Chosen.{Chosen}
use Rattle.engines_tests.specs.declared.chosen.Chosen.TheVariants.{One, Other}

abbrev pub machine_of : {A B : Type 0} → (A → Machine) → (B → Machine) → Chosen A B → Machine
machine_of first second (One engine) = first engine
machine_of first second (Other engine) = second engine
