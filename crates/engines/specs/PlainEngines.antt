-- The plain engine over a cipher: the cipher's own functions, and no place in the row.
use Rattle.cipher.specs.declared.Cipher.{Ghosts as Functions}
use Rattle.engines.specs.declared.plain.Plain.{Plain}
use Rattle.engines.specs.Machines.{Machine, resting}

abbrev pub plain_machine : {C : Type 0} → Functions C → Plain C → Machine
plain_machine c p = resting (c.forward p.cipher) (c.inverse p.cipher) 1
