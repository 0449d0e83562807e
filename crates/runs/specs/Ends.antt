-- A sending and a receiving run, on two engines.
use Rattle.std.specs.Prelude.{◌≡◌, ℕ, ◌^◌, ◌<◌, true}
use Rattle.engines.specs.Machines.{Machine}
use Rattle.modes.specs.declared.way.Way.TheVariants.{Enciphering, Deciphering}
use Rattle.calls.specs.Calls.{Calls, order_of, way_of}
use Rattle.calls.specs.Runs.{run_of}
use Rattle.calls.specs.Theorem.{Restored, Recovered, Contained}
use Rattle.runs.specs.declared.frame.Frame.{Frame}
use Rattle.runs.specs.Stands.{Stands}

-- two engines that encipher each block alike; the laws of engines say that they decipher alike, then
abbrev pub OneCipher : Machine → Machine → Type 0
OneCipher mach mach' = (b : ℕ) → b < 2 ^ 64 → mach'.forward b ≡ mach.forward b

-- whatever calls the two stand for: where one enciphers and the other deciphers, in one mode with one cipher, what the receiver handed out so far
-- is restored, it recovers, and damage is contained
abbrev pub Between : (mach mach' : Machine) (f f' : Frame) → Type 0
Between mach mach' f f' =
    (calls calls' : Calls true) → Stands mach f calls → Stands mach' f' calls'
    → way_of calls ≡ Enciphering → way_of calls' ≡ Deciphering → (order_of calls').mode ≡ (order_of calls).mode → OneCipher mach mach'
    → Restored (run_of calls) (run_of calls') × Recovered (run_of calls) (run_of calls') × Contained (run_of calls) (run_of calls')
