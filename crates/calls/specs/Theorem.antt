-- What holds of every list of calls whose answers were due: a receiver's units are restored, it recovers, damage is contained, and the accounts
-- are exact. The sender's engine has F, G and depth D, the receiver's F', G' and D'; places of a list count from 0.
use Rattle.std.specs.Prelude.{◌≡◌, ℕ, ◌+◌, ◌-◌, ◌<◌, ◌≤◌, Bool, true, List, length, take, Some, ◌≢◌, bit_xor, slice_index}
use Rattle.modes.specs.declared.way.Way.TheVariants.{Enciphering, Deciphering}
use Rattle.modes.specs.declared.mode.Mode.{Mode}
use Rattle.modes.specs.Table.{row, memory_of, reach_of}
use Rattle.modes.specs.Values.{listed}
use Rattle.modes.specs.Laws.{Ends, InReach, Struck, Reached}
use Rattle.calls.specs.Limits.{unit_limit}
use Rattle.calls.specs.Stretches.{cycles_of}
use Rattle.calls.specs.Calls.{Told, Calls, closed, taken, handed_out, stretch, ended}
use Rattle.calls.specs.Due.{distance_in, Follows}
use Rattle.calls.specs.Runs.{Run, runs_of, Among, all_taken}

-- a sending run of one list and a receiving run of another list, or of the same, in one mode
pub record Pair (F G F' G' : ℕ → ℕ) (sender receiver : Run) : Type 0 where
  pub ends : Ends F G F' G'
  pub depth : ℕ
  pub depth' : ℕ
  pub deep : 1 ≤ depth
  pub deep' : 1 ≤ depth'
  pub in_run : Bool
  pub in_run' : Bool
  pub calls : Calls in_run
  pub calls' : Calls in_run'
  pub follows : Follows F G depth calls
  pub follows' : Follows F' G' depth' calls'
  pub sends : Among sender (runs_of calls)
  pub receives : Among receiver (runs_of calls')
  pub enciphers : sender.way ≡ Enciphering
  pub deciphers : receiver.way ≡ Deciphering
  pub one_mode : receiver.order.mode ≡ sender.order.mode

-- both have the same initial values
abbrev pub Agree : Run → Run → Type 0
Agree sender receiver = listed receiver.order.values ≡ listed sender.order.values

-- restoring: where the arriving units are the first sent ones, every unit handed out is the sender's plain unit of its place
abbrev pub Restored : Run → Run → Type 0
Restored sender receiver =
    Agree sender receiver → (n : ℕ) → receiver.taken ≡ take n sender.handed_out
    → (i : ℕ) → i < length receiver.handed_out → slice_index receiver.handed_out i ≡ slice_index sender.taken i

-- recovery, in a mode of memory r: where arriving places j − r to j equal sent places i − r to i, what is handed out at place j is the unit that
-- the sender took at place i, whatever the initial values
abbrev pub Recovered : Run → Run → Type 0
Recovered sender receiver =
    (r : ℕ) → memory_of sender.order.mode ≡ Some r
    → (i j : ℕ) → r ≤ i → i < length sender.handed_out → r ≤ j → j < length receiver.handed_out
    → ((k : ℕ) → k ≤ r → slice_index receiver.taken (j - k) ≡ slice_index sender.handed_out (i - k))
    → slice_index receiver.handed_out j ≡ slice_index sender.taken i

-- plain units qs handed out in place of ps, where the arriving unit of place d was altered by e; only units handed out are judged
pub record Harmed (m : Mode) (ps qs : List ℕ) (d e : ℕ) : Type 0 where
  pub right : (i : ℕ) → i < length qs → (i ≢ d) → (InReach (reach_of m) d i → ⊥) → slice_index qs i ≡ slice_index ps i
  pub struck : d < length qs → Struck (row m).family (slice_index ps d) (slice_index qs d) e
  pub reached : (i : ℕ) → i < length qs → InReach (reach_of m) d i → Reached (row m).family (row m).width (slice_index ps i) (slice_index qs i) e

-- damage: where the arriving units are the first sent ones with exactly one altered, only it and its reach can be wrong, in just these bits
abbrev pub Contained : Run → Run → Type 0
Contained sender receiver =
    Agree sender receiver → length receiver.taken ≤ length sender.handed_out
    → (d : ℕ) → d < length receiver.taken
    → ((i : ℕ) → i < length receiver.taken → (i ≢ d) → slice_index receiver.taken i ≡ slice_index sender.handed_out i)
    → (slice_index receiver.taken d ≢ slice_index sender.handed_out d)
    → Harmed sender.order.mode sender.taken receiver.handed_out d (bit_xor (slice_index sender.handed_out d) (slice_index receiver.taken d))

-- accounts: what a closing finds. What an open run tells is what its closing would find.
pub record Exact (D : ℕ) (calls : Calls true) (told : Told) : Type 0 where
  pub taken : told.taken ≡ length (taken calls)
  pub handed_out : told.handed_out ≡ length (handed_out calls)
  pub inside : told.inside ≡ told.in_row
  pub balance : told.taken ≡ told.handed_out + told.in_row
  pub cycles : told.cycles ≡ cycles_of D (distance_in calls) (ended calls) (stretch calls)
  pub count : told.count ≡ all_taken (runs_of calls)
  pub limit : told.count ≤ unit_limit

pub record Theorem : Type 0 where
  pub restoring : (F G F' G' : ℕ → ℕ) (sender receiver : Run) → Pair F G F' G' sender receiver → Restored sender receiver
  pub recovery : (F G F' G' : ℕ → ℕ) (sender receiver : Run) → Pair F G F' G' sender receiver → Recovered sender receiver
  pub damage : (F G F' G' : ℕ → ℕ) (sender receiver : Run) → Pair F G F' G' sender receiver → Contained sender receiver
  pub accounts : (F G : ℕ → ℕ) (D : ℕ) → 1 ≤ D → (calls : Calls true) (told : Told) → Follows F G D (closed told calls) → Exact D calls told
