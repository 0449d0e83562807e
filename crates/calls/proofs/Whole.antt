-- The theorem over lists of calls.
use Rattle.std.proofs.Common.{ℕ, true, sym, refl, subst}
use Rattle.calls.specs.Calls.{Calls}
use Rattle.calls.specs.Due.{due_told, Follows}
use Rattle.calls.specs.Theorem.{Exact, Theorem}
use Rattle.calls.proofs.OpenRun.{balanced}
use Rattle.calls.proofs.Counting.{cycles_add_up, count_is_sum, count_within}
use Rattle.calls.proofs.Pairs.{restored, recovered, contained}

-- the accounts of what a closing is due
pub accounts_due : (F G : ℕ → ℕ) (D : ℕ) (calls : Calls true) → Follows F G D calls → Exact D calls (due_told D calls)
accounts_due F G D calls f =
    record {
      taken = refl;
      handed_out = refl;
      inside = refl;
      balance = balanced F G D calls f;
      cycles = cycles_add_up D calls;
      count = count_is_sum F G D calls f;
      limit = count_within F G D calls f;
    }

pub theorem : Theorem
theorem =
    record {
      restoring = restored;
      recovery = recovered;
      damage = contained;
      accounts = λ F G D deep calls told f. subst (Exact D calls) (sym f.0) (accounts_due F G D calls f.1);
    }
