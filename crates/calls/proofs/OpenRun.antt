-- How far the open run has come, in a list of calls whose answers were due.
use Rattle.std.proofs.Common.{◌≡◌, ℕ, ◌+◌, ◌-◌, ◌<◌, ◌≤◌, true, List, [], ◌∷◌, ◌++◌, length, get_or, drop, sym, refl, ap, ◌∙◌, arith}
use Rattle.std.proofs.lemmas.List.{append-nil, length-append, get_or_append_left, take-append-drop, nil_from_length}
use Rattle.std.proofs.lemmas.Grind.{common_steps}
use Rattle.modes.specs.declared.way.Way.{Way}
use Rattle.modes.specs.declared.mode.Mode.{Mode}
use Rattle.modes.specs.Values.{listed, Units}
use Rattle.modes.specs.Results.{results}
use Rattle.modes.proofs.Receiving.{length_results, take_results, results_same}
use Rattle.calls.specs.Stretches.{inside}
use Rattle.calls.specs.Calls.{Calls, gave, refused, started, fed, drained, order_of, way_of, taken, handed_out, stretch}
use Rattle.calls.specs.Due.{distance_in, width_in, count_in, inside_in, results_in, Follows}
use Rattle.calls.proofs.Stretching.{inside_more, inside_most}
use Rattle.calls.proofs.Accepted.{feed_accepted, drain_gives}

pub units_append : (w : ℕ) (us vs : List ℕ) → Units w us → Units w vs → Units w (us ++ vs)
units_append w us vs hu hv k l = grind (arith, common_steps, hu k, hv (k - length us))

-- the first results, and then the others
results_joined : (F G : ℕ → ℕ) (m : Mode) (way : Way) (ivs us vs : List ℕ) (a b : ℕ) → a ≤ b → ((i : ℕ) → i < a → get_or us i 0 ≡ get_or vs i 0)
    → results F G m way ivs us a ++ drop a (results F G m way ivs vs b) ≡ results F G m way ivs vs b
results_joined F G m way ivs us vs a b l same =
    ap (λ xs. xs ++ drop a (results F G m way ivs vs b)) (results_same F G m way ivs us vs a same ∙ sym (take_results F G m way ivs vs a b l))
    ∙ take-append-drop a (results F G m way ivs vs b)

pub record Progress (F G : ℕ → ℕ) (D : ℕ) (calls : Calls true) : Type 0 where
  pub whole : stretch calls ≤ length (taken calls)
  pub narrow : Units (width_in calls) (taken calls)
  pub front : handed_out calls ≡ results_in F G calls (taken calls) 0 (length (taken calls) - inside_in D calls)

module _ (F G : ℕ → ℕ) (D : ℕ) where
  length_results_in : (calls : Calls true) (us : List ℕ) (n : ℕ) → length (results_in F G calls us 0 n) ≡ n
  length_results_in calls us n = length_results F G (order_of calls).mode (way_of calls) (listed (order_of calls).values) us n

  -- units that are handed out next go on where those before them ended
  goes_on : (calls : Calls true) (us hs : List ℕ) (a b : ℕ) → a ≤ b → ((i : ℕ) → i < a → get_or (taken calls) i 0 ≡ get_or us i 0)
      → handed_out calls ≡ results_in F G calls (taken calls) 0 a → hs ≡ results_in F G calls us a b → handed_out calls ++ hs ≡ results_in F G calls us 0 b
  goes_on calls us hs a b l same front next =
      ap (λ xs. xs ++ hs) front
      ∙ ap (λ xs. results_in F G calls (taken calls) 0 a ++ xs) next
      ∙ results_joined F G (order_of calls).mode (way_of calls) (listed (order_of calls).values) (taken calls) us a b l same

  pub progress : (calls : Calls true) → Follows F G D calls → Progress F G D calls
  progress (started o way calls) f =
      record {
        whole = omega arith;
        narrow = λ k l. absurd (omega arith);
        front = sym (nil_from_length _ (length_results_in (started o way calls) [] (0 - 0)));
      }
  progress (fed us room (refused e) calls) f = let p = progress calls f.1 in record { whole = p.whole; narrow = p.narrow; front = p.front }
  progress (fed us room (gave hs) calls) f =
      let p = progress calls f.1 in
      let accepted = feed_accepted (inside_in D calls) (width_in calls) (count_in calls) us room hs _ f.0 in
      let len = length-append (taken calls) us in
      let least = inside_most D (distance_in calls) (stretch calls) in
      let more = inside_more D (distance_in calls) (stretch calls) (length us) in
      let whole = p.whole in
      let out = length (taken calls) + length us - inside D (distance_in calls) (stretch calls + length us) in
      let total : out ≡ length (taken calls ++ us) - inside D (distance_in calls) (stretch calls + length us) = omega arith in
      record {
        whole = omega arith;
        narrow = units_append (width_in calls) (taken calls) us p.narrow accepted.narrow;
        front =
            goes_on calls (taken calls ++ us) hs _ out (omega arith) (λ i l. sym (get_or_append_left (taken calls) us 0 i (omega arith)))
            p.front accepted.gives
            ∙ ap (results_in F G calls (taken calls ++ us) 0) total;
      }
  progress (drained room (refused e) calls) f = let p = progress calls f.1 in record { whole = p.whole; narrow = p.narrow; front = p.front }
  progress (drained room (gave []) calls) f =
      let p = progress calls f.1 in
      record { whole = p.whole; narrow = p.narrow; front = append-nil (handed_out calls) ∙ p.front }
  progress (drained room (gave (h ∷ hs)) calls) f =
      let p = progress calls f.1 in
      let all : length (taken calls) ≡ length (taken calls) - 0 = omega arith in
      record {
        whole = omega arith;
        narrow = p.narrow;
        front =
            goes_on calls (taken calls) (h ∷ hs) _ (length (taken calls)) (omega arith) (λ i l. refl) p.front
            (drain_gives (inside_in D calls) room (h ∷ hs) _ f.0)
            ∙ ap (results_in F G calls (taken calls) 0) all;
      }

  -- what was taken is out or in the engine
  pub balanced : (calls : Calls true) → Follows F G D calls → length (taken calls) ≡ length (handed_out calls) + inside_in D calls
  balanced calls f =
      let p = progress calls f in
      let whole = p.whole in
      omega (arith, ap length p.front, length_results_in calls (taken calls) (length (taken calls) - inside_in D calls), inside_most D (distance_in calls) (stretch calls))
