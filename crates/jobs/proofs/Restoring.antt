-- A job that deciphers what another enciphered gives the data back.
use Rattle.std.proofs.Common.{◌≡◌, ℕ, zero, suc, ◌+◌, ◌*◌, ◌%◌, ◌^◌, ◌<◌, ◌≤◌, List, [], ◌∷◌, length, get_or, Some, None, Ok, Option, sym, refl, ap, ◌∙◌, subst, ⊎_elim, arith, lit<}
use Rattle.std.proofs.lemmas.List.{get_or_past}
use Rattle.std.proofs.lemmas.Bool.{cases_lt, cond-true, lt-ltb}
use Rattle.std.proofs.lemmas.Bool.Decides.{nat_tests}
use Rattle.cipher.specs.Undoing.{Undo}
use Rattle.cipher.specs.KeySchedule.{round_keys_of}
use Rattle.cipher.specs.Bytes.{block_at}
use Rattle.cipher.specs.Feistel.{under_undo}
use Rattle.cipher.specs.InRow.{undo_in_row, undo_swapped}
use Rattle.engines.specs.Machines.{Machine}
use Rattle.modes.specs.declared.mode.Mode.{Mode}
use Rattle.modes.specs.declared.way.Way.{Way}
use Rattle.modes.specs.declared.way.Way.TheVariants.{Enciphering, Deciphering}
use Rattle.modes.specs.Table.{row, with_code}
use Rattle.modes.specs.Values.{blocks_in, Units, Begins}
use Rattle.modes.specs.Orders.{Opening, opened}
use Rattle.modes.specs.Laws.{Ends}
use Rattle.modes.specs.Results.{sent, received}
use Rattle.modes.proofs.Grown.{units_push}
use Rattle.modes.proofs.Receiving.{length_results, units_give_units, restoring}
use Rattle.modes.specs.Widths.{first_wide}
use Rattle.calls.proofs.Accepted.{none_wide}
use Rattle.job_format.specs.declared.tag.Tag.TheVariants.{Code, Direction}
use Rattle.job_format.specs.Fields.{Parts, and_then, Bytes}
use Rattle.job_format.specs.UnitBytes.{unit_size, units_in, bytes_of}
use Rattle.job_format.proofs.JobBytes.{not_refused, format}
use Rattle.job_format.proofs.Sizes.{length_bytes_of, length_units_in, length_blocks_in}
use Rattle.job_format.proofs.WrittenAndRead.{units_in_bytes}
use Rattle.jobs.specs.Keys.{Words, one, three, keys_loaded, machine_under}
use Rattle.jobs.specs.Asking.{only_byte_of, opened_for, opening_of, data_checked, task_of}
use Rattle.jobs.specs.Meaning.{done_on, done, Back, JobsRestore}
use Rattle.jobs.proofs.Checked.{Passing, passing, accepted}

-- ---- what the parts of a job promise

-- the functions under any keys undo each other
undo_under : (words : Words) → Undo (machine_under words).forward (machine_under words).inverse
undo_under (one k) = under_undo (round_keys_of k)
undo_under (three a b c) = undo_in_row (under_undo (round_keys_of a)) (undo_swapped (under_undo (round_keys_of b))) (under_undo (round_keys_of c))

byte_anywhere : (bytes : List ℕ) → Bytes bytes → (k : ℕ) → get_or bytes k 0 < 256
byte_anywhere bytes all k = ⊎_elim (all k) (λ past. rw (get_or_past bytes k 0 past) (lit< tt)) (cases_lt k (length bytes))

block_is_block : (bytes : List ℕ) → Bytes bytes → (p : ℕ) → block_at bytes p < 2 ^ 64
block_is_block bytes all p =
    let b = byte_anywhere bytes all in
    omega (arith, b p, b (p + 1), b (p + 2), b (p + 3), b (p + 4), b (p + 5), b (p + 6), b (p + 7))

blocks_are_blocks : (n : ℕ) (bytes : List ℕ) → Bytes bytes → Units 64 (blocks_in n bytes)
blocks_are_blocks zero bytes all = λ k l. absurd (omega arith)
blocks_are_blocks (suc n) bytes all = units_push 64 (blocks_in n bytes) (block_at bytes (8 * n)) (blocks_are_blocks n bytes all) (block_is_block bytes all (8 * n))

-- an opening from bytes can begin
opened_begins : (m : Mode) (bytes : List ℕ) (o : Opening) → Bytes bytes → opened m bytes ≡ Ok o → Begins o.mode o.values
opened_begins m bytes o all e =
    let is : record { mode = m; values = blocks_in (row m).values bytes } ≡ o = grind (arith, nat_tests) in
    subst (λ o. Begins o.mode o.values) is
    (record { count = length_blocks_in (row m).values bytes; blocks = blocks_are_blocks (row m).values bytes all })

-- ---- the way back

narrow_none : (w i : ℕ) (us : List ℕ) → Units w us → first_wide w i us ≡ None
narrow_none w i [] narrow = refl
narrow_none w i (u ∷ us) narrow = cond-true _ _ _ (lt-ltb u (2 ^ w) (narrow 0 (omega arith))) ∙ narrow_none w (i + 1) us (λ k l. narrow (suc k) (omega arith))

-- as many bytes as the data has
pub done_length : (mach : Machine) (o : Opening) (way : Way) (bytes : List ℕ) (room : ℕ) → Passing o.mode bytes room
    → length (done_on mach o way bytes).bytes ≡ length bytes
done_length mach o way bytes room pass =
    let w = (row o.mode).width in
    let us = units_in w bytes in
    length_bytes_of w _ ∙ ap (λ n. unit_size w * n) (length_results mach.forward mach.inverse o.mode way o.values us (length us))
    ∙ length_units_in w bytes pass.whole

-- what was enciphered passes as data, and deciphers to what it was
pub record ComesBack (mach : Machine) (o : Opening) (bytes : List ℕ) (room : ℕ) : Type 0 where
  pub passes : Passing o.mode (done_on mach o Enciphering bytes).bytes room
  pub units : (done_on mach o Deciphering (done_on mach o Enciphering bytes).bytes).units ≡ (done_on mach o Enciphering bytes).units
  pub bytes_back : (done_on mach o Deciphering (done_on mach o Enciphering bytes).bytes).bytes ≡ bytes

comes_back : (mach : Machine) (o : Opening) (bytes : List ℕ) (room room' : ℕ) → Undo mach.forward mach.inverse → Bytes bytes → Begins o.mode o.values
    → Passing o.mode bytes room → length (done_on mach o Enciphering bytes).bytes ≤ room' → ComesBack mach o bytes room'
comes_back mach o bytes room room' undo all begins pass fits =
    let F = mach.forward in
    let G = mach.inverse in
    let m = o.mode in
    let w = (row m).width in
    let us = units_in w bytes in
    let cs = sent F G m o.values us in
    let narrow = none_wide w 0 us pass.narrow in
    let gives = units_give_units F G undo m Enciphering o.values us begins narrow in
    let read : units_in w (bytes_of w cs) ≡ cs = units_in_bytes.written_are_read m cs gives.1 in
    let size = done_length mach o Enciphering bytes room pass in
    let same : Ends F G F G = record { undo = undo; forward = λ b l. refl; inverse = λ b l. refl } in
    record {
      passes =
          record {
            few = omega (arith, size, pass.few);
            whole = ap (λ n. n % unit_size w) size ∙ pass.whole;
            narrow = ap (first_wide w 0) read ∙ narrow_none w 0 cs gives.1;
            roomy = fits;
          };
      units = ap length read ∙ gives.0;
      bytes_back =
          ap (λ l. bytes_of w (received F G m o.values l)) read
          ∙ ap (bytes_of w) (restoring F G F G same m o.values us begins narrow)
          ∙ units_in_bytes.read_are_written m bytes all pass.whole;
    }

-- the direction alone turned, the opening is the same with the other way
turned_round : (p q : Parts) (sent : List ℕ) (ow : Opening × Way) → Bytes p.initial_values → Back p q sent → opening_of p ≡ Ok ow
    → (ow.1 ≡ Enciphering) × Begins ow.0.mode ow.0.values × (opening_of q ≡ Ok (ow.0, Deciphering))
turned_round p q sent ow all back e =
    not_refused (only_byte_of Code p.code) _ ow e (λ code code_is e.
    let there : opened_for (with_code code) code 1 p.initial_values ≡ Ok ow = ap (λ d. and_then (only_byte_of Direction d) (λ d. opened_for (with_code code) code d p.initial_values)) (sym back.enciphers) ∙ e in
    let t = by_mode (with_code code) code there in
    let here : opening_of q ≡ opened_for (with_code code) code 2 p.initial_values =
    ap (λ c. and_then (only_byte_of Code c) (λ code. and_then (only_byte_of Direction q.direction) (λ d. opened_for (with_code code) code d q.initial_values))) back.code
    ∙ ap (λ r. and_then r (λ code. and_then (only_byte_of Direction q.direction) (λ d. opened_for (with_code code) code d q.initial_values))) code_is
    ∙ ap (λ d. and_then (only_byte_of Direction d) (λ d. opened_for (with_code code) code d q.initial_values)) back.deciphers
    ∙ ap (opened_for (with_code code) code 2) back.initial_values in
    (t.0, t.1, here ∙ t.2))
  where
    by_mode : (m : Option Mode) (code : ℕ) → opened_for m code 1 p.initial_values ≡ Ok ow
        → (ow.1 ≡ Enciphering) × Begins ow.0.mode ow.0.values × (opened_for m code 2 p.initial_values ≡ Ok (ow.0, Deciphering))
    by_mode None code e = cc
    by_mode (Some m) code e =
        not_refused (opened m p.initial_values) _ ow e (λ o o_is e.
        let is : (o, Enciphering) ≡ ow = cc in (
          ap (λ x. x.1) (sym is),
          subst (λ x. Begins x.0.mode x.0.values) is (opened_begins m p.initial_values o all o_is),
          ap (λ r. and_then r (λ o. Ok (o, Deciphering))) o_is ∙ ap (λ x. Ok (x.0, Deciphering)) is,
        ))

pub jobs_restore : JobsRestore
jobs_restore job back room room' p q d all fields fields' means way_back fits =
    let parts = (format.read_was_written job p all fields).1 in
    let gives : and_then (task_of p room) (λ a. Ok (done a)) ≡ Ok d = ap (λ f. and_then f (λ p. and_then (task_of p room) (λ a. Ok (done a)))) (sym fields) ∙ means in
    not_refused (task_of p room) _ d gives (λ a e done_is.
    not_refused (keys_loaded p.keys) _ a e (λ words keys-are e.
    not_refused (opening_of p) _ a e (λ ow opening_is e.
    not_refused (data_checked ow.0.mode p.«data» room) _ a e (λ _ checked e.
    let t = turned_round p q d.bytes ow parts.3.1 way_back opening_is in
    let o = ow.0 in
    let mach = machine_under words in
    let asked : a ≡ record { words = words; opening = o; way = Enciphering; bytes = p.«data» } = cc in
    let is : d ≡ done_on mach o Enciphering p.«data» = cc in
    let c = comes_back mach o p.«data» room room' (undo_under words) parts.4.1 t.1 (passing o.mode p.«data» room checked)
    (subst (λ d. length d.bytes ≤ room') is fits) in
    let arrives : q.«data» ≡ (done_on mach o Enciphering p.«data»).bytes = way_back.arrives ∙ ap (λ d. d.bytes) is in
    let again : data_checked o.mode q.«data» room' ≡ Ok (tt {0}) =
    ap (λ l. data_checked o.mode l room') arrives ∙ accepted o.mode _ room' c.passes in
    let task : task_of q room' ≡ Ok (record { words = words; opening = o; way = Deciphering; bytes = q.«data» }) =
    ap (λ k. and_then (keys_loaded k) (λ words. and_then (opening_of q) (λ o. and_then (data_checked o.0.mode q.«data» room') (λ _. Ok (record { words = words; opening = o.0; way = o.1; bytes = q.«data» }))))) way_back.keys
    ∙ rw (keys-are, t.2, again) in (
      done_on mach o Deciphering q.«data»,
      ap (λ f. and_then f (λ p. and_then (task_of p room') (λ a. Ok (done a)))) fields' ∙ ap (λ r. and_then r (λ a. Ok (done a))) task,
      ap (λ l. (done_on mach o Deciphering l).units) arrives ∙ c.units ∙ ap (λ d. d.units) (sym is),
      ap (λ l. (done_on mach o Deciphering l).bytes) arrives ∙ c.bytes_back,
    )))))
