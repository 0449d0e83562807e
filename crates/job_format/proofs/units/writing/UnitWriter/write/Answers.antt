use Rattle.std.proofs.Common.{◌≡◌, ℕ, ◌+◌, ◌-◌, ◌*◌, ◌<◌, List, length, get_or, sym, ap, ◌∙◌, refl, mul-add, arith}
use borrow.Rule.Slice.PartMut.{put_mid}
use Rattle.std.proofs.lemmas.List.{take_rest}
use Rattle.refusals.specs.declared.Refusal.TheVariants.{OutputLength}
use Rattle.modes.specs.Table.{row}
use Rattle.job_format.specs.UnitBytes.{eight_bytes, last_bytes}
use Rattle.job_format.proofs.Sizes.{length_bytes_of}
use Rattle.job_format.proofs.WrittenOn.{room_for_fewer, without_room, none_written, unit_written, all_written}
use Rattle.job_format.proofs.units.writing.UnitWriter.write.Goals as goal

too_little_room : (c : goal.After-saturating_add-wanted) → length c.args.self.now.out.now < c.args.self.now.end + c.unit_size-size.result * length c.args.units.now
too_little_room c =
    room_for_fewer c.unit_size-size.result (length c.args.units.now) c.args.self.now.end (length c.args.self.now.out.now) (omega arith) c.if-self-size.true

pub returns-then-self-size : goal.returns-then-self-size
returns-then-self-size c =
    let writer = c.args.self.now in
    let short = simp c.unit_size-size.ensures.value at (too_little_room c) in
    let none = without_room (row writer.mode).width c.args.units.now writer.out.now writer.end short in
    let long = length_bytes_of (row writer.mode).width c.args.units.now ∙ ap (λ (n : ℕ). n * length c.args.units.now) (sym c.unit_size-size.ensures.value) in
    let wanted : c.saturating_add-wanted.result ≡ _ = omega (arith, long) in
    record { reference = refl; mode = refl; value = none.0; output = none.1; still = λ _. refl; refused = ap OutputLength wanted }

pub loop-unit-init : goal.loop-unit-init
loop-unit-init c = record { end = omega arith; output = none_written c.args.self.now.out.now c.args.self.now.end; reference = refl; mode = refl }

pub loop-unit-preserved : goal.loop-unit-preserved
loop-unit-preserved c =
    let n : ℕ = c.unit_size-size.result in
    let i : ℕ = c.loop-unit.unit-index in
    let e : ℕ = c.loop-unit.self.end in
    let us : List ℕ = c.args.units.now in
    let rest = take_rest (eight_bytes (get_or us i 0)) (8 - n) in
    let bytes : c.copy_from_slice.new.self ≡ last_bytes n (get_or us i 0) = cc (c.copy_from_slice.ensures.after, c.to_be_bytes.ensures) in
    record {
      end = omega (arith, mul-add n i 1);
      output = ap (put_mid e (e + n - e) c.loop-unit.self.out.now) bytes
          ∙ unit_written n us c.args.self.now.out.now c.loop-unit.self.out.now i c.args.self.now.end e c.unit_size-size.ensures.most c.loop-unit-test.true
          c.args.self.now.within c.loop-unit.invariant.end c.loop-unit.invariant.output;
      reference = c.loop-unit.invariant.reference;
      mode = c.loop-unit.invariant.mode;
    }

pub returns : goal.returns
returns c =
    let writer = c.args.self.now in
    let all = all_written (row writer.mode).width c.unit_size-size.result c.args.units.now writer.out.now c.loop-unit.self.out.now
    c.loop-unit.unit-index writer.end c.loop-unit.self.end c.unit_size-size.ensures.value (omega arith) writer.within c.if-self-size.false
    c.loop-unit.invariant.end c.loop-unit.invariant.output in
    record { reference = c.loop-unit.invariant.reference; mode = c.loop-unit.invariant.mode; value = all.0; output = all.1; still = λ wrong. cc; refused = tt }
