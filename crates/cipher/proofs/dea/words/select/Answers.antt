use Rattle.std.proofs.Common.{◌≡◌, ℕ, ◌+◌, ◌-◌, ◌*◌, ◌/◌, ◌^◌, ◌<◌, ◌≤◌, length, get_or, take, sym, refl, ap, ◌∙◌, lt_of_lt_of_le, arith, length-take, pow_mono}
use Rattle.std.proofs.lemmas.List.{take_more, take_all}
use Rattle.cipher.specs.Words.{select, bit}
use Rattle.cipher.specs.Selects.{select_lt, select_push, place_at, push_bit}
use Rattle.cipher.proofs.dea.words.select.Goals as goal

pub overflow_sub-bits : goal.overflow_sub-bits
overflow_sub-bits c = (place_at c.args.width c.args.table.now c.requires.places c.loop-place.place-index c.loop-place-test.true).1

pub overflow_shr-bits : goal.overflow_shr-bits
overflow_shr-bits c =
    let h = place_at c.args.width c.args.table.now c.requires.places c.loop-place.place-index c.loop-place-test.true in
    omega arith

pub loop-place-init : goal.loop-place-init
unfolding select
loop-place-init c = refl

pub loop-place-preserved : goal.loop-place-preserved
loop-place-preserved c =
    let w : ℕ = c.args.width in
    let n : ℕ = c.args.word in
    let ps = c.args.table.now in
    let i : ℕ = c.loop-place.place-index in
    let p : ℕ = get_or ps i 0 in
    let front = take i ps in
    let fewer : length front ≤ 63 = omega (arith, length-take i ps) in
    let small : select w front n < 2 ^ 63 = lt_of_lt_of_le (select_lt w front n) (pow_mono fewer) in
    let same : c.loop-place.bits ≡ select w front n = c.loop-place.invariant in
    let fits : c.loop-place.bits < 2 ^ 63 = rw same small in
    push_bit c.loop-place.bits (n / 2 ^ (w - p)) fits ∙ ap (λ (x : ℕ). x * 2 + bit w n p) same ∙ sym (select_push w front p n)
    ∙ ap (λ l. select w l n) (sym (take_more ps i 0 c.loop-place-test.true))

pub returns : goal.returns
returns c =
    c.loop-place.invariant
    ∙ ap (λ l. select c.args.width l c.args.word) (take_all c.loop-place.place-index c.args.table.now c.loop-place-test.false)
