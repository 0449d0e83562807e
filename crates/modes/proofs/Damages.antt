-- What one altered unit does to the plain units.
use Rattle.std.proofs.Common.{◌≡◌, ℕ, suc, ◌+◌, ◌-◌, ◌*◌, ◌/◌, ◌^◌, ◌<◌, ◌≤◌, List, length, get_or, sym, ap, ◌∙◌, subst, ⊎_elim, div-one, arith}
use lib.Bits.{bit_xor, xor_assoc, xor_comm}
use Rattle.std.proofs.lemmas.Bool.{cases_lt}
use Rattle.cipher.specs.Undoing.{Undo}
use Rattle.modes.specs.declared.family.Family.{Family}
use Rattle.modes.specs.declared.family.Family.TheVariants.{Codebook, Chaining, CipherFeedback, OutputFeedback}
use Rattle.modes.specs.Bits.{leftmost}
use Rattle.modes.specs.Table.{row, reach}
use Rattle.modes.specs.Values.{Units}
use Rattle.modes.specs.declared.way.Way.TheVariants.{Enciphering, Deciphering}
use Rattle.modes.specs.Results.{before, register, output, plain, sent, received}
use Rattle.modes.specs.Laws.{InReach, Struck, Reached, Damage}
use Rattle.modes.proofs.Xor.{xor_last_two, xor_difference, xor_cancel}
use Rattle.modes.proofs.Fits.{Fit, fit, as_block, register_holds}
use Rattle.modes.proofs.Registers.{before_late, before_same, register_same, register_whole, register_full}
use Rattle.modes.proofs.Receiving.{length_results, results_units, received_at, sent_back}

-- functions that undo each other send different blocks to different blocks

module _ (F G : ℕ → ℕ) (u : Undo F G) where
  forward_once : (x y : ℕ) → x < 2 ^ 64 → y < 2 ^ 64 → F x ≡ F y → x ≡ y
  forward_once x y hx hy e = sym (u.back x hx) ∙ ap G e ∙ u.back y hy

  inverse_once : (x y : ℕ) → x < 2 ^ 64 → y < 2 ^ 64 → G x ≡ G y → x ≡ y
  inverse_once x y hx hy e = sym (u.forth x hx) ∙ ap F e ∙ u.forth y hy

-- the arriving units xs are the first of the sent units cs, but for the one of place d

module _ (w δ : ℕ) (ivs cs xs : List ℕ) (d : ℕ) (len : length ivs ≡ δ)
    (alike : (i : ℕ) → i < length xs → (i ≡ d → ⊥) → get_or xs i 0 ≡ get_or cs i 0) where
  before_unreached : (i : ℕ) → i < length xs → (i ≡ d + δ → ⊥) → before ivs xs i ≡ before ivs cs i
  before_unreached i hi ne = before_same ivs xs cs i (λ j e. alike j (omega arith) (λ z. ne (omega arith)))

  register_unreached : (i : ℕ) → i < length xs → i < d + δ → register w ivs xs i ≡ register w ivs cs i
  register_unreached i hi l = register_same w ivs xs cs i (λ j q. alike j (omega arith) (λ z. absurd (omega arith)))

  -- behind its reach the altered unit has left the register
  register_rid : (e q : ℕ) → δ ≡ suc e → suc q * w ≡ 64 → Units w cs → length xs ≤ length cs
      → (i : ℕ) → i < length xs → d + δ + suc q ≤ i → register w ivs xs i ≡ register w ivs cs i
  register_rid e q de m hc hl i hi l =
      let a = i - e - suc q in
      let ia : e + a + suc q ≡ i = omega arith in
      ap (register w ivs xs) (sym ia)
      ∙ register_whole w e ivs ivs xs cs (len ∙ de) (len ∙ de) a a q m
      (λ t h. (alike (a + t) (omega arith) (λ z. absurd (omega arith)), hc (a + t) (omega arith)))
      ∙ ap (register w ivs cs) ia

module _ (F G : ℕ → ℕ) (u : Undo F G) (w δ : ℕ) (ivs cs xs : List ℕ) (d : ℕ) (len : length ivs ≡ δ)
    (hc : Units w cs) (hx : Units w xs) (hl : length xs ≤ length cs) (hd : d < length xs)
    (alike : (i : ℕ) → i < length xs → (i ≡ d → ⊥) → get_or xs i 0 ≡ get_or cs i 0) where
  plain_right : (f : Family) → Fit f w δ → (i : ℕ) → i < length xs → (i ≡ d → ⊥) → (InReach (reach f w δ) d i → ⊥)
      → plain F G f w ivs xs i (get_or xs i 0) ≡ plain F G f w ivs cs i (get_or cs i 0)
  plain_right Codebook fit i hi ne nr = ap G (alike i hi ne)
  plain_right Chaining fit i hi ne nr =
      let own = alike i hi ne in
      let link = before_unreached w δ ivs cs xs d len alike i hi (λ e. nr (omega arith, omega arith)) in
      cc (own, link)
  plain_right CipherFeedback fit i hi ne nr =
      let own = alike i hi ne in
      let q = register_holds w fit.0 in
      let size : 64 / w ≡ suc q.0 = q.1 in
      let pos : 0 < δ = fit.1 in
      let same : register w ivs xs i ≡ register w ivs cs i =
      ⊎_elim
      (λ l. register_unreached w δ ivs cs xs d len alike i hi l)
      (λ l. ⊎_elim
      (λ r. absurd (nr (l, omega arith)))
      (λ r. register_rid w δ ivs cs xs d len alike (δ - 1) q.0 (omega arith) q.2 hc hl i hi (omega arith))
      (cases_lt i (d + δ + 64 / w)))
      (cases_lt i (d + δ)) in
      cc (own, same)
  plain_right OutputFeedback fit i hi ne nr = ap (λ c. bit_xor c (output F ivs i)) (alike i hi ne)

  module _ (b : Units 64 ivs) (ne : get_or xs d 0 ≡ get_or cs d 0 → ⊥) where
    -- x arrived for c
    abbrev x : ℕ
    x = get_or xs d 0

    abbrev c : ℕ
    c = get_or cs d 0

    -- a unit joined with the same key stream is wrong by what was altered
    mask_struck : (k p : ℕ) → bit_xor c k ≡ p → bit_xor x k ≡ bit_xor p (bit_xor c x)
    mask_struck k p e = rw (← e, xor_last_two c k (bit_xor c x), xor_difference c x)

    different : w ≡ 64 → G x ≡ G c → ⊥
    different e g = ne (inverse_once F G u x c (as_block e x (hx d hd)) (as_block e c (hc d (omega arith))) g)

    -- p is what the unaltered unit deciphers to
    plain_struck : (f : Family) → Fit f w δ → (p : ℕ) → plain F G f w ivs cs d c ≡ p → Struck f p (plain F G f w ivs xs d x) (bit_xor c x)
    plain_struck Codebook fit p hp = λ e. different fit (e ∙ sym hp)
    plain_struck Chaining fit p hp = λ e.
        let pos : 0 < δ = fit.1 in
        let link = before_unreached w δ ivs cs xs d len alike d hd (λ z. absurd (omega arith)) in
        let l = before ivs cs d in
        different fit.0
        (xor_cancel l (G x) (G c) (xor_comm l (G x) ∙ ap (bit_xor (G x)) (sym link) ∙ e ∙ sym hp ∙ xor_comm (G c) l))
    plain_struck CipherFeedback fit p hp =
        let pos : 0 < δ = fit.1 in
        let same = register_unreached w δ ivs cs xs d len alike d hd (omega arith) in
        ap (λ r. bit_xor x (leftmost w (F r))) same ∙ mask_struck (leftmost w (F (register w ivs cs d))) p hp
    plain_struck OutputFeedback fit p hp = mask_struck (output F ivs d) p hp

    plain_reached : (f : Family) → Fit f w δ → (i p : ℕ) → i < length xs → plain F G f w ivs cs i (get_or cs i 0) ≡ p → InReach (reach f w δ) d i
        → Reached f w p (plain F G f w ivs xs i (get_or xs i 0)) (bit_xor c x)
    plain_reached Codebook fit i p hi hp r = r
    plain_reached Chaining fit i p hi hp r =
        let pos : 0 < δ = fit.1 in
        let own = alike i hi (λ z. absurd (omega arith)) in
        let at : length ivs + d ≡ i = omega arith in
        let y = G (get_or cs i 0) in
        ap (λ z. bit_xor (G z) (before ivs xs i)) own
        ∙ ap (bit_xor y) (before_late ivs xs i d at ∙ sym (xor_difference c x)) ∙ sym (xor_assoc y c (bit_xor c x))
        ∙ ap (λ z. bit_xor (bit_xor y z) (bit_xor c x)) (sym (before_late ivs cs i d at)) ∙ ap (λ z. bit_xor z (bit_xor c x)) hp
    plain_reached CipherFeedback fit i p hi hp r = λ whole e.
        let pos : 0 < δ = fit.1 in
        let one : 64 / w ≡ 1 = ap (λ z. 64 / z) whole in
        let own = alike i hi (λ z. absurd (omega arith)) in
        let at : length ivs + d ≡ i = omega arith in
        let bx : x < 2 ^ 64 = as_block whole x (hx d hd) in
        let bc : c < 2 ^ 64 = as_block whole c (hc d (omega arith)) in
        let key : (zs : List ℕ) → get_or zs d 0 < 2 ^ 64 → leftmost w (F (register w ivs zs i)) ≡ F (get_or zs d 0) =
        λ zs hz. ap (λ k. leftmost k (F (register k ivs zs i))) whole ∙ div-one (F (register 64 ivs zs i)) ∙ ap F (register_full ivs zs d i (omega arith) at hz) in
        let y = get_or cs i 0 in
        let same : bit_xor y (F x) ≡ bit_xor y (F c) =
        ap (bit_xor y) (sym (key xs bx)) ∙ ap (λ z. bit_xor z (leftmost w (F (register w ivs xs i)))) (sym own) ∙ e ∙ sym hp ∙ ap (bit_xor y) (key cs bc) in
        ne (forward_once F G u x c bx bc (xor_cancel y (F x) (F c) same))
    plain_reached OutputFeedback fit i p hi hp r = r

pub damage : Damage
damage F G F' G' ends m ivs ps xs b hp hx hl d hd alike ne =
    let f = (row m).family in
    let w = (row m).width in
    let δ = (row m).values in
    let u = ends.undo in
    let cs = sent F G m ivs ps in
    let len : length cs ≡ length ps = length_results F G m Enciphering ivs ps (length ps) in
    let out : length (received F' G' m ivs xs) ≡ length xs = length_results F' G' m Deciphering ivs xs (length xs) in
    let hc = results_units F G m u Enciphering ivs ps (length ps) b hp (omega arith) in
    let plain_sent = sent_back F G u m ivs ps b hp in
    let at = λ (i : ℕ) (l : i < length xs). received_at F G F' G' ends m ivs xs i b hx l in
    let hl' : length xs ≤ length cs = omega arith in
    let e = bit_xor (get_or cs d 0) (get_or xs d 0) in
    record {
      right = λ i hi nd nr.
          at i (omega arith) ∙ plain_right F G u w δ ivs cs xs d b.count hc hx hl' hd alike f (fit m) i (omega arith) nd nr ∙ plain_sent i (omega arith);
      struck =
          subst (λ q. Struck f (get_or ps d 0) q e) (sym (at d hd))
          (plain_struck F G u w δ ivs cs xs d b.count hc hx hl' hd alike b.blocks ne f (fit m) (get_or ps d 0) (plain_sent d (omega arith)));
      reached = λ i hi r.
          subst (λ q. Reached f w (get_or ps i 0) q e) (sym (at i (omega arith)))
          (plain_reached F G u w δ ivs cs xs d b.count hc hx hl' hd alike b.blocks ne f (fit m) i (get_or ps i 0) (omega arith) (plain_sent i (omega arith)) r);
    }
