-- What a run keeps from step to step.
use Rattle.std.proofs.Common.{◌≡◌, ℕ, ◌+◌, refl, ap, ◌∙◌, arith}
use Rattle.engines.specs.Machines.{Machine}
use Rattle.runs.specs.declared.frame.Frame.{Frame}
use Rattle.runs.specs.Standing.{SameEngine}
use Rattle.runs.specs.Handing.{holding, Onward}

-- the same machine but for its row is one with another row
pub same_holding : (mach mach' : Machine) → SameEngine mach mach' → mach' ≡ holding mach mach'.row
same_holding mach mach' same =
    ap (λ F. record { forward = F; inverse = mach'.inverse; depth = mach'.depth; row = mach'.row }) same.0
    ∙ ap (λ G. record { forward = mach.forward; inverse = G; depth = mach'.depth; row = mach'.row }) same.1
    ∙ ap (λ D. record { forward = mach.forward; inverse = mach.inverse; depth = D; row = mach'.row }) same.2

pub same_then : (mach mach' mach'' : Machine) → SameEngine mach mach' → SameEngine mach' mach'' → SameEngine mach mach''
same_then mach mach' mach'' p q = (q.0 ∙ p.0, q.1 ∙ p.1, q.2 ∙ p.2)

pub onward_none : (mach : Machine) (f : Frame) (given : ℕ) → Onward mach mach f f given given 0
onward_none mach f given = record { engine = (refl, refl, refl); kept = (refl, refl, refl); room = omega arith; count = omega arith }

pub onward_then : (mach mach' mach'' : Machine) (f f' f'' : Frame) (a b c m n : ℕ) → Onward mach mach' f f' a b m → Onward mach' mach'' f' f'' b c n
    → Onward mach mach'' f f'' a c (m + n)
onward_then mach mach' mach'' f f' f'' a b c m n p q =
    record {
      engine = same_then mach mach' mach'' p.engine q.engine;
      kept = (q.kept.0 ∙ p.kept.0, q.kept.1 ∙ p.kept.1, q.kept.2 ∙ p.kept.2);
      room = omega (arith, p.room, q.room);
      count = omega (arith, p.count, q.count);
    }

-- the same where units were handed out before
pub onward_behind : (mach mach' : Machine) (f f' : Frame) (a r n : ℕ) → Onward mach mach' f f' 0 r n → Onward mach mach' f f' a (a + r) n
onward_behind mach mach' f f' a r n p = record { engine = p.engine; kept = p.kept; room = omega (arith, p.room); count = p.count }
