-- Two functions on blocks, F and G, that undo each other. A block is a number below 2 ^ 64.
use Rattle.std.specs.Prelude.{◌≡◌, ℕ, ◌^◌, ◌<◌}

pub record Undo (F G : ℕ → ℕ) : Type 0 where
  pub back : (b : ℕ) → b < 2 ^ 64 → G (F b) ≡ b
  pub forth : (b : ℕ) → b < 2 ^ 64 → F (G b) ≡ b
  pub forward_is_block : (b : ℕ) → b < 2 ^ 64 → F b < 2 ^ 64
  pub inverse_is_block : (b : ℕ) → b < 2 ^ 64 → G b < 2 ^ 64
