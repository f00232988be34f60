-- What contracts see of a claim.
use Rattle.std.specs.Prelude.{ℕ}

-- so many frames of a node
pub record Claim : Type 0 where
  pub node : ℕ
  pub amount : ℕ
