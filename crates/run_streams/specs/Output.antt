-- S-74: what a program may write: by a definition of what it read. Assumes nothing.
use Rattle.std.specs.Prelude.{◌≡◌, List, ℕ, ◌≤◌, ◌<◌, length, take}

-- The first bytes of `out` are what the definition says of the input, the first bytes of a buffer with more room than the largest input that is
-- taken: one that fills the buffer is refused, whatever is left of it.
pub record Outgoing (definition : List ℕ → List ℕ) (largest : ℕ) (buffer : List ℕ) (size : ℕ) (out : List ℕ) (end : ℕ) : Type 0 where
  pub room : largest < length buffer
  pub fits : end ≤ length out
  pub says : take end out ≡ definition (take size buffer)
