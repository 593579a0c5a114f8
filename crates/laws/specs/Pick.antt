-- Serves every clause. Choices and tests. Assumes nothing.
use Rattle.std.specs.Prelude.{Bool, true, false}

-- if the test holds the first, else the second
abbrev pub pick {ℓ} : {X : Type ℓ} → Bool → X → X → X
pick true x y = x
pick false x y = y

-- both tests hold
abbrev pub both : Bool → Bool → Bool
both true b = b
both false b = false

-- one of the tests holds
abbrev pub either : Bool → Bool → Bool
either true b = true
either false b = b

-- the second holds where the first does
abbrev pub implies : Bool → Bool → Bool
implies true b = b
implies false b = true
