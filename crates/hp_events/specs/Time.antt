-- What a session knows of the one order of all events of its machine: whose the first of them are.
use Rattle.std.specs.Prelude.{◌≡◌, ◌==◌, ℕ, suc, List, [], ◌∷◌, ◌++◌, length, if◌then◌else◌}
use Rattle.hp_model.specs.declared.entry.Receipt.{Receipt}

-- one list begins with another
abbrev pub IsFront : {X : Type 0} → List X → List X → Type 0
IsFront {X} xs ys = (rest : List X) × (ys ≡ xs ++ rest)

-- how many of the events are this session's
abbrev pub made : ℕ → List ℕ → ℕ
made n [] = 0
made n (b ∷ bs) = if b == n then suc (made n bs) else made n bs

-- a session's number, and whose the first events of the order are, as far as it has seen it
pub record Clock : Type 0 where
  pub number : ℕ
  pub seen : List ℕ

-- It looked at the order: that begins with what it had seen, and all events that it was told of stand there, with no others of it
pub record IsDated (told : List Receipt) (old new : Clock) : Type 0 where
  pub number : new.number ≡ old.number
  pub later : IsFront old.seen new.seen
  pub made : made new.number new.seen ≡ length told
