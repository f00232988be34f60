-- What no event of a run may be, by computation: bytes that are no longer there, and a minimum without its pages.
use Rattle.std.proofs.Common.{arith, ◌≡◌, ℕ, ◌≤◌, Ok, [], ◌∷◌, ap, codes}
use Rattle.hp_laws.proofs.Variants.{Answer, Bytes, Done, Slot as OnSlot}
use Rattle.hp_model.specs.declared.event.SlotEvent.TheVariants.{Load, Read, Create}
use Rattle.hp_model.proofs.Words.{State, plain_step}
use Rattle.hp_laws.specs.Runs.{IsPromisedEvent}
use Rattle.hp_worked.proofs.WorkedPromises.{into_first, mounted, shared, without_pages}
use Rattle.hp_worked.proofs.WorkedWords.{bytes}

-- the first map's first two bytes are 0 and 9 by now
abbrev stored : State
stored = (plain_step shared into_first).1

abbrev second_byte : Answer → ℕ
second_byte (Bytes n (a ∷ b ∷ bs)) = b
second_byte other = 0

-- a load that shows what the map had before the store, and a read that shows what the file had
no_stale_load : (t : State) → IsPromisedEvent stored (OnSlot 0 (Load 1 0 1 0 0 2)) (bytes (0 ∷ 0 ∷ [])) t → ⊥
no_stale_load t p = (let wrong : 0 ≡ 9 = ap second_byte p.shown in omega (arith, wrong))

no_stale_read : (t : State) → IsPromisedEvent stored (OnSlot 0 (Read (codes "a") 0 0 2)) (bytes (0 ∷ 0 ∷ [])) t → ⊥
no_stale_read t p = (let wrong : 0 ≡ 9 = ap second_byte p.shown in omega (arith, wrong))

-- an event after which the pages of a mount's minimum are gone
no_minimum_lost : IsPromisedEvent mounted (OnSlot 0 (Create (codes "b"))) (Ok Done) without_pages → ⊥
no_minimum_lost p = (let wrong : 2 ≤ 0 = p.minimums 2 in omega (arith, wrong))
