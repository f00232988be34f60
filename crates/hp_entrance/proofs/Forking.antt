-- A fork of maps that is not refused is answered Done.
use Rattle.std.proofs.Common.{◌≡◌, ℕ, Bool, List, None, Some, Ok, Err, refl, IfOk, Result}
use Rattle.hp_laws.proofs.Variants.{Answer, Done, ForkMaps, Receipt, Refusal, Slot as OnSlot, Told}
use Rattle.hp_model.proofs.Words.{Answered, Choice, Gives, Outcome, Refused, Slot, fork_tests, forked, gives, slot_event, told_answer, told_reply}
use Rattle.hp_laws.specs.Balance.{Always}
use Rattle.hp_laws.proofs.accesses.SlotShows.{always_gives, always_unless}
use Rattle.hp_events.specs.Answered.{CanAnswer, IsHanded}
use Rattle.hp_events.proofs.Came.{always_came}

abbrev IsDone : Outcome → Type 0
IsDone (Refused r) = Unit {0}
IsDone (Answered a s) = a ≡ Done

forks : (size k : ℕ) (c : Choice) (parent child : ℕ) (old : Slot) → Always IsDone (slot_event size k c old (ForkMaps parent child))
forks size k c parent child None = tt
forks size k c parent child (Some m) =
    always_unless IsDone (λ r. tt) (fork_tests c m parent child) (gives Done (Some m) (Some (forked parent child m)))
    (always_gives IsDone Done (Some m) (Some (forked parent child m)) refl)

done : (o : Outcome) (old new : Slot) (a : Answer) → IsDone o → Gives o old (Ok a) new → a ≡ Done
done (Refused r) old new a h g = absurd (let same = g.0 in cc)
done (Answered b s) old new a h g = (let same = g.0 in cc)

fork_answer : (size k parent child : ℕ) (a : Answer) → CanAnswer size (OnSlot k (ForkMaps parent child)) (Ok a) → a ≡ Done
fork_answer size k parent child a (old, asked, new, went) =
    let came = always_came IsDone (slot_event size k went.0 old (ForkMaps parent child)) asked old (Ok a) new (forks size k went.0 parent child old) went.2 in
    done came.0 old new a came.1 came.2

pub fork_result : (kept : Bool) (size k parent child : ℕ) (r : Result Told Refusal) (was now : List Receipt) →
    IsHanded kept size (OnSlot k (ForkMaps parent child)) (told_reply r) was now → IfOk r (λ t. told_answer t ≡ Done)
fork_result kept size k parent child (Ok t) was now h = fork_answer size k parent child (told_answer t) h.0
fork_result kept size k parent child (Err e) was now h = tt
