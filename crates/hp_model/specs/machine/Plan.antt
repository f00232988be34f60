-- How an event on a slot goes on: at once, or by one hold of the pool's lock.
use Rattle.std.specs.Prelude.{◌≡◌, ℕ, ◌-◌, ◌&&◌, ◌==◌, Bool, false, Option, None, Some, Result, List, [], ◌∷◌, map, if◌then◌else◌}
use Rattle.std.specs.List.{range_with_len, sum}
use Rattle.hp_model.specs.declared.answer.Answer.{Answer}
use Rattle.hp_model.specs.declared.refusal.Refusal.{Refusal}
use Rattle.hp_model.specs.declared.refusal.Refusal.TheVariants.{NoPages, MountFull, OutOfMemory}
use Rattle.hp_model.specs.files.File.{Mount}
use Rattle.hp_model.specs.pool.Grant.{rise, is_full, is_over}
use Rattle.hp_model.specs.files.MountCounts.{pages_of, committed_of, pages_at, usage_of}
use Rattle.hp_model.specs.pool.Pool.{Section, Grant, GrantPage, TakePage, GiveBack, PoolAnswer}

abbrev pub Reply : Type 0
Reply = Result Answer Refusal

-- a mount, or none
abbrev pub Slot : Type 0
Slot = Option Mount

-- a refused event changes nothing
pub data Outcome : Type 0 where
  Refused : Refusal → Outcome
  Answered : Answer → Slot → Outcome

-- done at once; or a section, which the limits of a mount or a remount make depend on nr, and what follows from the pool's answer
pub data Plan : Type 0 where
  Finish : Outcome → Plan
  Ask : (ℕ → Section) → (PoolAnswer → Outcome) → Plan

-- what the machine may choose: the stamp of a new private copy; whether memory is refused; and for a mount, whether it is refused after the grant
pub record Choice : Type 0 where
  pub stamp : ℕ
  pub refused : Bool
  pub after_grant : Bool

abbrev pub refuse : Refusal → Plan
refuse r = Finish (Refused r)

-- the first refusal whose test holds, else the plan
abbrev pub unless : List (Bool × Refusal) → Plan → Plan
unless [] p = p
unless (t ∷ ts) p = if t.0 then refuse t.1 else unless ts p

abbrev pub with_value : {X : Type 0} → Option X → Refusal → (X → Plan) → Plan
with_value None r f = refuse r
with_value (Some x) r f = f x

-- what follows an answer, on the mount that it leaves
abbrev pub continued : (Mount → Outcome) → Outcome → Outcome
continued f (Refused r) = Refused r
continued f (Answered a None) = Answered a None
continued f (Answered a (Some m)) = f m

abbrev pub and_then : (Mount → Outcome) → Plan → Plan
and_then f (Finish o) = Finish (continued f o)
and_then f (Ask s k) = Ask s (λ a. continued f (k a))

-- ---- grants

abbrev pub when_granted : Outcome → PoolAnswer → Outcome
when_granted o a = if a.granted then o else Refused NoPages

-- k reservations more
abbrev pub grant : Choice → Mount → (home k : ℕ) → Outcome → Plan
grant c m home k o =
    unless ((is_full m k, MountFull) ∷ (c.refused, OutOfMemory) ∷ [])
    (if rise m k == 0 then Finish o else Ask (λ nr. Grant home (rise m k)) (when_granted o))

-- a page by a grant of 1
abbrev pub grant_page : Choice → Mount → (home : ℕ) → (ℕ → Outcome) → Plan
grant_page c m home f =
    unless ((is_full m 1, MountFull) ∷ (c.refused, OutOfMemory) ∷ [])
    (Ask (λ nr. GrantPage home (rise m 1)) (λ a. when_granted (f a.node) a))

-- a page for a reservation that is held, for which there is room
abbrev pub reserved_page : (home : ℕ) → (ℕ → Outcome) → Plan
reserved_page home f = Ask (λ nr. TakePage home) (λ a. f a.node)

-- ---- giving back

abbrev pub slot_committed : Slot → ℕ
slot_committed None = 0
slot_committed (Some m) = committed_of m

abbrev pub slot_pages : Slot → ℕ
slot_pages None = 0
slot_pages (Some m) = pages_of m

abbrev pub slot_pages_at : ℕ → Slot → ℕ
slot_pages_at n None = 0
slot_pages_at n (Some m) = pages_at n m

-- the pages that go back, by node
abbrev pub puts_of : Slot → Slot → List ℕ
puts_of old new = map (λ n. slot_pages_at n old - slot_pages_at n new) (range_with_len 0 4)

abbrev pub fall_of : Slot → Slot → ℕ
fall_of old new = slot_committed old - slot_committed new

-- the slot loses pages and reservations, and the pool gets back what the minimum does not keep
abbrev pub gives : Answer → Slot → Slot → Plan
gives a old new =
    if (sum (puts_of old new) == 0) && (fall_of old new == 0)
    then Finish (Answered a new)
    else Ask (λ nr. GiveBack (puts_of old new) (fall_of old new)) (λ answer. Answered a new)

abbrev pub slot_usage : Slot → ℕ
slot_usage None = 0
slot_usage (Some m) = usage_of m

-- the mount uses no more than its limit
abbrev pub IsWithinLimit : Slot → Type 0
IsWithinLimit None = Unit {0}
IsWithinLimit (Some m) = is_over m.limits.max (usage_of m) ≡ false
