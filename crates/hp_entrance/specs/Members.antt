-- What a session has of the machine, to a contract.
use Rattle.std.specs.Prelude.{◌≡◌, ◌≤◌, ℕ, Bool, true, List, [], ◌∷◌}
use Rattle.atomic_table.specs.Seated.{TableId}
use Rattle.hp_events.specs.Time.{Clock}
use Rattle.hp_history.specs.declared.held.Held.{Held}
use Rattle.hp_history.specs.History.{front_of, number_in, receipts_in}
use Rattle.hp_history.specs.Sections.{session_view}
use Rattle.hp_model.specs.declared.entry.Receipt.{Receipt}
use Rattle.hp_shared.specs.Ended.{IsCount}

-- its number, what it was told so far, and for how many receipts there is room
pub record MemberView : Type 0 where
  pub number : ℕ
  pub receipts : List Receipt
  pub room : ℕ

-- what a way into the machine shows: how many slots there are, the member's receipts and room, and its clock
pub record EntranceView : Type 0 where
  pub slots : ℕ
  pub receipts : List Receipt
  pub room : ℕ
  pub clock : Clock

abbrev pub told_at : List (List Held) → List Receipt
told_at vs = receipts_in (front_of vs)

abbrev pub member_number : List (List Held) → ℕ
member_number vs = number_in (front_of vs)

-- its seat has it alone, with what it was told; where receipts are kept they are that, within their room
pub record IsMember (kept : Bool) (history : TableId) (number : ℕ) (id : TableId) (views : List (List Held)) (receipts : List Receipt) (count room capacity : ℕ) : Type 0 where
  pub numbered : IsCount number (member_number views)
  pub named : id ≡ history
  pub one : views ≡ (session_view (front_of views) ∷ []) ∷ []
  pub told : kept ≡ true → receipts ≡ told_at views
  pub few : kept ≡ true → count ≤ room
  pub fits : kept ≡ true → room ≤ capacity
