-- What a step answers.
use Rattle.std.proofs.Common.{arith, ◌≡◌, ℕ, true, false, Option, Ok, Err, List, length, refl, sym, subst, count_by}
use Rattle.std.specs.List.{filter_map}
use Rattle.hp_laws.proofs.Variants.{Answer, Attach, Done, Event, Exit, Fork, Home, Names, Slot as OnSlot, SlotEvent, StatAnswer, Step, Usage}
use Rattle.hp_model.specs.declared.event.SlotEvent.TheVariants as slot
use Rattle.hp_model.proofs.Words.{Answered, Choice, AnswersWhatWas, IsEvent, IsSettledState, IsStep, Outcome, Refused, Reply}
use Rattle.hp_model.proofs.Words.{Slot, State, bytes_answer, cell_at, has_page, home_of, is_entered, named_on, shown, slot_at, slot_event, usage_of, when_known}
use Rattle.hp_model.specs.machine.Footprint.{There}
use Rattle.hp_laws.proofs.settled.CountsHold.{counts_are_sums}
use Rattle.hp_laws.proofs.accesses.SlotShows.{load_loads, Says}
use Rattle.hp_laws.proofs.steps.Outcomes.{Always, always_weaker, event_ends, reply_of}
use Rattle.hp_laws.proofs.promises.DoneAnswers.{IsDone, SaysDone, exit_says, fork_says, slot_says, tells}
use Rattle.hp_laws.proofs.promises.SmallReplies.{rows_many}
use Rattle.hp_laws.proofs.steps.Whole.{by_event, is_whole, slot_step, step_of}

usage_told : (size k : ℕ) (c : Choice) (old : Slot)
    → Always (Says (λ a. There old (λ m. a ≡ Usage m.limits.max m.limits.min (usage_of m) m.limits.inodes (length m.files)))) (slot_event size k c old slot.Df)
usage_told size k c old = grind arith

names_told : (size k : ℕ) (c : Choice) (old : Slot) → Always (Says (λ a. There old (λ m. a ≡ Names (filter_map (λ f. f.name) m.files)))) (slot_event size k c old slot.Ls)
names_told size k c old = grind arith

stat_told : (size k : ℕ) (c : Choice) (old : Slot) (name : List ℕ)
    → Always (Says (λ a. There (named_on old name) (λ f. a ≡ StatAnswer (length f.1.cells) (count_by has_page f.1.cells) (count_by is_entered f.1.cells) (length f.1.maps))))
    (slot_event size k c old (slot.Stat name))
stat_told size k c old name = grind arith

read_told : (size k : ℕ) (c : Choice) (old : Slot) (name : List ℕ) (i offset count : ℕ)
    → Always (Says (λ a. There (named_on old name) (λ f. a ≡ bytes_answer offset count (shown size (cell_at f.1 i))))) (slot_event size k c old (slot.Read name i offset count))
read_told size k c old name i offset count = grind arith

-- one that tells nothing says that it is done
done_told : (e : SlotEvent) → tells e ≡ false → (size k : ℕ) (c : Choice) (old : Slot) → Always (Says (λ a. a ≡ Done)) (slot_event size k c old e)
done_told e not_told size k c old = always_weaker (SaysDone e) (Says (λ a. a ≡ Done)) says (slot_event size k c old e) (slot_says size k c old e)
  where
    says : (o : Outcome) → SaysDone e o → Says (λ a. a ≡ Done) o
    says (Refused r) h = tt
    says (Answered a new) h = h not_told

module _ (s : State) (st : IsSettledState s) where
  -- what is told of the slot
  slot_tells : (P : Answer → Type 0) (k : ℕ) (e : SlotEvent) (reply : Reply) (t : State)
      → ((c : Choice) → Always (Says P) (slot_event s.page_size k c (slot_at s k) e)) → ((a : Answer) → P a → AnswersWhatWas s (slot_step k e) (Ok a) t)
      → IsEvent s (OnSlot k e) reply t → AnswersWhatWas s (slot_step k e) reply t
  slot_tells P k e reply t all h is = (let ends = event_ends (Says P) s k e reply t all is in by_outcome ends.outcome ends.holds ends.replied)
    where
      by_outcome : (o : Outcome) → Says P o → reply ≡ reply_of o → AnswersWhatWas s (slot_step k e) reply t
      by_outcome (Refused r) p replied = subst (λ x. AnswersWhatWas s (slot_step k e) x t) (sym replied) tt
      by_outcome (Answered a new) p replied = subst (λ x. AnswersWhatWas s (slot_step k e) x t) (sym replied) (h a p)

  home_told : (task : ℕ) (o : Option ℕ) → home_of s.table task ≡ o → (reply : Reply) (t : State) → reply ≡ (when_known s.table o (λ home. (Ok (Home home), s.table))).0
      → AnswersWhatWas s (Attach task) reply t
  home_told task o known reply t is = grind arith

  pub slot_answers : (k : ℕ) (e : SlotEvent) (reply : Reply) (t : State) → IsEvent s (OnSlot k e) reply t → AnswersWhatWas s (slot_step k e) reply t
  slot_answers k e (Err r) t is = tt
  slot_answers k slot.Df (Ok a) t is = slot_tells _ k slot.Df (Ok a) t (λ c. usage_told s.page_size k c (slot_at s k)) (λ x h. h) is
  slot_answers k slot.Ls (Ok a) t is = slot_tells _ k slot.Ls (Ok a) t (λ c. names_told s.page_size k c (slot_at s k)) (λ x h. h) is
  slot_answers k (slot.Stat name) (Ok a) t is = slot_tells _ k (slot.Stat name) (Ok a) t (λ c. stat_told s.page_size k c (slot_at s k) name) (λ x h. h) is
  slot_answers k (slot.Read name i offset count) (Ok a) t is =
      slot_tells _ k (slot.Read name i offset count) (Ok a) t (λ c. read_told s.page_size k c (slot_at s k) name i offset count) (λ x h. h) is
  slot_answers k (slot.Map task home name a n sharing reserving) (Ok answer) t is = tt
  slot_answers k (slot.Anon task home n sharing reserving) (Ok answer) t is = tt
  slot_answers k (slot.Load task home number i offset count) (Ok a) t is =
      slot_tells _ k (slot.Load task home number i offset count) (Ok a) t (λ c. load_loads s.page_size k c (slot_at s k) task home number i offset count) (λ x h. h) is
  slot_answers k e (Ok a) t is = slot_tells (λ x. x ≡ Done) k e (Ok a) t (λ c. done_told e refl s.page_size k c (slot_at s k)) (λ x h. h) is

  event_tells : (e : Event) (reply : Reply) (t : State) → is_whole e ≡ true → IsEvent s e reply t → AnswersWhatWas s (step_of e) reply t
  event_tells (OnSlot k e) reply t whole is = slot_answers k e reply t is
  event_tells e reply t whole is = grind (arith, counts_are_sums, rows_many, home_told)

  fork_tells : (parent child : ℕ) (reply : Reply) (t : State) → IsDone reply → AnswersWhatWas s (Fork parent child) reply t
  fork_tells parent child (Ok a) t done = done
  fork_tells parent child (Err r) t done = tt

  exit_tells : (task : ℕ) (reply : Reply) (t : State) → IsDone reply → AnswersWhatWas s (Exit task) reply t
  exit_tells task (Ok a) t done = done
  exit_tells task (Err r) t done = tt

  pub step_tells : (reply : Reply) (t : State) (step : Step) → IsStep s step reply t → AnswersWhatWas s step reply t
  step_tells reply t step is = by_event s (λ step reply t. AnswersWhatWas s step reply t) (λ step r early. tt) event_tells
      (λ parent child reply t is. fork_tells parent child reply t (fork_says s parent child reply t is)) (λ task reply t is. exit_tells task reply t (exit_says s task reply t is)) reply t step is
