-- Trails made by hand, and receipts that join them or do not, by computation.
use Rattle.std.proofs.lemmas.Grind.{common_steps}
use Rattle.std.proofs.Common.{◌≡◌, ◌≢◌, inl, inr, ℕ, zero, suc, ◌<◌, ◌≤◌, Bool, true, false, Option, None, Some, Ok, List, [], ◌∷◌, refl, ap, ◌∙◌, arith, is_some, option_map, option_and_then, All}
use Rattle.std.proofs.Common.{slice_get, slice_index_or}
use Rattle.std.proofs.lemmas.List.Elements.{All-cons, All-nil}
use Rattle.hp_laws.proofs.Variants.{Add, Asked, AtPool, AtSlot, Done, Event, Find, Grant, Home, MapNo, Number, OfPool, OfSlot, Part, Pool as OnPool, PoolEntry, Receipt, Reserve, Shared}
use Rattle.hp_laws.proofs.Variants.{Slot as OnSlot, SlotEntry, TableEntry, Tasks as OnTasks}
use Rattle.hp_model.specs.declared.entry.Part.TheVariants.{Tasks}
use Rattle.hp_model.specs.declared.event.PoolEvent.TheVariants.{Nr}
use Rattle.hp_model.specs.declared.event.SlotEvent.TheVariants.{Create, Map as MapEvent}
use Rattle.hp_model.proofs.Words.{AreRuns, Asks, Choice, Differ, Entry, HasReceipt, InPool, InSlot, InTasks, IsBefore, IsJointRun, IsLocalRun, Item, Joins, LostSection, Pool, Reply, SharedSection}
use Rattle.hp_model.proofs.Words.{Slot, State, Trails, entry_at, granted_at, mapped, most_frames, new_file, open_mount, pool_event, pool_of, section, slot_at, slot_trail, start, with_file, with_new}
use Rattle.hp_laws.proofs.settled.JoinedRun.{joined_law}
use Rattle.hp_laws.proofs.settled.StaysSettled.{start_is_settled}

-- ---- the trails

abbrev machine : State
machine = start (4 ∷ 4 ∷ []) 1024 1

abbrev a_name : List ℕ
a_name = 97 ∷ []

abbrev add_one : TableEntry
add_one = record { event = Add 1 0; reply = Ok Done }

abbrev find_one : TableEntry
find_one = record { event = Find 1; reply = Ok (Home 0) }

abbrev create_a : SlotEntry
create_a = record { event = Create a_name; reply = Ok Done; asked = None }

-- the map's entry, with its section at this place
abbrev map_a : ℕ → SlotEntry
map_a place = record {
  event = MapEvent 1 0 a_name 0 1 Shared Reserve;
  reply = Ok (MapNo 1);
  asked = Some (record { place = place; section = Grant 0 1; answer = granted_at 0 });
}

abbrev nr_four : PoolEntry
nr_four = OfPool (Nr 4) (Ok (Number 4))

-- the trails, with the map's section at this place, and a grant of so many pages in the pool's
abbrev trails : (place pages : ℕ) → Trails
trails place pages = record {
  tasks = add_one ∷ find_one ∷ [];
  slots = (create_a ∷ map_a place ∷ []) ∷ [];
  pool = nr_four ∷ OfSlot (Grant 0 pages) (granted_at 0) ∷ [];
}

-- ---- the receipts

abbrev pool_0 : Receipt
pool_0 = record { part = AtPool; place = 0; event = OnPool (Nr 4); reply = Ok (Number 4) }

abbrev tasks_0 : Receipt
tasks_0 = record { part = Tasks; place = 0; event = OnTasks (Add 1 0); reply = Ok Done }

abbrev tasks_1 : Receipt
tasks_1 = record { part = Tasks; place = 1; event = OnTasks (Find 1); reply = Ok (Home 0) }

abbrev slot_0 : Receipt
slot_0 = record { part = AtSlot 0; place = 0; event = OnSlot 0 (Create a_name); reply = Ok Done }

abbrev slot_1 : ℕ → Receipt
slot_1 number = record { part = AtSlot 0; place = 1; event = OnSlot 0 (MapEvent 1 0 a_name 0 1 Shared Reserve); reply = Ok (MapNo number) }

abbrev sessions : List (List Receipt)
sessions = (pool_0 ∷ tasks_0 ∷ slot_0 ∷ tasks_1 ∷ slot_1 1 ∷ []) ∷ []

-- ---- they join

abbrev item : Entry → ℕ → Item
item e place = record { entry = e; place = place; by = 0 }

abbrev items : List Item
items = item (InPool (Nr 4) (Ok (Number 4))) 0 ∷ item (InTasks add_one) 0 ∷ item (InSlot 0 create_a) 0 ∷ item (InTasks find_one) 1 ∷ item (InSlot 0 (map_a 1)) 1 ∷ []

one_slot : (P : ℕ → Type 0) → P 0 → (k : ℕ) → k < 1 → P k
one_slot P p k l = grind (arith, common_steps)

pub joins : Joins (trails 1 1) sessions items
joins = grind (arith, common_steps)

-- ---- each trail is a run, and so the joined list is a run of the machine

abbrev ends : ℕ → Slot
ends k = Some (with_file (with_new open_mount (new_file (Some a_name))) 0 (mapped 1 1 0 1 Shared Reserve (new_file (Some a_name))))

abbrev first : Choice
first = record { stamp = 0; refused = false; after_grant = false }

abbrev pool_1 : Pool
pool_1 = (pool_event (pool_of machine) (Nr 4)).1

abbrev pool_2 : Pool
pool_2 = (section pool_1 (Grant 0 1)).1

runs : AreRuns machine (trails 1 1) ((1, 0) ∷ []) ends pool_2
runs = record {
  count = refl;
  tasks = ((1, 0) ∷ [], refl, ((1, 0) ∷ [], refl, refl));
  slots = one_slot (λ k. IsLocalRun 1024 k (slot_at machine k) (slot_trail (trails 1 1) k) (ends k)) (
    Some (with_new open_mount (new_file (Some a_name))),
    (refl, first, refl, (refl, refl)),
    (ends 0, (refl, first, refl, (refl, (refl, refl))), refl),
  );
  pool = (pool_1, refl, (pool_2, refl, refl));
}

few : All (λ (f : ℕ). f ≤ most_frames) (4 ∷ 4 ∷ [])
few = All-cons (λ (f : ℕ). f ≤ most_frames) 4 (4 ∷ []) (omega arith) (All-cons (λ (f : ℕ). f ≤ most_frames) 4 [] (omega arith) (All-nil (λ (f : ℕ). f ≤ most_frames)))

pub joint_run : (end : State) × IsJointRun machine (trails 1 1) items end
joint_run =
    let end = joined_law machine (trails 1 1) items ((1, 0) ∷ []) ends pool_2 (start_is_settled (4 ∷ 4 ∷ []) 1024 1 (omega arith) few) runs joins.order in (end.0, end.1)

-- ---- six changes, after each of which they differ

no_receipts : (session i : ℕ) (r : Receipt) (rs : List Receipt) → slice_get (slice_index_or (rs ∷ []) (suc session) []) i ≡ Some r → ⊥
no_receipts session i r rs has = cc

-- a receipt left out
pub left_out : Differ (trails 1 1) ((pool_0 ∷ tasks_0 ∷ slot_0 ∷ tasks_1 ∷ []) ∷ [])
left_out = inr (inr (inr (inr (inr (inl (record { part = AtSlot 0; place = 1; entry = InSlot 0 (map_a 1); there = refl; untold = none }))))))
  where
    none : (session i : ℕ) (r : Receipt) → HasReceipt ((pool_0 ∷ tasks_0 ∷ slot_0 ∷ tasks_1 ∷ []) ∷ []) session i r → (r.part ≡ AtSlot 0) × (r.place ≡ 1) → ⊥
    none zero zero r has is = cc
    none zero (suc zero) r has is = cc
    none zero (suc (suc zero)) r has is = cc
    none zero (suc (suc (suc zero))) r has is = cc
    none zero (suc (suc (suc (suc i)))) r has is = cc
    none (suc s) i r has is = cc

-- one given twice
pub given_twice : Differ (trails 1 1) ((pool_0 ∷ tasks_0 ∷ slot_0 ∷ tasks_1 ∷ slot_1 1 ∷ slot_1 1 ∷ []) ∷ [])
given_twice = inr (inr (inr (inr (inl (record {
  session = 0;
  i = 4;
  receipt = slot_1 1;
  session' = 0;
  i' = 5;
  receipt' = slot_1 1;
  has = refl;
  has' = refl;
  apart = λ e. omega (arith, e.1);
  part = refl;
  place = refl;
})))))

abbrev reply_of : Option (Event × Reply) → Reply
reply_of None = Ok Done
reply_of (Some p) = p.1

other_reply : ◌≡◌ {A = Reply} (Ok (MapNo 1)) (Ok (MapNo 2)) → ⊥
other_reply e = cc

-- the map's receipt with another number
pub other_number : Differ (trails 1 1) ((pool_0 ∷ tasks_0 ∷ slot_0 ∷ tasks_1 ∷ slot_1 2 ∷ []) ∷ [])
other_number = inr (inr (inr (inl (record { session = 0; i = 4; receipt = slot_1 2; has = refl; other = λ e. other_reply (ap reply_of e) }))))

-- the map's section at place 0
pub other_place : Differ (trails 0 1) sessions
other_place = inl (record {
  slot = 0;
  place = 1;
  asked = record { place = 0; section = Grant 0 1; answer = granted_at 0 };
  asks = record { entry = map_a 0; there = refl; asks = refl };
  other = λ e. cc;
})

-- the pool's grant of 1 made a grant of 2
pub other_grant : Differ (trails 1 2) sessions
other_grant = inl (record {
  slot = 0;
  place = 1;
  asked = record { place = 1; section = Grant 0 1; answer = granted_at 0 };
  asks = record { entry = map_a 1; there = refl; asks = refl };
  other = λ e. cc;
})

-- the last two receipts exchanged with the first two
abbrev exchanged : List (List Receipt)
exchanged = (tasks_1 ∷ slot_1 1 ∷ slot_0 ∷ pool_0 ∷ tasks_0 ∷ []) ∷ []

abbrev of_tasks : Part → ℕ → Bool
of_tasks Tasks zero = true
of_tasks Tasks (suc zero) = true
of_tasks Tasks (suc (suc i)) = false
of_tasks (AtSlot k) i = false
of_tasks AtPool i = false

pub in_a_circle : Differ (trails 1 1) exchanged
in_a_circle = inr (inr (inr (inr (inr (inr (record { set = of_tasks; part = Tasks; place = 0; some = (refl, λ e. cc); each = each }))))))
  where
    each : (b : Part) (j : ℕ) → of_tasks b j ≡ true → entry_at (trails 1 1) b j ≢ None
        → (a : Part) × (i : ℕ) × (of_tasks a i ≡ true) × (entry_at (trails 1 1) a i ≢ None) × ((a ≡ b) × (i ≡ j) → ⊥) × IsBefore (trails 1 1) exchanged a i b j
    each Tasks zero is there =
        (Tasks, 1, refl, (λ e. cc), (λ e. omega (arith, e.1)), inr (inr (0, 0, 4, tasks_1, tasks_0, refl, refl, omega arith, refl, refl, refl, refl)))
    each Tasks (suc zero) is there = (Tasks, 0, refl, (λ e. cc), (λ e. omega (arith, e.1)), inl (refl, omega arith))
    each Tasks (suc (suc i)) is there = cc
    each (AtSlot k) i is there = cc
    each AtPool i is there = cc

-- ---- a section that two entries have, and one that none has

-- the map's event stands twice, with one section
abbrev twice_on_the_slot : Trails
twice_on_the_slot = record (trails 1 1) { slots = (create_a ∷ map_a 1 ∷ map_a 1 ∷ []) ∷ [] }

abbrev asked_at : ℕ → Asked
asked_at place = record { place = place; section = Grant 0 1; answer = granted_at 0 }

section_of_two : SharedSection twice_on_the_slot
section_of_two = record {
  slot = 0;
  place = 1;
  asked = asked_at 1;
  slot' = 0;
  place' = 2;
  asked' = asked_at 1;
  asks = record { entry = map_a 1; there = refl; asks = refl };
  asks' = record { entry = map_a 1; there = refl; asks = refl };
  apart = λ same. (let wrong : 1 ≡ 2 = same.1 in absurd (omega (arith, wrong)));
  same = refl;
}

pub shared_section : Differ twice_on_the_slot sessions
shared_section = inr (inl section_of_two)

-- the pool has a grant more than the slots asked for
abbrev one_grant_more : Trails
one_grant_more = record (trails 1 1) { pool = nr_four ∷ OfSlot (Grant 0 1) (granted_at 0) ∷ OfSlot (Grant 0 1) (granted_at 0) ∷ [] }

section_of_none : LostSection one_grant_more
section_of_none = record { place = 2; section = Grant 0 1; answer = granted_at 0; there = refl; lost = λ slot i asked asks same. not_there slot i asked asks same }
  where
    not_there : (slot i : ℕ) (asked : Asked) → Asks one_grant_more slot i asked → asked.place ≡ 2 → ⊥
    not_there zero zero asked asks same = no_section (asks.entry) asks.there asks.asks
      where
        no_section : (e : SlotEntry) → Some create_a ≡ Some e → e.asked ≡ Some asked → ⊥
        no_section e there is = (let wrong : false ≡ true = ap (λ o. is_some (option_and_then (λ (x : SlotEntry). x.asked) o)) there ∙ ap is_some is in cc)
    not_there zero (suc zero) asked asks same =
        let place : Some 1 ≡ Some asked.place =
        ap (λ o. option_map (λ (a : Asked). a.place) (option_and_then (λ (x : SlotEntry). x.asked) o)) asks.there ∙ ap (option_map (λ (a : Asked). a.place)) asks.asks in
        let one : 1 ≡ asked.place = cc in absurd (omega (arith, one, same))
    not_there zero (suc (suc i)) asked asks same = (let wrong : false ≡ true = ap is_some asks.there in cc)
    not_there (suc slot) i asked asks same = (let wrong : false ≡ true = ap is_some asks.there in cc)

pub lost_section : Differ one_grant_more sessions
lost_section = inr (inr (inl section_of_none))
