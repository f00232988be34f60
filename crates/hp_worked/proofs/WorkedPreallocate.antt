-- Wrong machines of a preallocation, each refused by what is promised or by what a step is.
use Rattle.std.proofs.lemmas.Grind.{common_steps}
use Rattle.std.proofs.Common.{◌≡◌, length, ℕ, true, false, None, Some, Ok, Err, List, [], ◌∷◌, refl, ap, arith, count_by, slice_index_or, slice_set, codes}
use Rattle.hp_laws.proofs.Variants.{Cell, Connect, Create, Done, Entered, Event, Hole, Map, MountFull, NoPages, Nr, OutOfRange, Preallocate, Present, Reserve, Shared, Slot as OnSlot, Step, Store}
use Rattle.hp_laws.proofs.Variants.{TooMany}
use Rattle.hp_model.specs.declared.event.SlotEvent.TheVariants as slot
use Rattle.hp_model.proofs.Words.{File, IsPromised, IsStep, Page, Slot, State, cell_at, file_in, has_page, new_file, plain_step, shown, slot_at, takes_memory, with_file, with_slot, zero_page}
use Rattle.hp_worked.proofs.WorkedPromises.{after_all, mounted}
use Rattle.hp_worked.proofs.WorkedRecord.{refusal_of}
use Rattle.hp_worked.proofs.WorkedWords.{machine}

-- of 4 pages 2 are committed; the file "a" has a page, with a byte, and an entry
abbrev begun : State
begun = after_all machine (Nr 4 ∷ Connect 1 0 ∷ Create 0 (codes "a") ∷ Create 0 (codes "b") ∷ Map 1 0 (codes "a") 0 2 Shared Reserve ∷ Store 1 0 1 0 0 (5 ∷ []) ∷ [])

abbrev three : Step
three = Preallocate 0 (codes "a") 0 3

abbrev filled : State
filled = (plain_step begun three).1

-- the cells of a file of the slot are others
abbrev with_cells_on : (file : ℕ) → (List (Cell Page) → List (Cell Page)) → Slot → Slot
with_cells_on file h None = None
with_cells_on file h (Some m) = Some (with_file m file (record (file_in m file) { cells = h (file_in m file).cells }))

abbrev with_cells : (file : ℕ) → (List (Cell Page) → List (Cell Page)) → State → State
with_cells file h t = with_slot t 0 (with_cells_on file h (slot_at t 0))

abbrev file_on : State → (file : ℕ) → File
file_on t file = elim (slot_at t 0) [ None ↦ new_file None | Some m ↦ file_in m file ]

abbrev zero_at : (node : ℕ) → Cell Page
zero_at node = Present (zero_page 1024 node)

-- ---- what is there afterwards

-- all but the last index get a page
fills_all_but_the_last : IsPromised begun three (Ok Done) (with_cells 0 (λ cs. slice_set cs 2 Hole) filled) → ⊥
fills_all_but_the_last promised = (let wrong : false ≡ true = ap (λ (s : State). has_page (cell_at (file_on s 0) 2)) promised.footprint.0.1.0 in cc)

-- an entry counts as a page
leaves_an_entry : IsPromised begun three (Ok Done) (with_cells 0 (λ cs. slice_set cs 1 Entered) filled) → ⊥
leaves_an_entry promised = (let wrong : false ≡ true = ap (λ (s : State). has_page (cell_at (file_on s 0) 1)) promised.footprint.0.1.0 in cc)

leaves_the_file_short : IsPromised begun three (Ok Done) (plain_step begun (Preallocate 0 (codes "a") 0 2)).1 → ⊥
leaves_the_file_short promised = (let wrong : 2 ≡ 3 = ap (λ (s : State). length (file_on s 0).cells) promised.footprint.0.1.0 in absurd (omega (arith, wrong)))

-- ---- other bytes, another file, and a page that is dropped

wipes_a_page_that_was_there : IsPromised begun three (Ok Done) (with_cells 0 (λ cs. slice_set cs 0 (zero_at 0)) filled) → ⊥
wipes_a_page_that_was_there promised = (let wrong : 0 ≡ 5 = ap (λ (s : State). slice_index_or (shown 1024 (cell_at (file_on s 0) 0)) 0 0) promised.footprint.0.1.0 in absurd (omega (arith, wrong)))

abbrev another_filled : State
another_filled = with_cells 1 (λ cs. zero_at 1 ∷ []) filled

fills_another_file : IsPromised begun three (Ok Done) another_filled → ⊥
fills_another_file promised = (let wrong : true ≡ false = ap (λ (s : State). has_page (cell_at (file_on s 1) 0)) promised.footprint.0.1.0 in cc)

abbrev from_one : Step
from_one = Preallocate 0 (codes "a") 1 3

abbrev first_dropped : State
first_dropped = with_cells 0 (λ cs. slice_set cs 0 Hole) (plain_step begun from_one).1

drops_a_page_before_the_range : IsPromised begun from_one (Ok Done) first_dropped → ⊥
drops_a_page_before_the_range promised = (let wrong : false ≡ true = ap (λ (s : State). has_page (cell_at (file_on s 0) 0)) promised.footprint.0.1.0 in cc)

-- ---- a part is filled, and then the pool lacks pages

abbrev pages_in : State → ℕ
pages_in t = count_by has_page (file_on t 0).cells

fills_a_part_and_is_refused : IsPromised begun (Preallocate 0 (codes "a") 0 9) (Err NoPages) filled → ⊥
fills_a_part_and_is_refused promised = (let wrong : 3 ≡ 1 = ap (λ (s : State). pages_in s) promised.footprint in absurd (omega (arith, wrong)))

-- ---- more than the mount may use: 4 pages of at most 3

abbrev past_the_size : State
past_the_size = with_slot mounted 2 (with_cells_on 0 (λ cs. zero_at 0 ∷ zero_at 0 ∷ zero_at 1 ∷ zero_at 1 ∷ []) (slot_at mounted 2))

fills_past_the_limit : IsPromised mounted (Preallocate 2 (codes "a") 0 4) (Ok Done) past_the_size → ⊥
fills_past_the_limit promised = (let wrong : true ≡ false = promised.limits 2 (omega arith) (omega arith) in cc)

-- ---- refusals without a reason

-- the whole range has entries, and the mount is at its limit
entries_are_past_the_limit : IsPromised mounted (Preallocate 2 (codes "a") 0 3) (Err MountFull) mounted → ⊥
entries_are_past_the_limit promised = (let wrong : false ≡ true = promised.short in cc)

-- and their pages are promised
entries_find_no_page : IsPromised mounted (Preallocate 2 (codes "a") 0 3) (Err NoPages) mounted → ⊥
entries_find_no_page promised = (let wrong : true ≡ false = promised.short.1 in cc)

-- one more page is asked for, of two
finds_no_page : IsPromised begun three (Err NoPages) begun → ⊥
finds_no_page promised = (let wrong : true ≡ false = promised.short.1 in cc)

empty_range_is_too_many : IsPromised begun (Preallocate 0 (codes "a") 1 1) (Err TooMany) begun → ⊥
empty_range_is_too_many promised = (let wrong : TooMany ≡ OutOfRange = ap refusal_of promised.tests in cc)

three_are_too_many : IsPromised begun three (Err TooMany) begun → ⊥
three_are_too_many promised = (let wrong : false ≡ true = promised.tests in cc)

longest_range_is_passed : IsPromised begun (Preallocate 0 (codes "a") 0 65537) (Err OutOfRange) begun → ⊥
longest_range_is_passed promised = (let wrong : OutOfRange ≡ TooMany = ap refusal_of promised.tests in cc)

-- want of memory is a reason
may_lack_memory : takes_memory begun three ≡ true
may_lack_memory = refl

-- ---- pages of the highest node first

abbrev node_of : Cell Page → ℕ
node_of (Present page) = page.node
node_of other = 99

abbrev second_node : State → ℕ
second_node t = node_of (cell_at (file_on t 0) 1)

lowest_first : second_node filled ≡ 0
lowest_first = refl

abbrev highest_first : State
highest_first = with_cells 0 (λ cs. slice_set cs 1 (zero_at 1)) filled

abbrev filling : Event
filling = OnSlot 0 (slot.Preallocate (codes "a") 0 3)

takes_of_the_highest_node : IsStep begun three (Ok Done) highest_first → ⊥
unfolding IsStep
takes_of_the_highest_node is = grind (arith, common_steps)
