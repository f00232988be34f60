-- The order of all events so far, and what seats know of it.
use Rattle.std.specs.Prelude.{◌≡◌, ◌≢◌, ℕ, zero, suc, ◌+◌, ◌*◌, ◌/◌, ◌%◌, ◌<◌, ◌≤◌, ◌==◌, true, false, Option, None, Some, Ok, List, [], ◌∷◌, ◌++◌, length, map, replicate, slice_index, if◌then◌else◌}
use mathlib.Core.Option.{some}
use lib.ListN.{get_elem?}
use Rattle.atomic_table.specs.Seated.{TableId}
use Rattle.hp_model.specs.declared.answer.Answer.TheVariants.{Home}
use Rattle.hp_model.specs.declared.entry.Asked.{Asked}
use Rattle.hp_model.specs.declared.entry.PoolEntry.{PoolEntry}
use Rattle.hp_model.specs.declared.entry.Receipt.{Receipt}
use Rattle.hp_model.specs.declared.entry.SlotEntry.{SlotEntry}
use Rattle.hp_model.specs.declared.entry.TableEntry.{TableEntry}
use Rattle.hp_model.specs.declared.event.TableEvent.TheVariants.{Find}
use Rattle.hp_model.specs.machine.Table.{Table, added, home_of, removed, table_event}
use Rattle.hp_model.specs.threads.JointRun.{Entry, InPool, InSlot, InTasks, IsThere, Item, keep, numbered, pool_part, receipt_of, section_entry, slot_part, task_part, told}
use Rattle.hp_events.specs.Time.{IsFront, made}
use Rattle.hp_history.specs.declared.held.Held.{Held}
use Rattle.hp_history.specs.declared.held.Held.TheVariants.{Tasks, Pool, Opener, Slot, Session, Busy, Seen}
use Rattle.hp_history.specs.declared.law.Change.{Change}
use Rattle.hp_history.specs.declared.law.Change.TheVariants.{Same, Came, Gone}
use Rattle.hp_history.specs.declared.law.Shape.{Shape}

-- the name of no table
abbrev pub no_table : TableId
no_table = record { words = 0; slots = 0; views_name = 0; atom = 0; block = 0; offset = 0; slot_names = [] }

abbrev pub Each : {X : Type 0} → (X → Type 0) → List X → Type 0
Each P [] = Unit {0}
Each P (x ∷ xs) = P x × Each P xs

-- ---- the order

-- an event; or one of a slot that entered its section, at which it stands in the order, and is not over; or a task's home that
-- a session read in a word, which has no place in the table's trail
pub data Mark : Type 0 where
  Done : Item → Mark
  Open : (slot by : ℕ) → Asked → Mark
  Looked : (task home by : ℕ) → Mark

-- a look-up as an event that its session is told of
abbrev pub look_item : (task home by : ℕ) → Item
look_item task home by = record { entry = InTasks (record { event = Find task; reply = Ok (Home home) }); place = 0; by = by }

abbrev pub task_mark : Mark → Option (ℕ × TableEntry)
task_mark (Done i) = task_part i
task_mark (Open k by a) = None
task_mark (Looked task home by) = None

abbrev pub pool_mark : Mark → Option (ℕ × PoolEntry)
pool_mark (Done i) = pool_part i
pool_mark (Open k by a) = section_entry (Some a)
pool_mark (Looked task home by) = None

abbrev pub there : {X : Type 0} → Option X → Option (Option X)
there None = None
there (Some x) = Some (Some x)

-- what it is for a slot: an entry, a place that is kept for one, or nothing
abbrev pub slot_mark : ℕ → Mark → Option (Option (ℕ × SlotEntry))
slot_mark k (Done i) = there (slot_part k i)
slot_mark k (Open j by a) = if j == k then Some None else None
slot_mark k (Looked task home by) = None

-- the same for a session
abbrev pub told_mark : ℕ → Mark → Option (Option Receipt)
told_mark n (Done i) = there (told n i)
told_mark n (Open j by a) = if by == n then Some None else None
told_mark n (Looked task home by) = there (told n (look_item task home by))

-- whose it is
abbrev pub by_of : Mark → ℕ
by_of (Done i) = i.by
by_of (Open k by a) = by
by_of (Looked task home by) = by

-- whose the marks are, one after another. While the order goes on, and while what is open is filled in, this only grows
abbrev pub bys : List Mark → List ℕ
bys ms = map by_of ms

-- only where the history has look-ups is one of them there
abbrev pub IsWithin : Shape → (sessions : ℕ) → Mark → Type 0
IsWithin sh sessions (Done i) = IsThere sh.slots i.entry × (i.by < sessions)
IsWithin sh sessions (Open k by a) = (k < sh.slots) × (by < sessions)
IsWithin sh sessions (Looked task home by) = (sh.looks ≡ true) × (by < sessions)

-- what is open of this slot or of this session is this
abbrev pub OpensAs : ℕ → ℕ → Asked → Mark → Type 0
OpensAs k n a (Done i) = Unit {0}
OpensAs k n a (Open j by b) = (j ≡ k → (by ≡ n) × (b ≡ a)) × (by ≡ n → j ≡ k)
OpensAs k n a (Looked task home by) = Unit {0}

-- the order, and how many sessions there are
pub record Whole : Type 0 where
  pub marks : List Mark
  pub sessions : ℕ

abbrev pub complete : {X : Type 0} → List X → List (Option X)
complete xs = map (λ x. Some x) xs

-- and one to come
abbrev pub awaiting : {X : Type 0} → List X → List (Option X)
awaiting xs = complete xs ++ None ∷ []

-- ---- the table at each point of the order

abbrev pub entry_table : ℕ → Table → Entry → Table
entry_table nodes t (InTasks e) = (table_event nodes t e.event).1
entry_table nodes t (InSlot k e) = t
entry_table nodes t (InPool e r) = t

abbrev pub mark_table : ℕ → Table → Mark → Table
mark_table nodes t (Done i) = entry_table nodes t i.entry
mark_table nodes t (Open k by a) = t
mark_table nodes t (Looked task home by) = t

-- as these marks leave it, one after another
abbrev pub table_after : ℕ → Table → List Mark → Table
table_after nodes t [] = t
table_after nodes t (m ∷ ms) = table_after nodes (mark_table nodes t m) ms

abbrev pub table_of : Shape → Whole → Table
table_of sh z = table_after sh.nodes [] z.marks

-- as a trail leaves it
abbrev pub trail_table : ℕ → Table → List TableEntry → Table
trail_table nodes t [] = t
trail_table nodes t (e ∷ es) = trail_table nodes (table_event nodes t e.event).1 es

-- a look-up's home is the task's in this table
abbrev pub Agrees : Table → Mark → Type 0
Agrees t (Done i) = Unit {0}
Agrees t (Open k by a) = Unit {0}
Agrees t (Looked task home by) = home_of t task ≡ Some home

-- each look-up agrees with the table as the marks before it leave it
abbrev pub Agree : ℕ → Table → List Mark → Type 0
Agree nodes t [] = Unit {0}
Agree nodes t (m ∷ ms) = Agrees t m × Agree nodes (mark_table nodes t m) ms

-- ---- the words

-- how many words there are for homes, which begin behind the word that nobody writes
abbrev pub rests : ℕ
rests = 16384

abbrev pub first_home : ℕ
first_home = 16

-- the home that a word says the task has
abbrev pub says_home : ℕ → ℕ → Option ℕ
says_home task word = if word / 4 == suc task then Some (word % 4) else None

-- what the word at this place says, the table says
abbrev pub Fits : Table → ℕ → ℕ → Type 0
Fits table place word = (task : ℕ) → word / 4 ≡ suc task → (place ≡ task % rests + first_home) × (home_of table task ≡ Some (word % 4))

-- the look-ups agree, each in its place, and each word says what the table at the end of the order says
abbrev pub IsNoted : Shape → Whole → List ℕ → Type 0
IsNoted sh z words = Agree sh.nodes [] z.marks × ((place : ℕ) → Fits (table_of sh z) place (slice_index words place))

-- ---- what a seat has of it

abbrev pub parts_of : Held → List ℕ
parts_of (Tasks es) = 0 ∷ []
parts_of (Pool es) = 1 ∷ []
parts_of (Opener n) = 2 ∷ []
parts_of (Slot k es) = (2 * k + 3) ∷ []
parts_of (Session n rs) = (2 * n + 4) ∷ []
parts_of (Busy k es n rs a) = (2 * k + 3) ∷ (2 * n + 4) ∷ []
parts_of (Seen bs) = []

abbrev pub Has : Shape → Whole → Held → Type 0
Has sh z (Tasks es) = keep task_mark z.marks ≡ numbered 0 es
Has sh z (Pool es) = keep pool_mark z.marks ≡ numbered 0 es
Has sh z (Opener n) = z.sessions ≡ n
Has sh z (Slot k es) = (k < sh.slots) × (keep (slot_mark k) z.marks ≡ complete (numbered 0 es))
Has sh z (Session n rs) = (n < z.sessions) × (keep (told_mark n) z.marks ≡ complete rs)
Has sh z (Busy k es n rs a) =
    (k < sh.slots) × (n < z.sessions) × (keep (slot_mark k) z.marks ≡ awaiting (numbered 0 es))
    × (keep (told_mark n) z.marks ≡ awaiting rs) × Each (OpensAs k n a) z.marks
Has sh z (Seen bs) = IsFront bs (bys z.marks)

-- the parts of all that a seat has
abbrev pub flat : List Held → List ℕ
flat [] = []
flat (h ∷ hs) = parts_of h ++ flat hs

-- no number twice
abbrev pub Once : List ℕ → Type 0
Once [] = Unit {0}
Once (p ∷ ps) = Each (λ q. p ≢ q) ps × Once ps

-- the slots from k on, with their trails
abbrev pub held_from : ℕ → List (List SlotEntry) → List Held
held_from k [] = []
held_from k (es ∷ ess) = Slot k es ∷ held_from (k + 1) ess

-- the view of the first seat: all parts, and no session
abbrev pub all_parts : Shape → List Held
all_parts sh = Tasks [] ∷ Pool [] ∷ Opener 0 ∷ held_from 0 (replicate sh.slots [])

-- The rule: there is one order of all events so far. Each part is with one seat at most, and once, which has the part's trail as the order
-- has it; so is each session, with what it was told, in order. Each look-up agrees with the table at its place in the order, and
-- each word with the table at the end of it
abbrev pub Kept : Shape → List ℕ → List (List Held) → Type 0
Kept sh words views =
    (z : Whole) × (owner : ℕ → ℕ) × Each (IsWithin sh z.sessions) z.marks
    × ((by : ℕ) (v : List Held) → get_elem? views by ≡ some v → Each (λ h. Each (λ p. owner p ≡ by) (parts_of h) × Has sh z h) v)
    × IsNoted sh z words
    × ((by : ℕ) (v : List Held) → get_elem? views by ≡ some v → Once (flat v))

-- ---- what seats do

-- no part of one is of the other
abbrev pub AreApart : List Held → Held → Type 0
AreApart v h = Each (λ g. Each (λ p. Each (λ q. p ≢ q) (parts_of h)) (parts_of g)) v

-- what the seat has is enough to go on so, and no other part is touched
pub record IsSeatStep (sh : Shape) (f : Whole → Whole) (v w : List Held) : Type 0 where
  pub parts : flat w ≡ flat v
  pub within : (z : Whole) → Each (Has sh z) v → Each (IsWithin sh z.sessions) z.marks → Each (IsWithin sh (f z).sessions) (f z).marks
  pub tells : (z : Whole) → Each (Has sh z) v → Each (Has sh (f z)) w
  pub others : (z : Whole) (h : Held) → Each (Has sh z) v → AreApart v h → Has sh z h → Has sh (f z) h

-- no look-up is touched, and the table at the end of the order stays as it is
pub record IsQuiet (sh : Shape) (f : Whole → Whole) (v : List Held) : Type 0 where
  pub agrees : (z : Whole) → Each (Has sh z) v → Agree sh.nodes [] z.marks → Agree sh.nodes [] (f z).marks
  pub table : (z : Whole) → Each (Has sh z) v → table_of sh (f z) ≡ table_of sh z

-- no look-up is touched; the seat knows the table at the end of the order, and the step makes another of it
pub record Turns (sh : Shape) (f : Whole → Whole) (v : List Held) (t u : Table) : Type 0 where
  pub agrees : (z : Whole) → Each (Has sh z) v → Agree sh.nodes [] z.marks → Agree sh.nodes [] (f z).marks
  pub was : (z : Whole) → Each (Has sh z) v → table_of sh z ≡ t
  pub now : (z : Whole) → Each (Has sh z) v → table_of sh (f z) ≡ u

-- the table becomes another by this change
abbrev pub IsChange : Table → Table → Change → Type 0
IsChange t u Same = u ≡ t
IsChange t u (Came task home) = (home_of t task ≡ None) × (u ≡ added t task home)
IsChange t u (Gone task home) = (home_of t task ≡ Some home) × (u ≡ removed t task)

abbrev pub first_of_view : List Held → List Held
first_of_view [] = []
first_of_view (h ∷ hs) = h ∷ []

abbrev pub rest_of_view : List Held → List Held
rest_of_view [] = []
rest_of_view (h ∷ hs) = hs

-- the first can be given away
abbrev pub CanGo : List Held → Type 0
CanGo [] = ⊥
CanGo (h ∷ hs) = AreApart hs h

-- there is an order that has the trails and what the sessions were told so, and whose look-ups agree
abbrev pub Ends : Shape → List Held → Type 0
Ends sh v = (z : Whole) × Each (IsWithin sh z.sessions) z.marks × Each (Has sh z) v × Agree sh.nodes [] z.marks

-- ---- sessions

abbrev pub sessions_in : List Held → ℕ
sessions_in (Opener n ∷ hs) = n
sessions_in hs = 0

abbrev pub IsOpener : List Held → Type 0
IsOpener v = v ≡ Opener (sessions_in v) ∷ []

-- the opener has opened a session more
abbrev pub opened : List Held → List Held
opened (Opener n ∷ hs) = Opener (n + 1) ∷ hs
opened hs = hs

abbrev pub new_session : List Held → List Held
new_session (Opener n ∷ hs) = Session n [] ∷ []
new_session hs = []

abbrev pub number_in : List Held → ℕ
number_in [] = 0
number_in (Session n rs ∷ hs) = n
number_in (Busy k es n rs a ∷ hs) = n
number_in (h ∷ hs) = number_in hs

abbrev pub receipts_in : List Held → List Receipt
receipts_in [] = []
receipts_in (Session n rs ∷ hs) = rs
receipts_in (Busy k es n rs a ∷ hs) = rs
receipts_in (h ∷ hs) = receipts_in hs

-- a session alone
abbrev pub IsSession : List Held → Type 0
IsSession v = v ≡ Session (number_in v) (receipts_in v) ∷ []

-- a session that read this
abbrev pub looked : ℕ → Option ℕ → List Held → List Held
looked task None v = v
looked task (Some home) v = Session (number_in v) (receipts_in v ++ receipt_of (look_item task home (number_in v)) ∷ []) ∷ []

-- ---- what is seen of the order

-- this front begins with what the seat had seen
abbrev pub IsSeenIn : List ℕ → Held → Type 0
IsSeenIn bs (Seen fs) = IsFront fs bs
IsSeenIn bs (Tasks es) = Unit {0}
IsSeenIn bs (Pool es) = Unit {0}
IsSeenIn bs (Opener n) = Unit {0}
IsSeenIn bs (Slot k es) = Unit {0}
IsSeenIn bs (Session n rs) = Unit {0}
IsSeenIn bs (Busy k es n rs a) = Unit {0}

-- a session is first of what the seat has
abbrev pub IsFirst : List Held → Type 0
IsFirst v = v ≡ Session (number_in v) (receipts_in v) ∷ rest_of_view v

-- A session saw the whole order as it was then: of the events that it had made all stand there, and it begins with all that
-- the seat had seen
abbrev pub IsDated : List Held → List Held → Type 0
IsDated v w =
    (bs : List ℕ) × (w ≡ Session (number_in v) (receipts_in v) ∷ Seen bs ∷ [])
    × (made (number_in v) bs ≡ length (receipts_in v)) × Each (IsSeenIn bs) (rest_of_view v)

-- the last that was seen
abbrev pub seen_in : List Held → List ℕ
seen_in [] = []
seen_in (Seen bs ∷ hs) = bs
seen_in (h ∷ hs) = seen_in hs

abbrev pub front_of : List (List Held) → List Held
front_of [] = []
front_of (v ∷ vs) = v

-- a clock's seat has nothing but what was seen
pub record IsClockSeat (history id : TableId) (views : List (List Held)) : Type 0 where
  pub named : id ≡ history
  pub one : views ≡ (Seen (seen_in (front_of views)) ∷ []) ∷ []

abbrev pub AreClocks : List Held → Type 0
AreClocks [] = Unit {0}
AreClocks (h ∷ hs) = (parts_of h ≡ []) × AreClocks hs

-- a session that made so many events sees the order, which begins with all that was seen before: at that moment these and no
-- others of its events stand there
pub record IsDate (number : ℕ) (receipts : List Receipt) (was : List Held) (now : List ℕ) : Type 0 where
  pub made : made number now ≡ length receipts
  pub later : Each (IsSeenIn now) was

-- ---- time

-- where the event stands in the order that is so many behind the first of this session
abbrev pub place_in : (n at : ℕ) → List ℕ → ℕ
place_in n at [] = 0
place_in n zero (b ∷ bs) = if b == n then 0 else suc (place_in n zero bs)
place_in n (suc at) (b ∷ bs) = if b == n then suc (place_in n at bs) else suc (place_in n (suc at) bs)

-- Whatever front of the order was seen: what a session had made by then stands before what another has still to make
abbrev pub InTime : Type 0
InTime =
    (order seen : List ℕ) → IsFront seen order → (n at m to : ℕ) → at < made n seen → made m seen ≤ to → to < made m order
    → place_in n at order < place_in m to order

-- the shape of no history
abbrev pub no_shape : Shape
no_shape = record { slots = 0; nodes = 0; looks = false }
