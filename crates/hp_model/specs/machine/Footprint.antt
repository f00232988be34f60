-- What each step changes of the machine. All else is as it was, and in its order.
--
-- It is told here again, in other words than those that the events are made of: types and
-- look-ups are theirs, but no edit, no plan and no section is.
use Rattle.std.specs.Prelude.{◌≡◌, ◌⊎◌, ℕ, ◌+◌, ◌&&◌, ◌||◌, ◌==◌, Bool, true, false, not, Option, None, Some, option_map, Result, Ok, Err, List, [], ◌∷◌, ◌++◌}
use Rattle.std.specs.Prelude.{length, map, replicate, sum, min, take, drop, if◌then◌else◌, nat_le}
use Rattle.std.specs.Bool.{MatchBool}
use Rattle.std.specs.List.{filter}
use Rattle.hp_model.specs.declared.answer.Answer.{Answer}
use Rattle.hp_model.specs.declared.answer.Answer.TheVariants.{MapNo}
use Rattle.hp_model.specs.declared.cell.Cell.{Cell}
use Rattle.hp_model.specs.declared.cell.Cell.TheVariants.{Present}
use Rattle.hp_model.specs.declared.place.Place.{Place}
use Rattle.hp_model.specs.declared.place.Place.TheVariants.{Gone, Live}
use Rattle.hp_model.specs.declared.refusal.Refusal.{Refusal}
use Rattle.hp_model.specs.declared.refusal.Refusal.TheVariants.{OutOfMemory}
use Rattle.hp_model.specs.declared.limits.Limits.{Limits}
use Rattle.hp_model.specs.declared.step.Intent.{Intent}
use Rattle.hp_model.specs.declared.step.Intent.TheVariants.{Read, Write}
use Rattle.hp_model.specs.declared.step.Reserving.{Reserving}
use Rattle.hp_model.specs.declared.step.Sharing.{Sharing}
use Rattle.hp_model.specs.declared.step.Step.{Step}
use Rattle.hp_model.specs.declared.step.Step.TheVariants.{Anon, Connect, Create, Exit, Fault, Fork, Load, Map as MapStep, Mount as MountStep, Nr, Overcommit}
use Rattle.hp_model.specs.declared.step.Step.TheVariants.{Preallocate, Punch, Remount, Store, Truncate, Umount, Unlink, Unmap}
use Rattle.hp_model.specs.files.CopyWrite.{holds, is_held_once}
use Rattle.hp_model.specs.files.File.{File, Mount, at_least, cell_at, cell_punched, cells_to, entered, has_page, with_cell, with_file, with_map}
use Rattle.hp_model.specs.files.GiveBack.{is_kept}
use Rattle.hp_model.specs.files.MakeMap.{reserves}
use Rattle.hp_model.specs.files.Mapping.{Map, copy_of, is_map, is_mapped, is_of, is_shared, place_at, unconsumed, with_place, without_copy}
use Rattle.hp_model.specs.files.Options.{limits, wanted_of}
use Rattle.hp_model.specs.files.Page.{Copy, Page, zeros}
use Rattle.hp_model.specs.files.Spot.{Spot, spot}
use Rattle.hp_model.specs.files.Value.{value}
use Rattle.hp_model.specs.Lists.{is_among}
use Rattle.hp_model.specs.machine.Event.{has_maps_of, stamps_in}
use Rattle.hp_model.specs.machine.Machine.{committed_pages, pool_of, used_at}
use Rattle.hp_model.specs.machine.Named.{is_in}
use Rattle.hp_model.specs.machine.Plan.{Reply, Slot}
use Rattle.hp_model.specs.machine.Short.{can_have_page}
use Rattle.hp_model.specs.machine.SlotEvent.{file_named}
use Rattle.hp_model.specs.machine.State.{Node, State, slot_at, with_slot}
use Rattle.hp_model.specs.machine.Table.{home_of, is_known}

-- ---- words

-- it is there, and this holds of it
abbrev pub There : {X : Type 0} → Option X → (X → Type 0) → Type 0
There None P = ⊥
There (Some x) P = P x

-- each element changed so, by its index, of which the first is i
abbrev pub at_each : {X : Type 0} → (ℕ → X → X) → ℕ → List X → List X
at_each f i [] = []
at_each f i (x ∷ xs) = f i x ∷ at_each f (i + 1) xs

abbrev pub frames_in : State → List ℕ
frames_in s = map (λ (n : Node). n.frames) s.nodes

-- t is u, but for the node that each free page and each page of surplus is on
abbrev pub IsButNodes : (u t : State) → Type 0
IsButNodes u t =
    (t ≡ record u { nodes = t.nodes; growth = t.growth; release = t.release })
    × (frames_in t ≡ frames_in u)

-- s with this mount on the slot, where it is mounted, is t
abbrev pub LeavesMount : State → (k : ℕ) → Mount → State → Type 0
LeavesMount s k m t = IsButNodes (with_slot s k (Some m)) t

-- the file at this place is another, or gone, where nobody has it
abbrev pub with_edit : Mount → ℕ → File → Mount
with_edit m k f = record m { files = filter is_kept (with_file m k f).files }

-- each file has these of its maps, and is gone where nobody has it
abbrev pub with_maps : (List Map → List Map) → Mount → Mount
with_maps f m =
    record m { files = filter is_kept (map (λ (x : File). record x { maps = f x.maps }) m.files) }

abbrev pub with_places : (ℕ → Place Copy → Place Copy) → Map → Map
with_places f m = record m { places = at_each f m.start m.places }

-- the file and its maps have no page at these indices
abbrev pub cut_out : (ℕ → Bool) → File → File
cut_out test f =
    record f {
      cells = at_each (λ i c. if test i then cell_punched c else c) 0 f.cells;
      maps = map (with_places (λ i p. if test i then without_copy p else p)) f.maps;
    }

-- and it has this length
abbrev pub cut_from : (n : ℕ) → File → File
cut_from n f = cut_out (nat_le n) (record f { cells = cells_to n f.cells })

-- ---- making and ending

-- the file reaches to b, and is entered from a on
abbrev pub entered_to : (a b : ℕ) → File → File
entered_to a b f =
    record f {
      cells = at_each (λ i c. if is_in a b i then entered c else c) 0 (at_least b f.cells);
    }

-- and that only by a shared map that reserves
abbrev pub reaching : (a n : ℕ) → Sharing → Reserving → File → File
reaching a n sharing reserving f =
    if is_shared sharing && reserves reserving then entered_to a (a + n) f
    else record f { cells = at_least (a + n) f.cells }

abbrev pub map_made : (task number a n : ℕ) → Sharing → Reserving → Map
map_made task number a n sharing reserving =
    record {
      task = task;
      number = number;
      start = a;
      sharing = sharing;
      owner = not (is_shared sharing) && reserves reserving;
      unmapped = false;
      places = replicate n (Live false None);
    }

-- the file has one map more, the last, and reaches as far as that needs
abbrev pub with_map_made : (task number a n : ℕ) → Sharing → Reserving → File → File
with_map_made task number a n sharing reserving f =
    record (reaching a n sharing reserving f) {
      maps = f.maps ++ map_made task number a n sharing reserving ∷ [];
    }

-- each index of the range that has no page has one of zeros, and the file reaches to its end
abbrev pub with_pages_there : (size a b : ℕ) → (node : ℕ → ℕ) → File → File
with_pages_there size a b node f =
    record f {
      cells =
          at_each (λ i c. if is_in a b i && not (has_page c)
          then Present (record { node = node i; bytes = zeros size })
          else c) 0 (at_least b f.cells);
    }

-- the answer is a number that the task had for no map, and this follows
abbrev pub IsNewNumber : Mount → (task : ℕ) → Answer → (ℕ → Type 0) → Type 0
IsNewNumber m task (MapNo number) P = (spot m (is_map task number) ≡ None) × P number
IsNewNumber m task other P = ⊥

-- the map of this number without these indices, and without the map where that was all
abbrev pub unmapped : (task number a b : ℕ) → List Map → List Map
unmapped task number a b maps =
    filter (λ m. is_mapped m || not (is_map task number m))
    (map (λ m. if is_map task number m
    then with_places (λ i p. if is_in a b i then Gone else p) m
    else m) maps)

abbrev pub of_others : (task : ℕ) → List Map → List Map
of_others task maps = filter (λ m. not (is_of task m)) maps

-- the child's map by the same number: it owns nothing
abbrev pub childs : ℕ → Map → Map
childs child m = record m { task = child; owner = false; places = map unconsumed m.places }

abbrev pub with_childs : (parent child : ℕ) → List Map → List Map
with_childs parent child maps =
    of_others child maps ++ map (childs child) (filter (is_of parent) maps)

-- the slots on which the task has a map change so
abbrev pub where_mapped : (task : ℕ) → (Mount → Mount) → List Slot → List Slot
where_mapped task f slots =
    map (λ slot. if has_maps_of task slot then option_map f slot else slot) slots

-- ---- accesses: w is what becomes of the bytes there

-- the page that was there, or where there was none one of zeros
abbrev pub IsFileAccess : (size : ℕ) → Cell Page → (w : List ℕ → List ℕ) → Page → Type 0
IsFileAccess size (Present old) w page = page ≡ record old { bytes = w old.bytes }
IsFileAccess size other w page = page.bytes ≡ w (zeros size)

-- a reservation of the owner is spent on the first copy
abbrev pub is_spent : Map → Place Copy → Bool
is_spent m Gone = false
is_spent m (Live consumed None) = m.owner || consumed
is_spent m (Live consumed (Some copy)) = consumed

-- the copy with other bytes
abbrev pub with_bytes : (List ℕ → List ℕ) → Copy → Copy
with_bytes w c = record c { page = record c.page { bytes = w c.page.bytes } }

abbrev pub with_copy_there : Spot → ℕ → Copy → Map
with_copy_there p i c =
    with_place p.map i (Live (is_spent p.map (place_at p.map i)) (Some c))

-- the mount whose named map has this copy there
abbrev pub with_own : Mount → Spot → ℕ → Copy → Mount
with_own m p i c = with_file m p.file_no (with_map p.file p.map_no (with_copy_there p i c))

-- a map that holds the copy there loses it, and is marked
abbrev pub losing : (stamp i : ℕ) → Map → Map
losing stamp i m =
    if holds stamp (place_at m i)
    then record (with_places (λ j p. if j == i then without_copy p else p) m) { unmapped = true }
    else m

-- the map's own copy, that no other holds; it takes no page
abbrev pub HasOwnCopy : State → (k : ℕ) → Mount → Spot → (i : ℕ)
    → (w : List ℕ → List ℕ) → Copy → State → Type 0
HasOwnCopy s k m p i w c t = t ≡ with_slot s k (Some (with_own m p i (with_bytes w c)))

-- a new copy of what the map showed, for that map and index alone
abbrev pub HasNewCopy : State → (k : ℕ) → Mount → Spot → (i : ℕ)
    → (w : List ℕ → List ℕ) → State → Type 0
HasNewCopy s k m p i w t =
    (c : Copy) × (is_among c.stamp (stamps_in (Some m)) ≡ false)
    × (c.page.bytes ≡ w (value s.page_size p.file p.map i)) × LeavesMount s k (with_own m p i c) t

-- the owner keeps the copy, where no page is to be had, and all others lose it
abbrev pub TakesBack : State → (k : ℕ) → Mount → Spot → (i : ℕ)
    → (w : List ℕ → List ℕ) → Copy → State → Type 0
TakesBack s k m p i w c t =
    (p.map.owner ≡ true) × (can_have_page (pool_of s) (Some m) ≡ false)
    × (t ≡ with_slot s k (Some (with_file m p.file_no (record p.file {
      maps =
          at_each (λ j x. if j == p.map_no
          then with_copy_there p i (with_bytes w c)
          else losing c.stamp i x) 0 p.file.maps;
    }))))

abbrev pub IsCopyAccess : State → (k : ℕ) → Mount → Spot → (i : ℕ) → Intent
    → (w : List ℕ → List ℕ) → Option Copy → State → Type 0
IsCopyAccess s k m p i Read w (Some c) t = t ≡ s
IsCopyAccess s k m p i Read w None t =
    MatchBool (has_page (cell_at p.file i)) (t ≡ s) (HasNewCopy s k m p i w t)
IsCopyAccess s k m p i Write w None t = HasNewCopy s k m p i w t
IsCopyAccess s k m p i Write w (Some c) t =
    MatchBool (is_held_once p.file c.stamp)
    (HasOwnCopy s k m p i w c t)
    (HasNewCopy s k m p i w t ⊎ TakesBack s k m p i w c t)

-- the file has the page there; where it had one, no page is taken
abbrev pub IsSharedAccess : State → (k : ℕ) → Mount → Spot → (i : ℕ)
    → (w : List ℕ → List ℕ) → State → Type 0
IsSharedAccess s k m p i w t =
    (page : Page) × IsFileAccess s.page_size (cell_at p.file i) w page
    × LeavesMount s k (with_file m p.file_no (with_cell p.file i (Present page))) t
    × (has_page (cell_at p.file i) ≡ true → t ≡ record s { slots = t.slots })

abbrev pub IsAccess : State → (k task number i : ℕ) → Intent
    → (w : List ℕ → List ℕ) → State → Type 0
IsAccess s k task number i intent w t =
    There (slot_at s k) (λ m. There (spot m (is_map task number)) (λ p.
    MatchBool (is_shared p.map.sharing)
    (IsSharedAccess s k m p i w t)
    (IsCopyAccess s k m p i intent w (copy_of (place_at p.map i)) t)))

-- the bytes with others over them from the offset on
abbrev pub over : (offset : ℕ) → (bytes old : List ℕ) → List ℕ
over offset bytes old = take offset old ++ bytes ++ drop (offset + length bytes) old

-- ---- the table of steps

-- of the limits, if there are such
abbrev pub IsOfLimits : Result Limits Refusal → (Limits → Type 0) → Type 0
IsOfLimits (Ok l) P = P l
IsOfLimits (Err r) P = ⊥

-- the limits that the options of a mount mean
abbrev pub WithLimits : State → List ℕ → (Limits → Type 0) → Type 0
WithLimits s options P = IsOfLimits (limits s.nr s.page_size (wanted_of options)) P

abbrev pub OnFile : State → (k : ℕ) → List ℕ → (Mount → ℕ × File → Type 0) → Type 0
OnFile s k name P = There (slot_at s k) (λ m. There (file_named m name) (P m))

-- a step that is answered changes this, and nothing else
abbrev pub Changes : State → Step → Answer → State → Type 0
Changes s (Connect task home) a t = t ≡ record s { table = s.table ++ (task, home) ∷ [] }
Changes s (Fork parent child) a t =
    There (home_of s.table parent) (λ home. IsButNodes (record s {
      table = s.table ++ (child, home) ∷ [];
      slots = where_mapped parent (with_maps (with_childs parent child)) s.slots;
    }) t)
Changes s (Exit task) a t =
    IsButNodes (record s {
      table = filter (λ (e : ℕ × ℕ). not (e.0 == task)) s.table;
      slots = where_mapped task (with_maps (of_others task)) s.slots;
    }) t
Changes s (Nr n) a t = IsButNodes (record s { nr = min n (sum (frames_in s)) }) t
Changes s (Overcommit n) a t = t ≡ record s { overcommit = n }
Changes s (MountStep k options) a t =
    (slot_at s k ≡ None)
    × WithLimits s options (λ l. LeavesMount s k (record { limits = l; files = [] }) t)
Changes s (Remount k options) a t =
    There (slot_at s k)
    (λ m. WithLimits s options (λ l. LeavesMount s k (record m { limits = l }) t))
Changes s (Umount k) a t = IsButNodes (with_slot s k None) t
Changes s (Create k name) a t =
    There (slot_at s k) (λ m. t ≡ with_slot s k (Some (record m {
      files = m.files ++ record { name = Some name; cells = []; maps = [] } ∷ [];
    })))
Changes s (Unlink k name) a t =
    OnFile s k name (λ m f. LeavesMount s k (with_edit m f.0 (record f.1 { name = None })) t)
Changes s (Truncate k name n) a t =
    OnFile s k name (λ m f. LeavesMount s k (with_edit m f.0 (cut_from n f.1)) t)
Changes s (Punch k name a b) answer t =
    OnFile s k name (λ m f. LeavesMount s k (with_edit m f.0 (cut_out (is_in a b) f.1)) t)
Changes s (Preallocate k name a b) answer t =
    OnFile s k name (λ m f. (node : ℕ → ℕ)
    × LeavesMount s k (with_file m f.0 (with_pages_there s.page_size a b node f.1)) t)
Changes s (MapStep task k name a n sharing reserving) answer t =
    OnFile s k name (λ m f. IsNewNumber m task answer (λ number.
    LeavesMount s k (with_file m f.0 (with_map_made task number a n sharing reserving f.1)) t))
Changes s (Anon task n sharing reserving) answer t =
    There (slot_at s 0) (λ m. IsNewNumber m task answer (λ number. LeavesMount s 0 (record m {
      files = m.files ++ with_map_made task number 0 n sharing reserving
          (record { name = None; cells = []; maps = [] }) ∷ [];
    }) t))
Changes s (Unmap task k number a b) answer t =
    There (slot_at s k) (λ m. LeavesMount s k (with_maps (unmapped task number a b) m) t)
Changes s (Fault task k number i intent) a t =
    IsAccess s k task number i intent (λ old. old) t
Changes s (Load task k number i offset count) a t =
    IsAccess s k task number i Read (λ old. old) t
Changes s (Store task k number i offset bytes) a t =
    IsAccess s k task number i Write (over offset bytes) t
Changes s step a t = t ≡ s

-- a refused step changes nothing, but for two: a mount that is refused memory after its grant,
-- and a fork of maps that stood under the number of a child that was no task
abbrev pub ChangesRefused : State → Step → Refusal → State → Type 0
ChangesRefused s (MountStep k options) OutOfMemory t = IsButNodes s t
ChangesRefused s (Fork parent child) r t =
    MatchBool (is_known s.table child) (t ≡ s)
    ((done : ℕ → Bool) × IsButNodes (record s {
      slots =
          at_each (λ k slot. if done k
          then option_map (with_maps (of_others child)) slot
          else slot) 0 s.slots;
    }) t)
ChangesRefused s step r t = t ≡ s

-- where as much is committed, and in use at each node, as was, no page has come or gone at a node
abbrev pub KeepsNodes : (s t : State) → Type 0
KeepsNodes s t =
    t.nr ≡ s.nr → committed_pages t ≡ committed_pages s
    → ((n : ℕ) → used_at n t ≡ used_at n s) → t.nodes ≡ s.nodes

abbrev pub HasFootprint : State → Step → Reply → State → Type 0
HasFootprint s step (Ok a) t = Changes s step a t × KeepsNodes s t
HasFootprint s step (Err r) t = ChangesRefused s step r t
