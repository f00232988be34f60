-- One walk over the events of an open mount: what holds of the plan of each change holds of the plan of each event.
use Rattle.std.proofs.Common.{arith, ◌≡◌, ℕ, Bool, true, false, Option, None, Some, is_some, List, [], ◌∷◌, ◌||◌, length, nat_lt}
use Rattle.std.proofs.lemmas.Grind.{common_steps}
use Rattle.std.proofs.lemmas.Bool.{cond_both}
use Rattle.hp_laws.proofs.Variants.{Answer, Done, Intent, MapNo, NoSuchFile, NoSuchMap, Refusal, Reserving, Sharing, SlotEvent}
use Rattle.hp_model.specs.declared.event.SlotEvent.TheVariants as slot
use Rattle.hp_model.proofs.Words.{Answered, Ask, Choice, File, Finish, Mount, Plan, Spot, are_too_many_maps, asked, bytes_answer, edited, fault, file_named, fill, forked, gives, grant, is_map, limits}
use Rattle.hp_model.proofs.Words.{load, mapped, maps_of, most_bytes, most_map_pages, most_maps, most_tasks, new_file, next_number, on_mount, punched, refuse, remount_outcome, remount_section, spot}
use Rattle.hp_model.proofs.Words.{store, tasks_of, truncated, unless, unlinked, unmapped_from, wanted_of, with_file, with_new, with_value, without_task}

-- ---- tests and what is found

module _ (W : Plan → Type 0) (refuses : (r : Refusal) → W (refuse r)) where
  pub plan_unless : (ts : List (Bool × Refusal)) (p : Plan) → W p → W (unless ts p)
  plan_unless [] p h = h
  plan_unless (t ∷ ts) p h = cond_both t.0 (refuse t.1) (unless ts p) W (λ e. refuses t.1) (λ e. plan_unless ts p h)

  pub plan_value : {X : Type 0} (o : Option X) (r : Refusal) (f : X → Plan) → ((x : X) → o ≡ Some x → W (f x)) → W (with_value o r f)
  plan_value o r f h = grind arith

-- ---- events

-- a remount, its tests passed
abbrev pub remounting : (size : ℕ) → Mount → List ℕ → Plan
remounting size m text = Ask (λ nr. remount_section m (limits nr size (wanted_of text))) (λ a. remount_outcome m a (limits a.nr size (wanted_of text)))

-- it ends the mount, or sets its limits
abbrev pub relimits : SlotEvent → Bool
relimits (slot.Remount options) = true
relimits slot.Umount = true
relimits other = false

-- it answers numbers or names as they stand
abbrev pub tells_all : SlotEvent → Bool
tells_all slot.Df = true
tells_all slot.Ls = true
tells_all (slot.Stat name) = true
tells_all other = false

-- no test of a map's making stops it for the number of maps, or for their size
abbrev pub AreFewMaps : Mount → ℕ → ℕ → Type 0
AreFewMaps m task n = (nat_lt most_map_pages n || are_too_many_maps m task) ≡ false

both_parts : (a b c : Bool) → (a || b || c) ≡ false → (a || b) ≡ false
both_parts a b c e = grind arith

-- nor a fork's
abbrev pub ForksFewMaps : Mount → (parent child : ℕ) → Type 0
ForksFewMaps m parent child = (nat_lt most_maps (length (maps_of (forked parent child m))) || nat_lt most_tasks (length (tasks_of (forked parent child m)))) ≡ false

module _ (size k : ℕ) (c : Choice) (m : Mount) (W : SlotEvent → Plan → Type 0) where
  -- of what each event comes to, its tests passed
  pub record Walks : Type 0 where
    pub refuses : (e : SlotEvent) (r : Refusal) → W e (refuse r)
    pub whole : (name : List ℕ) (a b : ℕ) (q : ℕ × File) → file_named m name ≡ Some q → W (slot.Preallocate name a b) (Finish (Answered Done (Some m)))
    pub tells : (e : SlotEvent) (a : Answer) → tells_all e ≡ true → W e (Finish (Answered a (Some m)))
    pub reads : (name : List ℕ) (i offset count : ℕ) (bytes : List ℕ) → nat_lt most_bytes count ≡ false
        → W (slot.Read name i offset count) (Finish (Answered (bytes_answer offset count bytes) (Some m)))
    pub creates : (name : List ℕ) → is_some (file_named m name) ≡ false → W (slot.Create name) (Finish (Answered Done (Some (with_new m (new_file (Some name))))))
    pub unlinks : (name : List ℕ) (q : ℕ × File) → file_named m name ≡ Some q → W (slot.Unlink name) (gives Done (Some m) (edited m q.0 (unlinked q.1)))
    pub truncates : (name : List ℕ) (n : ℕ) (q : ℕ × File) → file_named m name ≡ Some q → W (slot.Truncate name n) (gives Done (Some m) (edited m q.0 (truncated n q.1)))
    pub punches : (name : List ℕ) (a b : ℕ) (q : ℕ × File) → file_named m name ≡ Some q → W (slot.Punch name a b) (gives Done (Some m) (edited m q.0 (punched a b q.1)))
    pub fills : (name : List ℕ) (a b : ℕ) (q : ℕ × File) → file_named m name ≡ Some q → W (slot.Preallocate name a b) (fill c size m a b q)
    pub maps : (task home : ℕ) (name : List ℕ) (a n : ℕ) (sharing : Sharing) (reserving : Reserving) (q : ℕ × File) → file_named m name ≡ Some q → AreFewMaps m task n
        → W (slot.Map task home name a n sharing reserving)
        (grant c m home (asked sharing reserving a n q.1)
        (Answered (MapNo (next_number task m)) (Some (with_file m q.0 (mapped task (next_number task m) a n sharing reserving q.1)))))
    pub anons : (task home n : ℕ) (sharing : Sharing) (reserving : Reserving) → AreFewMaps m task n
        → W (slot.Anon task home n sharing reserving)
        (grant c m home (asked sharing reserving 0 n (new_file None))
        (Answered (MapNo (next_number task m)) (Some (with_new m (mapped task (next_number task m) 0 n sharing reserving (new_file None))))))
    pub unmaps : (task number a b : ℕ) → W (slot.Unmap task number a b) (gives Done (Some m) (Some (unmapped_from task number a b m)))
    pub forks : (parent child : ℕ) → ForksFewMaps m parent child → W (slot.ForkMaps parent child) (gives Done (Some m) (Some (forked parent child m)))
    pub exits : (task : ℕ) → W (slot.ExitMaps task) (gives Done (Some m) (Some (without_task task m)))
    pub faults : (task number : ℕ) (s : Spot) → spot m (is_map task number) ≡ Some s → (home i : ℕ) (intent : Intent) → W (slot.Fault task home number i intent) (fault c size m home i intent s)
    pub loads : (task number : ℕ) (s : Spot) → spot m (is_map task number) ≡ Some s → (home i offset count : ℕ) → W (slot.Load task home number i offset count) (load c size m home i offset count s)
    pub stores : (task number : ℕ) (s : Spot) → spot m (is_map task number) ≡ Some s → (home i offset : ℕ) (bytes : List ℕ)
        → W (slot.Store task home number i offset bytes) (store c size m home i offset bytes s)

  module _ (walks : Walks) where
    tested : (e : SlotEvent) (ts : List (Bool × Refusal)) (p : Plan) → W e p → W e (unless ts p)
    tested e ts p h = plan_unless (W e) (walks.refuses e) ts p h

    -- what holds where the first test stops nothing
    passed : (e : SlotEvent) (b : Bool) (r : Refusal) (p : Plan) → (b ≡ false → W e p) → W e (unless ((b, r) ∷ []) p)
    passed e b r p h = cond_both b (refuse r) p (W e) (λ on. walks.refuses e r) h

    of_file : (e : SlotEvent) (name : List ℕ) (f : ℕ × File → Plan) → ((q : ℕ × File) → file_named m name ≡ Some q → W e (f q)) → W e (with_value (file_named m name) NoSuchFile f)
    of_file e name f h = plan_value (W e) (walks.refuses e) (file_named m name) NoSuchFile f h

    of_map : (e : SlotEvent) (task number : ℕ) (f : Spot → Plan) → ((s : Spot) → spot m (is_map task number) ≡ Some s → W e (f s)) → W e (with_value (spot m (is_map task number)) NoSuchMap f)
    of_map e task number f h = plan_value (W e) (walks.refuses e) (spot m (is_map task number)) NoSuchMap f h

    -- so it is of each event but a remount and an umount
    pub walk : (e : SlotEvent) → relimits e ≡ false → W e (on_mount size k c m e)
    walk slot.Umount stays = cc
    walk (slot.Anon task home n sharing reserving) stays = grind (arith, tested, cond_both, both_parts)
    walk (slot.Preallocate name a b) stays = grind (arith, common_steps, of_file, tested, cond_both)
    walk e stays = grind (arith, of_file, of_map, tested, passed)

    -- and of these too, where it is of setting limits and of giving all back
    pub walk_all : ((options : List ℕ) → W (slot.Remount options) (remounting size m options)) → W slot.Umount (gives Done (Some m) None) → (e : SlotEvent) → W e (on_mount size k c m e)
    walk_all remounts none e = grind (arith, tested, walk)
