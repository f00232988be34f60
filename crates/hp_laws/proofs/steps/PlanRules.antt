-- What each way of making a plan has, the plan of each event has: one walk over the accesses and the events of a mount.
use Rattle.std.proofs.Common.{arith, ℕ, ◌&&◌, ◌==◌, Bool, true, not, None, Some, List, [], ◌∷◌, length, if◌then◌else◌, sum}
use Rattle.std.proofs.lemmas.Bool.{cond_both}
use Rattle.hp_laws.proofs.Variants.{Answer, Cell, Done, Entered, FillPages, GiveBack, Grant, GrantPage, Hole, Intent, Live, MapNo, MountFull, OutOfMemory, Place, Present, Read, Refusal, SlotEvent}
use Rattle.hp_laws.proofs.Variants.{TakePage, Write}
use Rattle.hp_model.proofs.Words.{Answered, Ask, Choice, Copy, Finish, Mount, Outcome, Page, Plan, Refused, Slot, Spot, access, again, and_then, asked, byte_access, byte_tests, bytes_answer}
use Rattle.hp_model.proofs.Words.{copy_write, edited, fall_of, fault_tests, forked, gives, grant, grant_page, is_full, is_held_once, lacking, mapped, new_copy, new_file, next_number, on_mount}
use Rattle.hp_model.proofs.Words.{owner_write, preallocated, private_access, punched, puts_of, range_filled, reserved_page, rise, rising_nodes, shared_access, taken_back, truncated, uncopied_access}
use Rattle.hp_model.proofs.Words.{unentered, unless, unlinked, unmapped_from, value, when_granted, with_cell, with_file, with_map, with_new, with_place, without_task, written, zeros}
use Rattle.hp_laws.proofs.steps.Walk.{Walks, plan_unless, remounting, walk_all}

module _ (W : Plan → Type 0) where
  pub record PlanRules : Type 0 where
    pub done : (o : Outcome) → W (Finish o)
    pub grants : (home k : ℕ) (a : Answer) (s : Slot) → W (Ask (λ nr. Grant home k) (when_granted (Answered a s)))
    pub pages : (home k : ℕ) (n : ℕ → Slot) → W (Ask (λ nr. GrantPage home k) (λ a. when_granted (Answered Done (n a.node)) a))
    pub pages_or : (home k : ℕ) (n : ℕ → Slot) (other : Slot) → W (Ask (λ nr. GrantPage home k) (λ a. if a.granted then Answered Done (n a.node) else Answered Done other))
    pub takes : (home : ℕ) (n : ℕ → Slot) → W (Ask (λ nr. TakePage home) (λ a. Answered Done (n a.node)))
    pub fills : (k n : ℕ) (next : List ℕ → Slot) → W (Ask (λ nr. FillPages k n) (λ a. when_granted (Answered Done (next a.pages)) a))
    pub puts : (pages : List ℕ) (k : ℕ) (a : Answer) (s : Slot) → W (Ask (λ nr. GiveBack pages k) (λ answer. Answered a s))
    pub remounts : (size : ℕ) (m : Mount) (options : List ℕ) → W (remounting size m options)
    pub follows : (answer : Mount → Answer) (h : Mount → Mount) (p : Plan) → W p → W (and_then (λ m. Answered (answer m) (Some (h m))) p)

  module _ (rules : PlanRules) where
    tested : (ts : List (Bool × Refusal)) (p : Plan) → W p → W (unless ts p)
    tested ts p h = plan_unless W (λ r. rules.done (Refused r)) ts p h

    either : (b : Bool) (p q : Plan) → W p → W q → W (if b then p else q)
    either b p q h k = cond_both b p q W (λ e. h) (λ e. k)

    pub plan_gives : (a : Answer) (old new : Slot) → W (gives a old new)
    plan_gives a old new =
        either ((sum (puts_of old new) == 0) && (fall_of old new == 0)) (Finish (Answered a new)) (Ask (λ nr. GiveBack (puts_of old new) (fall_of old new)) (λ answer. Answered a new))
        (rules.done (Answered a new)) (rules.puts (puts_of old new) (fall_of old new) a new)

    plan_grant : (c : Choice) (m : Mount) (home k : ℕ) (a : Answer) (s : Slot) → W (grant c m home k (Answered a s))
    plan_grant c m home k a s =
        tested ((is_full m k, MountFull) ∷ (c.refused, OutOfMemory) ∷ []) (if rise m k == 0 then Finish (Answered a s) else Ask (λ nr. Grant home (rise m k)) (when_granted (Answered a s)))
        (either (rise m k == 0) (Finish (Answered a s)) (Ask (λ nr. Grant home (rise m k)) (when_granted (Answered a s))) (rules.done (Answered a s)) (rules.grants home (rise m k) a s))

    plan_page : (c : Choice) (m : Mount) (home : ℕ) (n : ℕ → Slot) → W (grant_page c m home (λ node. Answered Done (n node)))
    plan_page c m home n =
        tested ((is_full m 1, MountFull) ∷ (c.refused, OutOfMemory) ∷ []) (Ask (λ nr. GrantPage home (rise m 1)) (λ a. when_granted (Answered Done (n a.node)) a)) (rules.pages home (rise m 1) n)

    plan_reserved : (home : ℕ) (n : ℕ → Slot) → W (reserved_page home (λ node. Answered Done (n node)))
    plan_reserved home n = rules.takes home n

    -- ---- accesses

    module _ (c : Choice) (size : ℕ) (m : Mount) (s : Spot) (home i : ℕ) where
      -- the mount with this page in the file, and with this copy in the map
      abbrev with_page : Page → Slot
      with_page page = Some (with_file m s.file_no (with_cell s.file i (Present page)))

      abbrev with_copy : Bool → Copy → Slot
      with_copy consumed copy = Some (with_file m s.file_no (with_map s.file s.map_no (with_place s.map i (Live consumed (Some copy)))))

      plan_shared : (cell : Cell Page) → W (shared_access c size m s home i cell)
      plan_shared (Present page) = rules.done (Answered Done (Some m))
      plan_shared Entered = plan_reserved home (λ node. with_page (record { node = node; bytes = zeros size }))
      plan_shared Hole = plan_page c m home (λ node. with_page (record { node = node; bytes = zeros size }))

      plan_new : (consumed : Bool) → W (new_copy c size m s home i consumed)
      plan_new consumed =
          let fresh : ℕ → Copy = λ node. record { stamp = c.stamp; page = record { node = node; bytes = value size s.file s.map i } } in
          either (s.map.owner && not consumed) _ _ (plan_reserved home (λ node. with_copy true (fresh node))) (plan_page c m home (λ node. with_copy consumed (fresh node)))

      plan_uncopied : (consumed : Bool) (intent : Intent) → W (uncopied_access c size m s home i consumed intent)
      plan_uncopied consumed intent = grind (arith, plan_new, either)

      plan_owner : (stamp : ℕ) (n : ℕ → Slot) → W (owner_write m s home stamp (λ node. Answered Done (n node)))
      plan_owner stamp n =
          either (is_full m 1) (Finish (taken_back m s stamp)) (Ask (λ nr. GrantPage home (rise m 1)) (λ a. if a.granted then Answered Done (n a.node) else taken_back m s stamp))
          (rules.done (taken_back m s stamp)) (rules.pages_or home (rise m 1) n _)

      plan_copy : (consumed : Bool) (copy : Copy) → W (copy_write c m s home i consumed copy)
      plan_copy consumed copy =
          let own : ℕ → Slot = λ node. with_copy consumed (record { stamp = c.stamp; page = record { node = node; bytes = copy.page.bytes } }) in
          let owns : Plan = owner_write m s home copy.stamp (λ node. Answered Done (own node)) in
          let asks : Plan = grant_page c m home (λ node. Answered Done (own node)) in
          either (is_held_once s.file copy.stamp) (Finish (Answered Done (Some m))) (if s.map.owner then owns else asks) (rules.done (Answered Done (Some m)))
          (either s.map.owner owns asks (plan_owner copy.stamp own) (plan_page c m home own))

      plan_private : (p : Place Copy) (intent : Intent) → W (private_access c size m s home i p intent)
      plan_private p intent = grind (arith, plan_copy, either, plan_uncopied)

      plan_access : (intent : Intent) → W (access c size m s home i intent)
      plan_access intent = grind (arith, either, plan_shared, plan_private)

      plan_bytes : (offset count : ℕ) (intent : Intent) → W (byte_access c size m home i offset count intent s)
      plan_bytes offset count intent = tested (byte_tests size i offset count s) (access c size m s home i intent) (plan_access intent)

    -- ---- events

    plan_walks : (size k : ℕ) (c : Choice) (m : Mount) → Walks size k c m (λ e. W)
    plan_walks size k c m = record {
      refuses = λ e r. rules.done (Refused r);
      whole = λ name a b q is. rules.done (Answered Done (Some m));
      tells = λ e a yes. rules.done (Answered a (Some m));
      reads = λ name i offset count bytes few. rules.done (Answered (bytes_answer offset count bytes) (Some m));
      creates = λ name new. rules.done (Answered Done (Some (with_new m (new_file (Some name)))));
      unlinks = λ name q at. plan_gives Done (Some m) (edited m q.0 (unlinked q.1));
      truncates = λ name n q at. plan_gives Done (Some m) (edited m q.0 (truncated n q.1));
      punches = λ name a b q at. plan_gives Done (Some m) (edited m q.0 (punched a b q.1));
      fills = λ name a b q at.
          tested ((is_full m (unentered a b q.1), MountFull) ∷ (c.refused, OutOfMemory) ∷ [])
          (Ask (λ nr. FillPages (rise m (unentered a b q.1)) (lacking a b q.1)) (preallocated size m a b q))
          (rules.fills (rise m (unentered a b q.1)) (lacking a b q.1) (λ pages. Some (with_file m q.0 (range_filled size a b (rising_nodes (lacking a b q.1) pages) q.1))));
      maps = λ task home name a n sharing reserving q at few.
          plan_grant c m home (asked sharing reserving a n q.1) (MapNo (next_number task m)) (Some (with_file m q.0 (mapped task (next_number task m) a n sharing reserving q.1)));
      anons = λ task home n sharing reserving few.
          plan_grant c m home (asked sharing reserving 0 n (new_file None)) (MapNo (next_number task m))
          (Some (with_new m (mapped task (next_number task m) 0 n sharing reserving (new_file None))));
      unmaps = λ task number a b. plan_gives Done (Some m) (Some (unmapped_from task number a b m));
      forks = λ parent child few. plan_gives Done (Some m) (Some (forked parent child m));
      exits = λ task. plan_gives Done (Some m) (Some (without_task task m));
      faults = λ task number s at home i intent. tested (fault_tests i s) (access c size m s home i intent) (plan_access c size m s home i intent);
      loads = λ task number s at home i offset count.
          rules.follows (λ n. bytes_answer offset count (value size (again n s).file (again n s).map i)) (λ n. n) (byte_access c size m home i offset count Read s)
          (plan_bytes c size m s home i offset count Read);
      stores = λ task number s at home i offset bytes.
          rules.follows (λ n. Done) (λ n. written n s i offset bytes) (byte_access c size m home i offset (length bytes) Write s) (plan_bytes c size m s home i offset (length bytes) Write);
    }

    pub plan_walk : (size k : ℕ) (c : Choice) (m : Mount) (e : SlotEvent) → W (on_mount size k c m e)
    plan_walk size k c m e = walk_all size k c m (λ e. W) (plan_walks size k c m) (rules.remounts size m) (plan_gives Done (Some m) None) e
