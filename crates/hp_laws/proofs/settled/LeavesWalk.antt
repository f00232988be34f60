-- What holds of each mount that a change leaves holds of each that an event leaves.
use Rattle.std.proofs.Common.{◌≡◌, ℕ, false, Some, None, is_some, List, [], ◌∷◌}
use Rattle.hp_laws.proofs.Variants.{Done, Intent, MapNo, MountFull, OutOfMemory, Read, Reserving, Sharing}
use Rattle.hp_model.proofs.Words.{Answered, Choice, File, Mount, Spot, again, asked, byte_access, bytes_answer, fault, file_named, forked, gives, has_name, is_full, is_map, lacking, mapped, new_file}
use Rattle.hp_model.proofs.Words.{next_number, punched, range_filled, rise, rising_nodes, spot, store, swept, truncated, unentered, unlinked, unmapped_from, value, with_file, with_new, without_task}
use Rattle.hp_laws.specs.Balance.{Always}
use Rattle.hp_laws.proofs.counts.MountMoves.{IsFileAt, IsSpot, file_at, spot_is}
use Rattle.hp_laws.proofs.steps.Outcomes.{always_then}
use Rattle.hp_laws.proofs.accesses.Shown.{On, on_follows}
use Rattle.hp_laws.proofs.accesses.SlotShows.{always_fill, always_gives, always_grant}
use Rattle.hp_laws.proofs.steps.Walk.{AreFewMaps, ForksFewMaps, Walks}

module _ (size slot : ℕ) (c : Choice) (m : Mount) (Q : Mount → Type 0) where
  -- each change that an event makes leaves it so
  pub record Leaves : Type 0 where
    pub same : Q m
    pub creates : (name : List ℕ) → is_some (file_named m name) ≡ false → Q (with_new m (new_file (Some name)))
    pub unlinks : (q : ℕ × File) → IsFileAt m q.0 q.1 → Q (swept (with_file m q.0 (unlinked q.1)))
    pub truncates : (n : ℕ) (q : ℕ × File) → IsFileAt m q.0 q.1 → Q (swept (with_file m q.0 (truncated n q.1)))
    pub punches : (a b : ℕ) (q : ℕ × File) → IsFileAt m q.0 q.1 → Q (swept (with_file m q.0 (punched a b q.1)))
    pub fills : (a b : ℕ) (pages : List ℕ) (q : ℕ × File) → IsFileAt m q.0 q.1 → Q (with_file m q.0 (range_filled size a b (rising_nodes (lacking a b q.1) pages) q.1))
    pub maps : (task a n : ℕ) (sharing : Sharing) (reserving : Reserving) (q : ℕ × File) → IsFileAt m q.0 q.1 → AreFewMaps m task n
        → Q (with_file m q.0 (mapped task (next_number task m) a n sharing reserving q.1))
    pub anons : (task n : ℕ) (sharing : Sharing) (reserving : Reserving) → AreFewMaps m task n → Q (with_new m (mapped task (next_number task m) 0 n sharing reserving (new_file None)))
    pub unmaps : (task number a b : ℕ) → Q (unmapped_from task number a b m)
    pub forks : (parent child : ℕ) → ForksFewMaps m parent child → Q (forked parent child m)
    pub exits : (task : ℕ) → Q (without_task task m)
    pub faults : (s : Spot) → IsSpot m s → (home i : ℕ) (intent : Intent) → Always (On Q) (fault c size m home i intent s)
    pub reads : (s : Spot) → IsSpot m s → (home i offset count : ℕ) → Always (On Q) (byte_access c size m home i offset count Read s)
    pub stores : (s : Spot) → IsSpot m s → (home i offset : ℕ) (bytes : List ℕ) → Always (On Q) (store c size m home i offset bytes s)

  gives_on : (n : Mount) → Q n → Always (On Q) (gives Done (Some m) (Some n))
  gives_on n h = always_gives (On Q) Done (Some m) (Some n) h

  named : (name : List ℕ) (q : ℕ × File) → file_named m name ≡ Some q → IsFileAt m q.0 q.1
  named name q is = file_at m (has_name name) q is

  mapped_at : (task number : ℕ) (s : Spot) → spot m (is_map task number) ≡ Some s → IsSpot m s
  mapped_at task number s is = spot_is m (is_map task number) s is

  pub leaves_walk : Leaves → Walks size slot c m (λ e. Always (On Q))
  leaves_walk leaves = record {
    refuses = λ e r. tt;
    whole = λ name a b q is. leaves.same;
    tells = λ e a yes. leaves.same;
    reads = λ name i offset count bytes few. leaves.same;
    creates = leaves.creates;
    unlinks = λ name q is. gives_on (swept (with_file m q.0 (unlinked q.1))) (leaves.unlinks q (named name q is));
    truncates = λ name n q is. gives_on (swept (with_file m q.0 (truncated n q.1))) (leaves.truncates n q (named name q is));
    punches = λ name a b q is. gives_on (swept (with_file m q.0 (punched a b q.1))) (leaves.punches a b q (named name q is));
    fills = λ name a b q is.
        always_fill (On Q) (λ r. tt) ((is_full m (unentered a b q.1), MountFull) ∷ (c.refused, OutOfMemory) ∷ []) (rise m (unentered a b q.1)) (lacking a b q.1)
        (λ pages. Answered Done (Some (with_file m q.0 (range_filled size a b (rising_nodes (lacking a b q.1) pages) q.1)))) (λ pages. leaves.fills a b pages q (named name q is));
    maps = λ task home name a n sharing reserving q is few.
        always_grant (On Q) (λ r. tt) c m home (asked sharing reserving a n q.1)
        (Answered (MapNo (next_number task m)) (Some (with_file m q.0 (mapped task (next_number task m) a n sharing reserving q.1)))) (leaves.maps task a n sharing reserving q (named name q is) few);
    anons = λ task home n sharing reserving few.
        always_grant (On Q) (λ r. tt) c m home (asked sharing reserving 0 n (new_file None))
        (Answered (MapNo (next_number task m)) (Some (with_new m (mapped task (next_number task m) 0 n sharing reserving (new_file None))))) (leaves.anons task n sharing reserving few);
    unmaps = λ task number a b. gives_on (unmapped_from task number a b m) (leaves.unmaps task number a b);
    forks = λ parent child few. gives_on (forked parent child m) (leaves.forks parent child few);
    exits = λ task. gives_on (without_task task m) (leaves.exits task);
    faults = λ task number s is. leaves.faults s (mapped_at task number s is);
    loads = λ task number s is home i offset count.
        (let answer = λ (n : Mount). Answered (bytes_answer offset count (value size (again n s).file (again n s).map i)) (Some n) in
        always_then (On Q) (On Q) answer (on_follows Q Q answer (λ n h. h)) (byte_access c size m home i offset count Read s) (leaves.reads s (mapped_at task number s is) home i offset count));
    stores = λ task number s is. leaves.stores s (mapped_at task number s is);
  }
