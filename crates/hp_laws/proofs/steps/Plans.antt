-- How each way of making a plan balances.
use Rattle.std.proofs.lemmas.Grind.{common_steps}
use Rattle.std.proofs.Common.{◌≡◌, inl, ℕ, ◌≤◌, Bool, false, ◌&&◌, ◌==◌, None, Some, List, [], ◌∷◌, refl, arith, if◌then◌else◌}
use Rattle.std.proofs.lemmas.Bool.{cond_both}
use Rattle.hp_laws.proofs.Variants.{Answer, Done, FillPages, MountFull, NoPages, OutOfMemory, Refusal}
use Rattle.hp_laws.specs.Balance.{Change, Stays, IsBalanced, left_by}
use Rattle.hp_model.proofs.Words.{Answered, Ask, Choice, Finish, Mount, Outcome, Plan, Refused, Slot, and_then, continued, gives, grant, grant_page, is_full, refuse, reserved_page, rise, rising_nodes}
use Rattle.hp_model.proofs.Words.{slot_committed, slot_pages_at, slot_usage, unless, when_granted}
use Rattle.hp_laws.proofs.counts.MountMoves.{MountGrows, MountFills, MountFalls}
use Rattle.hp_laws.proofs.lists.NodesOf.{count_of}
use Rattle.hp_laws.proofs.counts.NodeSums.{pages-le-committed}
use Rattle.hp_laws.proofs.steps.Walk.{plan_unless}

pub stays : (old : Slot) → Stays old old
stays old = record { committed = refl; pages = λ n l. refl; covered = omega (arith, pages-le-committed old); far = λ n. omega arith; limited = inl (omega arith) }

pub balanced_unless : (old : Slot) (ts : List (Bool × Refusal)) (p : Plan) → IsBalanced old p → IsBalanced old (unless ts p)
balanced_unless old ts p h = plan_unless (IsBalanced old) (λ r. stays old) ts p h

-- a test that fails, and then the others
pub balanced_test : (old : Slot) (b : Bool) (r : Refusal) (ts : List (Bool × Refusal)) (p : Plan) → (b ≡ false → IsBalanced old p) → IsBalanced old (unless ((b, r) ∷ ts) p)
balanced_test old b r ts p h = cond_both b (refuse r) (unless ts p) (IsBalanced old) (λ e. stays old) (λ e. balanced_unless old ts p (h e))

-- ---- an outcome by the pool's answer

grown_reserved : (m n : Mount) (node : ℕ) → MountGrows m n node 1 0 → Change (Some m) (Some n) 0 0 (λ x. if node == x then 1 else 0) (λ x. 0) 1
grown_reserved m n node grows = grind arith

pub grown_same : (m n : Mount) → MountGrows m n 0 0 0 → Stays (Some m) (Some n)
grown_same m n grows = grind arith

-- ---- a page

-- by the answer, a page with the grant, or else the same counts
pub page_granted : (m : Mount) (n : ℕ → Mount) (o : Outcome) (b : Bool) (node : ℕ) → is_full m 1 ≡ false → MountGrows m (n node) node 1 1 → Stays (Some m) (left_by (Some m) o)
    → Change (Some m) (left_by (Some m) (if b then Answered Done (Some (n node)) else o)) (if b then rise m 1 else 0) 0 (λ x. if b && (node == x) then 1 else 0) (λ x. 0) (if b then 1 else 0)
page_granted m n o b node room grows same = grind arith

pub balanced_grant_page : (c : Choice) (m : Mount) (home : ℕ) (n : ℕ → Mount) → ((node : ℕ) → MountGrows m (n node) node 1 1)
    → IsBalanced (Some m) (grant_page c m home (λ node. Answered Done (Some (n node))))
balanced_grant_page c m home n grows = grind arith

pub balanced_reserved_page : (m : Mount) (home : ℕ) (n : ℕ → Mount) → ((node : ℕ) → MountGrows m (n node) node 1 0)
    → IsBalanced (Some m) (reserved_page home (λ node. Answered Done (Some (n node))))
balanced_reserved_page m home n grows =
    ((λ a. grown_reserved m (n a.node) a.node (grows a.node)), (λ p. refl))

-- ---- pages of a range

filled_granted : (m : Mount) (n : List ℕ → Mount) (k u : ℕ) (b : Bool) (pages : List ℕ) → is_full m u ≡ false → MountFills m (n (rising_nodes k pages)) (rising_nodes k pages) u
    → Change (Some m) (left_by (Some m) (if b then Answered Done (Some (n (rising_nodes k pages))) else Refused NoPages)) (if b then rise m u else 0) 0
    (λ x. if b then count_of x (rising_nodes k pages) else 0) (λ x. 0) (if b then k else 0)
filled_granted m n k u b pages room grows = grind (arith, common_steps)

pub balanced_fill : (c : Choice) (m : Mount) (n : List ℕ → Mount) (k u : ℕ) → ((pages : List ℕ) → MountFills m (n (rising_nodes k pages)) (rising_nodes k pages) u)
    → IsBalanced (Some m) (unless ((is_full m u, MountFull) ∷ (c.refused, OutOfMemory) ∷ [])
    (Ask (λ nr. FillPages (rise m u) k) (λ a. when_granted (Answered Done (Some (n (rising_nodes k a.pages)))) a)))
balanced_fill c m n k u grows =
    balanced_test (Some m) (is_full m u) MountFull ((c.refused, OutOfMemory) ∷ []) _
    (λ room. ((λ a. filled_granted m n k u a.granted a.pages room (grows a.pages)), (λ p. refl)))

-- ---- reservations

pub balanced_grant : (c : Choice) (m n : Mount) (home k : ℕ) (answer : Answer) → MountGrows m n 0 0 k → IsBalanced (Some m) (grant c m home k (Answered answer (Some n)))
balanced_grant c m n home k answer grows = grind arith

-- ---- giving back

pub record SlotFalls (old new : Slot) : Type 0 where
  pub committed : slot_committed new ≤ slot_committed old
  pub each : (n : ℕ) → slot_pages_at n new ≤ slot_pages_at n old
  pub usage : slot_usage new ≤ slot_usage old

pub balanced_gives : (a : Answer) (old new : Slot) → SlotFalls old new → IsBalanced old (gives a old new)
balanced_gives a old new falls = grind arith

pub mount_falls : (m n : Mount) → MountFalls m n → SlotFalls (Some m) (Some n)
mount_falls m n falls = grind arith

-- ---- what follows

then_stays : (old : Slot) (m n : Mount) (raised lowered : ℕ) (taken put : ℕ → ℕ) (takes : ℕ) → Change old (Some m) raised lowered taken put takes →
    MountGrows m n 0 0 0 → Change old (Some n) raised lowered taken put takes
then_stays old m n raised lowered taken put takes first grows = grind arith

then_same : (old : Slot) (answer : Mount → Answer) (h : Mount → Mount) (o : Outcome) (raised lowered : ℕ) (taken put : ℕ → ℕ) (takes : ℕ)
    → ((m : Mount) → MountGrows m (h m) 0 0 0) → Change old (left_by old o) raised lowered taken put takes
    → Change old (left_by old (continued (λ m. Answered (answer m) (Some (h m))) o)) raised lowered taken put takes
then_same old answer h (Refused r) raised lowered taken put takes same change = change
then_same old answer h (Answered a None) raised lowered taken put takes same change = change
then_same old answer h (Answered a (Some m)) raised lowered taken put takes same change =
    then_stays old m (h m) raised lowered taken put takes change (same m)

pub balanced_then : (old : Slot) (answer : Mount → Answer) (h : Mount → Mount) (p : Plan) → ((m : Mount) → MountGrows m (h m) 0 0 0) → IsBalanced old p
    → IsBalanced old (and_then (λ m. Answered (answer m) (Some (h m))) p)
balanced_then old answer h (Finish o) same b = then_same old answer h o 0 0 (λ n. 0) (λ n. 0) 0 same b
balanced_then old answer h (Ask s f) same b = ((λ a. then_same old answer h (f a) _ _ _ _ _ same (b.0 a)), b.1)
