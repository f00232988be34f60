-- A refused event leaves everything as it was.
use Rattle.std.proofs.Common.{◌≡◌, subst, ℕ, Bool, true, false, None, Some, Result, Err, List, refl, sym, ap, ◌∙◌, arith, if◌then◌else◌, MatchBool, max}
use Rattle.hp_laws.proofs.Variants.{Answer, Done, Event, GrantAndReturn, Limits, OutOfMemory, PoolAnswer, PoolEvent, ReadAndGrant, Refusal, Slot as OnSlot, SlotEvent, SlotTaken, TableEvent}
use Rattle.hp_model.specs.declared.event.SlotEvent.TheVariants as slot
use Rattle.hp_model.proofs.Words.{Answered, Ask, Choice, Finish, IsSettledPool, IsSettledState, Mount, Outcome, Plan, Pool, Refused, SameButNodes, Slot, State, Table, after, and_then, can_grant}
use Rattle.hp_model.proofs.Words.{continued, filled_by, granted, granted_at, is_late, limits, mount_outcome, mount_pages, mount_section, no_pages, nr_answer, on_none, page_taken, pages_taken, planned}
use Rattle.hp_model.proofs.Words.{pool_event, pool_of, released, remount_outcome, remount_section, section, slot_at, slot_event, table_event, take_node, takes_of, total_of, trimmed as settled_pool}
use Rattle.hp_model.proofs.Words.{wanted_of, when_granted, with_outcome, with_pool}
use Rattle.hp_laws.specs.Laws.{RefusalsChangeNothing}
use Rattle.hp_laws.proofs.steps.SlotsBalanced.{remount_tells, tells_nr}
use Rattle.hp_laws.proofs.steps.PlanRules.{PlanRules, plan_walk}
use Rattle.hp_laws.proofs.sections.PoolTied.{pool_back}

-- where what follows is a refusal, the section has left the pool as it was
abbrev Keeps : (Refusal → Bool) → Plan → Type 0
Keeps late (Finish o) = Unit {0}
Keeps late (Ask sec f) = (p : Pool) (r : Refusal) → IsSettledPool p → late r ≡ false → f (section p (sec p.nr)).0 ≡ Refused r → (section p (sec p.nr)).1 ≡ p

record IsKept (late : Refusal → Bool) (p : Plan) : Type 0 where
  pub keeps : Keeps late p

abbrev never : Refusal → Bool
never r = false

done : (o : Outcome) → IsKept never (Finish o)
done o = record { keeps = tt }

-- ---- grants and pages

by_grant : (b : Bool) (p q : Pool) (a : PoolAnswer) (f : PoolAnswer → Outcome) (r : Refusal) → (f a ≡ Refused r → q ≡ p)
    → f (if◌then◌else◌ {A = PoolAnswer × Pool} b (a, q) (no_pages, p)).0 ≡ Refused r → (if◌then◌else◌ {A = PoolAnswer × Pool} b (a, q) (no_pages, p)).1 ≡ p
by_grant b p q a f r h e = grind arith

then_refused : (answer : Mount → Answer) (h : Mount → Mount) (o : Outcome) (r : Refusal) → continued (λ m. Answered (answer m) (Some (h m))) o ≡ Refused r → o ≡ Refused r
then_refused answer h o r e = grind arith

keeps_then : (answer : Mount → Answer) (h : Mount → Mount) (p : Plan) → IsKept never p → IsKept never (and_then (λ m. Answered (answer m) (Some (h m))) p)
keeps_then answer h p k = grind (arith, then_refused)

both_answer : (b : Bool) (a1 a2 : Answer) (s1 s2 : Slot) (r : Refusal) → (if◌then◌else◌ {A = Outcome} b (Answered a1 s1) (Answered a2 s2)) ≡ Refused r → ⊥
both_answer b a1 a2 s1 s2 r e = grind arith

-- a grant of nothing leaves a settled pool as it is
pub granted_none : (p : Pool) → total_of p.nodes.rows ≡ max p.nr p.committed → granted 0 0 p ≡ p
granted_none p total = grind arith

-- the section of a remount that is refused
remount_keeps : (m : Mount) (l : Result Limits Refusal) (p : Pool) (r : Refusal) → IsSettledPool p → remount_outcome m (section p (remount_section m l)).0 l ≡ Refused r
    → (section p (remount_section m l)).1 ≡ p
remount_keeps m l p r st is = grind arith

keep_rules : PlanRules (IsKept never)
keep_rules = record {
  done = done;
  grants = λ home k a s. record {
    keeps = λ p r st late is. by_grant (can_grant k p) p (granted home k p) (granted_at 0) (when_granted (Answered a s)) r (λ no. cc) is;
  };
  pages = λ home k n. record {
    keeps = λ p r st late is. by_grant (can_grant k p) p (page_taken home (granted home k p)) (granted_at (take_node home (granted home k p)))
        (λ a. when_granted (Answered Done (n a.node)) a) r (λ no. cc) is;
  };
  pages_or = λ home k n other. record { keeps = λ p r st late is. absurd (both_answer _ _ _ _ _ r is) };
  takes = λ home n. record { keeps = λ p r st late is. cc };
  fills = λ k n next. record {
    keeps = λ p r st late is. by_grant (can_grant k p) p (pages_taken n (granted 0 k p)) (filled_by (takes_of n (granted 0 k p)))
        (λ a. when_granted (Answered Done (next a.pages)) a) r (λ no. cc) is;
  };
  puts = λ pages k a s. record { keeps = λ p r st late is. cc };
  remounts = λ size m options. record {
    keeps = λ p r st late is.
        (let l = limits p.nr size (wanted_of options) in
        remount_keeps m l p r st
        (subst (λ nr. remount_outcome m (section p (remount_section m l)).0 (limits nr size (wanted_of options)) ≡ Refused r) (remount_tells p m l) is));
  };
  follows = keeps_then;
}

-- ---- a mount

pub settled_already : (p : Pool) → IsSettledPool p → settled_pool (released 0 p) ≡ p
settled_already p s = grind arith

late_memory : Refusal → Bool
late_memory OutOfMemory = true
late_memory r = false

-- what a mount's section and its outcome are, by what is wanted and what is chosen
mount_keeps : (stamp : ℕ) (refused after_grant granted_it : Bool) (l : Result Limits Refusal) (p q : Pool) (r : Refusal) → late_memory r ≡ false
    → (granted_it ≡ true → mount_pages (record { stamp = stamp; refused = refused; after_grant = after_grant }) l ≡ 0 → q ≡ p) → (granted_it ≡ false → q ≡ p)
    → mount_outcome (record { stamp = stamp; refused = refused; after_grant = after_grant }) (nr_answer granted_it p) l ≡ Refused r → q ≡ p
unfolding late_memory
mount_keeps stamp refused after_grant granted_it l p q r late free none is = grind (arith, late_memory)

-- the section of a mount, granted or not
mount_section_keeps : (c : Choice) (l : Result Limits Refusal) (p : Pool) (r : Refusal) → IsSettledPool p → late_memory r ≡ false
    → mount_outcome c (section p (mount_section c (mount_pages c l))).0 l ≡ Refused r → (section p (mount_section c (mount_pages c l))).1 ≡ p
mount_section_keeps c l p r st late is = by_choice c.after_grant refl is
  where
    by_test : (b : Bool) (q : Pool) → (mount_pages c l ≡ 0 → q ≡ p)
        → mount_outcome c (if◌then◌else◌ {A = PoolAnswer × Pool} b (nr_answer true p, q) (nr_answer false p, p)).0 l ≡ Refused r
        → (if◌then◌else◌ {A = PoolAnswer × Pool} b (nr_answer true p, q) (nr_answer false p, p)).1 ≡ p
    by_test true q free is = mount_keeps c.stamp c.refused c.after_grant true l p q r late (λ yes none. free none) (λ no. cc) is
    by_test false q free is = refl

    by_choice : (b : Bool) → c.after_grant ≡ b → mount_outcome c (section p (if b then GrantAndReturn (mount_pages c l) else ReadAndGrant (mount_pages c l))).0 l ≡ Refused r
        → (section p (if b then GrantAndReturn (mount_pages c l) else ReadAndGrant (mount_pages c l))).1 ≡ p
    by_choice true e is =
        by_test (can_grant (mount_pages c l) p) (settled_pool (released (mount_pages c l) (granted 0 (mount_pages c l) p)))
        (λ none. ap (λ d. settled_pool (released d (granted 0 d p))) none ∙ ap (λ x. settled_pool (released 0 x)) (granted_none p st.total) ∙ settled_already p st) is
    by_choice false e is = by_test (can_grant (mount_pages c l) p) (granted 0 (mount_pages c l) p) (λ none. ap (λ d. granted 0 d p) none ∙ granted_none p st.total) is

keeps_on_none : (size : ℕ) (c : Choice) (e : SlotEvent) → IsKept late_memory (on_none size c e)
keeps_on_none size c (slot.Mount options) = record {
  keeps = λ p r st late is.
      let told : (section p (mount_section c (mount_pages c (limits p.nr size (wanted_of options))))).0.nr ≡ p.nr = tells_nr p c.after_grant (mount_pages c (limits p.nr size (wanted_of options))) in
      mount_section_keeps c (limits p.nr size (wanted_of options)) p r st late
      (subst (λ nr. mount_outcome c (section p (mount_section c (mount_pages c (limits p.nr size (wanted_of options))))).0 (limits nr size (wanted_of options)) ≡ Refused r) told is);
}
keeps_on_none size c other = record { keeps = tt }

-- ---- the machine

settled_refused : (s : State) (k : ℕ) (o : Outcome) (r : Refusal) (t : State) → with_outcome s k o ≡ (Err r, t) → (o ≡ Refused r) × (t ≡ s)
settled_refused s k o r t e = grind arith

plan_refused : (late : Refusal → Bool) (s : State) (k : ℕ) (p : Plan) (r : Refusal) (t : State) → IsKept late p → IsSettledState s → late r ≡ false → planned s k p ≡ (Err r, t) → t ≡ s
plan_refused late s k (Finish o) r t kept st on_time e = (settled_refused s k o r t e).1
plan_refused late s k (Ask sec f) r t kept st on_time e =
    let q : PoolAnswer × Pool = section (pool_of s) (sec s.nr) in
    let is = settled_refused (with_pool s q.1) k (f q.0) r t e in
    let same : q.1 ≡ pool_of s = kept.keeps (pool_of s) r st.pool on_time is.0 in
    is.1 ∙ ap (with_pool s) same ∙ pool_back s

mount_numbers : (b : Bool) (p : Pool) (d : ℕ) → ((section p (if b then GrantAndReturn d else ReadAndGrant d)).1.nr ≡ p.nr)
    × ((section p (if b then GrantAndReturn d else ReadAndGrant d)).1.overcommit ≡ p.overcommit)
mount_numbers b p d = grind arith

same_but_nodes : (s : State) (p : Pool) (t : State) → t ≡ with_pool s p → p.nr ≡ s.nr → p.overcommit ≡ s.overcommit → SameButNodes s t
same_but_nodes s p t e nr overcommit = grind arith

mount_refused : (s : State) (k : ℕ) (c : Choice) (old : Slot) (options : List ℕ) (r : Refusal) (t : State) →
    planned s k (slot_event s.page_size k c old (slot.Mount options)) ≡ (Err r, t) → SameButNodes s t
mount_refused s k c (Some m) options r t e = (let is = settled_refused s k (Refused SlotTaken) r t e in subst (λ (x : State). SameButNodes s x) (sym is.1) refl)
mount_refused s k c None options r t e =
    let d : ℕ = mount_pages c (limits s.nr s.page_size (wanted_of options)) in
    let q : PoolAnswer × Pool = section (pool_of s) (mount_section c d) in
    let is = settled_refused (with_pool s q.1) k (mount_outcome c q.0 (limits q.0.nr s.page_size (wanted_of options))) r t e in
    let numbers = mount_numbers c.after_grant (pool_of s) d in
    same_but_nodes s q.1 t is.1 numbers.0 numbers.1

pick_late : (k : ℕ) (options : List ℕ) (A B : Type 0) (r : Refusal) → A → (late_memory r ≡ false → B) → MatchBool (is_late (OnSlot k (slot.Mount options)) r) A B
unfolding late_memory
pick_late k options A B r a b = grind arith

plain_keeps : (late : Refusal → Bool) (p : Plan) → IsKept never p → IsKept late p
plain_keeps late p k = grind arith

keeps_slot : (size k : ℕ) (c : Choice) (old : Slot) (e : SlotEvent) → IsKept late_memory (slot_event size k c old e)
keeps_slot size k c old e = grind (arith, keeps_on_none, plain_keeps, late_memory, plan_walk, keep_rules)

slot_refused : (s : State) (k : ℕ) (c : Choice) (e : SlotEvent) (r : Refusal) (t : State) → IsSettledState s → planned s k (slot_event s.page_size k c (slot_at s k) e) ≡ (Err r, t)
    → MatchBool (is_late (OnSlot k e) r) (SameButNodes s t) (t ≡ s)
slot_refused s k c (slot.Mount options) r t st e =
    pick_late k options (SameButNodes s t) (t ≡ s) r (mount_refused s k c (slot_at s k) options r t e)
    (λ on_time. plan_refused late_memory s k _ r t (keeps_slot s.page_size k c (slot_at s k) (slot.Mount options)) st on_time e)
slot_refused s k c other r t st e = plan_refused never s k _ r t (keeps_other (slot_at s k)) st refl e
  where
    keeps_other : (old : Slot) → IsKept never (slot_event s.page_size k c old other)
    keeps_other None = record { keeps = tt }
    keeps_other (Some m) = plan_walk (IsKept never) keep_rules s.page_size k c m other

-- ---- the task table, and the pool alone

table_refused : (nodes : ℕ) (old : Table) (e : TableEvent) (r : Refusal) → (table_event nodes old e).0 ≡ Err r → (table_event nodes old e).1 ≡ old
table_refused nodes old e r = grind arith

pool_refused : (p : Pool) (e : PoolEvent) (r : Refusal) → (pool_event p e).0 ≡ Err r → (pool_event p e).1 ≡ p
pool_refused p e r = grind arith

-- ---- every event

event_refused : (c : Choice) (s : State) (e : Event) (r : Refusal) (t : State) → IsSettledState s → after c s e ≡ (Err r, t) → MatchBool (is_late e r) (SameButNodes s t) (t ≡ s)
event_refused c s e r t st is = grind (arith, table_refused, slot_refused, pool_refused, pool_back)

pub refusals_change_nothing : RefusalsChangeNothing
refusals_change_nothing s e r t st is = event_refused is.0 s e r t st is.2
