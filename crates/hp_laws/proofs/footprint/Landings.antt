-- An event of a slot leaves another mount on it, and nothing else but free and surplus pages of other nodes.
use Rattle.std.proofs.Common.{◌≡◌, ◌⊎◌, inl, inr, subst, ℕ, Bool, true, false, None, Option, Some, Ok, Err, List, [], ◌∷◌, refl, sym, ap, ◌∙◌, if◌then◌else◌}
use Rattle.std.proofs.lemmas.Bool.{cond_both}
use Rattle.std.proofs.lemmas.List.{set-get_or}
use Rattle.hp_laws.proofs.Variants.{Answer, GrantPage, MountFull, NoPages, OutOfMemory, PoolAnswer, Refusal, Section, Slot as OnSlot, SlotEvent, TakePage}
use Rattle.hp_model.proofs.Words.{Answered, Ask, Choice, File, Finish, IsEvent, IsFresh, Mount, Outcome, Plan, Pool, Refused, Reply, Slot, State, file_named, planned, pool_of, section, slot_at}
use Rattle.hp_model.proofs.Words.{slot_event}
use Rattle.hp_model.proofs.Words.{and_then, continued, grant_page, is_full, reserved_page, rise, unless, when_granted, with_outcome, with_pool, with_slot, with_value}
use Rattle.hp_laws.specs.Balance.{left_by}
use Rattle.hp_laws.proofs.keeping.SettingsKept.{section_numbers}
use Rattle.hp_laws.proofs.sections.PoolTied.{pool_back, settled_is}
use Rattle.hp_laws.proofs.steps.Outcomes.{Always, reply_of}
use Rattle.hp_laws.proofs.steps.Walk.{plan_unless, plan_value}
use Rattle.hp_model.specs.machine.Footprint.{IsButNodes, LeavesMount, OnFile, There}
use Rattle.hp_laws.proofs.footprint.NodeFrames.{nodes_have, rows_have, section_frames}

-- ---- a section

pub with_itself : (s : State) (k : ℕ) → with_slot s k (slot_at s k) ≡ s
with_itself s k = ap (λ (slots : List Slot). record s { slots = slots }) (set-get_or s.slots k None)

-- what a section leaves is as it was, but for nodes
asked_pool : (s : State) (x : Section) → IsButNodes s (with_pool s (section (pool_of s) x).1)
asked_pool s x =
    let p : Pool = (section (pool_of s) x).1 in
    let numbers = section_numbers (pool_of s) x in
    let is : State → ℕ → ℕ → State = λ u nr overcommit. record u { nr = nr; overcommit = overcommit } in (
      ap (λ nr. is (with_pool s p) nr p.overcommit) numbers.0 ∙ ap (λ overcommit. is (with_pool s p) s.nr overcommit) numbers.1,
      nodes_have p.nodes.rows ∙ section_frames (pool_of s) x ∙ rows_have s 0 s.nodes,
    )

then_slot : (s u : State) (k : ℕ) (x : Slot) → IsButNodes s u → IsButNodes (with_slot s k x) (with_slot u k x)
then_slot s u k x is = (ap (λ v. with_slot v k x) is.0, is.1)

then_outcome : (s u : State) (k : ℕ) (o : Outcome) → IsButNodes s u → IsButNodes (with_slot s k (left_by (slot_at s k) o)) (with_outcome u k o).1
then_outcome s u k (Refused r) is = subst (λ x. IsButNodes x u) (sym (with_itself s k)) is
then_outcome s u k (Answered a new) is = then_slot s u k new is

-- ---- a plan

-- P holds of the outcome, by what the pool answers
abbrev pub Here : State → (Outcome → Type 0) → Plan → Type 0
Here s P (Finish o) = P o
Here s P (Ask sec f) = P (f (section (pool_of s) (sec s.nr)).0)

pub always_here : (s : State) (P : Outcome → Type 0) (p : Plan) → Always P p → Here s P p
always_here s P (Finish o) h = h
always_here s P (Ask sec f) h = h (section (pool_of s) (sec s.nr)).0

-- what holds of every outcome
pub here_all : {P : Outcome → Type 0} (s : State) → ((o : Outcome) → P o) → (p : Plan) → Here s P p
here_all s h (Finish o) = h o
here_all s h (Ask sec f) = h (f (section (pool_of s) (sec s.nr)).0)

pub record Lands (P : Outcome → Type 0) (s : State) (k : ℕ) (reply : Reply) (t : State) : Type 0 where
  pub outcome : Outcome
  pub holds : P outcome
  pub replied : reply ≡ reply_of outcome
  pub left : IsButNodes (with_slot s k (left_by (slot_at s k) outcome)) t

outcome_replies : (s : State) (k : ℕ) (o : Outcome) → (with_outcome s k o).0 ≡ reply_of o
outcome_replies s k (Refused r) = refl
outcome_replies s k (Answered a new) = refl

pub plan_lands : (P : Outcome → Type 0) (s : State) (k : ℕ) (p : Plan) → Here s P p → Lands P s k (planned s k p).0 (planned s k p).1
plan_lands P s k (Finish o) h =
    record { outcome = o; holds = h; replied = outcome_replies s k o; left = then_outcome s s k o (refl, refl) }
plan_lands P s k (Ask sec f) h =
    let q : PoolAnswer × Pool = section (pool_of s) (sec s.nr) in
    record {
      outcome = f q.0;
      holds = h;
      replied = outcome_replies (with_pool s q.1) k (f q.0);
      left = then_outcome s (with_pool s q.1) k (f q.0) (asked_pool s (sec s.nr));
    }

pub event_lands : (P : Outcome → Type 0) (s : State) (k : ℕ) (e : SlotEvent) (reply : Reply) (t : State)
    → ((c : Choice) → IsFresh c (slot_at s k) → Here s P (slot_event s.page_size k c (slot_at s k) e)) → IsEvent s (OnSlot k e) reply t → Lands P s k reply t
event_lands P s k e reply t all is =
    subst (λ (x : Reply × State). Lands P s k x.0 x.1) is.2 (plan_lands P s k (slot_event s.page_size k is.0 (slot_at s k) e) (all is.0 is.1.2))

-- ---- an event that is answered

-- it is answered so and leaves such a slot, if it is answered
abbrev pub Comes : (Answer → Slot → Type 0) → Outcome → Type 0
Comes R (Refused r) = Unit {0}
Comes R (Answered a new) = R a new

module _ (R : Answer → Slot → Type 0) (s : State) (k : ℕ) (a : Answer) (t : State) where
  pub outcome_comes : (o : Outcome) → Comes R o → Ok a ≡ reply_of o → IsButNodes (with_slot s k (left_by (slot_at s k) o)) t
      → (new : Slot) × (R a new × IsButNodes (with_slot s k new) t)
  outcome_comes (Refused r) h e left = (let never : Ok a ≡ Err r = e in cc)
  outcome_comes (Answered b new) h e left = (let same : b ≡ a = cc in (new, (subst (λ x. R x new) same h, left)))

  pub comes : (e : SlotEvent) → ((c : Choice) → IsFresh c (slot_at s k) → Here s (Comes R) (slot_event s.page_size k c (slot_at s k) e)) → IsEvent s (OnSlot k e) (Ok a) t
      → (new : Slot) × (R a new × IsButNodes (with_slot s k new) t)
  comes e all is = let l = event_lands (Comes R) s k e (Ok a) t all is in outcome_comes l.outcome l.holds l.replied l.left

-- ---- what is there becomes another

pub there_weaker : {X : Type 0} (P Q : X → Type 0) (o : Option X) → ((x : X) → o ≡ Some x → P x → Q x) → There o P → There o Q
there_weaker P Q None h is = is
there_weaker P Q (Some x) h is = h x refl is

pub there_at : {X : Type 0} (P : X → Type 0) (o : Option X) (x : X) → o ≡ Some x → P x → There o P
there_at P o x e h = subst (λ q. There q P) (sym e) h

-- by a mount, and by a mount and a file of it
abbrev pub Becomes : Slot → (Mount → Mount) → Answer → Slot → Type 0
Becomes old g a new = There old (λ m. new ≡ Some (g m))

abbrev pub Edited : Slot → List ℕ → (Mount → ℕ × File → Mount) → Answer → Slot → Type 0
Edited old name g a new = There old (λ m. There (file_named m name) (λ f. new ≡ Some (g m f)))

pub leaves : (s : State) (k : ℕ) (t : State) (new : Slot) (m : Mount) → new ≡ Some m → IsButNodes (with_slot s k new) t → LeavesMount s k m t
leaves s k t new m e left = subst (λ x. IsButNodes (with_slot s k x) t) e left

module _ (s : State) (k : ℕ) (e : SlotEvent) (a : Answer) (t : State) (is : IsEvent s (OnSlot k e) (Ok a) t) where
  pub makes : (g : Mount → Mount) → ((c : Choice) → Always (Comes (Becomes (slot_at s k) g)) (slot_event s.page_size k c (slot_at s k) e))
      → There (slot_at s k) (λ m. LeavesMount s k (g m) t)
  makes g all =
      let l = comes (Becomes (slot_at s k) g) s k a t e (λ c fresh. always_here s (Comes (Becomes (slot_at s k) g)) _ (all c)) is in
      there_weaker (λ m. l.0 ≡ Some (g m)) (λ m. LeavesMount s k (g m) t) (slot_at s k) (λ m there q. leaves s k t l.0 (g m) q l.1.1) l.1.0

  pub edits : (name : List ℕ) (g : Mount → ℕ × File → Mount) → ((c : Choice) → Always (Comes (Edited (slot_at s k) name g)) (slot_event s.page_size k c (slot_at s k) e))
      → OnFile s k name (λ m f. LeavesMount s k (g m f) t)
  edits name g all =
      let l = comes (Edited (slot_at s k) name g) s k a t e (λ c fresh. always_here s (Comes (Edited (slot_at s k) name g)) _ (all c)) is in
      there_weaker (λ m. There (file_named m name) (λ f. l.0 ≡ Some (g m f))) (λ m. There (file_named m name) (λ f. LeavesMount s k (g m f) t)) (slot_at s k)
      (λ m there h. there_weaker (λ f. l.0 ≡ Some (g m f)) (λ f. LeavesMount s k (g m f) t) (file_named m name) (λ f found q. leaves s k t l.0 (g m f) q l.1.1) h) l.1.0

-- ---- where nothing is asked, or the pool is left as it was

-- F holds of the outcome where no node has changed, and else A
abbrev pub Either : State → (F A : Outcome → Type 0) → Plan → Type 0
Either s F A (Finish o) = F o
Either s F A (Ask sec f) =
    A (f (section (pool_of s) (sec s.nr)).0) ⊎ (((section (pool_of s) (sec s.nr)).1 ≡ pool_of s) × F (f (section (pool_of s) (sec s.nr)).0))

pub record Exact (F : Outcome → Type 0) (s : State) (k : ℕ) (reply : Reply) (t : State) : Type 0 where
  pub outcome : Outcome
  pub holds : F outcome
  pub replied : reply ≡ reply_of outcome
  pub left : t ≡ with_slot s k (left_by (slot_at s k) outcome)

outcome_exact : (F : Outcome → Type 0) (s : State) (k : ℕ) (o : Outcome) → F o → Exact F s k (with_outcome s k o).0 (with_outcome s k o).1
outcome_exact F s k o h = record { outcome = o; holds = h; replied = outcome_replies s k o; left = settled_is s k o }

plan_either : (F A : Outcome → Type 0) (s : State) (k : ℕ) (p : Plan) → Either s F A p
    → Exact F s k (planned s k p).0 (planned s k p).1 ⊎ Lands A s k (planned s k p).0 (planned s k p).1
plan_either F A s k (Finish o) h = inl (outcome_exact F s k o h)
plan_either F A s k (Ask sec f) (inl h) = inr (plan_lands A s k (Ask sec f) h)
plan_either F A s k (Ask sec f) (inr h) =
    let q : PoolAnswer × Pool = section (pool_of s) (sec s.nr) in
    let same : with_pool s q.1 ≡ s = ap (with_pool s) h.0 ∙ pool_back s in
    inl (subst (λ u. Exact F s k (with_outcome u k (f q.0)).0 (with_outcome u k (f q.0)).1) (sym same) (outcome_exact F s k (f q.0) h.1))

pub event_either : (F A : Outcome → Type 0) (s : State) (k : ℕ) (e : SlotEvent) (reply : Reply) (t : State)
    → ((c : Choice) → IsFresh c (slot_at s k) → Either s F A (slot_event s.page_size k c (slot_at s k) e)) → IsEvent s (OnSlot k e) reply t
    → Exact F s k reply t ⊎ Lands A s k reply t
event_either F A s k e reply t all is =
    subst (λ (x : Reply × State). Exact F s k x.0 x.1 ⊎ Lands A s k x.0 x.1) is.2 (plan_either F A s k (slot_event s.page_size k is.0 (slot_at s k) e) (all is.0 is.1.2))

module _ (s : State) (F A : Outcome → Type 0) where
  pub either_if : (b : Bool) (x y : Plan) → (b ≡ true → Either s F A x) → (b ≡ false → Either s F A y) → Either s F A (if b then x else y)
  either_if b x y h g = cond_both b x y (Either s F A) h g

  pub either_weaker : (G B : Outcome → Type 0) → ((o : Outcome) → F o → G o) → ((o : Outcome) → A o → B o) → (p : Plan) → Either s F A p → Either s G B p
  either_weaker G B h g (Finish o) is = h o is
  either_weaker G B h g (Ask sec f) (inl is) = inl (g _ is)
  either_weaker G B h g (Ask sec f) (inr is) = inr (is.0, h _ is.1)

  -- what follows an answer
  pub either_then : (G B : Outcome → Type 0) (f : Mount → Outcome) → ((o : Outcome) → F o → G (continued f o)) → ((o : Outcome) → A o → B (continued f o)) → (p : Plan)
      → Either s F A p → Either s G B (and_then f p)
  either_then G B f h g (Finish o) is = h o is
  either_then G B f h g (Ask sec k) (inl is) = inl (g _ is)
  either_then G B f h g (Ask sec k) (inr is) = inr (is.0, h _ is.1)

  pub either_reserved : (home : ℕ) (f : ℕ → Outcome) → ((node : ℕ) → A (f node)) → Either s F A (reserved_page home f)
  either_reserved home f h = inl (h (section (pool_of s) (TakePage home)).0.node)

  module _ (stops : (r : Refusal) → F (Refused r)) (halts : (r : Refusal) → A (Refused r)) where
    pub either_unless : (ts : List (Bool × Refusal)) (p : Plan) → Either s F A p → Either s F A (unless ts p)
    either_unless ts p h = plan_unless (Either s F A) stops ts p h

    pub either_value : {X : Type 0} (o : Option X) (r : Refusal) (f : X → Plan) → ((x : X) → o ≡ Some x → Either s F A (f x)) → Either s F A (with_value o r f)
    either_value o r f h = plan_value (Either s F A) stops o r f h

    pub either_granted : (c : Choice) (m : Mount) (home : ℕ) (f : ℕ → Outcome) → ((node : ℕ) → A (f node)) → Either s F A (grant_page c m home f)
    either_granted c m home f h =
        let a : PoolAnswer = (section (pool_of s) (GrantPage home (rise m 1))).0 in
        either_unless ((is_full m 1, MountFull) ∷ (c.refused, OutOfMemory) ∷ []) (Ask (λ nr. GrantPage home (rise m 1)) (λ a. when_granted (f a.node) a))
        (inl (cond_both a.granted (f a.node) (Refused NoPages) A (λ e. h a.node) (λ e. halts NoPages)))
