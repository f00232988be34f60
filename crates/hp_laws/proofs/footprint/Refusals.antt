-- A refused step changes nothing, but for two.
use Rattle.std.proofs.Common.{arith, ◌≡◌, inl, inr, subst, ℕ, Bool, true, false, None, option_map, Ok, Err, List, length, refl, sym, ap, ◌∙◌, if◌then◌else◌, MatchBool}
use Rattle.std.proofs.lemmas.List.{length-set}
use Rattle.hp_laws.proofs.Variants.{Event, OutOfMemory, Pool as OnPool, PoolEvent, Refusal, Slot as OnSlot, Tasks}
use Rattle.hp_model.specs.declared.event.PoolEvent.TheVariants as pool
use Rattle.hp_model.specs.declared.event.SlotEvent.TheVariants as slot
use Rattle.hp_model.specs.declared.event.TableEvent.TheVariants as table
use Rattle.hp_model.specs.declared.step.Step.{Step}
use Rattle.hp_model.specs.declared.step.Step.TheVariants as step
use Rattle.hp_model.proofs.Words.{Answer_with, Do, IsEvent, IsScript, IsScripted, IsSettledState, Outcome, Pool, Refused, Answered, Reply, Script, Slot, State, Where_mapped}
use Rattle.hp_model.proofs.Words.{has_maps_of, is_known, pool_event, pool_of}
use Rattle.hp_model.proofs.Words.{script, slot_at, with_slot}
use Rattle.hp_laws.specs.Balance.{left_by}
use Rattle.hp_laws.proofs.ending.Fades.{exit_refused}
use Rattle.hp_laws.proofs.ending.RefusedForks.{IsForkLeft, fork_known, fork_refused}
use Rattle.hp_laws.proofs.steps.Outcomes.{either_way, reply_of}
use Rattle.hp_laws.proofs.steps.RefusalsKeep.{refusals_change_nothing}
use Rattle.hp_laws.proofs.steps.Whole.{is_early, is_whole, step_of}
use Rattle.hp_model.specs.machine.Footprint.{IsButNodes, ChangesRefused, at_each, frames_in, of_others, with_maps}
use Rattle.hp_laws.proofs.footprint.Landings.{event_lands, here_all, with_itself}
use Rattle.hp_laws.proofs.footprint.NodeFrames.{frames, nodes_have, rows_have, setting}
use Rattle.hp_laws.proofs.footprint.Ranges.{at_each_is, at_each_none}
use Rattle.hp_laws.proofs.footprint.Walks.{same_but}

-- ---- what every event leaves

-- the page's size, the frames of each node, and as many slots
record Alike (s t : State) : Type 0 where
  pub size : t.page_size ≡ s.page_size
  pub frames : frames_in t ≡ frames_in s
  pub slots : length t.slots ≡ length s.slots

alike_then : (s m t : State) → Alike s m → Alike m t → Alike s t
alike_then s m t a b = record { size = b.size ∙ a.size; frames = b.frames ∙ a.frames; slots = b.slots ∙ a.slots }

alike_same : (s t : State) → t ≡ s → Alike s t
alike_same s t e = record { size = ap (λ x. x.page_size) e; frames = ap frames_in e; slots = ap (λ x. length x.slots) e }

pool_frames : (p : Pool) (e : PoolEvent) → frames (pool_event p e).1.nodes.rows ≡ frames p.nodes.rows
pool_frames p (pool.Nr n) = setting n p
pool_frames p e = grind arith

-- nothing is said of the outcome
abbrev Any : Outcome → Type 0
Any o = Unit {0}

event_alike : (e : Event) (s : State) (reply : Reply) (t : State) → IsEvent s e reply t → Alike s t
event_alike (Tasks e) s reply t is = subst (λ (x : Reply × State). Alike s x.1) is.2 (record { size = refl; frames = refl; slots = refl })
event_alike (OnPool e) s reply t is =
    subst (λ (x : Reply × State). Alike s x.1) is.2
    (record { size = refl; frames = nodes_have (pool_event (pool_of s) e).1.nodes.rows ∙ pool_frames (pool_of s) e ∙ rows_have s 0 s.nodes; slots = refl })
event_alike (OnSlot k e) s reply t is =
    let l = event_lands Any s k e reply t (λ c fresh. here_all s (λ o. tt) _) is in
    let x : Slot = left_by (slot_at s k) l.outcome in
    record { size = ap (λ y. y.page_size) l.left.0; frames = l.left.1; slots = ap (λ y. length y.slots) l.left.0 ∙ length-set s.slots k x }

script_alike : (x : Script) (s : State) (reply : Reply) (t : State) → IsScript s x reply t → Alike s t
script_alike (Answer_with r) s reply t is = alike_same s t is.1
script_alike (Do e next) s reply t is = alike_then s is.1 t (event_alike e s is.0 is.1 is.2) (script_alike (next is.0) is.1 reply t is.3)
script_alike (Where_mapped k task mapped other) s reply t is =
    either_way (has_maps_of task (slot_at s k)) (λ it. script_alike mapped s reply t it) (λ it. script_alike other s reply t it) is

-- ---- a fork

but_nodes : (u t : State) → t.page_size ≡ u.page_size → t.table ≡ u.table → t.slots ≡ u.slots → t.nr ≡ u.nr → t.overcommit ≡ u.overcommit
    → t ≡ record u { nodes = t.nodes; growth = t.growth; release = t.release }
but_nodes u t size table slots nr overcommit =
    ap (λ x. record t { page_size = x }) size
    ∙ ap (λ x. record t { page_size = u.page_size; table = x }) table
    ∙ ap (λ x. record t { page_size = u.page_size; table = u.table; slots = x }) slots
    ∙ ap (λ x. record t { page_size = u.page_size; table = u.table; slots = u.slots; nr = x }) nr
    ∙ ap (λ x. record u { overcommit = x; nodes = t.nodes; growth = t.growth; release = t.release }) overcommit

module _ (s : State) (st : IsSettledState s) where
  module _ (parent child : ℕ) (r : Refusal) (t : State) where
    abbrev Undone : Type 0
    Undone = (done : ℕ → Bool) × IsButNodes (record s { slots = at_each (λ k slot. if done k then option_map (with_maps (of_others child)) slot else slot) 0 s.slots }) t

    -- whether the child's old maps are gone from the slot
    abbrev is_undone : (old new : Slot) → IsForkLeft child old new → Bool
    is_undone old new (inl same) = false
    is_undone old new (inr less) = true

    undone_is : (old new : Slot) (left : IsForkLeft child old new) → new ≡ (if is_undone old new left then option_map (with_maps (of_others child)) old else old)
    undone_is old new (inl same) = same
    undone_is old new (inr less) = less

    undone : is_known s.table child ≡ false → IsScripted s (step.Fork parent child) (Err r) t → Undone
    undone unknown is =
        let left = fork_refused s st parent child r t is in
        let alike = script_alike (script (length s.slots) (step.Fork parent child)) s (Err r) t is in
        let done : ℕ → Bool = λ k. is_undone (slot_at s k) (slot_at t k) (left.slots k) in
        let becomes : ℕ → Slot → Slot = λ k slot. if done k then option_map (with_maps (of_others child)) slot else slot in
        let slots : t.slots ≡ at_each becomes 0 s.slots =
        at_each_is becomes None 0 s.slots t.slots alike.slots
        (λ i n e low. subst (λ j. slot_at t i ≡ becomes j (slot_at s i)) (let same : i ≡ n = omega (arith, e) in same) (undone_is (slot_at s i) (slot_at t i) (left.slots i))) in
        (done, (but_nodes (record s { slots = at_each becomes 0 s.slots }) t alike.size left.table slots left.nr left.overcommit, alike.frames))

    by_known : {P Q : Type 0} (b : Bool) → (b ≡ true → P) → (b ≡ false → Q) → MatchBool b P Q
    by_known b f g = grind arith

    pub fork_refuses : IsScripted s (step.Fork parent child) (Err r) t → ChangesRefused s (step.Fork parent child) r t
    fork_refuses is = by_known (is_known s.table child) (λ known. fork_known s parent child r t known is) (λ unknown. undone unknown is)

    pub fork_same : t ≡ s → ChangesRefused s (step.Fork parent child) r t
    fork_same e = by_known (is_known s.table child) (λ known. e)
        (λ unknown. (λ k. false, subst (λ slots. IsButNodes (record s { slots = slots }) t) (sym (at_each_none 0 s.slots)) (same_but s t e)))

  -- ---- all others

  pub exit_refuses : (task : ℕ) (r : Refusal) (t : State) → IsScripted s (step.Exit task) (Err r) t → ChangesRefused s (step.Exit task) r t
  exit_refuses task r t is = exit_refused s task r t is

  late : (k : ℕ) (options : List ℕ) (r : Refusal) (t : State) → IsEvent s (OnSlot k (slot.Mount options)) (Err r) t → IsButNodes s t
  late k options r t is =
      let l = event_lands Any s k (slot.Mount options) (Err r) t (λ c fresh. here_all s (λ o. tt) _) is in
      by_outcome l.outcome l.replied l.left
    where
      by_outcome : (o : Outcome) → Err r ≡ reply_of o → IsButNodes (with_slot s k (left_by (slot_at s k) o)) t → IsButNodes s t
      by_outcome (Refused q) e left = subst (λ x. IsButNodes x t) (with_itself s k) left
      by_outcome (Answered a new) e left = (let never : Err r ≡ Ok a = e in cc)

  mount_refuses : (k : ℕ) (options : List ℕ) (r : Refusal) (t : State) → IsEvent s (OnSlot k (slot.Mount options)) (Err r) t → ChangesRefused s (step.Mount k options) r t
  mount_refuses k options OutOfMemory t is = late k options OutOfMemory t is
  mount_refuses k options r t is = refusals_change_nothing s (OnSlot k (slot.Mount options)) r t st is

  pub event_refuses : (e : Event) (r : Refusal) (t : State) → is_whole e ≡ true → IsEvent s e (Err r) t → ChangesRefused s (step_of e) r t
  event_refuses (OnSlot k (slot.Mount options)) r t whole is = mount_refuses k options r t is
  event_refuses (Tasks (table.FindAndAdd parent child)) r t whole is = cc
  event_refuses (OnSlot k (slot.ForkMaps parent child)) r t whole is = cc
  event_refuses (OnPool pool.Meminfo) r t whole is = refusals_change_nothing s (OnPool pool.Meminfo) r t st is
  event_refuses e r t whole is = refusals_change_nothing s e r t st is

  pub early_refuses : (x : Step) (r : Refusal) → is_early r ≡ true → ChangesRefused s x r s
  early_refuses (step.Fork parent child) r early = fork_same parent child r s refl
  early_refuses x r early = grind arith
