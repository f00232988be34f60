-- What a mount and a remount change: the limits are those that the options mean at the nr that stands.
use Rattle.std.proofs.Common.{arith, ◌≡◌, subst, ℕ, ◌==◌, None, Some, Ok, Err, Result as ResultOf, List, [], refl, sym}
use Rattle.hp_laws.proofs.Variants.{Answer, Limits, PoolAnswer, Refusal, Slot as OnSlot, SlotTaken}
use Rattle.hp_model.specs.declared.event.SlotEvent.TheVariants as slot
use Rattle.hp_model.specs.declared.step.Step.TheVariants as step
use Rattle.hp_model.proofs.Words.{Choice, IsEvent, Mount, Outcome, Pool, Slot, State, limits, mount_outcome, mount_pages, mount_section, pool_of, refuse, remount_outcome, remount_section}
use Rattle.hp_model.proofs.Words.{section, slot_at, slot_event}
use Rattle.hp_model.proofs.Words.{wanted_of}
use Rattle.hp_laws.proofs.steps.SlotsBalanced.{remount_tells, tells_nr}
use Rattle.hp_laws.proofs.steps.Walk.{remounting}
use Rattle.std.proofs.lemmas.Bool.{cond_both}
use Rattle.hp_model.specs.machine.Footprint.{Changes, IsOfLimits, LeavesMount, There}
use Rattle.hp_laws.proofs.footprint.Landings.{Comes, Here, comes, leaves, there_weaker}

limited_weaker : (P Q : Limits → Type 0) → ((l : Limits) → P l → Q l) → (l : ResultOf Limits Refusal) → IsOfLimits l P → IsOfLimits l Q
limited_weaker P Q h (Ok l) is = h l is
limited_weaker P Q h (Err r) is = is

-- ---- a mount

abbrev Mounted : ResultOf Limits Refusal → Slot → Type 0
Mounted l new = IsOfLimits l (λ x. new ≡ Some (record { limits = x; files = [] }))

mount_made : (c : Choice) (a : PoolAnswer) (l : ResultOf Limits Refusal) → Comes (λ answer new. Mounted l new) (mount_outcome c a l)
mount_made c a l = grind arith

module _ (s : State) (k : ℕ) (options : List ℕ) where
  abbrev wanted : ResultOf Limits Refusal
  wanted = limits s.nr s.page_size (wanted_of options)

  abbrev Opens : Answer → Slot → Type 0
  Opens a new = (slot_at s k ≡ None) × Mounted wanted new

  opens : (o : Outcome) → slot_at s k ≡ None → Comes (λ answer new. Mounted wanted new) o → Comes Opens o
  opens o none h = grind arith

  mount_all : (c : Choice) (old : Slot) → slot_at s k ≡ old → Here s (Comes Opens) (slot_event s.page_size k c old (slot.Mount options))
  mount_all c (Some m) there = tt
  mount_all c None there =
      let d : ℕ = mount_pages c wanted in
      let q : PoolAnswer × Pool = section (pool_of s) (mount_section c d) in
      subst (λ nr. Comes Opens (mount_outcome c q.0 (limits nr s.page_size (wanted_of options)))) (sym (tells_nr (pool_of s) c.after_grant d))
      (opens (mount_outcome c q.0 wanted) there (mount_made c q.0 wanted))

  pub mount_changes : (a : Answer) (t : State) → IsEvent s (OnSlot k (slot.Mount options)) (Ok a) t → Changes s (step.Mount k options) a t
  mount_changes a t is =
      let l = comes Opens s k a t (slot.Mount options) (λ c fresh. mount_all c (slot_at s k) refl) is in (
        l.1.0.0,
        limited_weaker (λ x. l.0 ≡ Some (record { limits = x; files = [] })) (λ x. LeavesMount s k (record { limits = x; files = [] }) t)
            (λ x e. leaves s k t l.0 (record { limits = x; files = [] }) e l.1.1) wanted l.1.0.1,
      )

  -- ---- a remount

  abbrev Limits_of : Slot → Answer → Slot → Type 0
  Limits_of old a new = There old (λ m. IsOfLimits wanted (λ x. new ≡ Some (record m { limits = x })))

  remount_made : (m : Mount) (a : PoolAnswer) (l : ResultOf Limits Refusal) → Comes (λ answer new. IsOfLimits l (λ x. new ≡ Some (record m { limits = x }))) (remount_outcome m a l)
  remount_made m a l = grind arith

  remount_all : (c : Choice) (old : Slot) → Here s (Comes (Limits_of old)) (slot_event s.page_size k c old (slot.Remount options))
  remount_all c None = tt
  remount_all c (Some m) =
      let q : PoolAnswer × Pool = section (pool_of s) (remount_section m wanted) in
      cond_both (k == 0) (refuse SlotTaken) (remounting s.page_size m options) (Here s (Comes (Limits_of (Some m)))) (λ first. tt)
      (λ e. subst (λ nr. Comes (Limits_of (Some m)) (remount_outcome m q.0 (limits nr s.page_size (wanted_of options)))) (sym (remount_tells (pool_of s) m wanted)) (remount_made m q.0 wanted))

  pub remount_changes : (a : Answer) (t : State) → IsEvent s (OnSlot k (slot.Remount options)) (Ok a) t → Changes s (step.Remount k options) a t
  remount_changes a t is =
      let l = comes (Limits_of (slot_at s k)) s k a t (slot.Remount options) (λ c fresh. remount_all c (slot_at s k)) is in
      there_weaker (λ m. IsOfLimits wanted (λ x. l.0 ≡ Some (record m { limits = x }))) (λ m. IsOfLimits wanted (λ x. LeavesMount s k (record m { limits = x }) t)) (slot_at s k)
      (λ m there h. limited_weaker (λ x. l.0 ≡ Some (record m { limits = x })) (λ x. LeavesMount s k (record m { limits = x }) t)
      (λ x e. leaves s k t l.0 (record m { limits = x }) e l.1.1) wanted h) l.1.0
