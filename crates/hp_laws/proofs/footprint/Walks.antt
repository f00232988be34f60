-- What an exit and a fork change: the slots on which the task has maps, one after another.
use Rattle.std.proofs.Common.{arith, ◌≡◌, subst, ℕ, ◌+◌, ◌==◌, not, filter, true, false, None, option_map, Ok, Err, List, [], ◌∷◌, ◌++◌, length, map, refl, sym, ap, ◌∙◌, if◌then◌else◌}
use Rattle.std.proofs.Common.{slice_index_or, slice_set}
use Rattle.std.specs.List.{range_with_len}
use Rattle.std.proofs.lemmas.List.{append_assoc, length-append, set-get_or}
use Rattle.std.proofs.Math.Seq.{get_or-append_seam, set-append_seam}
use Rattle.hp_laws.proofs.Variants.{Answer, Done, ExitMaps, ForkMaps, Slot as OnSlot, Tasks}
use Rattle.hp_model.specs.declared.event.SlotEvent.TheVariants as slot
use Rattle.hp_model.specs.declared.event.TableEvent.TheVariants as table
use Rattle.hp_model.specs.declared.step.Step.TheVariants as step
use Rattle.hp_model.proofs.Words.{Answer_with, Answered, Choice, IsEvent, IsScript, IsScripted, Mount, Outcome, Refused, Reply, Script, Slot, State, exit_slots, fork_slots, has_maps_of, home_of}
use Rattle.hp_model.proofs.Words.{or_undone, slot_at, slot_event}
use Rattle.hp_model.proofs.Words.{when_done, with_slot}
use Rattle.hp_laws.specs.Balance.{left_by}
use Rattle.hp_laws.proofs.ending.RefusedForks.{either_with}
use Rattle.hp_laws.proofs.keeping.SettingsKept.{undone_refused}
use Rattle.hp_laws.proofs.steps.Outcomes.{Always}
use Rattle.hp_model.specs.machine.Footprint.{Changes, IsButNodes, There, of_others, where_mapped, with_childs, with_maps}
use Rattle.hp_laws.proofs.footprint.Landings.{Comes, always_here, comes, event_lands, there_weaker}

pub same_but : (u t : State) → t ≡ u → IsButNodes u t
same_but u t e = subst (λ x. IsButNodes u x) (sym e) (refl, refl)

-- ---- slot by slot

module _ (task : ℕ) (g : Mount → Mount) where
  abbrev left_of : Slot → Slot
  left_of slot = if has_maps_of task slot then option_map g slot else slot

  -- the slots of these numbers, one after another
  abbrev walked : List ℕ → List Slot → List Slot
  walked [] slots = slots
  walked (k ∷ ks) slots = walked ks (slice_set slots k (left_of (slice_index_or slots k None)))

  then_walked : (ks : List ℕ) (u v t : State) → IsButNodes u v → IsButNodes (record v { slots = walked ks v.slots }) t → IsButNodes (record u { slots = walked ks u.slots }) t
  then_walked ks u v t a b = (b.0 ∙ ap (λ (x : State). record x { slots = walked ks x.slots; nodes = t.nodes; growth = t.growth; release = t.release }) a.0, b.1 ∙ a.1)

  on_mapped : (slot : Slot) → has_maps_of task slot ≡ true → left_of slot ≡ option_map g slot
  on_mapped slot has = ap (λ b. if b then option_map g slot else slot) has

  on_other : (slot : Slot) → has_maps_of task slot ≡ false → left_of slot ≡ slot
  on_other slot has = ap (λ b. if b then option_map g slot else slot) has

  goes_on : (k : ℕ) (ks : List ℕ) (u v t : State) → has_maps_of task (slot_at u k) ≡ true → IsButNodes (with_slot u k (option_map g (slot_at u k))) v
      → IsButNodes (record v { slots = walked ks v.slots }) t → IsButNodes (record u { slots = walked (k ∷ ks) u.slots }) t
  goes_on k ks u v t has here rest =
      then_walked ks (with_slot u k (left_of (slot_at u k))) v t (subst (λ x. IsButNodes (with_slot u k x) v) (sym (on_mapped (slot_at u k) has)) here) rest

  passes_by : (k : ℕ) (ks : List ℕ) (u t : State) → has_maps_of task (slot_at u k) ≡ false → IsButNodes (record u { slots = walked ks u.slots }) t
      → IsButNodes (record u { slots = walked (k ∷ ks) u.slots }) t
  passes_by k ks u t has rest =
      subst (λ slots. IsButNodes (record u { slots = walked ks slots }) t) (sym (ap (λ x. slice_set u.slots k x) (on_other (slot_at u k) has) ∙ set-get_or u.slots k None)) rest

  walked_all : (xs ys : List Slot) (j : ℕ) → length xs ≡ j → walked (range_with_len j (length ys)) (xs ++ ys) ≡ xs ++ map left_of ys
  walked_all xs [] j e = refl
  walked_all xs (y ∷ ys) j e =
      let at : slice_index_or (xs ++ y ∷ ys) j None ≡ y = subst (λ i. slice_index_or (xs ++ y ∷ ys) i None ≡ y) e (get_or-append_seam xs y ys None) in
      let put : slice_set (xs ++ y ∷ ys) j (left_of y) ≡ xs ++ left_of y ∷ ys = subst (λ i. slice_set (xs ++ y ∷ ys) i (left_of y) ≡ xs ++ left_of y ∷ ys) e (set-append_seam xs y ys (left_of y)) in
      let apart : (zs : List Slot) → xs ++ left_of y ∷ zs ≡ (xs ++ left_of y ∷ []) ++ zs = λ zs. sym (append_assoc xs (left_of y ∷ []) zs) in
      ap (λ x. walked (range_with_len (j + 1) (length ys)) (slice_set (xs ++ y ∷ ys) j (left_of x))) at
      ∙ ap (λ slots. walked (range_with_len (j + 1) (length ys)) slots) (put ∙ apart ys)
      ∙ walked_all (xs ++ left_of y ∷ []) ys (j + 1) (length-append xs (left_of y ∷ []) ∙ ap (λ n. n + 1) e)
      ∙ sym (apart (map left_of ys))

  -- after a change of the table alone, all slots
  after_table : (s u t : State) (table : List (ℕ × ℕ)) → u ≡ record s { table = table } → IsButNodes (record u { slots = walked (range_with_len 0 (length s.slots)) u.slots }) t
      → IsButNodes (record s { table = table; slots = where_mapped task g s.slots }) t
  after_table s u t table same is =
      subst (λ slots. IsButNodes (record s { table = table; slots = slots }) t) (walked_all [] s.slots 0 refl)
      (subst (λ (m : State). IsButNodes (record m { slots = walked (range_with_len 0 (length s.slots)) m.slots }) t) same is)

-- ---- an exit

module _ (task : ℕ) where
  -- a slot without maps of the task may have no mount
  abbrev Exits : Slot → Outcome → Type 0
  Exits old (Refused r) = has_maps_of task old ≡ false
  Exits old (Answered a new) = new ≡ option_map (with_maps (of_others task)) old

  exit_all : (size k : ℕ) (c : Choice) (old : Slot) → Always (Exits old) (slot_event size k c old (slot.ExitMaps task))
  exit_all size k c old = grind arith

  mapped_left : (old : Slot) (o : Outcome) → has_maps_of task old ≡ true → Exits old o → left_by old o ≡ option_map (with_maps (of_others task)) old
  mapped_left old o has h = grind arith

  pub exit_event : (u : State) (k : ℕ) (reply : Reply) (v : State) → has_maps_of task (slot_at u k) ≡ true → IsEvent u (OnSlot k (slot.ExitMaps task)) reply v
      → IsButNodes (with_slot u k (option_map (with_maps (of_others task)) (slot_at u k))) v
  exit_event u k reply v has is =
      let l = event_lands (Exits (slot_at u k)) u k (slot.ExitMaps task) reply v (λ c fresh. always_here u (Exits (slot_at u k)) _ (exit_all u.page_size k c (slot_at u k))) is in
      subst (λ x. IsButNodes (with_slot u k x) v) (mapped_left (slot_at u k) l.outcome has l.holds) l.left

  exits_walk : (ks : List ℕ) (u : State) (a : Answer) (t : State) → IsScript u (exit_slots ks task (Answer_with (Ok Done))) (Ok a) t
      → IsButNodes (record u { slots = walked task (with_maps (of_others task)) ks u.slots }) t
  exits_walk [] u a t is = same_but u t is.1
  exits_walk (k ∷ ks) u a t is =
      either_with (has_maps_of task (slot_at u k))
      (λ has it. goes_on task (with_maps (of_others task)) k ks u it.1 t has (exit_event u k it.0 it.1 has it.2) (exits_walk ks it.1 a t it.3))
      (λ has it. passes_by task (with_maps (of_others task)) k ks u t has (exits_walk ks u a t it)) is

removes : (s : State) (task : ℕ) (b : Answer) (mid : State) → IsEvent s (Tasks (table.Remove task)) (Ok b) mid → mid ≡ record s { table = filter (λ (e : ℕ × ℕ). not (e.0 == task)) s.table }
removes s task b mid e = grind arith

pub exit_changes : (s : State) (task : ℕ) (a : Answer) (t : State) → IsScripted s (step.Exit task) (Ok a) t → Changes s (step.Exit task) a t
exit_changes s task a t is = by_reply is.0 is.1 is.2 is.3
  where
    by_reply : (r : Reply) (mid : State) → IsEvent s (Tasks (table.Remove task)) r mid
        → IsScript mid (when_done r (exit_slots (range_with_len 0 (length s.slots)) task (Answer_with (Ok Done)))) (Ok a) t
        → Changes s (step.Exit task) a t
    by_reply (Err r) mid e it = (let never : Ok a ≡ Err r = it.0 in cc)
    by_reply (Ok b) mid e it =
        after_table task (with_maps (of_others task)) s mid t (filter (λ (e : ℕ × ℕ). not (e.0 == task)) s.table) (removes s task b mid e)
        (exits_walk task (range_with_len 0 (length s.slots)) mid a t it)

-- ---- a fork

module _ (parent child : ℕ) where
  abbrev childs_too : Mount → Mount
  childs_too = with_maps (with_childs parent child)

  fork_all : (size k : ℕ) (c : Choice) (old : Slot) → Always (Comes (λ a new. new ≡ option_map childs_too old)) (slot_event size k c old (slot.ForkMaps parent child))
  fork_all size k c old = grind arith

  fork_event : (u : State) (k : ℕ) (a : Answer) (v : State) → IsEvent u (OnSlot k (slot.ForkMaps parent child)) (Ok a) v → IsButNodes (with_slot u k (option_map childs_too (slot_at u k))) v
  fork_event u k a v is =
      let R : Answer → Slot → Type 0 = λ a new. new ≡ option_map childs_too (slot_at u k) in
      let l = comes R u k a v (slot.ForkMaps parent child) (λ c fresh. always_here u (Comes R) _ (fork_all u.page_size k c (slot_at u k))) is in
      subst (λ x. IsButNodes (with_slot u k x) v) l.1.0 l.1.1

  -- a fork that is answered was not undone
  done_on : (done : List ℕ) (q : Reply) (u : State) (k : ℕ) (v : State) (next : Script) (a : Answer) (t : State) (R : Type 0) → IsEvent u (OnSlot k (slot.ForkMaps parent child)) q v
      → IsScript v (or_undone done child q next) (Ok a) t → (IsButNodes (with_slot u k (option_map childs_too (slot_at u k))) v → IsScript v next (Ok a) t → R) → R
  done_on done (Err r) u k v next a t R is it h = absurd (undone_refused done child r a v t it)
  done_on done (Ok b) u k v next a t R is it h = h (fork_event u k b v is) it

  forks_walk : (ks done : List ℕ) (u : State) (a : Answer) (t : State) → IsScript u (fork_slots ks done parent child) (Ok a) t
      → IsButNodes (record u { slots = walked parent childs_too ks u.slots }) t
  forks_walk [] done u a t is = same_but u t is.1
  forks_walk (k ∷ ks) done u a t is =
      either_with (has_maps_of parent (slot_at u k))
      (λ has it. done_on done it.0 u k it.1 (fork_slots ks (done ++ k ∷ []) parent child) a t (IsButNodes (record u { slots = walked parent childs_too (k ∷ ks) u.slots }) t) it.2 it.3
      (λ here go. goes_on parent childs_too k ks u it.1 t has here (forks_walk ks (done ++ k ∷ []) it.1 a t go)))
      (λ has it. passes_by parent childs_too k ks u t has (forks_walk ks done u a t it)) is

  adds : (s : State) (b : Answer) (mid : State) → IsEvent s (Tasks (table.FindAndAdd parent child)) (Ok b) mid
      → There (home_of s.table parent) (λ home. mid ≡ record s { table = s.table ++ (child, home) ∷ [] })
  adds s b mid e = grind arith

  pub fork_changes : (s : State) (a : Answer) (t : State) → IsScripted s (step.Fork parent child) (Ok a) t → Changes s (step.Fork parent child) a t
  fork_changes s a t is = by_reply is.0 is.1 is.2 is.3
    where
      by_reply : (r : Reply) (mid : State) → IsEvent s (Tasks (table.FindAndAdd parent child)) r mid
          → IsScript mid (when_done r (fork_slots (range_with_len 0 (length s.slots)) [] parent child)) (Ok a) t
          → Changes s (step.Fork parent child) a t
      by_reply (Err r) mid e it = (let never : Ok a ≡ Err r = it.0 in cc)
      by_reply (Ok b) mid e it =
          there_weaker (λ home. mid ≡ record s { table = s.table ++ (child, home) ∷ [] })
          (λ home. IsButNodes (record s { table = s.table ++ (child, home) ∷ []; slots = where_mapped parent childs_too s.slots }) t) (home_of s.table parent)
          (λ home known same. after_table parent childs_too s mid t (s.table ++ (child, home) ∷ []) same (forks_walk (range_with_len 0 (length s.slots)) [] mid a t it)) (adds s b mid e)
