-- What each step leaves of mounts, names and numbers, and of the tasks, nr and overcommit: by the footprint, in one walk over the steps.
use Rattle.std.proofs.Common.{if◌then◌else◌, ◌&&◌, ◌<◌, ◌==◌, ◌∙◌, ◌≡◌, Bool, Err, List, None, Ok, Some, ap, arith, false, inl, inr, length, map, nat_le, not, refl, slice_set, subst, sym, true, ℕ}
use Rattle.std.proofs.Common.{[], get_or}
use Rattle.std.proofs.lemmas.Bool.{cond_both, eq-eqb, eqb-false, eqb-true}
use Rattle.std.proofs.lemmas.List.{get_or-set_other, get_or-set_same, length-map, length-set}
use Rattle.std.specs.Str.{bytes_eq}
use Rattle.hp_laws.proofs.Variants.{Answer, Intent, OutOfMemory, Read, Refusal, Write, Present}
use Rattle.hp_model.proofs.Words.{Copy, File, MeetsTests, Mount, Reply, Slot, Spot, State, byte_tests, cell_at, fault_tests, file_forked, file_named, file_without, has_name, home_of, is_in}
use Rattle.hp_model.proofs.Words.{is_live, is_map, limits, map_named, new_file, place_at, slot_at, spot, spot_on, wanted_of, with_file, with_new, with_slot, zeros, with_cell, with_map}
use Rattle.hp_model.specs.declared.step.Step.{Step}
use Rattle.hp_model.specs.declared.step.Step.TheVariants as step
use Rattle.hp_model.specs.machine.Footprint.{Changes, ChangesRefused, HasFootprint, IsButNodes, LeavesMount, cut_from, cut_out, losing, of_others, over, with_bytes, with_copy_there, with_edit}
use Rattle.hp_model.specs.machine.Footprint.{with_map_made, with_maps, with_pages_there, map_made, unmapped, with_childs}
use Rattle.hp_laws.proofs.counts.MountMoves.{file_at, spot_is}
use Rattle.hp_laws.proofs.ending.Cuts.{cut_keeps, from_cut, out_cut, unlink_keeps}
use Rattle.hp_laws.proofs.ending.Unmaps.{same_keeps, swept_keeps, task_keeps, unmap_keeps}
use Rattle.hp_laws.proofs.follows.Accessed.{back_keeps, file_bytes, own_keeps, shared_keeps}
use Rattle.hp_laws.proofs.follows.Gone.{in_range}
use Rattle.hp_laws.proofs.follows.Quiet.{anon_quiet, file_quiet, made_quiet, there_quiet}
use Rattle.hp_laws.proofs.follows.Set.{Left, Unset, by_state, connect_set, exit_set, fork_same, fork_set, itself, refused_unset, unset}
use Rattle.hp_laws.proofs.follows.Slots.{exit_to, fork_back, fork_to, limits_all, number_all, there_all, leaves_to}
use Rattle.hp_laws.proofs.follows.Stays.{Stays, edited_stays, maps_stay, more_stays, never, one_more, put_stays, some_maps, stays_same}
use Rattle.hp_laws.proofs.follows.Ways.{Ways, access_all}
use Rattle.hp_laws.proofs.footprint.Endings.{unmapped_is}
use Rattle.hp_laws.proofs.footprint.Ranges.{put_all}
use Rattle.hp_laws.proofs.footprint.Walks.{same_but}
use Rattle.hp_laws.proofs.lists.Places.{found_place}
use Rattle.hp_laws.proofs.names.Accessed.{file_put}
use Rattle.hp_laws.proofs.names.ByPlace.{PlaceKeeps, Quiet, by_place, quiet_keeps}
use Rattle.hp_laws.proofs.names.Changes.{Effect, IsIdle, Never, SlotKeeps, effect}
use Rattle.hp_laws.proofs.names.Follows.{fork_follows, is_not_of, thin_follows, is_open}
use Rattle.hp_laws.proofs.names.Meanings.{placed_map, placed_new, placed_same}
use Rattle.hp_laws.proofs.names.Placed.{Placed}
use Rattle.hp_laws.specs.Follows.{IsLostTo, IsTakenBy, LosesTo, is_at, is_ended_number, is_on, is_shared_of, map_on, means_file, reaches, seen_over, shown_on, stays_mapped, stored_over}
use Rattle.hp_laws.specs.Follows.{is_relimited}
use Rattle.hp_laws.proofs.follows.Slots as Slots

-- a slot that was not open, and one of which all ends
nothing_kept : (size : ℕ) (e : Effect) (y : Slot) → SlotKeeps size None e y Never
nothing_kept size e y = record { names = λ name i f stays named. cc; numbers = λ t u i p stays found. cc; together = λ a b p o stay_a stay_b found_a found_b. cc }

all_end : (size : ℕ) (x : Slot) (e : Effect) (y : Slot) → ((name : List ℕ) → e.ends_name name ≡ true) → ((t u : ℕ) → e.ends_number t u ≡ true) → SlotKeeps size x e y Never
all_end size x e y names numbers = record {
  names = λ name i f stays named. (let never : true ≡ false = sym (names name) ∙ stays in cc);
  numbers = λ t u i p stays found. (let never : true ≡ false = sym (numbers t u) ∙ stays in cc);
  together = λ a b p o stay_a stay_b found_a found_b. (let never : true ≡ false = sym (numbers a.0 a.1) ∙ stay_a in cc);
}

module _ (s t : State) where
  abbrev Kept : Step → Reply → ℕ → Type 0
  Kept x reply j = SlotKeeps s.page_size (slot_at s j) (effect s x reply j) (slot_at t j) (λ p q i. LosesTo s x t j p q i)

  abbrev AllKept : Step → Reply → Type 0
  AllKept x reply = (j : ℕ) → Kept x reply j

  -- mounts and files, and what the slots keep; and the tasks, nr and overcommit
  abbrev R : Step → Reply → ℕ → Slot → Slot → Type 0
  R x reply j old new = Stays (is_relimited x reply j) (is_on x j) old new

  r_same : (x : Step) (reply : Reply) (j : ℕ) (y : Slot) → R x reply j y y
  r_same x reply j y = stays_same (is_relimited x reply j) (is_on x j) y

  abbrev pub All : Step → Reply → Type 0
  All x reply = ((j : ℕ) → R x reply j (slot_at s j) (slot_at t j)) × AllKept x reply × Left s t x reply

  -- a step makes nothing of the slots that it is not on
  off_stored : (x : Step) (reply : Reply) (j : ℕ) → is_on x j ≡ false → (file i : ℕ) (old : List ℕ) → old ≡ stored_over s x reply j file i old
  off_stored x reply j off file i old = grind arith

  off_seen : (x : Step) (reply : Reply) (j : ℕ) → is_on x j ≡ false → (file map i : ℕ) (old : List ℕ) → old ≡ seen_over s x reply j file map i old
  off_seen x reply j off file map i old = grind arith

  at_rest : (x : Step) (reply : Reply) (j : ℕ) → IsIdle (effect s x reply j) → slot_at t j ≡ slot_at s j → Kept x reply j
  at_rest x reply j idle same =
      subst (λ y. SlotKeeps s.page_size (slot_at s j) (effect s x reply j) y (λ p q i. LosesTo s x t j p q i)) (sym same)
      (same_keeps s.page_size (slot_at s j) (effect s x reply j) idle (λ p q i. LosesTo s x t j p q i))

  -- the slots are as they were
  unmoved : (x : Step) (reply : Reply) → ((j : ℕ) → IsIdle (effect s x reply j)) → t.slots ≡ s.slots → Left s t x reply → All x reply
  unmoved x reply idle e left = (Slots.at_rest (R x reply) (r_same x reply) s t e, λ j. at_rest x reply j (idle j) (ap (λ (xs : List Slot). get_or xs j None) e), left)

  unchanged : (x : Step) (reply : Reply) → ((j : ℕ) → IsIdle (effect s x reply j)) → Unset s t x reply → t ≡ s → All x reply
  unchanged x reply idle none e = unmoved x reply idle (ap (λ u. u.slots) e) (unset s t x reply none (itself s t e))

  refused_idle : (x : Step) (r : Refusal) (j : ℕ) → IsIdle (effect s x (Err r) j)
  refused_idle x r j = record { stored = λ file i old. stored file i old; seen = λ file map i old. sees file map i old }
    where
      stored : (file i : ℕ) (old : List ℕ) → old ≡ stored_over s x (Err r) j file i old
      stored file i old = grind arith

      sees : (file map i : ℕ) (old : List ℕ) → old ≡ seen_over s x (Err r) j file map i old
      sees file map i old = grind arith

  -- a step on the slot k
  record Row (x : Step) (reply : Reply) (k : ℕ) : Type 0 where
    pub on : (j : ℕ) → is_on x j ≡ (k == j)
    pub unset : Unset s t x reply

  module _ (k : ℕ) (x : Step) (reply : Reply) (row : Row x reply k) where
    -- what is kept of that slot, and the others as they were
    on_slot : (y : Slot) → IsButNodes (with_slot s k y) t → Kept x reply k → AllKept x reply
    on_slot y left here j = by_test (k == j) refl
      where
        by_test : (b : Bool) → (k == j) ≡ b → Kept x reply j
        by_test true same = subst (λ o. Kept x reply o) (eqb-true k j same) here
        by_test false apart =
            at_rest x reply j (record { stored = off_stored x reply j (row.on j ∙ apart); seen = off_seen x reply j (row.on j ∙ apart) })
            (ap (λ (u : State). slot_at u j) left.0 ∙ get_or-set_other s.slots k j y None (λ same. eqb-false k j apart (sym same)))

    one_slot : (y : Slot) → IsButNodes (with_slot s k y) t → R x reply k (slot_at s k) y → Kept x reply k → All x reply
    one_slot y left stays here =
        (leaves_to (R x reply) (r_same x reply) s t k y left stays, on_slot y left here, unset s t x reply row.unset (by_state s t (with_slot s k y) left refl refl refl refl))

    is_here : is_on x k ≡ true
    is_here = row.on k ∙ eq-eqb k k refl

    module _ (m : Mount) (is : slot_at s k ≡ Some m) where
      slot_now : (y : Slot) → IsButNodes (with_slot s k y) t → slot_at t k ≡ y
      slot_now y left = ap (λ (u : State). slot_at u k) left.0 ∙ get_or-set_same s.slots k y None (in_range s k m is)

      mounted : (y : Slot) → IsButNodes (with_slot s k y) t → R x reply k (Some m) y → SlotKeeps s.page_size (Some m) (effect s x reply k) y (λ p q i. LosesTo s x t k p q i) → All x reply
      mounted y left stays here =
          one_slot y left (subst (λ o. R x reply k o y) (sym is) stays)
          (subst (λ o. SlotKeeps s.page_size o (effect s x reply k) (slot_at t k) (λ p q i. LosesTo s x t k p q i)) (sym is)
          (subst (λ o. SlotKeeps s.page_size (Some m) (effect s x reply k) o (λ p q i. LosesTo s x t k p q i)) (sym (slot_now y left)) here))

  ended : (k : ℕ) → (k == k) ≡ true
  ended k = eq-eqb k k refl

  off : (k : ℕ) (P : Type 0) → (k == k) ≡ false → P
  off k P e = (let never : true ≡ false = sym (ended k) ∙ e in cc)

  -- ---- an access

  module _ (k task number i : ℕ) (x : Step) (a : Answer) (row : Row x (Ok a) k) (intent : Intent) (w : List ℕ → List ℕ) (m : Mount) (p : Spot)
      (is : slot_at s k ≡ Some m) (found : spot m (is_map task number) ≡ Some p)
      (stores : (j y : ℕ) (old : List ℕ) → (if (i == y) && is_shared_of (Some p) j then w old else old) ≡ stored_over s x (Ok a) k j y old)
      (sees : (j l y : ℕ) (old : List ℕ) → (if (i == y) && reaches (Some p) (map_on (Some m) j l) j l y then w old else old) ≡ seen_over s x (Ok a) k j l y old)
      (reads : intent ≡ Read → (j : ℕ) → IsIdle (effect s x (Ok a) j))
      (lost : (r q : Spot) (y : ℕ) → intent ≡ Write → IsTakenBy s t k task number i r q y → LosesTo s x t k r q y) where
    -- the file has as many maps
    put : (f : File) → length f.maps ≡ length p.file.maps → R x (Ok a) k (Some m) (Some (with_file m p.file_no f))
    put f many =
        put_stays (is_relimited x (Ok a) k) (is_on x k) (is_here k x (Ok a) row) m p.file_no f
        (some_maps f (let within = (spot_is m (is_map task number) p found).map.within in omega (arith, many, within)))

    access_keeps : is_live (place_at p.map i) ≡ true → i < length p.file.cells → Ways s k m p i intent w t → All x (Ok a)
    access_keeps live low (inl same) = unchanged x (Ok a) (reads same.1) row.unset same.0
    access_keeps live low (inr (inl shared)) =
        mounted k x (Ok a) row m is _ shared.1.2 (put (with_cell p.file i (Present shared.1.0)) refl)
        (shared_keeps s.page_size k task number i w m p found (effect s x (Ok a) k) (λ r q y. LosesTo s x t k r q y) stores sees live low shared.0 shared.1.0
        (file_bytes s.page_size (cell_at p.file i) w shared.1.0 shared.1.1))
    access_keeps live low (inr (inr (inl own))) =
        mounted k x (Ok a) row m is _ own.3 (put (with_map p.file p.map_no (with_copy_there p i own.1)) (length-set p.file.maps p.map_no _))
        (own_keeps s.page_size k task number i w m p found (effect s x (Ok a) k) (λ r q y. LosesTo s x t k r q y) stores sees live low own.0 own.1 own.2)
    access_keeps live low (inr (inr (inr taken))) =
        let c : Copy = taken.2 in
        let maps = put_all (losing c.stamp i) (with_copy_there p i (with_bytes w c)) p.map_no p.file.maps in
        let n : Mount = with_file m p.file_no (record p.file { maps = slice_set (map (losing c.stamp i) p.file.maps) p.map_no (with_copy_there p i (with_bytes w c)) }) in
        let left : IsButNodes (with_slot s k (Some n)) t =
        subst (λ ms. IsButNodes (with_slot s k (Some (with_file m p.file_no (record p.file { maps = ms })))) t) (sym maps) (same_but _ t taken.4.2) in
        mounted k x (Ok a) row m is _ left (put _ (length-set (map (losing c.stamp i) p.file.maps) p.map_no _ ∙ length-map p.file.maps (losing c.stamp i)))
        (back_keeps s.page_size k task number i w m p found (effect s x (Ok a) k) (λ r q y. LosesTo s x t k r q y) stores sees live low c taken.1 taken.3 taken.4.0
        (λ r q y gone. lost r q y taken.0
        (subst (λ o. IsLostTo (map_named s k task number) (spot_on o task number) i r q y) (sym (slot_now k x (Ok a) row m is _ left))
        (subst (λ o. IsLostTo (spot_on o task number) (spot n (is_map task number)) i r q y) (sym is)
        (subst (λ o. IsLostTo o (spot n (is_map task number)) i r q y) (sym found) gone)))))

  -- ---- steps on a mount

  module _ (k : ℕ) (x : Step) (a : Answer) (row : Row x (Ok a) k) (m : Mount) (is : slot_at s k ≡ Some m) where
    abbrev E : Effect
    E = effect s x (Ok a) k

    quiet_on : (n : Mount) → IsIdle E → LeavesMount s k n t → ((b c : Bool) → c ≡ true → Stays b c (Some m) (Some n)) → Placed m n → Quiet s.page_size m n → All x (Ok a)
    quiet_on n idle left stays same quiet =
        mounted k x (Ok a) row m is (Some n) left (stays (is_relimited x (Ok a) k) (is_on x k) (is_here k x (Ok a) row))
        (quiet_keeps s.page_size m n E (λ p q i. LosesTo s x t k p q i) idle same quiet)

    -- the file at a place is another, or gone
    edited : (f : ℕ × File) (g : File) → LeavesMount s k (with_edit m f.0 g) t
        → (SlotKeeps s.page_size (Some m) E (Some (with_edit m f.0 g)) Never → SlotKeeps s.page_size (Some m) E (Some (with_edit m f.0 g)) (λ p q i. LosesTo s x t k p q i))
        → PlaceKeeps s.page_size m E (with_file m f.0 g) Never → All x (Ok a)
    edited f g left fits keeps =
        mounted k x (Ok a) row m is _ left (edited_stays (is_relimited x (Ok a) k) (is_on x k) (is_here k x (Ok a) row) m f.0 g)
        (fits (swept_keeps s.page_size (Some m) E (with_file m f.0 g) (by_place s.page_size m (with_file m f.0 g) E Never keeps)))

  -- a test of the slot
  test_here : (k : ℕ) (m : Mount) → slot_at s k ≡ Some m → (c : Slot → Bool) (u v : List ℕ) → (if c (Some m) then u else v) ≡ (if (k == k) && c (slot_at s k) then u else v)
  test_here k m is c u v = ap (λ b. if b && c (Some m) then u else v) (sym (ended k)) ∙ ap (λ o. if (k == k) && c o then u else v) (sym is)

  either : (b : Bool) (old : List ℕ) → (if b then old else old) ≡ old
  either b old = cond_both b old old (λ v. v ≡ old) (λ e. refl) (λ e. refl)

  fault_lost : (k task number i : ℕ) (intent : Intent) (r q : Spot) (y : ℕ) → intent ≡ Write → IsTakenBy s t k task number i r q y → LosesTo s (step.Fault task k number i intent) t k r q y
  fault_lost k task number i Read r q y e gone = (let never : Read ≡ Write = e in cc)
  fault_lost k task number i Write r q y e gone = (refl, gone)

  -- where a step ends maps of a task, or makes some for a child
  module _ (x : Step) (reply : Reply) (gone : ℕ) (idle : (j : ℕ) → IsIdle (effect s x reply j)) (ends : (j t u : ℕ) → is_ended_number s x reply j t u ≡ (gone == t)) where
    abbrev Faded : ℕ → Slot → Slot → Type 0
    Faded j old new = SlotKeeps s.page_size old (effect s x reply j) new Never

    same : (j : ℕ) (y : Slot) → Faded j y y
    same j y = same_keeps s.page_size y (effect s x reply j) (idle j) Never

    others : (j : ℕ) (m : Mount) → Faded j (Some m) (Some (with_maps (of_others gone) m))
    others j m = task_keeps s.page_size m (effect s x reply j) (idle j) gone (ends j) (file_without gone) (thin_follows (is_not_of gone))

    exits : (a : Answer) → Changes s (step.Exit gone) a t → (j : ℕ) → Faded j (slot_at s j) (slot_at t j)
    exits a is = exit_to Faded same s t gone others a is

    forks : (parent : ℕ) (a : Answer) → Changes s (step.Fork parent gone) a t → (j : ℕ) → Faded j (slot_at s j) (slot_at t j)
    forks parent a is =
        fork_to Faded same s t gone others parent (λ j m. task_keeps s.page_size m (effect s x reply j) (idle j) gone (ends j) (file_forked parent gone) (fork_follows parent gone)) a is

    undoes : (parent : ℕ) (r : Refusal) → ChangesRefused s (step.Fork parent gone) r t → (j : ℕ) → Faded j (slot_at s j) (slot_at t j)
    undoes parent r is = fork_back Faded same s t gone others parent r is

  -- what is answered
  answered_kept : (x : Step) (a : Answer) → Changes s x a t → MeetsTests s x (Ok a) → All x (Ok a)
  answered_kept (step.Connect new home) a is met =
      unmoved (step.Connect new home) (Ok a) (λ j. record { stored = λ f i old. refl; seen = λ f l i old. refl }) (ap (λ u. u.slots) is) (connect_set s t new home a met is)
  answered_kept (step.Overcommit n) a is met =
      unmoved (step.Overcommit n) (Ok a) (λ j. record { stored = λ f i old. refl; seen = λ f l i old. refl }) (ap (λ u. u.slots) is)
      (record { homes = λ task. ap (λ x. home_of x.table task) is; nr = ap (λ x. x.nr) is; overcommit = ap (λ x. x.overcommit) is }, ap (λ x. x.page_size) is)
  answered_kept (step.Nr n) a is met =
      unmoved (step.Nr n) (Ok a) (λ j. record { stored = λ f i old. refl; seen = λ f l i old. refl }) (ap (λ u. u.slots) is.0)
      (record { homes = λ task. ap (λ x. home_of x.table task) is.0; nr = ap (λ x. x.nr) is.0; overcommit = ap (λ x. x.overcommit) is.0 }, ap (λ x. x.page_size) is.0)
  answered_kept (step.Fork parent child) a is met = (
    fork_to (R (step.Fork parent child) (Ok a)) (r_same (step.Fork parent child) (Ok a)) s t child (λ j m. maps_stay false true refl m (of_others child)) parent
        (λ j m. maps_stay false true refl m (with_childs parent child)) a is,
    forks (step.Fork parent child) (Ok a) child (λ j. record { stored = λ f i old. refl; seen = λ f l i old. refl }) (λ j t u. refl) parent a is,
    fork_set s t parent child a met is,
  )
  answered_kept (step.Exit task) a is met = (
    exit_to (R (step.Exit task) (Ok a)) (r_same (step.Exit task) (Ok a)) s t task (λ j m. maps_stay false true refl m (of_others task)) a is,
    exits (step.Exit task) (Ok a) task (λ j. record { stored = λ f i old. refl; seen = λ f l i old. refl }) (λ j t u. refl) a is,
    exit_set s t task a is,
  )
  answered_kept (step.Mount k options) a is met =
      limits_all _ (limits s.nr s.page_size (wanted_of options)) is.1 (λ l left. one_slot k (step.Mount k options) (Ok a)
      (record { on = λ j. refl; unset = record { homes = λ task. refl; nr = refl; overcommit = refl } }) _ left
      (subst (λ o. R (step.Mount k options) (Ok a) k o (Some (record { limits = l; files = [] }))) (sym is.0) (λ e. tt, λ e. refl, never _ _ (k == k) (ended k)))
      (subst (λ o. SlotKeeps s.page_size o (effect s (step.Mount k options) (Ok a) k) (slot_at t k) Never) (sym is.0) (nothing_kept s.page_size _ (slot_at t k))))
  answered_kept (step.Remount k options) a is met =
      there_all _ (slot_at s k) is (λ m at there. limits_all _ (limits s.nr s.page_size (wanted_of options)) there (λ l left.
      mounted k (step.Remount k options) (Ok a) (record { on = λ j. refl; unset = record { homes = λ task. refl; nr = refl; overcommit = refl } }) m at (Some (record m { limits = l })) left
      (λ e. off k _ e, λ e. e, never _ _ (k == k) (ended k))
      (quiet_keeps s.page_size m (record m { limits = l }) (effect s (step.Remount k options) (Ok a) k) Never (record { stored = λ f i old. refl; seen = λ f l i old. refl })
      (placed_same m (record m { limits = l }) refl) (record { cells = λ j x. refl; maps = λ j l x. refl; marks = λ j l. refl }))))
  answered_kept (step.Umount k) a is met =
      one_slot k (step.Umount k) (Ok a) (record { on = λ j. refl; unset = record { homes = λ task. refl; nr = refl; overcommit = refl } })
      None is (λ e. off k _ e, λ e. refl, never _ _ (k == k) (ended k))
      (all_end s.page_size (slot_at s k) (effect s (step.Umount k) (Ok a) k) (slot_at t k) (λ name. ended k) (λ t u. ended k))
  answered_kept (step.Create k name) a is met =
      there_all _ (slot_at s k) is (λ m at e.
      quiet_on k (step.Create k name) a (record { on = λ j. refl; unset = record { homes = λ task. refl; nr = refl; overcommit = refl } })
      m at (with_new m (new_file (Some name))) (record { stored = λ f i old. refl; seen = λ f l i old. refl })
      (same_but _ t e) (λ b c on. more_stays b c on m (new_file (Some name)) refl) (placed_new m (new_file (Some name))) (file_quiet s.page_size m name))
  answered_kept (step.Unlink k name) a is met =
      there_all _ (slot_at s k) is (λ m at there. there_all _ (file_named m name) there (λ f named left.
      edited k (step.Unlink k name) a (record { on = λ j. refl; unset = record { homes = λ task. refl; nr = refl; overcommit = refl } }) m at f (record f.1 { name = None }) left (λ h. h)
      (unlink_keeps s.page_size m name f named (effect s (step.Unlink k name) (Ok a) k) (record { stored = λ f i old. refl; seen = λ f l i old. refl })
      (λ other stays. ap (λ c. c && bytes_eq name other) (sym (ended k)) ∙ stays))))
  answered_kept (step.Truncate k name n) a is met =
      there_all _ (slot_at s k) is (λ m at there. there_all _ (file_named m name) there (λ f named left.
      edited k (step.Truncate k name n) a (record { on = λ j. refl; unset = record { homes = λ task. refl; nr = refl; overcommit = refl } }) m at f (cut_from n f.1) left (λ h. h)
      (cut_keeps s.page_size m name f named (cut_from n f.1) (nat_le n) (from_cut s.page_size n f.1) (effect s (step.Truncate k name n) (Ok a) k)
      (λ j y old. test_here k m at (λ o. means_file o name j && nat_le n y) (zeros s.page_size) old)
      (λ j l y old. test_here k m at (λ o. means_file o name j && nat_le n y) (zeros s.page_size) old))))
  answered_kept (step.Punch k name from to) a is met =
      there_all _ (slot_at s k) is (λ m at there. there_all _ (file_named m name) there (λ f named left.
      edited k (step.Punch k name from to) a (record { on = λ j. refl; unset = record { homes = λ task. refl; nr = refl; overcommit = refl } }) m at f (cut_out (is_in from to) f.1) left (λ h. h)
      (cut_keeps s.page_size m name f named (cut_out (is_in from to) f.1) (is_in from to) (out_cut s.page_size (is_in from to) f.1) (effect s (step.Punch k name from to) (Ok a) k)
      (λ j y old. test_here k m at (λ o. means_file o name j && is_in from to y) (zeros s.page_size) old)
      (λ j l y old. test_here k m at (λ o. means_file o name j && is_in from to y) (zeros s.page_size) old))))
  answered_kept (step.Preallocate k name from to) a is met =
      there_all _ (slot_at s k) is (λ m at there. there_all _ (file_named m name) there (λ f named it.
      (let here = file_at m (has_name name) f named in
      let g : File = with_pages_there s.page_size from to it.0 f.1 in
      quiet_on k (step.Preallocate k name from to) a (record { on = λ j. refl; unset = record { homes = λ task. refl; nr = refl; overcommit = refl } })
      m at (with_file m f.0 g) (record { stored = λ f i old. refl; seen = λ f l i old. refl }) it.1
      (λ b c on. put_stays b c on m f.0 g (is_open name g (found_place (has_name name) m.files f named).passes))
      (placed_same m (with_file m f.0 g) (file_put m f.0 f.1 g here.is refl)) (there_quiet s.page_size from to it.0 f.1 m f.0 here))))
  answered_kept (step.Map task k name from n sharing reserving) a is met =
      there_all _ (slot_at s k) is (λ m at there. there_all _ (file_named m name) there (λ f named new. number_all m task _ a new (λ number free left.
      (let here = file_at m (has_name name) f named in
      let g : File = with_map_made task number from n sharing reserving f.1 in
      quiet_on k (step.Map task k name from n sharing reserving) a (record { on = λ j. refl; unset = record { homes = λ task. refl; nr = refl; overcommit = refl } }) m at (with_file m f.0 g)
      (record { stored = λ f i old. refl; seen = λ f l i old. refl }) left (λ b c on. put_stays b c on m f.0 g (some_maps g (one_more f.1.maps (map_made task number from n sharing reserving))))
      (placed_map m task number from n sharing reserving free f here) (made_quiet s.page_size task number from n sharing reserving f.1 m f.0 here)))))
  answered_kept (step.Anon task n sharing reserving) a is met =
      there_all _ (slot_at s 0) is (λ m at new. number_all m task _ a new (λ number free left.
      (let g : File = with_map_made task number 0 n sharing reserving (new_file None) in
      quiet_on 0 (step.Anon task n sharing reserving) a (record { on = λ j. refl; unset = record { homes = λ task. refl; nr = refl; overcommit = refl } }) m at (with_new m g)
      (record { stored = λ f i old. refl; seen = λ f l i old. refl }) left (λ b c on. more_stays b c on m g (some_maps g (omega arith))) (placed_new m g)
      (anon_quiet s.page_size m task number 0 n sharing reserving))))
  answered_kept (step.Unmap task k number from to) a is met =
      there_all _ (slot_at s k) is (λ m at left. mounted k (step.Unmap task k number from to) (Ok a) (record { on = λ j. refl; unset = record { homes = λ task. refl; nr = refl; overcommit = refl } })
      m at _ left
      (maps_stay false (k == k) (ended k) m (unmapped task number from to))
      (subst (λ n. SlotKeeps s.page_size (Some m) (effect s (step.Unmap task k number from to) (Ok a) k) (Some n) Never) (unmapped_is task number from to m)
      (unmap_keeps s.page_size m task number from to (effect s (step.Unmap task k number from to) (Ok a) k)
      (λ t u. ap (λ c. c && ((task == t) && ((number == u) && not (stays_mapped (map_named s k t u) from to)))) (ended k)
      ∙ ap (λ o. (task == t) && ((number == u) && not (stays_mapped (spot_on o t u) from to))) at)
      (λ j y old. refl)
      (λ j l y old. test_here k m at (λ o. is_at (spot_on o task number) j l && is_in from to y) (shown_on s.page_size (Some m) j y) old
      ∙ ap (λ o. if (k == k) && (is_at (map_named s k task number) j l && is_in from to y) then shown_on s.page_size o j y else old) (sym at)))))
  answered_kept (step.Fault task k number i intent) a is met =
      access_all s t k task number i intent (λ old. old) (All (step.Fault task k number i intent) (Ok a))
      (λ m p at found live low way. access_keeps k task number i (step.Fault task k number i intent) a
      (record { on = λ j. refl; unset = record { homes = λ task. refl; nr = refl; overcommit = refl } }) intent (λ old. old) m p at found
      (λ j y old. either (((i == y) && is_shared_of (Some p) j)) old) (λ j l y old. either ((i == y) && reaches (Some p) (map_on (Some m) j l) j l y) old)
      (λ e j. record { stored = λ f i old. refl; seen = λ f l i old. refl }) (fault_lost k task number i intent) live low way)
      a (λ m p. fault_tests i p) (λ m p e. grind arith) (home_of s.table task) (slot_at s k) refl is met
  answered_kept (step.Load task k number i offset count) a is met =
      access_all s t k task number i Read (λ old. old) (All (step.Load task k number i offset count) (Ok a))
      (λ m p at found live low way. access_keeps k task number i (step.Load task k number i offset count) a
      (record { on = λ j. refl; unset = record { homes = λ task. refl; nr = refl; overcommit = refl } }) Read (λ old. old) m p at found
      (λ j y old. either (((i == y) && is_shared_of (Some p) j)) old) (λ j l y old. either ((i == y) && reaches (Some p) (map_on (Some m) j l) j l y) old)
      (λ e j. record { stored = λ f i old. refl; seen = λ f l i old. refl }) (λ r q y e gone. (let never : Read ≡ Write = e in cc)) live low way)
      a (λ m p. byte_tests s.page_size i offset count p) (λ m p e. grind arith) (home_of s.table task) (slot_at s k) refl is met
  answered_kept (step.Store task k number i offset bytes) a is met =
      access_all s t k task number i Write (over offset bytes) (All (step.Store task k number i offset bytes) (Ok a))
      (λ m p at found live low way. access_keeps k task number i (step.Store task k number i offset bytes) a
      (record { on = λ j. refl; unset = record { homes = λ task. refl; nr = refl; overcommit = refl } }) Write (over offset bytes) m p at found
      (λ j y old. ap (λ o. if (i == y) && is_shared_of o j then over offset bytes old else old) (sym found)
      ∙ test_here k m at (λ o. (i == y) && is_shared_of (spot_on o task number) j) (over offset bytes old) old)
      (λ j l y old. ap (λ o. if (i == y) && reaches o (map_on (Some m) j l) j l y then over offset bytes old else old) (sym found)
      ∙ test_here k m at (λ o. (i == y) && reaches (spot_on o task number) (map_on o j l) j l y) (over offset bytes old) old)
      (λ e j. (let never : Write ≡ Read = e in cc)) (λ r q y e gone. (refl, gone)) live low way)
      a (λ m p. byte_tests s.page_size i offset (length bytes) p) (λ m p e. grind arith) (home_of s.table task) (slot_at s k) refl is met
  answered_kept x a is met = unchanged x (Ok a) (λ j. record { stored = λ f i old. refl; seen = λ f l i old. refl }) (record { homes = λ task. refl; nr = refl; overcommit = refl }) is

  -- what is refused
  refused_kept : (x : Step) (r : Refusal) → ChangesRefused s x r t → All x (Err r)
  refused_kept (step.Mount k options) OutOfMemory is =
      let x : Step = step.Mount k options in
      unmoved x (Err OutOfMemory) (refused_idle x OutOfMemory) (ap (λ u. u.slots) is.0) (unset s t x (Err OutOfMemory) (refused_unset s t x OutOfMemory) (by_state s t s is refl refl refl refl))
  refused_kept (step.Fork parent child) r is = (
    fork_back (R (step.Fork parent child) (Err r)) (r_same (step.Fork parent child) (Err r)) s t child (λ j m. maps_stay false true refl m (of_others child)) parent r is,
    undoes (step.Fork parent child) (Err r) child (refused_idle (step.Fork parent child) r) (λ j t u. refl) parent r is,
    unset s t (step.Fork parent child) (Err r) (refused_unset s t (step.Fork parent child) r) (fork_same s t parent child r is),
  )
  refused_kept x r is = unchanged x (Err r) (refused_idle x r) (refused_unset s t x r) is

  pub all_kept : (x : Step) (reply : Reply) → MeetsTests s x reply → HasFootprint s x reply t → All x reply
  all_kept x (Ok a) met is = answered_kept x a is.0 met
  all_kept x (Err r) met is = refused_kept x r is
