-- Mount, remount and umount of a slot, by what its door did.
use Rattle.std.proofs.Common.{◌≡◌, ℕ, ◌==◌, Bool, true, false, cond, Option, None, Some, Ok, Err, List, [], refl, sym, ap, ◌∙◌, subst, Result, is_some}
use Rattle.std.proofs.lemmas.Bool.{cond_both}
use Rattle.hp_model.specs.declared.answer.Answer.TheVariants.{Done}
use Rattle.hp_model.specs.declared.event.SlotEvent.TheVariants.{Mount as Mounting, Remount, Umount}
use Rattle.hp_model.specs.declared.limits.Limits.{Limits}
use Rattle.hp_model.specs.declared.refusal.Refusal.{Refusal}
use Rattle.hp_model.specs.declared.refusal.Refusal.TheVariants as r
use Rattle.hp_model.specs.declared.section.PoolAnswer.{PoolAnswer}
use Rattle.hp_model.specs.declared.section.Section.{Section}
use Rattle.hp_model.specs.declared.section.Section.TheVariants.{ReadAndGrant}
use Rattle.hp_model.proofs.Words.{Choice, Gives, Mount, Plan, Reply, Slot, ThroughDoor, Wanted, checked, gives, has_maps, is_below_min, limits, limits_of, mount_outcome, mount_pages, refuse}
use Rattle.hp_model.proofs.Words.{slot_event, umount_tests, unless, wanted_of}
use Rattle.hp_mount_door.specs.Opened.{IsOpenedAt, IsShareOf}
use Rattle.hp_mount_laws.specs.Done.{IsDone}
use Rattle.hp_mount_laws.specs.Kept.{mount_from}
use Rattle.hp_mount_laws.proofs.Ways.{fresh_choice, is_fresh}
use Rattle.hp_subpool.specs.Subpool.{Subpool, opened}

-- ---- what a slot holds

pub none_mount : (x : Slot) → is_some x ≡ false → x ≡ None
none_mount None e = refl
none_mount (Some m) e = cc

pub some_mount : (x : Slot) → is_some x ≡ true → (m : Mount) × (x ≡ Some m)
some_mount None e = cc
some_mount (Some m) e = (m, refl)

-- ---- what an umount tests

abbrev umounts : ℕ → Mount → Plan
umounts k m = unless (umount_tests k m) (gives Done (Some m) None)

-- slot 0, or a slot with maps
busy : (k : ℕ) (m : Mount) (a b : Bool) → (k == 0) ≡ a → has_maps m ≡ b → ((a ≡ false) → b ≡ true) → umounts k m ≡ refuse r.Busy
busy k m true b e f h = ap (λ x. cond x (refuse r.Busy) (cond (has_maps m) (refuse r.Busy) (gives Done (Some m) None))) e
busy k m false b e f h = ap (λ x. cond x (refuse r.Busy) (cond (has_maps m) (refuse r.Busy) (gives Done (Some m) None))) e ∙ ap (λ x. cond x (refuse r.Busy) (gives Done (Some m) None)) (f ∙ h refl)

free : (k : ℕ) (m : Mount) → (k == 0) ≡ false → has_maps m ≡ false → gives Done (Some m) None ≡ umounts k m
free k m e f =
    sym (ap (λ x. cond x (refuse r.Busy) (cond (has_maps m) (refuse r.Busy) (gives Done (Some m) None))) e ∙ ap (λ x. cond x (refuse r.Busy) (gives Done (Some m) None)) f)

module _ {X : Type 0} (took : X → Section → PoolAnswer → X → Type 0) (full : X → Type 0) (size k : ℕ) where
  -- ---- umount

  pub unmounted_none : (d : X) → IsDone took full size k None d Umount (Err r.NoSuchSlot) None d
  unmounted_none d = (fresh_choice false None, is_fresh false None, ((refl, refl), refl))

  pub unmounted_busy : (m : Mount) (d : X) → ((k == 0) ≡ false → has_maps m ≡ true) → IsDone took full size k (Some m) d Umount (Err r.Busy) (Some m) d
  unmounted_busy m d h = (
    fresh_choice false (Some m),
    is_fresh false (Some m),
    subst (λ p. ThroughDoor took p (Some m) d (Err r.Busy) (Some m) d) (sym (busy k m (k == 0) (has_maps m) refl refl h)) ((refl, refl), refl),
  )

  pub unmounted : (m : Mount) (d e : X) → (k == 0) ≡ false → has_maps m ≡ false → ThroughDoor took (gives Done (Some m) None) (Some m) d (Ok Done) None e →
      IsDone took full size k (Some m) d Umount (Ok Done) None e
  unmounted m d e other no_maps t = (fresh_choice false (Some m), is_fresh false (Some m), subst (λ p. ThroughDoor took p (Some m) d (Ok Done) None e) (free k m other no_maps) t)

  -- ---- remount

  pub limits_none : (text : List ℕ) (d : X) → IsDone took full size k None d (Remount text) (Err r.NoSuchSlot) None d
  limits_none text d = (fresh_choice false None, is_fresh false None, ((refl, refl), refl))

  pub limits_first : (text : List ℕ) (m : Mount) (d : X) → k ≡ 0 → IsDone took full size k (Some m) d (Remount text) (Err r.SlotTaken) (Some m) d
  limits_first text m d first =
      let c : Choice = fresh_choice false (Some m) in (
        c,
        is_fresh false (Some m),
        subst (λ n. ThroughDoor took (slot_event size n c (Some m) (Remount text)) (Some m) d (Err r.SlotTaken) (Some m) d) (sym first) ((refl, refl), refl),
      )

  -- ---- mount

  pub taken : (text : List ℕ) (m : Mount) (d : X) → IsDone took full size k (Some m) d (Mounting text) (Err r.SlotTaken) (Some m) d
  taken text m d = (fresh_choice false (Some m), is_fresh false (Some m), ((refl, refl), refl))

module _ {X : Type 0} (took : X → Section → PoolAnswer → X → Type 0) (full : X → Type 0) (size : ℕ) (text : List ℕ) (d e : X) where
  abbrev choice : Choice
  choice = fresh_choice false None

  abbrev means : ℕ → Result Limits Refusal
  means nr = limits nr size (wanted_of text)

  abbrev told : Result (Subpool × Limits) Refusal → Reply
  told (Ok got) = Ok Done
  told (Err x) = Err x

  abbrev left_of : Result (Subpool × Limits) Refusal → Slot
  left_of (Ok got) = Some (mount_from got.0 got.1.inodes [])
  left_of (Err x) = None

  opens : (l : Result Limits Refusal) (nr : ℕ) (got : Result (Subpool × Limits) Refusal) (s : Section) (a : PoolAnswer) → IsShareOf l nr got s a →
      (s ≡ ReadAndGrant (mount_pages choice l)) × Gives (mount_outcome choice a l) None (told got) (left_of got)
  opens (Err x) nr got s a h = (h.1, subst (λ g. Gives (mount_outcome choice a (Err x)) None (told g) (left_of g)) (sym h.0) (refl, refl))
  opens (Ok l) nr (Ok got) s a h = (
    h.1,
    subst (λ y. Gives (mount_outcome choice y (Ok l)) None (Ok Done) (Some (mount_from got.0 got.1.inodes []))) (sym h.2)
        (refl, ap (λ (x : Subpool × Limits). Some (mount_from x.0 x.1.inodes [])) h.0),
  )
  opens (Ok l) nr (Err x) s a h = (h.1, subst (λ y. Gives (mount_outcome choice y (Ok l)) None (Err x) None) (sym h.2) (ap Err h.0, refl))

  nr_is : (l : Result Limits Refusal) (nr : ℕ) (got : Result (Subpool × Limits) Refusal) (s : Section) (a : PoolAnswer) → IsShareOf l nr got s a → a.nr ≡ nr
  nr_is (Err x) nr got s a h = ap (λ (y : PoolAnswer). y.nr) h.2
  nr_is (Ok l) nr (Ok got) s a h = ap (λ (y : PoolAnswer). y.nr) h.2
  nr_is (Ok l) nr (Err x) s a h = ap (λ (y : PoolAnswer). y.nr) h.2

  through : (k : ℕ) (got : Result (Subpool × Limits) Refusal) (nr : ℕ) (s : Section) (a : PoolAnswer) → IsShareOf (means nr) nr got s a → took d s a e →
      ThroughDoor took (slot_event size k choice None (Mounting text)) None d (told got) (left_of got) e
  through k got nr s a h t =
      let same : a.nr ≡ nr = nr_is (means nr) nr got s a h in
      let goes = opens (means nr) nr got s a h in (
        a,
        subst (λ n. took d (ReadAndGrant (mount_pages choice (means n))) a e) (sym same) (subst (λ x. took d x a e) goes.0 t),
        subst (λ n. Gives (mount_outcome choice a (means n)) None (told got) (left_of got)) (sym same) goes.1,
      )

  mounted : (k : ℕ) (got : Result (Subpool × Limits) Refusal) → IsOpenedAt took full size text d e got → IsDone took full size k None d (Mounting text) (told got) (left_of got) e
  mounted k (Ok got) o = (choice, is_fresh false None, through k (Ok got) o.0 o.1 o.2 o.3 o.4)
  mounted k (Err r.TraceFull) o = (refl, o, (choice, is_fresh false None, tt))
  mounted k (Err other) o = (choice, is_fresh false None, through k (Err other) o.0 o.1 o.2 o.3 o.4)

  -- so on a slot that had none, by what was got
  pub mounted_on : (k : ℕ) (old new : Slot) (got result : Result (Subpool × Limits) Refusal) → old ≡ None → new ≡ left_of got → result ≡ got → IsOpenedAt took full size text d e result
      → IsDone took full size k old d (Mounting text) (told got) new e
  mounted_on k old new got result none is same o =
      subst (λ x. IsDone took full size k x d (Mounting text) (told got) new e) (sym none)
      (subst (λ x. IsDone took full size k None d (Mounting text) (told got) x e) (sym is) (mounted k got (subst (λ r. IsOpenedAt took full size text d e r) same o)))

  -- ---- what a door opened

  module _ (got : Result (Subpool × Limits) Refusal) (o : IsOpenedAt took full size text d e got) where
    is_opened : (m : Result Limits Refusal) (nr : ℕ) (s : Subpool) (l : Limits) (sec : Section) (a : PoolAnswer) → IsShareOf m nr (Ok (s, l)) sec a → (n : Limits) × (s ≡ opened n.max n.min)
    is_opened (Err x) nr s l sec a h = (let same = h.0 in cc)
    is_opened (Ok n) nr s l sec a h = (n, ap (λ (y : Subpool × Limits). y.0) h.0)

    share_is : (s : Subpool) (l : Limits) → got ≡ Ok (s, l) → (n : Limits) × (s ≡ opened n.max n.min)
    share_is s l is =
        let t = subst (λ (y : Result (Subpool × Limits) Refusal). IsOpenedAt took full size text d e y) is o in
        is_opened (means t.0) t.0 s l t.1 t.2 t.3

    pub opened_pages : (s : Subpool) (l : Limits) → got ≡ Ok (s, l) → s.pages ≡ 0
    opened_pages s l is = ap (λ (y : Subpool). y.pages) (share_is s l is).1

    pub opened_held : (s : Subpool) (l : Limits) → got ≡ Ok (s, l) → s.held ≡ 0
    opened_held s l is = ap (λ (y : Subpool). y.held) (share_is s l is).1

  -- options are never refused for want of memory
  never_checked : (l : Limits) → checked l ≡ Err r.OutOfMemory → ⊥
  never_checked l = cond_both (is_below_min l.max l.min) (Err r.MinOverSize) (Ok l) (λ (x : Result Limits Refusal). x ≡ Err r.OutOfMemory → ⊥) (λ t e. cc) (λ t e. cc)

  never_means : (nr : ℕ) (w : Option Wanted) → limits nr size w ≡ Err r.OutOfMemory → ⊥
  never_means nr None e = cc
  never_means nr (Some w) e = never_checked (limits_of nr size w) e

  never_share : (l : Result Limits Refusal) (nr : ℕ) (s : Section) (a : PoolAnswer) → (l ≡ Err r.OutOfMemory → ⊥) → IsShareOf l nr (Err r.OutOfMemory) s a → ⊥
  never_share (Err x) nr s a not h = not (let same = h.0 in cc)
  never_share (Ok l) nr s a not h = (let same = h.0 in cc)

  pub never_memory : (x : Refusal) → IsOpenedAt took full size text d e (Err x) → ◌≡◌ {A = Reply} (Err x) (Err r.OutOfMemory) → ⊥
  never_memory r.OutOfMemory o is = never_share (means o.0) o.0 o.1 o.2 (never_means o.0 (wanted_of text)) o.3
  never_memory x o is = cc
