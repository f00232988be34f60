use Rattle.std.proofs.lemmas.Grind.{common_steps}
-- Other limits for a mount, by what its door did.
use Rattle.std.proofs.Common.{◌≡◌, ℕ, ◌-◌, ◌==◌, true, false, Option, Some, Result as ResultOf, Ok, Err, List, refl, sym, ap, subst, ◌∙◌, arith, if◌then◌else◌, max, nat_lt}
use Rattle.hp_laws.proofs.Variants.{Done, Limits, PoolAnswer, ReadAndGiveBack, ReadAndGrant, Refusal, Section}
use Rattle.hp_model.specs.declared.event.SlotEvent.TheVariants.{Remount}
use Rattle.hp_model.specs.declared.refusal.Refusal.TheVariants as r
use Rattle.hp_model.proofs.Words.{Answered, Ask, Gives, Mount, Plan, Refused, Reply, Slot, ThroughDoor, limits, refuse, remount, remount_outcome, remount_section, wanted_of}
use Rattle.hp_mount_door.specs.Limits.{IsLimitedAt, IsLimitedBy, minimum_section}
use Rattle.hp_lookup.proofs.Words.{Files}
use Rattle.hp_mount_laws.specs.Done.{Enters, IsDone}
use Rattle.hp_mount_laws.specs.Kept.{IsKept, mount_from}
use Rattle.hp_mount_laws.proofs.Ways.{fresh_choice, is_fresh}
use Rattle.hp_subpool.specs.Subpool.{Subpool, with_limits}

-- the refusal, as another reply
as_reply : (e x : Refusal) → ◌≡◌ {A = ResultOf (Option ℕ) Refusal} (Err e) (Err x) → ◌≡◌ {A = Reply} (Err e) (Err x)
as_reply e x is = (let same : e ≡ x = cc in ap (λ y. Err y) same)

module _ {X : Type 0} (took : X → Section → PoolAnswer → X → Type 0) (full : X → Type 0) (size : ℕ) (text : List ℕ) (s new : Subpool) (door left : X) where
  abbrev means : ℕ → ResultOf Limits Refusal
  means nr = limits nr size (wanted_of text)

  -- ---- the mount

  module _ (v : Files) (inodes : Option ℕ) (kept : IsKept s v (mount_from s inodes v.files)) (k : ℕ) (apart : (k == 0) ≡ false) where
    abbrev m : Mount
    m = mount_from s inodes v.files

    abbrev asks : Plan
    asks = Ask (λ nr. remount_section m (means nr)) (λ a. remount_outcome m a (means a.nr))

    plan_is : remount size k m text ≡ asks
    plan_is = ap (λ b. if b then refuse r.SlotTaken else asks) apart

    -- the share's section is the mount's
    section_is : (l : Limits) → minimum_section s l.min ≡ remount_section m (Ok l)
    section_is l =
        ap (λ u. if nat_lt (max u l.min) (max u s.min) then ReadAndGiveBack (max u s.min - max u l.min) else ReadAndGrant (max u l.min - max u s.min)) kept.used

    through : (nr : ℕ) (sec : Section) (a : PoolAnswer) (x : ResultOf Limits Refusal) (reply : Reply) (n : Slot) → means nr ≡ x → a.nr ≡ nr → sec ≡ remount_section m x
        → took door sec a left → Gives (remount_outcome m a x) (Some m) reply n → ThroughDoor took (remount size k m text) (Some m) door reply n left
    through nr sec a x reply n wanted told same t gives = grind (arith, common_steps, plan_is)

    -- refused, whatever the pool granted
    refusal_is : (l : Limits) (a : PoolAnswer) (e : Refusal) (n : Slot) → a.granted ≡ false → e ≡ r.NoPages → n ≡ Some m → Gives (remount_outcome m a (Ok l)) (Some m) (Err e) n
    refusal_is l a e n denied is same =
        subst (λ b. Gives (if b then Answered Done (Some (record m { limits = l })) else Refused r.NoPages) (Some m) (Err e) n) (sym denied) (ap (λ y. Err y) is, same)

    answer_is : (l : Limits) (a : PoolAnswer) (n : Slot) → a.granted ≡ true → n ≡ Some (record m { limits = l }) → Gives (remount_outcome m a (Ok l)) (Some m) (Ok Done) n
    answer_is l a n granted same = subst (λ b. Gives (if b then Answered Done (Some (record m { limits = l })) else Refused r.NoPages) (Some m) (Ok Done) n) (sym granted) (refl, same)

    pub remount_refused : (e : Refusal) → IsLimitedAt took full size text s new door left (Err e)
        → IsDone took full size k (Some m) door (Remount text) (Err e) (Some (mount_from new inodes v.files)) left
    remount_refused r.TraceFull h = (
      ap (λ x. Some (mount_from x inodes v.files)) h.0,
      (h.1, h.2),
      (fresh_choice false (Some m), is_fresh false (Some m), subst Enters (sym plan_is) tt),
    )
    remount_refused e h = (fresh_choice false (Some m), is_fresh false (Some m), by_limits (means h.0) refl h.3)
      where
        by_limits : (x : ResultOf Limits Refusal) → means h.0 ≡ x → IsLimitedBy x h.0 s new (Err e) h.1 h.2
            → ThroughDoor took (remount size k m text) (Some m) door (Err e) (Some (mount_from new inodes v.files)) left
        by_limits (Err x) wanted by =
            through h.0 h.1 h.2 (Err x) (Err e) _ wanted (ap (λ (a : PoolAnswer). a.nr) by.3) by.2 h.4
            (as_reply e x by.0, ap (λ y. Some (mount_from y inodes v.files)) by.1)
        by_limits (Ok l) wanted by =
            through h.0 h.1 h.2 (Ok l) (Err e) _ wanted (ap (λ (a : PoolAnswer). a.nr) by.3) (by.2 ∙ section_is l) h.4
            (refusal_is l h.2 e _ (ap (λ (a : PoolAnswer). a.granted) by.3) by.0 (ap (λ y. Some (mount_from y inodes v.files)) by.1))

    pub remount_set : (files : Option ℕ) → IsLimitedAt took full size text s new door left (Ok files)
        → IsDone took full size k (Some m) door (Remount text) (Ok Done) (Some (mount_from new files v.files)) left
    remount_set files h = (fresh_choice false (Some m), is_fresh false (Some m), by_limits (means h.0) refl h.3)
      where
        by_limits : (x : ResultOf Limits Refusal) → means h.0 ≡ x → IsLimitedBy x h.0 s new (Ok files) h.1 h.2
            → ThroughDoor took (remount size k m text) (Some m) door (Ok Done) (Some (mount_from new files v.files)) left
        by_limits (Err x) wanted by = (let never : Ok files ≡ Err x = by.0 in cc)
        by_limits (Ok l) wanted by =
            through h.0 h.1 h.2 (Ok l) (Ok Done) _ wanted (ap (λ (a : PoolAnswer). a.nr) by.3) (by.2 ∙ section_is l) h.4
            (answer_is l h.2 _ (ap (λ (a : PoolAnswer). a.granted) by.3)
            (ap (λ y. Some (mount_from y files v.files)) by.1 ∙ ap (λ y. Some (mount_from (with_limits l.max l.min s) y v.files)) by.0))

  -- ---- what the share keeps

  counts : (got : ResultOf (Option ℕ) Refusal) → IsLimitedAt took full size text s new door left got → (new.pages ≡ s.pages) × (new.held ≡ s.held)
  counts (Err r.TraceFull) h = (ap (λ (x : Subpool). x.pages) h.0, ap (λ (x : Subpool). x.held) h.0)
  counts (Err e) h = by_limits (means h.0) h.3
    where
      by_limits : (x : ResultOf Limits Refusal) → IsLimitedBy x h.0 s new (Err e) h.1 h.2 → (new.pages ≡ s.pages) × (new.held ≡ s.held)
      by_limits (Err x) by = (ap (λ (x : Subpool). x.pages) by.1, ap (λ (x : Subpool). x.held) by.1)
      by_limits (Ok l) by = (ap (λ (x : Subpool). x.pages) by.1, ap (λ (x : Subpool). x.held) by.1)
  counts (Ok files) h = by_limits (means h.0) h.3
    where
      by_limits : (x : ResultOf Limits Refusal) → IsLimitedBy x h.0 s new (Ok files) h.1 h.2 → (new.pages ≡ s.pages) × (new.held ≡ s.held)
      by_limits (Err x) by = (let never : Ok files ≡ Err x = by.0 in cc)
      by_limits (Ok l) by = (ap (λ (x : Subpool). x.pages) by.1, ap (λ (x : Subpool). x.held) by.1)

  pub relimited_kept : (v : Files) (inodes later : Option ℕ) (got : ResultOf (Option ℕ) Refusal) → IsKept s v (mount_from s inodes v.files)
      → IsLimitedAt took full size text s new door left got → IsKept new v (mount_from new later v.files)
  relimited_kept v inodes later got kept h = grind (arith, common_steps, counts)
