-- An access through a shared map, by what code did.
use Rattle.std.proofs.Common.{◌≡◌, ℕ, true, false, Some, Ok, Err, length, refl, sym, ap, subst, ◌∙◌}
use Rattle.hp_mount_door.specs.Door.{IsDoorRefusal}
use Rattle.hp_laws.proofs.Variants.{Cell, Done, Entered, GrantPage, Hole, PoolAnswer, Present, Refusal, Section, TakePage}
use Rattle.hp_model.specs.declared.refusal.Refusal.TheVariants as r
use Rattle.hp_model.proofs.Words.{Choice, File, IsFresh, Mount, Outcome, Page, Plan, Reply, Slot, Spot, ThroughDoor, cell_at, file_in, filled, grant_page, granted_at, is_full, no_pages, rise}
use Rattle.hp_model.proofs.Words.{shared_access, with_cell, with_file, zeros}
use Rattle.hp_mount_laws.specs.Done.{Enters, Through, Tried}
use Rattle.hp_mount_laws.specs.Reach.{IsFileTouched}
use Rattle.hp_mount_laws.proofs.Ways.{fresh_choice, is_fresh, page_full, page_without_memory, page_asks, page_denied, page_granted, page_reserved}

module _ {X : Type 0} (took : X → Section → PoolAnswer → X → Type 0) (full : X → Type 0) (size : ℕ) (m : Mount) (home k i : ℕ) (s : Spot)
    (no : s.file_no ≡ k) (file : s.file ≡ file_in m k) (door : X) where
  abbrev f : File
  f = file_in m k

  abbrev plan : Choice → Plan
  plan c = shared_access c size m s home i (cell_at s.file i)

  abbrev with_page_at : Page → Mount
  with_page_at page = with_file m k (with_cell f i (Present page))

  cell_here : (c : Cell Page) → cell_at f i ≡ c → cell_at s.file i ≡ c
  cell_here c e = ap (λ x. cell_at x i) file ∙ e

  filled_is : (page : Page) → with_file m s.file_no (with_cell s.file i (Present page)) ≡ with_page_at page
  filled_is page = ap (λ j. with_file m j (with_cell s.file i (Present page))) no ∙ ap (λ x. with_file m k (with_cell x i (Present page))) file

  -- a page is there
  pub shared_present : (page : Page) → cell_at f i ≡ Present page → Through took plan (Some m) door (Ok Done) (Some m) door
  shared_present page e =
      let c : Choice = fresh_choice false (Some m) in
      (c, is_fresh false (Some m), subst (λ x. ThroughDoor took (shared_access c size m s home i x) (Some m) door (Ok Done) (Some m) door) (sym (cell_here (Present page) e)) ((refl, refl), refl))

  -- by the entry
  pub shared_entered : (left : X) (page : Page) (n : Mount) → cell_at f i ≡ Entered → took door (TakePage home) (granted_at page.node) left →
      page.bytes ≡ zeros size → n ≡ with_page_at page → Through took plan (Some m) door (Ok Done) (Some n) left
  shared_entered left page n e t bytes n_is =
      let c : Choice = fresh_choice false (Some m) in (
        c,
        is_fresh false (Some m),
        subst (λ x. ThroughDoor took (shared_access c size m s home i x) (Some m) door (Ok Done) (Some n) left) (sym (cell_here Entered e))
            (page_reserved took m c home (λ node. filled m s i (record { node = node; bytes = zeros size })) door left page.node (Ok Done) (Some n) t
            (refl, ap Some (n_is ∙ sym (filled_is page) ∙ ap (λ b. with_file m s.file_no (with_cell s.file i (Present (record { node = page.node; bytes = b })))) bytes))),
      )

  -- refused by the door, as TraceFull alone
  pub entered_full : (left : X) (n : Mount) (x : Refusal) → cell_at f i ≡ Entered → IsDoorRefusal x ⊥ ((left ≡ door) × full left) → n ≡ m → Tried took full plan (Some m) door (Err x) (Some n) left
  entered_full left n r.TraceFull e t same = (
    ap Some same,
    t,
    (fresh_choice false (Some m), is_fresh false (Some m), subst (λ x. Enters (shared_access (fresh_choice false (Some m)) size m s home i x)) (sym (cell_here Entered e)) tt),
  )
  entered_full left n other e t same = absurd t

  abbrev made : ℕ → Outcome
  made node = filled m s i (record { node = node; bytes = zeros size })

  -- by a grant
  module _ (hole : cell_at f i ≡ Hole) where
    goes_as : (c : Choice) (reply : Reply) (new : Slot) (left : X) → IsFresh c (Some m) →
        ThroughDoor took (grant_page c m home (λ node. filled m s i (record { node = node; bytes = zeros size }))) (Some m) door reply new left →
        Through took plan (Some m) door reply new left
    goes_as c reply new left fresh h = (c, fresh, subst (λ x. ThroughDoor took (shared_access c size m s home i x) (Some m) door reply new left) (sym (cell_here Hole hole)) h)

    pub shared_full : is_full m 1 ≡ true → Through took plan (Some m) door (Err r.MountFull) (Some m) door
    shared_full e = goes_as (fresh_choice false (Some m)) (Err r.MountFull) (Some m) door (is_fresh false (Some m)) (page_full took m (fresh_choice false (Some m)) home made door e)

    pub shared_without_memory : (n : Mount) → is_full m 1 ≡ false → n ≡ m → Through took plan (Some m) door (Err r.OutOfMemory) (Some n) door
    shared_without_memory n e same = subst (λ x. Through took plan (Some m) door (Err r.OutOfMemory) (Some x) door) (sym same)
        (goes_as (fresh_choice true (Some m)) (Err r.OutOfMemory) (Some m) door (is_fresh true (Some m)) (page_without_memory took m (fresh_choice true (Some m)) home made door e refl))

    pub shared_granted : (left : X) (page : Page) (n : Mount) → is_full m 1 ≡ false →
        took door (GrantPage home (rise m 1)) (granted_at page.node) left → page.bytes ≡ zeros size → n ≡ with_page_at page →
        Through took plan (Some m) door (Ok Done) (Some n) left
    shared_granted left page n e t bytes n_is =
        goes_as (fresh_choice false (Some m)) (Ok Done) (Some n) left (is_fresh false (Some m))
        (page_granted took m (fresh_choice false (Some m)) home made door left page.node (Ok Done) (Some n) e refl t
        (refl, ap Some (n_is ∙ sym (filled_is page) ∙ ap (λ b. with_file m s.file_no (with_cell s.file i (Present (record { node = page.node; bytes = b })))) bytes)))

    pub shared_denied : (left : X) (n : Mount) (x : Refusal) → is_full m 1 ≡ false →
        IsDoorRefusal x (took door (GrantPage home (rise m 1)) no_pages left) ((left ≡ door) × full left) → n ≡ m →
        Tried took full plan (Some m) door (Err x) (Some n) left
    shared_denied left n r.NoPages e t same = subst (λ y. Through took plan (Some m) door (Err r.NoPages) (Some y) left) (sym same)
        (goes_as (fresh_choice false (Some m)) (Err r.NoPages) (Some m) left (is_fresh false (Some m)) (page_denied took m (fresh_choice false (Some m)) home made door left e refl t))
    shared_denied left n r.TraceFull e t same = (
      ap Some same,
      t,
      (
        fresh_choice false (Some m),
        is_fresh false (Some m),
        subst (λ x. Enters (shared_access (fresh_choice false (Some m)) size m s home i x))
            (sym (cell_here Hole hole)) (page_asks took m (fresh_choice false (Some m)) home made door e refl),
      ),
    )
    shared_denied left n other e t same = absurd t

-- ---- the file has as many indices, and the same maps

pub same_touched : (m n : Mount) (k : ℕ) → n ≡ m → IsFileTouched m n k
same_touched m n k e = record { files = ap (λ x. length x.files) e; maps = ap (λ x. length (file_in x k).maps) e; cells = ap (λ x. length (file_in x k).cells) e }
