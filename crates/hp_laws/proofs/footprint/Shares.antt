-- An access through a shared map, and what an access comes to by whether its map is shared.
use Rattle.std.proofs.Common.{arith, ◌≡◌, subst, ℕ, Bool, true, false, Some, List, refl, sym, ap, ◌∙◌, if◌then◌else◌, MatchBool, slice_set}
use Rattle.std.proofs.lemmas.List.{set-get_or}
use Rattle.hp_laws.proofs.Variants.{Answer, Cell, Entered, Hole, Intent, Place, Present}
use Rattle.hp_model.proofs.Words.{Answered, Copy, Choice, IsFresh, IsSoundFile, Mount, Outcome, Page, Refused, Slot, Spot, State, access}
use Rattle.hp_model.proofs.Words.{cell_at, copy_of, filled, has_page, is_shared, place_at, private_access, shared_access}
use Rattle.hp_model.proofs.Words.{slot_at, with_cell, with_file, with_slot, zeros}
use Rattle.hp_laws.proofs.counts.MountMoves.{IsSpot}
use Rattle.hp_model.specs.machine.Footprint.{IsButNodes, IsCopyAccess, IsFileAccess, IsSharedAccess}
use Rattle.hp_laws.proofs.footprint.Copies.{Exactly, Newly, copies_go, exact_copies, new_copies}
use Rattle.hp_laws.proofs.footprint.Landings.{Either, either_granted, either_reserved, either_weaker, leaves}
use Rattle.hp_laws.proofs.footprint.Ranges.{file_itself}
use Rattle.hp_laws.proofs.footprint.Walks.{same_but}

abbrev pub as_it_was : List ℕ → List ℕ
as_it_was old = old

module _ (s : State) (k : ℕ) (m : Mount) (p : Spot) (i : ℕ) where
  -- ---- through a shared map

  abbrev pub with_page : Page → Mount
  with_page page = with_file m p.file_no (with_cell p.file i (Present page))

  abbrev pub Filled : (List ℕ → List ℕ) → Cell Page → Slot → Type 0
  Filled w cell new = (page : Page) × IsFileAccess s.page_size cell w page × (new ≡ Some (with_page page))

  abbrev pub Bare : (List ℕ → List ℕ) → Cell Page → Slot → Type 0
  Bare w cell new = (has_page cell ≡ false) × Filled w cell new

  shares_exact : (w : List ℕ → List ℕ) (t : State) (new : Slot) → Filled w (cell_at p.file i) new → t ≡ with_slot s k new → IsSharedAccess s k m p i w t
  shares_exact w t new h left =
      (h.0, h.1, leaves s k t new (with_page h.0) h.2 (same_but (with_slot s k new) t left), λ has. subst (λ (x : State). x ≡ record s { slots = x.slots }) (sym left) refl)

  shares_new : (w : List ℕ → List ℕ) (t : State) (new : Slot) → Bare w (cell_at p.file i) new → IsButNodes (with_slot s k new) t → IsSharedAccess s k m p i w t
  shares_new w t new h left =
      (h.1.0, h.1.1, leaves s k t new (with_page h.1.0) h.1.2 left, λ has. (let never : true ≡ false = sym has ∙ h.0 in cc))

  -- ---- the outcomes of an access, by whether the map is shared

  abbrev pub Ends : Bool → Intent → (List ℕ → List ℕ) → Outcome → Type 0
  Ends b intent w (Refused r) = Unit {0}
  Ends b intent w (Answered a new) = MatchBool b (Filled w (cell_at p.file i) new) (Exactly s k m p i intent w (place_at p.map i) (copy_of (place_at p.map i)) new)

  abbrev pub Takes : Bool → Intent → (List ℕ → List ℕ) → Outcome → Type 0
  Takes b intent w (Refused r) = Unit {0}
  Takes b intent w (Answered a new) = MatchBool b (Bare w (cell_at p.file i) new) (Newly s k m p i intent w (place_at p.map i) (copy_of (place_at p.map i)) new)

  module _ (at : IsSpot m p) where
    page_itself : (page : Page) → cell_at p.file i ≡ Present page → m ≡ with_page page
    page_itself page e =
        sym (ap (λ cells. with_file m p.file_no (record p.file { cells = cells })) (ap (λ c. slice_set p.file.cells i c) (sym e) ∙ set-get_or p.file.cells i Hole)
        ∙ file_itself m p.file_no p.file at.file)

    module _ (c : Choice) (home : ℕ) where
      abbrev F : Cell Page → Outcome → Type 0
      F cell (Refused r) = Unit {0}
      F cell (Answered a new) = Filled as_it_was cell new

      abbrev A : Cell Page → Outcome → Type 0
      A cell (Refused r) = Unit {0}
      A cell (Answered a new) = Bare as_it_was cell new

      shared_goes : (cell : Cell Page) → cell_at p.file i ≡ cell → Either s (F cell) (A cell) (shared_access c s.page_size m p home i cell)
      shared_goes (Present page) e = (page, refl, ap Some (page_itself page e))
      shared_goes Entered e =
          either_reserved s (F Entered) (A Entered) home (λ node. filled m p i (record { node = node; bytes = zeros s.page_size }))
          (λ node. (refl, (record { node = node; bytes = zeros s.page_size }, refl, refl)))
      shared_goes Hole e =
          either_granted s (F Hole) (A Hole) (λ r. tt) (λ r. tt) c m home (λ node. filled m p i (record { node = node; bytes = zeros s.page_size }))
          (λ node. (refl, (record { node = node; bytes = zeros s.page_size }, refl, refl)))

      abbrev place : Place Copy
      place = place_at p.map i

      abbrev G : (Slot → Type 0) → Outcome → Type 0
      G P (Refused r) = Unit {0}
      G P (Answered a new) = P new

      pub access_goes : IsSoundFile p.file → IsFresh c (Some m) → (intent : Intent)
          → Either s (Ends (is_shared p.map.sharing) intent as_it_was) (Takes (is_shared p.map.sharing) intent as_it_was) (access c s.page_size m p home i intent)
      access_goes sound fresh intent = by_sharing (is_shared p.map.sharing)
        where
          by_sharing : (b : Bool) → Either s (Ends b intent as_it_was) (Takes b intent as_it_was)
              (if b then shared_access c s.page_size m p home i (cell_at p.file i) else private_access c s.page_size m p home i (place_at p.map i) intent)
          by_sharing true =
              either_weaker s (F (cell_at p.file i)) (A (cell_at p.file i)) (Ends true intent as_it_was) (Takes true intent as_it_was)
              (λ o. elim o as (λ o. F (cell_at p.file i) o → Ends true intent as_it_was o) [ Refused r ↦ λ h. h | Answered a new ↦ λ h. h ])
              (λ o. elim o as (λ o. A (cell_at p.file i) o → Takes true intent as_it_was o) [ Refused r ↦ λ h. h | Answered a new ↦ λ h. h ])
              (shared_access c s.page_size m p home i (cell_at p.file i)) (shared_goes (cell_at p.file i) refl)
          by_sharing false =
              either_weaker s (G (Exactly s k m p i intent as_it_was place (copy_of place))) (G (Newly s k m p i intent as_it_was place (copy_of place)))
              (Ends false intent as_it_was) (Takes false intent as_it_was)
              (λ o. elim o as (λ o. G (Exactly s k m p i intent as_it_was place (copy_of place)) o → Ends false intent as_it_was o) [ Refused r ↦ λ h. h | Answered a new ↦ λ h. h ])
              (λ o. elim o as (λ o. G (Newly s k m p i intent as_it_was place (copy_of place)) o → Takes false intent as_it_was o) [ Refused r ↦ λ h. h | Answered a new ↦ λ h. h ])
              (private_access c s.page_size m p home i place intent) (copies_go s k m p i at sound c fresh home intent place refl)

  -- ---- that is what the step changes

  match_weaker : {P Q R S : Type 0} (b : Bool) → (P → R) → (Q → S) → MatchBool b P Q → MatchBool b R S
  match_weaker b f g h = grind arith

  module _ (there : slot_at s k ≡ Some m) (intent : Intent) (w : List ℕ → List ℕ) (t : State) (a : Answer) (new : Slot) where
    abbrev Accesses : Type 0
    Accesses = MatchBool (is_shared p.map.sharing) (IsSharedAccess s k m p i w t) (IsCopyAccess s k m p i intent w (copy_of (place_at p.map i)) t)

    pub ends_so : Ends (is_shared p.map.sharing) intent w (Answered a new) → t ≡ with_slot s k new → Accesses
    ends_so h left = match_weaker (is_shared p.map.sharing) (λ x. shares_exact w t new x left) (λ x. exact_copies s k m p i there w t new intent (copy_of (place_at p.map i)) x left) h

    pub takes_so : Takes (is_shared p.map.sharing) intent w (Answered a new) → IsButNodes (with_slot s k new) t → Accesses
    takes_so h left = match_weaker (is_shared p.map.sharing) (λ x. shares_new w t new x left) (λ x. new_copies s k m p i there w t new intent (copy_of (place_at p.map i)) x left) h
