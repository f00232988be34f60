-- What follows an access: a load tells what is there then, and a store writes into it.
use Rattle.std.proofs.Common.{◌≡◌, inl, inr, subst, ℕ, ◌-◌, Bool, true, false, None, Option, Some, List, refl, sym, ap, ◌∙◌, if◌then◌else◌, map, slice_set}
use Rattle.hp_laws.proofs.Variants.{Answer, Cell, Done, Entered, Hole, Live, Place, Present, Read, Write}
use Rattle.hp_model.proofs.Words.{Answered, Copy, File, Map, Mount, Outcome, Page, Refused, Slot, Spot, State}
use Rattle.hp_model.proofs.Words.{cell_at, cell_written, continued, copy_of, edit_at, file_written, is_shared, map_written, place_at, place_written}
use Rattle.hp_model.proofs.Words.{with_cell, with_file, with_map, written}
use Rattle.hp_model.specs.machine.Footprint.{IsFileAccess, is_spent, losing, over, with_bytes}
use Rattle.hp_laws.proofs.footprint.Copies.{Exactly, Newly, Taken, put, with_back, with_own}
use Rattle.hp_laws.proofs.footprint.Ranges.{edit_put}
use Rattle.hp_laws.proofs.footprint.Shares.{Ends, Filled, Takes, as_it_was, with_page}

module _ (s : State) (k : ℕ) (m : Mount) (p : Spot) (i : ℕ) where
  -- ---- a load tells what is there then, and a store writes it

  pub told : (b : Bool) (answer : Mount → Answer) (o : Outcome) → Ends s k m p i b Read as_it_was o → Ends s k m p i b Read as_it_was (continued (λ n. Answered (answer n) (Some n)) o)
  told b answer (Refused r) h = h
  told b answer (Answered a None) h = h
  told b answer (Answered a (Some n)) h = h

  pub told_new : (b : Bool) (answer : Mount → Answer) (o : Outcome) → Takes s k m p i b Read as_it_was o → Takes s k m p i b Read as_it_was (continued (λ n. Answered (answer n) (Some n)) o)
  told_new b answer (Refused r) h = h
  told_new b answer (Answered a None) h = h
  told_new b answer (Answered a (Some n)) h = h

  module _ (offset : ℕ) (bytes : List ℕ) where
    abbrev w : List ℕ → List ℕ
    w = over offset bytes

    abbrev writes : Mount → Outcome
    writes n = Answered Done (Some (written n p i offset bytes))

    -- what is written into a file that was put
    file_put : (f : File) → written (with_file m p.file_no f) p i offset bytes ≡ with_file m p.file_no (file_written p i offset bytes f)
    file_put f = ap (λ (files : List File). record m { files = files }) (edit_put (file_written p i offset bytes) m.files p.file_no f)

    abbrev with_list : List Map → File
    with_list maps = record p.file { maps = maps }

    abbrev with_cells : List (Cell Page) → File
    with_cells cells = record p.file { cells = cells }

    file_is : (b : Bool) → is_shared p.map.sharing ≡ b → (f : File) → file_written p i offset bytes f
        ≡ (if b then record f { cells = edit_at (cell_written offset bytes) f.cells i } else record f { maps = edit_at (map_written i offset bytes) f.maps p.map_no })
    file_is b e f = ap (λ b. if b then record f { cells = edit_at (cell_written offset bytes) f.cells i } else record f { maps = edit_at (map_written i offset bytes) f.maps p.map_no }) e

    maps_put : is_shared p.map.sharing ≡ false → (maps : List Map) (place : Place Copy) (c : Copy)
        → file_written p i offset bytes (with_list (slice_set maps p.map_no (put s k m p i place c))) ≡ with_list (slice_set maps p.map_no (put s k m p i place (with_bytes w c)))
    maps_put private maps place c =
        file_is false private (with_list (slice_set maps p.map_no (put s k m p i place c)))
        ∙ ap with_list (edit_put (map_written i offset bytes) maps p.map_no (put s k m p i place c)
        ∙ ap (λ (places : List (Place Copy)). slice_set maps p.map_no (record p.map { places = places }))
        (edit_put (place_written offset bytes) p.map.places (i - p.map.start) (Live (is_spent p.map place) (Some c))))

    own_written : is_shared p.map.sharing ≡ false → (place : Place Copy) (c : Copy) → written (with_own s k m p i place c) p i offset bytes ≡ with_own s k m p i place (with_bytes w c)
    own_written private place c = file_put (with_map p.file p.map_no (put s k m p i place c)) ∙ ap (λ f. with_file m p.file_no f) (maps_put private p.file.maps place c)

    back_written : is_shared p.map.sharing ≡ false → (place : Place Copy) (stamp : ℕ) (c : Copy)
        → written (with_back s k m p i place stamp c) p i offset bytes ≡ with_back s k m p i place stamp (with_bytes w c)
    back_written private place stamp c =
        file_put (record p.file { maps = slice_set (map (losing stamp i) p.file.maps) p.map_no (put s k m p i place c) })
        ∙ ap (λ f. with_file m p.file_no f) (maps_put private (map (losing stamp i) p.file.maps) place c)

    page_written : is_shared p.map.sharing ≡ true → (page : Page) → written (with_page s k m p i page) p i offset bytes ≡ with_page s k m p i (record page { bytes = w page.bytes })
    page_written shared page =
        file_put (with_cell p.file i (Present page))
        ∙ ap (λ x. with_file m p.file_no x)
        (file_is true shared (with_cells (slice_set p.file.cells i (Present page))) ∙ ap with_cells (edit_put (cell_written offset bytes) p.file.cells i (Present page)))

    -- of outcomes
    goes_over : (P : Outcome → Type 0) (a : Answer) (new : Slot) (n l : Mount) → new ≡ Some n → written n p i offset bytes ≡ l → P (Answered Done (Some l)) → P (continued writes (Answered a new))
    goes_over P a new n l e is h = subst (λ x. P (continued writes (Answered a x))) (sym e) (subst (λ x. P (Answered Done (Some x))) (sym is) h)

    page_over : (cell : Cell Page) (page : Page) → IsFileAccess s.page_size cell as_it_was page → IsFileAccess s.page_size cell w (record page { bytes = w page.bytes })
    page_over (Present old) page e = ap (λ (x : Page). record x { bytes = w x.bytes }) e
    page_over Hole page e = ap w e
    page_over Entered page e = ap w e

    taken_over : is_shared p.map.sharing ≡ false → (P : Outcome → Type 0) (a : Answer) (new : Slot) → Taken s k m p i as_it_was (place_at p.map i) new
        → ((n : Slot) → Taken s k m p i w (place_at p.map i) n → P (Answered Done n)) → P (continued writes (Answered a new))
    taken_over private P a new h goes =
        let c : Copy = with_bytes w h.0 in
        goes_over P a new (with_own s k m p i (place_at p.map i) h.0) (with_own s k m p i (place_at p.map i) c) h.3 (own_written private (place_at p.map i) h.0)
        (goes (Some (with_own s k m p i (place_at p.map i) c)) (c, h.1, ap w h.2, refl))

    own_over : is_shared p.map.sharing ≡ false → (P : Outcome → Type 0) (a : Answer) (new : Slot) (x : Option Copy) → Exactly s k m p i Write as_it_was (place_at p.map i) x new
        → ((n : Slot) → Exactly s k m p i Write w (place_at p.map i) x n → P (Answered Done n)) → P (continued writes (Answered a new))
    own_over private P a new None h goes = absurd h
    own_over private P a new (Some c) (inl h) goes =
        let place : Place Copy = place_at p.map i in
        goes_over P a new (with_own s k m p i place c) (with_own s k m p i place (with_bytes w c)) h.1 (own_written private place c)
        (goes (Some (with_own s k m p i place (with_bytes w c))) (inl (h.0, refl)))
    own_over private P a new (Some c) (inr h) goes =
        let place : Place Copy = place_at p.map i in
        goes_over P a new (with_back s k m p i place c.stamp c) (with_back s k m p i place c.stamp (with_bytes w c)) h.3 (back_written private place c.stamp c)
        (goes (Some (with_back s k m p i place c.stamp (with_bytes w c))) (inr (h.0, h.1, h.2, refl)))

    new_over : is_shared p.map.sharing ≡ false → (P : Outcome → Type 0) (a : Answer) (new : Slot) (x : Option Copy) → Newly s k m p i Write as_it_was (place_at p.map i) x new
        → ((n : Slot) → Newly s k m p i Write w (place_at p.map i) x n → P (Answered Done n)) → P (continued writes (Answered a new))
    new_over private P a new None h goes = taken_over private P a new h goes
    new_over private P a new (Some c) h goes = taken_over private P a new h.1 (λ n t. goes n (h.0, t))

    filled_over : is_shared p.map.sharing ≡ true → (P : Outcome → Type 0) (a : Answer) (new : Slot) (cell : Cell Page) → Filled s k m p i as_it_was cell new
        → ((n : Slot) → Filled s k m p i w cell n → P (Answered Done n)) → P (continued writes (Answered a new))
    filled_over shared P a new cell h goes =
        let page : Page = record h.0 { bytes = w h.0.bytes } in
        goes_over P a new (with_page s k m p i h.0) (with_page s k m p i page) h.2 (page_written shared h.0) (goes (Some (with_page s k m p i page)) (page, page_over cell h.0 h.1, refl))

    pub store_ends : (b : Bool) → is_shared p.map.sharing ≡ b → (o : Outcome) → Ends s k m p i b Write as_it_was o → Ends s k m p i b Write w (continued writes o)
    store_ends b is (Refused r) h = h
    store_ends true is (Answered a new) h = filled_over is (Ends s k m p i true Write w) a new (cell_at p.file i) h (λ n x. x)
    store_ends false is (Answered a new) h = own_over is (Ends s k m p i false Write w) a new (copy_of (place_at p.map i)) h (λ n x. x)

    pub store_takes : (b : Bool) → is_shared p.map.sharing ≡ b → (o : Outcome) → Takes s k m p i b Write as_it_was o → Takes s k m p i b Write w (continued writes o)
    store_takes b is (Refused r) h = h
    store_takes true is (Answered a new) h = filled_over is (Takes s k m p i true Write w) a new (cell_at p.file i) h.1 (λ n x. (h.0, x))
    store_takes false is (Answered a new) h = new_over is (Takes s k m p i false Write w) a new (copy_of (place_at p.map i)) h (λ n x. x)
