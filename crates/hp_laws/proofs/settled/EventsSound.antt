-- Each event on a slot leaves it sound, whatever fresh stamp is chosen.
use Rattle.std.proofs.Common.{◌≡◌, ℕ, ◌+◌, ◌-◌, ◌<◌, ◌≤◌, ◌&&◌, ◌==◌, Bool, true, false, not, Option, None, Some, is_some, List, [], ◌∷◌, ◌++◌, length, map, set, arith, refl, sym, ap, ◌∙◌, subst}
use Rattle.std.proofs.Common.{if◌then◌else◌, count_by, flat_map}
use Rattle.std.specs.List.{list_any}
use Rattle.std.specs.Str.{bytes_eq}
use Rattle.std.proofs.lemmas.Bool.{and_parts, both_ways, cond_both, eq-eqb, eqb-true, leb-false, not-true}
use Rattle.std.proofs.lemmas.List.{get_or_default, length-set}
use Rattle.std.proofs.lemmas.List.Sums.{sum_by-append, sum_by-cons}
use Rattle.std.proofs.lemmas.Slice.Eq.{bytes_eq-Decides}
use Rattle.hp_laws.proofs.Variants.{BeyondEnd, Cell, Done, Gone, GrantPage, Intent, Limits, Live, Place, Present, Read, Reserving, Sharing, Write}
use Rattle.hp_model.specs.declared.event.SlotEvent.TheVariants as slot
use Rattle.hp_model.proofs.Words.{Answered, Ask, Choice, Copy, File, Finish, HasCopy, IsSound, IsSoundFile, IsSoundMap, IsSoundMount, Map, Mount, Outcome, Page, Slot, Spot, access, byte_access}
use Rattle.hp_model.proofs.Words.{cell_at, cell_written, copied, copy_of, copy_write, edit_at, fault, file_in, file_named, file_unmapped, file_without, file_written, has_name, has_page, is_among}
use Rattle.hp_model.proofs.Words.{is_beyond, is_full, is_held_once, is_left, is_map, is_of, is_shared, is_stamp, is_unconsumed, lacking, map_in, map_punched, map_unmapped, map_written, mapped}
use Rattle.hp_model.proofs.Words.{maps_of, new_copy, new_file, new_map, next_number, no_map, on_mount, overwritten, place_at, place_written, private_access, punched, range_filled, rise, rising_nodes}
use Rattle.hp_model.proofs.Words.{shared_access, stamps_of, swept, taken_back, truncated, uncopied_access, unless, unlinked, value, with_cell, with_file, with_map, with_place, without_range}
use Rattle.hp_model.proofs.Words.{without_task, written}
use Rattle.hp_model.proofs.Editing.{length-edit_at}
use Rattle.hp_laws.specs.Balance.{Always, left_by}
use Rattle.hp_laws.specs.Laws.{SlotsStaySound}
use Rattle.hp_laws.proofs.counts.Copies.{file_has_stamp, file_there, live_of, map_there}
use Rattle.hp_laws.proofs.accesses.CopiesSound.{IsAlone, IsSole, back_sole, back_sound, held_once, put_alone, put_has, put_keeps}
use Rattle.hp_laws.proofs.counts.FileMoves.{live_at, none_counted}
use Rattle.hp_laws.proofs.counts.FilesSound.{cells_keep, mapped_keeps, punched_keeps, truncated_keeps, unlinked_keeps, unmapped_keeps, without_keeps}
use Rattle.hp_laws.proofs.counts.CopiesHeld.{stamps_are}
use Rattle.hp_laws.proofs.counts.FewerCopies.{KeepsFile, keeps_less, less_all}
use Rattle.hp_laws.proofs.lists.Looks.{edit_set}
use Rattle.hp_laws.proofs.making.FilesMade.{found_none, named_none, number_unused}
use Rattle.hp_laws.proofs.counts.MountMoves.{IsFileAt, IsSpot}
use Rattle.hp_laws.proofs.counts.MountsSound.{NoOtherName, cut_sound, edit_sound, filtered_numbers, forked_sound, mapped_numbers, new_sound, put_sound, set_sound, swept_sound}
use Rattle.hp_laws.proofs.steps.Outcomes.{always_if, always_test, always_then, always_weaker, outcome_if}
use Rattle.hp_laws.proofs.accesses.Shown.{On, on_follows, on_grant_page, on_reserved_page, on_weaker}
use Rattle.hp_laws.proofs.lists.AtMostOne.{bit}
use Rattle.hp_laws.proofs.accesses.SlotShows.{always_gives, always_mount, always_remount, always_unless}
use Rattle.hp_laws.proofs.steps.SlotsBalanced.{new_in_file}
use Rattle.hp_laws.proofs.settled.LeavesWalk.{Leaves, leaves_walk}
use Rattle.hp_laws.proofs.steps.Walk.{walk}
use Rattle.hp_laws.proofs.counts.Filled.{length-filled}
use Rattle.hp_laws.proofs.lists.NodesOf.{length-nodes_of}

-- ---- a map more

-- only the new map has its task and number
new_number : (m : Mount) (task a n : ℕ) (sharing : Sharing) (reserving : Reserving) (xs : List Map) (t u : ℕ)
    → count_by (is_map t u) (maps_of m) ≤ 1
    → count_by (is_map t u) (maps_of m) + count_by (is_map t u) (xs ++ new_map task (next_number task m) a n sharing reserving ∷ []) ≤ count_by (is_map t u) xs + 1
new_number m task a n sharing reserving xs t u one =
    let new : Map = new_map task (next_number task m) a n sharing reserving in
    let both = sum_by-append (λ x. bit (is_map t u x)) xs (new ∷ []) in
    let last = sum_by-cons (λ x. bit (is_map t u x)) new [] in
    elim (is_map t u new) as (λ b. is_map t u new ≡ b → count_by (is_map t u) (maps_of m) + count_by (is_map t u) (xs ++ new ∷ []) ≤ count_by (is_map t u) xs + 1) [
      | true ↦ λ e. (let parts = and_parts (task == t) (next_number task m == u) e in
          let unused = ap (λ x. list_any (is_map x u) (maps_of m)) (sym (eqb-true task t parts.0))
          ∙ ap (λ x. list_any (is_map task x) (maps_of m)) (sym (eqb-true (next_number task m) u parts.1)) ∙ number_unused m task in
          let none = none_counted (is_map t u) (maps_of m) unused in
          let is = ap bit e in
          omega (arith, both, last, none, is))
      | false ↦ λ e. (let is = ap bit e in omega (arith, both, last, one, is))
    ] refl

-- ---- a file more

-- a name that is not there is of the new file alone
new_name : (m : Mount) (name other : List ℕ) → is_some (file_named m name) ≡ false → count_by (has_name other) m.files ≤ 1
    → count_by (has_name other) m.files + bit (has_name other (new_file (Some name))) ≤ 1
new_name m name other unused one =
    elim (bytes_eq name other) as (λ b. bytes_eq name other ≡ b → count_by (has_name other) m.files + bit (has_name other (new_file (Some name))) ≤ 1) [
      | true ↦ λ e. (let same = (bytes_eq-Decides name other).0 e in
          let none = none_counted (has_name other) m.files (subst (λ n. list_any (has_name n) m.files ≡ false) same (found_none (has_name name) m.files (named_none (file_named m name) unused))) in
          let is = ap bit e in
          omega (arith, none, is))
      | false ↦ λ e. (let is = ap bit e in omega (arith, one, is))
    ] refl

-- ---- accesses

live_consumed : (b : Bool) (copy : Copy) → is_unconsumed (Live b (Some copy)) ≡ false → b ≡ true
live_consumed b copy e = grind arith

module _ (m : Mount) (sound : IsSoundMount m) (s : Spot) (at : IsSpot m s) where
  -- other cells
  cells_sound : (cells : List (Cell Page)) → length s.file.cells ≤ length cells → IsSoundMount (with_file m s.file_no (record s.file { cells = cells }))
  cells_sound cells long =
      put_sound m s.file_no s.file (record s.file { cells = cells }) at.file (cells_keep s.file cells long) (λ name. omega arith) (λ task number. omega arith) sound

  -- what an access leaves: after a write through a private map, a copy of its own there
  abbrev Left : Intent → (i : ℕ) → Mount → Type 0
  Left Read i n = IsSoundMount n
  Left Write i n = IsSoundMount n × (is_shared s.map.sharing ≡ false → IsSole n s.file_no s.map_no i)

  left : (intent : Intent) (i : ℕ) (n : Mount) → IsSoundMount n → (is_shared s.map.sharing ≡ false → IsSole n s.file_no s.map_no i) → Left intent i n
  left intent i n h sole = grind arith

  module _ (c : Choice) (new : is_among c.stamp (flat_map stamps_of m.files) ≡ false) (size home i : ℕ) (below : i < length s.file.cells) where
    -- no place holds the stamp that is chosen
    fresh_alone : (j k x : ℕ) → IsAlone m j k x c.stamp
    fresh_alone j k x h l z a has same =
        let f : File = file_in m h in
        let at : IsFileAt m h f = record { within = file_there m h l z a has; is = λ d. get_or_default m.files h d (new_file None) (file_there m h l z a has) } in
        absurd
        (both_ways (is_among c.stamp (stamps_of f)) (new_in_file c.stamp m h f at new)
        (stamps_are f c.stamp ∙ file_has_stamp (is_stamp c.stamp) f l z a has (eq-eqb a.stamp c.stamp same)))

    shared_left : is_shared s.map.sharing ≡ true → (intent : Intent) (n : Mount) → IsSoundMount n → Left intent i n
    shared_left e intent n h = left intent i n h (λ apart. cc)

    filled_left : is_shared s.map.sharing ≡ true → (intent : Intent) (page : Page) → Left intent i (with_file m s.file_no (with_cell s.file i (Present page)))
    filled_left e intent page = grind (arith, shared_left, cells_sound, length-set)

    shared_sound : is_shared s.map.sharing ≡ true → (intent : Intent) (cell : Cell Page) → Always (On (Left intent i)) (shared_access c size m s home i cell)
    shared_sound e intent cell = grind (arith, shared_left, on_reserved_page, filled_left, on_grant_page)

    module _ (apart : is_shared s.map.sharing ≡ false) where
      -- the place gets a copy with the new stamp
      copied_left : (intent : Intent) (had : Bool) (o : Option Copy) → place_at s.map i ≡ Live had o → (d : Bool) → (s.map.owner ≡ true → d ≡ true) → (page : Page)
          → Left intent i (with_file m s.file_no (with_map s.file s.map_no (with_place s.map i (Live d (Some (record { stamp = c.stamp; page = page }))))))
      copied_left intent had o is d own page =
          let copy : Copy = record { stamp = c.stamp; page = page } in
          let alone : IsAlone m s.file_no s.map_no i c.stamp = fresh_alone s.file_no s.map_no i in
          left intent i (with_file m s.file_no (with_map s.file s.map_no (with_place s.map i (Live d (Some copy))))) (put_keeps m s at i had o is d copy alone sound apart below own)
          (λ e. record { copy = copy; has = put_has m s at i had o is d copy; alone = put_alone m s at i had o is d copy alone })

      -- an owner that asks for a grant has consumed
      owner_consumed : (consumed : Bool) → (s.map.owner && not consumed) ≡ false → s.map.owner ≡ true → consumed ≡ true
      owner_consumed consumed e own = grind arith

      new_sound_copy : (intent : Intent) (consumed : Bool) → place_at s.map i ≡ Live consumed None → Always (On (Left intent i)) (new_copy c size m s home i consumed)
      new_sound_copy intent consumed is =
          always_if (On (Left intent i)) (s.map.owner && not consumed) _ _
          (λ e. on_reserved_page (Left intent i) home _ (λ node. copied_left intent consumed None is true (λ own. refl) (record { node = node; bytes = value size s.file s.map i })))
          (λ e. on_grant_page (Left intent i) c m home _ (λ node. copied_left intent consumed None is consumed (owner_consumed consumed e) (record { node = node; bytes = value size s.file s.map i })))

      uncopied_sound : (intent : Intent) (consumed : Bool) → place_at s.map i ≡ Live consumed None → Always (On (Left intent i)) (uncopied_access c size m s home i consumed intent)
      uncopied_sound Write consumed is = new_sound_copy Write consumed is
      uncopied_sound Read consumed is =
          always_if (On (Left Read i)) (has_page (cell_at s.file i)) (Finish (Answered Done (Some m))) (new_copy c size m s home i consumed) (λ e. sound) (λ e. new_sound_copy Read consumed is)

      write_sound : (consumed : Bool) (copy : Copy) → place_at s.map i ≡ Live consumed (Some copy) → Always (On (Left Write i)) (copy_write c m s home i consumed copy)
      write_sound consumed copy is =
          let has : HasCopy s.map i copy = ap copy_of is in
          let here = subst (λ f. HasCopy (map_in f s.map_no) i copy) (sym (at.file.is (new_file None))) (subst (λ x. HasCopy x i copy) (sym (at.map.is no_map)) has) in
          let old = subst IsSoundFile (at.file.is s.file) (sound.files s.file_no s.file at.file.within) in
          let spent : s.map.owner ≡ true → consumed ≡ true = λ own.
          live_consumed consumed copy (sym (ap is_unconsumed is) ∙ (subst (IsSoundMap (length s.file.cells)) (at.map.is s.map) (old.maps s.map_no s.map at.map.within) i copy has).consumed own) in
          let mine : ℕ → Outcome = λ node. copied m s i consumed (record { stamp = c.stamp; page = record { node = node; bytes = copy.page.bytes } }) in
          let own_copy : (node : ℕ) → On (Left Write i) (mine node) = λ node. copied_left Write consumed (Some copy) is consumed spent (record { node = node; bytes = copy.page.bytes }) in
          let back : Outcome = taken_back m s copy.stamp in
          let kept : On (Left Write i) back = (back_sound m s at i copy has sound, λ e. back_sole m s at i copy has sound) in
          always_if (On (Left Write i)) (is_held_once s.file copy.stamp) _ _ (λ once. (sound, λ e. record { copy = copy; has = here; alone = held_once m s at i copy has sound once }))
          (λ more. always_if (On (Left Write i)) s.map.owner _ _
          (λ owner. always_if (On (Left Write i)) (is_full m 1) (Finish back) (Ask (λ nr. GrantPage home (rise m 1)) (λ a. if a.granted then mine a.node else back))
          (λ full. kept) (λ room a. outcome_if (On (Left Write i)) a.granted (mine a.node) back (own_copy a.node) kept))
          (λ other. on_grant_page (Left Write i) c m home _ own_copy))

      private_sound : (intent : Intent) (p : Place Copy) → place_at s.map i ≡ p → Always (On (Left intent i)) (private_access c size m s home i p intent)
      private_sound intent p is = grind (arith, write_sound, always_if, On, uncopied_sound)

    access_sound : (intent : Intent) → Always (On (Left intent i)) (access c size m s home i intent)
    access_sound intent =
        always_if (On (Left intent i)) (is_shared s.map.sharing) _ _ (λ e. shared_sound e intent (cell_at s.file i)) (λ e. private_sound e intent (place_at s.map i) refl)

  module _ (c : Choice) (new : is_among c.stamp (flat_map stamps_of m.files) ≡ false) (size home i : ℕ) where
    guarded : (intent : Intent) → Always (On (Left intent i)) (unless ((is_beyond s i, BeyondEnd) ∷ []) (access c size m s home i intent))
    guarded intent = grind (arith, always_test, On, access_sound, leb-false)

    fault_left : (intent : Intent) → Always (On (Left intent i)) (fault c size m home i intent s)
    fault_left intent = grind (arith, always_unless, On, guarded)

    bytes_left : (offset count : ℕ) (intent : Intent) → Always (On (Left intent i)) (byte_access c size m home i offset count intent s)
    bytes_left offset count intent = grind (arith, always_unless, On, guarded)

-- ---- the bytes of a store

module _ (n : Mount) (sound : IsSoundMount n) (s : Spot) (i offset : ℕ) (bytes : List ℕ) where
  abbrev after : Mount
  after = written n s i offset bytes

  shared_written : is_shared s.map.sharing ≡ true → IsSoundMount after
  shared_written e =
      let h : File → File = λ f. record f { cells = edit_at (cell_written offset bytes) f.cells i } in
      let is = λ (f : File). ap (λ b. if b then h f else record f { maps = edit_at (map_written i offset bytes) f.maps s.map_no }) e in
      edit_sound n s.file_no (file_written s i offset bytes)
      (λ f. subst (KeepsFile f) (sym (is f)) (cells_keep f (edit_at (cell_written offset bytes) f.cells i) (let same = length-edit_at (cell_written offset bytes) f.cells i in omega (arith, same))))
      (λ f name. (let same = ap (λ g. bit (has_name name g)) (is f) in omega (arith, same)))
      (λ task number f. (let same = ap (λ g. count_by (is_map task number) g.maps) (is f) in omega (arith, same))) sound

  -- the copy has the same stamp, and other bytes
  private_written : is_shared s.map.sharing ≡ false → IsSole n s.file_no s.map_no i → IsSoundMount after
  private_written apart sole =
      let f : File = file_in n s.file_no in
      let x : Map = map_in f s.map_no in
      let file = file_there n s.file_no s.map_no i sole.copy sole.has in
      let map = map_there f s.map_no i sole.copy sole.has in
      let spot : Spot = record { file_no = s.file_no; file = f; map_no = s.map_no; map = x } in
      let at : IsSpot n spot = record {
        file = record { within = file; is = λ d. get_or_default n.files s.file_no d (new_file None) file };
        map = record { within = map; is = λ d. get_or_default f.maps s.map_no d no_map map };
      } in
      let live = live_of (place_at x i) sole.copy sole.has in
      let here = live_at x i live.0 (Some sole.copy) live.1 in
      let new : Copy = record sole.copy { page = overwritten offset bytes sole.copy.page } in
      let k : ℕ = i - x.start in
      let places : edit_at (place_written offset bytes) x.places k ≡ set x.places k (Live live.0 (Some new)) =
      edit_set (place_written offset bytes) Gone x.places k here.within ∙ ap (λ p. set x.places k (place_written offset bytes p)) here.is in
      let maps : edit_at (map_written i offset bytes) f.maps s.map_no ≡ set f.maps s.map_no (with_place x i (Live live.0 (Some new))) =
      edit_set (map_written i offset bytes) no_map f.maps s.map_no map ∙ ap (λ ps. set f.maps s.map_no (record x { places = ps })) places in
      let is : file_written s i offset bytes f ≡ with_map f s.map_no (with_place x i (Live live.0 (Some new))) =
      ap (λ b. if b then record f { cells = edit_at (cell_written offset bytes) f.cells i } else record f { maps = edit_at (map_written i offset bytes) f.maps s.map_no }) apart
      ∙ ap (λ ms. record f { maps = ms }) maps in
      let old = (sound.files s.file_no (new_file None) file).maps s.map_no no_map map i sole.copy sole.has in
      subst (λ fs. IsSoundMount (record n { files = fs })) (sym (edit_set (file_written s i offset bytes) (new_file None) n.files s.file_no file ∙ ap (set n.files s.file_no) is))
      (put_keeps n spot at i live.0 (Some sole.copy) live.1 live.0 new sole.alone sound old.private old.below
      (λ own. live_consumed live.0 sole.copy (sym (ap is_unconsumed live.1) ∙ old.consumed own)))

  written_sound : (is_shared s.map.sharing ≡ false → IsSole n s.file_no s.map_no i) → IsSoundMount after
  written_sound sole = grind (arith, shared_written, private_written)

-- ---- the events of a mount

read_left : (m : Mount) (sound : IsSoundMount m) (s : Spot) (at : IsSpot m s) (i : ℕ) (intent : Intent) (n : Mount) → Left m sound s at intent i n → IsSoundMount n
read_left m sound s at i intent n h = grind arith

pub empty_sound : (l : Limits) → IsSoundMount (record { limits = l; files = [] })
empty_sound l = record { files = λ k d l. absurd (omega (arith, l)); stamps = λ stamp. omega arith; numbers = λ task number. omega arith; names = λ name. omega arith }

module _ (size k : ℕ) (c : Choice) (m : Mount) (sound : IsSoundMount m) (new : is_among c.stamp (flat_map stamps_of m.files) ≡ false) where
  -- a file in another form, and without what is not kept
  edited_sound : (q : ℕ × File) (g : File) → IsFileAt m q.0 q.1 → KeepsFile q.1 g → NoOtherName q.1 g
      → ((task number : ℕ) → count_by (is_map task number) g.maps ≤ count_by (is_map task number) q.1.maps) → IsSoundMount (swept (with_file m q.0 g))
  edited_sound q g at keeps names numbers = swept_sound (with_file m q.0 g) (put_sound m q.0 q.1 g at keeps names numbers sound)

  punched_numbers : (a b task number : ℕ) (f : File) → count_by (is_map task number) (map (map_punched a b) f.maps) ≤ count_by (is_map task number) f.maps
  punched_numbers a b task number f = mapped_numbers (map_punched a b) (λ x. refl) (λ x. refl) task number f.maps

  unmapped_sound : (test : Map → Bool) (a b : ℕ) → IsSoundMount (swept (record m { files = map (file_unmapped test a b) m.files }))
  unmapped_sound test a b =
      let cut : Map → Map = map_unmapped test a b in
      swept_sound (record m { files = map (file_unmapped test a b) m.files })
      (cut_sound m (file_unmapped test a b) (unmapped_keeps test a b) (λ f name. omega arith)
      (λ task number f. filtered_numbers (is_left test) task number f.maps (map cut f.maps)
      (mapped_numbers cut (λ x. cond_both (test x) (without_range a b x) x (λ y. y.task ≡ x.task) (λ e. refl) (λ e. refl))
      (λ x. cond_both (test x) (without_range a b x) x (λ y. y.number ≡ x.number) (λ e. refl) (λ e. refl)) task number f.maps)) sound)

  without_sound : (task : ℕ) → IsSoundMount (without_task task m)
  without_sound gone =
      swept_sound (record m { files = map (file_without gone) m.files })
      (cut_sound m (file_without gone) (without_keeps gone) (λ f name. omega arith) (λ task number f. filtered_numbers (λ x. not (is_of gone x)) task number f.maps f.maps (omega arith)) sound)

  stays_sound : Leaves size k c m IsSoundMount
  stays_sound = record {
    same = sound;
    creates = λ name unused.
        (let g : File = new_file (Some name) in
        new_sound m g (keeps_less (new_file None) g (less_all []) (omega arith)) (λ task number. (let one = sound.numbers task number in omega (arith, one)))
        (λ other. new_name m name other unused (sound.names other)) sound);
    unlinks = λ q at. edited_sound q (unlinked q.1) at (unlinked_keeps q.1) (λ name. omega arith) (λ task number. omega arith);
    truncates = λ n q at. edited_sound q (truncated n q.1) at (truncated_keeps n q.1) (λ name. omega arith) (λ task number. punched_numbers n (n + length q.1.cells) task number q.1);
    punches = λ a b q at. edited_sound q (punched a b q.1) at (punched_keeps a b q.1) (λ name. omega arith) (λ task number. punched_numbers a b task number q.1);
    fills = λ a b pages q at.
        (let nodes = rising_nodes (lacking a b q.1) pages in
        let g : File = range_filled size a b nodes q.1 in
        let long = length-filled size a b nodes q.1 (length-nodes_of (lacking a b q.1) pages) in
        put_sound m q.0 q.1 g at (cells_keep q.1 g.cells (omega (arith, long))) (λ name. omega arith) (λ task number. omega arith) sound);
    maps = λ task a n sharing reserving q at few.
        (let number = next_number task m in
        set_sound m q.0 q.1 (mapped task number a n sharing reserving q.1) at (mapped_keeps task number a n sharing reserving q.1) (λ name. omega arith)
        (λ t u. new_number m task a n sharing reserving q.1.maps t u (sound.numbers t u)) sound);
    anons = λ task n sharing reserving few.
        (let number = next_number task m in
        new_sound m (mapped task number 0 n sharing reserving (new_file None)) (mapped_keeps task number 0 n sharing reserving (new_file None))
        (λ t u. new_number m task 0 n sharing reserving [] t u (sound.numbers t u)) (λ name. (let one = sound.names name in omega (arith, one))) sound);
    unmaps = λ task number a b. unmapped_sound (is_map task number) a b;
    forks = λ parent child few. forked_sound parent child m sound;
    exits = λ task. without_sound task;
    faults = λ s at home i intent.
        always_weaker (On (Left m sound s at intent i)) (On IsSoundMount) (on_weaker (Left m sound s at intent i) IsSoundMount (read_left m sound s at i intent)) (fault c size m home i intent s)
        (fault_left m sound s at c new size home i intent);
    reads = λ s at home i offset count. bytes_left m sound s at c new size home i offset count Read;
    stores = λ s at home i offset bytes.
        (let write = λ (n : Mount). Answered Done (Some (written n s i offset bytes)) in
        always_then (On (Left m sound s at Write i)) (On IsSoundMount) write
        (on_follows (Left m sound s at Write i) IsSoundMount write (λ n h. written_sound n h.0 s i offset bytes h.1))
        (byte_access c size m home i offset (length bytes) Write s) (bytes_left m sound s at c new size home i offset (length bytes) Write));
  }

-- ---- a slot

left_good : (m : Mount) → IsSoundMount m → (o : Outcome) → On IsSoundMount o → IsSound (left_by (Some m) o)
left_good m sound o on = grind arith

abbrev GoesOn : Slot → Outcome → Type 0
GoesOn old o = IsSound (left_by old o)

pub slots_stay_sound : SlotsStaySound
slots_stay_sound size k c None (slot.Mount options) new sound = always_mount (GoesOn None) (λ r. tt) empty_sound c size options
slots_stay_sound size k c None other new sound = tt
slots_stay_sound size k c (Some m) (slot.Remount options) new sound =
    always_remount (GoesOn (Some m)) (λ r. sound) m (λ l. record { files = sound.files; stamps = sound.stamps; numbers = sound.numbers; names = sound.names }) size k options
slots_stay_sound size k c (Some m) slot.Umount new sound = grind (arith, always_unless, always_gives)
slots_stay_sound size k c (Some m) e new sound =
    always_weaker (On IsSoundMount) (GoesOn (Some m)) (left_good m sound) (on_mount size k c m e)
    (walk size k c m (λ e. Always (On IsSoundMount)) (leaves_walk size k c m IsSoundMount (stays_sound size k c m sound (not-true _ new))) e refl)
