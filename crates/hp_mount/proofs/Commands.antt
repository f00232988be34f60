use Rattle.std.proofs.lemmas.Grind.{common_steps}
-- An event on one map: its tests, its access, and what follows, whichever these are.
use Rattle.std.proofs.Common.{◌≡◌, ◌≢◌, ℕ, zero, suc, ◌+◌, ◌-◌, ◌<◌, Bool, true, false, cond, List, [], ◌∷◌, Option, Some, None, Ok, Err, length, refl, sym, ap, subst, ◌∙◌, arith, Result}
use Rattle.std.proofs.Common.{slice_index_or, slice_set, nat_lt, not, is_some, ◌&&◌, ◌||◌, ◌==◌}
use Rattle.std.proofs.lemmas.List.{get_or_default}
use Rattle.hp_laws.proofs.Variants.{Answer, Done, Gone, Hole, Intent, Live, PoolAnswer, Read, Refusal, Section, Write}
use Rattle.hp_model.specs.declared.refusal.Refusal.TheVariants as r
use Rattle.hp_model.proofs.Words.{Answered, Choice, Copy, File, Map, Mount, Outcome, Plan, Slot, Spot, ThroughDoor, access, again, and_then, bytes_answer, cell_at, cell_written, copy_of, done_reply}
use Rattle.hp_model.proofs.Words.{edit_at, file_in, file_written, is_backed, is_beyond, is_entered, is_reserved, is_shared, is_unconsumed, is_unmapped, map_in, map_written, most_bytes, new_file}
use Rattle.hp_model.proofs.Words.{no_map, owns_copy, place_at, place_written, private_access, refuse, shared_access, unless, value, with_cell, with_file, with_map, with_place, with_value, written}
use Rattle.hp_laws.proofs.counts.FileMoves.{FileGrows, live_at}
use Rattle.hp_laws.proofs.steps.CopyWrites.{writes}
use Rattle.hp_lookup.specs.declared.map_place.MapPlace.{MapPlace}
use Rattle.hp_mount_laws.specs.Done.{Enters, IsAccessed, Tried}
use Rattle.hp_mount.specs.Found.{IsPlaced, spot_of, tests_of, why_not}
use Rattle.hp_mount_laws.specs.Reach.{IsFileTouched, first_of, spot_at, with_place_at}
use Rattle.hp_mount.specs.declared.mount.reach.Asked.{Asked}
use Rattle.hp_mount.specs.declared.mount.reach.Asked.TheVariants.{Page, Bytes}
use Rattle.hp_mount.specs.declared.mount.reach.MapAccess.{MapAccess}
use Rattle.hp_mount_laws.proofs.Trying.{tests_fail, tests_pass}
use Rattle.hp_mount_laws.proofs.Ways.{fresh_choice, is_fresh, refused_at, then_enters, then_refused}

-- ---- why an access does not begin

abbrev pub why_of : (size i : ℕ) → Asked → Option Spot → Option Refusal
why_of size i asked o = elim o [ None ↦ Some r.NoSuchMap | Some s ↦ first_of (tests_of size i asked s) ]

-- it is never for want of memory, or of room to note a section
abbrev pub is_early : Refusal → Bool
is_early r.NoSuchMap = true
is_early r.OutOfRange = true
is_early r.CrossesPage = true
is_early r.TooMany = true
is_early r.BeyondEnd = true
is_early other = false

some_same : {Y : Type 0} {x y : Y} → Some x ≡ Some y → x ≡ y
some_same e = cc

some_early : (x e : Refusal) → is_early x ≡ true → Some x ≡ Some e → is_early e ≡ true
some_early x e early h = subst (λ y. is_early y ≡ true) (some_same h) early

page_early : (a b : Bool) (e : Refusal) → cond a (Some r.OutOfRange) (cond b (Some r.BeyondEnd) None) ≡ Some e → is_early e ≡ true
page_early true b e h = some_early r.OutOfRange e refl h
page_early false true e h = some_early r.BeyondEnd e refl h
page_early false false e h = cc

bytes_early : (a b c d : Bool) (e : Refusal) → cond a (Some r.OutOfRange) (cond b (Some r.CrossesPage) (cond c (Some r.TooMany) (cond d (Some r.BeyondEnd) None))) ≡ Some e → is_early e ≡ true
bytes_early true b c d e h = some_early r.OutOfRange e refl h
bytes_early false true c d e h = some_early r.CrossesPage e refl h
bytes_early false false true d e h = some_early r.TooMany e refl h
bytes_early false false false true e h = some_early r.BeyondEnd e refl h
bytes_early false false false false e h = cc

pub why_is_early : (size i : ℕ) (asked : Asked) (o : Option Spot) (e : Refusal) → why_of size i asked o ≡ Some e → is_early e ≡ true
why_is_early size i asked None e h = some_early r.NoSuchMap e refl h
why_is_early size i Page (Some s) e h = page_early (is_unmapped s i) (is_beyond s i) e h
why_is_early size i (Bytes offset count) (Some s) e h = bytes_early (is_unmapped s i || (count == 0)) (nat_lt size (offset + count)) (nat_lt most_bytes count) (is_beyond s i) e h

is_not_early : is_early r.TraceFull ≡ true → ⊥
is_not_early e = cc

pub early_not_memory : {A : Type 0} (e : Refusal) → is_early e ≡ true → ◌≡◌ {A = Result A Refusal} (Err e) (Err r.OutOfMemory) → ⊥
early_not_memory e early h = never (subst (λ x. is_early x ≡ true) (err_is h) early)
  where
    err_is : {A : Type 0} → ◌≡◌ {A = Result A Refusal} (Err e) (Err r.OutOfMemory) → e ≡ r.OutOfMemory
    err_is h = cc

    never : is_early r.OutOfMemory ≡ true → ⊥
    never e = cc

-- ---- memory

-- an index that is backed for a shared map is entered
pub backed_is_entered : (intent : Intent) (o : Option Spot) (s : Spot) (i : ℕ) → o ≡ Some s → is_shared s.map.sharing ≡ true → is_backed intent o i ≡ true → is_entered (cell_at s.file i) ≡ true
backed_is_entered intent o s i found shared backed = here intent (ap (λ x. is_backed intent x i) (sym found) ∙ backed)
  where
    reserved : is_reserved s.file s.map i ≡ is_entered (cell_at s.file i)
    reserved = ap (λ b. cond b (is_entered (cell_at s.file i)) (s.map.owner && is_unconsumed (place_at s.map i))) shared

    no_copy : owns_copy s.map i ≡ false
    no_copy = ap (λ b. not b && (s.map.owner && is_some (copy_of (place_at s.map i)))) shared

    either : (a b : Bool) → (a || b) ≡ true → b ≡ false → a ≡ true
    either true b e none = refl
    either false true e none = cc
    either false false e none = cc

    here : (intent : Intent) → is_backed intent (Some s) i ≡ true → is_entered (cell_at s.file i) ≡ true
    here Read e = sym reserved ∙ e
    here Write e = sym reserved ∙ either (is_reserved s.file s.map i) (owns_copy s.map i) e no_copy

-- a refusal that is not for want of memory, whatever would have been answered
pub not_memory : {A B : Type 0} (e : Refusal) → (◌≡◌ {A = Result A Refusal} (Err e) (Err r.OutOfMemory) → ⊥) → ◌≡◌ {A = Result B Refusal} (Err e) (Err r.OutOfMemory) → ⊥
not_memory e h same = h (ap Err (err_is same))
  where
    err_is : {B : Type 0} → ◌≡◌ {A = Result B Refusal} (Err e) (Err r.OutOfMemory) → e ≡ r.OutOfMemory
    err_is same = cc

-- ---- an access, and what follows it, whichever these are

module _ {X : Type 0} (took : X → Section → PoolAnswer → X → Type 0) (full : X → Type 0) (m : Mount) (door : X) where
  -- what makes a plan of an access leaves a refusal as it is
  abbrev pub KeepsRefusals : (Spot → Plan → Plan) → Type 0
  KeepsRefusals then =
      ((s : Spot) (p : Plan) (left : X) (e : Refusal) (new : Slot) → ThroughDoor took p (Some m) door (Err e) new left → ThroughDoor took (then s p) (Some m) door (Err e) new left)
      × ((s : Spot) (p : Plan) → Enters p → Enters (then s p))

  module _ (size home : ℕ) (a : MapAccess) (intent : Intent) (asked : Asked) (then : Spot → Plan → Plan) (keeps : KeepsRefusals then) where
    abbrev act : Choice → Spot → Plan
    act c s = access c size m s home a.index intent

    abbrev plan : Choice → Plan
    plan c = with_value (spot_of a m) r.NoSuchMap (λ s. then s (unless (tests_of size a.index asked s) (act c s)))

    -- it does not begin
    begun : (c : Choice) (e : Refusal) (o : Option Spot) → why_of size a.index asked o ≡ Some e
        → ThroughDoor took (with_value o r.NoSuchMap (λ s. then s (unless (tests_of size a.index asked s) (act c s)))) (Some m) door (Err e) (Some m) door
    begun c e None h = subst (λ x. ThroughDoor took (refuse r.NoSuchMap) (Some m) door (Err x) (Some m) door) (some_same h) (refused_at took m r.NoSuchMap door)
    begun c e (Some s) h =
        keeps.0 s (unless (tests_of size a.index asked s) (act c s)) door e (Some m)
        (subst (λ p. ThroughDoor took p (Some m) door (Err e) (Some m) door) (sym (tests_fail (tests_of size a.index asked s) (act c s) e h)) (refused_at took m e door))

    pub not_begun : (e : Refusal) → why_not m a asked size ≡ Some e → Tried took full plan (Some m) door (Err e) (Some m) door
    not_begun r.TraceFull h = absurd (is_not_early (why_is_early size a.index asked (spot_of a m) r.TraceFull h))
    not_begun other h = (fresh_choice false (Some m), is_fresh false (Some m), begun (fresh_choice false (Some m)) other (spot_of a m) h)

    module _ (at : MapPlace) (placed : IsPlaced m a asked size at) where
      abbrev here : Spot
      here = spot_at m at.file at.map

      plan_is : (c : Choice) → then here (act c here) ≡ plan c
      plan_is c = grind (arith, common_steps, here, tests_pass)

      -- it was refused
      refusal_kept : (e : Refusal) (new : Slot) (left : X) → Tried took full (λ c. act c here) (Some m) door (Err e) new left → Tried took full plan (Some m) door (Err e) new left
      refusal_kept r.TraceFull new left h = (h.0, h.1, (h.2.0, h.2.1, subst Enters (plan_is h.2.0) (keeps.1 here (act h.2.0 here) h.2.2)))
      refusal_kept other new left h = (h.0, h.1, subst (λ p. ThroughDoor took p (Some m) door (Err other) new left) (plan_is h.0) (keeps.0 here (act h.0 here) left other new h.2))

      pub denied : (e : Refusal) (result : Result (Unit {0}) Refusal) (new : Mount) (left : X) → result ≡ Err e → IsAccessed took full size home at a.index intent m door result new left
          → Tried took full plan (Some m) door (Err e) (Some new) left
      denied e result new left is h = refusal_kept e (Some new) left (subst (λ q. IsAccessed took full size home at a.index intent m door q new left) is h)

      -- it was answered, and what follows it leaves this
      pub went : (result : Result (Unit {0}) Refusal) (n : Mount) (left : X) (b : Answer) (new : Slot) → result ≡ Ok tt
          → ((p : Plan) → ThroughDoor took p (Some m) door (Ok Done) (Some n) left → ThroughDoor took (then here p) (Some m) door (Ok b) new left)
          → IsAccessed took full size home at a.index intent m door result n left → Tried took full plan (Some m) door (Ok b) new left
      went result n left b new is follows access = grind (arith, common_steps, plan_is, here)

  -- nothing follows
  pub nothing_follows : KeepsRefusals (λ s p. p)
  nothing_follows = ((λ s p left e new h. h), (λ s p h. h))

  pub ended : (size home : ℕ) (a : MapAccess) (intent : Intent) (asked : Asked) (at : MapPlace) → IsPlaced m a asked size at
      → (result : Result (Unit {0}) Refusal) (n : Mount) (left : X) → IsAccessed took full size home at a.index intent m door result n left
      → Tried took full (plan size home a intent asked (λ s p. p) nothing_follows) (Some m) door (done_reply result) (Some n) left
  ended size home a intent asked at placed (Ok done) n left h = went size home a intent asked (λ s p. p) nothing_follows at placed (Ok done) n left Done (Some n) refl (λ p x. x) h
  ended size home a intent asked at placed (Err e) n left h = denied size home a intent asked (λ s p. p) nothing_follows at placed e (Err e) n left refl h

  pub follows : (cont : Spot → Mount → Outcome) → KeepsRefusals (λ s p. and_then (cont s) p)
  follows cont = ((λ s p left e new h. then_refused took m (cont s) p door left e new h), (λ s p h. then_enters (cont s) p h))

-- ---- the same map after an access

pub again_is : (m n : Mount) (file map : ℕ) → file < length m.files → map < length (file_in m file).maps → IsFileTouched m n file → again n (spot_at m file map) ≡ spot_at n file map
again_is m n file map fl ml t = grind (arith, common_steps, get_or_default)

-- a shared map's access
pub shared_is : (c : Choice) (size : ℕ) (m : Mount) (s : Spot) (home i : ℕ) (intent : Intent) → is_shared s.map.sharing ≡ true →
    access c size m s home i intent ≡ shared_access c size m s home i (cell_at s.file i)
shared_is c size m s home i intent e = ap (λ b. cond b (shared_access c size m s home i (cell_at s.file i)) (private_access c size m s home i (place_at s.map i) intent)) e

-- ---- what a store through a shared map writes

pub edit_is_set : {Y : Type 0} (f : Y → Y) (xs : List Y) (i : ℕ) (d : Y) → i < length xs → edit_at f xs i ≡ slice_set xs i (f (slice_index_or xs i d))
edit_is_set f [] i d l = absurd (nothing_below i l)
  where
    nothing_below : (i : ℕ) → i < 0 → ⊥
    nothing_below i l = omega (arith, l)
edit_is_set f (x ∷ xs) zero d l = refl
edit_is_set f (x ∷ xs) (suc i) d l = ap (λ ys. x ∷ ys) (edit_is_set f xs i d (omega (arith, l)))

pub written_is : (n : Mount) (s : Spot) (i offset : ℕ) (bytes : List ℕ) → is_shared s.map.sharing ≡ true → s.file_no < length n.files → i < length (file_in n s.file_no).cells
    → written n s i offset bytes ≡ with_file n s.file_no (with_cell (file_in n s.file_no) i (cell_written offset bytes (cell_at (file_in n s.file_no) i)))
written_is n s i offset bytes shared l below =
    let f : File = file_in n s.file_no in
    ap (λ fs. record n { files = fs }) (edit_is_set (file_written s i offset bytes) n.files s.file_no (new_file None) l
    ∙ ap (λ b. slice_set n.files s.file_no (cond b (record f { cells = edit_at (cell_written offset bytes) f.cells i })
    (record f { maps = edit_at (map_written i offset bytes) f.maps s.map_no }))) shared
    ∙ ap (λ cs. slice_set n.files s.file_no (record f { cells = cs })) (edit_is_set (cell_written offset bytes) f.cells i Hole below))

map_written_is : (f : File) (j i offset : ℕ) (bytes : List ℕ) (c : Bool) (copy : Copy) → j < length f.maps → place_at (map_in f j) i ≡ Live c (Some copy)
    → edit_at (map_written i offset bytes) f.maps j ≡ slice_set f.maps j (with_place (map_in f j) i (place_written offset bytes (place_at (map_in f j) i)))
map_written_is f j i offset bytes c copy jl place =
    let m : Map = map_in f j in
    let at = live_at m i c (Some copy) place in
    edit_is_set (map_written i offset bytes) f.maps j no_map jl
    ∙ ap (λ ps. slice_set f.maps j (record m { places = ps })) (edit_is_set (place_written offset bytes) m.places (i - m.start) Gone at.within
    ∙ ap (λ p. slice_set m.places (i - m.start) (place_written offset bytes p)) (at.is ∙ sym place))

-- what a store through a private map writes
pub private_written : (n : Mount) (s : Spot) (i offset : ℕ) (bytes : List ℕ) (c : Bool) (copy : Copy) → is_shared s.map.sharing ≡ false →
    s.file_no < length n.files → s.map_no < length (file_in n s.file_no).maps →
    place_at (map_in (file_in n s.file_no) s.map_no) i ≡ Live c (Some copy)
    → written n s i offset bytes ≡ with_place_at n s.file_no s.map_no i (place_written offset bytes (place_at (map_in (file_in n s.file_no) s.map_no) i))
private_written n s i offset bytes c copy private l jl place =
    let f : File = file_in n s.file_no in
    ap (λ fs. record n { files = fs }) (edit_is_set (file_written s i offset bytes) n.files s.file_no (new_file None) l
    ∙ ap (λ b. slice_set n.files s.file_no (cond b (record f { cells = edit_at (cell_written offset bytes) f.cells i })
    (record f { maps = edit_at (map_written i offset bytes) f.maps s.map_no }))) private
    ∙ ap (λ ms. slice_set n.files s.file_no (record f { maps = ms })) (map_written_is f s.map_no i offset bytes c copy jl place))

pub private_grows : (f : File) (j i offset : ℕ) (bytes : List ℕ) (c : Bool) (copy : Copy) → j < length f.maps →
    place_at (map_in f j) i ≡ Live c (Some copy) → FileGrows f (with_map f j (with_place (map_in f j) i
    (place_written offset bytes (place_at (map_in f j) i)))) 0 0 0
private_grows f j i offset bytes c copy jl place = subst (λ ms. FileGrows f (record f { maps = ms }) 0 0 0) (map_written_is f j i offset bytes c copy jl place) (writes false j i offset bytes f)

pub write_grows : (k i offset : ℕ) (bytes : List ℕ) (f : File) → i < length f.cells → FileGrows f (with_cell f i (cell_written offset bytes (cell_at f i))) 0 0 0
write_grows k i offset bytes f l = subst (λ cs. FileGrows f (record f { cells = cs }) 0 0 0) (edit_is_set (cell_written offset bytes) f.cells i Hole l) (writes true k i offset bytes f)

-- a fault asks the same of a page of any size
pub page_placed : (m : Mount) (a : MapAccess) (size other : ℕ) (at : MapPlace) → IsPlaced m a Page size at → IsPlaced m a Page other at
page_placed m a size other at p = record { found = p.found; pass = p.pass; file = p.file; map = p.map; below = p.below; live = p.live }

-- an access that is backed is not refused memory
pub backed_not_memory : {B : Type 0} (a : MapAccess) (intent : Intent) (asked : Asked) (size : ℕ) (m : Mount) (at : MapPlace) → IsPlaced m a asked size at
    → (e : Refusal) (result : Result (Unit {0}) Refusal) → result ≡ Err e → (is_backed intent (Some (spot_at m at.file at.map)) a.index ≡ true → result ≢ Err r.OutOfMemory)
    → is_backed intent (spot_of a m) a.index ≡ true → ◌≡◌ {A = Result B Refusal} (Err e) (Err r.OutOfMemory) → ⊥
backed_not_memory a intent asked size m at placed e result is never backed =
    not_memory e (subst (λ q. q ≢ Err r.OutOfMemory) is (never (ap (λ o. is_backed intent o a.index) (sym placed.found) ∙ backed)))

-- ---- what follows a load and a store

module _ (size i offset : ℕ) where
  abbrev pub loads : (count : ℕ) → Spot → Mount → Outcome
  loads count s n = Answered (bytes_answer offset count (value size (again n s).file (again n s).map i)) (Some n)

  abbrev pub stores : (bytes : List ℕ) → Spot → Mount → Outcome
  stores bytes s n = Answered Done (Some (written n s i offset bytes))
