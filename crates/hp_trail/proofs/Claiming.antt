-- A receipt's entry, looked up in its trail, and the place of its session, noted or not.
use Rattle.std.proofs.lemmas.Grind.{common_steps}
use Rattle.std.proofs.Common.{◌≡◌, ◌≢◌, inl, inr, ℕ, ◌<◌, false, Option, Some, List, length, ltb, sym, ap, subst, ◌∙◌, [], arith, slice_get, slice_index_or}
use Rattle.std.specs.Global.{Vec}
use Rattle.std.proofs.lemmas.Bool.{false≢true, lt-ltb}
use Rattle.hp_laws.proofs.Variants.{Asked, OfSlot, PoolEntry, Receipt, SlotEntry}
use Rattle.hp_model.proofs.Words.{Entry}
use Rattle.hp_trail.specs.Tellers.{AddsEntry, Claims, ClaimsSection, Finds, Misses, RefusesEntry, RefusesSection, Stands, TellsOf, entry_of_slot}
use Rattle.hp_trail.specs.Walk.{lists}
use Rattle.hp_trail.proofs.Indexing.{element_at, get_there, lists_read, some_is}

-- nothing is past the end
pub none_past : {X : Type 0} (xs : List X) (i : ℕ) (x : X) → false ≡ ltb i (length xs) → slice_get xs i ≡ Some x → ⊥
none_past xs i x past at = false≢true (past ∙ lt-ltb i (length xs) (get_there xs i x at))

module _ {X : Type 0} (entry : X → Option Entry) (trail : List X) (r : Receipt) where
  pub past_misses : false ≡ ltb r.place (length trail) → Misses entry trail r
  past_misses past x at same = none_past trail r.place x past at

  module _ (x : X) (below : r.place < length trail) (read : x ≡ slice_index_or trail r.place x) where
    pub finds : TellsOf (entry x) r → Finds entry trail r x
    finds same = record { there = element_at trail r.place x below read; same = same }

    pub other_misses : (TellsOf (entry x) r → ⊥) → Misses entry trail r
    other_misses other y at same = other (subst (λ (z : X). TellsOf (entry z) r) (some_is y x (sym at ∙ element_at trail r.place x below read)) same)

    pub noted : (row row' : List ℕ) (s : ℕ) → TellsOf (entry x) r → Claims row r.place s row' → AddsEntry entry trail row r s row'
    noted row row' s same claims = (x, finds same, claims)

    pub noted_before : (row : List ℕ) → TellsOf (entry x) r → slice_index_or row r.place 0 ≢ 0 → RefusesEntry entry trail row r
    noted_before row same taken = inr (x, finds same, taken)

-- ---- a section in the pool's trail

module _ (pool : List PoolEntry) (row : List ℕ) (asked : Option Asked) (a : Asked) (is : asked ≡ Some a) where
  pub section_past : false ≡ ltb a.place (length pool) → RefusesSection pool row asked
  section_past past = subst (RefusesSection pool row) (sym is) (inl (λ at. none_past pool a.place (OfSlot a.section a.answer) past at))

  module _ (x : PoolEntry) (below : a.place < length pool) (read : x ≡ slice_index_or pool a.place x) where
    stands : x ≡ OfSlot a.section a.answer → Stands pool a
    stands same = element_at pool a.place x below read ∙ ap Some same

    pub section_noted : (row' : List ℕ) (s : ℕ) → x ≡ OfSlot a.section a.answer → Claims row a.place s row' → ClaimsSection pool row asked s row'
    section_noted row' s same claims = subst (λ o. ClaimsSection pool row o s row') (sym is) (stands same, claims)

    pub section_noted_before : x ≡ OfSlot a.section a.answer → slice_index_or row a.place 0 ≢ 0 → RefusesSection pool row asked
    section_noted_before same taken = subst (RefusesSection pool row) (sym is) (inr (stands same, taken))

    pub section_other : x ≢ OfSlot a.section a.answer → RefusesSection pool row asked
    section_other other = subst (RefusesSection pool row) (sym is) (inl (λ at. other (some_is x (OfSlot a.section a.answer) (sym (element_at pool a.place x below read) ∙ at))))

-- ---- a trail among the slots'

pub no_trail : (slots : List (Vec SlotEntry)) (k : ℕ) (r : Receipt) → false ≡ ltb k (length slots) → Misses (entry_of_slot k) (slice_index_or (lists slots) k []) r
no_trail slots k r past e at same = grind (arith, common_steps)

module _ {X : Type 0} (vs : List (Vec X)) (k : ℕ) (v : Vec X) (xs : List X) (below : k < length vs) (read : v ≡ slice_index_or vs k v) (is : xs ≡ v.items) where
  pub list_read : xs ≡ slice_index_or (lists vs) k []
  list_read = is ∙ sym (lists_read vs k v below read)

  pub moved : (P : List X → Type 0) → P xs → P (slice_index_or (lists vs) k [])
  moved P p = subst P list_read p
