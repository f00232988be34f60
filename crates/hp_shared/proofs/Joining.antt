-- The seats of all parts, as one seat takes them in at the end.
use Rattle.std.proofs.Common.{◌≡◌, ℕ, ◌+◌, Bool, true, false, Option, None, Some, List, [], ◌∷◌, ◌++◌, ◌<◌, length, refl, sym, ap, subst, ◌∙◌, arith, append_assoc, IfSome, is_some}
use Rattle.std.proofs.lemmas.Bool.{false≢true}
use Rattle.std.proofs.lemmas.List.{append-nil, map-append}
use Rattle.std.specs.Global.{Vec}
use Rattle.hp_history.specs.declared.held.Held.{Held}
use Rattle.hp_history.specs.declared.held.Held.TheVariants.{Tasks, Pool as PoolPart, Opener, Slot as SlotPart}
use Rattle.hp_history.specs.History.{held_from}
use Rattle.hp_locked.specs.Views.{IsTrailOf}
use Rattle.hp_laws.proofs.Variants.{PoolEntry, SlotEntry, TableEntry}
use Rattle.hp_model.proofs.Words.{IsLocalRun, IsPoolRun, IsTableRun, Pool, Slot, Table, Trails as Run, machine_of, start}
use Rattle.hp_shared.specs.Ended.{AreSlotsJoined, HasEnded, IsCount}
use Rattle.hp_shared.specs.Sharing.{AreGathered, entries_of}
use Rattle.hp_shared.specs.Slots.{slot_start}
use Rattle.hp_shared.specs.declared.shared.Trails.{Trails}
use Rattle.hp_trail.specs.Keeping.{Keeping, kept_if}
use Rattle.hp_trail.specs.Walk.{lists, trails_of}
use Rattle.hp_pool.specs.Sums.{idle_pool}
use Rattle.hp_shared.proofs.Gathered.{ends_runs, none_gathered, one_gathered}

slots_append : (k : ℕ) (ts : List (List SlotEntry)) (t : List SlotEntry) → held_from k (ts ++ t ∷ []) ≡ held_from k ts ++ SlotPart (k + length ts) t ∷ []
slots_append k [] t = ap (λ n. SlotPart n t ∷ []) (omega arith)
slots_append k (x ∷ ts) t =
    ap (λ hs. SlotPart k x ∷ hs) (slots_append (k + 1) ts t ∙ ap (λ n. held_from (k + 1) ts ++ SlotPart n t ∷ []) (omega arith))

-- what is kept of a trail is that trail
pub trail_kept : {E : Type 0} (keeps : Bool) (run : List E) (k : Keeping E) → keeps ≡ true → IsTrailOf run (kept_if keeps k) → k.entries ≡ run
trail_kept true run k is kept = kept
trail_kept false run k is kept = absurd (false≢true is)

pub none_joined : (keeps : Bool) (size : ℕ) (parts : List Held) → AreSlotsJoined keeps size [] [] parts parts
none_joined keeps size parts = record { trails = []; runs = none_gathered size; parts = sym (append-nil parts); same = λ is. refl }

-- a slot more was taken from under its lock, and stands at its number
pub slot_joined : (keeps : Bool) (size number : ℕ) (run : List SlotEntry) (entries : Option (List SlotEntry)) (mount m : Slot) (k : Keeping SlotEntry) (v : Vec SlotEntry)
    (vs all : List (Vec SlotEntry)) (ms every : List Slot) (was acc now : List Held) → AreSlotsJoined keeps size (lists vs) ms was acc → number ≡ length ms
    → IsLocalRun size number (slot_start number) run mount → IsTrailOf run entries → kept_if keeps k ≡ entries → m ≡ mount → v.items ≡ k.entries
    → all ≡ vs ++ v ∷ [] → every ≡ ms ++ m ∷ [] → now ≡ acc ++ SlotPart number run ∷ [] → AreSlotsJoined keeps size (lists all) every was now
slot_joined keeps size number run entries mount m k v vs all ms every was acc now h here ran kept noted mounted got all_is every_is now_is =
    let ts = h.trails in
    let many = h.runs.count in
    let local : IsLocalRun size (length ms) (slot_start (length ms)) run m =
    subst (λ n. IsLocalRun size n (slot_start n) run m) here (subst (λ x. IsLocalRun size number (slot_start number) run x) (sym mounted) ran) in
    let last : held_from 0 (ts ++ run ∷ []) ≡ held_from 0 ts ++ SlotPart number run ∷ [] =
    slots_append 0 ts run ∙ ap (λ n. held_from 0 ts ++ SlotPart n run ∷ []) (omega (arith, here, many)) in
    record {
      trails = ts ++ run ∷ [];
      runs = subst (λ y. AreGathered size (ts ++ run ∷ []) y) (sym every_is) (one_gathered size ts ms run m h.runs local);
      parts = now_is ∙ (ap (λ hs. hs ++ SlotPart number run ∷ []) h.parts ∙ (append_assoc was (held_from 0 ts) (SlotPart number run ∷ []) ∙ ap (λ hs. was ++ hs) (sym last)));
      same = λ is.
          let one : v.items ≡ run = got ∙ trail_kept keeps run k is (subst (λ o. IsTrailOf run o) (sym noted) kept) in
          ap lists all_is ∙ (map-append (λ (x : Vec SlotEntry). x.items) vs (v ∷ []) ∙ (ap (λ xs. xs ++ v.items ∷ []) (h.same is) ∙ ap (λ x. ts ++ x ∷ []) one));
    }

-- trails that are given
given_kept : (keeps in_order : Bool) (given : Option Trails) (run : Run) → is_some given ≡ true → IfSome given (λ t. (keeps ≡ true) × (in_order ≡ true) × (entries_of t ≡ run))
    → (t : Trails) × (given ≡ Some t) × (entries_of t ≡ run)
given_kept keeps in_order None run some are = absurd (false≢true some)
given_kept keeps in_order (Some t) run some are = (t, refl, are.2)

-- the seat that took in all
pub has_ended : (keeps in_order : Bool) (frames : List ℕ) (size n : ℕ) (es : List TableEntry) (ps : List PoolEntry) (table : Table) (mounts : List Slot) (p : Pool)
    (tasks : Keeping TableEntry) (pool : Keeping PoolEntry) (slots : List (Vec SlotEntry)) (opened sessions : ℕ) (first parts : List Held) (given : Option Trails)
    → 0 < n → length mounts ≡ n → IsTableRun (length frames) [] es table → IsPoolRun (idle_pool frames) ps p → IsTrailOf es (kept_if keeps tasks)
    → IsTrailOf ps (kept_if keeps pool) → AreSlotsJoined keeps size (lists slots) mounts first parts → first ≡ Tasks es ∷ PoolPart ps ∷ Opener opened ∷ []
    → IsCount sessions opened → in_order ≡ true → (keeps ≡ true → in_order ≡ true → is_some given ≡ true)
    → IfSome given (λ t. (keeps ≡ true) × (in_order ≡ true) × (entries_of t ≡ trails_of tasks.entries slots pool.entries))
    → HasEnded keeps (start frames size n) n (machine_of size table mounts p) given sessions parts
has_ended keeps in_order frames size n es ps table mounts p tasks pool slots opened sessions first parts given some long tabled pooled kt kp h was count order are_some are =
    record {
      trails = record { tasks = es; slots = h.trails; pool = ps };
      opened = opened;
      parts = h.parts ∙ ap (λ hs. hs ++ held_from 0 h.trails) was;
      ends = ends_runs frames size n es h.trails ps table mounts p some long tabled h.runs pooled;
      long = sym (h.runs.count ∙ long);
      kept = λ is.
          let a = trail_kept keeps es tasks is kt in
          let b = h.same is in
          let c = trail_kept keeps ps pool is kp in
          let t = given_kept keeps in_order given (trails_of tasks.entries slots pool.entries) (are_some is order) are in
          (t.0, t.1, t.2 ∙ (λ i. record { tasks = a i; slots = b i; pool = c i }));
      count = count;
    }
