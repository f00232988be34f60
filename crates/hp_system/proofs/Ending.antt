-- The end of the machine: slot after slot goes, with all that it has.
use Rattle.std.proofs.Common.{◌≡◌, ℕ, suc, ◌+◌, ◌*◌, ◌-◌, ◌<◌, ◌≤◌, ◌&&◌, ◌==◌, None, Some, Ok, List, [], ◌∷◌, ◌++◌, length, replicate, refl, sym, ap, subst, ◌∙◌, arith, IsTrue, max, slice_set, All}
use Rattle.std.proofs.Common.{sum}
use Rattle.std.proofs.lemmas.Bool.{cond_both}
use Rattle.std.proofs.lemmas.List.{append-nil, append_assoc, length-append}
use Rattle.std.proofs.lemmas.List.Elements.{All-head, All-tail}
use Rattle.std.proofs.lemmas.List.Sums.{sum_by-cons}
use Rattle.std.proofs.Math.Seq.{get_or-append_seam, set-append_seam}
use Rattle.hp_laws.proofs.Variants.{Done, ExitMaps, GiveBack, NodeRow}
use Rattle.hp_laws.specs.Balance.{Always, IsBalanced, left_by}
use Rattle.hp_model.proofs.Words.{Answered, Ask, Finish, IsReadyMachine, IsRow, IsSettledState, IsSound, Machine, Mount, Plan, Pool, Reply, Slot, State, Table, ThroughDoor, committed_pages, counts_by}
use Rattle.hp_model.proofs.Words.{counts_of, fall_of, gives, has_maps_of, machine_of, pool_of, puts_of, state_of, total_of, without_task}
use Rattle.hp_model.specs.pool.PoolCounts.{used}
use Rattle.hp_mount_door.specs.Door.{IsReady as IsReadyPool}
use Rattle.hp_laws.proofs.steps.Plans.{balanced_gives}
use Rattle.hp_model.proofs.RowMoves.{puts_are}
use Rattle.hp_laws.proofs.accesses.SlotShows.{always_gives}
use Rattle.hp_laws.proofs.sections.PoolTied.{plan_tied}
use Rattle.hp_laws.proofs.steps.Tells.{tells_gives}
use Rattle.hp_system.specs.Event.{AllGo, Exits, IsExit, SlotGoes, took}
use Rattle.hp_system.specs.Sized.{IsSized, all_free}
use Rattle.hp_system.proofs.Carries.{kept_after, kept_by, plan_is, slot_in, IsKept}
use Rattle.hp_own_pool.proofs.Starting.{sum_none}

-- what is left of n slots: these, and as many without a mount as are done; what is set stays
pub record IsEnding (size bytes n : ℕ) (t : Table) (start : Pool) (xs : List Slot) (p : Pool) : Type 0 where
  pub kept : IsKept size bytes t (xs ++ replicate (n - length xs) None) p
  pub few : length xs ≤ n
  pub nr : p.nr ≡ start.nr
  pub overcommit : p.overcommit ≡ start.overcommit

pub begins : (size bytes : ℕ) (t : Table) (xs : List Slot) (p : Pool) → IsKept size bytes t xs p → IsEnding size bytes (length xs) t p xs p
begins size bytes t xs p kept =
    let none : length xs - length xs ≡ 0 = omega arith in
    record { kept = subst (λ ys. IsKept size bytes t ys p) (sym (ap (λ k. xs ++ replicate {A = Slot} k None) none ∙ append-nil xs)) kept; few = omega arith; nr = refl; overcommit = refl }

-- giving back changes nothing that is set
given_nr : (p q : Pool) (old new left : Slot) (reply : Reply) → ThroughDoor took (gives Done old new) old p reply left q → (q.nr ≡ p.nr) × (q.overcommit ≡ p.overcommit)
given_nr p q old new left reply h =
    let ks = puts_of old new in
    let back : Plan = Ask (λ nr. GiveBack ks (fall_of old new)) (λ answer. Answered Done new) in
    cond_both ((sum ks == 0) && (fall_of old new == 0)) (Finish (Answered Done new)) back
    (λ plan. ThroughDoor took plan old p reply left q → (q.nr ≡ p.nr) × (q.overcommit ≡ p.overcommit))
    (λ none h. (ap (λ x. x.nr) h.1, ap (λ x. x.overcommit) h.1))
    (λ some h. (ap (λ x. x.1.nr) (sym h.1) ∙ ap (λ x. x.nr) (puts_are ks p), ap (λ x. x.1.overcommit) (sym h.1) ∙ ap (λ x. x.overcommit) (puts_are ks p))) h

-- a mount that gives all back keeps the sums
gone_kept : (size bytes : ℕ) (t : Table) (xs : List Slot) (k : ℕ) (m : Mount) (p q : Pool) → IsKept size bytes t xs p → k < length xs → slot_in xs k ≡ Some m
    → ThroughDoor took (gives Done (Some m) None) (Some m) p (Ok Done) None q → IsKept size bytes t (slice_set xs k None) q
gone_kept size bytes t xs k m p q kept within here h =
    let s : State = state_of size t xs p in
    let plan : Plan = gives Done (Some m) None in
    let balanced = subst (λ y. IsBalanced y plan) (sym here) (balanced_gives Done (Some m) None (record { committed = omega arith; each = λ n. omega arith; usage = omega arith })) in
    let sound = subst (λ y. Always (λ o. IsSound (left_by y o)) plan) (sym here) (always_gives (λ o. IsSound (left_by (Some m) o)) Done (Some m) None tt) in
    let law = plan_tied s k plan within kept.settled balanced sound in
    let goes = plan_is size t xs k p kept.tied (Some m) None here plan (Ok Done) q (tells_gives Done (Some m) None) h in
    record {
      size = kept.size;
      some = kept.some;
      tied = ap (λ x. pool_of x.1) (sym goes.0) ∙ law.0 ∙ goes.1;
      settled = subst (λ x. IsSettledState x) (ap (λ x. x.1) goes.0) law.1;
    }

module _ (size bytes n : ℕ) (t : Table) (start : Pool) (xs rest : List Slot) (x : Slot) (p : Pool) (is : xs ≡ rest ++ x ∷ []) (was : IsEnding size bytes n t start xs p) where
  abbrev tail : ℕ
  tail = n - length xs

  wide : length xs ≡ length rest + 1
  wide = ap length is ∙ length-append rest (x ∷ [])

  laid : xs ++ replicate tail None ≡ rest ++ x ∷ replicate tail None
  laid = ap (λ ys. ys ++ replicate tail None) is ∙ append_assoc rest (x ∷ []) (replicate tail None)

  one_less : rest ++ None ∷ replicate tail None ≡ rest ++ replicate (n - length rest) None
  one_less =
      let few = was.few in
      let more : suc tail ≡ n - length rest = omega (arith, wide, few) in
      ap (λ k. rest ++ replicate {A = Slot} k None) more

  ended_with : (q : Pool) → IsKept size bytes t (rest ++ None ∷ replicate tail None) q → q.nr ≡ p.nr → q.overcommit ≡ p.overcommit → IsEnding size bytes n t start rest q
  ended_with q kept nr overcommit =
      let few = was.few in
      record { kept = subst (λ ys. IsKept size bytes t ys q) one_less kept; few = omega (arith, wide, few); nr = nr ∙ was.nr; overcommit = overcommit ∙ was.overcommit }

  -- the last slot had no mount
  pub none_goes : x ≡ None → IsEnding size bytes n t start rest p
  none_goes e = ended_with p (subst (λ ys. IsKept size bytes t ys p) (laid ∙ ap (λ y. rest ++ y ∷ replicate tail None) e) was.kept) refl refl

  -- or one that gave all back
  pub mount_goes : (m : Mount) (q : Pool) → x ≡ Some m → ThroughDoor took (gives Done (Some m) None) (Some m) p (Ok Done) None q → IsEnding size bytes n t start rest q
  mount_goes m q e given =
      let ys = rest ++ x ∷ replicate tail None in
      let kept = subst (λ zs. IsKept size bytes t zs p) laid was.kept in
      let within : length rest < length ys = omega (arith, length-append rest (x ∷ replicate tail None)) in
      let here = get_or-append_seam rest x (replicate tail None) None ∙ e in
      let same = given_nr p q (Some m) None None (Ok Done) given in
      ended_with q (subst (λ zs. IsKept size bytes t zs q) (set-append_seam rest x (replicate tail None) None) (gone_kept size bytes t ys (length rest) m p q kept within here given)) same.0 same.1

-- a mount's maps went, those of one task after those of another, and the mount stays as the last
module _ (size bytes n : ℕ) (t : Table) (start : Pool) (rest : List Slot) where
  exit_goes : (task : ℕ) (m left : Mount) (p q : Pool) → IsExit task m p left q → IsEnding size bytes n t start (rest ++ Some m ∷ []) p → IsEnding size bytes n t start (rest ++ Some left ∷ []) q
  exit_goes task m left p q exit was =
      let ys : List Slot = rest ++ Some m ∷ [] in
      let zs : List Slot = rest ++ Some left ∷ [] in
      let tail : ℕ = n - length ys in
      let more : List Slot = replicate tail None in
      let kept = subst (λ xs. IsKept size bytes t xs p) (append_assoc rest (Some m ∷ []) more) was.kept in
      let within : length rest < length (rest ++ Some m ∷ more) = omega (arith, length-append rest (Some m ∷ more)) in
      let here = get_or-append_seam rest (Some m) more None in
      let happens : IsTrue (has_maps_of task (Some m)) = rw (exit.some) refl in
      let carried = exit.carried size (length rest) in
      let now = kept_after size bytes t (rest ++ Some m ∷ more) (length rest) (Some m) (Some left) p q (ExitMaps task) (Ok Done) kept within here happens carried in
      let laid : slice_set (rest ++ Some m ∷ more) (length rest) (Some left) ≡ zs ++ more =
      set-append_seam rest (Some m) more (Some left) ∙ sym (append_assoc rest (Some left ∷ []) more) in
      let same : length zs ≡ length ys = length-append rest (Some left ∷ []) ∙ sym (length-append rest (Some m ∷ [])) in
      let set = given_nr p q (Some m) (Some (without_task task m)) (Some left) (Ok Done) carried.2 in
      let few = was.few in
      record {
        kept = subst (λ k. IsKept size bytes t (zs ++ replicate (n - k) None) q) (sym same) (subst (λ xs. IsKept size bytes t xs q) laid now);
        few = omega (arith, few, same);
        nr = set.0 ∙ was.nr;
        overcommit = set.1 ∙ was.overcommit;
      }

  pub exits_go : (tasks : List ℕ) (m left : Mount) (p q : Pool) → Exits tasks m p left q → IsEnding size bytes n t start (rest ++ Some m ∷ []) p →
      IsEnding size bytes n t start (rest ++ Some left ∷ []) q
  exits_go [] m left p q went was =
      subst (λ x. IsEnding size bytes n t start (rest ++ Some x ∷ []) q) (sym went.0) (subst (λ x. IsEnding size bytes n t start (rest ++ Some m ∷ []) x) (sym went.1) was)
  exits_go (task ∷ tasks) m left p q went was = exits_go tasks went.0 left went.1 q went.3 (exit_goes task m went.0 p went.1 went.2 was)

-- one task after others
pub exits_more : (tasks : List ℕ) (task : ℕ) (m n o : Mount) (p q r : Pool) → Exits tasks m p n q → IsExit task n q o r → Exits (tasks ++ task ∷ []) m p o r
exits_more [] task m n o p q r went next =
    (o, r, subst (λ x. IsExit task x p o r) went.0 (subst (λ x. IsExit task n x o r) went.1 next), (refl, refl))
exits_more (first ∷ tasks) task m n o p q r went next = (went.0, went.1, went.2, exits_more tasks task went.0 n o went.1 q r went.3 next)

-- nothing is committed any more
pub all_gone : (size bytes n : ℕ) (t : Table) (start p : Pool) (s : State) (xs : List Slot) → xs ≡ [] → IsEnding size bytes n t start xs p →
    start.nr ≡ s.nr → start.overcommit ≡ s.overcommit → counts_of p ≡ all_free s
all_gone size bytes n t start p s xs none ends nr_is overcommit_is =
    let kept = subst (λ ys. IsKept size bytes t (ys ++ replicate (n - length ys) None) p) none ends.kept in
    let sums : committed_pages (state_of size t (replicate (n - 0) None) p) ≡ 0 = sum_none (n - 0) in
    let committed : p.committed ≡ 0 = sym (ap (λ y. y.committed) kept.tied) ∙ sums in
    let in_use = subst (λ (y : Pool). used y ≤ y.committed) kept.tied kept.settled.pool.used in
    let idle : used p ≡ 0 = omega (arith, in_use, committed) in
    ap (λ c. counts_by p.nr p.overcommit c (used p)) committed ∙ ap (counts_by p.nr p.overcommit 0) idle ∙ free p.nr p.overcommit
    ∙ ap (λ k. record { total = k; free = k; rsvd = 0; surp = 0; nr = k; overcommit = p.overcommit }) (ends.nr ∙ nr_is)
    ∙ ap (λ o. record { total = s.nr; free = s.nr; rsvd = 0; surp = 0; nr = s.nr; overcommit = o }) (ends.overcommit ∙ overcommit_is)
  where
    free : (nr overcommit : ℕ) → counts_by nr overcommit 0 0 ≡ record { total = nr; free = nr; rsvd = 0; surp = 0; nr = nr; overcommit = overcommit }
    free nr overcommit =
        let most : max nr 0 ≡ nr = omega arith in
        let none : nr - nr ≡ 0 = omega arith in
        let whole : nr - 0 ≡ nr = omega arith in
        ap (λ k. record { total = k; free = k - 0; rsvd = 0; surp = k - nr; nr = nr; overcommit = overcommit }) most
        ∙ ap (λ k. record { total = nr; free = k; rsvd = 0; surp = nr - nr; nr = nr; overcommit = overcommit }) whole
        ∙ ap (λ k. record { total = nr; free = nr; rsvd = 0; surp = k; nr = nr; overcommit = overcommit }) none

-- ---- all slots

-- a slot goes from the end of what is left
slot_goes : (size bytes n : ℕ) (t : Table) (start : Pool) (rest : List Slot) (x : Slot) (p q : Pool) → SlotGoes x p q
    → IsEnding size bytes n t start (rest ++ x ∷ []) p → IsEnding size bytes n t start rest q
slot_goes size bytes n t start rest None p q went was =
    subst (λ y. IsEnding size bytes n t start rest y) (sym went) (none_goes size bytes n t start (rest ++ None ∷ []) rest None p refl was refl)
slot_goes size bytes n t start rest (Some m) p q went was =
    let last = went.0 in
    let r = went.1 in
    let left = exits_go size bytes n t start rest went.2.0 m last p r went.2.1 was in
    mount_goes size bytes n t start (rest ++ Some last ∷ []) rest (Some last) r refl left last q refl went.3

all_end : (size bytes n : ℕ) (t : Table) (start : Pool) (xs rest : List Slot) (p q : Pool) → AllGo xs p q
    → IsEnding size bytes n t start (rest ++ xs) p → IsEnding size bytes n t start rest q
all_end size bytes n t start [] rest p q went was =
    subst (λ y. IsEnding size bytes n t start rest y) (sym went) (subst (λ ys. IsEnding size bytes n t start ys p) (append-nil rest) was)
all_end size bytes n t start (x ∷ xs) rest p q went was =
    slot_goes size bytes n t start rest x went.0 q went.2
    (all_end size bytes n t start xs (rest ++ x ∷ []) p went.0 went.1 (subst (λ ys. IsEnding size bytes n t start ys p) (sym (append_assoc rest (x ∷ []) xs)) was))

-- where the pool's numbers were the sums, all pages are free once all slots are gone
pub all_are_free : (size bytes : ℕ) (t : Table) (xs : List Slot) (p q : Pool) (m : Machine) → IsSized size bytes → machine_of size t xs p ≡ m
    → AllGo xs p q → IsReadyMachine m → counts_of q ≡ all_free m.state
all_are_free size bytes t xs p q m sized is went ready =
    let ends = all_end size bytes (length xs) t p xs [] p q went (begins size bytes t xs p (kept_by m sized is ready)) in
    all_gone size bytes (length xs) t p q m.state [] refl ends (ap (λ (x : Machine). x.state.nr) is) (ap (λ (x : Machine). x.state.overcommit) is)

-- some slots are left, and those behind them went
pub record IsGoing (all : List Slot) (start : Pool) (left : List Slot) (p : Pool) : Type 0 where
  pub gone : List Slot
  pub parts : all ≡ left ++ gone
  pub went : AllGo gone start p
  pub ready : IsReadyPool p

pub going_begins : (xs : List Slot) (p : Pool) → IsReadyPool p → IsGoing xs p xs p
going_begins xs p ready = record { gone = []; parts = sym (append-nil xs); went = refl; ready = ready }

pub going_goes : (all : List Slot) (start : Pool) (left rest : List Slot) (x : Slot) (p q : Pool) → left ≡ rest ++ x ∷ [] → SlotGoes x p q → IsReadyPool q
    → IsGoing all start left p → IsGoing all start rest q
going_goes all start left rest x p q is goes ready was =
    record {
      gone = x ∷ was.gone;
      parts = was.parts ∙ ap (λ ys. ys ++ was.gone) is ∙ append_assoc rest (x ∷ []) was.gone;
      went = (p, was.went, goes);
      ready = ready;
    }

pub going_ends : (all : List Slot) (start : Pool) (left : List Slot) (p : Pool) → left ≡ [] → IsGoing all start left p → AllGo all start p
going_ends all start left p none was = subst (λ xs. AllGo xs start p) (sym (was.parts ∙ ap (λ ys. ys ++ was.gone) none)) was.went

few_pages : (rows : List NodeRow) → All IsRow rows → total_of rows ≤ 65536 * length rows
few_pages [] all = omega arith
few_pages (r ∷ rows) all =
    let head = All-head IsRow r rows all in
    let total_in = head.total_in in
    let few = head.few in
    let rest = few_pages rows (All-tail IsRow r rows all) in
    omega (arith, rest, total_in, few, sum_by-cons (λ (x : NodeRow). x.total) r rows)
