-- A trail keeps its fact with one entry more.
use Rattle.std.proofs.Common.{◌≡◌, length, Bool, true, false, arith, ℕ, List, [], ◌∷◌, ◌++◌, Option, Some, None, Ok, refl, sym, ap, ◌∙◌, subst, sum, IfSome, IfNone, is_some, ◌+◌, ◌*◌, ◌<◌, ◌≤◌}
use Rattle.hp_laws.proofs.Variants.{Asked, GiveBack, Number, OfSlot, PoolAnswer, PoolEntry, PoolEvent, Section}
use Rattle.hp_model.proofs.Words.{IsPoolRun, IsPoolStep, IsSettled, IsSettledPool, Pool, Reply, frames_of, granted_at, pool_event, puts_from, released, section, set_nr, to_return, trimmed}
use Rattle.hp_model.proofs.Sums.{idle_total}
use Rattle.hp_pool.specs.Sums.{idle_pool}
use Rattle.std.proofs.lemmas.Bool.{lt-ltb, ltb-true}
use Rattle.hp_mount_door.specs.Door.{IsReady}
use Rattle.hp_trail.specs.Keeping.{has_room, one_less, with_entry}
use Rattle.hp_locked.specs.Views.{IsNewTrail, HasPlaces, CoreView, IsCore, IsGiven, IsPlace, IsPoolTrail, IsSeated, IsTrailOf}
use Rattle.atomic_table.specs.Seated.{TableId}
use Rattle.hp_history.specs.declared.held.Held.{Held}
use Rattle.hp_history.specs.declared.held.Held.TheVariants.{Pool as PoolPart}
use Rattle.hp_history.specs.Sections.{pool_in, pool_next, pool_view}
use Rattle.hp_laws.proofs.settled.Closing.{most_return, step_frames}
use Rattle.hp_laws.proofs.sections.Lengths.{long_event}
use Rattle.hp_model.specs.declared.event.PoolEvent.TheVariants.{Nr}

pub fresh_core : (fs : List ℕ) (o : Option (List PoolEntry)) (left : Option ℕ) (extra : ℕ) (p : Pool) → p ≡ idle_pool fs → IsReady p →
    (IsSettled p → IsSettledPool p) → IsNewTrail o → 2 * frames_of (idle_pool fs).nodes.rows ≤ extra
    → IsCore (idle_pool fs) o left extra p
fresh_core fs o left extra p is ready law fresh enough = record {
  trail = starts o fresh;
  ready = ready;
  settled = law ready.settled;
  frames = ap (λ (x : Pool). frames_of x.nodes.rows) is;
  enough = enough;
  places = none left (ap to_return is ∙ nothing);
}
  where
    starts : (o : Option (List PoolEntry)) → IsNewTrail o → IsPoolTrail (idle_pool fs) o p
    starts None fresh = tt
    starts (Some es) fresh = subst (λ (xs : List PoolEntry). IsPoolRun (idle_pool fs) xs p) (sym fresh) (sym is)

    nothing : to_return (idle_pool fs) ≡ 0
    nothing = (let total = idle_total fs in omega (arith, total))

    none : (l : Option ℕ) → to_return p ≡ 0 → HasPlaces l (to_return p)
    none None e = tt
    none (Some n) e = omega (arith, e)

pub pool_push : (p : Pool) (es : List PoolEntry) (m : Pool) (e : PoolEntry) (q : Pool) → IsPoolRun p es m → IsPoolStep m e q → IsPoolRun p (es ++ e ∷ []) q
pool_push p [] m e q run step = (q, subst (λ (x : Pool). IsPoolStep x e q) (sym run) step, refl)
pool_push p (x ∷ es) m e q run step = (run.0, run.1, pool_push run.0 es m e q run.2 step)

pub pool_added : (start : Pool) (o : Option (List PoolEntry)) (m : Pool) (e : PoolEntry) (q : Pool) → IsPoolTrail start o m → IsPoolStep m e q → IsPoolTrail start (with_entry o e) q
pool_added start None m e q run step = tt
pool_added start (Some es) m e q run step = pool_push start es m e q run step

-- ---- places

-- an entry of another kind leaves the places of those that give back
spared : (l : Option ℕ) (extra n : ℕ) → has_room false l extra ≡ true → n ≤ extra → HasPlaces (one_less l) n
spared None extra n room le = tt
spared (Some l) extra n room le = (let few = ltb-true extra l room in omega (arith, few, le))

-- and one that gives back takes one
closed : (l : Option ℕ) (m n : ℕ) → HasPlaces l m → n < m → HasPlaces (one_less l) n
closed None m n places less = tt
closed (Some l) m n places less = omega (arith, places, less)

has_place : (l : Option ℕ) (extra n : ℕ) → HasPlaces l n → 0 < n → has_room true l extra ≡ true
has_place None extra n places some = refl
has_place (Some l) extra n places some = lt-ltb 0 l (omega (arith, places, some))

module _ (start : Pool) (o o2 : Option (List PoolEntry)) (left left2 : Option ℕ) (extra extra2 : ℕ) (p : Pool) (e : PoolEntry) (q : Pool) (core : IsCore start o left extra p)
    (noted : o2 ≡ with_entry o e) (lessens : left2 ≡ one_less left) (stays : extra2 ≡ extra) (step : IsPoolStep p e q) (ready : IsReady q) (law : IsSettled q → IsSettledPool q) where
  as_noted : HasPlaces (one_less left) (to_return q) → IsCore start o2 left2 extra2 q
  as_noted places = record {
    trail = subst (λ (x : Option (List PoolEntry)). IsPoolTrail start x q) (sym noted) (pool_added start o p e q core.trail step);
    ready = ready;
    settled = law ready.settled;
    frames = step_frames p q e core.settled step ∙ core.frames;
    enough = (let was = core.enough in omega (arith, was, stays));
    places = subst (λ (x : Option ℕ). HasPlaces x (to_return q)) (sym lessens) places;
  }

  -- an entry of any kind
  pub entry_noted : has_room false left extra ≡ true → IsCore start o2 left2 extra2 q
  entry_noted room =
      as_noted (spared left extra (to_return q) room (let most = most_return q (law ready.settled) in
      let same = step_frames p q e core.settled step in let was = core.frames in let enough = core.enough in
      omega (arith, most, same, was, enough)))

  -- one that gives back
  pub given_back : to_return q < to_return p → IsCore start o2 left2 extra2 q
  given_back less = as_noted (closed left (to_return p) (to_return q) core.places less)

-- the pool's seat, once it has an entry more
pub seated_more : (history : TableId) (start : Pool) (id id2 : TableId) (views views2 : List (List Held)) (o o2 : Option (List PoolEntry)) (p : Pool) (e : PoolEntry) (q : Pool) →
    IsSeated history start id views o p → o2 ≡ with_entry o e → id2 ≡ history → views2 ≡ (PoolPart (pool_in views ++ e ∷ []) ∷ []) ∷ [] → IsPoolStep p e q
    → IsSeated history start id2 views2 o2 q
seated_more history start id id2 views views2 o o2 p e q was noted named now step = record {
  named = named;
  one = now ∙ ap (λ vs. pool_view vs ∷ []) (sym now);
  run = subst (λ vs. IsPoolRun start (pool_in vs) q) (sym now) (pool_push start (pool_in views) p e q was.run step);
  kept = subst (λ vs. IsTrailOf (pool_in vs) o2) (sym now) (subst (λ (x : Option (List PoolEntry)). IsTrailOf (pool_in views ++ e ∷ []) x) (sym noted) (more o was.kept));
}
  where
    more : (o : Option (List PoolEntry)) → IsTrailOf (pool_in views) o → IsTrailOf (pool_in views ++ e ∷ []) (with_entry o e)
    more None kept = tt
    more (Some es) kept = ap (λ (xs : List PoolEntry). xs ++ e ∷ []) kept

-- the pool and its seat, once an entry was noted
pub entry_kept : {history : TableId} {start : Pool} {o o2 : Option (List PoolEntry)} {left left2 : Option ℕ} {extra extra2 : ℕ} {p q : Pool}
    {id id2 : TableId} {views views2 : List (List Held)} (e : PoolEntry)
    → IsCore start o left extra p × IsSeated history start id views o p → o2 ≡ with_entry o e → left2 ≡ one_less left → extra2 ≡ extra → id2 ≡ history
    → views2 ≡ (PoolPart (pool_in views ++ e ∷ []) ∷ []) ∷ [] → IsPoolStep p e q → IsReady q → (IsSettled q → IsSettledPool q) → has_room false left extra ≡ true
    → IsCore start o2 left2 extra2 q × IsSeated history start id2 views2 o2 q
entry_kept {history} {start} {o} {o2} {left} {left2} {extra} {extra2} {p} {q} {id} {id2} {views} {views2} e was noted lessens stays named now step ready law room = (
  entry_noted start o o2 left left2 extra extra2 p e q was.0 noted lessens stays step ready law room,
  seated_more history start id id2 views views2 o o2 p e q was.1 noted named now step,
)

-- once a section was
pub section_kept : {history : TableId} {start : Pool} {o o2 : Option (List PoolEntry)} {left left2 : Option ℕ} {extra extra2 : ℕ} {p q : Pool}
    {id id2 : TableId} {views views2 : List (List Held)} {s : Section} {a : PoolAnswer} (asked : Asked)
    → IsCore start o left extra p × IsSeated history start id views o p → asked.section ≡ s → asked.answer ≡ a
    → o2 ≡ with_entry o (OfSlot s a) → left2 ≡ one_less left → extra2 ≡ extra → id2 ≡ history → views2 ≡ (pool_next asked (pool_in views) ∷ []) ∷ [] → section p s ≡ (a, q)
    → IsReady q → (IsSettled q → IsSettledPool q) → has_room false left extra ≡ true → IsCore start o2 left2 extra2 q × IsSeated history start id2 views2 o2 q
section_kept {views = views} {s} {a} asked was is answers noted lessens stays named now step ready law room =
    entry_kept (OfSlot s a) was noted lessens stays named (now ∙ ap (λ (x : PoolEntry). (PoolPart (pool_in views ++ x ∷ []) ∷ []) ∷ []) (λ i. OfSlot (is i) (answers i))) step ready law room

-- the same seat
pub seated_stays : (history : TableId) (start : Pool) (id id2 : TableId) (views views2 : List (List Held)) (o o2 : Option (List PoolEntry)) (p q : Pool) →
    IsSeated history start id views o p → o2 ≡ o → id2 ≡ history → views2 ≡ views → q ≡ p → IsSeated history start id2 views2 o2 q
seated_stays history start id id2 views views2 o o2 p q was same named stays is = record {
  named = named;
  one = stays ∙ was.one ∙ ap (λ vs. pool_view vs ∷ []) (sym stays);
  run = subst (λ vs. IsPoolRun start (pool_in vs) q) (sym stays) (subst (λ (x : Pool). IsPoolRun start (pool_in views) x) (sym is) was.run);
  kept = subst (λ vs. IsTrailOf (pool_in vs) o2) (sym stays) (subst (λ (x : Option (List PoolEntry)). IsTrailOf (pool_in views) x) (sym same) was.kept);
}

-- what was given back, noted
module _ {X : Type 0} (E : X → Option (List PoolEntry)) (L : X → Option ℕ) (R : X → ℕ) (old new : X) (before after : List (List Held)) (puts : List ℕ) (k : ℕ) (p q : Pool) where
  abbrev view : Pool → X → List (List Held) → CoreView
  view p t vs = record { pool = p; run = pool_in vs; entries = E t; left = L t; extra = R t }

  abbrev Noted : List ℕ → ℕ → Asked → Type 0
  Noted counts m a = (a.section ≡ GiveBack counts m) × (a.answer ≡ granted_at 0) × IsPlace (E old) a.place
      × (E new ≡ with_entry (E old) (OfSlot a.section a.answer)) × (0 < sum counts + m) × (L new ≡ one_less (L old)) × (R new ≡ R old)
      × (after ≡ (pool_next a (pool_in before) ∷ []) ∷ [])

  abbrev Unnoted : ℕ → Type 0
  Unnoted n = (new ≡ old) × (n ≡ 0) × (after ≡ before)

  -- the section as it is said of the pool
  gave : (a : Asked) → q ≡ trimmed (released k (puts_from 0 puts p)) → Noted puts k a → section p a.section ≡ (a.answer, q)
  gave a moved n = ap (section p) n.0 ∙ ap (λ (x : Pool). (granted_at 0, x)) (sym moved) ∙ ap (λ x. (x, q)) (sym n.1)

  noted_as : (counts : List ℕ) (m : ℕ) (t : Option Asked) → counts ≡ puts → m ≡ k → IfSome t (λ a. Noted counts m a) → IfSome t (λ a. Noted puts k a)
  noted_as counts m t same falls n = subst (λ (x : List ℕ). IfSome t (λ a. Noted x k a)) same (subst (λ (x : ℕ). IfSome t (λ a. Noted counts x a)) falls n)

  none_as : (counts : List ℕ) (m : ℕ) (t : Option Asked) → counts ≡ puts → m ≡ k → IfNone t (Unnoted (sum counts + m)) → IfNone t (Unnoted (sum puts + k))
  none_as counts m t same falls n = subst (λ (x : List ℕ). IfNone t (Unnoted (sum x + k))) same (subst (λ (x : ℕ). IfNone t (Unnoted (sum counts + x))) falls n)

  keeps : (start : Pool) (t : Option Asked) → IsCore start (E old) (L old) (R old) p → q ≡ trimmed (released k (puts_from 0 puts p)) →
      (sum puts + k ≡ 0 → q ≡ p) → IsReady q → (IsSettled q → IsSettledPool q)
      → (0 < sum puts + k → to_return q < to_return p)
      → IfSome t (λ a. Noted puts k a) → IfNone t (Unnoted (sum puts + k)) → IsCore start (E new) (L new) (R new) q
  keeps start (Some a) core moved stays ready law less n none =
      given_back start (E old) (E new) (L old) (L new) (R old) (R new) p (OfSlot a.section a.answer) q core n.3 n.5 n.6 (gave a moved n) ready law (less n.4)
  keeps start None core moved stays ready law less n none =
      subst (λ (x : Pool). IsCore start (E new) (L new) (R new) x) (sym (stays none.1)) (subst (λ (x : X). IsCore start (E x) (L x) (R x) p) (sym none.0) core)

  is_given : (t : Option Asked) → q ≡ trimmed (released k (puts_from 0 puts p)) → (sum puts + k ≡ 0 → q ≡ p) → IfSome t (λ a. Noted puts k a) →
      IfNone t (Unnoted (sum puts + k)) → IsGiven puts k (view p old before) (view q new after) t
  is_given (Some a) moved stays n none = (record { changes = gave a moved n; run = ap pool_in n.7; entries = n.3; place = n.2 }, n.0, n.1, n.4)
  is_given None moved stays n none = (ap (λ x. view x new after) (stays none.1) ∙ ap (λ x. view p x after) none.0 ∙ ap (view p old) none.2, none.1)

  seats : (history : TableId) (start : Pool) (id id2 : TableId) (t : Option Asked) → IsSeated history start id before (E old) p → id2 ≡ history → q ≡ trimmed (released k (puts_from 0 puts p))
      → (sum puts + k ≡ 0 → q ≡ p) → IfSome t (λ a. Noted puts k a) → IfNone t (Unnoted (sum puts + k)) → IsSeated history start id2 after (E new) q
  seats history start id id2 (Some a) was named moved stays n none = seated_more history start id id2 before after (E old) (E new) p (OfSlot a.section a.answer) q was n.3 named n.7 (gave a moved n)
  seats history start id id2 None was named moved stays n none = seated_stays history start id id2 before after (E old) (E new) p q was (ap E none.0) named none.2 (stays none.1)

  module _ (counts : List ℕ) (m : ℕ) (same : counts ≡ puts) (falls : m ≡ k) (moved : q ≡ trimmed (released k (puts_from 0 puts p)))
      (stays : sum puts + k ≡ 0 → q ≡ p) (t : Option Asked) (n : IfSome t (λ a. Noted counts m a))
      (none : IfNone t (Unnoted (sum counts + m))) where
    pub given_kept : {history : TableId} {start : Pool} {id id2 : TableId} → IsCore start (E old) (L old) (R old) p × IsSeated history start id before (E old) p → IsReady q
        → (IsSettled q → IsSettledPool q) → (0 < sum puts + k → to_return q < to_return p) → id2 ≡ history
        → IsCore start (E new) (L new) (R new) q × IsSeated history start id2 after (E new) q
    given_kept {history} {start} {id} {id2} was ready law less named =
        let some = noted_as counts m t same falls n in
        let no = none_as counts m t same falls none in
        (keeps start t was.0 moved stays ready law less some no, seats history start id id2 t was.1 named moved stays some no)

    pub given_is : IsGiven puts k (view p old before) (view q new after) t
    given_is = is_given t moved stays (noted_as counts m t same falls n) (none_as counts m t same falls none)

-- what gives back has room
pub may_note : (start : Pool) (o : Option (List PoolEntry)) (l : Option ℕ) (extra : ℕ) (p q : Pool) (puts counts : List ℕ) (k m : ℕ) → IsCore start o l extra p → counts ≡ puts → m ≡ k
    → (0 < sum puts + k → to_return q < to_return p) → 0 < sum counts + m → has_room true l extra ≡ true
may_note start o l extra p q puts counts k m core same falls less some =
    let is = ap sum same in
    let few = less (omega (arith, is, falls, some)) in
    has_place l extra (to_return p) core.places (omega (arith, few))

-- an event leaves the pool ready
pub event_ready : (p q : Pool) (e : PoolEvent) (r : Reply) → pool_event p e ≡ (r, q) → IsReady p → IsSettled q → IsReady q
event_ready p q e r step ready is =
    let nodes = ready.nodes in
    let long = long_event p e in
    let same = ap (λ (x : Reply × Pool). length x.1.nodes.rows) step in
    record { settled = is; nodes = omega (arith, nodes, long, same) }

pub set_ready : (p q : Pool) (n : ℕ) → q ≡ set_nr n p → IsReady p → IsSettled q → IsReady q
set_ready p q n is ready = event_ready p q (Nr n) (Ok (Number (set_nr n p).nr)) (ap (λ (x : Pool). (Ok (Number (set_nr n p).nr), x)) (sym is)) ready

-- where the trail is kept, the place that is told of an entry is that in the history
pub place_kept : (k : Bool) (o : Option (List PoolEntry)) (run : List PoolEntry) (place : ℕ)
    → is_some o ≡ k → IsTrailOf run o → ((es : List PoolEntry) → o ≡ Some es → place ≡ length es) → k ≡ true → place ≡ length run
place_kept k None run place kept is at on = absurd (let no = kept in cc)
place_kept k (Some es) run place kept is at on = at es refl ∙ ap length is
