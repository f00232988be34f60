-- Each step of a seat keeps the rule.
use Rattle.std.proofs.lemmas.Grind.{common_steps}
use Rattle.std.proofs.Common.{◌≡◌, ◌≢◌, ℕ, zero, suc, ◌+◌, ◌*◌, ◌/◌, ◌%◌, ◌^◌, ◌<◌, ◌≤◌, ◌==◌, replicate, Option, None, Some, Bool, true, List, [], ◌∷◌, ◌++◌, length, set, refl, sym, ap, ◌∙◌, subst}
use Rattle.std.proofs.Common.{⊎_elim, arith, eq-eqb, ne_eqb, if◌then◌else◌, slice_index, slice_set}
use Rattle.std.proofs.lemmas.List.{append-nil, append_assoc, length-map}
use Rattle.std.proofs.Common.{false}
use mathlib.Core.Option.{some, some-ne-none, some-injective}
use prog.Atomic.{either}
use lib.ListN.{get_elem?}
use Rattle.atomic_table.specs.Table.{State as TableState, Act, Allows, Splits, Joins, Valid, carried_after, opening, keeps, stepped}
use Rattle.atomic_table.specs.Seated.{TableId}
use Rattle.atomic_table.proofs.Lists.{at_set, exchanged}
use Rattle.hp_laws.proofs.Variants.{Receipt}
use Rattle.hp_model.proofs.Words.{Table, added, home_of, keep, option_cons, receipt_of, removed}
use Rattle.hp_history.specs.declared.held.Held.{Held}
use Rattle.hp_history.specs.declared.held.Held.TheVariants.{Tasks, Pool, Opener, Slot, Session, Busy, Seen}
use Rattle.hp_history.specs.declared.law.Shape.{Shape}
use Rattle.hp_history.specs.History.{Each, Fits, IsNoted, IsQuiet, IsSession, Turns, Whole, IsWithin, IsSeatStep, Has, parts_of, Kept, Ends, CanGo, Mark}
use Rattle.hp_history.specs.History.{Done, Open, Looked, IsOpener, sessions_in, opened, new_session, all_parts, held_from, told_mark, there}
use Rattle.hp_events.specs.Time.{made}
use Rattle.hp_history.specs.History.{Once, flat, AreClocks, IsDated, IsFirst, IsSeenIn, by_of, bys, complete}
use Rattle.hp_history.specs.History.{first_of_view, rest_of_view, first_home, look_item, looked, number_in, rests, says_home, table_of, receipts_in}
use Rattle.hp_history.proofs.Lists.{each_map, each_both, each_append, each_back, each_front, at_end, length_set, once_append, once_back, once_front}
use Rattle.hp_history.proofs.Folds.{after_more, agree_more}
use Rattle.hp_history.proofs.Steps.{look_step, with_mark}
use Rattle.hp_history.proofs.Words.{none_fits, says, words_came, words_gone, words_stay, zeros}

abbrev T : Type 0
T = TableState (Unit {0}) (List Held)

abbrev pub holds : Shape → T → Type 0
holds slots s = Kept slots s.words s.views

abbrev Owns : (ℕ → ℕ) → ℕ → Held → Type 0
Owns owner by h = Each (λ p. owner p ≡ by) (parts_of h)

-- what the rule says of one view
abbrev Owned : Shape → (ℕ → ℕ) → Whole → ℕ → List Held → Type 0
Owned slots owner z by v = Each (λ h. Owns owner by h × Has slots z h) v

-- ---- no part twice

AllOnce : List (List Held) → Type 0
AllOnce vs = (by : ℕ) (v : List Held) → get_elem? vs by ≡ some v → Once (flat v)

once_set : (vs : List (List Held)) (id : ℕ) (w : List Held) → AllOnce vs → Once (flat w) → AllOnce (set vs id w)
unfolding AllOnce
once_set vs id w h k j u e =
    ⊎_elim (λ (r : (j ≡ id) × (w ≡ u)). subst (λ x. Once (flat x)) r.1 k) (λ (r : (j ≢ id) × (get_elem? vs j ≡ some u)). h j u r.1) (at_set vs id j w u e)

once_more : (vs : List (List Held)) (w : List Held) → AllOnce vs → Once (flat w) → AllOnce (vs ++ w ∷ [])
unfolding AllOnce
once_more vs w h k j u e =
    ⊎_elim (λ (t : get_elem? vs j ≡ some u). h j u t) (λ (t : (j ≡ length vs) × (w ≡ u)). subst (λ x. Once (flat x)) t.1 k) (at_end vs w u j e)

once_at : (vs : List (List Held)) → AllOnce vs → (id : ℕ) (v : List Held) → get_elem? vs id ≡ some v → Once (flat v)
unfolding AllOnce
once_at vs h id v at = h id v at

pub flat_append : (v w : List Held) → flat (v ++ w) ≡ flat v ++ flat w
flat_append [] w = refl
flat_append (h ∷ v) w = ap (λ l. parts_of h ++ l) (flat_append v w) ∙ sym (append_assoc (parts_of h) (flat v) (flat w))

each_flat : (P : ℕ → Type 0) (v : List Held) → Each (λ h. Each P (parts_of h)) v → Each P (flat v)
each_flat P [] h = tt
each_flat P (g ∷ v) h = each_append P (parts_of g) (flat v) h.0 (each_flat P v h.1)

each_part : (P : ℕ → Type 0) (v : List Held) → Each P (flat v) → Each (λ h. Each P (parts_of h)) v
each_part P [] h = tt
each_part P (g ∷ v) h = (each_front P (parts_of g) (flat v) h, each_part P v (each_back P (parts_of g) (flat v) h))

below : (c b n : ℕ) → c < 2 * b + 3 → Each (λ q. c ≢ q) (flat (held_from b (replicate n [])))
below c b zero l = tt
below c b (suc n) l = ((λ e. omega (arith, l, e)), below c (b + 1) n (omega (arith, l)))

slots_once : (b n : ℕ) → Once (flat (held_from b (replicate n [])))
slots_once b zero = tt
slots_once b (suc n) = (below (2 * b + 3) (b + 1) n (omega arith), slots_once (b + 1) n)

first_once : (slots : Shape) → Once (flat (all_parts slots))
first_once slots =
    let n = slots.slots in (
      ((λ e. omega (arith, e)), ((λ e. omega (arith, e)), below 0 0 n (omega arith))),
      (((λ e. omega (arith, e)), below 1 0 n (omega arith)), (below 2 0 n (omega arith), slots_once 0 n)),
    )

all_once : (slots : Shape) → AllOnce (all_parts slots ∷ [])
unfolding AllOnce
all_once slots zero v e = subst (λ u. Once (flat u)) (some-injective _ _ e) (first_once slots)
all_once slots (suc by) v e = absurd (some-ne-none v (sym e))

-- ---- the start

empty : Whole
empty = record { marks = []; sessions = 0 }

slots_begin : (slots : Shape) (b n : ℕ) → b + n ≤ slots.slots → Owned slots (λ p. 0) empty 0 (held_from b (replicate n []))
unfolding empty
slots_begin slots b zero l = tt
slots_begin slots b (suc n) l = (((refl, tt), (omega arith, refl)), slots_begin slots (b + 1) n (omega arith))

pub begins : (slots : Shape) (n : ℕ) → holds slots (opening (replicate n 0) [] (all_parts slots))
unfolding empty AllOnce
begins slots n = (empty, (λ p. 0), tt, one, (tt, λ place. none_fits [] place _ (zeros n place)), all_once slots)
  where
    one : (by : ℕ) (v : List Held) → get_elem? (all_parts slots ∷ []) by ≡ some v → Owned slots (λ p. 0) empty by v
    one zero v e = subst (λ u. Owned slots (λ p. 0) empty 0 u) (some-injective _ _ e)
        (((refl, tt), refl), (((refl, tt), refl), (((refl, tt), refl), slots_begin slots 0 slots.slots (omega arith))))
    one (suc by) v e = absurd (some-ne-none v (sym e))

-- the parts of two seats are apart
apart_of : (owner : ℕ → ℕ) (ps qs : List ℕ) (i j : ℕ) → Each (λ p. owner p ≡ i) ps → Each (λ q. owner q ≡ j) qs → j ≢ i → Each (λ q. Each (λ p. q ≢ p) ps) qs
apart_of owner ps qs i j a b n = each_map (λ q e. each_map (λ p f r. n (sym e ∙ (ap owner r ∙ f))) ps a) qs b

-- ---- a view takes another in

-- the parts of one seat belong to another
abbrev handed : ℕ → ℕ → (ℕ → ℕ) → ℕ → ℕ
handed from to owner p = either (owner p == from) to (owner p)

pub joins : (slots : Shape) (id : ℕ) (v : List Held) (other : ℕ) (w : List Held) → Joins (holds slots) id v other w (w ++ v) []
unfolding AllOnce
joins slots id v other w s h at apart there =
    let z = h.0 in
    let owner = h.1 in
    let theirs : get_elem? s.views other ≡ some w =
    ⊎_elim (λ (t : (other ≡ id) × (w ++ v ≡ w)). absurd (apart t.0)) (λ (t : (other ≢ id) × (get_elem? s.views other ≡ some w)). t.1) (at_set s.views id other (w ++ v) w there) in
    let stays : (j : ℕ) → j ≢ other → (x : Held) → Owns owner j x × Has slots z x → Owns (handed other id owner) j x × Has slots z x =
    λ j n x t. (each_map (λ p e. exchanged (owner p) other id (λ m. m ≡ j) (λ r. absurd (n (sym e ∙ r))) (λ _. e)) (parts_of x) t.0, t.1) in
    let comes : (x : Held) → Owns owner other x × Has slots z x → Owns (handed other id owner) id x × Has slots z x =
    λ x t. (each_map (λ p e. exchanged (owner p) other id (λ m. m ≡ id) (λ _. refl) (λ n. absurd (n e))) (parts_of x) t.0, t.1) in
    let mine : Owned slots (handed other id owner) z id (w ++ v) =
    each_append _ w v (each_map comes w (h.3 other w theirs)) (each_map (stays id (λ e. apart (sym e))) v (h.3 id v at)) in
    let of_w : Each (λ p. owner p ≡ other) (flat w) = each_flat (λ p. owner p ≡ other) w (each_map (λ g t. t.0) w (h.3 other w theirs)) in
    let of_v : Each (λ p. owner p ≡ id) (flat v) = each_flat (λ p. owner p ≡ id) v (each_map (λ g t. t.0) v (h.3 id v at)) in
    let both : Once (flat (w ++ v)) =
    subst (λ ps. Once ps) (sym (flat_append w v)) (once_append (flat w) (flat v) (h.5 other w theirs) (h.5 id v at) (apart_of owner (flat v) (flat w) id other of_v of_w apart)) in (
      z,
      handed other id owner,
      h.2,
      λ j u e.
          ⊎_elim
          (λ (t : (j ≡ other) × ([] ≡ u)). subst (λ x. Owned slots (handed other id owner) z j x) t.1 tt)
          (λ (t : (j ≢ other) × (get_elem? (set s.views id (w ++ v)) j ≡ some u)).
          ⊎_elim
          (λ (r : (j ≡ id) × (w ++ v ≡ u)). subst (λ (x : ℕ × List Held). Owned slots (handed other id owner) z x.0 x.1) (λ i. (sym r.0 i, r.1 i)) mine)
          (λ (r : (j ≢ id) × (get_elem? s.views j ≡ some u)). each_map (stays j t.0) u (h.3 j u r.1))
          (at_set s.views id j (w ++ v) u t.1))
          (at_set (set s.views id (w ++ v)) other j [] u e),
      h.4,
      once_set (set s.views id (w ++ v)) other [] (once_set s.views id (w ++ v) h.5 both) tt,
    )

-- ---- a view gives its first part away

-- these parts belong to a seat
given : List ℕ → ℕ → (ℕ → ℕ) → ℕ → ℕ
given [] to owner p = owner p
given (q ∷ qs) to owner p = either (p == q) to (given qs to owner p)

either_same : (b : Bool) (to x : ℕ) → x ≡ to → either b to x ≡ to
either_same b to x e = grind (arith, common_steps)

given_here : (qs : List ℕ) (to : ℕ) (owner : ℕ → ℕ) → Each (λ p. given qs to owner p ≡ to) qs
unfolding given
given_here [] to owner = tt
given_here (q ∷ qs) to owner = (
  subst (λ b. either b to (given qs to owner q) ≡ to) (sym (eq-eqb q q refl)) refl,
  each_map (λ p e. either_same (p == q) to (given qs to owner p) e) qs (given_here qs to owner),
)

given_else : (qs : List ℕ) (to : ℕ) (owner : ℕ → ℕ) (p j : ℕ) → Each (λ q. p ≢ q) qs → owner p ≡ j → given qs to owner p ≡ j
unfolding given
given_else [] to owner p j n e = e
given_else (q ∷ qs) to owner p j n e =
    subst (λ b. either b to (given qs to owner p) ≡ j) (sym (ne_eqb p q n.0)) (given_else qs to owner p j n.1 e)

pub parts : (slots : Shape) (id : ℕ) (v : List Held) → CanGo v → Splits (holds slots) id v (rest_of_view v) (first_of_view v)
unfolding AllOnce
parts slots id [] can s h at = absurd can
parts slots id (x ∷ xs) can s h at =
    let z = h.0 in
    let owner = h.1 in
    let new : ℕ = length s.views in
    let now : ℕ → ℕ = given (parts_of x) new owner in
    let mine = h.3 id (x ∷ xs) at in
    let keeps : (j : ℕ) (g : Held) → Each (λ p. Each (λ q. p ≢ q) (parts_of x)) (parts_of g) → Owns owner j g → Owns now j g =
    λ j g a o. each_both (λ p n e. given_else (parts_of x) new owner p j n e) (parts_of g) a o in
    let rest : Owned slots now z id xs = each_both (λ g a t. (keeps id g a t.0, t.1)) xs can mine.1 in
    let others : (j : ℕ) (u : List Held) → j ≢ id → get_elem? s.views j ≡ some u → Owned slots now z j u =
    λ j u n e. each_map (λ g t. (keeps j g (apart_of owner (parts_of x) (parts_of g) id j mine.0.0 t.0 n) t.0, t.1)) u (h.3 j u e) in
    let first : Owned slots now z new (x ∷ []) = ((given_here (parts_of x) new owner, mine.0.1), tt) in (
      z,
      now,
      h.2,
      λ j u e.
          ⊎_elim
          (λ (t : get_elem? (set s.views id xs) j ≡ some u).
          ⊎_elim
          (λ (r : (j ≡ id) × (xs ≡ u)). subst (λ (y : ℕ × List Held). Owned slots now z y.0 y.1) (λ i. (sym r.0 i, r.1 i)) rest)
          (λ (r : (j ≢ id) × (get_elem? s.views j ≡ some u)). others j u r.0 r.1)
          (at_set s.views id j xs u t))
          (λ (t : (j ≡ length (set s.views id xs)) × (x ∷ [] ≡ u)).
          subst (λ (y : ℕ × List Held). Owned slots now z y.0 y.1) (λ i. (sym (t.0 ∙ length_set s.views id xs) i, t.1 i)) first)
          (at_end (set s.views id xs) (x ∷ []) u j e),
      h.4,
      once_more (set s.views id xs) (x ∷ []) (once_set s.views id xs h.5 (once_back (parts_of x) (flat xs) (h.5 id (x ∷ xs) at)))
          (subst (λ ps. Once ps) (sym (append-nil (parts_of x))) (once_front (parts_of x) (flat xs) (h.5 id (x ∷ xs) at))),
    )

-- ---- a session more

with_session : Whole → Whole
with_session z = record { marks = z.marks; sessions = z.sessions + 1 }

still_within : (slots : Shape) (sessions : ℕ) (m : Mark) → IsWithin slots sessions m → IsWithin slots (sessions + 1) m
still_within slots sessions m h = grind (arith, common_steps)

none_told : (slots : Shape) (n : ℕ) (ms : List Mark) → Each (IsWithin slots n) ms → keep (told_mark n) ms ≡ []
none_told slots n [] h = refl
none_told slots n (Done i ∷ ms) h =
    let below = h.0.1 in
    (λ j. option_cons (there (if ne_eqb i.by n (λ e. omega (arith, below, e)) j then Some (receipt_of i) else None)) (keep (told_mark n) ms)) ∙ none_told slots n ms h.1
none_told slots n (Open k by a ∷ ms) h =
    let below = h.0.1 in
    (λ j. option_cons (if ne_eqb by n (λ e. omega (arith, below, e)) j then Some None else None) (keep (told_mark n) ms)) ∙ none_told slots n ms h.1
none_told slots n (Looked task home by ∷ ms) h =
    let below = h.0.1 in
    (λ j. option_cons (there (if ne_eqb by n (λ e. omega (arith, below, e)) j then Some (receipt_of (look_item task home by)) else None)) (keep (told_mark n) ms)) ∙ none_told slots n ms h.1

-- of a part that is not the opener
still_has : (slots : Shape) (z : Whole) (x : Held) → Each (λ p. Each (λ q. p ≢ q) (2 ∷ [])) (parts_of x) → Has slots z x
    → Each (λ p. Each (λ q. p ≢ q) ((2 * z.sessions + 4) ∷ [])) (parts_of x) × Has slots (with_session z) x
unfolding with_session
still_has slots z x a t = grind (arith, common_steps)

opens_one : (slots : Shape) (id n : ℕ) → Splits (holds slots) id (Opener n ∷ []) (Opener (n + 1) ∷ []) (Session n [] ∷ [])
unfolding with_session AllOnce
opens_one slots id n s h at =
    let z = h.0 in
    let owner = h.1 in
    let new : ℕ = length s.views in
    let mine = (h.3 id (Opener n ∷ []) at).0 in
    let part : List ℕ = (2 * z.sessions + 4) ∷ [] in
    let now : ℕ → ℕ = given part new owner in
    let keeps : (j : ℕ) (g : Held) → Each (λ p. Each (λ q. p ≢ q) part) (parts_of g) → Owns owner j g → Owns now j g =
    λ j g a o. each_both (λ p n e. given_else part new owner p j n e) (parts_of g) a o in
    let rest : Owned slots now (with_session z) id (Opener (n + 1) ∷ []) =
    ((keeps id (Opener (n + 1)) (((λ e. omega arith), tt), tt) mine.0, ap (λ k. k + 1) mine.1), tt) in
    let others : (j : ℕ) (u : List Held) → j ≢ id → get_elem? s.views j ≡ some u → Owned slots now (with_session z) j u =
    λ j u a e. each_map (λ g t.
    let k = still_has slots z g (apart_of owner (2 ∷ []) (parts_of g) id j mine.0 t.0 a) t.1 in
    (keeps j g k.0 t.0, k.1)) u (h.3 j u e) in
    let first : Owned slots now (with_session z) new (Session n [] ∷ []) =
    subst (λ m. Owned slots now (with_session z) new (Session m [] ∷ [])) mine.1
    ((given_here part new owner, (omega arith, none_told slots z.sessions z.marks h.2)), tt) in (
      with_session z,
      now,
      each_map (λ m w. still_within slots z.sessions m w) z.marks h.2,
      λ j u e.
          ⊎_elim
          (λ (t : get_elem? (set s.views id (Opener (n + 1) ∷ [])) j ≡ some u).
          ⊎_elim
          (λ (r : (j ≡ id) × (Opener (n + 1) ∷ [] ≡ u)). subst (λ (y : ℕ × List Held). Owned slots now (with_session z) y.0 y.1) (λ i. (sym r.0 i, r.1 i)) rest)
          (λ (r : (j ≢ id) × (get_elem? s.views j ≡ some u)). others j u r.0 r.1)
          (at_set s.views id j (Opener (n + 1) ∷ []) u t))
          (λ (t : (j ≡ length (set s.views id (Opener (n + 1) ∷ []))) × (Session n [] ∷ [] ≡ u)).
          subst (λ (y : ℕ × List Held). Owned slots now (with_session z) y.0 y.1) (λ i. (sym (t.0 ∙ length_set s.views id (Opener (n + 1) ∷ [])) i, t.1 i)) first)
          (at_end (set s.views id (Opener (n + 1) ∷ [])) (Session n [] ∷ []) u j e),
      h.4,
      once_more (set s.views id (Opener (n + 1) ∷ [])) (Session n [] ∷ []) (once_set s.views id (Opener (n + 1) ∷ []) h.5 (tt, tt)) (tt, tt),
    )

pub opens : (slots : Shape) (id : ℕ) (v : List Held) → IsOpener v → Splits (holds slots) id v (opened v) (new_session v)
opens slots id v is = subst (λ u. Splits (holds slots) id u (opened u) (new_session u)) (sym is) (opens_one slots id (sessions_in v))

-- ---- a step

-- the order goes on, and a word is written
core : (slots : Shape) (s : T) (h : holds slots s) (id : ℕ) (v w : List Held) → get_elem? s.views id ≡ some v → (f : Whole → Whole) → IsSeatStep slots f v w
    → (i x : ℕ) → IsNoted slots (f h.0) (slice_set s.words i x) → Kept slots (slice_set s.words i x) (set s.views id w)
unfolding AllOnce
core slots s h id v w at f st i x noted =
    let z = h.0 in
    let owner = h.1 in
    let had = h.3 id v at in
    let has : Each (Has slots z) v = each_map (λ g t. t.1) v had in
    let owned : Each (λ g. Owns owner id g) v = each_map (λ g t. t.0) v had in
    let own : Each (λ g. Owns owner id g) w = each_part (λ p. owner p ≡ id) w (subst (λ ps. Each (λ p. owner p ≡ id) ps) (sym st.parts) (each_flat (λ p. owner p ≡ id) v owned)) in
    let mine : Owned slots owner (f z) id w = each_both (λ g o k. (o, k)) w own (st.tells z has) in
    let others : (j : ℕ) (u : List Held) → j ≢ id → get_elem? s.views j ≡ some u → Owned slots owner (f z) j u =
    λ j u a e. each_map (λ g k. (k.0, st.others z g has (each_map (λ x o. apart_of owner (parts_of g) (parts_of x) j id k.0 o (λ r. a (sym r))) v owned) k.1)) u (h.3 j u e) in (
      f z,
      owner,
      st.within z has h.2,
      λ j u e.
          ⊎_elim
          (λ (r : (j ≡ id) × (w ≡ u)). subst (λ (y : ℕ × List Held). Owned slots owner (f z) y.0 y.1) (λ i. (sym r.0 i, r.1 i)) mine)
          (λ (r : (j ≢ id) × (get_elem? s.views j ≡ some u)). others j u r.0 r.1)
          (at_set s.views id j w u e),
      noted,
      once_set s.views id w h.5 (subst (λ ps. Once ps) (sym st.parts) (h.5 id v at)),
    )

-- what the rule says that a seat has
has_of : (slots : Shape) (s : T) (h : holds slots s) (id : ℕ) (v : List Held) → get_elem? s.views id ≡ some v → Each (Has slots h.0) v
has_of slots s h id v at = each_map (λ g t. t.1) v (h.3 id v at)

pub goes_on : (slots : Shape) (id : ℕ) (f : Whole → Whole) (v w : List Held) → IsSeatStep slots f v w → IsQuiet slots f v
    → (count : ℕ) (carried : List (ℕ × Unit {0})) → Allows (holds slots) count id (v, carried) 0 (λ x. x) (λ found now. now ≡ (w, carried))
goes_on slots id f v w st quiet count carried s h long at small =
    let has = has_of slots s h id v at in
    let fits : (j : ℕ) → Fits (table_of slots (f h.0)) j (slice_index s.words j) = λ j. subst (λ t. Fits t j (slice_index s.words j)) (sym (quiet.table h.0 has)) (h.4.1 j) in (
      w,
      keeps,
      tt,
      core slots s h id v w at f st 0 (slice_index s.words 0) (quiet.agrees h.0 has h.4.0, words_stay (table_of slots (f h.0)) s.words 0 fits),
      refl,
    )

-- ---- a task comes, or goes

-- a step that makes another table, and a word of it
turns_on : (slots : Shape) (id : ℕ) (f : Whole → Whole) (v w : List Held) → IsSeatStep slots f v w → (t u : Table) → Turns slots f v t u
    → (i : ℕ) (g : ℕ → ℕ)
    → ((words : List ℕ) → slice_index words i < 18446744073709551616 → ((j : ℕ) → Fits t j (slice_index words j)) → (j : ℕ) → Fits u j (slice_index (slice_set words i (g (slice_index words i))) j))
    → (count : ℕ) (carried : List (ℕ × Unit {0})) → Allows (holds slots) count id (v, carried) i g (λ found now. now ≡ (w, carried))
turns_on slots id f v w st t u turns i g writes count carried s h long at small =
    let has = has_of slots s h id v at in
    let was : (j : ℕ) → Fits t j (slice_index s.words j) = λ j. subst (λ x. Fits x j (slice_index s.words j)) (turns.was h.0 has) (h.4.1 j) in
    let fits : (j : ℕ) → Fits (table_of slots (f h.0)) j (slice_index (slice_set s.words i (g (slice_index s.words i))) j) =
    λ j. subst (λ x. Fits x j (slice_index (slice_set s.words i (g (slice_index s.words i))) j)) (sym (turns.now h.0 has)) (writes s.words small was j) in (
      w,
      keeps,
      tt,
      core slots s h id v w at f st i (g (slice_index s.words i)) (turns.agrees h.0 has h.4.0, fits),
      refl,
    )

pub comes_on : (slots : Shape) (id : ℕ) (f : Whole → Whole) (v w : List Held) → IsSeatStep slots f v w → (t : Table) (i task home word : ℕ) → home_of t task ≡ None
    → Turns slots f v t (added t task home)
    → i ≡ task % rests + first_home → ((n : ℕ) → word / 4 ≡ suc n → (n ≡ task) × (word % 4 ≡ home))
    → (count : ℕ) (carried : List (ℕ × Unit {0})) → Allows (holds slots) count id (v, carried) i (λ n. either (n == 0) word n) (λ found now. now ≡ (w, carried))
comes_on slots id f v w st t i task home word absent turns place is =
    turns_on slots id f v w st t (added t task home) turns i (λ n. either (n == 0) word n) (λ words small was. words_came t words i task home word absent place is was)

pub goes_away : (slots : Shape) (id : ℕ) (f : Whole → Whole) (v w : List Held) → IsSeatStep slots f v w
    → (t : Table) (i task home word : ℕ) → home_of t task ≡ Some home → Turns slots f v t (removed t task)
    → i ≡ task % rests + first_home → (suc task < 2 ^ 62 → home < 4 → word ≡ suc task * 4 + home)
    → (count : ℕ) (carried : List (ℕ × Unit {0})) → Allows (holds slots) count id (v, carried) i (λ n. either (n == word) 0 n) (λ found now. now ≡ (w, carried))
goes_away slots id f v w st t i task home word there turns place is =
    turns_on slots id f v w st t (removed t task) turns i (λ n. either (n == word) 0 n) (λ words small was. words_gone t words i task home word there place is small was)

-- ---- a look

-- nothing happens
idle : (slots : Shape) (v : List Held) → IsSeatStep slots (λ z. z) v v
idle slots v = record { parts = refl; within = λ z h w. w; tells = λ z h. h; others = λ z h has a t. t }

-- what the step does, by what the word says
look_by : (slots : Shape) (s : T) (h : holds slots s) (id i task n : ℕ) (rs : List Receipt) → get_elem? s.views id ≡ some (Session n rs ∷ []) → slots.looks ≡ true → (carried : List (ℕ × Unit {0}))
    → (o : Option ℕ) → ((home : ℕ) → o ≡ Some home → home_of (table_of slots h.0) task ≡ Some home)
    → (w : List Held) × (a : Act (Unit {0})) × Valid s.homes carried a × holds slots (stepped s i (slice_index s.words i) id carried w a)
    × ◌≡◌ {A = List Held × List (ℕ × Unit {0})} (w, carried_after carried a) (looked task o (Session n rs ∷ []), carried)
look_by slots s h id i task n rs at looks carried None agrees =
    let v : List Held = Session n rs ∷ [] in
    (v, keeps, tt, core slots s h id v v at (λ z. z) (idle slots v) i (slice_index s.words i) (h.4.0, words_stay (table_of slots h.0) s.words i h.4.1), refl)
look_by slots s h id i task n rs at looks carried (Some home) agrees =
    let v : List Held = Session n rs ∷ [] in
    let m : Mark = Looked task home n in
    let same : table_of slots (with_mark m h.0) ≡ table_of slots h.0 = after_more slots.nodes [] h.0.marks m in
    let fits : (j : ℕ) → Fits (table_of slots (with_mark m h.0)) j (slice_index s.words j) = λ j. subst (λ t. Fits t j (slice_index s.words j)) (sym same) (h.4.1 j) in (
      looked task (Some home) v,
      keeps,
      tt,
      core slots s h id v (looked task (Some home) v) at (with_mark m) (look_step slots n rs task home looks) i (slice_index s.words i)
          (agree_more slots.nodes [] h.0.marks m h.4.0 (agrees home refl), words_stay (table_of slots (with_mark m h.0)) s.words i fits),
      refl,
    )

look_one : (slots : Shape) (id i task n : ℕ) (rs : List Receipt) → slots.looks ≡ true → (count : ℕ) (carried : List (ℕ × Unit {0}))
    → Allows (holds slots) count id (Session n rs ∷ [], carried) i (λ x. x) (λ found now. now ≡ (looked task (says_home task found) (Session n rs ∷ []), carried))
look_one slots id i task n rs looks count carried s h long at small =
    look_by slots s h id i task n rs at looks carried (says_home task (slice_index s.words i))
    (λ home is. let said = says task (slice_index s.words i) home is in (h.4.1 i task said.0).1 ∙ ap Some said.1)

pub looks_on : (slots : Shape) (id i task : ℕ) (v : List Held) → IsSession v → slots.looks ≡ true → (count : ℕ) (carried : List (ℕ × Unit {0}))
    → Allows (holds slots) count id (v, carried) i (λ x. x) (λ found now. now ≡ (looked task (says_home task found) v, carried))
looks_on slots id i task v is looks count carried =
    subst (λ u. Allows (holds slots) count id (u, carried) i (λ x. x) (λ found now. now ≡ (looked task (says_home task found) u, carried))) (sym is)
    (look_one slots id i task (number_in v) (receipts_in v) looks count carried)

-- ---- a look at the end

pub learns : (slots named : Shape) → slots ≡ named → (id : ℕ) (v : List Held) (count : ℕ) (carried : List (ℕ × Unit {0}))
    → Allows (holds slots) count id (v, carried) 0 (λ x. x) (λ found now. (now ≡ (v, carried)) × Ends named v × Once (flat v))
learns slots named is id v count carried =
    subst (λ n. Allows (holds slots) count id (v, carried) 0 (λ x. x) (λ found now. (now ≡ (v, carried)) × Ends n v × Once (flat v))) is (look slots id v count carried)
  where
    look : (slots : Shape) (id : ℕ) (v : List Held) (count : ℕ) (carried : List (ℕ × Unit {0}))
        → Allows (holds slots) count id (v, carried) 0 (λ x. x) (λ found now. (now ≡ (v, carried)) × Ends slots v × Once (flat v))
    look slots id v count carried s h long at small = (
      v,
      keeps,
      tt,
      core slots s h id v v at (λ z. z) (idle slots v) 0 (slice_index s.words 0) (h.4.0, words_stay (table_of slots h.0) s.words 0 h.4.1),
      (refl, (h.0, h.2, has_of slots s h id v at, h.4.0), h.5 id v at),
    )

-- ---- what is seen of the order

owns_none : (owner : ℕ → ℕ) (by : ℕ) (u : List Held) → AreClocks u → Each (λ h. Owns owner by h) u
owns_none owner by [] c = tt
owns_none owner by (h ∷ hs) c = (subst (λ ps. Each (λ p. owner p ≡ by) ps) (sym c.0) tt, owns_none owner by hs c.1)

flat_none : (u : List Held) → AreClocks u → flat u ≡ []
flat_none [] c = refl
flat_none (h ∷ hs) c = (λ i. c.0 i ++ flat_none hs c.1 i)

-- a seat more that has no part, and of which the rule says what it says of another
adds_clock : (slots : Shape) (id : ℕ) (v u : List Held) → AreClocks u → ((z : Whole) → Each (Has slots z) v → Each (Has slots z) u) → Splits (holds slots) id v v u
unfolding AllOnce
adds_clock slots id v u clocks has s h at =
    let z = h.0 in
    let owner = h.1 in
    let new : ℕ = length s.views in
    let mine : Owned slots owner z id v = h.3 id v at in
    let theirs : Owned slots owner z new u = each_both (λ g o k. (o, k)) u (owns_none owner new u clocks) (has z (each_map (λ g t. t.1) v mine)) in (
      z,
      owner,
      h.2,
      λ j w e.
          ⊎_elim
          (λ (t : get_elem? (set s.views id v) j ≡ some w).
          ⊎_elim
          (λ (r : (j ≡ id) × (v ≡ w)). subst (λ (y : ℕ × List Held). Owned slots owner z y.0 y.1) (λ i. (sym r.0 i, r.1 i)) mine)
          (λ (r : (j ≢ id) × (get_elem? s.views j ≡ some w)). h.3 j w r.1)
          (at_set s.views id j v w t))
          (λ (t : (j ≡ length (set s.views id v)) × (u ≡ w)).
          subst (λ (y : ℕ × List Held). Owned slots owner z y.0 y.1) (λ i. (sym (t.0 ∙ length_set s.views id v) i, t.1 i)) theirs)
          (at_end (set s.views id v) u w j e),
      h.4,
      once_more (set s.views id v) u (once_set s.views id v h.5 (h.5 id v at)) (subst (λ ps. Once ps) (sym (flat_none u clocks)) tt),
    )

pub begins_clock : (slots : Shape) (id : ℕ) (v : List Held) → Splits (holds slots) id v v (Seen [] ∷ [])
begins_clock slots id v = adds_clock slots id v (Seen [] ∷ []) (refl, tt) (λ z h. ((bys z.marks, refl), tt))

pub shows : (slots : Shape) (id : ℕ) (v : List Held) → AreClocks v → Splits (holds slots) id v v v
shows slots id v clocks = adds_clock slots id v v clocks (λ z h. h)

seen_one : (slots : Shape) (z : Whole) (h : Held) → Has slots z h → IsSeenIn (bys z.marks) h
seen_one slots z (Tasks es) t = tt
seen_one slots z (Pool es) t = tt
seen_one slots z (Opener n) t = tt
seen_one slots z (Slot k es) t = tt
seen_one slots z (Session n rs) t = tt
seen_one slots z (Busy k es n rs a) t = tt
seen_one slots z (Seen bs) t = t

by_test : {X : Type 0} (b : Bool) (x : X) (xs : List (Option X)) (k : ℕ) → length xs ≡ k → length (option_cons (there (if b then Some x else None)) xs) ≡ (if b then suc k else k)
by_test true x xs k e = ap suc e
by_test false x xs k e = e

by_open : {X : Type 0} (b : Bool) (xs : List (Option X)) (k : ℕ) → length xs ≡ k → length (option_cons (if b then Some None else None) xs) ≡ (if b then suc k else k)
by_open true xs k e = ap suc e
by_open false xs k e = e

-- so many marks are a session's as it was told of
pub told_count : (n : ℕ) (ms : List Mark) → length (keep (told_mark n) ms) ≡ made n (bys ms)
told_count n [] = refl
told_count n (Done i ∷ ms) = by_test (i.by == n) (receipt_of i) (keep (told_mark n) ms) (made n (bys ms)) (told_count n ms)
told_count n (Open k by a ∷ ms) = by_open (by == n) (keep (told_mark n) ms) (made n (bys ms)) (told_count n ms)
told_count n (Looked task home by ∷ ms) = by_test (by == n) (receipt_of (look_item task home by)) (keep (told_mark n) ms) (made n (bys ms)) (told_count n ms)

-- a session sees the order so far
pub dates : (slots : Shape) (id : ℕ) (v : List Held) → IsFirst v → (count : ℕ) (carried : List (ℕ × Unit {0}))
    → Allows (holds slots) count id (v, carried) 0 (λ x. x) (λ found now. (now.1 ≡ carried) × IsDated v now.0)
unfolding AllOnce
dates slots id v is count carried s h long at small =
    let z = h.0 in
    let owner = h.1 in
    let n : ℕ = number_in v in
    let rs : List Receipt = receipts_in v in
    let bs : List ℕ = bys z.marks in
    let w : List Held = Session n rs ∷ Seen bs ∷ [] in
    let had : Owned slots owner z id (Session n rs ∷ rest_of_view v) = subst (λ u. Owned slots owner z id u) is (h.3 id v at) in
    let mine : Owned slots owner z id w = (had.0, ((tt, ([], sym (append-nil bs))), tt)) in
    let counted : made n bs ≡ length rs = sym (told_count n z.marks) ∙ (ap (λ l. length l) had.0.1.1 ∙ length-map rs (λ (x : Receipt). Some x)) in (
      w,
      keeps,
      tt,
      (
        z,
        owner,
        h.2,
        λ j u e.
            ⊎_elim
            (λ (r : (j ≡ id) × (w ≡ u)). subst (λ (y : ℕ × List Held). Owned slots owner z y.0 y.1) (λ i. (sym r.0 i, r.1 i)) mine)
            (λ (r : (j ≢ id) × (get_elem? s.views j ≡ some u)). h.3 j u r.1)
            (at_set s.views id j w u e),
        (h.4.0, words_stay (table_of slots z) s.words 0 h.4.1),
        once_set s.views id w h.5 (tt, tt),
      ),
      (refl, (bs, refl, counted, each_map (λ g t. seen_one slots z g t.1) (rest_of_view v) had.1)),
    )

-- ---- the words are there

pub some_word : (a b : TableId) → a ≡ b → b.words ≡ 16400 → 0 < a.words
some_word a b same one = let w : a.words ≡ 16400 = ap (λ t. t.words) same ∙ one in omega (arith, w)

pub home_word : (a b : TableId) (place : ℕ) → a ≡ b → b.words ≡ 16400 → place < 16400 → place < a.words
home_word a b place same one below = let w : a.words ≡ 16400 = ap (λ t. t.words) same ∙ one in omega (arith, w, below)
