-- As many numbers as there can be, each once, are all numbers.
use Rattle.std.proofs.Common.{◌≡◌, ◌≢◌, ◌⊎◌, ℕ, zero, suc, ◌+◌, ◌*◌, ◌<◌, ◌≤◌, ◌==◌, Bool, true, false, List, [], ◌∷◌, ◌++◌, length, map, if◌then◌else◌}
use Rattle.std.proofs.Common.{refl, sym, ap, ◌∙◌, subst, inl, inr, arith, eq-eqb, ne_eqb}
use mathlib.Core.Logic.{dite}
use native.Mathlib.Decide.{ℕ_discrete}
use Rattle.std.proofs.lemmas.List.{length-map}
use Rattle.hp_laws.proofs.Variants.{PoolEntry, Receipt, SlotEntry, TableEntry}
use Rattle.hp_model.proofs.Words.{Trails}
use Rattle.hp_history.specs.declared.held.Held.{Held}
use Rattle.hp_history.specs.declared.held.Held.TheVariants.{Tasks, Pool, Opener, Slot, Session}
use Rattle.hp_history.specs.declared.law.Shape.{Shape}
use Rattle.hp_history.specs.History.{Each, Ends, Has, Once, Whole, flat, held_from}
use Rattle.hp_history.specs.Ending.{AllAreThere, all_of, at_number, by_number, clocks_of, held_sessions, held_slots, sessions_from}
use Rattle.hp_history.proofs.Lists.{each_append, each_back, each_front, each_map, once_back, once_front}
use Rattle.hp_history.proofs.Keeping.{flat_append}
use Rattle.hp_history.proofs.Steps.{by_eq}

In : ℕ → List ℕ → Type 0
In k [] = ⊥
In k (j ∷ js) = (j ≡ k) ⊎ In k js

in_or_not : (k : ℕ) (ks : List ℕ) → In k ks ⊎ Each (λ j. k ≢ j) ks
unfolding In
in_or_not k [] = inr tt
in_or_not k (j ∷ js) =
    dite (ℕ_discrete j k) (λ e. inl (inl e))
    (λ n. elim (in_or_not k js) [ inl i ↦ inl (inr i) | inr a ↦ inr ((λ e. n (sym e)), a) ])

without : ℕ → List ℕ → List ℕ
without n [] = []
without n (j ∷ js) = if j == n then without n js else j ∷ without n js

without_each : (P : ℕ → Type 0) (n : ℕ) (ks : List ℕ) → Each P ks → Each P (without n ks)
unfolding without
without_each P n [] h = tt
without_each P n (j ∷ js) h = by_eq j n (λ b. Each P (if b then without n js else j ∷ without n js)) (λ _. without_each P n js h.1) (λ _. (h.0, without_each P n js h.1))

without_once : (n : ℕ) (ks : List ℕ) → Once ks → Once (without n ks)
unfolding without
without_once n [] h = tt
without_once n (j ∷ js) h =
    by_eq j n (λ b. Once (if b then without n js else j ∷ without n js)) (λ _. without_once n js h.1) (λ _. (without_each (λ q. j ≢ q) n js h.0, without_once n js h.1))

without_less : (n : ℕ) (ks : List ℕ) → Each (λ j. j < suc n) ks → Each (λ j. j < n) (without n ks)
unfolding without
without_less n [] h = tt
without_less n (j ∷ js) h =
    by_eq j n (λ b. Each (λ j. j < n) (if b then without n js else j ∷ without n js)) (λ _. without_less n js h.1)
    (λ ne. let l = h.0 in ((omega (arith, l, ne)), without_less n js h.1))

without_none : (n : ℕ) (ks : List ℕ) → Each (λ q. n ≢ q) ks → without n ks ≡ ks
unfolding without
without_none n [] h = refl
without_none n (j ∷ js) h = by_eq j n (λ b. (if b then without n js else j ∷ without n js) ≡ j ∷ js) (λ e. absurd (h.0 (sym e))) (λ _. ap (λ l. j ∷ l) (without_none n js h.1))

without_long : (n : ℕ) (ks : List ℕ) → Once ks → length ks ≤ suc (length (without n ks))
unfolding without
without_long n [] h = omega arith
without_long n (j ∷ js) h =
    by_eq j n (λ b. suc (length js) ≤ suc (length (if b then without n js else j ∷ without n js)))
    (λ e. let same = ap (λ l. length l) (without_none n js (subst (λ m. Each (λ q. m ≢ q) js) e h.0)) in omega (arith, same))
    (λ _. let l = without_long n js h.1 in omega (arith, l))

few : (n : ℕ) (ks : List ℕ) → Once ks → Each (λ j. j < n) ks → length ks ≤ n
few zero [] once less = omega arith
few zero (j ∷ js) once less = absurd (let l = less.0 in omega (arith, l))
few (suc n) ks once less =
    let a = few n (without n ks) (without_once n ks once) (without_less n ks less) in
    let b = without_long n ks once in omega (arith, a, b)

-- as many as there can be are all
each_in : (n k : ℕ) (ks : List ℕ) → Once ks → Each (λ j. j < n) ks → length ks ≡ n → k < n → In k ks
each_in n k ks once less long l = elim (in_or_not k ks) [ inl i ↦ i | inr a ↦ absurd (let f = few n (k ∷ ks) (a, once) (l, less) in omega (arith, f, long)) ]

numbers : {X : Type 0} → List (ℕ × X) → List ℕ
numbers xs = map (λ x. x.0) xs

found : {X : Type 0} (P : ℕ → X → Type 0) (k : ℕ) (d : X) (xs : List (ℕ × X)) → Each (λ x. P x.0 x.1) xs → In k (numbers xs) → P k (at_number k d xs)
unfolding In numbers
found P k d [] h i = absurd i
found {X} P k d (x ∷ xs) h i =
    by_eq x.0 k (λ b. P k (if b then x.1 else at_number k d xs)) (λ e. subst (λ m. P m x.1) e h.0)
    (λ n. found P k d xs h.1 (elim i [ inl e ↦ absurd (n e) | inr j ↦ j ]))

-- ---- slots

slots_each : (P : Held → Type 0) (xs : List (ℕ × List SlotEntry)) → Each P (held_slots xs) → Each (λ x. P (Slot x.0 x.1)) xs
slots_each P [] h = tt
slots_each P (x ∷ xs) h = (h.0, slots_each P xs h.1)

slots_apart : (k : ℕ) (xs : List (ℕ × List SlotEntry)) → Each (λ q. 2 * k + 3 ≢ q) (flat (held_slots xs)) → Each (λ j. k ≢ j) (numbers xs)
unfolding numbers
slots_apart k [] h = tt
slots_apart k (x ∷ xs) h = ((λ e. h.0 (ap (λ m. 2 * m + 3) e)), slots_apart k xs h.1)

slots_once : (xs : List (ℕ × List SlotEntry)) → Once (flat (held_slots xs)) → Once (numbers xs)
unfolding numbers
slots_once [] h = tt
slots_once (x ∷ xs) h = (slots_apart x.0 xs h.0, slots_once xs h.1)

slots_back : (P : Held → Type 0) (xs : List (ℕ × List SlotEntry)) (b n : ℕ)
    → ((k : ℕ) → k < b + n → P (Slot k (at_number k [] xs))) → Each P (held_from b (by_number b n [] xs))
slots_back P xs b zero h = tt
slots_back P xs b (suc n) h = (h b (omega arith), slots_back P xs (b + 1) n (λ k l. h k (omega (arith, l))))

-- ---- sessions

sessions_each : (P : Held → Type 0) (xs : List (ℕ × List Receipt)) → Each P (held_sessions xs) → Each (λ x. P (Session x.0 x.1)) xs
sessions_each P [] h = tt
sessions_each P (x ∷ xs) h = (h.0, sessions_each P xs h.1)

sessions_apart : (k : ℕ) (xs : List (ℕ × List Receipt)) → Each (λ q. 2 * k + 4 ≢ q) (flat (held_sessions xs)) → Each (λ j. k ≢ j) (numbers xs)
unfolding numbers
sessions_apart k [] h = tt
sessions_apart k (x ∷ xs) h = ((λ e. h.0 (ap (λ m. 2 * m + 4) e)), sessions_apart k xs h.1)

sessions_once : (xs : List (ℕ × List Receipt)) → Once (flat (held_sessions xs)) → Once (numbers xs)
unfolding numbers
sessions_once [] h = tt
sessions_once (x ∷ xs) h = (sessions_apart x.0 xs h.0, sessions_once xs h.1)

sessions_back : (P : Held → Type 0) (xs : List (ℕ × List Receipt)) (b n : ℕ)
    → ((k : ℕ) → k < b + n → P (Session k (at_number k [] xs))) → Each P (sessions_from b (by_number b n [] xs))
sessions_back P xs b zero h = tt
sessions_back P xs b (suc n) h = (h b (omega arith), sessions_back P xs (b + 1) n (λ k l. h k (omega (arith, l))))

by_number_long : {X : Type 0} (b n : ℕ) (d : X) (xs : List (ℕ × X)) → length (by_number b n d xs) ≡ n
by_number_long b zero d xs = refl
by_number_long b (suc n) d xs = ap suc (by_number_long (b + 1) n d xs)

less_of : {X : Type 0} (n : ℕ) (xs : List (ℕ × X)) → Each (λ x. x.0 < n) xs → Each (λ j. j < n) (numbers xs)
unfolding numbers
less_of n [] h = tt
less_of n (x ∷ xs) h = (h.0, less_of n xs h.1)

-- ---- all

pub all_there : AllAreThere
unfolding numbers
all_there sh tasks pool slots sessions seen long ends once =
    let z : Whole = ends.0 in
    let P : Held → Type 0 = Has sh z in
    let rest : List Held = held_slots slots ++ held_sessions sessions in
    let mine : List Held = Tasks tasks ∷ Pool pool ∷ Opener (length sessions) ∷ rest in
    let n : ℕ = length sessions in
    let has = each_back P (clocks_of seen) mine ends.2 in
    let of_slots = slots_each P slots (each_front P (held_slots slots) (held_sessions sessions) has.1.1.1) in
    let of_sessions = sessions_each P sessions (each_back P (held_slots slots) (held_sessions sessions) has.1.1.1) in
    let count : z.sessions ≡ n = has.1.1.0 in
    let once_mine : Once (flat mine) = once_back (flat (clocks_of seen)) (flat mine) (subst (λ ps. Once ps) (flat_append (clocks_of seen) mine) once) in
    let once_rest : Once (flat (held_slots slots) ++ flat (held_sessions sessions)) = subst (λ ps. Once ps) (flat_append (held_slots slots) (held_sessions sessions)) once_mine.1.1.1 in
    let slot_numbers = slots_once slots (once_front (flat (held_slots slots)) (flat (held_sessions sessions)) once_rest) in
    let session_numbers = sessions_once sessions (once_back (flat (held_slots slots)) (flat (held_sessions sessions)) once_rest) in
    let slot_at : (k : ℕ) → k < 0 + sh.slots → P (Slot k (at_number k [] slots)) =
    λ k l. found (λ k es. P (Slot k es)) k [] slots of_slots
    (each_in sh.slots k (numbers slots) slot_numbers (less_of sh.slots slots (each_map (λ x t. t.0) slots of_slots)) (length-map slots (λ (x : ℕ × List SlotEntry). x.0) ∙ long) (omega (arith, l))) in
    let session_at : (k : ℕ) → k < 0 + n → P (Session k (at_number k [] sessions)) =
    λ k l. found (λ k rs. P (Session k rs)) k [] sessions of_sessions
    (each_in n k (numbers sessions) session_numbers
    (less_of n sessions (each_map (λ x t. subst (λ m. x.0 < m) count t.0) sessions of_sessions)) (length-map sessions (λ (x : ℕ × List Receipt). x.0)) (omega (arith, l))) in
    let all : Each P (all_of (record { tasks = tasks; slots = by_number 0 sh.slots [] slots; pool = pool }) (by_number 0 n [] sessions)) = (
      has.0,
      (
        has.1.0,
        (
          count ∙ sym (by_number_long 0 n [] sessions),
          each_append P (held_from 0 (by_number 0 sh.slots [] slots)) (sessions_from 0 (by_number 0 n [] sessions))
              (slots_back P slots 0 sh.slots slot_at) (sessions_back P sessions 0 n session_at),
        ),
      ),
    ) in
    (z, ends.1, each_append P (clocks_of seen) _ (each_front P (clocks_of seen) mine ends.2) all, ends.3)
