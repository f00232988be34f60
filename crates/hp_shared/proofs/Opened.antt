-- What the parts of a machine begin with.
use Rattle.std.proofs.Common.{◌≡◌, ℕ, ◌<◌, ◌≤◌, Bool, true, false, None, List, [], ◌∷◌, length, map, refl, sym, ap, subst, ◌∙◌, arith, IfOk, Result, Ok, Err, nat_lt, slice_index, cond, All, filter}
use Rattle.std.proofs.Common.{sum}
use Rattle.std.proofs.lemmas.List.Elements.{All-head, All-tail}
use Rattle.std.proofs.lemmas.List.Sums.{sum_by-cons}
use Rattle.hp_locked.specs.Views.{IsNewTrail, frames_list}
use Rattle.hp_laws.proofs.Variants.{NodeRow}
use Rattle.hp_model.proofs.Words.{frames_of, idle_row, surp_of}
use Rattle.hp_mount_door.specs.Door.{IsReady}
use Rattle.hp_pool.specs.Sums.{idle_pool}
use Rattle.std.proofs.lemmas.List.{length-map}
use Rattle.hp_nodes.specs.Ledgers.{AreFrames}
use Rattle.hp_trail.specs.Keeping.{Keeping, extra_if, kept_if, left_if, opened_if, most_extra}

-- an opened trail has nothing in it, and its closing places
pub is_fresh : (X : Type 0) (keeps : Bool) (places extra : ℕ) → IsNewTrail (kept_if keeps (opened_if {X = X} keeps places extra))
is_fresh X true places extra = refl
is_fresh X false places extra = tt

pub fresh_if : (X : Type 0) (keeps : Bool) (k : Keeping X) → k.entries ≡ [] → IsNewTrail (kept_if keeps k)
fresh_if X true k none = none
fresh_if X false k none = tt

pub counted_if : (X : Type 0) (keeps : Bool) (k : Keeping X) → kept_if keeps k ≡ None → left_if keeps k ≡ None
counted_if X true k none = cc
counted_if X false k none = refl

is_empty : (X : Type 0) (keeps : Bool) (places extra : ℕ) → (opened_if {X = X} keeps places extra).entries ≡ []
is_empty X true places extra = refl
is_empty X false places extra = refl

pub has_extra : (X : Type 0) (keeps : Bool) (places extra : ℕ) → extra ≤ most_extra → extra ≤ extra_if keeps (opened_if {X = X} keeps places extra)
has_extra X true places extra few = omega arith
has_extra X false places extra few = few

-- the same of what was opened, if it was
pub is_fresh_ok : (X : Type 0) {E : Type 0} (keeps : Bool) (places extra : ℕ) (r : Result (Keeping X) E) → IfOk r (λ t. t ≡ opened_if keeps places extra)
    → IfOk r (λ t. IsNewTrail (kept_if keeps t))
is_fresh_ok X keeps places extra (Ok t) is = subst (λ x. IsNewTrail (kept_if keeps x)) (sym is) (is_fresh X keeps places extra)
is_fresh_ok X keeps places extra (Err e) is = tt

pub is_empty_ok : (X : Type 0) {E : Type 0} (keeps : Bool) (places extra : ℕ) (r : Result (Keeping X) E) → IfOk r (λ t. t ≡ opened_if keeps places extra)
    → IfOk r (λ t. t.entries ≡ [])
is_empty_ok X keeps places extra (Ok t) is = ap (λ (x : Keeping X). x.entries) is ∙ is_empty X keeps places extra
is_empty_ok X keeps places extra (Err e) is = tt

pub has_extra_ok : (X : Type 0) {E : Type 0} (keeps : Bool) (places extra : ℕ) (r : Result (Keeping X) E) → extra ≤ most_extra → IfOk r (λ t. t ≡ opened_if keeps places extra)
    → IfOk r (λ t. extra ≤ extra_if keeps t)
has_extra_ok X keeps places extra (Ok t) few is = subst (λ x. extra ≤ extra_if keeps x) (sym is) (has_extra X keeps places extra few)
has_extra_ok X keeps places extra (Err e) few is = tt

-- ---- the frames

is_some_more : (a : ℕ) → 0 < a → nat_lt 0 a ≡ true
is_some_more a some = grind (arith, some)

some_more : (a : ℕ) (xs : List ℕ) → 0 < a → filter (λ n. nat_lt 0 n) (a ∷ xs) ≡ a ∷ filter (λ n. nat_lt 0 n) xs
some_more a xs some = ap (λ b. cond b (a ∷ filter (λ n. nat_lt 0 n) xs) (filter (λ n. nat_lt 0 n) xs)) (is_some_more a some)

named : (fs : List ℕ) → 0 < length fs → length fs ≤ 4 → All (λ f. 0 < f) fs
    → filter (λ n. nat_lt 0 n) (slice_index fs 0 ∷ slice_index fs 1 ∷ slice_index fs 2 ∷ slice_index fs 3 ∷ []) ≡ fs
named [] some few all = absurd (omega (arith, some))
named (a ∷ []) some few all = some_more a (0 ∷ 0 ∷ 0 ∷ []) (All-head (λ f. 0 < f) a [] all)
named (a ∷ b ∷ []) some few all =
    let rest = All-tail (λ f. 0 < f) a (b ∷ []) all in
    some_more a (b ∷ 0 ∷ 0 ∷ []) (All-head (λ f. 0 < f) a (b ∷ []) all) ∙ ap (λ ys. a ∷ ys) (some_more b (0 ∷ 0 ∷ []) (All-head (λ f. 0 < f) b [] rest))
named (a ∷ b ∷ c ∷ []) some few all =
    let rest = All-tail (λ f. 0 < f) a (b ∷ c ∷ []) all in
    let last = All-tail (λ f. 0 < f) b (c ∷ []) rest in
    some_more a (b ∷ c ∷ 0 ∷ []) (All-head (λ f. 0 < f) a (b ∷ c ∷ []) all)
    ∙ ap (λ ys. a ∷ ys) (some_more b (c ∷ 0 ∷ []) (All-head (λ f. 0 < f) b (c ∷ []) rest) ∙ ap (λ ys. b ∷ ys) (some_more c (0 ∷ []) (All-head (λ f. 0 < f) c [] last)))
named (a ∷ b ∷ c ∷ d ∷ []) some few all =
    let rest = All-tail (λ f. 0 < f) a (b ∷ c ∷ d ∷ []) all in
    let more = All-tail (λ f. 0 < f) b (c ∷ d ∷ []) rest in
    let last = All-tail (λ f. 0 < f) c (d ∷ []) more in
    some_more a (b ∷ c ∷ d ∷ []) (All-head (λ f. 0 < f) a (b ∷ c ∷ d ∷ []) all)
    ∙ ap (λ ys. a ∷ ys) (some_more b (c ∷ d ∷ []) (All-head (λ f. 0 < f) b (c ∷ d ∷ []) rest)
    ∙ ap (λ ys. b ∷ ys) (some_more c (d ∷ []) (All-head (λ f. 0 < f) c (d ∷ []) more) ∙ ap (λ ys. c ∷ ys) (some_more d [] (All-head (λ f. 0 < f) d [] last))))
named (a ∷ b ∷ c ∷ d ∷ e ∷ fs) some few all = absurd (omega (arith, few))

-- the frames of all nodes that have some are those of the machine
pub frames_named : (frames : ℕ → ℕ) (fs : List ℕ) → 0 < length fs → length fs ≤ 4 → All (λ f. 0 < f) fs → AreFrames frames fs → frames_list frames ≡ fs
frames_named frames fs some few all are =
    ap (λ x. filter (λ n. nat_lt 0 n) (x ∷ frames 1 ∷ frames 2 ∷ frames 3 ∷ [])) (are 0 (omega arith))
    ∙ (ap (λ x. filter (λ n. nat_lt 0 n) (slice_index fs 0 ∷ x ∷ frames 2 ∷ frames 3 ∷ [])) (are 1 (omega arith))
    ∙ (ap (λ x. filter (λ n. nat_lt 0 n) (slice_index fs 0 ∷ slice_index fs 1 ∷ x ∷ frames 3 ∷ [])) (are 2 (omega arith))
    ∙ (ap (λ x. filter (λ n. nat_lt 0 n) (slice_index fs 0 ∷ slice_index fs 1 ∷ slice_index fs 2 ∷ x ∷ [])) (are 3 (omega arith))
    ∙ named fs some few all)))

pub rows_have : (fs : List ℕ) → frames_of (map idle_row fs) ≡ sum fs
rows_have [] = refl
rows_have (f ∷ fs) = omega (arith, rows_have fs, sum_by-cons (λ (x : ℕ). x) f fs, sum_by-cons (λ (r : NodeRow). r.frames) (idle_row f) (map idle_row fs))

-- ---- the pool

no_surplus : (fs : List ℕ) → surp_of (map idle_row fs) ≡ 0
no_surplus [] = refl
no_surplus (f ∷ fs) = omega (arith, no_surplus fs, sum_by-cons (λ (r : NodeRow). r.surp) (idle_row f) (map idle_row fs))

pub idle_ready : (fs : List ℕ) → length fs ≤ 4 → IsReady (idle_pool fs)
idle_ready fs few = record { settled = omega (arith, no_surplus fs); nodes = omega (arith, few, length-map fs idle_row) }
