-- Moves of many pages, as the definitions say them: one page after another.
use Rattle.std.proofs.Common.{ℕ, zero, suc, ◌≡◌, ◌+◌, ◌-◌, ◌<◌, ◌≤◌, refl, sym, ap, ◌∙◌, arith, min, List, [], ◌∷◌, slice_set, sum, sum_by}
use Rattle.std.specs.Fn.{iterate}
use Rattle.std.proofs.Math.Seq.{map-set_same}
use Rattle.std.proofs.lemmas.Bool.{cond-true, cond-false, lt-ltb, le-ltb, ltb-true}
use Rattle.std.proofs.lemmas.List.Sums.{sum-map}
use Rattle.hp_model.specs.declared.node.Kind.TheVariants.{Free, Idle, Surplus, Persistent}
use Rattle.hp_model.specs.declared.node.NodeRow.{NodeRow}
use Rattle.hp_model.proofs.Words.{NodeRows, Pool, at_row, demote_row, demoted, free_of, give_back_times, given_back, grow_row, grown, kept_times, lower_times, lowered, lowest, next_from, no_row}
use Rattle.hp_model.proofs.Words.{page_kept, promote_row, promoted, put_row, raise_times, raised, released, row_at, shrink_row, shrunk, sum_row, surp_of, surplus_added, surplus_times, total_of}
use Rattle.hp_model.proofs.Words.{used_of}
use Rattle.hp_model.proofs.Picks.{edit, lowest_pick, next_pick}
use Rattle.hp_model.proofs.Sums.{some_free, some_surplus}
use Rattle.hp_nodes.specs.Moves.{put_by, puts_at}
use Rattle.hp_nodes.proofs.Repeats.{keeps, once_more, times_add}

pub added_are : (home n : ℕ) (s : NodeRows) → iterate (surplus_added home) n s ≡ surplus_times home n s
added_are home zero s = refl
added_are home (suc n) s = sym (once_more (surplus_added home) n s) ∙ ap (surplus_added home) (added_are home n s)

pub given_back_are : (n : ℕ) (s : NodeRows) → iterate given_back n s ≡ give_back_times n s
given_back_are zero s = refl
given_back_are (suc n) s = sym (once_more given_back n s) ∙ ap given_back (given_back_are n s)

each_raised : (n : ℕ) (s : NodeRows) → raise_times n s ≡ iterate raised n s
each_raised zero s = refl
each_raised (suc n) s = ap raised (each_raised n s) ∙ once_more raised n s

each_lowered : (reserved n : ℕ) (s : NodeRows) → lower_times reserved n s ≡ iterate (lowered reserved) n s
each_lowered reserved zero s = refl
each_lowered reserved (suc n) s = ap (lowered reserved) (each_lowered reserved n s) ∙ once_more (lowered reserved) n s

-- a move that is another one each time
as_times : {X : Type 0} (f g : X → X) (n : ℕ) (x : X) → ((j : ℕ) → j < n → f (iterate g j x) ≡ g (iterate g j x)) → iterate f n x ≡ iterate g n x
as_times f g zero x same = refl
as_times f g (suc n) x same =
    sym (once_more f n x) ∙ ap f (as_times f g n x (λ j h. same j (omega arith))) ∙ same n (omega arith) ∙ once_more g n x

-- ---- the sums that the moves go by

-- a number that the move leaves alone
stays : (v : NodeRow → ℕ) (f : NodeRow → NodeRow) (rows : List NodeRow) (i : ℕ) → v (f (row_at rows i)) ≡ v (row_at rows i) → sum_by v (at_row f i rows) ≡ sum_by v rows
stays v f rows i e = sym (sum-map v (at_row f i rows)) ∙ ap sum (map-set_same v rows i (f (row_at rows i)) no_row e) ∙ sum-map v rows

grown_surplus : (n : ℕ) (s : NodeRows) → surp_of (iterate grown n s).rows ≡ surp_of s.rows
grown_surplus n s = keeps grown (λ j t. surp_of t.rows ≡ surp_of s.rows) n s refl (λ j h t e. stays (λ r. r.surp) grow_row t.rows (next_from Idle t.growth t.rows) refl ∙ e)

demoted_free : (n : ℕ) (s : NodeRows) → free_of (iterate demoted n s).rows ≡ free_of s.rows
demoted_free n s = keeps demoted (λ j t. free_of t.rows ≡ free_of s.rows) n s refl (λ j h t e. stays (λ r. r.free) demote_row t.rows (lowest Persistent t.rows) refl ∙ e)

one_promoted : (s : NodeRows) → 0 < surp_of s.rows → surp_of (promoted s).rows + 1 ≡ surp_of s.rows
one_promoted s some =
    let i = lowest Surplus s.rows in
    let pick = lowest_pick Surplus s.rows (ltb-true _ _ (some_surplus s.rows some)) in
    let has = ltb-true 0 (row_at s.rows i).surp pick.has_it in
    let sum = (edit promote_row s.rows i pick.within).sum (λ r. r.surp) in
    omega (arith, has, sum)

promoted_surplus : (n : ℕ) (s : NodeRows) → n ≤ surp_of s.rows → surp_of (iterate promoted n s).rows + n ≡ surp_of s.rows
promoted_surplus n s enough =
    keeps promoted (λ j t. surp_of t.rows + j ≡ surp_of s.rows) n s (omega arith) (λ j h t e. (let one = one_promoted t (omega arith) in omega (arith, one, e)))

one_shrunk : (s : NodeRows) → 0 < free_of s.rows → free_of (shrunk s).rows + 1 ≡ free_of s.rows
one_shrunk s some =
    let i = next_from Free s.release s.rows in
    let pick = next_pick Free s.release s.rows (ltb-true _ _ (some_free s.rows some)) in
    let has = ltb-true 0 (row_at s.rows i).free pick.has_it in
    let sum = (edit shrink_row s.rows i pick.within).sum (λ r. r.free) in
    omega (arith, has, sum)

shrunk_free : (n : ℕ) (s : NodeRows) → n ≤ free_of s.rows → free_of (iterate shrunk n s).rows + n ≡ free_of s.rows
shrunk_free n s enough =
    keeps shrunk (λ j t. free_of t.rows + j ≡ free_of s.rows) n s (omega arith) (λ j h t e. (let one = one_shrunk t (omega arith) in omega (arith, one, e)))

-- ---- nr rises and falls

-- surplus pages first, then frames
pub raised_are : (count surplus : ℕ) (s : NodeRows) → surplus ≡ min count (surp_of s.rows) → iterate grown (count - surplus) (iterate promoted surplus s) ≡ raise_times count s
raised_are count surplus s is =
    let mid : NodeRows = iterate promoted surplus s in
    let left = promoted_surplus surplus s (omega arith) in
    let first : iterate raised surplus s ≡ mid =
    as_times raised promoted surplus s (λ j h. (let some = promoted_surplus j s (omega arith) in cond-true _ _ _ (lt-ltb 0 (surp_of (iterate promoted j s).rows) (omega (arith, some, h, is)))))
    in
    let then' : iterate raised (count - surplus) mid ≡ iterate grown (count - surplus) mid =
    as_times raised grown (count - surplus) mid (λ j h. (let none = grown_surplus j mid in cond-false _ _ _ (le-ltb 0 (surp_of (iterate grown j mid).rows) (omega (arith, none, left, h, is)))))
    in
    let parts : surplus + (count - surplus) ≡ count = omega arith in
    sym (each_raised count s ∙ ap (λ n. iterate raised n s) (sym parts) ∙ times_add raised surplus (count - surplus) s ∙ ap (iterate raised (count - surplus)) first ∙ then')

-- free pages that are not reserved leave first, then others become surplus
pub lowered_are : (reserved count spare : ℕ) (s : NodeRows) → spare ≡ min count (free_of s.rows - reserved) → iterate demoted (count - spare) (iterate shrunk spare s) ≡ lower_times reserved count s
lowered_are reserved count spare s is =
    let lower : NodeRows → NodeRows = lowered reserved in
    let mid : NodeRows = iterate shrunk spare s in
    let left = shrunk_free spare s (omega arith) in
    let first : iterate lower spare s ≡ mid =
    as_times lower shrunk spare s (λ j h. (let some = shrunk_free j s (omega arith) in cond-true _ _ _ (lt-ltb reserved (free_of (iterate shrunk j s).rows) (omega (arith, some, h, is)))))
    in
    let then' : iterate lower (count - spare) mid ≡ iterate demoted (count - spare) mid =
    as_times lower demoted (count - spare) mid (λ j h. (let same = demoted_free j mid in cond-false _ _ _ (le-ltb reserved (free_of (iterate demoted j mid).rows) (omega (arith, same, left, h, is)))))
    in
    let parts : spare + (count - spare) ≡ count = omega arith in
    sym (each_lowered reserved count s ∙ ap (λ n. iterate lower n s) (sym parts) ∙ times_add lower spare (count - spare) s ∙ ap (iterate lower (count - spare)) first ∙ then')

-- ---- pages go back

abbrev with_nodes : NodeRows → Pool → Pool
with_nodes nodes p = record p { nodes = nodes }

-- one after another, or so many at once
pub put_are : (node k : ℕ) (p : Pool) → record p { nodes = puts_at node k p.nodes } ≡ kept_times node k p
put_are node zero p =
    ap (λ r. with_nodes (record p.nodes { rows = slice_set p.nodes.rows node r }) p) (ap (λ n. record (row_at p.nodes.rows node) { free = n }) (omega arith))
    ∙ ap (λ rs. with_nodes (record p.nodes { rows = rs }) p) (set_own p.nodes.rows node)
  where
    set_own : (rows : List NodeRow) (n : ℕ) → slice_set rows n (row_at rows n) ≡ rows
    set_own [] n = refl
    set_own (r ∷ rows) zero = refl
    set_own (r ∷ rows) (suc n) = ap (λ rs. r ∷ rs) (set_own rows n)
put_are node (suc k) p =
    ap (λ rs. with_nodes (record p.nodes { rows = rs }) p) (sym (once p.nodes.rows node)) ∙ ap (page_kept node) (put_are node k p)
  where
    once : (rows : List NodeRow) (n : ℕ) → at_row put_row n (at_row (put_by k) n rows) ≡ at_row (put_by (suc k)) n rows
    once [] n = refl
    once (r ∷ rows) zero = ap (λ f. record r { free = f } ∷ rows) (omega arith)
    once (r ∷ rows) (suc n) = ap (λ rs. r ∷ rs) (once rows n)

abbrev pool : ℕ → ℕ → ℕ → NodeRows → Pool
pool nr overcommit committed nodes = record { nr = nr; overcommit = overcommit; committed = committed; nodes = nodes }

-- the pages in use of rows of which so many became free
pub less_used : (s t : NodeRows) (k : ℕ) → sum_row t.rows ≡ put_by k (sum_row s.rows) → free_of s.rows + k ≤ total_of s.rows → used_of t.rows + k ≡ used_of s.rows
less_used s t k sums within =
    let free : free_of t.rows ≡ free_of s.rows + k = ap (λ (r : NodeRow). r.free) sums in
    let total : total_of t.rows ≡ total_of s.rows = ap (λ (r : NodeRow). r.total) sums in
    omega (arith, free, total, within)

pub put_is : (nr overcommit book node k : ℕ) (s t : NodeRows) → t ≡ puts_at node k s → sum_row t.rows ≡ put_by k (sum_row s.rows) → free_of s.rows + k ≤ total_of s.rows
    → pool nr overcommit (book + used_of t.rows) t ≡ released k (kept_times node k (pool nr overcommit (book + used_of s.rows) s))
put_is nr overcommit book node k s t is sums within =
    let used = less_used s t k sums within in
    let committed : book + used_of t.rows ≡ book + used_of s.rows - k = omega (arith, used) in
    ap (λ c. pool nr overcommit c t) committed ∙ ap (pool nr overcommit (book + used_of s.rows - k)) is ∙ ap (released k) (put_are node k (pool nr overcommit (book + used_of s.rows) s))

pub kept_is : (nr overcommit book kept node k : ℕ) (s t : NodeRows) → kept ≡ book + k → t ≡ puts_at node k s → sum_row t.rows ≡ put_by k (sum_row s.rows) → free_of s.rows + k ≤ total_of s.rows
    → pool nr overcommit (kept + used_of t.rows) t ≡ kept_times node k (pool nr overcommit (book + used_of s.rows) s)
kept_is nr overcommit book kept node k s t more is sums within =
    let used = less_used s t k sums within in
    let committed : kept + used_of t.rows ≡ book + used_of s.rows = omega (arith, used, more) in
    ap (λ c. pool nr overcommit c t) committed ∙ ap (pool nr overcommit (book + used_of s.rows)) is ∙ put_are node k (pool nr overcommit (book + used_of s.rows) s)
