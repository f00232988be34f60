-- What the moves of pages and frames do to the rows and to their sums.
use Rattle.std.proofs.lemmas.Grind.{common_steps}
use Rattle.std.proofs.Common.{◌≡◌, ℕ, zero, suc, ◌+◌, ◌<◌, ◌≤◌, true, List, [], ◌∷◌, ◌++◌, length, map, refl, sym, ap, ◌∙◌, arith, nat_lt, slice_set, sum, slice_index_or, All}
use Rattle.std.proofs.lemmas.Bool.{cond_both, and_parts, ltb-true, ltb-false}
use Rattle.std.proofs.lemmas.Bool.Decides.{nat_tests}
use Rattle.std.proofs.lemmas.List.{length-append, append_assoc}
use Rattle.std.proofs.lemmas.List.Elements.{All-cons, All-head, All-tail}
use Rattle.std.proofs.lemmas.List.Sums.{sum_by-cons, sum-map, fails_before_first}
use Rattle.std.proofs.Math.Seq.{set-append_seam, get_or-append_seam}
use Rattle.hp_model.specs.declared.node.Kind.TheVariants.{Free, Idle, Surplus, Persistent, FreeSurplus}
use Rattle.hp_model.specs.declared.node.NodeRow.{NodeRow}
use Rattle.hp_model.proofs.Words.{IsRow, NodeRows, Pool, add_surplus_row, at_row, demote_row, demoted, edit_at, frames_of, free_of, give_back_row, give_back_times, given_back, grow_row, grown, has}
use Rattle.hp_model.proofs.Words.{kept_times, lowest, near, next_from, no_row, page_kept, promote_row, promoted, put_row, puts_from, row_at, shrink_row, shrunk, surp_of, surplus_added, surplus_times}
use Rattle.hp_model.proofs.Words.{take_row, taken, total_of, used}
use Rattle.hp_model.proofs.Picks.{IsPick, edit, near_pick, lowest_pick, next_pick}
use Rattle.hp_model.proofs.Sums.{some_free, some_idle, some_surplus, some_persistent, none_surplus}

abbrev pub row_frames : NodeRow → ℕ
row_frames r = r.frames

-- the frames and the pages in use of each node stay, and the sums change by these numbers
pub record Moved (a b : NodeRows) (total_up total_down free_up free_down surp_up surp_down : ℕ) : Type 0 where
  pub rows : All IsRow b.rows
  pub total : total_of b.rows + total_down ≡ total_of a.rows + total_up
  pub free : free_of b.rows + free_down ≡ free_of a.rows + free_up
  pub surplus : surp_of b.rows + surp_down ≡ surp_of a.rows + surp_up
  pub used : map used b.rows ≡ map used a.rows
  pub frames : map row_frames b.rows ≡ map row_frames a.rows

pub same_frames : (xs ys : List NodeRow) → map row_frames xs ≡ map row_frames ys → frames_of xs ≡ frames_of ys
same_frames xs ys e = sym (sum-map row_frames xs) ∙ ap sum e ∙ sum-map row_frames ys

-- ---- surplus pages are added

one_added : (home : ℕ) (a : NodeRows) → All IsRow a.rows → total_of a.rows < frames_of a.rows → Moved a (surplus_added home a) 1 0 1 0 1 0
one_added home a rows l =
    let n : ℕ = near Idle home a.rows in
    let pick = near_pick Idle home a.rows (ltb-true _ _ (some_idle a.rows l)) in
    let e = edit add_surplus_row a.rows n pick.within in
    let was = e.was rows in
    let is_idle = ltb-true (row_at a.rows n).total (row_at a.rows n).frames pick.has_it in
    let free_in = was.free_in in
    let surp_in = was.surp_in in
    record {
      rows = e.all (record { free_in = omega (arith, free_in); surp_in = omega (arith, surp_in); total_in = omega (arith, is_idle); few = was.few }) rows;
      total = (let s = e.sum (λ r. r.total) in omega (arith, s));
      free = (let s = e.sum (λ r. r.free) in omega (arith, s));
      surplus = (let s = e.sum (λ r. r.surp) in omega (arith, s));
      used = e.same used (omega arith);
      frames = e.same row_frames refl;
    }

pub added : (home k : ℕ) (a : NodeRows) → All IsRow a.rows → total_of a.rows + k ≤ frames_of a.rows → Moved a (surplus_times home k a) k 0 k 0 k 0
added home zero a rows l = record { rows = rows; total = refl; free = refl; surplus = refl; used = refl; frames = refl }
added home (suc k) a rows l =
    let before = added home k a rows (omega (arith, l)) in
    let t = before.total in
    let f = same_frames (surplus_times home k a).rows a.rows before.frames in
    let one = one_added home (surplus_times home k a) before.rows (omega (arith, t, f, l)) in
    record {
      rows = one.rows;
      total = (let x = one.total in let y = before.total in omega (arith, x, y));
      free = (let x = one.free in let y = before.free in omega (arith, x, y));
      surplus = (let x = one.surplus in let y = before.surplus in omega (arith, x, y));
      used = one.used ∙ before.used;
      frames = one.frames ∙ before.frames;
    }

-- ---- surplus pages leave

both_leave : (a : NodeRows) → All IsRow a.rows → lowest FreeSurplus a.rows < length a.rows
    → Moved a (record a { rows = at_row give_back_row (lowest FreeSurplus a.rows) a.rows }) 0 1 0 1 0 1
both_leave a rows l =
    let n : ℕ = lowest FreeSurplus a.rows in
    let pick = lowest_pick FreeSurplus a.rows l in
    let e = edit give_back_row a.rows n pick.within in
    let parts = and_parts (nat_lt 0 (row_at a.rows n).free) (nat_lt 0 (row_at a.rows n).surp) pick.has_it in
    let free = ltb-true 0 (row_at a.rows n).free parts.0 in
    let surp = ltb-true 0 (row_at a.rows n).surp parts.1 in
    let was = e.was rows in
    let free_in = was.free_in in
    let surp_in = was.surp_in in
    let total_in = was.total_in in
    record {
      rows = e.all (record { free_in = omega (arith, free_in); surp_in = omega (arith, surp_in); total_in = omega (arith, total_in); few = was.few }) rows;
      total = (let s = e.sum (λ r. r.total) in omega (arith, s, free, free_in));
      free = (let s = e.sum (λ r. r.free) in omega (arith, s, free));
      surplus = (let s = e.sum (λ r. r.surp) in omega (arith, s, surp));
      used = e.same used (omega (arith, free, free_in));
      frames = e.same row_frames refl;
    }

-- where no node has both, a node with a free page has no surplus
no_surplus : (rows : List NodeRow) (i : ℕ) → length rows ≤ lowest FreeSurplus rows → i < length rows → 0 < (row_at rows i).free → (row_at rows i).surp ≡ 0
no_surplus rows i none l free = grind (arith, common_steps, fails_before_first, nat_tests)

-- the lowest node with a surplus stays, where a frame leaves another
still_surplus : (rows : List NodeRow) (k n : ℕ) → k < length rows → has Surplus (row_at rows n) ≡ true → IsPick Surplus (at_row shrink_row k rows) n
still_surplus rows k n l e = grind (arith, common_steps)

apart_leave : (a : NodeRows) → All IsRow a.rows → length a.rows ≤ lowest FreeSurplus a.rows → 0 < free_of a.rows → 0 < surp_of a.rows
    → Moved a (record a { rows = at_row promote_row (lowest Surplus a.rows) (at_row shrink_row (lowest Free a.rows) a.rows) }) 0 1 0 1 0 1
apart_leave a rows none f s =
    let n : ℕ = lowest Free a.rows in
    let k : ℕ = lowest Surplus a.rows in
    let mid : List NodeRow = at_row shrink_row n a.rows in
    let pick = lowest_pick Free a.rows (ltb-true _ _ (some_free a.rows f)) in
    let e = edit shrink_row a.rows n pick.within in
    let free = ltb-true 0 (row_at a.rows n).free pick.has_it in
    let was = e.was rows in
    let free_in = was.free_in in
    let total_in = was.total_in in
    let bare = no_surplus a.rows n none pick.within free in
    let mid_rows = e.all (record { free_in = omega (arith, free_in); surp_in = omega (arith, bare); total_in = omega (arith, total_in); few = was.few }) rows in
    let surplus_stays = e.sum (λ r. r.surp) in
    let other = lowest_pick Surplus a.rows (ltb-true _ _ (some_surplus a.rows s)) in
    let again = still_surplus a.rows n k pick.within other.has_it in
    let g = edit promote_row mid k again.within in
    let surp = ltb-true 0 (row_at mid k).surp again.has_it in
    let now = g.was mid_rows in
    let surp_now = now.surp_in in
    record {
      rows = g.all (record { free_in = now.free_in; surp_in = omega (arith, surp_now); total_in = now.total_in; few = now.few }) mid_rows;
      total = (let x = e.sum (λ r. r.total) in let y = g.sum (λ r. r.total) in omega (arith, x, y, free, free_in));
      free = (let x = e.sum (λ r. r.free) in let y = g.sum (λ r. r.free) in omega (arith, x, y, free));
      surplus = (let y = g.sum (λ r. r.surp) in omega (arith, surplus_stays, y, surp));
      used = g.same used refl ∙ e.same used (omega (arith, free, free_in));
      frames = g.same row_frames refl ∙ e.same row_frames refl;
    }

one_removed : (a : NodeRows) → All IsRow a.rows → 0 < free_of a.rows → 0 < surp_of a.rows → Moved a (given_back a) 0 1 0 1 0 1
one_removed a rows f s =
    let n : ℕ = lowest FreeSurplus a.rows in
    cond_both (nat_lt n (length a.rows)) (at_row give_back_row n a.rows)
    (at_row promote_row (lowest Surplus a.rows) (at_row shrink_row (lowest Free a.rows) a.rows)) (λ rs. Moved a (record a { rows = rs }) 0 1 0 1 0 1)
    (λ t. both_leave a rows (ltb-true n (length a.rows) t))
    (λ t. apart_leave a rows (ltb-false n (length a.rows) t) f s)

pub removed : (k : ℕ) (a : NodeRows) → All IsRow a.rows → k ≤ free_of a.rows → k ≤ surp_of a.rows → Moved a (give_back_times k a) 0 k 0 k 0 k
removed zero a rows f s = record { rows = rows; total = refl; free = refl; surplus = refl; used = refl; frames = refl }
removed (suc k) a rows f s =
    let before = removed k a rows (omega (arith, f)) (omega (arith, s)) in
    let x = before.free in
    let y = before.surplus in
    let one = one_removed (give_back_times k a) before.rows (omega (arith, x, f)) (omega (arith, y, s)) in
    record {
      rows = one.rows;
      total = (let x = one.total in let y = before.total in omega (arith, x, y));
      free = (let x = one.free in let y = before.free in omega (arith, x, y));
      surplus = (let x = one.surplus in let y = before.surplus in omega (arith, x, y));
      used = one.used ∙ before.used;
      frames = one.frames ∙ before.frames;
    }

-- ---- nr rises and falls

pub one_promoted : (a : NodeRows) → All IsRow a.rows → 0 < surp_of a.rows → Moved a (promoted a) 0 0 0 0 0 1
one_promoted a rows s =
    let n : ℕ = lowest Surplus a.rows in
    let pick = lowest_pick Surplus a.rows (ltb-true _ _ (some_surplus a.rows s)) in
    let e = edit promote_row a.rows n pick.within in
    let surp = ltb-true 0 (row_at a.rows n).surp pick.has_it in
    let was = e.was rows in
    let surp_in = was.surp_in in
    record {
      rows = e.all (record { free_in = was.free_in; surp_in = omega (arith, surp_in); total_in = was.total_in; few = was.few }) rows;
      total = (let s = e.sum (λ r. r.total) in omega (arith, s));
      free = (let s = e.sum (λ r. r.free) in omega (arith, s));
      surplus = (let s = e.sum (λ r. r.surp) in omega (arith, s, surp));
      used = e.same used refl;
      frames = e.same row_frames refl;
    }

pub one_grown : (a : NodeRows) → All IsRow a.rows → total_of a.rows < frames_of a.rows → Moved a (grown a) 1 0 1 0 0 0
one_grown a rows l =
    let n : ℕ = next_from Idle a.growth a.rows in
    let pick = next_pick Idle a.growth a.rows (ltb-true _ _ (some_idle a.rows l)) in
    let e = edit grow_row a.rows n pick.within in
    let was = e.was rows in
    let is_idle = ltb-true (row_at a.rows n).total (row_at a.rows n).frames pick.has_it in
    let free_in = was.free_in in
    let surp_in = was.surp_in in
    record {
      rows = e.all (record { free_in = omega (arith, free_in); surp_in = omega (arith, surp_in); total_in = omega (arith, is_idle); few = was.few }) rows;
      total = (let s = e.sum (λ r. r.total) in omega (arith, s));
      free = (let s = e.sum (λ r. r.free) in omega (arith, s));
      surplus = (let s = e.sum (λ r. r.surp) in omega (arith, s));
      used = e.same used (omega arith);
      frames = e.same row_frames refl;
    }

pub one_demoted : (a : NodeRows) → All IsRow a.rows → surp_of a.rows < total_of a.rows → Moved a (demoted a) 0 0 0 0 1 0
one_demoted a rows l =
    let n : ℕ = lowest Persistent a.rows in
    let pick = lowest_pick Persistent a.rows (ltb-true _ _ (some_persistent a.rows l)) in
    let e = edit demote_row a.rows n pick.within in
    let persistent = ltb-true (row_at a.rows n).surp (row_at a.rows n).total pick.has_it in
    let was = e.was rows in
    record {
      rows = e.all (record { free_in = was.free_in; surp_in = omega (arith, persistent); total_in = was.total_in; few = was.few }) rows;
      total = (let s = e.sum (λ r. r.total) in omega (arith, s));
      free = (let s = e.sum (λ r. r.free) in omega (arith, s));
      surplus = (let s = e.sum (λ r. r.surp) in omega (arith, s));
      used = e.same used refl;
      frames = e.same row_frames refl;
    }

-- where there is no surplus at all
pub one_shrunk : (a : NodeRows) → All IsRow a.rows → 0 < free_of a.rows → surp_of a.rows ≡ 0 → Moved a (shrunk a) 0 1 0 1 0 0
one_shrunk a rows f none =
    let n : ℕ = next_from Free a.release a.rows in
    let pick = next_pick Free a.release a.rows (ltb-true _ _ (some_free a.rows f)) in
    let e = edit shrink_row a.rows n pick.within in
    let was = e.was rows in
    let free = ltb-true 0 (row_at a.rows n).free pick.has_it in
    let free_in = was.free_in in
    let total_in = was.total_in in
    let bare = none_surplus a.rows none n no_row pick.within in
    record {
      rows = e.all (record { free_in = omega (arith, free_in); surp_in = omega (arith, bare); total_in = omega (arith, total_in); few = was.few }) rows;
      total = (let s = e.sum (λ r. r.total) in omega (arith, s, free, free_in));
      free = (let s = e.sum (λ r. r.free) in omega (arith, s, free));
      surplus = (let s = e.sum (λ r. r.surp) in omega (arith, s));
      used = e.same used (omega (arith, free, free_in));
      frames = e.same row_frames refl;
    }

-- ---- a page is taken

pub record Taken (a b : NodeRows) (n : ℕ) : Type 0 where
  pub rows : All IsRow b.rows
  pub total : total_of b.rows ≡ total_of a.rows
  pub free : free_of b.rows + 1 ≡ free_of a.rows
  pub surplus : surp_of b.rows ≡ surp_of a.rows
  pub used : map used b.rows ≡ edit_at (λ x. x + 1) (map used a.rows) n
  pub frames : map row_frames b.rows ≡ map row_frames a.rows
  pub within : n < length a.rows

pub one_taken : (home : ℕ) (a : NodeRows) → All IsRow a.rows → 0 < free_of a.rows → Taken a (taken home a) (near Free home a.rows)
one_taken home a rows l =
    let n : ℕ = near Free home a.rows in
    let pick = near_pick Free home a.rows (ltb-true _ _ (some_free a.rows l)) in
    let e = edit take_row a.rows n pick.within in
    let free = ltb-true 0 (row_at a.rows n).free pick.has_it in
    let was = e.was rows in
    let free_in = was.free_in in
    record {
      rows = e.all (record { free_in = omega (arith, free_in); surp_in = was.surp_in; total_in = was.total_in; few = was.few }) rows;
      total = (let s = e.sum (λ r. r.total) in omega (arith, s));
      free = (let s = e.sum (λ r. r.free) in omega (arith, s, free));
      surplus = (let s = e.sum (λ r. r.surp) in omega (arith, s));
      used = e.moved used (λ x. x + 1) (omega (arith, free, free_in));
      frames = e.same row_frames refl;
      within = pick.within;
    }

-- ---- pages are put

abbrev pub page_in : ℕ → NodeRow → NodeRow
page_in k r = record r { free = r.free + k }

-- the rows with pages put, by node
abbrev pub put_rows : List ℕ → List NodeRow → List NodeRow
put_rows [] rows = rows
put_rows (k ∷ ks) [] = []
put_rows (k ∷ ks) (r ∷ rows) = page_in k r ∷ put_rows ks rows

abbrev with_rows : List NodeRow → Pool → Pool
with_rows rows p = record p { nodes = record p.nodes { rows = rows } }

kept_at : (k : ℕ) (p : Pool) (pre : List NodeRow) (r : NodeRow) (rows : List NodeRow)
    → kept_times (length pre) k (with_rows (pre ++ r ∷ rows) p) ≡ with_rows (pre ++ page_in k r ∷ rows) p
kept_at zero p pre r rows = ap (λ f. with_rows (pre ++ record r { free = f } ∷ rows) p) (omega arith)
kept_at (suc k) p pre r rows =
    let y : NodeRow = page_in k r in
    let at = get_or-append_seam pre y rows no_row in
    let here : at_row put_row (length pre) (pre ++ y ∷ rows) ≡ pre ++ put_row y ∷ rows = ap (λ x. slice_set (pre ++ y ∷ rows) (length pre) (put_row x)) at ∙ set-append_seam pre y rows (put_row y) in
    let one : put_row y ≡ page_in (suc k) r = ap (λ f. record r { free = f }) (omega arith) in
    ap (page_kept (length pre)) (kept_at k p pre r rows) ∙ ap (λ rs. with_rows rs p) (here ∙ ap (λ x. pre ++ x ∷ rows) one)

past_kept : (n k : ℕ) (p : Pool) → length p.nodes.rows ≤ n → kept_times n k p ≡ p
past_kept n zero p l = refl
past_kept n (suc k) p l = ap (page_kept n) (past_kept n k p l) ∙ ap (λ rs. with_rows rs p) (set_past p.nodes.rows n (put_row (row_at p.nodes.rows n)) l)
  where
    set_past : (rows : List NodeRow) (n : ℕ) (y : NodeRow) → length rows ≤ n → slice_set rows n y ≡ rows
    set_past [] n y l = refl
    set_past (r ∷ rows) n y l = grind (arith, common_steps)

past_puts : (ks : List ℕ) (n : ℕ) (p : Pool) → length p.nodes.rows ≤ n → puts_from n ks p ≡ p
past_puts [] n p l = refl
past_puts (k ∷ ks) n p l = ap (puts_from (n + 1) ks) (past_kept n k p l) ∙ past_puts ks (n + 1) p (omega (arith, l))

puts_at : (ks : List ℕ) (p : Pool) (pre rows : List NodeRow) (n : ℕ) → n ≡ length pre → puts_from n ks (with_rows (pre ++ rows) p) ≡ with_rows (pre ++ put_rows ks rows) p
puts_at [] p pre rows n e = refl
puts_at (k ∷ ks) p pre [] n e = past_puts (k ∷ ks) n (with_rows (pre ++ []) p) (omega (arith, e, length-append pre []))
puts_at (k ∷ ks) p pre (r ∷ rows) n e =
    let here : kept_times n k (with_rows (pre ++ r ∷ rows) p) ≡ with_rows (pre ++ page_in k r ∷ rows) p = ap (λ m. kept_times m k (with_rows (pre ++ r ∷ rows) p)) e ∙ kept_at k p pre r rows in
    let next : List NodeRow = pre ++ page_in k r ∷ [] in
    let moved : pre ++ page_in k r ∷ rows ≡ next ++ rows = sym (append_assoc pre (page_in k r ∷ []) rows) in
    let back : next ++ put_rows ks rows ≡ pre ++ page_in k r ∷ put_rows ks rows = append_assoc pre (page_in k r ∷ []) (put_rows ks rows) in
    ap (puts_from (n + 1) ks) (here ∙ ap (λ rs. with_rows rs p) moved)
    ∙ puts_at ks p next rows (n + 1) (omega (arith, e, length-append pre (page_in k r ∷ [])))
    ∙ ap (λ rs. with_rows rs p) back

pub puts_are : (ks : List ℕ) (p : Pool) → puts_from 0 ks p ≡ with_rows (put_rows ks p.nodes.rows) p
puts_are ks p = puts_at ks p [] p.nodes.rows 0 refl

pub record Put (before next : List NodeRow) (vs : List ℕ) : Type 0 where
  pub rows : All IsRow next
  pub total : total_of next ≡ total_of before
  pub surplus : surp_of next ≡ surp_of before
  pub used : map used next ≡ vs
  pub frames : map row_frames next ≡ map row_frames before

-- vs is what is in use afterwards
pub put : (puts : List ℕ) (rows : List NodeRow) (vs : List ℕ) → All IsRow rows → length vs ≡ length rows
    → ((n : ℕ) → n < length rows → slice_index_or vs n 0 + slice_index_or puts n 0 ≡ slice_index_or (map used rows) n 0) → Put rows (put_rows puts rows) vs
put [] [] [] all len each = record { rows = all; total = refl; surplus = refl; used = refl; frames = refl }
put (k ∷ ks) [] [] all len each = record { rows = all; total = refl; surplus = refl; used = refl; frames = refl }
put puts [] (v ∷ vs) all len each = absurd (omega (arith, len))
put puts (r ∷ rows) [] all len each = absurd (omega (arith, len))
put [] (r ∷ rows) (v ∷ vs) all len each =
    let here = each 0 (omega arith) in
    let tail = All-tail IsRow r rows all in
    let rest = put [] rows vs tail (omega (arith, len)) (λ n l. each (suc n) (omega (arith, l))) in
    let is : used r ≡ v = omega (arith, here) in
    record {
      rows = all;
      total = refl;
      surplus = refl;
      used = ap (λ x. x ∷ map used rows) is ∙ ap (λ xs. v ∷ xs) rest.used;
      frames = refl;
    }
put (k ∷ ks) (r ∷ rows) (v ∷ vs) all len each =
    let here = each 0 (omega arith) in
    let head = All-head IsRow r rows all in
    let tail = All-tail IsRow r rows all in
    let free_in = head.free_in in
    let rest = put ks rows vs tail (omega (arith, len)) (λ n l. each (suc n) (omega (arith, l))) in
    let is : used (page_in k r) ≡ v = omega (arith, here, free_in) in
    record {
      rows = All-cons IsRow (page_in k r) (put_rows ks rows) (record { free_in = omega (arith, here, free_in); surp_in = head.surp_in; total_in = head.total_in; few = head.few }) rest.rows;
      total = (let t = rest.total in omega (arith, t, sum_by-cons (λ r. r.total) (page_in k r) (put_rows ks rows), sum_by-cons (λ r. r.total) r rows));
      surplus = (let t = rest.surplus in omega (arith, t, sum_by-cons (λ r. r.surp) (page_in k r) (put_rows ks rows), sum_by-cons (λ r. r.surp) r rows));
      used = ap (λ x. x ∷ map used (put_rows ks rows)) is ∙ ap (λ xs. v ∷ xs) rest.used;
      frames = ap (λ xs. r.frames ∷ xs) rest.frames;
    }

-- the pages in use are the sum of those of the rows
pub used_sum : (rows : List NodeRow) → All IsRow rows → sum (map used rows) + free_of rows ≡ total_of rows
used_sum [] all = refl
used_sum (r ∷ rows) all =
    let head = All-head IsRow r rows all in
    let free_in = head.free_in in
    omega (arith, sum_by-cons (λ x. x) (used r) (map used rows), sum_by-cons (λ r. r.free) r rows, sum_by-cons (λ r. r.total) r rows, free_in, used_sum rows (All-tail IsRow r rows all))
