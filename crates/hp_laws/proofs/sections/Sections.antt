-- Each section leaves the pool settled, with what the slots use and are committed.
use Rattle.std.proofs.lemmas.Grind.{common_steps}
use Rattle.std.proofs.Common.{◌≡◌, subst, ℕ, zero, suc, ◌+◌, ◌-◌, ◌<◌, ◌≤◌, true, List, [], ◌∷◌, length, map, min, max, refl, sym, ap, ◌∙◌, arith, nat_lt, sum, slice_index_or, All}
use Rattle.std.proofs.lemmas.Bool.{or_cases, leb-true, eqb-true, cond_both, ltb-true, ltb-false}
use Rattle.std.proofs.lemmas.List.{length-map}
use Rattle.std.proofs.lemmas.List.Elements.{All-head, All-tail}
use Rattle.std.proofs.lemmas.List.Sums.{sum_by-cons}
use Rattle.hp_laws.proofs.Variants.{NodeRow}
use Rattle.hp_model.proofs.Words.{IsRow, IsSettledPool, NodeRows, Pool, can_grant, demoted, edit_at, frames_of, free_of, granted, grown, lower_times, lowered, page_taken, promoted, puts_from}
use Rattle.hp_model.proofs.Words.{raise_times, raised, released, rsvd, set_nr, shrunk, surp_of, take_node, total_of, trimmed, used as row_used}
use Rattle.hp_model.specs.pool.PoolCounts.{used}
use Rattle.hp_model.proofs.RowMoves.{Moved, row_frames, same_frames, added, removed, one_taken, put, put_rows, puts_are, used_sum, one_promoted, one_grown, one_shrunk, one_demoted}

-- q is settled and has these numbers
pub record Leads (p q : Pool) (committed : ℕ) (in_use : List ℕ) : Type 0 where
  pub settled : IsSettledPool q
  pub is_committed : q.committed ≡ committed
  pub is_used : map row_used q.nodes.rows ≡ in_use
  pub frames : map row_frames q.nodes.rows ≡ map row_frames p.nodes.rows

pub total-le-frames : (rows : List NodeRow) → All IsRow rows → total_of rows ≤ frames_of rows
total-le-frames [] all = omega arith
total-le-frames (r ∷ rows) all = grind (arith, common_steps, All-head, sum_by-cons, row_frames, All-tail, total-le-frames rows (All-tail IsRow r rows all))

pub unchanged : (p : Pool) → IsSettledPool p → Leads p p p.committed (map row_used p.nodes.rows)
unchanged p s = record { settled = s; is_committed = refl; is_used = refl; frames = refl }

pub long_as : (p q : Pool) (c : ℕ) (us : List ℕ) → Leads p q c us → length q.nodes.rows ≡ length p.nodes.rows
long_as p q c us l = sym (length-map q.nodes.rows row_frames) ∙ ap length l.frames ∙ length-map p.nodes.rows row_frames

-- ---- grants

-- what a grant allows
room : (p : Pool) (d : ℕ) → IsSettledPool p → can_grant d p ≡ true → p.committed + d ≤ frames_of p.nodes.rows
room p d s e = grind (arith, total-le-frames, eqb-true, leb-true, or_cases)

pub committed : (home d : ℕ) (p : Pool) → IsSettledPool p → can_grant d p ≡ true → Leads p (granted home d p) (p.committed + d) (map row_used p.nodes.rows)
committed home d p s e =
    let fits = room p d s e in
    let le = total-le-frames p.nodes.rows s.rows in
    let total = s.total in
    let surplus = s.surplus in
    let in_use = s.used in
    let uses = used_sum p.nodes.rows s.rows in
    let k : ℕ = p.committed + d - total_of p.nodes.rows in
    let rises : total_of p.nodes.rows + k ≡ max p.nr (p.committed + d) = omega (arith, total) in
    let more = added home k p.nodes s.rows (omega (arith, rises, fits, le, total)) in
    let t = more.total in
    let f = more.free in
    let u = more.surplus in
    record {
      settled = record { rows = more.rows; total = omega (arith, t, rises); surplus = omega (arith, t, u, surplus); used = omega (arith, t, f, in_use) };
      is_committed = refl;
      is_used = more.used;
      frames = more.frames;
    }

-- ---- a page is taken

pub took_one : (home : ℕ) (p : Pool) → IsSettledPool p → used p + 1 ≤ p.committed
    → Leads p (page_taken home p) p.committed (edit_at (λ x. x + 1) (map row_used p.nodes.rows) (take_node home p)) × (take_node home p < length p.nodes.rows)
took_one home p s l =
    let total = s.total in
    let surplus = s.surplus in
    let uses = used_sum p.nodes.rows s.rows in
    let one = one_taken home p.nodes s.rows (omega (arith, total, l, uses)) in
    let t = one.total in
    let f = one.free in
    let u = one.surplus in (
      record {
        settled = record { rows = one.rows; total = omega (arith, t, total); surplus = omega (arith, t, u, surplus); used = omega (arith, t, f, l, uses) };
        is_committed = refl;
        is_used = one.used;
        frames = one.frames;
      },
      one.within,
    )

-- ---- pages and commitments go back; vs is what stays in use

pub gave_back : (puts : List ℕ) (k : ℕ) (vs : List ℕ) (p : Pool) → IsSettledPool p → length vs ≡ length p.nodes.rows
    → ((n : ℕ) → n < length p.nodes.rows → slice_index_or vs n 0 + slice_index_or puts n 0 ≡ slice_index_or (map row_used p.nodes.rows) n 0)
    → sum vs + k ≤ p.committed → Leads p (trimmed (released k (puts_from 0 puts p))) (p.committed - k) vs
gave_back puts k vs p s len each covers =
    let mid : Pool = record p { committed = p.committed - k; nodes = record p.nodes { rows = put_rows puts p.nodes.rows } } in
    let puts_in = put puts p.nodes.rows vs s.rows len each in
    let total = s.total in
    let surplus = s.surplus in
    let t = puts_in.total in
    let u = puts_in.surplus in
    let uses = used_sum mid.nodes.rows puts_in.rows in
    let is = ap sum puts_in.used in
    let j : ℕ = surp_of mid.nodes.rows - (mid.committed - mid.nr) in
    let falls : max p.nr (p.committed - k) + j ≡ total_of p.nodes.rows = omega (arith, total, surplus, u) in
    let less = removed j mid.nodes puts_in.rows (omega (arith, total, surplus, t, u, uses, is, covers)) (omega arith) in
    let lt = less.total in
    let lf = less.free in
    let ls = less.surplus in
    let done : Leads p (trimmed mid) (p.committed - k) vs = record {
      settled = record {
        rows = less.rows;
        total = omega (arith, lt, t, falls);
        surplus = omega (arith, lt, ls, t, u, surplus);
        used = omega (arith, lt, lf, uses, is, covers);
      };
      is_committed = refl;
      is_used = less.used ∙ puts_in.used;
      frames = less.frames ∙ puts_in.frames;
    } in
    subst (λ (q : Pool). Leads p (trimmed (released k q)) (p.committed - k) vs) (sym (puts_are puts p)) done

-- ---- nr rises and falls

then_leads : (p m q : Pool) (c : ℕ) (us : List ℕ) → Leads p m c us → Leads m q m.committed (map row_used m.nodes.rows) → Leads p q c us
then_leads p m q c us a b = grind arith

-- the pool with these nodes, at another nr
abbrev pub at_nr : ℕ → NodeRows → Pool → Pool
at_nr n ns p = record p { nr = n; nodes = ns }

moved_leads : (p : Pool) (n a b c d e f : ℕ) (ns : NodeRows) → Moved p.nodes ns a b c d e f → IsSettledPool (at_nr n ns p) → Leads p (at_nr n ns p) p.committed (map row_used p.nodes.rows)
moved_leads p n a b c d e f ns m s = record { settled = s; is_committed = refl; is_used = m.used; frames = m.frames }

one_raised : (p : Pool) → IsSettledPool p → p.nr < frames_of p.nodes.rows → Leads p (at_nr (p.nr + 1) (raised p.nodes) p) p.committed (map row_used p.nodes.rows)
one_raised p s l =
    let total = s.total in
    let surplus = s.surplus in
    let in_use = s.used in
    cond_both (nat_lt 0 (surp_of p.nodes.rows)) (promoted p.nodes) (grown p.nodes) (λ ns. Leads p (at_nr (p.nr + 1) ns p) p.committed (map row_used p.nodes.rows))
    (λ t. (let some = ltb-true 0 (surp_of p.nodes.rows) t in
    let one = one_promoted p.nodes s.rows some in
    let ot = one.total in let of = one.free in let os = one.surplus in
    moved_leads p (p.nr + 1) _ _ _ _ _ _ (promoted p.nodes) one
    (record { rows = one.rows; total = omega (arith, ot, total, surplus, some); surplus = omega (arith, ot, os, surplus, some); used = omega (arith, ot, of, in_use) })))
    (λ t. (let none = ltb-false 0 (surp_of p.nodes.rows) t in
    let one = one_grown p.nodes s.rows (omega (arith, surplus, none, l)) in
    let ot = one.total in let of = one.free in let os = one.surplus in
    moved_leads p (p.nr + 1) _ _ _ _ _ _ (grown p.nodes) one
    (record { rows = one.rows; total = omega (arith, ot, total, surplus, none); surplus = omega (arith, ot, os, surplus); used = omega (arith, ot, of, in_use) })))

raises : (k : ℕ) (p : Pool) → IsSettledPool p → p.nr + k ≤ frames_of p.nodes.rows → Leads p (at_nr (p.nr + k) (raise_times k p.nodes) p) p.committed (map row_used p.nodes.rows)
raises zero p s l = subst (λ n. Leads p (at_nr n p.nodes p) p.committed (map row_used p.nodes.rows)) (omega arith) (unchanged p s)
raises (suc k) p s l =
    let before = raises k p s (omega (arith, l)) in
    let m : Pool = at_nr (p.nr + k) (raise_times k p.nodes) p in
    let wide = same_frames m.nodes.rows p.nodes.rows before.frames in
    let one = one_raised m before.settled (omega (arith, wide, l)) in
    subst (λ n. Leads p (at_nr n (raise_times (suc k) p.nodes) p) p.committed (map row_used p.nodes.rows)) (omega arith) (then_leads p m (at_nr (p.nr + k + 1) (raised m.nodes) m) _ _ before one)

one_lowered : (p : Pool) (r : ℕ) → IsSettledPool p → r ≡ rsvd p → 0 < p.nr → Leads p (at_nr (p.nr - 1) (lowered r p.nodes) p) p.committed (map row_used p.nodes.rows)
one_lowered p r s is some =
    let total = s.total in
    let surplus = s.surplus in
    let in_use = s.used in
    let uses = used_sum p.nodes.rows s.rows in
    cond_both (nat_lt r (free_of p.nodes.rows)) (shrunk p.nodes) (demoted p.nodes) (λ ns. Leads p (at_nr (p.nr - 1) ns p) p.committed (map row_used p.nodes.rows))
    (λ t. (let more = ltb-true r (free_of p.nodes.rows) t in
    let one = one_shrunk p.nodes s.rows (omega (arith, more)) (omega (arith, total, surplus, in_use, uses, is, more)) in
    let ot = one.total in let of = one.free in let os = one.surplus in
    moved_leads p (p.nr - 1) _ _ _ _ _ _ (shrunk p.nodes) one
    (record {
      rows = one.rows;
      total = omega (arith, ot, total, surplus, in_use, uses, is, more, some);
      surplus = omega (arith, ot, os, total, surplus, in_use, uses, is, more, some);
      used = omega (arith, ot, of, in_use, uses);
    })))
    (λ t. (let few = ltb-false r (free_of p.nodes.rows) t in
    let one = one_demoted p.nodes s.rows (omega (arith, surplus, total, some)) in
    let ot = one.total in let of = one.free in let os = one.surplus in
    moved_leads p (p.nr - 1) _ _ _ _ _ _ (demoted p.nodes) one
    (record { rows = one.rows; total = omega (arith, ot, total, surplus, in_use, uses, is, few, some); surplus = omega (arith, ot, os, surplus, some); used = omega (arith, ot, of, in_use) })))

falls : (k : ℕ) (p : Pool) (r : ℕ) → IsSettledPool p → r ≡ rsvd p → k ≤ p.nr → Leads p (at_nr (p.nr - k) (lower_times r k p.nodes) p) p.committed (map row_used p.nodes.rows)
falls zero p r s is l = subst (λ n. Leads p (at_nr n p.nodes p) p.committed (map row_used p.nodes.rows)) (omega arith) (unchanged p s)
falls (suc k) p r s is l =
    let before = falls k p r s is (omega (arith, l)) in
    let m : Pool = at_nr (p.nr - k) (lower_times r k p.nodes) p in
    let then = before.settled in
    let here = used_sum p.nodes.rows s.rows in
    let there = used_sum m.nodes.rows then.rows in
    let same = ap sum before.is_used in
    let one = one_lowered m r then (omega (arith, is, here, there, same)) (omega (arith, l)) in
    subst (λ n. Leads p (at_nr n (lower_times r (suc k) p.nodes) p) p.committed (map row_used p.nodes.rows)) (omega arith) (then_leads p m (at_nr (p.nr - k - 1) (lowered r m.nodes) m) _ _ before one)

-- setting nr leaves the pool settled, and in use what was
pub set_leads : (n : ℕ) (p : Pool) → IsSettledPool p → Leads p (set_nr n p) p.committed (map row_used p.nodes.rows)
set_leads n p s =
    let target : ℕ = min n (frames_of p.nodes.rows) in
    let total = s.total in
    let le = total-le-frames p.nodes.rows s.rows in
    let up = raises (target - p.nr) p s (omega (arith, total, le)) in
    let m : Pool = at_nr (p.nr + (target - p.nr)) (raise_times (target - p.nr) p.nodes) p in
    let high = up.settled in
    let here = used_sum p.nodes.rows s.rows in
    let there = used_sum m.nodes.rows high.rows in
    let same = ap sum up.is_used in
    let down = falls (p.nr - target) m (rsvd p) high (omega (arith, here, there, same)) (omega arith) in
    subst (λ x. Leads p (at_nr x (set_nr n p).nodes p) p.committed (map row_used p.nodes.rows)) (omega arith)
    (then_leads p m (at_nr (p.nr + (target - p.nr) - (p.nr - target)) (lower_times (rsvd p) (p.nr - target) m.nodes) m) _ _ up down)
