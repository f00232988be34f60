-- No section and no event of a slot changes how many frames a node has.
use Rattle.std.proofs.Common.{arith, ◌≡◌, ℕ, zero, suc, ◌+◌, ◌-◌, nat_lt, min, List, [], ◌∷◌, length, map, refl, ap, ◌∙◌}
use Rattle.std.proofs.lemmas.Bool.{cond_both}
use Rattle.std.proofs.Math.Seq.{map-set_same}
use Rattle.hp_laws.proofs.Variants.{Free, FreeSurplus, GrantPage, NodeRow, PoolAnswer, Section, Surplus, TakePage}
use Rattle.hp_model.proofs.Words.{Node, NodeRows, Pool, State, add_surplus_row, at_row, can_grant, give_back_row, give_back_times, given_back, granted}
use Rattle.hp_model.proofs.Words.{kept_times, lowest, no_pages, no_row, node_of, promote_row, put_row, puts_from, row_at, rows_of, section, shrink_row, surplus_times, take_row}
use Rattle.hp_model.proofs.Words.{demote_row, demoted, frames_of, free_of, grow_row, grown, lower_times, lowered, promoted, raise_times, raised, rsvd, set_nr, shrunk, surp_of, taken_times}
use Rattle.hp_model.proofs.Words.{total_of}

-- ---- no section changes a node's frames

abbrev pub frames : List NodeRow → List ℕ
frames rows = map (λ (r : NodeRow). r.frames) rows

same : (f : NodeRow → NodeRow) (rows : List NodeRow) (i : ℕ) → (f (row_at rows i)).frames ≡ (row_at rows i).frames → frames (at_row f i rows) ≡ frames rows
same f rows i e = map-set_same (λ (r : NodeRow). r.frames) rows i (f (row_at rows i)) no_row e

added : (home n : ℕ) (s : NodeRows) → frames (surplus_times home n s).rows ≡ frames s.rows
added home zero s = refl
added home (suc n) s = same add_surplus_row (surplus_times home n s).rows _ refl ∙ added home n s

taking : (n : ℕ) (s : NodeRows) → frames (taken_times 0 n s).rows ≡ frames s.rows
taking zero s = refl
taking (suc n) s = same take_row (taken_times 0 n s).rows _ refl ∙ taking n s

kept : (node k : ℕ) (p : Pool) → frames (kept_times node k p).nodes.rows ≡ frames p.nodes.rows
kept node zero p = refl
kept node (suc k) p = same put_row (kept_times node k p).nodes.rows node refl ∙ kept node k p

puts : (node : ℕ) (ks : List ℕ) (p : Pool) → frames (puts_from node ks p).nodes.rows ≡ frames p.nodes.rows
puts node [] p = refl
puts node (k ∷ ks) p = puts (node + 1) ks (kept_times node k p) ∙ kept node k p

given : (n : ℕ) (s : NodeRows) → frames (give_back_times n s).rows ≡ frames s.rows
given zero s = refl
given (suc n) s = one (give_back_times n s) ∙ given n s
  where
    one : (s : NodeRows) → frames (given_back s).rows ≡ frames s.rows
    one s =
        let both : ℕ = lowest FreeSurplus s.rows in
        let apart : List NodeRow = at_row shrink_row (lowest Free s.rows) s.rows in
        cond_both (nat_lt both (length s.rows)) (at_row give_back_row both s.rows) (at_row promote_row (lowest Surplus s.rows) apart) (λ (rows : List NodeRow). frames rows ≡ frames s.rows)
        (λ t. same give_back_row s.rows both refl) (λ t. same promote_row apart (lowest Surplus s.rows) refl ∙ same shrink_row s.rows (lowest Free s.rows) refl)

granting : (home d : ℕ) (p : Pool) → frames (granted home d p).nodes.rows ≡ frames p.nodes.rows
granting home d p = added home (p.committed + d - total_of p.nodes.rows) p.nodes

abbrev KeepsFrames : Pool → PoolAnswer × Pool → Type 0
KeepsFrames p x = frames x.1.nodes.rows ≡ frames p.nodes.rows

pub section_frames : (p : Pool) (s : Section) → KeepsFrames p (section p s)
section_frames p (TakePage home) = same take_row p.nodes.rows _ refl
section_frames p (GrantPage home d) =
    cond_both (can_grant d p) _ (no_pages, p) (KeepsFrames p) (λ t. same take_row (granted home d p).nodes.rows _ refl ∙ granting home d p) (λ t. refl)
section_frames p s = grind (arith, added, taking, given, puts)

-- ---- rows and nodes

pub rows_have : (s : State) (n : ℕ) (xs : List Node) → frames (rows_of s n xs) ≡ map (λ (x : Node). x.frames) xs
rows_have s n [] = refl
rows_have s n (x ∷ xs) = ap (λ fs. x.frames ∷ fs) (rows_have s (n + 1) xs)

pub nodes_have : (rows : List NodeRow) → map (λ (x : Node). x.frames) (map node_of rows) ≡ frames rows
nodes_have [] = refl
nodes_have (r ∷ rows) = ap (λ fs. r.frames ∷ fs) (nodes_have rows)

-- ---- setting nr

raising : (n : ℕ) (s : NodeRows) → frames (raise_times n s).rows ≡ frames s.rows
raising zero s = refl
raising (suc n) s = one (raise_times n s) ∙ raising n s
  where
    one : (s : NodeRows) → frames (raised s).rows ≡ frames s.rows
    one s = cond_both (nat_lt 0 (surp_of s.rows)) (promoted s) (grown s) (λ (x : NodeRows). frames x.rows ≡ frames s.rows) (λ t. same promote_row s.rows _ refl) (λ t. same grow_row s.rows _ refl)

lowering : (reserved n : ℕ) (s : NodeRows) → frames (lower_times reserved n s).rows ≡ frames s.rows
lowering reserved zero s = refl
lowering reserved (suc n) s = one (lower_times reserved n s) ∙ lowering reserved n s
  where
    one : (s : NodeRows) → frames (lowered reserved s).rows ≡ frames s.rows
    one s =
        cond_both (nat_lt reserved (free_of s.rows)) (shrunk s) (demoted s) (λ (x : NodeRows). frames x.rows ≡ frames s.rows)
        (λ t. same shrink_row s.rows _ refl) (λ t. same demote_row s.rows _ refl)

pub setting : (n : ℕ) (p : Pool) → frames (set_nr n p).nodes.rows ≡ frames p.nodes.rows
setting n p =
    let target = min n (frames_of p.nodes.rows) in
    lowering (rsvd p) (p.nr - target) (raise_times (target - p.nr) p.nodes) ∙ raising (target - p.nr) p.nodes
