-- The room of a block whose frames are cut from the front.
use Rattle.std.proofs.Common.{◌≡◌, ℕ, zero, suc, ◌+◌, ◌-◌, ◌*◌, ◌%◌, ◌<◌, ◌≤◌, ◌==◌, List, [], ◌∷◌, true, false, refl, sym, ap, ◌∙◌, arith, le-leb, nat_le}
use Rattle.std.proofs.lemmas.Bool.{ne_eqb}
use Rattle.linked_list_allocator.specs.Region.{block_size}
use Rattle.linked_list_allocator.specs.Holes.{Span, taken}

once_more : (k size : ℕ) → suc k * size ≡ size + k * size
once_more k size = omega arith

-- what is left where at least one frame stays uncut
left_after : (k size at : ℕ) → 0 < size → taken size ((at, suc (suc k) * size) ∷ []) ≡ (at + size, suc k * size) ∷ []
left_after k size at some =
    let m = once_more (suc k) size in
    let t : nat_le size (suc (suc k) * size) ≡ true = le-leb size (suc (suc k) * size) (omega (arith, m)) in
    let n : (suc (suc k) * size == size) ≡ false = ne_eqb (suc (suc k) * size) size (λ e. omega (arith, m, once_more k size, e)) in
    let d : suc (suc k) * size - size ≡ suc k * size = omega (arith, m) in
    rw (t, n, d) refl

-- the first of so many frames is cut
pub cut : (fresh size : ℕ) (holes : List Span) → 0 < size → (0 < fresh → (at : ℕ) × (holes ≡ (at, fresh * size) ∷ []))
    → 0 < fresh - 1 → (at : ℕ) × (taken size holes ≡ (at, (fresh - 1) * size) ∷ [])
cut zero size holes some uncut more = absurd (omega (arith, more))
cut (suc zero) size holes some uncut more = absurd (omega (arith, more))
cut (suc (suc k)) size holes some uncut more =
    let u = uncut (omega arith) in
    let less : suc (suc k) - 1 ≡ suc k = omega arith in
    (u.0 + size, ap (taken size) u.1 ∙ left_after k size u.0 some ∙ ap (λ n. (u.0 + size, n * size) ∷ []) (sym less))

whole_units : (k size : ℕ) → size % 16 ≡ 0 → (k * size) % 16 ≡ 0
whole_units zero size whole = omega arith
whole_units (suc k) size whole = omega (arith, once_more k size, whole_units k size whole, whole)

pub some_units : (n : ℕ) → (16 ≤ block_size n) × (block_size n % 16 ≡ 0)
some_units n = (omega arith, omega arith)

-- the room for all frames is not rounded up
pub all_fit : (frames n : ℕ) → 0 < frames → block_size (frames * block_size n) ≡ frames * block_size n
all_fit zero n some = absurd (omega (arith, some))
all_fit (suc k) n some =
    let u = some_units n in
    let w = whole_units (suc k) (block_size n) u.1 in
    omega (arith, once_more k (block_size n), w, u.0)
