-- Bytes at the front of a buffer.
use Rattle.std.proofs.Common.{◌≡◌, ℕ, List, ◌++◌, ◌+◌, ◌-◌, ◌<◌, ◌≤◌, length, take, drop, sym, ◌∙◌, ap, arith, Option, min, length-take, take-take, take_all, Bool, true, false, nat_le, refl}
use Rattle.std.proofs.lemmas.Bool.Decides.{nat_tests}
use Rattle.std.proofs.lemmas.List.{drop-take, take-append-le}
use Rattle.std.proofs.Math.Seq.{take-append-add}
use Rattle.hp_wire.specs.Reading.{Reading, Reads}
use Rattle.hp_wire.specs.Unanswered.{Gets}
use borrow.Rule.Slice.PartMut.{put_mid}

-- what was read into the part behind them stands behind them
pub gets_behind : {r r1 : Reading} (end k n : ℕ) (old buf items now : List ℕ) → end ≤ length old → n ≤ length buf → Reads r r1 (take n buf) → old ≡ items
    → now ≡ take (end + n) (put_mid end k old buf) → Gets (take end items) now r r1 n
gets_behind end k n old buf items now within fits read is same =
    let front : length (take end old) ≡ end = omega (arith, length-take end old) in
    record {
      bytes = take n buf;
      consumed = read;
      behind = same ∙ ap (λ m. take (m + n) (put_mid end k old buf)) (sym front) ∙ take-append-add (take end old) (buf ++ drop k (drop end old)) n
          ∙ ap (λ (xs : List ℕ). take end old ++ xs) (take-append-le n buf (drop k (drop end old)) fits) ∙ ap (λ (xs : List ℕ). take end xs ++ take n buf) is;
      all = omega (arith, length-take n buf);
    }

take_min : (k left : ℕ) (ys : List ℕ) (t : Bool) → nat_le k left ≡ t → take (min left k) ys ≡ take k (take left ys)
take_min k left ys true e =
    let le : k ≤ left = grind (arith, nat_tests) in
    let same : min left k ≡ k = omega arith in
    ap (λ n. take n ys) same ∙ sym (take-take k left ys le)
take_min k left ys false e =
    let lt : left < k = grind (arith, nat_tests) in
    let same : min left k ≡ left = omega arith in
    let short : length (take left ys) ≤ k = omega (arith, length-take left ys) in
    ap (λ n. take n ys) same ∙ sym (take_all k (take left ys) short)

-- what is kept of bytes at the front of a buffer
pub kept : (old new : List ℕ) (end left held : ℕ) → end ≤ length old → left ≤ length (take end old) → held ≡ min left 1025 → take held new ≡ take held (drop (end - left) old)
    → take held new ≡ take 1025 (drop (length (take end old) - left) (take end old))
kept old new end left held within le h e =
    let len : length (take end old) ≡ end = omega (arith, length-take end old) in
    let cut : end ≡ (end - left) + left = omega arith in
    let tail : drop (length (take end old) - left) (take end old) ≡ take left (drop (end - left) old) =
    ap (λ n. drop (n - left) (take end old)) len ∙ ap (λ n. drop (end - left) (take n old)) cut ∙ drop-take (end - left) left old in
    e ∙ ap (λ n. take n (drop (end - left) old)) h ∙ take_min 1025 left (drop (end - left) old) (nat_le 1025 left) refl ∙ ap (take 1025) (sym tail)
