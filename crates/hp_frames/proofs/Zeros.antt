-- Bytes that are zeros from a place on, or up to one.
use Rattle.std.proofs.Common.{◌≡◌, ℕ, ◌+◌, ◌-◌, ◌≤◌, ◌++◌, List, arith, ap, drop, length, sym, take, ◌∙◌}
use Rattle.std.proofs.lemmas.List.{drop-drop, drop-replicate, drop-take, length-append, length-drop, length-replicate, length-take, take-replicate, take-take}
use Rattle.std.proofs.lemmas.Slice.{drop-put_mid}
use borrow.Rule.Slice.PartMut.{mid_of, put_mid, put_same}
use Rattle.hp_model.proofs.Words.{zeros}
use Rattle.hp_frames.specs.Frame.{AreZerosFrom, AreZerosUpTo}

-- and so from each place behind it
pub zeros_behind : (xs : List ℕ) (a b : ℕ) → a ≤ b → AreZerosFrom a xs → AreZerosFrom b xs
zeros_behind xs a b le z =
    ap (λ n. drop n xs) split ∙ sym (drop-drop (b - a) a xs) ∙ ap (drop (b - a)) z ∙ drop-replicate (b - a) (length xs - a) 0 ∙ ap zeros rest
  where
    split : b ≡ a + (b - a)
    split = omega (arith, le)

    rest : length xs - a - (b - a) ≡ length xs - b
    rest = omega (arith, le)

-- a part behind it is zeros
pub zeros_part : (xs : List ℕ) (a b k : ℕ) → AreZerosFrom a xs → a ≤ b → b + k ≤ length xs → take k (drop b xs) ≡ zeros k
zeros_part xs a b k z le within = ap (take k) (zeros_behind xs a b le z) ∙ take-replicate k (length xs - b) 0 (omega (arith, within))

-- where others are written over a part of them, they are from that part's end on
pub zeros_overwritten : (xs ys : List ℕ) (a k written n : ℕ) → length ys ≡ k → a + k ≤ length xs → a + k ≤ n → written ≤ n → AreZerosFrom written xs → AreZerosFrom n (put_mid a k xs ys)
zeros_overwritten xs ys a k written n size within behind le z =
    drop-put_mid a k xs ys n behind (omega (arith, within)) size ∙ zeros_behind xs written n le z ∙ ap (λ l. zeros (l - n)) (sym long)
  where
    long : length (put_mid a k xs ys) ≡ length xs
    long = length-append (take a xs) (ys ++ drop k (drop a xs))
        ∙ (let front = length-take a xs in let rest = length-append ys (drop k (drop a xs)) in let behind_a = length-drop a xs in
        let behind_k = length-drop k (drop a xs) in omega (arith, front, rest, behind_a, behind_k, size, within))

-- up to each place before
pub zeros_before : (xs : List ℕ) (a b : ℕ) → a ≤ b → AreZerosUpTo b xs → AreZerosUpTo a xs
zeros_before xs a b le z = sym (take-take a b xs le) ∙ ap (take a) z ∙ take-replicate a b 0 le

-- a part before it is zeros
pub zeros_early : (xs : List ℕ) (a b k : ℕ) → AreZerosUpTo b xs → a + k ≤ b → take k (drop a xs) ≡ zeros k
zeros_early xs a b k z within = sym (drop-take a k xs) ∙ ap (drop a) (zeros_before xs (a + k) b within z) ∙ drop-replicate a (a + k) 0 ∙ ap zeros (omega arith)

-- a part of one list in another, where both are zeros before it and behind it
pub zeros_around : (xs zs : List ℕ) (a e : ℕ) → a ≤ e → length zs ≡ length xs → AreZerosUpTo a xs → AreZerosFrom e xs → AreZerosUpTo a zs →
    AreZerosFrom e zs → put_mid a (e - a) xs (mid_of a (e - a) zs) ≡ zs
zeros_around xs zs a e order same before behind own_before own_behind =
    ap (λ p. p ++ (mid_of a (e - a) zs ++ drop (e - a) (drop a xs))) (before ∙ sym own_before)
    ∙ ap (λ r. take a zs ++ (mid_of a (e - a) zs ++ r)) (drop-drop (e - a) a xs ∙ ap (λ n. drop n xs) whole ∙ behind
    ∙ ap (λ l. zeros (l - e)) (sym same) ∙ sym own_behind ∙ ap (λ n. drop n zs) (sym whole) ∙ sym (drop-drop (e - a) a zs))
    ∙ put_same a (e - a) zs
  where
    whole : a + (e - a) ≡ e
    whole = omega (arith, order)

-- zeros are so on both sides of a part
pub zeros_filled : (xs : List ℕ) (a e : ℕ) → a ≤ e → e ≤ length xs → AreZerosUpTo a xs → AreZerosFrom e xs → put_mid a (e - a) xs (zeros (e - a)) ≡ zeros (length xs)
zeros_filled xs a e order within before behind =
    ap (put_mid a (e - a) xs) (sym (ap (take (e - a)) (drop-replicate a (length xs) 0) ∙ take-replicate (e - a) (length xs - a) 0 (omega (arith, order, within))))
    ∙ zeros_around xs (zeros (length xs)) a e order size before behind (take-replicate a (length xs) 0 (omega (arith, order, within)))
    (drop-replicate e (length xs) 0 ∙ ap (λ l. zeros (l - e)) (sym size))
  where
    size : length (zeros (length xs)) ≡ length xs
    size = length-replicate (length xs) 0
