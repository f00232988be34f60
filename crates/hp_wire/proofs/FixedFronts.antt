-- What a buffer of fixed room holds after a write: the front of all that was written, and behind it what it held at first.
use Rattle.std.proofs.Common.{◌≡◌, ⊎_elim, ℕ, ◌+◌, ◌-◌, ◌<◌, ◌≤◌, min, List, ◌++◌, length, take, drop, sym, ap, ◌∙◌, arith, length-append}
use Rattle.std.proofs.lemmas.Bool.{cases_lt}
use Rattle.std.proofs.lemmas.List.{append-nil, append_assoc, drop-drop, drop_all, length-drop, length-take, take-append-le, take_all}
use Rattle.std.proofs.Math.Seq.{drop-append_seam, take-append-add, take-append_seam}
use Rattle.hp_wire.specs.Filled.{buffer_filled}
use borrow.Rule.Slice.PartMut.{put_mid}

module _ (start written : List ℕ) where
  abbrev front : List ℕ
  front = take (length start) written

  front_ends : length front ≡ min (length start) (length written)
  front_ends = length-take (length start) written

  pub same_room : length (buffer_filled start written) ≡ length start
  same_room = omega (arith, length-append front (drop (length written) start), front_ends, length-drop (length written) start)

  -- the bytes that fit, from the end of the front on
  module _ (bytes part : List ℕ) (at k : ℕ) (ends : at ≡ min (length written) (length start)) (fit : k ≡ min (length bytes) (length start - at)) (copied : part ≡ take k bytes) where
    here : at ≡ length front
    here = omega (arith, front_ends, ends)

    split : put_mid at k (buffer_filled start written) part ≡ front ++ (take k bytes ++ drop k (drop (length written) start))
    split =
        ap (λ n. take n (buffer_filled start written) ++ (part ++ drop k (drop n (buffer_filled start written)))) here
        ∙ ap (λ xs. xs ++ (part ++ drop k (drop (length front) (buffer_filled start written)))) (take-append_seam front (drop (length written) start))
        ∙ ap (λ xs. front ++ (part ++ drop k xs)) seam ∙ ap (λ xs. front ++ (xs ++ drop k (drop (length written) start))) copied
      where
        seam : drop (length front) (buffer_filled start written) ≡ drop (length written) start
        seam = drop-append_seam front (drop (length written) start)

    rest : drop k (drop (length written) start) ≡ drop (length (written ++ bytes)) start
    rest =
        drop-drop k (length written) start
        ∙ ⊎_elim
        (λ some. drop_all (length written + k) start (omega (arith, ends, fit, some))
        ∙ sym (drop_all (length (written ++ bytes)) start (omega (arith, ends, length-append written bytes, some))))
        (λ all. ap (λ n. drop n start) {x = length written + k} {y = length (written ++ bytes)} (omega (arith, length-append written bytes, fit, all)))
        (cases_lt (length start - at) (length bytes))

    grown : front ++ take k bytes ≡ take (length start) (written ++ bytes)
    grown = ⊎_elim with_room full (cases_lt (length written) (length start))
      where
        with_room : length written < length start → front ++ take k bytes ≡ take (length start) (written ++ bytes)
        with_room room =
            ap (λ xs. xs ++ take k bytes) (take_all (length start) written (omega (arith, room))) ∙ ap (λ xs. written ++ xs) part_is
            ∙ sym (take-append-add written bytes (length start - length written))
            ∙ ap (λ n. take n (written ++ bytes)) {x = length written + (length start - length written)} {y = length start} (omega (arith, room))
          where
            part_is : take k bytes ≡ take (length start - length written) bytes
            part_is =
                ⊎_elim
                (λ some. ap (λ n. take n bytes) {x = k} {y = length start - length written} (omega (arith, ends, fit, some, room)))
                (λ all. take_all k bytes (omega (arith, fit, all)) ∙ sym (take_all (length start - length written) bytes (omega (arith, ends, all, room))))
                (cases_lt (length start - at) (length bytes))

        full : length start ≤ length written → front ++ take k bytes ≡ take (length start) (written ++ bytes)
        full past =
            ap (λ n. front ++ take n bytes) {x = k} {y = 0} (omega (arith, fit, ends, past)) ∙ append-nil front ∙ sym (take-append-le (length start) written bytes past)

    pub still_filled : put_mid at k (buffer_filled start written) part ≡ buffer_filled start (written ++ bytes)
    still_filled =
        split ∙ sym (append_assoc front (take k bytes) (drop k (drop (length written) start)))
        ∙ ap (λ xs. xs ++ drop k (drop (length written) start)) grown ∙ ap (λ xs. take (length start) (written ++ bytes) ++ xs) rest
