use Rattle.std.proofs.lemmas.Grind.{common_steps}
-- One place of a map gets another number, or none: at how many places each number stands then.
use Rattle.std.proofs.Common.{◌≡◌, ◌≢◌, ℕ, zero, suc, ◌+◌, ◌<◌, ◌≤◌, ◌⊎◌, inl, inr, List, length, refl, ap, arith, slice_index_or, slice_set, sum_by}
use Rattle.std.proofs.lemmas.Bool.Decides.{eqb_tells}
use Rattle.std.proofs.lemmas.List.{get_or-set_other, get_or-set_same, length-set}
use Rattle.std.proofs.lemmas.List.Sums.{sum_by-set}
use Rattle.hp_laws.proofs.Variants.{Gone, Place}
use Rattle.hp_model.proofs.Words.{Mapping}
use Rattle.hp_store.specs.Store.{Store, holders_of, page_at}
use Rattle.hp_lookup.proofs.Words.{HasHolders, IsHeld, NumberedFile, in_cell, in_cells, in_file, in_files, in_place, mapping_at, more_in, numbered_at}
use Rattle.hp_lookup.proofs.Cells.{no_file}
use Rattle.hp_lookup.proofs.GivingBack.{in_all}
use Rattle.hp_lookup.proofs.Lifting.{at_most}

pub none_or_some : (n : ℕ) → (n ≡ 0) ⊎ (0 < n)
none_or_some zero = inl refl
none_or_some (suc n) = inr (omega arith)

module _ (fs : List NumberedFile) (k j o : ℕ) (l : k < length fs) (jl : j < length (numbered_at fs k).maps) where
  abbrev f : NumberedFile
  f = numbered_at fs k

  abbrev y : Mapping ℕ
  y = mapping_at f j

  abbrev was : Place ℕ
  was = slice_index_or y.places o Gone

  -- the number of the place stands in its file
  pub stands : o < length y.places → (m : ℕ) → in_place m was ≤ in_file m f
  stands below m = grind (arith, common_steps, at_most)

  -- beside it, no more stand in another file than are left
  apart_from : (m q : ℕ) → q < length fs → q ≢ k → in_file m f + in_file m (numbered_at fs q) ≤ in_files m fs
  apart_from m q lq other =
      let step = sum_by-set (in_file m) fs k no_file no_file l in
      let long = length-set fs k no_file in
      let most = at_most (λ (f : NumberedFile). f) (λ f. f) (in_file m) (λ f h. refl) (slice_set fs k no_file) q no_file (omega (arith, lq, long)) in
      let same = ap (in_file m) (get_or-set_other fs k q no_file no_file other) in
      omega (arith, step, most, same)

  module _ (below : o < length y.places) (p : Place ℕ) where
    abbrev g : NumberedFile
    g = record f { maps = slice_set f.maps j (record y { places = slice_set y.places o p }) }

    abbrev gs : List NumberedFile
    gs = slice_set fs k g

    file_counts : (m : ℕ) → in_file m g + in_place m was ≡ in_file m f + in_place m p
    file_counts m = grind (arith, common_steps, sum_by-set)

    counts : (m : ℕ) → in_files m gs + in_place m was ≡ in_files m fs + in_place m p
    counts m = (let step = sum_by-set (in_file m) fs k g no_file l in let one = file_counts m in omega (arith, step, one))

    own : (m : ℕ) → in_cells m gs ≡ in_cells m fs
    own m = (let step = sum_by-set (λ (x : NumberedFile). sum_by (in_cell m) x.cells) fs k g no_file l in omega (arith, step))

    -- a number that is put there stands in no cell and in no other file
    module _ (s t : Store) (more now : ℕ) (h : IsHeld s more fs) (holders : (m : ℕ) → holders_of (page_at t m) + in_place m was ≡ holders_of (page_at s m) + in_place m p)
        (some : HasHolders t) (free : (m : ℕ) → 0 < in_place m p → (in_cells m fs ≡ 0) × (in_files m fs ≡ in_file m f)) (counted : now ≡ more_in t.pages) (parts : now ≤ t.room) where
      held : (m : ℕ) → holders_of (page_at t m) ≡ in_files m gs
      held m = (let one = holders m in let all = counts m in let had = h.held m in omega (arith, one, all, had))

      alone : (m : ℕ) → 0 < in_cells m gs → in_files m gs ≡ 1
      alone m own_some = grind (arith, common_steps, own, counts, in_all, none_or_some)

      here : (m : ℕ) → 0 < in_file m g → in_files m fs ≡ in_file m f
      here m in_g = grind (arith, common_steps, file_counts, none_or_some)

      apart : (m q : ℕ) → q < length gs → 0 < in_file m (numbered_at gs q) → in_files m gs ≡ in_file m (numbered_at gs q)
      apart m q below_q stood = grind (arith, common_steps, length-set, counts, file_counts, get_or-set_same, no_file, here, get_or-set_other, apart_from, stands, none_or_some, eqb_tells)

      pub place_held : IsHeld t now gs
      place_held = record { held = held; some = some; alone = alone; apart = apart; counted = counted; parts = parts }
