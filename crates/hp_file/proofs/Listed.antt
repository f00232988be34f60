use Rattle.std.proofs.lemmas.Grind.{common_steps}
-- A list of files under keys that they keep, where a file comes, goes or is another.
use Rattle.std.proofs.Common.{arith, ◌≡◌, ◌≢◌, ℕ, ◌<◌, ◌++◌, ◌∷◌, [], IsSome, List, None, Option, Some, ap, get_or, length, subst, sym, true≢false, ◌∙◌, slice_index_or, slice_set, All, remove}
use Rattle.std.proofs.lemmas.List.Quantifiers.{all_pairs_remove}
use Rattle.std.proofs.lemmas.List.Sums.{sum_by-set}
use Rattle.slab.specs.Slab.{ContainsKey, Slab, Updates, get, with_value}
use Rattle.slab.proofs.SlabLemmas.{ContainsKey-within, Updates-with_value}
use Rattle.hp_file.specs.FileList.{IsFileOrder, filed, files_in, room_in}
use Rattle.hp_lookup.proofs.Words.{NumberedFile}
use Rattle.hp_file.proofs.Ordered.{all_remove, others, push_map, remove_map, set_map}

module _ (s : Slab NumberedFile) (order : List ℕ) (is : IsFileOrder s order) where
  -- a key without a file is not in the order
  fresh : (key : ℕ) → get s key ≡ None → All (λ (k : ℕ). k ≢ key) order
  fresh key none k d l e = true≢false (sym (subst IsSome none (subst (ContainsKey s) e (is.there k d l))))

  module _ (t : Slab NumberedFile) (key : ℕ) (slot : Option NumberedFile) (updates : Updates s t key slot) where
    other_file : (k : ℕ) → k ≢ key → filed (get t k) ≡ filed (get s k)
    other_file k other = ap filed (updates.others k other)

    pub pushed_files : get s key ≡ None → files_in t (order ++ key ∷ []) ≡ files_in s order ++ filed slot ∷ []
    pushed_files none =
        push_map (λ k. filed (get s k)) (λ k. filed (get t k)) order key (λ k d l. other_file (get_or order k d) (fresh key none k d l))
        ∙ ap (λ o. files_in s order ++ filed o ∷ []) updates.changed

  module _ (at : ℕ) (inside : at < length order) where
    abbrev key : ℕ
    key = slice_index_or order at 0

    pub removed_order : (t : Slab NumberedFile) → Updates s t key None → IsFileOrder t (remove order at)
    removed_order t updates = record {
      there = λ k d l. subst IsSome (sym (updates.others (get_or (remove order at) k d) (others order is.apart at inside k d l)))
          (all_remove (ContainsKey s) order at is.there k d l);
      apart = all_pairs_remove (λ (x : ℕ) (y : ℕ). x ≢ y) order at inside is.apart;
    }

    pub removed_files : (t : Slab NumberedFile) → Updates s t key None → files_in t (remove order at) ≡ remove (files_in s order) at
    removed_files t updates = remove_map (λ k. filed (get s k)) (λ k. filed (get t k)) order is.apart at inside (other_file t key None updates)

    module _ (f : NumberedFile) where
      abbrev written : Slab NumberedFile
      written = with_value s key f

      updates : Updates s written key (Some f)
      updates = Updates-with_value s key f (is.there at 0 inside)

      pub set_files : files_in written order ≡ slice_set (files_in s order) at f
      set_files =
          set_map (λ k. filed (get s k)) (λ k. filed (get written k)) order is.apart at inside (other_file written key (Some f) updates)
          ∙ ap (λ o. slice_set (files_in s order) at (filed o)) updates.changed

      pub same_room : (n capacity : ℕ) → room_in written n capacity ≡ room_in s n capacity
      same_room n capacity = grind (arith, common_steps, sum_by-set, ContainsKey-within)
