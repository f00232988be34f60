-- What names and numbers mean stands where it stood, after a file or a map more and after each access.
use Rattle.std.proofs.lemmas.Grind.{common_steps}
use Rattle.std.proofs.Common.{◌≡◌, subst, ℕ, ◌<◌, ◌==◌, true, None, List, [], ◌∷◌, ◌++◌, length, map, option_map, suc, zero, get_or, arith, refl, sym, ap, ◌∙◌, slice_set, ◌&&◌}
use Rattle.std.proofs.lemmas.Bool.{and_parts, cond_both, eqb-true}
use Rattle.hp_laws.proofs.Variants.{Reserving, Sharing}
use Rattle.hp_model.proofs.Words.{File, Mount, Spot, file_written}
use Rattle.hp_model.proofs.Words.{with_file, with_new, is_map, is_shared, reserves, spot}
use Rattle.hp_model.specs.machine.Footprint.{map_made, with_map_made}
use Rattle.hp_laws.proofs.counts.MountMoves.{IsFileAt}
use Rattle.hp_laws.specs.Follows.{shape_of}
use Rattle.hp_model.proofs.Editing.{length-edit_at}
use Rattle.hp_laws.proofs.names.Accessed.{key_edit, pages_same}
use Rattle.hp_laws.proofs.names.Keys.{file_key, is_key, key_places, keys, number_places, places}
use Rattle.hp_laws.proofs.names.Placed.{KeysLead, Placed, lead_added, lead_more, lead_same, placed}

-- ---- keys of longer lists

keys_more : {X K : Type 0} (key : X → K) (xs : List X) (y : X) → map key (xs ++ y ∷ []) ≡ map key xs ++ key y ∷ []
keys_more key xs y = grind (arith, common_steps)

keys_set : {X K : Type 0} (key : X → K) (xs : List X) (k : ℕ) (y : X) → map key (slice_set xs k y) ≡ slice_set (map key xs) k (key y)
keys_set key [] k y = refl
keys_set key (x ∷ xs) zero y = refl
keys_set key (x ∷ xs) (suc k) y = ap (λ ks. key x ∷ ks) (keys_set key xs k y)

key_at : {X K : Type 0} (key : X → K) (xs : List X) (k : ℕ) (d : X) (e : K) → k < length xs → get_or (map key xs) k e ≡ key (get_or xs k d)
key_at key xs k d e l = grind (arith, common_steps)

-- ---- an open mount

module _ (m : Mount) where
  pub placed_same : (n : Mount) → keys n ≡ keys m → Placed m n
  placed_same n same = placed m n (lead_same (keys m) (keys n) same)

  pub placed_new : (f : File) → Placed m (with_new m f)
  placed_new f = placed m (with_new m f) (subst (λ ks. KeysLead (keys m) ks) (sym (keys_more file_key m.files f)) (lead_more (keys m) (file_key f ∷ [])))

  -- the number of a new map is no map's yet
  no_key : (task number a n : ℕ) (sharing : Sharing) (reserving : Reserving) → spot m (is_map task number) ≡ None → (t u : ℕ)
      → is_key t u (shape_of (map_made task number a n sharing reserving)) ≡ true → key_places (is_key t u) (keys m) ≡ None
  no_key task number a n sharing reserving new t u e =
      let parts = and_parts (task == t) (number == u) e in
      subst (λ (x : ℕ). key_places (is_key x u) (keys m) ≡ None) (eqb-true task t parts.0)
      (subst (λ (x : ℕ). key_places (is_key task x) (keys m) ≡ None) (eqb-true number u parts.1) (sym (number_places m task number) ∙ ap (option_map places) new))

  pub placed_map : (task number a n : ℕ) (sharing : Sharing) (reserving : Reserving) → spot m (is_map task number) ≡ None → (f : ℕ × File) → IsFileAt m f.0 f.1
      → Placed m (with_file m f.0 (with_map_made task number a n sharing reserving f.1))
  placed_map task number a n sharing reserving new f at =
      let g = with_map_made task number a n sharing reserving f.1 in
      let named : g.name ≡ f.1.name = cond_both (is_shared sharing && reserves reserving) _ _ (λ (h : File). h.name ≡ f.1.name) (λ e. refl) (λ e. refl) in
      let key : file_key g ≡ ((file_key f.1).0, (file_key f.1).1 ++ shape_of (map_made task number a n sharing reserving) ∷ []) =
      ap (λ name. (name, map shape_of g.maps)) named ∙ ap (λ ks. (f.1.name, ks)) (keys_more shape_of f.1.maps (map_made task number a n sharing reserving)) in
      placed m (with_file m f.0 g)
      (subst (λ ks. KeysLead (keys m) ks) (sym (keys_set file_key m.files f.0 g ∙ ap (slice_set (keys m) f.0) key))
      (lead_added (keys m) f.0 (file_key f.1) (shape_of (map_made task number a n sharing reserving))
      (λ d. key_at file_key m.files f.0 f.1 d at.within ∙ ap file_key (at.is f.1)) (no_key task number a n sharing reserving new)))

-- what a store writes leaves names and numbers
pub written_key : (s : Spot) (i offset : ℕ) (bytes : List ℕ) (f : File) → file_key (file_written s i offset bytes f) ≡ file_key f
written_key s i offset bytes f = grind (arith, cond_both, file_key, key_edit, pages_same, places, length-edit_at)
