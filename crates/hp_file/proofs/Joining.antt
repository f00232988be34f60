-- Lists of maps that come behind those of files.
use Rattle.std.proofs.Common.{◌≡◌, ⊎_elim, inl, inr, ℕ, zero, suc, ◌+◌, ◌-◌, ◌*◌, ◌<◌, ◌≤◌, ◌++◌, List, []}
use Rattle.std.proofs.Common.{◌∷◌, cond, drop, eq-eqb, length, map, replicate, take, refl, sym, ap, subst, ◌∙◌, arith, slice_index_or, slice_set, filter, sum_by}
use Rattle.std.specs.Global.{Vec}
use Rattle.std.proofs.Math.Seq.{take-add}
use Rattle.std.proofs.lemmas.List.Elements.{filter-append}
use Rattle.std.proofs.lemmas.List.{append-nil, get_or-set_other, get_or_default, length-append, length-map, length-replicate, length-set, map-append, nil_from_length, take-append-drop, take_more}
use Rattle.std.proofs.lemmas.List.Folds.{sum_by-replicate}
use Rattle.std.proofs.lemmas.List.Sums.{length-filter, sum_by-append, sum_by-cons}
use Rattle.hp_model.proofs.Words.{Mapping, is_of, map_for}
use Rattle.hp_lookup.proofs.Words.{AreReady, HasRoom, NumberedFile, children_of, joined, list_copies, maps_by, numbered_at, with_list}
use Rattle.hp_file.specs.ForkLists.{AreFit, AreSome, ArePart, IsAmong, spread, spread_on, with_next}
use Rattle.hp_file.specs.declared.fork_lists.FileMaps.{FileMaps}

-- ---- lists with some left out

module _ {X : Type 0} where
  pub among_all : (xs : List X) → IsAmong xs xs
  among_all [] = tt
  among_all (x ∷ xs) = inl (refl, among_all xs)

  pub among_more : (xs ys zs : List X) → IsAmong xs ys → IsAmong xs (ys ++ zs)
  among_more [] ys zs all = tt
  among_more (x ∷ xs) [] zs all = absurd all
  among_more (x ∷ xs) (y ∷ ys) zs all =
      ⊎_elim (λ (e : (x ≡ y) × IsAmong xs ys). inl (e.0, among_more xs ys zs e.1)) (λ rest. inr (among_more (x ∷ xs) ys zs rest)) all

  pub among_push : (xs ys : List X) (z : X) → IsAmong xs ys → IsAmong (xs ++ z ∷ []) (ys ++ z ∷ [])
  among_push [] [] z all = inl (refl, tt)
  among_push [] (y ∷ ys) z all = inr (among_push [] ys z tt)
  among_push (x ∷ xs) [] z all = absurd all
  among_push (x ∷ xs) (y ∷ ys) z all =
      ⊎_elim (λ (e : (x ≡ y) × IsAmong xs ys). inl (e.0, among_push xs ys z e.1)) (λ rest. inr (among_push (x ∷ xs) ys z rest)) all

  among_few : (xs ys : List X) → IsAmong xs ys → length xs ≤ length ys
  among_few [] ys all = omega arith
  among_few (x ∷ xs) [] all = absurd all
  among_few (x ∷ xs) (y ∷ ys) all =
      ⊎_elim (λ (e : (x ≡ y) × IsAmong xs ys). (let few = among_few xs ys e.1 in omega (arith, few)))
      (λ rest. (let few = among_few (x ∷ xs) ys rest in omega (arith, few))) all

  among_same : (xs ys : List X) → IsAmong xs ys → length ys ≤ length xs → xs ≡ ys
  among_same [] ys all most = sym (nil_from_length ys (omega (arith, most)))
  among_same (x ∷ xs) [] all most = absurd all
  among_same (x ∷ xs) (y ∷ ys) all most =
      ⊎_elim (λ (e : (x ≡ y) × IsAmong xs ys). ap (λ z. z ∷ xs) e.0 ∙ ap (λ zs. y ∷ zs) (among_same xs ys e.1 (omega (arith, most))))
      (λ rest. (let few = among_few (x ∷ xs) ys rest in absurd (omega (arith, few, most)))) all

-- ---- a list for each file

module _ (f : List (Mapping ℕ) → ℕ) (none : f [] ≡ 0) where
  pub next_sum : (vs : List (List (Mapping ℕ))) (n : ℕ) (v : List (Mapping ℕ)) → sum_by f (with_next vs n v) ≡ sum_by f vs + f v
  next_sum vs n v =
      let gap = sum_by-replicate f n [] in
      let bare : n * f [] ≡ n * 0 = ap (λ k. n * k) none in
      let one = sum_by-cons f v [] in
      omega (arith, sum_by-append f vs (replicate n [] ++ v ∷ []), sum_by-append f (replicate n []) (v ∷ []), gap, bare, one)

  pub spread_sum : (vs : List (List (Mapping ℕ))) (xs : List FileMaps) → sum_by f (spread_on vs xs) ≡ sum_by f vs + sum_by (λ (x : FileMaps). f x.list.items) xs
  spread_sum vs [] = omega arith
  spread_sum vs (x ∷ xs) =
      let rest = spread_sum (with_next vs (x.file - length vs) x.list.items) xs in
      let here = next_sum vs (x.file - length vs) x.list.items in
      omega (arith, rest, here, sum_by-cons (λ (x : FileMaps). f x.list.items) x xs)

-- how many copies a file's list has
abbrev pub file_copies : FileMaps → ℕ
file_copies x = list_copies x.list.items

next_long : (vs : List (List (Mapping ℕ))) (n : ℕ) (v : List (Mapping ℕ)) → length (with_next vs n v) ≡ length vs + n + 1
next_long vs n v =
    let all = length-append vs (replicate n [] ++ v ∷ []) in
    let gap = length-append (replicate n []) (v ∷ []) in
    let bare = length-replicate {A = List (Mapping ℕ)} n [] in
    omega (arith, all, gap, bare)

pub spread_push : (vs : List (List (Mapping ℕ))) (xs : List FileMaps) (x : FileMaps) →
    spread_on vs (xs ++ x ∷ []) ≡ with_next (spread_on vs xs) (x.file - length (spread_on vs xs)) x.list.items
spread_push vs [] x = refl
spread_push vs (y ∷ ys) x = spread_push (with_next vs (y.file - length vs) y.list.items) ys x

-- ---- lists that fit their files

abbrev pub end_of : ℕ → List FileMaps → ℕ
end_of n [] = n
end_of n (x ∷ xs) = end_of (x.file + 1) xs

end_after : (n : ℕ) (fs : List NumberedFile) (xs : List FileMaps) → AreFit n fs xs → n ≤ end_of n xs
end_after n fs [] fit = omega arith
end_after n fs (x ∷ xs) fit = (let rest = end_after (x.file + 1) fs xs fit.3 in let here = fit.0 in omega (arith, rest, here))

spread_long : (vs : List (List (Mapping ℕ))) (fs : List NumberedFile) (xs : List FileMaps) (n : ℕ) → n ≡ length vs → AreFit n fs xs → length (spread_on vs xs) ≡ end_of n xs
spread_long vs fs [] n long fit = sym long
spread_long vs fs (x ∷ xs) n long fit =
    let more = next_long vs (x.file - length vs) x.list.items in
    let here = fit.0 in
    spread_long (with_next vs (x.file - length vs) x.list.items) fs xs (x.file + 1) (omega (arith, more, here, long)) fit.3

fit_push : (n : ℕ) (fs : List NumberedFile) (xs : List FileMaps) (x : FileMaps) → AreFit n fs xs → end_of n xs ≤ x.file → x.file < length fs →
    HasRoom (numbered_at fs x.file) x.list → AreFit n fs (xs ++ x ∷ [])
fit_push n fs [] x fit behind within room = (behind, within, room, tt)
fit_push n fs (y ∷ ys) x fit behind within room = (fit.0, fit.1, fit.2, fit_push (y.file + 1) fs ys x fit.3 behind within room)

-- the last list, and those before
pub record IsLast (n : ℕ) (fs : List NumberedFile) (xs : List FileMaps) (x : FileMaps) : Type 0 where
  pub rest : AreFit n fs xs
  pub behind : end_of n xs ≤ x.file
  pub within : x.file < length fs
  pub room : HasRoom (numbered_at fs x.file) x.list

fit_last : (n : ℕ) (fs : List NumberedFile) (xs : List FileMaps) (x : FileMaps) → AreFit n fs (xs ++ x ∷ []) → IsLast n fs xs x
fit_last n fs [] x fit = record { rest = tt; behind = fit.0; within = fit.1; room = fit.2 }
fit_last n fs (y ∷ ys) x fit =
    let all = fit_last (y.file + 1) fs ys x fit.3 in
    record { rest = (fit.0, fit.1, fit.2, all.rest); behind = all.behind; within = all.within; room = all.room }

fit_set : (n : ℕ) (fs : List NumberedFile) (xs : List FileMaps) (k : ℕ) (y : NumberedFile) → AreFit n fs xs → end_of n xs ≤ k → AreFit n (slice_set fs k y) xs
fit_set n fs [] k y fit before = tt
fit_set n fs (x ∷ xs) k y fit before =
    let past = end_after (x.file + 1) fs xs fit.3 in
    let within = fit.1 in
    let long = length-set fs k y in
    let same : numbered_at (slice_set fs k y) x.file ≡ numbered_at fs x.file = get_or-set_other fs k x.file y _ (λ e. absurd (omega (arith, e, past, before))) in (
      fit.0,
      omega (arith, long, within),
      subst (λ g. HasRoom g x.list) (sym same) fit.2,
      fit_set (x.file + 1) fs xs k y fit.3 before,
    )

-- ---- lists of some of the child's maps

module _ (parent child : ℕ) where
  pub children_long : (f : NumberedFile) → length (children_of parent child f.maps) ≡ maps_by parent f
  children_long f = length-map (filter (is_of parent) f.maps) (map_for child) ∙ length-filter (is_of parent) f.maps

  children_append : (xs ys : List (Mapping ℕ)) → children_of parent child (xs ++ ys) ≡ children_of parent child xs ++ children_of parent child ys
  children_append xs ys =
      ap (map (map_for child)) (filter-append (is_of parent) xs ys) ∙ map-append (map_for child) (filter (is_of parent) xs) (filter (is_of parent) ys)

  -- the next map of the parent, at a place behind those before
  pub among_next : (ms : List (Mapping ℕ)) (next k : ℕ) (m : Mapping ℕ) (xs ys : List (Mapping ℕ)) → next ≤ k → k < length ms → m ≡ slice_index_or ms k m → m.task ≡ parent →
      IsAmong xs (children_of parent child (take next ms)) → ys ≡ xs ++ map_for child m ∷ [] → IsAmong ys (children_of parent child (take (k + 1) ms))
  among_next ms next k m xs ys behind within read own among grown =
      let far : k ≡ next + (k - next) = omega (arith, behind) in
      let upto = ap (λ i. take i ms) far ∙ take-add next (k - next) ms in
      let before = subst (IsAmong xs) (sym (ap (children_of parent child) upto ∙ children_append _ _)) (among_more xs _ (children_of parent child (take (k - next) (drop next ms))) among) in
      let one = ap (λ b. map (map_for child) (cond b (m ∷ []) [])) (eq-eqb m.task parent own) in
      let all = ap (children_of parent child) (take_more ms k m within ∙ ap (λ y. take k ms ++ y ∷ []) (sym read)) ∙ children_append (take k ms) (m ∷ [])
      ∙ ap (λ ys. children_of parent child (take k ms) ++ ys) one in
      subst (λ zs. IsAmong zs (children_of parent child (take (k + 1) ms))) (sym grown)
      (subst (IsAmong (xs ++ map_for child m ∷ [])) (sym all) (among_push xs (children_of parent child (take k ms)) (map_for child m) before))

  pub among_taken : (ms : List (Mapping ℕ)) (next : ℕ) (xs : List (Mapping ℕ)) → IsAmong xs (children_of parent child (take next ms)) → IsAmong xs (children_of parent child ms)
  among_taken ms next xs among =
      subst (IsAmong xs) (sym (ap (children_of parent child) (sym (take-append-drop next ms)) ∙ children_append (take next ms) (drop next ms)))
      (among_more xs (children_of parent child (take next ms)) (children_of parent child (drop next ms)) among)

  part_none : (fs : List NumberedFile) → ArePart parent child fs []
  part_none [] = tt
  part_none (f ∷ fs) = tt

  part_few : (fs : List NumberedFile) (vs : List (List (Mapping ℕ))) → ArePart parent child fs vs → sum_by length vs ≤ sum_by (maps_by parent) fs
  part_few [] [] all = omega arith
  part_few [] (v ∷ vs) all = absurd all
  part_few (f ∷ fs) [] all = omega arith
  part_few (f ∷ fs) (v ∷ vs) all =
      let here = among_few v (children_of parent child f.maps) all.0 in
      let long = children_long f in
      let rest = part_few fs vs all.1 in
      omega (arith, here, long, rest, sum_by-cons (maps_by parent) f fs, sum_by-cons (length {A = Mapping ℕ}) v vs)

  ready_none : (fs : List NumberedFile) → sum_by (maps_by parent) fs ≡ 0 → AreReady parent child fs []
  ready_none [] none = tt
  ready_none (f ∷ fs) none =
      let step = sum_by-cons (maps_by parent) f fs in
      let long = children_long f in
      (nil_from_length (children_of parent child f.maps) (omega (arith, step, none, long)), ready_none fs (omega (arith, step, none)))

  -- where they have all maps that the child gets, each list has its file's
  pub part_ready : (fs : List NumberedFile) (vs : List (List (Mapping ℕ))) → ArePart parent child fs vs → sum_by (maps_by parent) fs ≤ sum_by length vs → AreReady parent child fs vs
  part_ready [] [] all most = tt
  part_ready [] (v ∷ vs) all most = absurd all
  part_ready (f ∷ fs) [] all most = ready_none (f ∷ fs) (omega (arith, most))
  part_ready (f ∷ fs) (v ∷ vs) all most =
      let here = among_few v (children_of parent child f.maps) all.0 in
      let long = children_long f in
      let rest = part_few fs vs all.1 in
      let files = sum_by-cons (maps_by parent) f fs in
      let lists = sum_by-cons (length {A = Mapping ℕ}) v vs in (
        among_same v (children_of parent child f.maps) all.0 (omega (arith, most, long, rest, files, lists)),
        part_ready fs vs all.1 (omega (arith, most, here, long, files, lists)),
      )

  part_push : (fs : List NumberedFile) (vs : List (List (Mapping ℕ))) (n k : ℕ) (v : List (Mapping ℕ)) → k ≡ length vs + n → k < length fs → ArePart parent child fs vs →
      IsAmong v (children_of parent child (numbered_at fs k).maps) → ArePart parent child fs (with_next vs n v)
  part_push [] vs n k v long within all among = absurd (omega (arith, within))
  part_push (f ∷ fs) [] zero zero v long within all among = (among, part_none fs)
  part_push (f ∷ fs) [] zero (suc k) v long within all among = absurd (omega (arith, long))
  part_push (f ∷ fs) [] (suc n) zero v long within all among = absurd (omega (arith, long))
  part_push (f ∷ fs) [] (suc n) (suc k) v long within all among = (tt, part_push fs [] n k v (omega (arith, long)) (omega (arith, within)) (part_none fs) among)
  part_push (f ∷ fs) (w ∷ vs) n zero v long within all among = absurd (omega (arith, long))
  part_push (f ∷ fs) (w ∷ vs) n (suc k) v long within all among = (all.0, part_push fs vs n k v (omega (arith, long)) (omega (arith, within)) all.1 among)

  pub some_none : (fs : List NumberedFile) → AreSome parent child 0 fs []
  some_none fs = record { fit = tt; before = omega arith; part = part_none fs }

  module _ (fs : List NumberedFile) (xs : List FileMaps) (from file : ℕ) (f : NumberedFile) (list : Vec (Mapping ℕ)) (some : AreSome parent child from fs xs) where
    abbrev x : FileMaps
    x = record { file = file; list = list }

    pub some_push : from ≤ file → file < length fs → f ≡ slice_index_or fs file f → HasRoom f list → IsAmong list.items (children_of parent child f.maps) →
        AreSome parent child (file + 1) fs (xs ++ x ∷ [])
    some_push behind within read fits is_among =
        let is : f ≡ numbered_at fs file = read ∙ get_or_default fs file f _ within in
        let room = subst (λ g. HasRoom g list) is fits in
        let among = subst (λ (g : NumberedFile). IsAmong list.items (children_of parent child g.maps)) is is_among in
        let e = spread_push [] xs x in
        let long = spread_long [] fs xs 0 refl some.fit in
        let more = next_long (spread xs) (file - length (spread xs)) list.items in
        let all = ap length e in
        let before = some.before in
        record {
          fit = fit_push 0 fs xs x some.fit (omega (arith, long, before, behind)) within room;
          before = omega (arith, all, more, before, behind);
          part = subst (ArePart parent child fs) (sym e) (part_push fs (spread xs) (file - length (spread xs)) file list.items (omega (arith, before, behind)) within some.part among);
        }

pub some_more : (xs : List FileMaps) (x : FileMaps) → sum_by length (spread (xs ++ x ∷ [])) ≡ sum_by length (spread xs) + length x.list.items
some_more xs x = ap (sum_by length) (spread_push [] xs x) ∙ next_sum length refl (spread xs) (x.file - length (spread xs)) x.list.items

-- there are no more maps in them than the child gets
pub some_few : (parent child from : ℕ) (fs : List NumberedFile) (xs : List FileMaps) (x : FileMaps) → AreSome parent child from fs (xs ++ x ∷ []) →
    sum_by length (spread xs) + length x.list.items ≤ sum_by (maps_by parent) fs
some_few parent child from fs xs x some = (let few = part_few parent child fs (spread (xs ++ x ∷ [])) some.part in let more = some_more xs x in omega (arith, few, more))

-- ---- the last list

pub none_joined : (fs : List NumberedFile) → joined fs [] ≡ fs
none_joined [] = refl
none_joined (f ∷ fs) = refl

none_with : (f : NumberedFile) → with_list f [] ≡ f
none_with f = ap (λ ms. record f { maps = ms }) (append-nil f.maps)

last_joined : (fs : List NumberedFile) (vs : List (List (Mapping ℕ))) (n k : ℕ) (v : List (Mapping ℕ)) → k ≡ length vs + n → k < length fs →
    joined (slice_set fs k (with_list (numbered_at fs k) v)) vs ≡ joined fs (with_next vs n v)
last_joined [] vs n k v long within = absurd (omega (arith, within))
last_joined (f ∷ fs) [] zero zero v long within = ap (λ gs. with_list f v ∷ gs) (sym (none_joined fs))
last_joined (f ∷ fs) [] zero (suc k) v long within = absurd (omega (arith, long))
last_joined (f ∷ fs) [] (suc n) zero v long within = absurd (omega (arith, long))
last_joined (f ∷ fs) [] (suc n) (suc k) v long within =
    let rest = last_joined fs [] n k v (omega (arith, long)) (omega (arith, within)) in
    ap (λ g. g ∷ slice_set fs k (with_list (numbered_at fs k) v)) (sym (none_with f)) ∙ ap (λ gs. with_list f [] ∷ gs) (sym (none_joined _) ∙ rest)
last_joined (f ∷ fs) (w ∷ vs) n zero v long within = absurd (omega (arith, long))
last_joined (f ∷ fs) (w ∷ vs) n (suc k) v long within = ap (λ gs. with_list f w ∷ gs) (last_joined fs vs n k v (omega (arith, long)) (omega (arith, within)))

module _ (fs : List NumberedFile) (xs : List FileMaps) (x : FileMaps) (fit : AreFit 0 fs (xs ++ x ∷ [])) where
  abbrev y : NumberedFile
  y = with_list (numbered_at fs x.file) x.list.items

  pub last_is : IsLast 0 fs xs x
  last_is = fit_last 0 fs xs x fit

  pub last_rest : AreFit 0 (slice_set fs x.file y) xs
  last_rest = fit_set 0 fs xs x.file y last_is.rest last_is.behind

  pub last_spread : joined (slice_set fs x.file y) (spread xs) ≡ joined fs (spread (xs ++ x ∷ []))
  last_spread =
      let long = spread_long [] fs xs 0 refl last_is.rest in
      let behind = last_is.behind in
      last_joined fs (spread xs) (x.file - length (spread xs)) x.file x.list.items (omega (arith, long, behind)) last_is.within
      ∙ ap (joined fs) (sym (spread_push [] xs x))

  pub last_sum : (f : List (Mapping ℕ) → ℕ) → f [] ≡ 0 → sum_by f (spread (xs ++ x ∷ [])) ≡ sum_by f (spread xs) + f x.list.items
  last_sum f none = ap (sum_by f) (spread_push [] xs x) ∙ next_sum f none (spread xs) (x.file - length (spread xs)) x.list.items
