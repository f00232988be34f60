-- Maps that hold one number hold it at one index, through each change.
use Rattle.std.proofs.Common.{◌≡◌, ◌≢◌, ℕ, zero, suc, ◌-◌, ◌<◌, ◌==◌, ⊎_elim, ◌⊎◌, inl, Bool, true, false, cond, nat_lt, Option, Some, None, List, [], ◌∷◌, ◌++◌, length, map, replicate, refl, sym, ap}
use Rattle.std.proofs.Common.{subst, ◌∙◌, slice_index_or, slice_set, All, filter}
use Rattle.std.proofs.lemmas.Bool.{cond_both}
use Rattle.std.proofs.lemmas.Bool.Decides.{eqb_tells}
use Rattle.std.proofs.lemmas.List.{get_or-set_same, get_or-set_other}
use Rattle.std.proofs.lemmas.List.Elements.{All-get_or, All-set}
use Rattle.hp_laws.proofs.Variants.{Gone, Live, Place}
use Rattle.hp_model.proofs.Words.{Mapping, copy_of, edit_range, is_in, map_punched, place_at, without_copy, without_range}
use Rattle.hp_laws.proofs.ending.Cuts.{ranged}
use Rattle.hp_lookup.proofs.Words.{AreLevel, NumberedFile, copy_in, no_mapping}

-- each copy stood there before, in some map
pub fewer_level : (old new : List (Mapping ℕ)) → ((a i number : ℕ) → copy_in new a i ≡ Some number → (b : ℕ) × (copy_in old b i ≡ Some number)) → AreLevel old → AreLevel new
fewer_level old new from level number a b i j x y = level number (from a i number x).0 (from b j number y).0 i j (from a i number x).1 (from b j number y).1

pub same_level : (old new : List (Mapping ℕ)) → new ≡ old → AreLevel old → AreLevel new
same_level old new same level = subst AreLevel (sym same) level

-- ---- each map is changed, and gets no copy

module _ (f : Mapping ℕ → Mapping ℕ) (less : (m : Mapping ℕ) (i number : ℕ) → copy_of (place_at (f m) i) ≡ Some number → copy_of (place_at m i) ≡ Some number) where
  pub mapped_copy : (ms : List (Mapping ℕ)) (a i number : ℕ) → copy_in (map f ms) a i ≡ Some number → copy_in ms a i ≡ Some number
  mapped_copy [] a i number e = e
  mapped_copy (m ∷ ms) zero i number e = less m i number e
  mapped_copy (m ∷ ms) (suc a) i number e = mapped_copy ms a i number e

  pub mapped_level : (ms : List (Mapping ℕ)) → AreLevel ms → AreLevel (map f ms)
  mapped_level ms = fewer_level ms (map f ms) (λ a i number e. (a, mapped_copy ms a i number e))

-- places of a range are changed, and get no copy
edited_less : (f : Place ℕ → Place ℕ) → f Gone ≡ Gone → ((p : Place ℕ) (number : ℕ) → copy_of (f p) ≡ Some number → copy_of p ≡ Some number) → (a b : ℕ) (m : Mapping ℕ) (i number : ℕ)
    → copy_of (place_at (record m { places = edit_range f (a - m.start) (b - m.start) m.places }) i) ≡ Some number → copy_of (place_at m i) ≡ Some number
edited_less f gone bare a b m i number = either (nat_lt i m.start)
  where
    edited : (c : Bool) (p : Place ℕ) → copy_of (cond c (f p) p) ≡ Some number → copy_of p ≡ Some number
    edited true p e = bare p number e
    edited false p e = e

    either : (c : Bool) → copy_of (cond c Gone (slice_index_or (edit_range f (a - m.start) (b - m.start) m.places) (i - m.start) Gone))
        ≡ Some number → copy_of (cond c Gone (slice_index_or m.places (i - m.start) Gone)) ≡ Some number
    either true e = e
    either false e =
        edited (is_in (a - m.start) (b - m.start) (i - m.start)) (slice_index_or m.places (i - m.start) Gone)
        (ap copy_of (sym (ranged f (a - m.start) (b - m.start) m.places (i - m.start) Gone gone)) ∙ e)

punched_less : (a b : ℕ) (m : Mapping ℕ) (i number : ℕ) → copy_of (place_at (map_punched a b m) i) ≡ Some number → copy_of (place_at m i) ≡ Some number
punched_less = edited_less without_copy refl bare
  where
    bare : (p : Place ℕ) (number : ℕ) → copy_of (without_copy p) ≡ Some number → copy_of p ≡ Some number
    bare Gone number e = cc
    bare (Live c o) number e = cc

pub punched_level : (a b : ℕ) (ms : List (Mapping ℕ)) → AreLevel ms → AreLevel (map (map_punched a b) ms)
punched_level a b ms = mapped_level (map_punched a b) (punched_less a b) ms

-- ---- indices leave maps, and maps leave

pub cut_less : (a b : ℕ) (m : Mapping ℕ) (i number : ℕ) → copy_of (place_at (without_range a b m) i) ≡ Some number → copy_of (place_at m i) ≡ Some number
cut_less = edited_less (λ p. Gone) refl (λ p number e. cc)

module _ (p : Mapping ℕ → Bool) (i number : ℕ) where
  pub kept_copy : (ms : List (Mapping ℕ)) (a : ℕ) → copy_in (filter p ms) a i ≡ Some number → (b : ℕ) × (copy_in ms b i ≡ Some number)
  kept_copy [] a e = (a, e)
  kept_copy (m ∷ ms) a e = at (p m) a (kept_copy ms) e
    where
      at : (c : Bool) (a : ℕ) → ((a : ℕ) → copy_in (filter p ms) a i ≡ Some number → (b : ℕ) × (copy_in ms b i ≡ Some number)) →
          copy_in (cond c (m ∷ filter p ms) (filter p ms)) a i ≡ Some number → (b : ℕ) × (copy_in (m ∷ ms) b i ≡ Some number)
      at true zero rest e = (0, e)
      at true (suc a) rest e = (let q = rest a e in (suc q.0, q.1))
      at false a rest e = (let q = rest a e in (suc q.0, q.1))

pub filtered_level : (p : Mapping ℕ → Bool) (ms : List (Mapping ℕ)) → AreLevel ms → AreLevel (filter p ms)
filtered_level p ms = fewer_level ms (filter p ms) (λ a i number e. kept_copy p i number ms a e)

-- ---- no map, and a map more, without copies

pub clash : (number : ℕ) (o : Option ℕ) → o ≡ None → o ≡ Some number → ⊥
clash number o none e = (let both : ◌≡◌ {A = Option ℕ} None (Some number) = sym none ∙ e in cc)

pub bare_map : (m : Mapping ℕ) → ((k : ℕ) → copy_of (slice_index_or m.places k Gone) ≡ None) → (i : ℕ) → copy_of (place_at m i) ≡ None
bare_map m none i = cond_both (nat_lt i m.start) Gone (slice_index_or m.places (i - m.start) Gone) (λ p. copy_of p ≡ None) (λ e. refl) (λ e. none (i - m.start))

pub none_level : AreLevel []
none_level number a b i j x y = absurd (clash number (copy_of (place_at no_mapping i)) (bare_map no_mapping (λ k. refl) i) x)

blank : (n k : ℕ) → copy_of (slice_index_or (replicate {A = Place ℕ} n (Live false None)) k Gone) ≡ None
blank zero k = refl
blank (suc n) zero = refl
blank (suc n) (suc k) = blank n k

pub more_level : (ms : List (Mapping ℕ)) (y : Mapping ℕ) (n : ℕ) → y.places ≡ replicate n (Live false None) → AreLevel ms → AreLevel (ms ++ y ∷ [])
more_level ms y n places = fewer_level ms (ms ++ y ∷ []) (λ a i number e. (a, there ms a i number e))
  where
    bare : (i : ℕ) → copy_of (place_at y i) ≡ None
    bare = bare_map y (λ k. ap (λ ps. copy_of (slice_index_or ps k Gone)) places ∙ blank n k)

    there : (ms : List (Mapping ℕ)) (a i number : ℕ) → copy_in (ms ++ y ∷ []) a i ≡ Some number → copy_in ms a i ≡ Some number
    there [] zero i number e = absurd (clash number (copy_of (place_at y i)) (bare i) e)
    there [] (suc a) i number e = e
    there (m ∷ ms) zero i number e = e
    there (m ∷ ms) (suc a) i number e = there ms a i number e

-- ---- a map gets a copy by a number that stood nowhere

module _ (ms : List (Mapping ℕ)) (j : ℕ) (l : j < length ms) (z : Mapping ℕ) (n e : ℕ) (fresh : (b i : ℕ) → copy_in ms b i ≢ Some n)
    (z_is : (i number : ℕ) → copy_of (place_at z i) ≡ Some number → (copy_in ms j i ≡ Some number) ⊎ ((number ≡ n) × (i ≡ e))) where
  put_in : (a i number : ℕ) → copy_in (slice_set ms j z) a i ≡ Some number → (copy_in ms a i ≡ Some number) ⊎ ((number ≡ n) × (i ≡ e))
  put_in a i number is = ⊎_elim
      (λ (q : ((a == j) ≡ true) × (a ≡ j)). subst (λ b. (copy_in ms b i ≡ Some number) ⊎ ((number ≡ n) × (i ≡ e))) (sym q.1)
      (z_is i number (ap (λ m. copy_of (place_at m i)) (sym (get_or-set_same ms j z no_mapping l)) ∙ ap (λ b. copy_in (slice_set ms j z) b i) (sym q.1) ∙ is)))
      (λ (q : ((a == j) ≡ false) × (a ≢ j)). inl (ap (λ m. copy_of (place_at m i)) (sym (get_or-set_other ms j a z no_mapping q.1)) ∙ is))
      (eqb_tells a j)

  pub put_level : AreLevel ms → AreLevel (slice_set ms j z)
  put_level level number a b i k x y = ⊎_elim
      (λ (old : copy_in ms a i ≡ Some number). ⊎_elim
      (λ (also : copy_in ms b k ≡ Some number). level number a b i k old also)
      (λ (q : (number ≡ n) × (k ≡ e)). absurd (fresh a i (old ∙ ap Some q.0)))
      (put_in b k number y))
      (λ (p : (number ≡ n) × (i ≡ e)). ⊎_elim
      (λ (also : copy_in ms b k ≡ Some number). absurd (fresh b k (also ∙ ap Some p.0)))
      (λ (q : (number ≡ n) × (k ≡ e)). p.1 ∙ sym q.1)
      (put_in b k number y))
      (put_in a i number x)

-- ---- the files

-- the maps of a file that code read
pub level_read : (fs : List NumberedFile) (k : ℕ) (x : NumberedFile) → k < length fs → x ≡ slice_index_or fs k x → All (λ (f : NumberedFile). AreLevel f.maps) fs → AreLevel x.maps
level_read fs k x l read level = subst (λ (f : NumberedFile). AreLevel f.maps) (sym read) (All-get_or (λ (f : NumberedFile). AreLevel f.maps) fs k x l level)

-- one file is another
pub level_set : (fs : List NumberedFile) (k : ℕ) (x g : NumberedFile) → k < length fs → x ≡ slice_index_or fs k x →
    (AreLevel x.maps → AreLevel g.maps) → All (λ (f : NumberedFile). AreLevel f.maps) fs →
    All (λ (f : NumberedFile). AreLevel f.maps) (slice_set fs k g)
level_set fs k x g l read step level = All-set (λ (f : NumberedFile). AreLevel f.maps) fs k g (step (level_read fs k x l read level)) level
