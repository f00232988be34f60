use Rattle.std.proofs.lemmas.Grind.{common_steps}
-- What files and maps are called, through each change.
use Rattle.std.proofs.Common.{◌≡◌, ℕ, zero, suc, ◌<◌, List, [], ◌∷◌, length, map, refl, sym, ap, subst, ◌∙◌, arith, slice_set, slice_index_or}
use Rattle.std.proofs.lemmas.List.{length-map, map-set, set-get_or}
use Rattle.hp_model.proofs.Words.{Mapping}
use Rattle.hp_store.specs.Store.{Store}
use Rattle.hp_lookup.proofs.Words.{AreLevel, AreNoted, AreSame, IsFiles, IsHeld, IsKeyed, Label, Noted, NumberedFile, file_shown, files_shown, key_of, label_of, labels_of, mapping_at, tally_of}
use Rattle.hp_lookup.proofs.Words.{no_mapping}
use Rattle.hp_lookup.proofs.Level.{level_set}

pub set_read : {Y : Type 0} (xs : List Y) (j : ℕ) (d : Y) → slice_set xs j (slice_index_or xs j d) ≡ xs
set_read [] j d = refl
set_read (z ∷ xs) zero d = refl
set_read (z ∷ xs) (suc j) d = ap (λ ys. z ∷ ys) (set_read xs j d)

-- one map of a file is changed, and keeps its task and number
pub same_label : (x : NumberedFile) (j : ℕ) (y : Mapping ℕ) → key_of y ≡ key_of (mapping_at x j) → label_of (record x { maps = slice_set x.maps j y }) ≡ label_of x
same_label x j y same =
    ap (λ ks. record { name = x.name; keys = ks }) (map-set key_of x.maps j y ∙ ap (slice_set (map key_of x.maps) j) same
    ∙ sym (map-set key_of x.maps j (mapping_at x j)) ∙ ap (map key_of) (set_read x.maps j no_mapping))

-- x is what code read, and g what it leaves there
pub labels_stay : (fs : List NumberedFile) (k : ℕ) (x g : NumberedFile) → x ≡ slice_index_or fs k x → label_of g ≡ label_of x → labels_of (slice_set fs k g) ≡ labels_of fs
labels_stay fs k x g read same =
    map-set label_of fs k g ∙ ap (slice_set (labels_of fs) k) same ∙ sym (map-set label_of fs k x) ∙ ap labels_of (ap (slice_set fs k) read ∙ set-get_or fs k x)

-- a file that keeps its label keeps what holds of all
pub files_same : (n : Noted) (s t : Store) (more now maps : ℕ) (tally : ℕ → ℕ) (fs : List NumberedFile) (k : ℕ) (x g : NumberedFile) →
    k < length (files_shown s fs) → x ≡ slice_index_or fs k x → label_of g ≡ label_of x → (AreLevel x.maps → AreLevel g.maps)
    → IsFiles n s more maps tally fs → IsHeld t now (slice_set fs k g) → IsFiles n t now maps tally (slice_set fs k g)
files_same n s t more now maps tally fs k x g l read same level is held =
    let stay = sym (labels_stay fs k x g read same) in
    record {
      held = held;
      keyed = subst (IsKeyed maps tally) stay is.keyed;
      noted = subst (AreNoted n) stay is.noted;
      level = level_set fs k x g (let long = length-map fs (file_shown s) in omega (arith, l, long)) read level is.level;
    }

-- the same is noted as before
pub noted_same : (old new : Noted) (ls : List Label) → AreSame old new → AreNoted old ls → AreNoted new ls
noted_same old new ls same are = record {
  names = λ name e. are.names name (sym (same.names name) ∙ e);
  keys = λ task number e. are.keys task number (sym (same.keys task number) ∙ e);
  no_name = λ name e. same.names name ∙ are.no_name name e;
  no_key = λ task number e. same.keys task number ∙ are.no_key task number e;
}

-- the same is noted
pub files_same_noted : (old new : Noted) (s : Store) (more maps : ℕ) (fs : List NumberedFile) → AreSame old new → IsFiles old s more maps (tally_of old) fs → IsFiles new s more maps (tally_of new) fs
files_same_noted old new s more maps fs same is = record {
  held = is.held;
  keyed = record { kept = is.keyed.kept; names = is.keyed.names; keys = is.keyed.keys; map_count = is.keyed.map_count; tallied = λ q. same.tally q ∙ is.keyed.tallied q };
  noted = noted_same old new (labels_of fs) same is.noted;
  level = is.level;
}

-- each task has as many maps
pub files_recounted : (n : Noted) (s : Store) (more maps : ℕ) (tally next : ℕ → ℕ) (fs : List NumberedFile) → ((q : ℕ) → next q ≡ tally q) →
    IsFiles n s more maps tally fs → IsFiles n s more maps next fs
files_recounted n s more maps tally next fs same is = grind (arith, common_steps)
