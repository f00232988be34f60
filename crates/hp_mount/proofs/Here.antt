use Rattle.std.proofs.lemmas.Grind.{common_steps}
-- What is said of a mount as a caller sees it is so of it as the fields show it.
use Rattle.std.proofs.Common.{◌≡◌, ℕ, ◌<◌, false, None, true, length, ap, subst, sym, ◌∙◌, arith}
use Rattle.std.proofs.lemmas.List.{get_or-set_same, length-set}
use Rattle.hp_file.proofs.PutCopy.{bare_place}
use Rattle.hp_lookup.proofs.Words.{Files, file_at, with_cell_at}
use Rattle.hp_lookup.specs.declared.copy_state.CopyState.{CopyState}
use Rattle.hp_file.specs.States.{IsCopyState}
use Rattle.hp_laws.proofs.Variants.{Cell, Entered, Hole, Intent, Place}
use Rattle.hp_model.proofs.Words.{Copy, File, Mount, Page, cell_at, copy_of, file_in, is_live, is_shared, map_in, new_file, place_at, with_cell}
use Rattle.hp_mount_laws.specs.Reach.{NeedsCopy, shows_page, spot_at}

module _ {m n : Mount} (same : m ≡ n) (k : ℕ) where
  pub file_here : k < length n.files → k < length m.files
  file_here below = subst (λ (x : Mount). k < length x.files) (sym same) below

  pub below_here : (i : ℕ) → i < length (file_in n k).cells → i < length (file_in m k).cells
  below_here i below = subst (λ (x : Mount). i < length (file_in x k).cells) (sym same) below

  pub cell_here : (i : ℕ) {c : Cell Page} → cell_at (file_in n k) i ≡ c → cell_at (file_in m k) i ≡ c
  cell_here i is = ap (λ (x : Mount). cell_at (file_in x k) i) same ∙ is

  module _ (j : ℕ) where
    pub map_here : j < length (file_in n k).maps → j < length (file_in m k).maps
    map_here below = subst (λ (x : Mount). j < length (file_in x k).maps) (sym same) below

    pub place_here : (i : ℕ) {p : Place Copy} → place_at (map_in (file_in n k) j) i ≡ p → place_at (map_in (file_in m k) j) i ≡ p
    place_here i is = ap (λ (x : Mount). place_at (map_in (file_in x k) j) i) same ∙ is

    pub state_here : (i : ℕ) (state : CopyState) → IsCopyState state (file_in n k) (place_at (map_in (file_in n k) j) i) → IsCopyState state (file_in m k) (place_at (map_in (file_in m k) j) i)
    state_here i state is = subst (λ (x : Mount). IsCopyState state (file_in x k) (place_at (map_in (file_in x k) j) i)) (sym same) is

-- an access that finds neither a copy nor a page that it may use asks for a copy
pub needs_copy : (m : Mount) (k j i : ℕ) (intent : Intent) → is_shared (map_in (file_in m k) j).sharing ≡ false → is_live (place_at (map_in (file_in m k) j) i) ≡ true
    → copy_of (place_at (map_in (file_in m k) j) i) ≡ None → (map_in (file_in m k) j).unmapped ≡ false → shows_page intent (cell_at (file_in m k) i) ≡ false
    → NeedsCopy intent i (spot_at m k j)
needs_copy m k j i intent private live bare kept asks = grind (arith, common_steps, bare_place)

-- an index that was entered, with other room, has its entry
module _ (v w : Files) (room k i : ℕ) (there : k < length v.files) (below : i < length (file_at v.files k).cells)
    (is : w ≡ with_cell_at k i Entered (record v { room = room })) where
  abbrev now : File
  now = with_cell (file_at v.files k) i Entered

  file_is : file_at w.files k ≡ now
  file_is = ap (λ (x : Files). file_at x.files k) is ∙ get_or-set_same v.files k now (new_file None) there

  pub entered_file : k < length w.files
  entered_file = (let long = length-set v.files k now in let same = ap (λ (x : Files). length x.files) is in omega (arith, there, long, same))

  pub entered_below : i < length (file_at w.files k).cells
  entered_below = subst (λ (f : File). i < length f.cells) (sym file_is) (let long = length-set (file_at v.files k).cells i Entered in omega (arith, below, long))

  pub entered_cell : cell_at (file_at w.files k) i ≡ Entered
  entered_cell = ap (λ (f : File). cell_at f i) file_is ∙ get_or-set_same (file_at v.files k).cells i Entered Hole below
