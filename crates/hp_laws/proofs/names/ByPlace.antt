-- What is shown by place is shown by name and number, where these stay in place.
use Rattle.std.proofs.Common.{◌≡◌, ⊎_elim, inl, inr, ◌⊎◌, subst, ℕ, true, false, ◌==◌, Some, List, sym, ap, ◌∙◌}
use Rattle.hp_model.proofs.Words.{File, Map, Mount, Spot, file_named, is_map, spot, spot_on}
use Rattle.hp_laws.proofs.footprint.IdlePools.{quiet}
use Rattle.hp_laws.proofs.names.Placed.{Placed}
use Rattle.hp_laws.proofs.steps.Plans.{stays}
use Rattle.hp_laws.specs.Follows.{SameFiles, map_on, seen_on, shown_on}
use Rattle.hp_laws.proofs.names.Changes.{KeptMap, SlotKeeps, Effect, IsIdle, Losses}
use Rattle.hp_laws.proofs.names.Keys.{Where, places}
use Rattle.hp_laws.proofs.names.Named.{file_same, file_shown, map_shown, seen_shown}

-- the mount, m before and n after, by places
pub record PlaceKeeps (size : ℕ) (m : Mount) (e : Effect) (n : Mount) (Lost : Losses) : Type 0 where
  pub names : (name : List ℕ) (f : ℕ × File) → e.ends_name name ≡ false → file_named m name ≡ Some f → (g : ℕ × File) × (file_named n name ≡ Some g) × (g.0 ≡ f.0)
  pub numbers : (task number : ℕ) (p : Spot) → e.ends_number task number ≡ false → spot m (is_map task number) ≡ Some p
      → (q : Spot) × (spot n (is_map task number) ≡ Some q) × (places q ≡ places p)
  pub cells : (j x : ℕ) → shown_on size (Some n) j x ≡ e.stored j x (shown_on size (Some m) j x)
  -- of the maps that are found
  pub maps : (task number x : ℕ) (p q : Spot) → spot m (is_map task number) ≡ Some p → spot n (is_map task number) ≡ Some q → places q ≡ places p
      → (seen_on size (Some n) p.file_no p.map_no x ≡ e.seen p.file_no p.map_no x (seen_on size (Some m) p.file_no p.map_no x)) ⊎ Lost p q x
  pub marks : (task number : ℕ) (p : Spot) → spot m (is_map task number) ≡ Some p
      → (map_on (Some m) p.file_no p.map_no).unmapped ≡ true → (map_on (Some n) p.file_no p.map_no).unmapped ≡ true

module _ (size : ℕ) (m n : Mount) where
  -- the map that stands where it stood
  pub map_there : (task number : ℕ) (p q : Spot) → spot n (is_map task number) ≡ Some q → places q ≡ places p → map_on (Some n) p.file_no p.map_no ≡ q.map
  map_there task number p q there same = ap (λ (x : Where). map_on (Some n) x.0 x.1) (sym same) ∙ map_shown (Some n) task number q there

  module _ (e : Effect) (Lost : Losses) (keeps : PlaceKeeps size m e n Lost) where
    map_kept : (task number i : ℕ) (p q : Spot) → spot m (is_map task number) ≡ Some p → spot n (is_map task number) ≡ Some q → places q ≡ places p → KeptMap size (Some m) e (Some n) Lost p q i
    map_kept task number i p q found there same =
        record {
          shape = ap (λ (x : Where). x.2) same;
          file = λ name goes_on named.
              (let g = keeps.names name (p.file_no, p.file) goes_on named in
              file_same (Some n) name g.0 task number q g.1 there (g.2 ∙ sym (ap (λ (x : Where). x.0) same)));
          marked = λ marked.
              ap (λ (x : Map). x.unmapped) (sym (map_there task number p q there same))
              ∙ keeps.marks task number p found (ap (λ (x : Map). x.unmapped) (map_shown (Some m) task number p found) ∙ marked);
          shows = ⊎_elim
              (λ shows. inl (sym (seen_shown size (Some n) task number q i there) ∙ ap (λ (x : Where). seen_on size (Some n) x.0 x.1 i) same ∙ shows
              ∙ ap (e.seen p.file_no p.map_no i) (seen_shown size (Some m) task number p i found)))
              (λ lost. inr lost) (keeps.maps task number i p q found there same);
        }

    pub by_place : SlotKeeps size (Some m) e (Some n) Lost
    by_place = record {
      names = λ name i f goes_on named.
          (let g = keeps.names name f goes_on named in (
            g.0,
            g.1,
            sym (file_shown size (Some n) name g.0 i g.1) ∙ ap (λ j. shown_on size (Some n) j i) g.2 ∙ keeps.cells f.0 i ∙ ap (e.stored f.0 i) (file_shown size (Some m) name f i named),
          ));
      numbers = λ task number i p goes_on found.
          (let q = keeps.numbers task number p goes_on found in (q.0, q.1, map_kept task number i p q.0 found q.1 q.2));
      together = λ a b p o stay_a stay_b found_a found_b.
          (let q = keeps.numbers a.0 a.1 p stay_a found_a in
          let w = keeps.numbers b.0 b.1 o stay_b found_b in
          subst (λ y. SameFiles (p.file_no == o.file_no) y (spot_on (Some n) b.0 b.1)) (sym q.1)
          (subst (λ y. SameFiles (p.file_no == o.file_no) (Some q.0) y) (sym w.1)
          (ap (λ (k : Where). k.0 == w.0.file_no) q.2 ∙ ap (λ (k : Where). p.file_no == k.0) w.2)));
    }

  -- files and maps show what they showed, and have the marks that they had
  pub record Quiet : Type 0 where
    pub cells : (j x : ℕ) → shown_on size (Some n) j x ≡ shown_on size (Some m) j x
    pub maps : (j l x : ℕ) → seen_on size (Some n) j l x ≡ seen_on size (Some m) j l x
    pub marks : (j l : ℕ) → (map_on (Some n) j l).unmapped ≡ (map_on (Some m) j l).unmapped

  pub quiet_keeps : (e : Effect) (Lost : Losses) → IsIdle e → Placed m n → Quiet → SlotKeeps size (Some m) e (Some n) Lost
  quiet_keeps e Lost idle stays quiet = by_place e Lost (record {
    names = λ name f goes_on named. stays.names name f named;
    numbers = λ task number p goes_on found. stays.numbers task number p found;
    cells = λ j x. quiet.cells j x ∙ idle.stored j x (shown_on size (Some m) j x);
    maps = λ task number x p q found there same. inl (quiet.maps p.file_no p.map_no x ∙ idle.seen p.file_no p.map_no x (seen_on size (Some m) p.file_no p.map_no x));
    marks = λ task number p found marked. quiet.marks p.file_no p.map_no ∙ marked;
  })
