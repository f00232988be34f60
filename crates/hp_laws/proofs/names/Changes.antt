-- What a step makes of what a slot shows, by names and numbers.
use Rattle.std.proofs.Common.{◌≡◌, ◌⊎◌, ℕ, ◌==◌, Bool, true, false, Some, List}
use Rattle.hp_model.proofs.Words.{File, Slot, Spot, cell_at, named_on}
use Rattle.hp_model.proofs.Words.{shown, spot_on, value, Reply, State}
use Rattle.hp_model.specs.declared.step.Step.{Step}
use Rattle.hp_laws.specs.Follows.{IsNameOf, SameFiles, StillNamed, shape_of, is_ended_name, is_ended_number, seen_over, stored_over}

-- the names and numbers that end, and what becomes of the bytes of files and of maps
pub record Effect : Type 0 where
  pub ends_name : List ℕ → Bool
  pub ends_number : (task number : ℕ) → Bool
  pub stored : (file i : ℕ) → List ℕ → List ℕ
  pub seen : (file map i : ℕ) → List ℕ → List ℕ

abbrev pub effect : State → Step → Reply → (slot : ℕ) → Effect
effect s x reply slot =
    record {
      ends_name = λ name. is_ended_name x reply slot name;
      ends_number = λ task number. is_ended_number s x reply slot task number;
      stored = λ file i old. stored_over s x reply slot file i old;
      seen = λ file map i old. seen_over s x reply slot file map i old;
    }

-- the bytes are as they were
pub record IsIdle (e : Effect) : Type 0 where
  pub stored : (file i : ℕ) (old : List ℕ) → old ≡ e.stored file i old
  pub seen : (file map i : ℕ) (old : List ℕ) → old ≡ e.seen file map i old

-- maps that may have lost a copy, p before and q after, at an index
abbrev pub Losses : Type 1
Losses = (p q : Spot) (i : ℕ) → Type 0

abbrev pub Never : Losses
Never p q i = ⊥

pub record KeptMap (size : ℕ) (x : Slot) (e : Effect) (y : Slot) (Lost : Losses) (p q : Spot) (i : ℕ) : Type 0 where
  pub shape : shape_of q.map ≡ shape_of p.map
  pub file : (name : List ℕ) → e.ends_name name ≡ false → IsNameOf x name p → IsNameOf y name q
  pub marked : p.map.unmapped ≡ true → q.map.unmapped ≡ true
  pub shows : (value size q.file q.map i ≡ e.seen p.file_no p.map_no i (value size p.file p.map i)) ⊎ Lost p q i

-- the slot, x before and y after, keeps its names and numbers, but for those that end
pub record SlotKeeps (size : ℕ) (x : Slot) (e : Effect) (y : Slot) (Lost : Losses) : Type 0 where
  pub names : (name : List ℕ) (i : ℕ) (f : ℕ × File) → e.ends_name name ≡ false → named_on x name ≡ Some f
      → StillNamed size y name i (e.stored f.0 i (shown size (cell_at f.1 i)))
  pub numbers : (task number i : ℕ) (p : Spot) → e.ends_number task number ≡ false → spot_on x task number ≡ Some p
      → (q : Spot) × (spot_on y task number ≡ Some q) × KeptMap size x e y Lost p q i
  pub together : (a b : ℕ × ℕ) (p o : Spot) → e.ends_number a.0 a.1 ≡ false → e.ends_number b.0 b.1 ≡ false
      → spot_on x a.0 a.1 ≡ Some p → spot_on x b.0 b.1 ≡ Some o → SameFiles (p.file_no == o.file_no) (spot_on y a.0 a.1) (spot_on y b.0 b.1)
