-- What an unlink, a truncate, a punch, an unmap and an umount change.
use Rattle.std.proofs.Common.{arith, ◌≡◌, subst, ℕ, ◌||◌, not, filter, None, Ok, List, map, ap, ◌∙◌, if◌then◌else◌}
use Rattle.hp_laws.proofs.Variants.{Answer, Gone, Slot as OnSlot}
use Rattle.hp_model.specs.declared.event.SlotEvent.TheVariants as slot
use Rattle.hp_model.specs.declared.step.Step.TheVariants as step
use Rattle.hp_model.proofs.Words.{Choice, File, IsEvent, Map, Mount, Slot, State, cell_punched, file_unmapped, is_in, is_kept, is_map, is_mapped, map_punched, map_unmapped, punched, slot_at}
use Rattle.hp_model.proofs.Words.{slot_event, unmapped_from, with_slot, without_copy}
use Rattle.hp_laws.proofs.steps.Outcomes.{Always}
use Rattle.hp_model.specs.machine.Footprint.{Changes, IsButNodes, at_each, cut_out, unmapped, with_edit, with_maps, with_places}
use Rattle.hp_laws.proofs.footprint.Landings.{Becomes, Comes, Edited, always_here, comes, edits, makes}
use Rattle.hp_laws.proofs.footprint.Ranges.{cells_in, map_all, places_in}

pub unlink_changes : (s : State) (k : ℕ) (name : List ℕ) (a : Answer) (t : State) → IsEvent s (OnSlot k (slot.Unlink name)) (Ok a) t → Changes s (step.Unlink k name) a t
unlink_changes s k name a t is = edits s k (slot.Unlink name) a t is name (λ m f. with_edit m f.0 (record f.1 { name = None })) (λ c. all c (slot_at s k))
  where
    all : (c : Choice) (old : Slot) → Always (Comes (Edited old name (λ m f. with_edit m f.0 (record f.1 { name = None })))) (slot_event s.page_size k c old (slot.Unlink name))
    all c old = grind arith

-- ---- a punch

punched_is : (a b : ℕ) (f : File) → punched a b f ≡ cut_out (is_in a b) f
punched_is a b f =
    ap (λ cells. record f { cells = cells; maps = map (map_punched a b) f.maps }) (cells_in cell_punched a b f.cells)
    ∙ ap (λ maps. record f { cells = at_each (λ i c. if is_in a b i then cell_punched c else c) 0 f.cells; maps = maps }) (map_all (map_punched a b) _ (places_in without_copy a b) f.maps)

pub punch_changes : (s : State) (k : ℕ) (name : List ℕ) (a b : ℕ) (answer : Answer) (t : State) → IsEvent s (OnSlot k (slot.Punch name a b)) (Ok answer) t
    → Changes s (step.Punch k name a b) answer t
punch_changes s k name a b answer t is = edits s k (slot.Punch name a b) answer t is name (λ m f. with_edit m f.0 (cut_out (is_in a b) f.1)) (λ c. all c (slot_at s k))
  where
    all : (c : Choice) (old : Slot) → Always (Comes (Edited old name (λ m f. with_edit m f.0 (cut_out (is_in a b) f.1)))) (slot_event s.page_size k c old (slot.Punch name a b))
    all c old = grind (arith, punched_is)

-- ---- an unmap

file_unmapped_is : (task number a b : ℕ) (f : File) → file_unmapped (is_map task number) a b f ≡ record f { maps = unmapped task number a b f.maps }
file_unmapped_is task number a b f = ap (λ maps. record f { maps = filter (λ m. is_mapped m || not (is_map task number m)) maps }) (map_all _ _ one f.maps)
  where
    one : (m : Map) → map_unmapped (is_map task number) a b m ≡ (if is_map task number m then with_places (λ i p. if is_in a b i then Gone else p) m else m)
    one m = ap (λ cut. if is_map task number m then cut else m) (places_in (λ p. Gone) a b m)

pub unmapped_is : (task number a b : ℕ) (m : Mount) → unmapped_from task number a b m ≡ with_maps (unmapped task number a b) m
unmapped_is task number a b m = ap (λ files. record m { files = filter is_kept files }) (map_all _ _ (file_unmapped_is task number a b) m.files)

pub unmap_changes : (s : State) (task k number a b : ℕ) (answer : Answer) (t : State) → IsEvent s (OnSlot k (slot.Unmap task number a b)) (Ok answer) t
    → Changes s (step.Unmap task k number a b) answer t
unmap_changes s task k number a b answer t is = makes s k (slot.Unmap task number a b) answer t is (with_maps (unmapped task number a b)) (λ c. all c (slot_at s k))
  where
    all : (c : Choice) (old : Slot) → Always (Comes (Becomes old (with_maps (unmapped task number a b)))) (slot_event s.page_size k c old (slot.Unmap task number a b))
    all c old = grind (arith, unmapped_is)

-- ---- an umount

pub umount_changes : (s : State) (k : ℕ) (a : Answer) (t : State) → IsEvent s (OnSlot k slot.Umount) (Ok a) t → Changes s (step.Umount k) a t
umount_changes s k a t is =
    let l = comes (λ a new. new ≡ None) s k a t slot.Umount (λ c fresh. always_here s (Comes (λ a new. new ≡ None)) _ (all c (slot_at s k))) is in
    subst (λ x. IsButNodes (with_slot s k x) t) l.1.0 l.1.1
  where
    all : (c : Choice) (old : Slot) → Always (Comes (λ a new. new ≡ None)) (slot_event s.page_size k c old slot.Umount)
    all c old = grind arith
