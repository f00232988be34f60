-- What a door has once a section was entered.
use Rattle.std.proofs.Common.{◌≡◌, ◌∷◌, [], ℕ, Bool, true, false, Option, None, Some, List, refl, ap, arith, subst, sym, ◌∙◌, is_some, sum}
use Rattle.atomic_table.specs.Seated.{TableId}
use Rattle.hp_history.specs.declared.held.Held.{Held}
use Rattle.hp_history.specs.Sections.{IsEntered, IsFree, asked_in, busy, section_at}
use Rattle.hp_laws.proofs.Variants.{Asked, GiveBack, PoolAnswer, Section}
use Rattle.hp_model.proofs.Words.{Page, granted_at}
use Rattle.hp_mount_door.specs.Door.{GivesBack, by_node}
use Rattle.hp_locked.specs.Doors.{IsDoor, NotedView}
use Rattle.hp_locked.specs.Views.{HasAsked, CoreView, DoorView, IsGiven}

-- a seat that is free entered nothing
pub free_unasked : (v : List Held) → IsFree v → asked_in v ≡ None
free_unasked v free = ap asked_in free

-- a section that was entered, as it is said of doors
pub door_took : (kept : Bool) (v d : DoorView) (w : List Held) (a : Asked) (s : Section) (r : PoolAnswer) → v ≡ d → IsEntered kept v.mine (Some a) w
    → a.section ≡ s → a.answer ≡ r → HasAsked (asked_in w) s r × IsEntered kept d.mine (asked_in w) w
door_took kept v d w a s r view (place, at, is) es er = (
  (place, ap asked_in is ∙ (λ i. Some (record { place = place; section = es i; answer = er i }))),
  subst (λ (t : Option Asked). IsEntered kept d.mine t w) (sym (ap asked_in is))
      (place, (λ k. refl), subst (λ (x : DoorView). w ≡ busy (section_at place a) x.mine ∷ []) view is),
)

-- what went back through a door
module _ (kept : Bool) (x w : List Held) (d : DoorView) (view : record { asked = asked_in x; mine = x } ≡ d) (pages : List Page) (k : ℕ) (old new : CoreView) where
  pub door_gave : (puts : List ℕ) (m : ℕ) (t : Option Asked) → puts ≡ by_node pages → m ≡ k → IsGiven puts m old new t → IsEntered kept x t w
      → GivesBack (λ (c : DoorView) s a (e : DoorView). HasAsked e.asked s a × IsEntered kept c.mine e.asked e.mine) pages k d (record { asked = asked_in w; mine = w })
  door_gave puts m None same falls given is = record {
    some = λ l. absurd (let none = given.1 in let sums = ap sum same in omega (arith, l, none, sums, falls));
    none = λ z. ap (λ (v : List Held). record { asked = asked_in v; mine = v }) is ∙ view;
  }
  door_gave puts m (Some a) same falls given is = record {
    some = λ l. door_took kept (record { asked = asked_in x; mine = x }) d w a (GiveBack (by_node pages) k) (granted_at 0) view is
        (given.1 ∙ (λ i. GiveBack (same i) (falls i))) given.2;
    none = λ z. absurd (let some = given.3 in let sums = ap sum same in omega (arith, some, z, sums, falls));
  }

module _ (history : TableId) (keeps notes : Bool) where
  -- a door that was not used
  pub door_fresh : (id : TableId) (me : List Held × List (ℕ × Unit {0})) (n : NotedView) → (keeps ≡ true → notes ≡ true) → id ≡ history → IsFree me.0
      → me.1 ≡ [] → n.is_entered ≡ false → (notes ≡ true → n.section ≡ None) → IsDoor history keeps notes id me n
  door_fresh id me n fits named free alone unused none = record {
    fits = fits;
    named = named;
    alone = alone;
    free = λ unasked. free;
    entered = unused ∙ ap is_some (sym (free_unasked me.0 free));
    noted = λ k. none (fits k) ∙ sym (free_unasked me.0 free);
  }
