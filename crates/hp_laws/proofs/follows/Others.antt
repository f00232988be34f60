-- A fork and an exit leave the maps of all other tasks as they were: by the footprint.
use Rattle.std.proofs.Common.{◌≡◌, ◌∙◌, subst, ℕ, ◌==◌, true, false, Option, Some, Ok, Err, map, refl, sym, ap, arith}
use Rattle.std.proofs.lemmas.Bool.{and_parts, eqb-false, eqb-true, false_from_ne_true}
use Rattle.hp_model.specs.declared.step.Step.{Step}
use Rattle.hp_model.specs.declared.step.Step.TheVariants as step
use Rattle.hp_model.proofs.Words.{File, Mount, Reply, Slot, Spot, State, file_forked, file_without, is_map, spot, spot_on, swept}
use Rattle.hp_laws.specs.Follows.{IsSame, LeavesWhole}
use Rattle.hp_model.specs.machine.Footprint.{HasFootprint, There, of_others, with_childs, with_maps}
use Rattle.hp_laws.proofs.ending.Unmaps.{spot_passes}
use Rattle.hp_laws.proofs.follows.Slots.{at_rest, exit_to, fork_back, fork_to}
use Rattle.hp_laws.proofs.names.Follows.{FilesFollow, edit_follows, fork_follows, is_not_of, sweep_follows, thin_follows}

there_is : {X : Type 0} (P : X → Type 0) (o : Option X) (x : X) → o ≡ Some x → P x → There o P
there_is P o x e h = subst (λ y. There y P) (sym e) h

module _ (gone : ℕ) where
  -- but for the task's, the maps of the slot are as they were
  abbrev Whole : Slot → Slot → Type 0
  Whole old new = (task number : ℕ) (p : Spot) → (gone == task) ≡ false → spot_on old task number ≡ Some p → There (spot_on new task number) (IsSame p)

  same_whole : (x : Slot) → Whole x x
  same_whole x task number p other found = there_is (IsSame p) (spot_on x task number) p found (refl, refl)

  module _ (m : Mount) (h : File → File) (each : FilesFollow h (is_not_of gone)) where
    not_gone : (task number : ℕ) (p : Spot) → (gone == task) ≡ false → spot m (is_map task number) ≡ Some p → is_not_of gone p.map ≡ true
    not_gone task number p other found = grind (arith, eqb-true, and_parts, spot_passes, false_from_ne_true, eqb-false)

    others_stay : Whole (Some m) (Some (swept (record m { files = map h m.files })))
    others_stay task number p other found =
        let first = (edit_follows m h (is_not_of gone) each).numbers task number p found (not_gone task number p other found) in
        let second = (sweep_follows (record m { files = map h m.files })).numbers task number first.0 first.1 refl in
        there_is (IsSame p) (spot (swept (record m { files = map h m.files })) (is_map task number)) second.0 second.1 (second.3 ∙ first.3, second.4 ∙ first.4)

  without_stays : (m : Mount) → Whole (Some m) (Some (with_maps (of_others gone) m))
  without_stays m = others_stay m (file_without gone) (thin_follows (is_not_of gone))

  forked_stays : (parent : ℕ) (m : Mount) → Whole (Some m) (Some (with_maps (with_childs parent gone) m))
  forked_stays parent m = others_stay m (file_forked parent gone) (fork_follows parent gone)

module _ (s t : State) where
  pub step_whole : (x : Step) (reply : Reply) → HasFootprint s x reply t → LeavesWhole s x t
  step_whole (step.Exit gone) (Ok a) is = exit_to (λ j old new. Whole gone old new) (λ j x. same_whole gone x) s t gone (λ j m. without_stays gone m) a is.0
  step_whole (step.Exit gone) (Err r) e = at_rest (λ j old new. Whole gone old new) (λ j x. same_whole gone x) s t (ap (λ u. u.slots) e)
  step_whole (step.Fork parent child) (Ok a) is =
      fork_to (λ j old new. Whole child old new) (λ j x. same_whole child x) s t child (λ j m. without_stays child m) parent (λ j m. forked_stays child parent m) a is.0
  step_whole (step.Fork parent child) (Err r) is = fork_back (λ j old new. Whole child old new) (λ j x. same_whole child x) s t child (λ j m. without_stays child m) parent r is
  step_whole x reply is = grind arith
