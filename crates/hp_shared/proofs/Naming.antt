-- The list of a slot's names.
use Rattle.std.proofs.Common.{◌≡◌, ℕ, Bool, true, false, cond, None, Some, Ok, Err, List, refl, sym, subst, filter_map}
use Rattle.hp_laws.proofs.Variants.{Answer, Names, SlotEvent}
use Rattle.hp_model.specs.declared.event.SlotEvent.TheVariants.{Ls}
use Rattle.hp_model.specs.declared.refusal.Refusal.TheVariants as r
use Rattle.hp_model.proofs.Words.{Answered, File, Finish, Gives, Goes, Mount, Outcome, Refused, Reply, Slot, has_names, refuse}
use Rattle.hp_mount_laws.specs.Alone.{IsDoneAlone}
use Rattle.hp_mount_laws.proofs.Ways.{fresh_choice, is_fresh}
use Rattle.hp_events.specs.Answered.{Went}

pub went_alone : (size k : ℕ) (old : Slot) (e : SlotEvent) (reply : Reply) (new : Slot) → IsDoneAlone size k old e reply new → Went size k old e reply None new
went_alone size k old e reply new d = (d.choice, d.fresh, subst (λ p. Goes p None old reply new) (sym d.ends) d.gives)

names_given : (m : Mount) (b : Bool) (o : Outcome) (t : Answer) (new : Slot)
    → cond b (refuse r.OutOfMemory) (Finish (Answered (Names (filter_map (λ (f : File). f.name) m.files)) (Some m))) ≡ Finish o → Gives o (Some m) (Ok t) new → has_names t ≡ true
names_given m true (Refused x) t new e g = (let same = g.0 in cc)
names_given m true (Answered a s) t new e g = cc
names_given m false (Refused x) t new e g = (let same = g.0 in cc)
names_given m false (Answered a s) t new e g = (let same = g.0 in cc)

-- what is answered is a list of names
pub ls_names : (size k : ℕ) (m : Mount) (t : Answer) (new : Slot) → IsDoneAlone size k (Some m) Ls (Ok t) new → has_names t ≡ true
ls_names size k m t new d = names_given m d.choice.refused d.outcome t new d.ends d.gives

-- a slot without a mount lists nothing
pub none_listed : (size k : ℕ) → Went size k None Ls (Err r.NoSuchSlot) None None
none_listed size k = (fresh_choice false None, is_fresh false None, (refl, refl))

-- a list may be refused memory
pub list_refused : (size k : ℕ) (m : Mount) → Went size k (Some m) Ls (Err r.OutOfMemory) None (Some m)
list_refused size k m = (fresh_choice true (Some m), is_fresh true (Some m), (refl, refl))

-- what lists names may be refused memory for them
pub list_denied : (size k : ℕ) (s : Slot) (names : List (List ℕ)) → Went size k s Ls (Ok (Names names)) None s → Went size k s Ls (Err r.OutOfMemory) None s
list_denied size k None names w = (let same = w.2.0 in cc)
list_denied size k (Some m) names w = list_refused size k m
