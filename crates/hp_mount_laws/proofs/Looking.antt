-- Events that ask a file by its name, and end at once.
use Rattle.std.proofs.Common.{◌≡◌, ℕ, false, Some, None, Ok, Err, List, refl, ap, ◌∙◌}
use Rattle.hp_laws.proofs.Variants.{Answer, Refusal, SlotEvent}
use Rattle.hp_model.specs.declared.refusal.Refusal.TheVariants as r
use Rattle.hp_model.proofs.Words.{Answered, Choice, File, Finish, Gives, Mount, Outcome, Plan, Refused, Reply, file_named, refuse, slot_event, with_value}
use Rattle.hp_mount_laws.specs.Alone.{IsDoneAlone}
use Rattle.hp_mount_laws.proofs.Ways.{fresh_choice, is_fresh}

module _ (size slot : ℕ) (m : Mount) (name : List ℕ) (e : SlotEvent) (act : ℕ × File → Plan)
    (is : (c : Choice) → slot_event size slot c (Some m) e ≡ with_value (file_named m name) r.NoSuchFile act) where
  abbrev calm : Choice
  calm = fresh_choice false (Some m)

  ends : (o : Outcome) (reply : Reply) → with_value (file_named m name) r.NoSuchFile act ≡ Finish o → Gives o (Some m) reply (Some m) → IsDoneAlone size slot (Some m) e reply (Some m)
  ends o reply same gives = record { choice = calm; fresh = is_fresh false (Some m); outcome = o; ends = is calm ∙ same; gives = gives }

  -- no file has the name
  pub not_named : file_named m name ≡ None → IsDoneAlone size slot (Some m) e (Err r.NoSuchFile) (Some m)
  not_named none = ends (Refused r.NoSuchFile) (Err r.NoSuchFile) (ap (λ o. with_value o r.NoSuchFile act) none) (refl, refl)

  module _ (f : ℕ × File) (named : file_named m name ≡ Some f) where
    pub is_refused : (why : Refusal) → act f ≡ refuse why → IsDoneAlone size slot (Some m) e (Err why) (Some m)
    is_refused why same = ends (Refused why) (Err why) (ap (λ o. with_value o r.NoSuchFile act) named ∙ same) (refl, refl)

    pub is_answered : (a b : Answer) → act f ≡ Finish (Answered b (Some m)) → a ≡ b → IsDoneAlone size slot (Some m) e (Ok a) (Some m)
    is_answered a b same is = ends (Answered b (Some m)) (Ok a) (ap (λ o. with_value o r.NoSuchFile act) named ∙ same) (ap Ok is, refl)
