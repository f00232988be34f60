use Rattle.std.proofs.Common.{Ok, Some, false, true, refl, ap, ◌∙◌, filter_map}
use Rattle.hp_laws.proofs.Variants.{Names, OutOfMemory}
use Rattle.hp_model.proofs.Words.{Answered, File, Mount, Refused}
use Rattle.hp_mount_laws.proofs.Ways.{fresh_choice, is_fresh}
use Rattle.hp_mount.proofs.mount.Mount.ls.Goals as goal

pub returns-in-Ok-clause-done : goal.returns-in-Ok-clause-done
returns-in-Ok-clause-done g c size k =
    let m = c.args.self.now in
    let told = c.in-Ok.ensures.names ∙ ap (λ (x : Mount). filter_map (λ (f : File). f.name) x.files) c.self.view_is in
    record {
      choice = fresh_choice false (Some m);
      fresh = is_fresh false (Some m);
      outcome = Answered (Names (filter_map (λ (f : File). f.name) m.files)) (Some m);
      ends = refl;
      gives = (ap (λ ns. Ok (Names ns)) told, refl);
    }

pub returns-in-Err-clause-done : goal.returns-in-Err-clause-done
returns-in-Err-clause-done g c size k =
    let m = c.args.self.now in
    record {
      choice = fresh_choice true (Some m);
      fresh = is_fresh true (Some m);
      outcome = Refused OutOfMemory;
      ends = refl;
      gives = (refl, refl);
    }
