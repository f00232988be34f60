use Rattle.std.proofs.Common.{◌≡◌, ℕ, List, false, refl, subst, sym}
use Rattle.std.specs.Str.{bytes_eq}
use Rattle.hp_lookup.proofs.Words.{Noted, is_noted_as}
use Rattle.hp_lookup.proofs.Hinted.{not_found}
use Rattle.hp_lookup.proofs.hints.Hints.file.Goals as goal

pub returns-in-None : goal.returns-in-None
returns-in-None c =
    subst (λ (n : Noted). is_noted_as c.args.name.now n ≡ false) c.self.view_is
    (not_found (λ (k : List ℕ). k) (bytes_eq c.args.name.now) _ (λ k. refl) c.self.inside.files.entries (sym c.in-None.ensures.value))
