-- A command line with no words after the program's name asks for the usual machine.
use Rattle.std.proofs.Common.{◌≡◌, ◌∷◌, ◌∙◌, ◌≤◌, ℕ, List, [], length, map, true, false, refl, sym, ap, subst, arith, rules}
use Rattle.std.proofs.lemmas.List.{length-map}
use lib.Count.{ones}
use Rattle.clap.proofs.OnLiterals.{clap_on_literals}
use Rattle.clap.specs.Words.{Text}
use Rattle.hp_model.proofs.Words.{start}
use Rattle.hp_words.specs.Asked.{AsksForScript, AsksToServe, Sets}
use Rattle.hp_words.specs.Config.{IsMachineWithin, MachineChoice, chosen, usual}
use Rattle.hp_words.specs.declared.settings.Serving.{Serving}

sets_usual : (c : MachineChoice) → Sets [] c → chosen c ≡ chosen usual
sets_usual c s =
    ap (λ (fs : List ℕ). start fs c.page c.slots) s.frames ∙ ap (λ (p : ℕ). start usual.frames p c.slots) s.page ∙ ap (λ (n : ℕ). start usual.frames usual.page n) s.slots

pub no_words : (words : List Text) (c : MachineChoice) → length words ≤ 1 → AsksForScript words c → chosen c ≡ chosen usual
unfolding clap_on_literals
no_words [] c few a = sets_usual c a.sets
no_words (w ∷ []) c few a = sets_usual c a.sets
no_words (w ∷ v ∷ rest) c few a = absurd (omega (arith, few))

-- they ask for the usual machine
pub usual_asked : (words : List Text) → length words ≤ 1 → AsksForScript words usual
unfolding clap_on_literals
usual_asked [] few = record { right = record { faultless = refl; behind = refl }; script = refl; sets = record { frames = refl; page = refl; slots = refl } }
usual_asked (w ∷ []) few = record { right = record { faultless = refl; behind = refl }; script = refl; sets = record { frames = refl; page = refl; slots = refl } }
usual_asked (w ∷ v ∷ rest) few = absurd (omega (arith, few))

-- and for no server
pub few_serve_not : (words : List Text) (c : MachineChoice) (s : Serving) → length words ≤ 1 → AsksToServe words c s → ⊥
few_serve_not words c s few a = (let both : false ≡ true = sym (usual_asked words few).script ∙ a.serve in cc)

-- which is within the limits
pub usual_fits : IsMachineWithin usual
unfolding ones
usual_fits = record { frames = search rules; page = search rules; slots = search rules }

pub few_texts : {X : Type 0} (text : X → Text) (words : List X) → length words ≤ 1 → length (map text words) ≤ 1
few_texts text words few = subst (λ (n : ℕ). n ≤ 1) (sym (length-map words text)) few
