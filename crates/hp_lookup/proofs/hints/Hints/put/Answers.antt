use Rattle.std.proofs.Common.{subst, refl}
use Rattle.hp_lookup.proofs.Words.{IsCopied, Noted, names_of}
use Rattle.hp_lookup.proofs.hints.Hints.put.Goals as goal

pub returns : goal.returns
returns c =
    subst (λ (n : Noted). IsCopied c.args.task c.args.maps n (record { names = names_of c.self.inside.files.entries; table = c.put.new.self })) c.self.view_is
    (record { names = λ name. refl; maps = c.put.ensures })
