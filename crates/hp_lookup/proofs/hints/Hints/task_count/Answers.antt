use Rattle.std.proofs.Common.{ap, ◌∙◌}
use Rattle.hp_lookup.proofs.Words.{Noted, tally_of}
use Rattle.hp_lookup.proofs.hints.Hints.task_count.Goals as goal

pub returns : goal.returns
returns c tasks counts = c.len.ensures tasks (λ q. ap (λ (n : Noted). tally_of n q) c.self.view_is ∙ counts q)
