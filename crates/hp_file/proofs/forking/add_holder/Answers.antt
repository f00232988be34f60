use Rattle.hp_file.proofs.Sharing.{once_more}
use Rattle.hp_file.proofs.forking.add_holder.Goals as goal

pub returns-clause-sharing : goal.returns-clause-sharing
returns-clause-sharing g c = once_more c.args.store.now c.share.new.self c.args.number c.requires.held c.requires.some c.share.ensures
