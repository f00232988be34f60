use Rattle.hp_store.proofs.Counted.{none_page}
use Rattle.hp_store.proofs.Free.{none_at}
use Rattle.hp_store.proofs.holdings.Holdings.clear.Goals as goal

pub clear_pages-requires : goal.clear_pages-requires
clear_pages-requires g c = λ n. none_page _ _ c.self.invariant.counted n (none_at _ (rw (← c.self.view_is) at c.requires) n)
