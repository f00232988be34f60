use Rattle.std.proofs.Common.{ap, ◌∙◌}
use Rattle.hp_store.specs.Batch.{Batch}
use Rattle.hp_own_pool.specs.Parcel.{claimed}
use Rattle.hp_own_pool.proofs.Takings.{all_in_order}
use Rattle.hp_locked.proofs.nodes.NodeLocks.add_pages.Goals as goal

pub returns : goal.returns
returns g c =
    let parts = c.into_claims-zero.result in
    let all = all_in_order (claimed parts.0) (claimed parts.1) (claimed parts.2) (claimed parts.3) c.args.parcel c.args.batch.now.pages
    c.add_part_at.new.batch.pages c.add_part_at-2.new.batch.pages c.add_part_at-3.new.batch.pages c.add_part_at-4.new.batch.pages (ap (λ (b : Batch). b.pages) c.requires.empty)
    c.into_claims-zero.ensures.counts c.add_part_at.ensures.pages c.add_part_at-2.ensures.pages c.add_part_at-3.ensures.pages c.add_part_at-4.ensures.pages in
    record { counts = all.0; rising = all.1; turn = c.add_part_at-4.ensures.turn ∙ c.add_part_at-3.ensures.turn ∙ c.add_part_at-2.ensures.turn ∙ c.add_part_at.ensures.turn }
