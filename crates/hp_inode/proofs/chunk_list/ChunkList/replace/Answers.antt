use Rattle.std.proofs.lemmas.Grind.{common_steps}
use Rattle.std.proofs.Common.{◌≡◌, ◌+◌, ◌*◌, ◌<◌, None, get_or, ap, ◌∙◌, arith}
use Rattle.std.proofs.lemmas.List.{get_or_read}
use Rattle.hp_inode.specs.Rows.{slot_in}
use Rattle.hp_inode.specs.Chunks.{bare, promised, slot_count}
use Rattle.hp_inode.proofs.Chunks.{few_slots, home_of_page, rows_set, slot_was, slot_within}
use Rattle.hp_inode.proofs.Finding.{none_of}
use Rattle.hp_inode.proofs.chunk_list.ChunkList.replace.Goals as goal

pub touch-requires-clause-own : goal.touch-requires-clause-own
touch-requires-clause-own c off = grind (arith, common_steps, few_slots, home_of_page, none_of)

pub returns-clause-was : goal.returns-clause-was
returns-clause-was c =
    let s = c.self.inside in
    let did = c.touch.ensures in
    let at = c.args.at in
    let k = c.args.k in
    let homes = c.touch.new.homes.items in
    let slots = c.touch.new.slots.items in
    let n = 64 * c.touch.result + k in
    let own : get_or homes at bare < promised = omega (arith, did.home, did.own) in
    let small : k < 64 = omega (arith, c.requires.slot, few_slots s.homes.items s.slots.items at, ap (λ rows. slot_count rows at) c.self.view_is) in
    let slot : n ≡ 64 * get_or homes at bare + k = omega (arith, did.home) in
    get_or_read slots n c.index-was.result.now (slot_within homes slots did.given at k n c.args.page own small slot) c.index-was.ensures None
    ∙ slot_was homes slots did.given at k n c.args.page own small slot ∙ ap (λ rows. slot_in rows at k) (did.rows ∙ c.self.view_is)

pub returns-clause-set : goal.returns-clause-set
returns-clause-set c = grind (arith, common_steps, few_slots, rows_set)
