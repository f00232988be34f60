use Rattle.std.proofs.lemmas.Grind.{common_steps}
use Rattle.std.proofs.Common.{◌≤◌, ◌<◌, ◌^◌, None, length, get_or, ap, ◌∙◌, arith, ⊎_elim}
use Rattle.std.proofs.lemmas.Bool.{cases_lt}
use Rattle.hp_inode.specs.Rows.{slot_in}
use Rattle.hp_inode.specs.Chunks.{slot_count}
use Rattle.hp_inode.proofs.Chunks.{all_promised, homes_alike, homes_promised, more_promised, none_promised, page_promised, row_alike, slotted_few}
use Rattle.hp_inode.proofs.chunk_list.ChunkList.make.Goals as goal

pub returns-in_err-extend-clause-pages : goal.returns-in_err-extend-clause-pages
returns-in_err-extend-clause-pages c j k small = grind (arith, common_steps, row_alike)

pub returns-in_err-extend-clause-kept : goal.returns-in_err-extend-clause-kept
returns-in_err-extend-clause-kept c j = grind (arith, common_steps, row_alike)

pub returns-in_err-extend-clause-below : goal.returns-in_err-extend-clause-below
returns-in_err-extend-clause-below c j below = grind (arith, common_steps, row_alike)

pub returns-in_err-make_room-clause-pages : goal.returns-in_err-make_room-clause-pages
returns-in_err-make_room-clause-pages c j k small = grind (arith, common_steps, row_alike)

pub returns-in_err-make_room-clause-kept : goal.returns-in_err-make_room-clause-kept
returns-in_err-make_room-clause-kept c j = grind (arith, common_steps, row_alike)

pub returns-in_err-make_room-clause-below : goal.returns-in_err-make_room-clause-below
returns-in_err-make_room-clause-below c j below = grind (arith, common_steps, row_alike)

pub invariant_of-self-2 : goal.invariant_of-self-2
invariant_of-self-2 c =
    let s = c.self.inside in
    let was = c.self.invariant in
    let mid = c.extend.new.homes.items in
    let new = c.promise.new.homes.items in
    let did = c.promise.ensures in
    let few : length mid ≤ 2 ^ 26 = omega (arith, c.extend.ensures.few, was.given.few, c.requires.few) in
    let are = homes_alike s.homes.items mid s.slots.items c.extend.ensures.same few c.extend.ensures.used was.given in
    record {
      given = rw c.make_room.ensures.items (homes_promised c.made_to-from.result c.args.end mid new did.promised s.slots.items are did.used);
      counted = omega (arith, did.count, c.extend.ensures.slotted, was.counted);
      room = omega (
        arith,
        c.in_ok-make_room.ensures.ok,
        c.min-count.ensures,
        c.len.ensures ∙ c.extend.new.homes.ok.0,
        did.few,
        did.count,
        did.promised.len,
        slotted_few new,
        c.extend.ensures.slotted,
        was.counted,
      );
    }

pub returns-clause-pages : goal.returns-clause-pages
returns-clause-pages c j k small =
    let s = c.self.inside in
    let was = c.self.invariant in
    let mid = c.extend.new.homes.items in
    let did = c.promise.ensures in
    let few : length mid ≤ 2 ^ 26 = omega (arith, c.extend.ensures.few, was.given.few, c.requires.few) in
    let are = homes_alike s.homes.items mid s.slots.items c.extend.ensures.same few c.extend.ensures.used was.given in
    rw c.make_room.ensures.items
    (page_promised c.made_to-from.result c.args.end mid c.promise.new.homes.items did.promised s.slots.items are did.used j k small
    ∙ ap (λ r. get_or r k None) (row_alike s.homes.items mid s.slots.items c.extend.ensures.same j) ∙ ap (λ rows. slot_in rows j k) c.self.view_is)

pub returns-clause-kept : goal.returns-clause-kept
returns-clause-kept c j =
    let s = c.self.inside in
    let was = c.self.invariant in
    let mid = c.extend.new.homes.items in
    let did = c.promise.ensures in
    let few : length mid ≤ 2 ^ 26 = omega (arith, c.extend.ensures.few, was.given.few, c.requires.few) in
    let are = homes_alike s.homes.items mid s.slots.items c.extend.ensures.same few c.extend.ensures.used was.given in
    rw c.make_room.ensures.items
    (omega (
      arith,
      more_promised c.made_to-from.result c.args.end mid c.promise.new.homes.items did.promised s.slots.items are did.used j,
      ap length (row_alike s.homes.items mid s.slots.items c.extend.ensures.same j),
      ap (λ rows. slot_count rows j) c.self.view_is,
    ))

pub returns-clause-made : goal.returns-clause-made
returns-clause-made c j low high =
    let s = c.self.inside in
    let mid = c.extend.new.homes.items in
    let new = c.promise.new.homes.items in
    let from = c.made_to-from.result in
    let did = c.promise.ensures in
    rw c.make_room.ensures.items (⊎_elim
    (λ (early : j < from).
    none_promised from c.args.end mid new did.promised s.slots.items j early ∙ ap length (row_alike s.homes.items mid s.slots.items c.extend.ensures.same j)
    ∙ ap (λ rows. slot_count rows j) c.self.view_is ∙ c.made_to-from.ensures.made j low early)
    (λ (late : from ≤ j). all_promised from c.args.end mid new did.promised s.slots.items j late high)
    (cases_lt j from))

pub returns-clause-below : goal.returns-clause-below
returns-clause-below c j below =
    let s = c.self.inside in
    let mid = c.extend.new.homes.items in
    rw c.make_room.ensures.items
    (none_promised c.made_to-from.result c.args.end mid c.promise.new.homes.items c.promise.ensures.promised s.slots.items j (omega (arith, below, c.made_to-from.ensures.from))
    ∙ ap length (row_alike s.homes.items mid s.slots.items c.extend.ensures.same j) ∙ ap (λ rows. slot_count rows j) c.self.view_is)
