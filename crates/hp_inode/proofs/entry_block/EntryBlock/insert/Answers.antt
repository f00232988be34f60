use Rattle.std.proofs.Common.{rules, ℕ, refl, sym, ap, ◌∙◌, ◌≡◌, ◌<◌, ◌*◌, ◌||◌, ◌/◌, ◌%◌, ◌+◌, ◌^◌, min, get_or, length, arith}
use Rattle.hp_model.proofs.Words.{within}
use Rattle.hp_marks.specs.Marks.{marked}
use Rattle.hp_inode.proofs.Alone.{put_in}
use Rattle.hp_inode.proofs.Spread.{spread_entries}
use Rattle.hp_inode.proofs.Tables.{bit_there, mark_there, written_back}
use Rattle.hp_inode.proofs.entry_block.EntryBlock.insert.Goals as goal

pub change_mark-requires-clause-known : goal.change_mark-requires-clause-known
change_mark-requires-clause-known c had =
    let words = c.self.inside.words.items in
    let at = c.args.i / 64 in
    let was = get_or c.as_mut_slice-words.result.now at 0 in
    let fits : was < 2 ^ 64 = search rules in
    mark_there words c.self.inside.marks.items c.self.invariant.none at
    (bit_there words at was (ap (λ ws. get_or ws at 0) (sym c.as_mut_slice-words.ensures.value)) _ refl fits had)

pub invariant_of-self : goal.invariant_of-self
invariant_of-self c =
    let words = c.self.inside.words.items in
    let marks = c.self.inside.marks.items in
    let i = c.args.i in
    let enough : i < 64 * length words = rw c.self.view_is c.requires in
    let long : length c.set_mark.new.words ≡ length words = search rules in
    let did = c.change_mark.ensures in
    let others : (k : ℕ) → (k ≡ i → ⊥) → marked c.set_mark.new.words k ≡ marked words k = λ k other. c.set_mark.ensures.others k other ∙ ap (λ ws. marked ws k) c.as_mut_slice-words.ensures.value in
    let here = put_in (marked words) (marked c.set_mark.new.words) i others c.set_mark.ensures.here in
    let above = put_in (marked marks) (marked c.change_mark.new.words.items) (i / 64) did.others did.here in
    let end : i / 64 + 1 ≡ (i + 1) / 64 + min 1 ((i + 1) % 64) = omega arith in
    rw (written_back words c.set_mark.new.words long)
    (spread_entries words marks c.set_mark.new.words c.change_mark.new.words.items i (i + 1) c.self.invariant (omega (arith, enough)) long did.len here
    (λ k. above k ∙ ap (λ n. marked marks k || within (i / 64) n k) end))
