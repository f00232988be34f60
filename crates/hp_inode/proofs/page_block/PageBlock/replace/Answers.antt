use Rattle.std.proofs.lemmas.Grind.{common_steps}
use Rattle.std.proofs.Common.{rules, ◌≡◌, ℕ, ◌/◌, ◌<◌, ◌^◌, true, eqb, length, get_or, not, refl, sym, ap, ◌∙◌, arith, is_some}
use Rattle.hp_marks.specs.Marks.{marked}
use Rattle.hp_inode.specs.Rows.{has_slot}
use Rattle.hp_inode.proofs.Tables.{bit_there, has_slot_set, mark_is, mark_stays, no_bit, page_in_others, page_in_set, table_set, written_back}
use Rattle.hp_inode.proofs.page_block.PageBlock.replace.Goals as goal
use Rattle.hp_inode.proofs.page_block.PageBlock.replace.Goals.{then-is_none, else-is_none}

pub change_mark-requires-clause-known : goal.change_mark-requires-clause-known
change_mark-requires-clause-known c same =
    let i = c.args.i in
    let rows = c.self.inside.chunks in
    let words = c.self.inside.words.items in
    let new = c.set_mark.new.words in
    let word = get_or new (i / 64) 0 in
    let slot : has_slot rows i ≡ true = rw c.self.view_is c.requires.slot in
    let long : length new ≡ length words = search rules in
    let here : marked new i ≡ is_some c.args.page = c.set_mark.ensures.here ∙ c.is_some.ensures in
    let others : (k : ℕ) → (k ≡ i → ⊥) → marked new k ≡ marked words k = λ k other. c.set_mark.ensures.others k other ∙ ap (λ ws. marked ws k) c.as_mut_slice-words.ensures.value in
    let small : word < 2 ^ 64 = search rules in
    let was = get_or words (i / 64) 0 in
    elim c.if-is_none.branch [
      | then-is_none w ↦
          let on = sym same ∙ w.had-is ∙ w.if-is_none.true in
          mark_stays rows i c.args.page slot words c.self.inside.marks.items new _ c.self.invariant long here others (bit_there new (i / 64) word refl _ refl small)
          (no_bit new (i / 64) word refl _ refl) (c.is_none.ensures ∙ ap not w.if-is_none.true) on ∙ sym on
      | else-is_none w ↦
          let had = w.had-is ∙ ap (λ ws. not (eqb (get_or ws (i / 64) 0) 0)) c.as_mut_slice-words.ensures.value in
          let fits : was < 2 ^ 64 = search rules in
          mark_is rows words c.self.inside.marks.items c.self.invariant (i / 64) c.if-is_none.had (bit_there words (i / 64) was refl _ had fits)
          (no_bit words (i / 64) was refl _ had) ∙ same
    ]

pub invariant_of-self : goal.invariant_of-self
invariant_of-self c =
    let i = c.args.i in
    let rows = c.self.inside.chunks in
    let words = c.self.inside.words.items in
    let new = c.set_mark.new.words in
    let word = get_or new (i / 64) 0 in
    let slot : has_slot rows i ≡ true = rw c.self.view_is c.requires.slot in
    let long : length new ≡ length words = search rules in
    let here : marked new i ≡ is_some c.args.page = c.set_mark.ensures.here ∙ c.is_some.ensures in
    let others : (k : ℕ) → (k ≡ i → ⊥) → marked new k ≡ marked words k = λ k other. c.set_mark.ensures.others k other ∙ ap (λ ws. marked ws k) c.as_mut_slice-words.ensures.value in
    let small : word < 2 ^ 64 = search rules in
    let did = c.change_mark.ensures in
    rw (written_back words new long, c.replace-was.ensures.set)
    (table_set rows i c.args.page slot words c.self.inside.marks.items new _ c.self.invariant long here others (bit_there new (i / 64) word refl _ refl small) (no_bit new (i / 64) word refl _ refl)
    c.change_mark.new.words.items did.len did.here did.others)

pub returns-clause-here : goal.returns-clause-here
returns-clause-here c = rw c.replace-was.ensures.set (page_in_set c.self.inside.chunks c.args.i c.args.page (rw c.self.view_is c.requires.slot))

pub returns-clause-others : goal.returns-clause-others
returns-clause-others c k differs = grind (arith, common_steps, page_in_others)

pub returns-clause-slots : goal.returns-clause-slots
returns-clause-slots c k = rw (c.replace-was.ensures.set, ← c.self.view_is) (has_slot_set c.self.inside.chunks c.args.i c.args.page (rw c.self.view_is c.requires.slot) k)
