use Rattle.std.proofs.Common.{sym, ◌∙◌, ℕ, List, ap}
use Rattle.std.proofs.lemmas.Bool.{false≢true}
use Rattle.hp_model.specs.contracts.bytes.Bytes as Bytes
use Rattle.hp_model.specs.contracts.event.SlotEvent as SlotEvent
use Rattle.hp_model.specs.contracts.step.Sharing as Sharing
use Rattle.hp_model.specs.contracts.step.Reserving as Reserving
use Rattle.hp_model.specs.contracts.step.Intent as Intent
use Rattle.hp_trail.proofs.VariantsSame.{Test, number, numbers, variant, no_field, last_field, field_then, variants, ◌▹◌}
use Rattle.hp_trail.proofs.same.same_slot_event.Goals as goal

abbrev sharing : Test Sharing.enum.D
sharing = variant Sharing.enum tt

abbrev reserving : Test Reserving.enum.D
reserving = variant Reserving.enum tt

abbrev intent : Test Intent.enum.D
intent = variant Intent.enum tt

abbrev bytes_last : Test (List ℕ × Unit {0})
bytes_last = last_field numbers

abbrev number_last : Test (ℕ × Unit {0})
number_last = last_field number

abbrev three_numbers : Test (ℕ × (ℕ × (ℕ × Unit {0})))
three_numbers = field_then number (field_then number number_last)

-- each variant in its place
abbrev slot_event : Test (SlotEvent.enum Bytes.the_row).D
slot_event =
    let mapped = field_then number (field_then number (field_then sharing (last_field reserving))) in
    let at_page = field_then number three_numbers in
    let named_range = field_then numbers (field_then number number_last) in
    variants (SlotEvent.enum Bytes.the_row) (
    bytes_last ▹ bytes_last ▹ no_field ▹ bytes_last ▹ bytes_last ▹ field_then numbers number_last ▹ named_range ▹ named_range ▹ field_then
    numbers three_numbers ▹ no_field ▹ bytes_last ▹ no_field
    ▹ field_then number (field_then number (field_then numbers mapped)) ▹ field_then number mapped ▹ at_page ▹ field_then number
    (field_then number (field_then number (field_then number (last_field intent))))
    ▹ field_then number (field_then number at_page) ▹ field_then number (field_then number
    (field_then number (field_then number (field_then number bytes_last)))) ▹ field_then number number_last ▹ number_last ▹ tt)

pub returns-clause-same : goal.returns-clause-same
returns-clause-same c e = slot_event.same c.args.a.now c.args.b.now (sym c.eq.ensures ∙ e)

pub returns-clause-other : goal.returns-clause-other
returns-clause-other c e same =
    false≢true (sym (sym c.eq.ensures ∙ e) ∙ ap (slot_event.eq c.args.a.now) (sym same) ∙ slot_event.own c.args.a.now)
