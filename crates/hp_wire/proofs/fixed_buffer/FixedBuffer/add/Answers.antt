use Rattle.std.proofs.Common.{◌≡◌, ◌-◌, length, take, ℕ, ◌+◌, List, sym, ap, ◌∙◌, arith, length-append}
use borrow.Rule.Slice.PartMut.{put_mid}
use Rattle.hp_wire.specs.Filled.{buffer_filled}
use Rattle.hp_wire.proofs.FixedFronts.{same_room, still_filled}
use Rattle.hp_wire.proofs.fixed_buffer.FixedBuffer.add.Goals as goal

-- src/fixed_buffer.rt:67:9
pub invariant_of-self : goal.invariant_of-self
invariant_of-self c =
    let old = c.args.self.now in
    let start = old.start.bytes in
    let k = c.end-end.result + c.min-len.result - c.end-end.result in
    let added = c.with-self.ensures in
    let copied : c.copy_from_slice.new.self ≡ take k c.args.bytes.now =
    c.copy_from_slice.ensures.after ∙ ap (λ n. take n c.args.bytes.now) {x = c.min-len.result} {y = k} (omega arith) in
    let room : length old.buffer.now ≡ length start = ap (λ (xs : List ℕ). length xs) old.holds ∙ same_room start old.written.bytes in
    let still = still_filled start old.written.bytes c.args.bytes.now c.copy_from_slice.new.self c.end-end.result k c.end-end.ensures
    (omega (arith, c.end-end.ensures, c.min-len.ensures, room)) copied in
    record {
      holds = ap (λ (xs : List ℕ). put_mid c.end-end.result k xs c.copy_from_slice.new.self) old.holds ∙ still ∙ ap (buffer_filled start) (sym added);
      counted = omega (arith, c.saturating_add-self.ensures, old.counted, ap length added, length-append old.written.bytes c.args.bytes.now);
    }
