use Rattle.std.proofs.Common.{◌+◌, ◌*◌, slice_index, arith, refl}
use Rattle.hex.proofs.Pairs.{decode_step, decode_done, decode_err}
use Rattle.hp_wire_lines.proofs.HexValues.{pair_bad, pair_good}
use Rattle.hp_wire_lines.proofs.hex_digits.decode.Goals as goal

pub returns-then-both-gt255 : goal.returns-then-both-gt255
returns-then-both-gt255 c =
    let digits = c.args.digits.now in
    let at = 2 * c.bytes.i in
    let both = c.value_of.result * 16 + c.value_of-in-bytes.result in
    let bad = pair_bad (slice_index digits at) (slice_index digits (at + 1)) both at (omega (arith, c.value_of.ensures, c.value_of-in-bytes.ensures)) c.if-both-gt255.true in
    rw (decode_err digits c.bytes.out c.bytes.i bad.0 (omega arith) bad.1 c.bytes.invariant) refl

pub bytes-preserved : goal.bytes-preserved
bytes-preserved c =
    let digits = c.args.digits.now in
    let at = 2 * c.bytes.i in
    let both = c.value_of.result * 16 + c.value_of-in-bytes.result in
    let good = pair_good (slice_index digits at) (slice_index digits (at + 1)) both at (omega (arith, c.value_of.ensures, c.value_of-in-bytes.ensures)) (omega arith) in
    decode_step digits c.bytes.out c.bytes.i both (omega arith) (omega arith) good c.bytes.invariant

pub returns : goal.returns
returns c = rw (decode_done c.args.digits.now c.bytes.out c.bytes.i (omega arith) (omega arith) c.bytes.invariant) (refl, refl)
