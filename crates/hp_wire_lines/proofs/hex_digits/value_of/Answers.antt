use Rattle.std.proofs.Common.{refl}
use Rattle.hp_wire_lines.specs.declared.hex_digits.TheConstants.{VALUES}
use Rattle.hp_wire_lines.proofs.HexValues.{value_is}
use Rattle.hp_wire_lines.proofs.hex_digits.value_of.Goals as goal

pub returns : goal.returns
returns c = value_is VALUES.now c.args.digit refl c.ranges.digit.fits
