use Rattle.std.proofs.Common.{refl}
use Rattle.hp_mount.specs.declared.mount.making.TheConstants.{NAME_BYTES}
use Rattle.hp_mount_laws.proofs.NameBytes.{mark_is}
use Rattle.hp_mount.proofs.mount.making.is_name_byte.Goals as goal

pub returns : goal.returns
returns c = mark_is NAME_BYTES.now c.args.c refl c.ranges.c.fits
