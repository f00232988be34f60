-- An access at a reserved index, and an owner's write into its copy.
use Rattle.std.proofs.Common.{arith}
use Rattle.hp_laws.specs.Laws.{ReservedAccess, OwnerWrites}

pub copy_keeps : OwnerWrites
copy_keeps c m s home i consumed copy e = grind arith

pub reserved_access : ReservedAccess
reserved_access c size m s home i intent = grind arith
