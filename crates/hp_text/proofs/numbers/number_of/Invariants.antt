use Rattle.std.proofs.Common.{◌≡◌, ◌<◌, ◌^◌, drop}
use Rattle.hp_text.proofs.Digits.{number_from}
use Rattle.hp_text.proofs.numbers.number_of.Given as goal

abbrev pub invariant-loop-b : goal.invariant-loop-b
invariant-loop-b l = record { so_far : number_from l.value (drop l.b-index l.digits) ≡ number_from 0 l.digits; fits : l.value < 2 ^ 64 }
