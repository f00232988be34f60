-- What was read of the options, in the words of their definition.
use Rattle.std.specs.Option.{option_map}
use Rattle.hp_model.specs.files.Options.{Amount as Said, InBytes as Size, Percent as PartOf, Wanted as AllSaid}
use Rattle.hp_options.specs.declared.wanted.Amount.{Amount}
use Rattle.hp_options.specs.declared.wanted.Amount.TheVariants.{InBytes, Percent}
use Rattle.hp_options.specs.declared.wanted.Wanted.{Wanted}

abbrev pub amount_seen : Amount → Said
amount_seen (InBytes n) = Size n
amount_seen (Percent part) = PartOf part.percent

abbrev pub wanted_seen : Wanted → AllSaid
wanted_seen w = record { size = option_map amount_seen w.size; min_size = option_map amount_seen w.min_size; nr_inodes = w.nr_inodes }
